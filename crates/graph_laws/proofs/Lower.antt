-- Lower bounds on the interval: by circuits, and by the uses of a class over all rows.
use Rattle.std.proofs.Common.{◌≡◌, ℕ, zero, suc, ◌+◌, ◌-◌, ◌*◌, ◌/◌, ◌%◌, ◌<◌, ◌≤◌, cond, eqb, length, ◌∙◌, inl, inr, mod-lt, mul_comm, div-lt_iff_lt-mul, mul-suc, arith}
use Rattle.std.proofs.lemmas.Bool.{cases_lt, cases_Bool}
use Rattle.model.specs.Loop.{Loop, Hardware, total}
use Rattle.model.specs.Schedule.{Schedule, row_uses}
use Rattle.model.specs.Edges.{edges}
use Rattle.model.specs.Minimum.{busy_sum, rounded_up, own_minimum, greatest}
use Rattle.model.specs.GraphLaws.{NoSmallerInterval, ClassExcludes}
use Rattle.graph_laws.proofs.Total.{total_le, total_same, total_zero, total_swap}
use Rattle.graph_laws.proofs.Pigeons.{total_hit, total_ones}
use Rattle.graph_laws.proofs.Around.{none_above}

pub total_const : (c n : ℕ) → total (λ _. c) n ≡ c * n
total_const c zero = omega arith
total_const c (suc n) = omega (arith, total_const c n, mul-suc c n)

module _ (ops : Loop) (hw : Hardware) (w : Schedule) (positive : 0 < w.interval) where
  -- an operation's uses over all rows are BUSY
  all_uses : (j : ℕ) → total (λ r. total (λ b. cond (eqb ((w.time j + b) % w.interval) r) 1 0) (hw.busy j)) w.interval ≡ hw.busy j
  all_uses j =
      total_swap (λ r b. cond (eqb ((w.time j + b) % w.interval) r) 1 0) w.interval (hw.busy j) ∙
      total_same _ (λ _. 1) (hw.busy j) (λ b _. total_hit ((w.time j + b) % w.interval) w.interval (mod-lt _ positive)) ∙
      total_ones (hw.busy j)

  of_class : (u j : ℕ) →
      total (λ r. cond (eqb (hw.class j) u) (total (λ b. cond (eqb ((w.time j + b) % w.interval) r) 1 0) (hw.busy j)) 0) w.interval ≡
      cond (eqb (hw.class j) u) (hw.busy j) 0
  of_class u j = elim (cases_Bool (eqb (hw.class j) u)) [ inl e ↦ rw e (all_uses j) | inr e ↦ rw e (total_zero w.interval) ]

  class_uses : (u : ℕ) → total (row_uses ops hw w u) w.interval ≡ busy_sum hw (length ops) u
  class_uses u =
      total_swap (λ r j. cond (eqb (hw.class j) u) (total (λ b. cond (eqb ((w.time j + b) % w.interval) r) 1 0) (hw.busy j)) 0) w.interval (length ops) ∙
      total_same _ _ (length ops) (λ j _. of_class u j)

  pub class_fits : (u : ℕ) → ((r : ℕ) → r < w.interval → row_uses ops hw w u r ≤ hw.units u) → busy_sum hw (length ops) u ≤ hw.units u * w.interval
  class_fits u fit = omega (
    arith,
    class_uses u,
    total_le (row_uses ops hw w u) (λ _. hw.units u) w.interval fit,
    total_const (hw.units u) w.interval,
  )

-- a / b, rounded up, is the least m with a ≤ b * m
pub rounded_least : (a b m : ℕ) → 0 < b → a ≤ b * m → rounded_up a b ≤ m
rounded_least a b m pos h =
    let l : (a + (b - 1)) / b < suc m = (div-lt_iff_lt-mul pos).1 (omega (arith, mul_comm b m, mul-suc b m, mul_comm b (suc m))) in
    omega arith

pub greatest_least : (f : ℕ → ℕ) (n m : ℕ) → ((i : ℕ) → i < n → f i ≤ m) → greatest f n ≤ m
greatest_least f zero m h = omega arith
greatest_least f (suc n) m h = omega (arith, greatest_least f n m (λ i l. h i (omega arith)), h n (omega arith))

pub no_smaller_interval : NoSmallerInterval
no_smaller_interval ops hw classes k some_units min w s =
    let r = min.least.2 w.interval s.positive (none_above (edges ops hw) w.time w.interval s.edges_met) in
    let c = greatest_least (own_minimum hw (length ops)) classes w.interval
    (λ u l. rounded_least (busy_sum hw (length ops) u) (hw.units u) w.interval (some_units u l) (class_fits ops hw w s.positive u (s.rows_fit u))) in
    omega (arith, min.greater)

pub class_excludes : ClassExcludes
class_excludes ops hw classes k u c w positive fit = elim (cases_lt w.interval k) [
  | inl l ↦ absurd (omega (arith, c.too_much w.interval l, class_fits ops hw w positive u fit))
  | inr g ↦ g
]
