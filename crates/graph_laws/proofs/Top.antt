-- The minimum from its two parts.
use Rattle.std.proofs.Common.{◌≡◌, ℕ, ◌+◌, ◌*◌, ◌<◌, ◌≤◌, cond, eqb, List, length, get_or, refl, ap, inl, inr, div-lt_iff_lt-mul, add-one, arith}
use Rattle.std.proofs.ByRecursion.{All-get_or}
use Rattle.std.proofs.lemmas.Bool.{cases_lt, eq-eqb, ne_eqb}
use Rattle.model.specs.declared.Edge.{Edge}
use Rattle.model.specs.declared.Timing.{Timing}
use Rattle.model.specs.Loop.{Hardware}
use Rattle.model.specs.Limits.{timing, hardware, TimingFits, MachineFits}
use Rattle.model.specs.Minimum.{RecurrenceMinimum, IsMinimum, ClassWitness, rounded_up, own_minimum, resource_minimum, busy_sum}
use Rattle.graph_laws.specs.Trails.{Leads}
use Rattle.graph_laws.proofs.Total.{total_longer}
use Rattle.graph_laws.proofs.Lower.{rounded_least}
use Rattle.graph_laws.proofs.Sums.{greatest_above}

pub busy_yes : (hw : Hardware) (j u : ℕ) → hw.class j ≡ u → busy_sum hw (j + 1) u ≡ busy_sum hw j u + hw.busy j
busy_yes hw j u e = rw (add-one, eq-eqb _ _ e)

pub busy_no : (hw : Hardware) (j u : ℕ) → (hw.class j ≡ u → ⊥) → busy_sum hw (j + 1) u ≡ busy_sum hw j u
busy_no hw j u n = rw (add-one, ne_eqb _ _ n) (omega arith)

rounded_some : (a b : ℕ) → 0 < b → 1 ≤ a → 1 ≤ rounded_up a b
rounded_some a b pos some = elim (cases_lt (rounded_up a b) 1) [
  | inl l ↦ absurd (omega (arith, (div-lt_iff_lt-mul pos).0 l))
  | inr g ↦ g
]

pub timing_at : (us : List Timing) (units : List ℕ) → MachineFits us units → (j : ℕ) → j < length us → TimingFits (length units) (timing us j)
timing_at us units fits j l = All-get_or (TimingFits (length units)) us j _ l fits.each

pub units_at : (us : List Timing) (units : List ℕ) → MachineFits us units → (u : ℕ) → u < length units → (1 ≤ get_or units u 0) × (get_or units u 0 ≤ 8)
units_at us units fits u l = All-get_or (λ c. (1 ≤ c) × (c ≤ 8)) units u 0 l fits.counts

module _ (us : List Timing) (units : List ℕ) (fits : MachineFits us units) (k u : ℕ)
    (leads : Leads (own_minimum (hardware us units) (length us)) (length units) k u) where
  -- the first operation's class has a use
  pub some_resource : 0 < length us → 0 < k
  some_resource some = elim (cases_lt 0 k) [
    | inl l ↦ l
    | inr g ↦
        let v : ℕ = (timing us 0).class in
        let inside = (timing_at us units fits 0 some).class in
        let none : own_minimum (hardware us units) (length us) v ≤ 0 = omega (arith, greatest_above (own_minimum (hardware us units) (length us)) (length units) v inside, leads.0) in
        absurd (omega (arith, rounded_some (busy_sum (hardware us units) (length us) v) (get_or units v 0) (units_at us units fits v inside).0 used))
  ]
    where
      used : 1 ≤ busy_sum (hardware us units) (length us) (timing us 0).class
      used = omega (
        arith,
        total_longer (λ j. cond (eqb (timing us j).class (timing us 0).class) (timing us j).busy 0) 1 (length us) some,
        ap (λ b. cond b (timing us 0).busy 0) (eq-eqb (timing us 0).class (timing us 0).class refl),
        (timing_at us units fits 0 some).some,
      )

  module _ (es : List Edge) (m : ℕ) (least : RecurrenceMinimum es m) where
    pub class_minimum : m ≤ k → IsMinimum es (hardware us units) (length us) (length units) k
    class_minimum h = record { recurrence = m; least = least; greater = omega (arith, leads.0) }

    pub circuit_minimum : k < m → IsMinimum es (hardware us units) (length us) (length units) m
    circuit_minimum h = record { recurrence = m; least = least; greater = omega (arith, leads.0) }

  pub class_named : 0 < length us → ClassWitness (hardware us units) (length us) (length units) k u
  class_named some =
      let a = leads.1 (some_resource some) in
      record {
        is_class = a.0;
        exact = a.1;
        lowest = λ v l e. omega (arith, a.2 v l, e);
        too_much = λ m l. elim (cases_lt (get_or units u 0 * m) (busy_sum (hardware us units) (length us) u)) [
          | inl y ↦ y
          | inr g ↦ absurd (omega (arith, rounded_least (busy_sum (hardware us units) (length us) u) (get_or units u 0) m (units_at us units fits u a.0).0 g, a.1))
        ];
      }

  pub resource_below : (m : ℕ) → k < m → resource_minimum (hardware us units) (length us) (length units) < m
  resource_below m h = omega (arith, leads.0)
