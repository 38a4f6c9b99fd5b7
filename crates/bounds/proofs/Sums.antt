-- The sum of BUSY over a class, as the code and as the definition of the minimum have it.
use Rattle.std.proofs.Common.{◌≡◌, ℕ, zero, suc, ◌+◌, ◌/◌, ◌%◌, ◌<◌, ◌≤◌, cond, eqb, List, [], ◌∷◌, filter, length, not, refl, sym, ◌∙◌, ap, get_or, add-mul, inl, inr, min, arith}
use Rattle.std.proofs.Math.Nat.{div-eq_of_lt-le}
use Rattle.std.proofs.lemmas.Bool.{cases_Bool}
use Rattle.std.proofs.lemmas.List.Sums.{sum_by-cons}
use Rattle.std.proofs.lemmas.List.Filters.{length-filter_both}
use Rattle.std.proofs.lemmas.Grind.{div_ceil_times}
use Rattle.std.proofs.ByRecursion.{All-weaker, all_kept_by, sum_by_le}
use Rattle.model.specs.declared.Timing.{Timing}
use Rattle.model.specs.Loop.{total}
use Rattle.model.specs.Limits.{timing, hardware, TimingFits, MachineFits}
use Rattle.model.specs.Minimum.{own_minimum, rounded_up}
use Rattle.graph_laws.proofs.Top.{units_at}
use Rattle.bounds.specs.Answers.{class_busy}

total_first : (f : ℕ → ℕ) (n : ℕ) → total f (suc n) ≡ f 0 + total (λ i. f (suc i)) n
total_first f zero = omega arith
total_first f (suc n) = omega (arith, total_first f n)

abbrev own : List Timing → ℕ → ℕ → ℕ
own us u j = cond (eqb (timing us j).class u) (timing us j).busy 0

same_sum : (us : List Timing) (u : ℕ) → class_busy us u ≡ total (own us u) (length us)
same_sum [] u = refl
same_sum (t ∷ us) u = elim (cases_Bool (eqb t.class u)) [
  | inl e ↦ rw e (omega (arith, sum_by-cons (λ x. x.busy) t (filter (λ x. eqb x.class u) us), same_sum us u, total_first (own (t ∷ us) u) (length us), ap (λ b. cond b t.busy 0) e))
  | inr e ↦ rw e (omega (arith, same_sum us u, total_first (own (t ∷ us) u) (length us), ap (λ b. cond b t.busy 0) e))
]

pub few_uses : (us : List Timing) (units : List ℕ) (u : ℕ) → length us ≤ 32 → MachineFits us units → class_busy us u ≤ 256
few_uses us units u few fits =
    let short = All-weaker (TimingFits (length units)) (λ t. t.busy ≤ 8) (λ t f. f.short) us fits.each in
    let ts : List Timing = filter (λ t. eqb t.class u) us in
    omega (arith, sum_by_le (λ t. t.busy) 8 (filter (λ t. eqb t.class u) us) (all_kept_by (λ t. eqb t.class u) (λ t. t.busy ≤ 8) us short), length-filter_both (λ t. eqb t.class u) (λ t. not (eqb t.class u)) (λ t. refl) us)

rounded : (a b : ℕ) → 0 < b → a / b + min 1 (a % b) ≡ rounded_up a b
rounded a b pos =
    let c = div_ceil_times a b pos in
    sym (div-eq_of_lt-le b (omega (arith, c.1)) (omega (arith, c.0, add-mul (a / b + min 1 (a % b)) 1 b)))

pub own_is : (us : List Timing) (units : List ℕ) (u : ℕ) → MachineFits us units → u < length units →
    class_busy us u / get_or units u 0 + min 1 (class_busy us u % get_or units u 0) ≡ own_minimum (hardware us units) (length us) u
own_is us units u fits l = rounded (class_busy us u) (get_or units u 0) (units_at us units fits u l).0 ∙ ap (λ a. rounded_up a (get_or units u 0)) (same_sum us u)
