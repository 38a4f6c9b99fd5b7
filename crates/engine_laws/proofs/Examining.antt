-- The questions by the tables are the machine's.
use Rattle.std.proofs.Common.{◌≡◌, ℕ, zero, suc, ◌+◌, ◌-◌, ◌/◌, ◌^◌, ◌<◌, ◌≤◌, Bool, true, false, cond, ◌&&◌, eqb, ltb, leb, List, [], ◌∷◌, length, get_or, set, None, sym, refl, ap, ◌∙◌, ap₂, inl, inr, arith}
use Rattle.std.proofs.lemmas.List.{get_or-set_same, get_or-set_other}
use Rattle.std.proofs.lemmas.Bool.{cases_eq, eq-eqb, ne_eqb, le-ltb, ltb-true}
use Rattle.model.specs.declared.Status.{Status}
use Rattle.model.specs.declared.Status.TheVariants.{Never, Waits}
use Rattle.model.specs.declared.Question.TheVariants.{UnitFree, OperandsLanded, IterationRuns, CellInMemory, ResultFree}
use Rattle.model.specs.Loop.{operands, makes}
use Rattle.model.specs.Issues.{Source, constant, register, Slot, iteration_in}
use Rattle.model.specs.Driving.{Machine, Examination, ask, all_below, all_of, put, unit_free, readable, operands_landed, cell_in_memory, result_free, iteration_runs, reserved, examine}
use Rattle.engine_laws.proofs.Below.{all_below_each}
use Rattle.engine_laws.specs.Parts.{status_after, taken_after}
use Rattle.engine_laws.specs.Tracks.{Tracks, use_for, unit_free_by, readable_by, landed_by, cell_by, free_by, verdict, verdict_by, judged}

all_below_same : (p q : ℕ → Bool) (n : ℕ) → ((b : ℕ) → b < n → p b ≡ q b) → all_below p n ≡ all_below q n
all_below_same p q zero same = refl
all_below_same p q (suc n) same = ap₂ ◌&&◌ (all_below_same p q n (λ b h. same b (omega arith))) (same n (omega arith))

all_of_same : {A : Type 0} (p q : A → Bool) → ((a : A) → p a ≡ q a) → (xs : List A) → all_of p xs ≡ all_of q xs
all_of_same p q same [] = refl
all_of_same p q same (x ∷ xs) = ap₂ ◌&&◌ (same x) (all_of_same p q same xs)

asked : (a b c d e : Bool) (n : ℕ) (rest : Examination) →
    ask UnitFree n a (ask OperandsLanded n b (ask IterationRuns n c (ask CellInMemory n d (ask ResultFree n e rest)))) ≡
    judged (verdict a b c d e) n rest
asked false b c d e n rest = refl
asked true false c d e n rest = refl
asked true true false d e n rest = refl
asked true true true false e n rest = refl
asked true true true true false n rest = refl
asked true true true true true n rest = refl

module _ {V : Type 0} (c : ℕ) (status : List Status) (taken : ℕ → ℕ → ℕ) (m : Machine V) (h : Tracks c status taken m.status m.taken) where
  free_same : (units : ℕ → ℕ) (slot : Slot) → slot.class < 8 → slot.busy ≤ 8 →
      unit_free units c slot m ≡ unit_free_by taken (units slot.class) c slot.class slot.busy
  free_same units slot few short =
      all_below_same _ _ slot.busy (λ b l. ap (λ x. ltb x (units slot.class)) (sym (h.units slot.class (c + b) few (omega arith) (omega arith))))

  readable_same : (s : Source) → readable m s ≡ readable_by status s
  readable_same (constant z) = refl
  readable_same (register r) = rw (h.statuses r) refl

  pub examined_one : (units : ℕ → ℕ) (k trips n cells p : ℕ) (slot : Slot) (slots : List Slot) →
      c / k ≡ p → length m.memory ≡ cells → slot.class < 8 → slot.busy ≤ 8 →
      examine units k trips c n (slot ∷ slots) m ≡
      judged (verdict_by status taken units trips cells p c slot) n (examine units k trips c (suc n) slots (reserved c slot m))
  unfolding examine iteration_in
  examined_one units k trips n cells p slot slots pass whole few short =
      asked (unit_free units c slot m) (operands_landed slot m) (iteration_runs (c / k) trips slot) (cell_in_memory (c / k - slot.stage) slot m) (result_free slot m) n
      (examine units k trips c (suc n) slots (reserved c slot m)) ∙
      rw (free_same units slot few short, all_of_same _ _ readable_same (operands slot.operation), pass, whole, h.statuses slot.target) refl

-- The status table after a slot.
pub status_tracked : (status : List Status) (s : ℕ → Status) (slot : Slot) → ((r : ℕ) → get_or status r Never ≡ s r) → slot.target < length status →
    (r : ℕ) → get_or (cond (makes slot.operation) (set status slot.target Waits) status) r Never ≡ status_after slot s r
status_tracked status s slot h within r = go (makes slot.operation)
  where
    go : (b : Bool) → get_or (cond b (set status slot.target Waits) status) r Never ≡ cond b (put slot.target Waits s) s r
    go true = elim (cases_eq r slot.target) [
      | inl e ↦ rw (e, eq-eqb slot.target slot.target refl) (get_or-set_same status slot.target Waits Never within)
      | inr z ↦ rw (ne_eqb r slot.target z) (get_or-set_other status slot.target r Waits Never z ∙ h r)
    ]
    go false = h r

-- Both tables after a slot.
pub slot_tracked : (c : ℕ) (status : List Status) (taken taken' : ℕ → ℕ → ℕ) (s : ℕ → Status) (t : ℕ → ℕ → ℕ) (slot : Slot) →
    Tracks c status taken s t → slot.target < length status → slot.busy ≤ 8 →
    ((u y : ℕ) → u < 8 → c ≤ y → y < c + 8 → taken' u y ≡ taken u y + use_for u y c slot.class slot.busy) →
    Tracks c (cond (makes slot.operation) (set status slot.target Waits) status) taken' (status_after slot s) (taken_after c slot t)
slot_tracked c status taken taken' s t slot h within short took = record {
  statuses = status_tracked status s slot h.statuses within;
  units = λ u y few from to. took u y few from to ∙ ap (λ x. x + use_for u y c slot.class slot.busy) (h.units u y few from to);
  beyond = λ u y far.
      let none : t u y ≡ 0 = h.beyond u y far in
      let late : ltb y (c + slot.busy) ≡ false = le-ltb _ _ (omega arith) in
      rw (none, late) (go (eqb slot.class u) (leb c y));
}
  where
    go : (a b : Bool) → 0 + cond (a && (b && false)) 1 0 ≡ 0
    go true true = refl
    go true false = refl
    go false b = refl

-- No question is answered no: then a unit is free in each cycle.
pub verdict_unit : (a b c d e : Bool) → verdict a b c d e ≡ None → a ≡ true
verdict_unit true b c d e h = refl
verdict_unit false b c d e h = let z : ◌≡◌ {A = ℕ} 0 1 = cc in absurd (omega arith)

pub room_left : (status : List Status) (taken : ℕ → ℕ → ℕ) (units : ℕ → ℕ) (trips cells p c : ℕ) (slot : Slot) →
    None ≡ verdict_by status taken units trips cells p c slot → units slot.class < 2 ^ 64 →
    (b : ℕ) → b < slot.busy → taken slot.class (c + b) < 2 ^ 64 - 1
room_left status taken units trips cells p c slot h fits b below =
    let free = verdict_unit (unit_free_by taken (units slot.class) c slot.class slot.busy) (landed_by status slot) (iteration_runs p trips slot) (cell_by cells (p - slot.stage) slot) (free_by status slot) (sym h) in
    let here = ltb-true _ _ (all_below_each (λ x. ltb (taken slot.class (c + x)) (units slot.class)) slot.busy b free below) in
    omega arith
