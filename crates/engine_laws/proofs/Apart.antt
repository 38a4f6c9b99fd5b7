-- A row's issue is that of its parts.
use Rattle.std.proofs.Common.{◌≡◌, ℕ, zero, suc, ◌+◌, ◌-◌, ◌/◌, ◌<◌, ◌≤◌, List, [], ◌∷◌, map, Some, None, Option, refl, ap, ◌∙◌, add-one, arith}
use Rattle.model.specs.Domains.{Domain}
use Rattle.model.specs.Issues.{Slot, iteration_in}
use Rattle.model.specs.Driving.{Machine, issue, reserved, issue_all}
use Rattle.model.specs.Codes.{gathered, with_some}
use Rattle.engine_laws.specs.Parts.{statuses, takens, waitings, memories, turned}

module _ {V : Type 0} (dom : Domain V) (k c : ℕ) (seen : Machine V) where
  abbrev pub in_parts : List Slot → Machine V → Machine V
  in_parts slots m = record {
    memory = memories dom seen.values seen.memory (c / k) slots m.memory;
    values = m.values;
    waiting = waitings dom seen.values seen.memory (c / k) c slots m.waiting;
    status = statuses slots m.status;
    taken = takens c slots m.taken;
  }

  pub issued_in_parts : (slots : List Slot) (m : Machine V) → issue_all dom k c slots seen m ≡ in_parts slots m
  unfolding issue_all memories waitings statuses takens issue reserved iteration_in
  issued_in_parts [] m = refl
  issued_in_parts (slot ∷ slots) m = issued_in_parts slots (issue dom k c slot seen m)

module _ {A B : Type 0} (g : A → B) (f : ℕ → Option A) where
  one : (o : Option A) (rest : List A) → map g (with_some o rest) ≡ with_some (turned g o) (map g rest)
  one None rest = refl
  one (Some a) rest = refl

  pub gathered_map : (from n : ℕ) → map g (gathered f from n) ≡ gathered (λ x. turned g (f x)) from n
  unfolding gathered
  gathered_map from zero = refl
  gathered_map from (suc n) = one (f from) (gathered f (suc from) n) ∙ ap (with_some (turned g (f from))) (gathered_map (suc from) n)

-- The places from `at` on: the first, and those behind it; or none.
module _ {A : Type 0} (f : ℕ → Option A) where
  pub gathered_first : (at to : ℕ) → at < to → gathered f at (to - at) ≡ with_some (f at) (gathered f (at + 1) (to - (at + 1)))
  unfolding gathered
  gathered_first at to h =
      let e : to - at ≡ suc (to - (at + 1)) = omega arith in
      rw (e, add-one) refl

  pub gathered_end : (at to : ℕ) → to ≤ at → gathered f at (to - at) ≡ []
  unfolding gathered
  gathered_end at to h = let e : to - at ≡ 0 = omega arith in rw e refl

  pub from_none : (end at : ℕ) → at < end → f at ≡ None → gathered f at (end - at) ≡ gathered f (at + 1) (end - (at + 1))
  from_none end at h e = gathered_first at end h ∙ ap (λ o. with_some o (gathered f (at + 1) (end - (at + 1)))) e

  pub from_some : (end at : ℕ) (a : A) → at < end → f at ≡ Some a → gathered f at (end - at) ≡ a ∷ gathered f (at + 1) (end - (at + 1))
  from_some end at a h e = gathered_first at end h ∙ ap (λ o. with_some o (gathered f (at + 1) (end - (at + 1)))) e
