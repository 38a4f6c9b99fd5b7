-- What the rows of a pass say, passes that say the same, and that they say what issues.
use Rattle.std.proofs.Common.{◌≡◌, ℕ, zero, suc, ◌+◌, ◌-◌, ◌/◌, ◌%◌, ◌<◌, ◌≤◌, true, cond, leb, List, [], ◌∷◌, ◌++◌, map, length, Option, refl, ap, ◌∙◌, ap₂, inl, inr, arith}
use Rattle.std.proofs.lemmas.Bool.{cases_eq, cases_Bool, leb-true, le-leb, lt-ltb}
use Rattle.model.specs.declared.Operator.TheVariants.{Plus, Minus, Times}
use Rattle.model.specs.declared.Part.{Part}
use Rattle.model.specs.declared.Timing.{Timing}
use Rattle.model.specs.Loop.{Loop, Operand, literal, variable, Operation, load, store, binary, move, op, EachOperand, on_operands, makes, Named, Hardware}
use Rattle.model.specs.Edges.{each}
use Rattle.model.specs.Schedule.{Schedule, stage}
use Rattle.model.specs.Soundness.{code_of}
use Rattle.model.specs.Schemes.{Meaning, Lawful}
use Rattle.model.specs.Issues.{Source, register, Slot, issues_in, issues, iteration_in, iteration_of, source, variable_number, home_of, slot_of, slots, issues_at}
use Rattle.model.specs.Codes.{CodeSource, CodeSlot, source_in, target_in, slot_in}
use Rattle.model.specs.Listing.{operation_by, left_of, right_of, stride_written, offset_written, said, distance, operand_in, operation_in, result_in, slot_in_pass, row_of}
use Rattle.model.specs.ListingLaws.{ByCode}
use Rattle.pipelining.proofs.Effects.{each_operand, both_operands}
use Rattle.pipelining.proofs.Issue.{issued}
use Rattle.listing_laws.proofs.Each.{each_same, map_each}

on_same : {A B : Type 0} (f g : A → B) (o : Operation A) → EachOperand (λ a. f a ≡ g a) o → on_operands f o ≡ on_operands g o
on_same f g (load s a) h = refl
on_same f g (store x s a) h = ap (λ z. store z s a) h
on_same f g (binary c x y) h = ap₂ (binary c) h.0 h.1
on_same f g (move x) h = ap move h

on_on : {A B C : Type 0} (f : B → C) (g : A → B) (h : A → C) (o : Operation A) → EachOperand (λ a. f (g a) ≡ h a) o →
    on_operands f (on_operands g o) ≡ on_operands h o
on_on f g h (load s a) e = refl
on_on f g h (store x s a) e = ap (λ z. store z s a) e
on_on f g h (binary c x y) e = ap₂ (binary c) e.0 e.1
on_on f g h (move x) e = ap move e

code_on : {A B : Type 0} (f : A → B) (o : Operation A) → code_of (on_operands f o) ≡ code_of o
code_on f (load s a) = refl
code_on f (store x s a) = refl
code_on f (binary Plus x y) = refl
code_on f (binary Minus x y) = refl
code_on f (binary Times x y) = refl
code_on f (move x) = refl

-- A slot says its operation.
says : (o : Operation CodeSource) → operation_by (code_of o) (left_of o) (right_of o) (stride_written o) (offset_written o) ≡ o
says (load s a) = refl
says (store x s a) = refl
says (binary Plus x y) = refl
says (binary Minus x y) = refl
says (binary Times x y) = refl
says (move x) = refl

abbrev code_slot_with : ℕ → Operation CodeSource → Option ℕ → CodeSlot
code_slot_with s o r = record { operation = o; stage = s; result = r }

abbrev slot_parts : ℕ → ℕ → ℕ → ℕ → Operation Source → ℕ → Slot
slot_parts s l c b o t = record { operation = o; stage = s; target = t; latency = l; class = c; busy = b }

module _ (ops : Loop) (w : Schedule) (name : ℕ → ℕ → ℕ → ℕ) (turns trips : ℕ) where
  abbrev pub code_slot : ℕ → ℕ → CodeSlot
  code_slot p j = record { operation = operation_in ops w name turns p j; stage = stage w j; result = result_in ops w name turns p j }

  -- What row r of pass p says.
  unfoldable pub code_row : ℕ → ℕ → List CodeSlot
  code_row p r = each (λ j. cond (issues_in w trips j p r) (code_slot p j ∷ []) []) (length ops)

  one_said : (part : Part) (q p r j : ℕ) →
      map said (cond (issues_in w trips j p r) (slot_in_pass ops w name turns part q p j ∷ []) []) ≡ cond (issues_in w trips j p r) (code_slot p j ∷ []) []
  unfolding slot_in_pass
  one_said part q p r j = elim (cases_Bool (issues_in w trips j p r)) [
    | inl e ↦ rw e (ap (λ o. code_slot_with (stage w j) o (result_in ops w name turns p j) ∷ []) (says (operation_in ops w name turns p j)))
    | inr e ↦ rw e
  ]

  pub row_said : (part : Part) (q p r : ℕ) → map said (row_of ops w name turns trips part q p r) ≡ code_row p r
  unfolding row_of code_row
  row_said part q p r = map_each said _ (length ops) ∙ each_same _ _ (length ops) (λ j _. one_said part q p r j)

-- Behind `head` passes every stage has begun and reaches back to iteration 0 or later; and names reach so far.
pub record Reaches (ops : Loop) (w : Schedule) (head : ℕ) : Type 0 where
  pub far : head ≤ 14
  pub stages_in : (j : ℕ) → j < length ops → stage w j ≤ head
  pub operands_in : (j : ℕ) → j < length ops → EachOperand (λ a. stage w j + distance a ≤ head) (op ops j)

-- Two passes behind the head, within the trips and in the same turn, say the same.
module _ (ops : Loop) (w : Schedule) (name : ℕ → ℕ → ℕ → ℕ) (turns trips head : ℕ) (reaches : Reaches ops w head)
    (p q : ℕ) (hp : head ≤ p) (lp : p < trips) (hq : head ≤ q) (lq : q < trips) (turn : p % turns ≡ q % turns) where
  source_alike : (s : ℕ) (a : Operand) → s + distance a ≤ head → operand_in ops w name turns p s a ≡ operand_in ops w name turns q s a
  source_alike s (literal z) h = refl
  source_alike s (variable v d) h = rw (le-leb d (p - s) (omega arith), le-leb d (q - s) (omega arith), turn)

  slot_alike : (j : ℕ) → j < length ops → code_slot ops w name turns trips p j ≡ code_slot ops w name turns trips q j
  slot_alike j hj = ap₂ (code_slot_with (stage w j))
      (on_same _ _ (op ops j) (each_operand _ _ (source_alike (stage w j)) (op ops j) (reaches.operands_in j hj)))
      (rw turn)

  issues_alike : (j r : ℕ) → j < length ops → issues_in w trips j p r ≡ issues_in w trips j q r
  unfolding issues_in
  issues_alike j r hj =
      let h = reaches.stages_in j hj in
      rw (le-leb (stage w j) p (omega arith), le-leb (stage w j) q (omega arith), lt-ltb (p - stage w j) trips (omega arith), lt-ltb (q - stage w j) trips (omega arith))

  pub row_alike : (r : ℕ) → code_row ops w name turns trips p r ≡ code_row ops w name turns trips q r
  unfolding code_row
  row_alike r = each_same _ _ (length ops) (λ j hj. ap₂ (λ b s. cond b (s ∷ []) []) (issues_alike j r hj) (slot_alike j hj))

-- A definer's number is below the numbers of those behind it.
number_below : (ops : Loop) (j n : ℕ) → j < n → makes (op ops j) ≡ true → variable_number ops j < variable_number ops n
number_below ops j zero h k = absurd (omega arith)
number_below ops j (suc n) h k = elim (cases_eq j n) [
  | inl e ↦ rw (← e) (rw k (omega arith))
  | inr z ↦ omega (arith, number_below ops j n (omega arith) k)
]

-- In cycle c the names of its pass lead to the registers of what issues.
module _ (ops : Loop) (hw : Hardware) (w : Schedule) (scheme : Meaning) (trips head : ℕ) (timings : List Timing) (lawful : Lawful scheme)
    (variables : scheme.variables ≡ variable_number ops (length ops)) (by_code : ByCode timings ops hw) (reaches : Reaches ops w head)
    (named : (j : ℕ) → j < length ops → EachOperand (Named ops j) (op ops j)) (c : ℕ) where
  abbrev pass : ℕ
  pass = c / w.interval

  means : (v r : ℕ) → v < length ops → makes (op ops v) ≡ true → r ≤ 14 → r ≤ pass →
      scheme.resolve (scheme.name (variable_number ops v) (pass % scheme.turns) r) pass ≡ home_of ops scheme.place v (pass - r)
  means v r hv k far back = lawful.resolves (variable_number ops v) pass r (rw variables (number_below ops v (length ops) hv k)) far back

  source_right : (s : ℕ) → s ≤ pass → (q : ℕ) (a : Operand) → Named ops q a → s + distance a ≤ head →
      source_in scheme.resolve pass (operand_in ops w scheme.name scheme.turns pass s a) ≡
      source (home_of ops scheme.place) (iteration_in w.interval s c) a
  unfolding iteration_in
  source_right s begun q (literal z) n h = refl
  source_right s begun q (variable v d) n h = elim (cases_Bool (leb d (pass - s))) [
    | inl e ↦
        let le : d ≤ pass - s = leb-true _ _ e in
        let back : pass - (s + d) ≡ pass - s - d = omega arith in
        rw e (ap register (means v (s + d) n.0 n.1 (omega (arith, reaches.far)) (omega arith) ∙ ap (home_of ops scheme.place v) back))
    | inr e ↦ rw e
  ]

  target_right : (j : ℕ) → j < length ops → stage w j ≤ pass →
      target_in scheme.resolve pass (result_in ops w scheme.name scheme.turns pass j) ≡
      cond (makes (op ops j)) (home_of ops scheme.place j (iteration_of w j c)) 0
  unfolding iteration_in
  target_right j hj begun = elim (cases_Bool (makes (op ops j))) [
    | inl k ↦ rw k (means j (stage w j) hj k (omega (arith, reaches.far, reaches.stages_in j hj)) begun)
    | inr k ↦ rw k
  ]

  operation_right : (j : ℕ) → j < length ops → stage w j ≤ pass →
      on_operands (source_in scheme.resolve pass) (operation_in ops w scheme.name scheme.turns pass j) ≡
      on_operands (source (home_of ops scheme.place) (iteration_of w j c)) (op ops j)
  operation_right j hj begun =
      on_on _ _ _ (op ops j) (both_operands _ _ _ (source_right (stage w j) begun j) (op ops j) (named j hj) (reaches.operands_in j hj))

  same_code : (j : ℕ) → code_of (operation_in ops w scheme.name scheme.turns pass j) ≡ code_of (op ops j)
  same_code j = code_on _ (op ops j)

  slot_right : (j : ℕ) → j < length ops → stage w j ≤ pass →
      slot_in scheme.resolve timings pass (code_slot ops w scheme.name scheme.turns trips pass j) ≡ slot_of ops hw w (home_of ops scheme.place) c j
  slot_right j hj begun =
      rw (same_code j, by_code.latency j hj, by_code.class j hj, by_code.busy j hj)
      (ap₂ (slot_parts (stage w j) (hw.latency j) (hw.class j) (hw.busy j)) (operation_right j hj begun) (target_right j hj begun))

  abbrev issuing : ℕ → List Slot
  issuing j = cond (issues w trips j c) (slot_of ops hw w (home_of ops scheme.place) c j ∷ []) []

  slots_each : (n : ℕ) → each issuing n ≡ slots ops hw w trips (home_of ops scheme.place) c n
  unfolding slots
  slots_each zero = refl
  slots_each (suc n) = ap (λ xs. xs ++ issuing n) (slots_each n)

  one_right : (j : ℕ) → j < length ops →
      map (slot_in scheme.resolve timings pass) (cond (issues w trips j c) (code_slot ops w scheme.name scheme.turns trips pass j ∷ []) []) ≡ issuing j
  one_right j hj = elim (cases_Bool (issues w trips j c)) [
    | inl e ↦ rw e (ap (λ s. s ∷ []) (slot_right j hj (issued w trips j c e).2))
    | inr e ↦ rw e
  ]

  pub row_right : map (slot_in scheme.resolve timings pass) (code_row ops w scheme.name scheme.turns trips pass (c % w.interval)) ≡
      issues_at ops hw w trips (home_of ops scheme.place) c
  unfolding code_row
  row_right = map_each _ _ (length ops) ∙ each_same _ _ (length ops) one_right ∙ slots_each (length ops)
