-- What the slots of one cycle do, over the first j operations.
use Rattle.std.proofs.Common.{◌≡◌, ℕ, zero, suc, ◌+◌, ◌<◌, ◌≤◌, true, false, ◌⊎◌, List, [], ◌∷◌, ◌++◌, sym, refl, ap, ◌∙◌, ap₂, inl, inr, arith}
use Rattle.std.specs.List.{AllByRecursion}
use Rattle.std.proofs.lemmas.List.{append-nil}
use Rattle.std.proofs.ByRecursion.{All-append}
use Rattle.std.proofs.lemmas.Bool.{cases_eq, cases_Bool, both_ways, eq-eqb, ne_eqb}
use Rattle.model.specs.Loop.{Loop, Operation, load, store, binary, move, op, EachOperand, makes, on_operands, Hardware}
use Rattle.model.specs.Schedule.{Schedule}
use Rattle.model.specs.Domains.{Domain}
use Rattle.model.specs.Plain.{State, written, evaluate, result, perform}
use Rattle.model.specs.Issues.{Slot, issues, iteration_of, slot_of, slots}
use Rattle.model.specs.Driving.{Waiting, Machine, slot_result, reserved, issue, issue_all}
use Rattle.model.specs.declared.Status.TheVariants.{Waits}
use Rattle.pipelining.proofs.Timed.{beat}

pub makes_on : {A B : Type 0} (f : A → B) (o : Operation A) → makes (on_operands f o) ≡ makes o
makes_on f (load stride offset) = refl
makes_on f (store a stride offset) = refl
makes_on f (binary code a b) = refl
makes_on f (move a) = refl

pub written_on : {A B V : Type 0} (f : A → B) (o : Operation A) (i : ℕ) (v : V) (memory : List V) →
    written (on_operands f o) i v memory ≡ written o i v memory
unfolding written
written_on f (load stride offset) i v memory = refl
written_on f (store a stride offset) i v memory = refl
written_on f (binary code a b) i v memory = refl
written_on f (move a) i v memory = refl

pub evaluate_on : {A B V : Type 0} (dom : Domain V) (f : A → B) (worth : B → V) (value : A → V) (o : Operation A) (i : ℕ) (memory : List V) →
    EachOperand (λ a. worth (f a) ≡ value a) o → evaluate dom worth (on_operands f o) i memory ≡ evaluate dom value o i memory
unfolding evaluate
evaluate_on dom f worth value (load stride offset) i memory same = refl
evaluate_on dom f worth value (store a stride offset) i memory same = same
evaluate_on dom f worth value (binary code a b) i memory same = ap₂ (dom.apply code) same.0 same.1
evaluate_on dom f worth value (move a) i memory same = same

module _ {V : Type 0} (dom : Domain V) (ops : Loop) (hw : Hardware) (w : Schedule) (trips : ℕ) (home : ℕ → ℕ → ℕ) (c : ℕ) (seen : Machine V) where
  -- the machine after the slots of the first j operations
  abbrev pub upto : ℕ → Machine V
  upto j = issue_all dom w.interval c (slots ops hw w trips home c j) seen seen

  issue_append : (xs ys : List Slot) (m : Machine V) → issue_all dom w.interval c (xs ++ ys) seen m ≡ issue_all dom w.interval c ys seen (issue_all dom w.interval c xs seen m)
  unfolding issue_all
  issue_append [] ys m = refl
  issue_append (x ∷ xs) ys m = issue_append xs ys (issue dom w.interval c x seen m)

  one_more : (j : ℕ) → issues w trips j c ≡ true → upto (suc j) ≡ issue dom w.interval c (slot_of ops hw w home c j) seen (upto j)
  unfolding slots issue_all
  one_more j e = rw e (issue_append (slots ops hw w trips home c j) (slot_of ops hw w home c j ∷ []) seen)

  none_more : (j : ℕ) → issues w trips j c ≡ false → upto (suc j) ≡ upto j
  unfolding slots
  none_more j e = rw (e, append-nil)

  pub values_stay : (j : ℕ) → (upto j).values ≡ seen.values
  unfolding slots issue_all issue
  values_stay zero = refl
  values_stay (suc j) = elim (cases_Bool (issues w trips j c)) [
    | inl e ↦ ap (λ m. m.values) (one_more j e) ∙ values_stay j
    | inr e ↦ ap (λ m. m.values) (none_more j e) ∙ values_stay j
  ]

  pub memory_then : (s : State V) → seen.memory ≡ s.memory →
      (n : ℕ) →
      ((q : ℕ) → q < n → issues w trips q c ≡ true → slot_result dom w.interval c (slot_of ops hw w home c q) seen ≡ result dom (op ops q) (iteration_of w q c) s) →
      (j : ℕ) → j ≤ n → (upto j).memory ≡ (beat dom ops w trips c j s).memory
  unfolding slots issue_all issue beat perform
  memory_then s same n right zero h = same
  memory_then s same n right (suc j) h = elim (cases_Bool (issues w trips j c)) [
    | inl e ↦ ap (λ m. m.memory) (one_more j e) ∙
        rw e (written_on _ (op ops j) _ _ _ ∙ ap₂ (written (op ops j) (iteration_of w j c)) (right j h e) (memory_then s same n right j (omega arith)))
    | inr e ↦ ap (λ m. m.memory) (none_more j e) ∙ rw e (memory_then s same n right j (omega arith))
  ]

  -- What operation q begins to await in cycle c.
  abbrev pub awaited_of : ℕ → Waiting V
  awaited_of q = record { due = c + hw.latency q; value = slot_result dom w.interval c (slot_of ops hw w home c q) seen }

  -- A register of the machine m, after the slots of the first j operations: one of them makes its value in it, or it is as it was.
  abbrev pub RegisterThen : Machine V → ℕ → ℕ → Type 0
  RegisterThen m r j =
      ((q : ℕ) × (q < j) × (issues w trips q c ≡ true) × (makes (op ops q) ≡ true) × (home q (iteration_of w q c) ≡ r) ×
      (m.waiting r ≡ awaited_of q) × (m.status r ≡ Waits)) ⊎
      (((q : ℕ) → q < j → issues w trips q c ≡ true → makes (op ops q) ≡ true → home q (iteration_of w q c) ≡ r → ⊥) ×
      (m.waiting r ≡ seen.waiting r) × (m.status r ≡ seen.status r))

  one_wider : (m : Machine V) (r j : ℕ) → (issues w trips j c ≡ true → makes (op ops j) ≡ true → home j (iteration_of w j c) ≡ r → ⊥) →
      RegisterThen m r j → RegisterThen m r (suc j)
  one_wider m r j not_j (inl z) = inl (z.0, omega arith, z.2, z.3, z.4, z.5, z.6)
  one_wider m r j not_j (inr z) = inr (
    (λ q h e k p. elim (cases_eq q j) [ inl y ↦ not_j (rw y at e) (rw y at k) (rw y at p) | inr n ↦ z.0 q (omega arith) e k p ]),
    z.1,
    z.2,
  )

  pub register_then : (r j : ℕ) → RegisterThen (upto j) r j
  unfolding slots issue_all issue reserved
  register_then r zero = inr ((λ q h. absurd (omega arith)), refl, refl)
  register_then r (suc j) = elim (cases_Bool (issues w trips j c)) [
    | inl e ↦ elim (cases_Bool (makes (op ops j))) [
      | inl k ↦ elim (cases_eq r (home j (iteration_of w j c))) [
        | inl p ↦ rw (one_more j e, makes_on, k, eq-eqb _ _ p) (inl (j, omega arith, e, k, sym p, refl, refl))
        | inr z ↦ rw (one_more j e, makes_on, k, ne_eqb _ _ z) (one_wider (upto j) r j (λ _ _ p. z (sym p)) (register_then r j))
      ]
      | inr k ↦ rw (one_more j e, makes_on, k) (one_wider (upto j) r j (λ _ t _. both_ways _ k t) (register_then r j))
    ]
    | inr e ↦ rw (none_more j e) (one_wider (upto j) r j (λ t _ _. both_ways _ e t) (register_then r j))
  ]

module _ (ops : Loop) (hw : Hardware) (w : Schedule) (trips : ℕ) (home : ℕ → ℕ → ℕ) (c : ℕ) where
  -- What holds of each slot that issues holds of all.
  pub each_slot : (P : Slot → Type 0) (n : ℕ) → ((q : ℕ) → q < n → issues w trips q c ≡ true → P (slot_of ops hw w home c q)) →
      (j : ℕ) → j ≤ n → AllByRecursion P (slots ops hw w trips home c j)
  unfolding slots
  each_slot P n holds zero h = tt
  each_slot P n holds (suc j) h = elim (cases_Bool (issues w trips j c)) [
    | inl e ↦ rw e (All-append P _ _ (each_slot P n holds j (omega arith)) (holds j h e, tt))
    | inr e ↦ rw e (All-append P _ _ (each_slot P n holds j (omega arith)) tt)
  ]
