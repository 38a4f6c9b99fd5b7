-- The slots of a row, examined one behind the other.
use Rattle.std.proofs.Common.{◌≡◌, ℕ, zero, suc, ◌+◌, ◌/◌, ◌<◌, ◌≤◌, Bool, true, false, not, ◌||◌, ltb, ◌⊎◌, List, [], ◌∷◌, ◌++◌, sym, refl, inl, inr, arith}
use Rattle.std.proofs.lemmas.List.{append-nil}
use Rattle.std.proofs.lemmas.Bool.{cases_eq, cases_Bool, ne_eqb, lt-ltb, and_from}
use Rattle.model.specs.Loop.{Loop, Operation, load, store, binary, move, op, cell, Loads, Stores, EachOperand, operands, makes, in_memory, stride_of, offset_of, on_operands, Hardware}
use Rattle.model.specs.Schedule.{Schedule}
use Rattle.model.specs.Issues.{Slot, issues, iteration_of, slot_of, slots}
use Rattle.model.specs.Driving.{Machine, passed, all_below, all_of, reserved, unit_free, operands_landed, iteration_runs, cell_in_memory, result_free, slot_iteration, examine}
use Rattle.pipelining.proofs.Row.{makes_on}
use Rattle.model.specs.Pipelining.{uses_of}

pub all_below_true : (p : ℕ → Bool) (n : ℕ) → ((b : ℕ) → b < n → p b ≡ true) → all_below p n ≡ true
all_below_true p zero h = refl
all_below_true p (suc n) h = and_from _ _ (all_below_true p n (λ b l. h b (omega arith))) (h n (omega arith))

pub all_of_on : {A B : Type 0} (f : A → B) (p : B → Bool) (o : Operation A) →
    EachOperand (λ a. p (f a) ≡ true) o → all_of p (operands (on_operands f o)) ≡ true
all_of_on f p (load stride offset) h = refl
all_of_on f p (store a stride offset) h = and_from _ _ h refl
all_of_on f p (binary code a b) h = and_from _ _ h.0 (and_from _ _ h.1 refl)
all_of_on f p (move a) h = and_from _ _ h refl

pub cell_fine : {A B : Type 0} (f : A → B) (o : Operation A) (i n : ℕ) → ((x : ℕ) → Loads o i x ⊎ Stores o i x → x < n) →
    (not (in_memory (on_operands f o)) || ltb (cell (stride_of (on_operands f o)) (offset_of (on_operands f o)) i) n) ≡ true
cell_fine f (load stride offset) i n h = lt-ltb _ _ (h (cell stride offset i) (inl refl))
cell_fine f (store a stride offset) i n h = lt-ltb _ _ (h (cell stride offset i) (inr refl))
cell_fine f (binary code a b) i n h = refl
cell_fine f (move a) i n h = refl

-- All five questions about a slot are answered yes.
pub record Yes {V : Type 0} (units : ℕ → ℕ) (k trips c : ℕ) (slot : Slot) (m : Machine V) : Type 0 where
  pub unit : unit_free units c slot m ≡ true
  pub landed : operands_landed slot m ≡ true
  pub runs : iteration_runs (c / k) trips slot ≡ true
  pub there : cell_in_memory (slot_iteration k c slot) slot m ≡ true
  pub free : result_free slot m ≡ true

module _ {V : Type 0} (units : ℕ → ℕ) (k trips c : ℕ) where
  -- so of each slot of a row, those before it counted
  abbrev pub AllYes : List Slot → Machine V → Type 0
  AllYes [] m = Unit {0}
  AllYes (slot ∷ slots) m = Yes units k trips c slot m × AllYes slots (reserved c slot m)

  pub examined : (n : ℕ) (xs : List Slot) (m : Machine V) → AllYes xs m → examine units k trips c n xs m ≡ passed
  unfolding examine
  examined n [] m h = refl
  examined n (x ∷ xs) m h =
      rw (h.0.unit, h.0.landed, h.0.runs, h.0.there, h.0.free) (examined (suc n) xs (reserved c x m) h.1)

module _ {V : Type 0} (c : ℕ) where
  unfoldable pub reserve_all : List Slot → Machine V → Machine V
  reserve_all [] m = m
  reserve_all (slot ∷ slots) m = reserve_all slots (reserved c slot m)

  pub reserve_append : (xs ys : List Slot) (m : Machine V) → reserve_all (xs ++ ys) m ≡ reserve_all ys (reserve_all xs m)
  unfolding reserve_all
  reserve_append [] ys m = refl
  reserve_append (x ∷ xs) ys m = reserve_append xs ys (reserved c x m)

  pub memory_reserved : (xs : List Slot) (m : Machine V) → (reserve_all xs m).memory ≡ m.memory
  unfolding reserve_all reserved
  memory_reserved [] m = refl
  memory_reserved (x ∷ xs) m = memory_reserved xs (reserved c x m)

  pub taken_reserved : (u y : ℕ) (xs : List Slot) (m : Machine V) → (reserve_all xs m).taken u y ≡ m.taken u y + uses_of u y c xs
  unfolding reserve_all reserved
  taken_reserved u y [] m = omega arith
  taken_reserved u y (x ∷ xs) m = omega (arith, taken_reserved u y xs (reserved c x m))

pub all_yes_append : {V : Type 0} (units : ℕ → ℕ) (k trips c : ℕ) (xs ys : List Slot) (m : Machine V) →
    AllYes units k trips c xs m → AllYes units k trips c ys (reserve_all c xs m) → AllYes units k trips c (xs ++ ys) m
unfolding reserve_all
all_yes_append units k trips c [] ys m h g = g
all_yes_append units k trips c (x ∷ xs) ys m h g = (h.0, all_yes_append units k trips c xs ys (reserved c x m) h.1 g)

module _ {V : Type 0} (ops : Loop) (hw : Hardware) (w : Schedule) (trips : ℕ) (home : ℕ → ℕ → ℕ) (c : ℕ) (seen : Machine V) where
  -- the machine as the slot of operation j finds it
  abbrev pub found : ℕ → Machine V
  found j = reserve_all c (slots ops hw w trips home c j) seen

  found_more : (j : ℕ) → issues w trips j c ≡ true → found (suc j) ≡ reserved c (slot_of ops hw w home c j) (found j)
  unfolding slots reserve_all
  found_more j e = rw e (reserve_append c (slots ops hw w trips home c j) (slot_of ops hw w home c j ∷ []) seen)

  found_same : (j : ℕ) → issues w trips j c ≡ false → found (suc j) ≡ found j
  unfolding slots
  found_same j e = rw (e, append-nil)

  -- A register is awaited by one of the slots before, or as it was.
  abbrev pub FoundThen : Machine V → ℕ → ℕ → Type 0
  FoundThen m r j =
      ((q : ℕ) × (q < j) × (issues w trips q c ≡ true) × (makes (op ops q) ≡ true) × (home q (iteration_of w q c) ≡ r)) ⊎ (m.status r ≡ seen.status r)

  wider : (m : Machine V) (r j : ℕ) → FoundThen m r j → FoundThen m r (suc j)
  wider m r j (inl z) = inl (z.0, omega arith, z.2, z.3, z.4)
  wider m r j (inr z) = inr z

  pub found_then : (r j : ℕ) → FoundThen (found j) r j
  unfolding slots reserve_all reserved
  found_then r zero = inr refl
  found_then r (suc j) = elim (cases_Bool (issues w trips j c)) [
    | inl e ↦ elim (cases_Bool (makes (op ops j))) [
      | inl k ↦ elim (cases_eq r (home j (iteration_of w j c))) [
        | inl p ↦ inl (j, omega arith, e, k, sym p)
        | inr z ↦ rw (found_more j e, makes_on, k, ne_eqb _ _ z) (wider (found j) r j (found_then r j))
      ]
      | inr k ↦ rw (found_more j e, makes_on, k) (wider (found j) r j (found_then r j))
    ]
    | inr e ↦ rw (found_same j e) (wider (found j) r j (found_then r j))
  ]

  -- What each slot is answered gives what the row is.
  pub row_yes : (n : ℕ) → ((q : ℕ) → q < n → issues w trips q c ≡ true → Yes hw.units w.interval trips c (slot_of ops hw w home c q) (found q)) →
      (j : ℕ) → j ≤ n → AllYes hw.units w.interval trips c (slots ops hw w trips home c j) seen
  unfolding slots
  row_yes n holds zero h = tt
  row_yes n holds (suc j) h = elim (cases_Bool (issues w trips j c)) [
    | inl e ↦ rw e (all_yes_append hw.units w.interval trips c (slots ops hw w trips home c j) (slot_of ops hw w home c j ∷ []) seen
        (row_yes n holds j (omega arith)) (holds j h e, tt))
    | inr e ↦ rw (e, append-nil) (row_yes n holds j (omega arith))
  ]
