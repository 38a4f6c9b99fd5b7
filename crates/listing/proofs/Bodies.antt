-- The operations of a body in their places.
use Rattle.std.proofs.Common.{◌≡◌, ℕ, zero, suc, ◌+◌, ◌-◌, ◌<◌, ◌≤◌, ◌==◌, ◌&&◌, leb, ltb, Some, Option, max, Bool, true, false, cond, List, [], ◌∷◌, ◌++◌, length, get_or, take, pos, fold, sym, refl, ap, ◌∙◌, ap₂, inl, inr, add-one, arith}
use Rattle.std.proofs.lemmas.List.{length-map, get_or-map, map_push, take_more, get_or_append_left, get_or_push, get_or_default, length_push}
use Rattle.std.proofs.Math.Seq.{take-length}
use Rattle.std.proofs.lemmas.List.Sums.{fold_more}
use Rattle.std.proofs.lemmas.Bool.{cases_lt}
use Rattle.model.specs.Loop.{Loop, literal, move, op, makes, EachOperand, Named, WellFormed}
use Rattle.model.specs.MachineText.{Machine}
use Rattle.model.specs.Soundness.{hardware}
use Rattle.model.specs.Schemes.{Meaning}
use Rattle.model.specs.declared.Timing.{Timing}
use Rattle.model.specs.Schedule.{Schedule, stages}
use Rattle.model.specs.ScheduleLives.{greatest}
use Rattle.model.specs.Issues.{variable_number, issues_in}
use Rattle.model.specs.Listing.{distance, farthest, slot_in_pass}
use Rattle.few.specs.Held.{held}
use Rattle.operations.specs.Seen.{EachOwn}
use Rattle.operations.specs.declared.operation.Operation.TheVariants.{Load, Store, Binary, Move}
use Rattle.dependence.specs.declared.operation.Operand.{Operand as OwnOperand}
use Rattle.dependence.specs.declared.operation.Operand.TheVariants.{Literal, Variable}
use Rattle.dependence.specs.Operations.{operand_seen, OwnOperation, operation_seen, operations_seen}
use Rattle.listing.specs.declared.body.Body.{Body}
use Rattle.listing.specs.declared.place.Place.{Place}
use Rattle.listing.specs.declared.placed.Placed.{Placed}
use Rattle.listing.specs.Views.{loop_of, schedule_of, KnownOperand}
use Rattle.listing.specs.Rows.{slot_of}
use Rattle.text_laws.proofs.Formed.{well_formed}
use Rattle.listing.specs.Placed.{operations_placed, PlacedAt, AllPlaced}

pub placed_more : (ops : Loop) (w : Schedule) (ps : List Placed) (p : Placed) → AllPlaced ops w ps → PlacedAt ops w (length ps) p → AllPlaced ops w (ps ++ p ∷ [])
placed_more ops w ps p all at j x h is = elim (cases_lt j (length ps)) [
  | inl l ↦ all j x l (is ∙ get_or_append_left ps (p ∷ []) x j l)
  | inr l ↦
      let here : j ≡ length ps = omega (arith, length_push ps p) in
      rw (here, is ∙ get_or_push ps p x j (sym here)) at
]

pub operation_at : (os : List OwnOperation) (ops : Loop) (n : ℕ) (o : OwnOperation) → operations_seen os ≡ ops → n < length os → o ≡ get_or os n o → operation_seen o ≡ op ops n
unfolding op
operation_at os ops n o same h is = ap operation_seen is ∙ sym (get_or-map operation_seen os n o (move (literal (pos 0))) h) ∙ ap (λ xs. get_or xs n (move (literal (pos 0)))) same

-- The first n operations are placed, and these are the variables that they define.
pub record SoFar (ops : Loop) (w : Schedule) (n variables : ℕ) (ps : List Placed) : Type 0 where
  pub count : length ps ≡ n
  pub numbered : variables ≡ variable_number ops n
  pub few : variables ≤ n
  pub operations : operations_placed ps ≡ take n ops
  pub standing : AllPlaced ops w ps

at_most_one : (b : Bool) → cond b 1 0 ≤ 1
at_most_one true = omega arith
at_most_one false = omega arith

pub place_next : (ops : Loop) (w : Schedule) (ps new : List Placed) (n variables made : ℕ) (p : Placed) → SoFar ops w n variables ps → new ≡ ps ++ p ∷ [] →
    n < length ops → PlacedAt ops w n p → p.variable ≡ variables → made ≡ cond (makes (operation_seen p.operation)) 1 0 → SoFar ops w (n + 1) (variables + made) new
unfolding op
place_next ops w ps new n variables made p far new_is h at same made_is = record {
  count = omega (arith, ap length new_is, length_push ps p, far.count);
  numbered = rw (add-one, made_is, far.numbered, at.operation);
  few = omega (arith, far.few, ap (λ m. m) made_is, at_most_one (makes (operation_seen p.operation)));
  operations = ap operations_placed new_is ∙ map_push (λ q. operation_seen q.operation) ps p ∙ ap₂ (λ a b. a ++ b ∷ []) far.operations at.operation ∙ sym (take_more ops n (move (literal (pos 0))) h);
  standing = rw new_is (placed_more ops w ps p far.standing (rw far.count at));
}

in_list : {A : Type 0} (xs : List A) (n : ℕ) → n < length xs → (x : A) × (x ≡ get_or xs n x)
in_list [] n h = absurd (omega arith)
in_list (x ∷ xs) n h = (get_or (x ∷ xs) n x, get_or_default (x ∷ xs) n x _ h)

module _ {A : Type 0} (h : ℕ → A → ℕ) (f : ℕ → ℕ) (xs : List A) (none : f 0 ≡ 0) (more : (j : ℕ) (x : A) → j < length xs → x ≡ get_or xs j x → h (f j) x ≡ f (suc j)) where
  folded_so_far : (n : ℕ) → n ≤ length xs → fold h 0 (take n xs) ≡ f n
  folded_so_far zero le = sym none
  folded_so_far (suc n) le =
      let at = in_list xs n (omega arith) in
      ap (λ m. fold h 0 (take m xs)) (sym (add-one n)) ∙ fold_more h 0 xs n at.0 (omega arith) ∙ ap₂ h (folded_so_far n (omega arith)) (sym at.1) ∙ more n at.0 (omega arith) at.1

  -- A fold over a list, item by item.
  folded : fold h 0 xs ≡ f (length xs)
  folded = ap (fold h 0) (sym (take-length xs)) ∙ folded_so_far (length xs) (omega arith)

module _ (w : Schedule) (ps : List Placed) (all : AllPlaced (operations_placed ps) w ps) where
  count : length (operations_placed ps) ≡ length ps
  count = length-map ps (λ p. operation_seen p.operation)

  pub stages_folded : fold (λ d p. max d (p.stage + 1)) 0 ps ≡ stages w (length (operations_placed ps))
  stages_folded =
      folded (λ d p. max d (p.stage + 1)) (stages w) ps refl (λ j p h is. ap (λ s. max (stages w j) (s + 1)) (all j p h is).stage)
      ∙ ap (stages w) (sym count)

  pub farthest_folded : fold (λ d p. max d (greatest distance (operation_seen p.operation))) 0 ps ≡ farthest (operations_placed ps) (length (operations_placed ps))
  unfolding farthest
  farthest_folded =
      folded (λ d p. max d (greatest distance (operation_seen p.operation))) (farthest (operations_placed ps)) ps refl
      (λ j p h is. ap (λ o. max (farthest (operations_placed ps) j) (greatest distance o)) (all j p h is).operation)
      ∙ ap (farthest (operations_placed ps)) (sym count)

-- A machine on which every sound loop is well formed.
abbrev one_cycle : Option Timing
one_cycle = Some (record { class = 0; latency = 1; busy = 1 })

abbrev a_machine : Machine
a_machine = record {
  classes = record { name = []; count = 1 } ∷ [];
  timings = one_cycle ∷ one_cycle ∷ one_cycle ∷ one_cycle ∷ one_cycle ∷ one_cycle ∷ [];
}

pub formed : {S : Type 0} (b : Body S) → WellFormed (loop_of b) (hardware a_machine (loop_of b))
formed b = well_formed a_machine (loop_of b) refl b.sound

known_operand : (ops : Loop) (q : ℕ) (a : OwnOperand) → Named ops q (operand_seen a) → KnownOperand (length ops) a
known_operand ops q (Literal z) n = tt
known_operand ops q (Variable p d) n = n.0

known_operands : (ops : Loop) (q : ℕ) (o : OwnOperation) → EachOperand (Named ops q) (operation_seen o) → EachOwn (KnownOperand (length ops)) o
known_operands ops q (Load cell) n = tt
known_operands ops q (Store a cell) n = known_operand ops q a n
known_operands ops q (Binary f a b) n = (known_operand ops q a n.0, known_operand ops q b n.1)
known_operands ops q (Move a) n = known_operand ops q a n

module _ {S : Type 0} (b : Body S) (ps : List Placed) (same : ps ≡ held b.placed) (j : ℕ) (p : Placed) (h : j < length ps) (is : p ≡ get_or ps j p) where
  at : PlacedAt (loop_of b) (schedule_of b) j p
  at = b.standing j p (rw same at h) (rw same at is)

  -- Its operands name operations of the loop.
  pub known_at : EachOwn (KnownOperand (length (loop_of b))) p.operation
  known_at =
      let named = (formed b).named j (omega (arith, ap length same, length-map (held b.placed) (λ q. operation_seen q.operation))) in
      let own : EachOperand (Named (loop_of b) j) (operation_seen p.operation) = rw at.operation named in
      known_operands (loop_of b) j p.operation own

  -- When it issues, and as what.
  pub issues_at : (q r : ℕ) → p.row == r && (leb p.stage q && ltb (q - p.stage) b.trips) ≡ issues_in (schedule_of b) b.trips j q r
  unfolding issues_in
  issues_at q r = rw (at.row, at.stage)

  pub slot_at : (m : S → Meaning) (place : Place) → slot_of b m place p ≡ slot_in_pass (loop_of b) (schedule_of b) (m b.scheme.now).name b.turns place.part place.written place.pass j
  unfolding slot_in_pass
  slot_at m place = rw (at.row, at.stage, at.variable, at.operation)
