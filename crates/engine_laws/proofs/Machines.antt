-- Machines that are alike, and the tables of the next cycle.
use Rattle.std.proofs.Common.{◌≡◌, ℕ, suc, ◌+◌, ◌%◌, ◌<◌, Bool, ◌&&◌, List, [], ◌∷◌, length, sym, refl, ap, ◌∙◌, ap₂, inl, inr, arith}
use Rattle.std.proofs.lemmas.Bool.{cases_eq}
use Rattle.model.specs.declared.Status.{Status}
use Rattle.model.specs.Loop.{operands}
use Rattle.model.specs.Issues.{Source, constant, register, Slot}
use Rattle.model.specs.Driving.{Waiting, Machine, all_of, readable, operands_landed, reserved, examine}
use Rattle.engine_laws.specs.Tracks.{Tracks}

pub machine_same : {V : Type 0} (m n : Machine V) → m.memory ≡ n.memory → m.values ≡ n.values → m.waiting ≡ n.waiting → m.status ≡ n.status → m.taken ≡ n.taken → m ≡ n
machine_same {V} m n a b c d e =
    ap (λ x. made x m.values m.waiting m.status m.taken) a ∙
    ap (λ x. made n.memory x m.waiting m.status m.taken) b ∙
    ap (λ x. made n.memory n.values x m.status m.taken) c ∙
    ap (λ x. made n.memory n.values n.waiting x m.taken) d ∙
    ap (λ x. made n.memory n.values n.waiting n.status x) e
  where
    made : List V → (ℕ → V) → (ℕ → Waiting V) → (ℕ → Status) → (ℕ → ℕ → ℕ) → Machine V
    made a b c d e = record { memory = a; values = b; waiting = c; status = d; taken = e }

all_of_same : {A : Type 0} (p q : A → Bool) → ((a : A) → p a ≡ q a) → (xs : List A) → all_of p xs ≡ all_of q xs
all_of_same p q same [] = refl
all_of_same p q same (x ∷ xs) = ap₂ ◌&&◌ (same x) (all_of_same p q same xs)

-- What a row is asked depends on the statuses, the units and the size of memory alone.
module _ {V W : Type 0} (units : ℕ → ℕ) (k trips c : ℕ) where
  readable_alike : (m : Machine V) (n : Machine W) → m.status ≡ n.status → (a : Source) → readable m a ≡ readable n a
  readable_alike m n same (constant z) = refl
  readable_alike m n same (register r) = rw same refl

  pub examined_alike : (slots : List Slot) (i : ℕ) (m : Machine V) (n : Machine W) → m.status ≡ n.status → m.taken ≡ n.taken → length m.memory ≡ length n.memory →
      examine units k trips c i slots m ≡ examine units k trips c i slots n
  unfolding examine reserved
  examined_alike [] i m n s t l = refl
  examined_alike (slot ∷ slots) i m n s t l =
      let rest : examine units k trips c (suc i) slots (reserved c slot m) ≡ examine units k trips c (suc i) slots (reserved c slot n) =
      examined_alike slots (suc i) (reserved c slot m) (reserved c slot n) (rw s refl) (rw t refl) l in
      let landed : operands_landed slot m ≡ operands_landed slot n = all_of_same (readable m) (readable n) (readable_alike m n s) (operands slot.operation) in
      rw (rest, landed, s, t, l) refl

-- The tables after a cycle: its units are forgotten.
pub next_cycle : (c : ℕ) (status : List Status) (taken taken' : ℕ → ℕ → ℕ) (s : ℕ → Status) (t : ℕ → ℕ → ℕ) → Tracks c status taken s t →
    ((u y : ℕ) → u < 8 → y % 8 ≡ c % 8 → taken' u y ≡ 0) →
    ((u y : ℕ) → u < 8 → (y % 8 ≡ c % 8 → ⊥) → taken' u y ≡ taken u y) →
    Tracks (c + 1) status taken' s t
next_cycle c status taken taken' s t h cleared others = record {
  statuses = h.statuses;
  units = λ u y few from to. elim (cases_eq y (c + 8)) [
    | inl e ↦ cleared u y few (omega arith) ∙ sym (h.beyond u y (omega arith))
    | inr z ↦ others u y few (λ same. omega arith) ∙ h.units u y few (omega arith) (omega arith)
  ];
  beyond = λ u y far. h.beyond u y (omega arith);
}
