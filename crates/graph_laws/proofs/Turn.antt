-- A circuit turned: what was before a place comes after it.
use Rattle.std.proofs.Common.{◌≡◌, ℕ, suc, ◌*◌, ◌<◌, ◌≤◌, List, [], ◌∷◌, ◌++◌, length, sym, refl, ap, mul-le-mul_left, arith}
use Rattle.std.specs.List.{AllByRecursion}
use Rattle.std.proofs.lemmas.List.{append-nil, length-append}
use Rattle.std.proofs.ByRecursion.{All-append}
use Rattle.model.specs.declared.Edge.{Edge}
use Rattle.model.specs.Walks.{edge, Walk, delays, distances, froms, Absent, Distinct, Simple}
use Rattle.model.specs.Minimum.{CircuitWitness}
use Rattle.graph_laws.proofs.Listed.{all_left, all_right}
use Rattle.graph_laws.proofs.Cut.{delays_append, distances_append, walk_append}

all_insert : (P : ℕ → Type 0) (p q : List ℕ) (x : ℕ) → AllByRecursion P (p ++ q) → P x → AllByRecursion P (p ++ (x ∷ q))
all_insert P [] q x h k = (k, h)
all_insert P (y ∷ p) q x h k = (h.0, all_insert P p q x h.1 k)

all_swap : (P : ℕ → Type 0) (p q : List ℕ) → AllByRecursion P (p ++ q) → AllByRecursion P (q ++ p)
all_swap P p q h = All-append P q p (all_right P p q h) (all_left P p q h)

distinct_insert : (p q : List ℕ) (x : ℕ) → Distinct (p ++ q) → Absent x (p ++ q) → Distinct (p ++ (x ∷ q))
distinct_insert [] q x d n = (n, d)
distinct_insert (y ∷ p) q x d n = (all_insert (λ z. y ≡ z → ⊥) p q x d.0 (λ e. n.0 (sym e)), distinct_insert p q x d.1 n.1)

distinct_swap : (p q : List ℕ) → Distinct (p ++ q) → Distinct (q ++ p)
distinct_swap [] q d = rw append-nil d
distinct_swap (x ∷ p) q d = distinct_insert q p x (distinct_swap p q d.1) (all_swap (λ z. x ≡ z → ⊥) p q d.0)

module _ (es : List Edge) where
  froms_append : (xs ys : List ℕ) → froms es (xs ++ ys) ≡ froms es xs ++ froms es ys
  froms_append [] ys = refl
  froms_append (x ∷ xs) ys = ap (λ l. (edge es x).from ∷ l) (froms_append xs ys)

  -- A simple circuit in two parts, above k; its second part begins with its lowest operation.
  pub turned : (k y z : ℕ) (xs ys : List ℕ) → Walk es y xs z → Walk es z ys y → 0 < length ys → Simple es (xs ++ ys) → AllByRecursion (λ v. z ≤ v) (froms es (xs ++ ys)) →
      distances es (xs ++ ys) * k < delays es (xs ++ ys) → CircuitWitness es (suc k) (ys ++ xs)
  turned k y z xs ys w v some simple lowest above = record {
    some = omega (arith, length-append ys xs);
    first = z;
    closed = walk_append es z y z ys xs v w;
    simple = rw (froms_append ys xs) (distinct_swap (froms es xs) (froms es ys) (rw (froms_append xs ys) at simple));
    lowest = rw (froms_append ys xs) (all_swap (λ v. z ≤ v) (froms es xs) (froms es ys) (rw (froms_append xs ys) at lowest));
    too_much = λ m l.
        let h : m ≤ k = omega arith in
        let same : distances es (ys ++ xs) ≡ distances es (xs ++ ys) = omega (arith, distances_append es xs ys, distances_append es ys xs) in
        rw same (omega (arith, mul-le-mul_left (distances es (xs ++ ys)) h, delays_append es xs ys, delays_append es ys xs));
  }
