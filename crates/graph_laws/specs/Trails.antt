-- On the way to a circuit: the edges that rounds chose, the walk that they stand for, and where it comes again.
use Rattle.std.specs.Prelude.{◌≡◌, ℕ, zero, suc, ◌+◌, ◌*◌, ◌<◌, ◌≤◌, List, [], ◌∷◌, length, ◌≢◌, slice_index}
use Rattle.model.specs.declared.Edge.{Edge}
use Rattle.model.specs.Minimum.{greatest}
use Rattle.model.specs.Walks.{edge, Walk, delays, distances}
use Rattle.model.specs.Relaxation.{offer, rounds}

abbrev pub value : List ℕ → ℕ → ℕ
value hs u = slice_index hs u

-- Edge x leaves u and offers this much.
abbrev pub Offers : List Edge → ℕ → (ℕ → ℕ) → ℕ → ℕ → ℕ → Type 0
Offers es k h u wanted x = (x < length es) × ((edge es x).from ≡ u) × (wanted ≡ offer k h (edge es x))

-- A walk from u of at most r edges whose sum is what r rounds found.
pub record BestWalk (es : List Edge) (k r u : ℕ) (xs : List ℕ) : Type 0 where
  pub end : ℕ
  pub walk : Walk es u xs end
  pub short : length xs ≤ r
  pub sum : delays es xs ≡ rounds k es r u + distances es xs * k

-- On the way: at `at`, with this many rounds left.
abbrev pub Partly : List Edge → ℕ → ℕ → ℕ → List ℕ → ℕ → ℕ → Type 0
Partly es k r u xs left at = Walk es u xs at × (delays es xs + rounds k es left at ≡ rounds k es r u + distances es xs * k)

-- Where a walk from u stands after j edges.
abbrev pub standing : List Edge → ℕ → List ℕ → ℕ → ℕ
standing es u xs zero = u
standing es u [] (suc j) = u
standing es u (x ∷ xs) (suc j) = standing es (edge es x).to xs j

-- No operation twice before place j.
abbrev pub NewBefore : List Edge → ℕ → List ℕ → ℕ → Type 0
NewBefore es u xs j = (a b : ℕ) → a < b → b < j → standing es u xs a ≢ standing es u xs b

-- At place j the walk stands where it stood at place i, and nowhere twice before.
pub record Repeats (es : List Edge) (u : ℕ) (xs : List ℕ) (i j : ℕ) : Type 0 where
  pub order : i < j
  pub inside : j ≤ length xs
  pub same : standing es u xs i ≡ standing es u xs j
  pub new : NewBefore es u xs j

-- The greatest so far, and the lowest place that has it.
abbrev pub Leads : (ℕ → ℕ) → ℕ → ℕ → ℕ → Type 0
Leads f n k u = (k ≡ greatest f n) × (0 < k → (u < n) × (f u ≡ k) × ((v : ℕ) → v < u → f v < k))
