-- The search for the first operation that comes again along a walk.
use Rattle.std.specs.Prelude.{◌≡◌, ℕ, ◌<◌, List, None, Some, Option, ◌≢◌, slice_range}
use Rattle.model.specs.declared.Edge.{Edge}
use Rattle.graph_laws.specs.Trails.{standing, NewBefore, Repeats}
use Rattle.bounds.specs.Noted.{noted}

-- The walk stood at the first n places: seen holds for each operation its place.
pub record Passed (es : List Edge) (u : ℕ) (xs : List ℕ) (seen : List (Option ℕ)) (n : ℕ) : Type 0 where
  pub unseen : (v : ℕ) → noted seen v ≡ None → (a : ℕ) → a < n → standing es u xs a ≢ v
  pub placed : (v b : ℕ) → noted seen v ≡ Some b → (b < n) × (standing es u xs b ≡ v)
  pub new : NewBefore es u xs n

-- The part of a walk from u between two places at which it stands at one operation, and nowhere twice before.
abbrev pub RoundTrip : List Edge → ℕ → List ℕ → List ℕ → Type 0
RoundTrip es u xs ys = (i : ℕ) × (j : ℕ) × Repeats es u xs i j × (ys ≡ slice_range xs i j)
