-- The edges between two operations as one number.
use Rattle.std.specs.Prelude.{ℕ, zero, suc, ◌+◌, ◌-◌, ◌*◌, max, Bool, false, cond, ◌&&◌, ◌||◌, List, [], ◌∷◌, Some, None, Option, ◌==◌, nat_lt}
use Rattle.model.specs.declared.Edge.{Edge}
use Rattle.model.specs.Search.{Times}

-- delay - k * distance, raised by 1,793 so that it is above 0 at intervals up to 256 and distances up to 7
abbrev pub lifted : ℕ → Edge → ℕ
lifted k e = (e.delay + 1793) - e.distance * k

-- The greatest over the edges from p to q, 0 without any.
unfoldable pub weight : ℕ → List Edge → ℕ → ℕ → ℕ
weight k [] p q = 0
weight k (e ∷ es) p q = max (weight k es p q) (cond (e.from == p && e.to == q) (lifted k e) 0)

-- What edges of this weight from a placed operation ask of the early time.
abbrev pub asked : ℕ → Option ℕ → ℕ
asked zero o = 0
asked (suc w) None = 0
asked (suc w) (Some t) = (t + suc w) - 1793

-- An edge of this weight between placed operations is not met.
abbrev pub unmet : ℕ → Option ℕ → Option ℕ → Bool
unmet zero a b = false
unmet (suc w) None b = false
unmet (suc w) (Some s) None = false
unmet (suc w) (Some s) (Some t) = nat_lt (t + 1793) (s + suc w)

-- The early time of operation j, over the first n operations.
unfoldable pub early_by : (ℕ → ℕ → ℕ) → Times → ℕ → ℕ → ℕ
early_by weights time j zero = 0
early_by weights time j (suc q) = max (early_by weights time j q) (cond (q == j) 0 (asked (weights q j) (time q)))

-- Operation q is the far end of an edge of operation j that is not met.
abbrev pub torn_by : (ℕ → ℕ → ℕ) → Times → ℕ → ℕ → Bool
torn_by weights time j q = unmet (weights j q) (time j) (time q) || unmet (weights q j) (time q) (time j)
