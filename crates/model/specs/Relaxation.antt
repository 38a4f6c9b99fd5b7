-- Relaxation: one round, and many from 0.
use Rattle.std.specs.Prelude.{◌≡◌, ℕ, zero, suc, ◌+◌, ◌-◌, ◌*◌, max, cond, List, [], ◌∷◌, ◌==◌}
use Rattle.model.specs.Edges.{Edge}

-- What an edge offers to the operation that it leaves. (What is below 0 counts 0, as the empty walk.)
abbrev pub offer : ℕ → (ℕ → ℕ) → Edge → ℕ
offer k h e = (e.delay + h e.to) - e.distance * k

-- The greatest of h u and the offers of the edges from u.
unfoldable pub round : ℕ → List Edge → (ℕ → ℕ) → ℕ → ℕ
round k [] h u = h u
round k (e ∷ es) h u = cond (e.from == u) (max (offer k h e) (round k es h u)) (round k es h u)

unfoldable pub rounds : ℕ → List Edge → ℕ → ℕ → ℕ
rounds k es zero u = 0
rounds k es (suc r) u = round k es (rounds k es r) u

-- A round changes nothing.
abbrev pub Fixed : ℕ → List Edge → (ℕ → ℕ) → Type 0
Fixed k es h = (u : ℕ) → round k es h u ≡ h u
