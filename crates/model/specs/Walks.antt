-- Walks along edges, by the numbers of the edges.
use Rattle.std.specs.Prelude.{◌≡◌, ℕ, ◌+◌, ◌<◌, List, [], ◌∷◌, length, ◌≢◌, slice_index_or}
use Rattle.std.specs.List.{AllByRecursion}
use Rattle.model.specs.Edges.{Edge}

abbrev pub edge : List Edge → ℕ → Edge
edge es x = slice_index_or es x (record { from = 0; to = 0; delay = 0; distance = 0 })

-- The edges of these numbers lead from u to v, one after another.
abbrev pub Walk : List Edge → ℕ → List ℕ → ℕ → Type 0
Walk es u [] v = u ≡ v
Walk es u (x ∷ xs) v = (x < length es) × ((edge es x).from ≡ u) × Walk es (edge es x).to xs v

abbrev pub delays : List Edge → List ℕ → ℕ
delays es [] = 0
delays es (x ∷ xs) = (edge es x).delay + delays es xs

abbrev pub distances : List Edge → List ℕ → ℕ
distances es [] = 0
distances es (x ∷ xs) = (edge es x).distance + distances es xs

-- The operations that the edges leave.
abbrev pub froms : List Edge → List ℕ → List ℕ
froms es [] = []
froms es (x ∷ xs) = (edge es x).from ∷ froms es xs

abbrev pub Absent : ℕ → List ℕ → Type 0
Absent u ys = AllByRecursion (λ y. u ≢ y) ys

abbrev pub Distinct : List ℕ → Type 0
Distinct [] = Unit {0}
Distinct (y ∷ ys) = Absent y ys × Distinct ys

abbrev pub Circuit : List Edge → List ℕ → Type 0
Circuit es xs = (0 < length xs) × ((u : ℕ) × Walk es u xs u)

-- No operation twice.
abbrev pub Simple : List Edge → List ℕ → Type 0
Simple es xs = Distinct (froms es xs)

-- The edges join the first n operations.
abbrev pub Within : ℕ → List Edge → Type 0
Within n es = AllByRecursion (λ e. (e.from < n) × (e.to < n)) es

-- Edges of distance 0 lead from earlier operations to later ones.
abbrev pub Forward : List Edge → Type 0
Forward es = AllByRecursion (λ e. e.distance ≡ 0 → e.from < e.to) es
