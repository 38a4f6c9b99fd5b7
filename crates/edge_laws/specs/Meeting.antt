-- The memory edges of two operations on different lines: there is at most one each way, and this is its distance.
use Rattle.std.specs.Prelude.{ℕ, ◌-◌, ◌/◌, ◌%◌, Bool, cond, not, ◌&&◌, ◌||◌, List, [], ◌∷◌, Some, None, Option, ◌==◌, nat_le, nat_lt}
use Rattle.model.specs.Loop.{Operation, in_memory, makes, stride_of, offset_of}
use Rattle.model.specs.declared.Edge.{Edge}

-- A gap of at most seven whole strides.
abbrev pub whole_strides : ℕ → ℕ → Option ℕ
whole_strides s gap = cond (gap % s == 0 && nat_le (gap / s) 7) (Some (gap / s)) None

-- From the operation on the earlier line, with stride s and offset a, to the one on the later, with stride t and offset b.
abbrev pub to_later : ℕ → ℕ → ℕ → ℕ → Option ℕ
to_later s a t b = cond (s == t && nat_lt 0 s) (cond (nat_le b a) (whole_strides s (a - b)) None) (cond (not (s == t) || a == b) (Some 0) None)

-- And back.
abbrev pub to_earlier : ℕ → ℕ → ℕ → ℕ → Option ℕ
to_earlier s a t b = cond (s == t && nat_lt 0 s) (cond (nat_le b a) None (whole_strides s (b - a))) (cond (not (s == t) || a == b) (Some 1) None)

-- Both touch memory, and one of them stores.
abbrev pub may_meet : {A : Type 0} → Operation A → Operation A → Bool
may_meet o r = (in_memory o && in_memory r) && (not (makes o) || not (makes r))

abbrev pub distance_on : {A : Type 0} → Operation A → Operation A → Option ℕ
distance_on o r = cond (may_meet o r) (to_later (stride_of o) (offset_of o) (stride_of r) (offset_of r)) None

abbrev pub distance_back : {A : Type 0} → Operation A → Operation A → Option ℕ
distance_back o r = cond (may_meet o r) (to_earlier (stride_of o) (offset_of o) (stride_of r) (offset_of r)) None

abbrev pub edge_at : ℕ → ℕ → ℕ → Option ℕ → Option Edge
edge_at p q w None = None
edge_at p q w (Some d) = Some (record { from = p; to = q; delay = w; distance = d })

-- Two edges by their distances, the one that leads on first where they are equal.
abbrev pub by_distance : Option Edge → Option Edge → List Edge
by_distance None None = []
by_distance None (Some b) = b ∷ []
by_distance (Some a) None = a ∷ []
by_distance (Some a) (Some b) = cond (nat_le a.distance b.distance) (a ∷ b ∷ []) (b ∷ a ∷ [])
