-- The minimum, its witness, and heights.
use Rattle.std.specs.Prelude.{◌≡◌, ℕ, zero, suc, ◌+◌, ◌-◌, ◌*◌, ◌/◌, ◌<◌, ◌≤◌, max, cond, List, length, ◌==◌, ◌≢◌}
use Rattle.std.specs.List.{AllByRecursion}
use Rattle.model.specs.Loop.{Hardware, total}
use Rattle.model.specs.Edges.{Edge}
use Rattle.model.specs.Walks.{Walk, delays, distances, froms, Circuit, Simple}

-- Of n operations: the sum of BUSY over those of class u.
abbrev pub busy_sum : Hardware → ℕ → ℕ → ℕ
busy_sum hw n u = total (λ j. cond (hw.class j == u) (hw.busy j) 0) n

abbrev pub rounded_up : ℕ → ℕ → ℕ
rounded_up a b = (a + (b - 1)) / b

-- The quotient of class u by itself.
abbrev pub own_minimum : Hardware → ℕ → ℕ → ℕ
own_minimum hw n u = rounded_up (busy_sum hw n u) (hw.units u)

-- The greatest of f over the numbers below n, 0 for none.
abbrev pub greatest : (ℕ → ℕ) → ℕ → ℕ
greatest f zero = 0
greatest f (suc n) = max (greatest f n) (f n)

-- Over the first `classes` classes.
abbrev pub resource_minimum : Hardware → ℕ → ℕ → ℕ
resource_minimum hw n classes = greatest (own_minimum hw n) classes

-- No circuit has a sum of delays above k times its sum of distances.
abbrev pub NoneAbove : List Edge → ℕ → Type 0
NoneAbove es k = (xs : List ℕ) → Circuit es xs → delays es xs ≤ distances es xs * k

-- Some circuit has delays and no distance: it is above every k.
abbrev pub Standing : List Edge → Type 0
Standing es = (xs : List ℕ) × Circuit es xs × (distances es xs ≡ 0) × (0 < delays es xs)

-- The least k from 1 of which P holds.
abbrev pub Least : (ℕ → Type 0) → ℕ → Type 0
Least P k = (1 ≤ k) × P k × ((m : ℕ) → 1 ≤ m → P m → k ≤ m)

abbrev pub RecurrenceMinimum : List Edge → ℕ → Type 0
RecurrenceMinimum es k = Least (NoneAbove es) k

-- The greater of the two: for n operations with these edges, on a machine with so many classes.
pub record IsMinimum (es : List Edge) (hw : Hardware) (n classes k : ℕ) : Type 0 where
  pub recurrence : ℕ
  pub least : RecurrenceMinimum es recurrence
  pub greater : k ≡ max recurrence (resource_minimum hw n classes)

-- The lowest class whose own quotient is k; its sum of BUSY is too much for each smaller interval.
pub record ClassWitness (hw : Hardware) (n classes k u : ℕ) : Type 0 where
  pub is_class : u < classes
  pub exact : own_minimum hw n u ≡ k
  pub lowest : (v : ℕ) → v < u → own_minimum hw n v ≢ k
  pub too_much : (m : ℕ) → m < k → hw.units u * m < busy_sum hw n u

-- A simple circuit that begins with its lowest operation; its delays are too much for each smaller interval.
pub record CircuitWitness (es : List Edge) (k : ℕ) (xs : List ℕ) : Type 0 where
  pub some : 0 < length xs
  pub first : ℕ
  pub closed : Walk es first xs first
  pub simple : Simple es xs
  pub lowest : AllByRecursion (λ y. first ≤ y) (froms es xs)
  pub too_much : (m : ℕ) → m < k → distances es xs * m < delays es xs

-- The greatest sum of delay - k * distance along any walk from u. (The empty walk has 0.)
pub record IsHeight (es : List Edge) (k u h : ℕ) : Type 0 where
  pub bound : (v : ℕ) (xs : List ℕ) → Walk es u xs v → delays es xs ≤ h + distances es xs * k
  pub end : ℕ
  pub best : List ℕ
  pub walk : Walk es u best end
  pub attained : delays es best ≡ h + distances es best * k

-- What is named as evidence: a class, or a circuit by the numbers of its edges.
pub data Evidence : Type 0 where
  by_class : ℕ → Evidence
  by_circuit : List ℕ → Evidence

-- A class where the resource minimum reaches k, and a circuit otherwise.
abbrev pub IsEvidence : List Edge → Hardware → ℕ → ℕ → ℕ → Evidence → Type 0
IsEvidence es hw n classes k (by_class u) = ClassWitness hw n classes k u
IsEvidence es hw n classes k (by_circuit xs) = (resource_minimum hw n classes < k) × CircuitWitness es k xs
