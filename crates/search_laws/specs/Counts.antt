-- The uses of the placed operations, counted by class and row.
use Rattle.std.specs.Prelude.{◌≡◌, ℕ, ◌+◌, ◌*◌, ◌%◌, ◌<◌, ◌≤◌, Bool, false, cond, ◌&&◌, List, None, ◌==◌, nat_lt, slice_index_or}
use Rattle.model.specs.Loop.{Hardware}
use Rattle.model.specs.Schedule.{uses}
use Rattle.model.specs.Search.{Times, put, in_row, some_below}
use Rattle.search_laws.specs.Bounded.{Under}

-- The second counts are the first with the uses of an operation of class c added.
abbrev pub Added : ℕ → ℕ → ℕ → ℕ → (ℕ → ℕ → ℕ) → (ℕ → ℕ → ℕ) → Type 0
Added k c t busy before now = (u r : ℕ) → u < 8 → r < 256 → now u r ≡ before u r + cond (u == c) (uses k t busy r) 0

-- Every row of class c has room for an operation; has its uses.
abbrev pub Room : ℕ → ℕ → ℕ → ℕ → (ℕ → ℕ → ℕ) → (ℕ → ℕ) → Type 0
Room k c t busy counts units = (r : ℕ) → r < 256 → counts c r + uses k t busy r ≤ units c

abbrev pub Has : ℕ → ℕ → ℕ → ℕ → (ℕ → ℕ → ℕ) → Type 0
Has k c t busy counts = (r : ℕ) → r < 256 → uses k t busy r ≤ counts c r

-- No row of any class has more uses than units.
abbrev pub Held : (ℕ → ℕ → ℕ) → (ℕ → ℕ) → Type 0
Held counts units = (u r : ℕ) → u < 8 → r < 256 → counts u r ≤ units u

-- With an operation of class c at time t row r would be overfull.
abbrev pub over : ℕ → ℕ → ℕ → ℕ → (ℕ → ℕ → ℕ) → (ℕ → ℕ) → ℕ → Bool
over k c t busy counts units r = nat_lt (units c) (counts c r + uses k t busy r)

-- One of so many cycles from time s on falls in a row that would be overfull.
abbrev pub over_in : ℕ → ℕ → ℕ → ℕ → (ℕ → ℕ → ℕ) → (ℕ → ℕ) → ℕ → ℕ → Bool
over_in k c t busy counts units s cycles = some_below (λ b. over k c t busy counts units ((s + b) % k)) cycles

-- The counts are those of the placed among n operations, and no others are placed.
pub record Tied (hw : Hardware) (n k : ℕ) (time : Times) (counts : ℕ → ℕ → ℕ) : Type 0 where
  pub cells : (u r : ℕ) → u < 8 → r < 256 → counts u r ≡ in_row hw k time n u r
  pub beyond : (q : ℕ) → n ≤ q → time q ≡ None

-- The second times are the first without one operation; with one placed; without those marked.
abbrev pub Less : ℕ → Times → Times → Type 0
Less j before now = (q : ℕ) → now q ≡ cond (q == j) None (before q)

abbrev pub Put : ℕ → ℕ → Times → Times → Type 0
Put j t before now = (q : ℕ) → now q ≡ put j t before q

abbrev pub Unmarked : List Bool → ℕ → Times → Times → Type 0
Unmarked marks n before now = (q : ℕ) → now q ≡ cond (nat_lt q n && slice_index_or marks q false) None (before q)

-- The times of a search are as low as its steps allow.
pub record Low (time last : Times) (taken k : ℕ) : Type 0 where
  pub times : (q : ℕ) → Under (taken * (k + 8)) (time q)
  pub lasts : (q : ℕ) → Under (taken * (k + 8)) (last q)
