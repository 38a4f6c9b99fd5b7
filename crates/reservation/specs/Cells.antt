-- The counts of the rows of each class.
use Rattle.std.specs.Prelude.{ℕ, ◌<◌, ◌≤◌, Bool, ◌&&◌, List, [], nat_le, nat_lt, slice_index, slice_index_or}

abbrev pub cell : List (List ℕ) → ℕ → ℕ → ℕ
cell counts u r = slice_index (slice_index_or counts u []) r

-- No row of any class has more uses than units.
abbrev pub Within : List (List ℕ) → List ℕ → Type 0
Within counts units = (u r : ℕ) → u < 8 → r < 256 → cell counts u r ≤ slice_index units u

-- What a table takes: one of eight classes, at most eight cycles, a time up to 99,999.
abbrev pub bookable : ℕ → ℕ → ℕ → Bool
bookable c busy t = nat_lt c 8 && (nat_le busy 8 && nat_le t 99999)
