-- Rows that are kept one after another, and where each of them starts.
use Rattle.std.specs.Prelude.{◌≡◌, ℕ, ◌+◌, ◌≤◌, List, [], ◌∷◌, ◌++◌, map, length, vec_items, vec_len}
use Rattle.std.specs.List.{flat_map}
use Rattle.model.specs.Listing as listings
use Rattle.listing.specs.declared.rows.Rows.{Rows}
use Rattle.listing.specs.Views.{slot_seen}

abbrev pub all_slots : List (List listings.Slot) → List listings.Slot
all_slots rows = flat_map (λ row. row) rows

-- Where rows start, the first of them at b, and where the last ends.
abbrev pub cuts : ℕ → List (List listings.Slot) → List ℕ
cuts b [] = b ∷ []
cuts b (row ∷ rows) = b ∷ cuts (b + length row) rows

pub record Keeps (r : Rows) (rows : List (List listings.Slot)) : Type 0 where
  pub slots : map slot_seen (vec_items r.slots) ≡ all_slots rows
  pub starts : vec_items r.starts ≡ cuts 0 rows

-- There is room for more rows.
pub record Room (r : Rows) (more : List (List listings.Slot)) : Type 0 where
  pub slots : vec_len r.slots + length (all_slots more) ≤ 1152
  pub starts : vec_len r.starts + length more ≤ 9217

-- More rows were put behind those that are kept.
pub record Appended (before after : Rows) (more : List (List listings.Slot)) : Type 0 where
  pub slots : vec_len after.slots ≡ vec_len before.slots + length (all_slots more)
  pub starts : vec_len after.starts ≡ vec_len before.starts + length more
  pub keeps : (rows : List (List listings.Slot)) → Keeps before rows → Keeps after (rows ++ more)
