-- What a listing of the code says of each row of each pass.
use Rattle.std.specs.Prelude.{ℕ, ◌+◌, ◌-◌, ◌*◌, cond, ◌&&◌, [], map, vec_items, Option, nat_lt, slice_index}
use Rattle.std.specs.List.{slice_get}
use Rattle.model.specs.Codes.{CodeSlot, CodeRows, gathered}
use Rattle.model.specs.Listing.{said, passes_run, written_pass}
use Rattle.listing.specs.declared.listing.Listing.{Listing}
use Rattle.listing.specs.Views.{slot_seen}

-- What the slot at a place says, the same in each pass.
abbrev pub issued_at : Listing → ℕ → ℕ → Option CodeSlot
issued_at l p place = slice_get (map (λ s. said (slot_seen s)) (vec_items l.rows.slots)) place

-- The number of the row that stands for row r of pass p, and where it starts.
abbrev pub row_number : Listing → ℕ → ℕ → ℕ
row_number l p r = written_pass l.parts p * l.interval + r

abbrev pub start_of : Listing → ℕ → ℕ
start_of l n = slice_index (vec_items l.rows.starts) n

abbrev pub rows_said : Listing → CodeRows
rows_said l p r =
    cond (nat_lt p (passes_run l.parts) && nat_lt r l.interval)
    (gathered (issued_at l p) (start_of l (row_number l p r)) (start_of l (row_number l p r + 1) - start_of l (row_number l p r)))
    []
