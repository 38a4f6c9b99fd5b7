-- The three parts, one behind the other.
use Rattle.std.proofs.Common.{◌≡◌, ◌+◌, ◌≤◌, List, [], ◌++◌, length, vec_len, sym, ap, subst, arith}
use Rattle.model.specs.declared.Part.{Part}
use Rattle.model.specs.declared.Part.TheVariants.{Front, Kernel, Rest}
use Rattle.model.specs.declared.Parts.{Parts}
use Rattle.model.specs.Listing as listings
use Rattle.model.specs.Schemes.{Meaning}
use Rattle.model.specs.Listing.{passes_in, first_pass, rows_of_part, rows_of, parts_of}
use Rattle.listing.specs.declared.rows.Rows.{Rows}
use Rattle.listing.specs.declared.body.Body.{Body}
use Rattle.listing.specs.Views.{loop_of, schedule_of}
use Rattle.listing.specs.Rows.{rows_of_passes, all_rows}
use Rattle.listing.specs.Kept.{all_slots, Keeps, Room, Appended}
use Rattle.listing.proofs.Appending.{append_then, room_front, room_back}

module _ {S : Type 0} (b : Body S) (m : S → Meaning) (ps : Parts) where
  abbrev pub part_rows : Part → List (List listings.Slot)
  part_rows part = rows_of_passes b m part (first_pass ps part) (passes_in ps part)

  abbrev pub three : List (List listings.Slot)
  three = part_rows Front ++ (part_rows Kernel ++ part_rows Rest)

  pub rows_are : ps ≡ parts_of (loop_of b) (schedule_of b) b.turns b.trips → all_rows b m ≡ three
  unfolding rows_of rows_of_part
  rows_are is = rw (← is)

  module _ (is : ps ≡ parts_of (loop_of b) (schedule_of b) b.turns b.trips) (z : Rows) (none : vec_len z.slots ≡ 0) (one : vec_len z.starts ≡ 1)
      (slots : length (all_slots (all_rows b m)) ≤ 1152)
      (rows : length (all_rows b m) ≤ 9216) where
    all_room : Room z three
    all_room = record {
      slots = omega (arith, ap (λ xs. length (all_slots xs)) (rows_are is));
      starts = omega (arith, ap length (rows_are is));
    }

    pub front_room : Room z (part_rows Front)
    front_room = room_front z (part_rows Front) (part_rows Kernel ++ part_rows Rest) all_room

    pub kernel_room : (y : Rows) → Appended z y (part_rows Front) → Room y (part_rows Kernel)
    kernel_room y f = room_front y (part_rows Kernel) (part_rows Rest) (room_back z y (part_rows Front) (part_rows Kernel ++ part_rows Rest) all_room f)

    pub rest_room : (y x : Rows) → Appended z y (part_rows Front) → Appended y x (part_rows Kernel) → Room x (part_rows Rest)
    rest_room y x f k = room_back y x (part_rows Kernel) (part_rows Rest) (room_back z y (part_rows Front) (part_rows Kernel ++ part_rows Rest) all_room f) k

  pub all_kept : ps ≡ parts_of (loop_of b) (schedule_of b) b.turns b.trips → (z y x u : Rows) → Keeps z [] → vec_len z.starts ≡ 1 →
      Appended z y (part_rows Front) → Appended y x (part_rows Kernel) → Appended x u (part_rows Rest) →
      Keeps u (all_rows b m) ×
      (vec_len u.starts ≡ length (all_rows b m) + 1)
  all_kept is z y x u empty one f k r =
      let whole = append_then z y u (part_rows Front) (part_rows Kernel ++ part_rows Rest) f (append_then y x u (part_rows Kernel) (part_rows Rest) k r) in (
        subst (Keeps u) (sym (rows_are is)) (whole.keeps [] empty),
        omega (arith, whole.starts, ap length (rows_are is)),
      )
