-- What the writing of a listing answers and leaves.
use Rattle.std.specs.Prelude.{◌≡◌, ℕ, cond, ◌&&◌, List, map, length, Some, None, Ok, Err, vec_items, Option, Result, nat_le}
use Rattle.model.specs.declared.Timing.{Timing}
use Rattle.model.specs.Loop.{Loop, Hardware, WellFormed}
use Rattle.model.specs.Schedule.{Schedule, stages}
use Rattle.model.specs.Schemes.{Meaning}
use Rattle.model.specs.Issues.{variable_number}
use Rattle.model.specs.Pipelining.{Means}
use Rattle.model.specs.Codes.{form_of}
use Rattle.model.specs.Listing as listings
use Rattle.model.specs.Listing.{slots_of, code_of_listing, listing}
use Rattle.model.specs.ListingLaws.{ByCode}
use Rattle.listing.specs.declared.refusal.Unwritable.{Unwritable}
use Rattle.listing.specs.declared.refusal.Unwritable.TheVariants.{Interval, Turns, Trips, Stages}
use Rattle.listing.specs.declared.listing.Listing.{Listing}
use Rattle.listing.specs.Views.{slot_seen}
use Rattle.listing.specs.Forms.{rows_said}

-- A listing of the code is one of the definitions: the same slots in the same order, the same parts, trips and interval, and each row says the same.
pub record Is (l : Listing) (d : listings.Listing) : Type 0 where
  pub slots : map slot_seen (vec_items l.rows.slots) ≡ slots_of d
  pub parts : l.parts ≡ d.parts
  pub trips : l.trips ≡ d.trips
  pub interval : l.interval ≡ d.interval
  pub says : (p r : ℕ) → rows_said l p r ≡ code_of_listing d p r

abbrev pub within : ℕ → ℕ → ℕ → Option Unwritable → Unwritable → Option Unwritable
within low x high rest complaint = cond (nat_le low x && nat_le x high) rest (Some complaint)

-- The first of these that does not hold: an interval of 1 to 256, 1 to 8 turns, at most 4,096 trips, at most eight stages.
abbrev pub complaint : Loop → Schedule → ℕ → ℕ → Option Unwritable
complaint ops w turns trips =
    within 1 w.interval 256 (within 1 turns 8 (within 0 trips 4096 (within 0 (stages w (length ops)) 8 None Stages) Trips) Turns) Interval

-- It is written, or there is a complaint and it stays as it was.
abbrev pub Answered : Listing → Listing → Loop → Schedule → (ℕ → ℕ → ℕ → ℕ) → ℕ → ℕ → Result Unit Unwritable → Type 0
Answered before after ops w name turns trips (Ok u) = (complaint ops w turns trips ≡ None) × Is after (listing ops w name turns trips)
Answered before after ops w name turns trips (Err e) = (complaint ops w turns trips ≡ Some e) × (after ≡ before)

-- With the turns of a scheme that has a variable for each definer, what is written means what issues.
abbrev pub Meant : Listing → Loop → Schedule → Meaning → ℕ → ℕ → Result Unit Unwritable → Type 0
Meant after ops w scheme turns trips (Ok u) =
    turns ≡ scheme.turns → scheme.variables ≡ variable_number ops (length ops) →
    (hw : Hardware) (timings : List Timing) → WellFormed ops hw → ByCode timings ops hw →
    Means (form_of scheme.resolve timings w.interval (rows_said after)) ops hw w trips scheme.place
Meant after ops w scheme turns trips (Err e) = Unit {0}
