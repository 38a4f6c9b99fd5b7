-- The laws of the listing.
use Rattle.std.specs.Prelude.{◌≡◌, ℕ, ◌*◌, ◌<◌, ◌≤◌, List, length}
use Rattle.model.specs.declared.Timing.{Timing}
use Rattle.model.specs.Loop.{Loop, op, Hardware, WellFormed}
use Rattle.model.specs.Schedule.{Schedule, FewStages}
use Rattle.model.specs.Schemes.{Meaning, Lawful}
use Rattle.model.specs.Issues.{passes, variable_number}
use Rattle.model.specs.Pipelining.{Means}
use Rattle.model.specs.Codes.{timing_by, form_of}
use Rattle.model.specs.Listing.{Listing, listing, slots_of, passes_run, passes_written, code_of_listing}

-- The machine takes each operation by its code.
pub record ByCode (timings : List Timing) (ops : Loop) (hw : Hardware) : Type 0 where
  pub latency : (j : ℕ) → j < length ops → (timing_by timings (op ops j)).latency ≡ hw.latency j
  pub class : (j : ℕ) → j < length ops → (timing_by timings (op ops j)).class ≡ hw.class j
  pub busy : (j : ℕ) → j < length ops → (timing_by timings (op ops j)).busy ≡ hw.busy j

-- THE LAW: for every loop, every schedule of at most eight stages, every register scheme that keeps its law and has a variable for each definer of the
-- loop, and every trip count, the listing with the scheme's names says, in every cycle of the run, what issues.
abbrev pub ListingMeans : Type 0
ListingMeans =
    (ops : Loop) (hw : Hardware) (w : Schedule) (scheme : Meaning) (trips : ℕ) (timings : List Timing) →
    WellFormed ops hw →
    0 < w.interval →
    FewStages ops w →
    Lawful scheme →
    scheme.variables ≡ variable_number ops (length ops) →
    ByCode timings ops hw →
    Means (form_of scheme.resolve timings w.interval (code_of_listing (listing ops w scheme.name scheme.turns trips))) ops hw w trips scheme.place

-- How long a listing is, for at most 32 operations, at most eight stages, distances up to 7 and 1 to 8 turns.
pub record Sizes (ops : Loop) (w : Schedule) (l : Listing) (trips : ℕ) : Type 0 where
  -- its passes are those of the run, and at most 36 of them are written
  pub run : passes_run l.parts ≡ passes w (length ops) trips
  pub few_passes : passes_written l.parts ≤ 36
  pub rows : length l.rows ≡ passes_written l.parts * l.interval
  -- at most 36 slots for each operation
  pub few_slots : length (slots_of l) ≤ 36 * length ops
  pub slots : length (slots_of l) ≤ 1152

abbrev pub ListingSizes : Type 0
ListingSizes =
    (ops : Loop) (hw : Hardware) (w : Schedule) (name : ℕ → ℕ → ℕ → ℕ) (turns trips : ℕ) →
    WellFormed ops hw → 0 < w.interval → FewStages ops w → 1 ≤ turns → turns ≤ 8 →
    Sizes ops w (listing ops w name turns trips) trips
