-- The lent files as the definitions have them; d stands behind their ends.
use Rattle.std.specs.Prelude.{◌≡◌, ℕ, ◌+◌, ◌<◌, Bool, cond, ◌&&◌, ◌⊎◌, List, get_or, ◌==◌, ◌≢◌, slice_index_or}
use Rattle.std.specs.List.{All}
use Rattle.model.specs.declared.Status.{Status}
use Rattle.model.specs.declared.Status.TheVariants.{Never, Landed}
use Rattle.model.specs.Driving as driving
use Rattle.model.specs.Driving.{awaits}
use Rattle.engine_laws.specs.Dues.{Pending}
use Rattle.engine_writes.specs.declared.waiting.Waiting.{Waiting}

abbrev pub entry_of : {V : Type 0} → Waiting V → driving.Waiting V
entry_of w = record { due = w.due; value = w.value }

abbrev pub value_file : {V : Type 0} → V → List V → ℕ → V
value_file d values r = slice_index_or values r d

abbrev pub waiting_file : {V : Type 0} → V → List (Waiting V) → ℕ → driving.Waiting V
waiting_file d waiting r = entry_of (slice_index_or waiting r (record { due = 0; value = d }))

module _ {V : Type 0} (c : ℕ) (waiting : List (Waiting V)) (status : List Status) (values : List V) where
  -- the write to register r that is due in cycle c
  abbrev pub lands_by : V → ℕ → Bool
  lands_by d r = awaits (slice_index_or status r Never) && (waiting_file d waiting r).due == c

  -- Register r after the landings; and as it was.
  abbrev pub Done : List Status → List V → V → ℕ → Type 0
  Done status' values' d r =
      (slice_index_or status' r Never ≡ cond (lands_by d r) Landed (slice_index_or status r Never)) ×
      (slice_index_or values' r d ≡ cond (lands_by d r) (waiting_file d waiting r).value (slice_index_or values r d))

  abbrev pub Same : List Status → List V → V → ℕ → Type 0
  Same status' values' d r = (slice_index_or status' r Never ≡ slice_index_or status r Never) × (slice_index_or values' r d ≡ slice_index_or values r d)

  -- register r alone
  abbrev pub LandsOne : ℕ → List Status → List V → Type 0
  LandsOne r status' values' = (d : V) → Done status' values' d r × ((q : ℕ) → (q ≢ r) → Same status' values' d q)

  -- Some have landed; so have those of a list, or those of the file.
  abbrev pub Between : List Status → List V → V → Type 0
  Between status' values' d = (r : ℕ) → Done status' values' d r ⊎ Same status' values' d r

  abbrev pub LandsListed : List ℕ → List Status → List V → Type 0
  LandsListed list status' values' = (d : V) → Between status' values' d × All (Done status' values' d) list

  abbrev pub LandsBelow : ℕ → List Status → List V → Type 0
  LandsBelow file status' values' = (d : V) → Between status' values' d × ((r : ℕ) → r < file → Done status' values' d r)

  -- All that are due, if the lists are right; and they are right again for the next cycle.
  abbrev pub LandsAll : ℕ → (ℕ → List ℕ) → List Status → List V → (ℕ → List ℕ) → Type 0
  LandsAll file lists status' values' lists' =
      (d : V) → Pending file c (λ r. get_or status r Never) (waiting_file d waiting) lists →
      ((r : ℕ) → Done status' values' d r) × Pending file (c + 1) (λ r. get_or status' r Never) (waiting_file d waiting) lists'
