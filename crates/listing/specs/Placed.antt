-- Operations with their places in a schedule.
use Rattle.std.specs.Prelude.{◌≡◌, ℕ, ◌<◌, List, map, length, slice_index_or}
use Rattle.model.specs.Loop.{Loop, op}
use Rattle.model.specs.Schedule.{Schedule, stage, row}
use Rattle.model.specs.Issues.{variable_number}
use Rattle.dependence.specs.Operations.{operation_seen}
use Rattle.listing.specs.declared.placed.Placed.{Placed}

abbrev pub operations_placed : List Placed → Loop
operations_placed ps = map (λ p. operation_seen p.operation) ps

-- As operation j of the loop stands in the schedule.
pub record PlacedAt (ops : Loop) (w : Schedule) (j : ℕ) (p : Placed) : Type 0 where
  pub operation : operation_seen p.operation ≡ op ops j
  pub variable : p.variable ≡ variable_number ops j
  pub stage : p.stage ≡ stage w j
  pub row : p.row ≡ row w j

abbrev pub AllPlaced : Loop → Schedule → List Placed → Type 0
AllPlaced ops w ps = (j : ℕ) (p : Placed) → j < length ps → p ≡ slice_index_or ps j p → PlacedAt ops w j p
