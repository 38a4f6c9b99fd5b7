-- The plan: the first interval at which the search succeeds, or the sequential schedule.
use Rattle.std.specs.Prelude.{◌≡◌, ℕ, zero, suc, ◌+◌, ◌-◌, ◌≤◌, Bool, false, cond, ◌&&◌, List, length, nat_le}
use Rattle.model.specs.Loop.{Loop, Hardware, total}
use Rattle.model.specs.Edges.{Edge}
use Rattle.model.specs.Minimum.{IsMinimum, IsHeight}
use Rattle.model.specs.Schedule.{Schedule, stages, sequential}
use Rattle.model.specs.ScheduleLives.{lives_table}
use Rattle.model.specs.Lives.{Table}
use Rattle.model.specs.Search.{Outcome, found, failed, search}

-- A schedule and the steps of all intervals tried; or a refusal.
pub data Plan : Type 0 where
  planned : Schedule → ℕ → Plan
  refused : Plan

abbrev pub at_interval : ℕ → (ℕ → ℕ) → Schedule
at_interval k time = record { interval = k; time = time }

abbrev pub steps_of : Outcome → ℕ
steps_of (found time taken) = taken
steps_of (failed taken) = taken

abbrev pub found_at : ℕ → Outcome → Schedule
found_at k (found time taken) = at_interval k time
found_at k (failed taken) = at_interval k (λ _. 0)

-- For a register scheme that needs so much and has a file of this size.
module _ (ops : Loop) (hw : Hardware) (need : Table → ℕ) (file : ℕ) where
  -- The scheme takes a schedule if what it needs for its lives is within its file.
  abbrev pub takes : Schedule → Bool
  takes w = nat_le (need (lives_table ops hw w)) file

  -- What the search at k found counts if it has at most eight stages and the scheme takes it.
  unfoldable pub succeeds : ℕ → Outcome → Bool
  succeeds k (found time taken) = nat_le (stages (at_interval k time) (length ops)) 8 && takes (at_interval k time)
  succeeds k (failed taken) = false

  -- The sequential schedule, without search.
  abbrev pub in_sequence : ℕ → Plan
  in_sequence steps = cond (takes (sequential ops hw)) (planned (sequential ops hw) steps) refused

-- With these edges, and by the heights of the operations at each interval.
module _ (ops : Loop) (es : List Edge) (hw : Hardware) (height : ℕ → ℕ → ℕ) (need : Table → ℕ) (file : ℕ) where
  -- So many intervals from k on, after so many steps.
  unfoldable pub plan_from : ℕ → ℕ → ℕ → Plan
  plan_from k zero steps = in_sequence ops hw need file steps
  plan_from k (suc m) steps =
      let o = search es hw (length ops) (height k) k in
      let now = steps + steps_of o in
      let later = plan_from (suc k) m now in
      cond (succeeds ops hw need file k o) (planned (found_at k o) now) later

  -- From the lowest interval to the sum of the latencies.
  abbrev pub plan : ℕ → Plan
  plan lowest = plan_from lowest (total hw.latency (length ops) - lowest) 0

-- THE PLAN of a loop with these edges on a machine with so many classes, for a register scheme: from the minimum on, by the heights.
pub record IsPlan (ops : Loop) (es : List Edge) (hw : Hardware) (classes : ℕ) (need : Table → ℕ) (file lowest : ℕ) (p : Plan) : Type 0 where
  pub minimum : IsMinimum es hw (length ops) classes lowest
  pub height : ℕ → ℕ → ℕ
  pub heights : (k : ℕ) → lowest ≤ k → (u : ℕ) → IsHeight es k u (height k u)
  pub is : p ≡ plan ops es hw height need file lowest
