-- What is scheduled, as the definitions have it.
use Rattle.std.specs.Prelude.{ℕ}
use Rattle.model.specs.Loop.{Loop, Hardware}
use Rattle.model.specs.Limits.{hardware}
use Rattle.model.specs.Lives.{Table}
use Rattle.model.specs.Schedule.{Schedule}
use Rattle.model.specs.ScheduleLives.{lives_table}
use Rattle.model.specs.Search.{Outcome}
use Rattle.dependence.specs.Loops.{loop_seen}
use Rattle.schedule_laws.specs.Ready.{Ready, searched}
use Rattle.schedule.specs.declared.problem.Problem.{Problem}

abbrev pub operations_in : Problem → Loop
operations_in p = loop_seen p.source.now

abbrev pub machine_in : Problem → Hardware
machine_in p = hardware p.timings.now p.units.now

abbrev pub lives_in : Problem → Schedule → Table
lives_in p w = lives_table (operations_in p) (machine_in p) w

-- No circuit is above k, and each operation alone fits.
abbrev pub ReadyAt : Problem → ℕ → Type 0
ReadyAt p k = Ready (operations_in p) p.edges.now p.timings.now p.units.now k

abbrev pub searched_at : Problem → ℕ → Outcome
searched_at p k = searched (operations_in p) p.edges.now p.timings.now p.units.now k
