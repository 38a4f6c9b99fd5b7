-- A schedule of the code as the definitions have it.
use Rattle.std.specs.Prelude.{slice_index}
use Rattle.model.specs.Schedule.{Schedule}
use Rattle.timing.specs.declared.schedule.Schedule.{Schedule as OwnSchedule}

-- The time of each operation stands in its place, 0 behind the last place.
abbrev pub schedule_seen : OwnSchedule → Schedule
schedule_seen s = record { interval = s.interval; time = λ j. slice_index s.times j }
