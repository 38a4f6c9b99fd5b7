-- Where there is no minimum, there is no schedule.
use Rattle.bounds.specs.declared.answer.NoMinimum.{NoMinimum}
use Rattle.bounds.specs.declared.answer.NoMinimum.TheVariants.{Outside as OutsideMinimum, Standing as StandingCircuit}
use Rattle.schedule.specs.declared.answer.NoSchedule.{NoSchedule}
use Rattle.schedule.specs.declared.answer.NoSchedule.TheVariants.{Outside, Standing}

abbrev pub refused_as : NoMinimum → NoSchedule
refused_as OutsideMinimum = Outside
refused_as StandingCircuit = Standing
