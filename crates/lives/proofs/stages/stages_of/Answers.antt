use Rattle.std.proofs.Common.{ap, ◌∙◌, arith}
use Rattle.model.specs.Schedule.{stages}
use Rattle.timing.specs.Seen.{schedule_seen}
use Rattle.lives.proofs.Loops.{count_is}
use Rattle.lives.proofs.Folded.{stages_folded}
use Rattle.lives.proofs.stages.stages_of.Goals as goal

pub returns : goal.returns
returns c =
    c.stages_among.ensures ∙
    (stages_folded c.args.schedule.now _ (omega (arith, c.operations.ensures.few)) ∙ ap (stages (schedule_seen c.args.schedule.now)) (count_is c.args.l.now _ c.operations.ensures.operations))
