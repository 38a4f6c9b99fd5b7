use Rattle.std.proofs.Common.{sym, refl, ◌∙◌}
use Rattle.engine_writes.proofs.Issued.{made_waits, unmade_waits}
use Rattle.engine_writes.specs.Lists.{lists_of}
use Rattle.engine_writes.proofs.issuing.await_one.Goals as goal

pub returns-then-makes : goal.returns-then-makes
returns-then-makes g c = λ file within.
    made_waits g.D.Domain.operations c.args.operands.now.values.now c.args.row.pass c.args.memory.now c.args.row.cycle file c.args.slot c.args.waiting.now (lists_of c.args.dues.now)
    c.evaluate-value.result _ (sym c.makes.ensures ∙ c.if-makes.true) c.requires.1.0 c.requires.0.timing.latency
    (c.evaluate-value.ensures ∙ rw c.saturating_sub-iteration.ensures refl) c.push.ensures within

pub returns-else-makes : goal.returns-else-makes
returns-else-makes g c = λ file within. unmade_waits g.D.Domain.operations c.args.operands.now.values.now c.args.row.pass c.args.memory.now c.args.row.cycle file c.args.slot c.args.waiting.now (lists_of c.args.dues.now) (sym c.makes.ensures ∙ c.if-makes.false)
