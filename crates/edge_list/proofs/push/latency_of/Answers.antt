use Rattle.std.proofs.Common.{sym, ap, ◌∙◌}
use Rattle.model.specs.Soundness.{timing_of}
use Rattle.texts.specs.Records.{machine_seen}
use Rattle.edge_list.proofs.Reading.{latency_at}
use Rattle.edge_list.proofs.push.latency_of.Goals as goal

pub returns-in-Some : goal.returns-in-Some
returns-in-Some c =
    let o = c.in-Some.operation.now in
    let at = c.in-Some.ensures.lookup in
    ap (λ t. t.latency) (c.timing_of.ensures ∙ ap (timing_of (machine_seen c.args.machine.now)) c.code.ensures)
    ∙ sym (latency_at c.args.l.now c.args.machine.now c.operations.result.now c.operations.ensures.operations c.args.definer o o at.3.0 at.1)
