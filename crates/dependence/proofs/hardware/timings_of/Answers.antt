use Rattle.std.proofs.Common.{sym, ◌∙◌, rules}
use Rattle.std.proofs.lemmas.Simd.{map-map}
use Rattle.few.specs.Held.{held}
use Rattle.few.proofs.Zipped.{zipped_same}
use Rattle.model.specs.Soundness.{code_of, timing_of}
use Rattle.texts.specs.Records.{machine_seen}
use Rattle.dependence.specs.Operations.{operation_seen}
use Rattle.dependence.proofs.hardware.timings_of.Goals as goal

pub returns : goal.returns
returns c =
    let m = machine_seen c.args.machine.now in
    zipped_same _ (λ o. timing_of m (code_of (operation_seen o))) (λ x y r. search rules) (held c.args.l.now.body) (held c.map.result) c.map.ensures
    ∙ sym (map-map (λ o. timing_of m (code_of o)) operation_seen (held c.args.l.now.body))
