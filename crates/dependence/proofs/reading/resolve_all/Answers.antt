use Rattle.std.proofs.Common.{sym, ◌∙◌, rules}
use Rattle.std.proofs.lemmas.Simd.{map-map}
use Rattle.few.specs.Held.{held}
use Rattle.few.proofs.Zipped.{zipped_map}
use Rattle.statements.specs.Statements.{statement_seen, all_seen}
use Rattle.dependence.specs.Operations.{operation_seen}
use Rattle.dependence.proofs.Split.{looked_up}
use Rattle.dependence.proofs.reading.resolve_all.Goals as goal

pub returns : goal.returns
returns c =
    let xs = held c.args.statements.now.items in
    zipped_map _ operation_seen (λ s. looked_up (all_seen xs) (statement_seen s)) (λ x y r. search rules) xs (held c.map.result) c.map.ensures
    ∙ sym (map-map (looked_up (all_seen xs)) statement_seen xs)
