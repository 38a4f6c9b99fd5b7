use Rattle.std.proofs.Common.{◌+◌, set, ap, ◌∙◌, add-one}
use Rattle.std.proofs.lemmas.List.{map-set}
use Rattle.bounds.specs.Kept.{number_of}
use Rattle.bounds.proofs.marking.Marks.set.Goals as goal

pub returns : goal.returns
returns c =
    let kept = c.self.inside.kept in
    let i = c.args.operation in
    map-set number_of kept i (c.args.number + 1) ∙ ap (λ xs. set xs i (number_of (c.args.number + 1))) c.self.view_is ∙ ap (λ m. set c.args.self.now i (number_of m)) (add-one c.args.number)
