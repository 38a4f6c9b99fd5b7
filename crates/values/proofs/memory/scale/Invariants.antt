use Rattle.std.proofs.Common.{◌≡◌, ◌++◌, map, take, drop}
use Rattle.model.specs.declared.Operator.TheVariants.{Times}
use Rattle.values.proofs.memory.scale.Given as goal

abbrev pub invariant-loop-x : goal.invariant-loop-x
invariant-loop-x g l =
    l.cells ≡ map (λ x. g.D.Domain.operations.apply Times x l.factor) (take l.x-index l.initial.cells) ++ drop l.x-index l.initial.cells
