use Rattle.std.proofs.Common.{◌≡◌, ◌++◌, take}
use Rattle.bounds.specs.Paths.{numbers}
use Rattle.bounds.proofs.path.Path.extend.Given as goal

abbrev pub invariant-loop-number : goal.invariant-loop-number
invariant-loop-number l = numbers l.self ≡ numbers l.initial.self ++ take l.number-index l.more
