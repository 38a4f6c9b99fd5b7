use Rattle.std.proofs.Common.{◌≡◌, ◌+◌, ◌-◌, ◌*◌, ◌^◌, ◌<◌, ◌≤◌, true, length, drop, fold}
use Rattle.model.specs.Shapes.{every, digit}
use Rattle.reader.proofs.words.digits_value.Given as goal

abbrev pub invariant-loop-b : goal.invariant-loop-b
invariant-loop-b l =
    (fold (λ n b. n * 10 + (b - 48)) l.n (drop l.b-index l.s) ≡ fold (λ n b. n * 10 + (b - 48)) 0 l.s)
    × (every digit (drop l.b-index l.s) ≡ true)
    × (length l.s ≤ 10)
    × (l.n < 10 ^ l.b-index)
