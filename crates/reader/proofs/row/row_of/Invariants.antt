use Rattle.std.proofs.Common.{◌≡◌, ◌+◌, ◌++◌, length, map}
use Rattle.std.specs.Iterator.Adapters.{take_source, take_count}
use Rattle.few.specs.Held.{held}
use Rattle.model.specs.Lines.{tokens}
use Rattle.reader.specs.Seen.{seen, left}
use Rattle.reader.proofs.row.row_of.Given as goal

abbrev pub invariant-loop-token : goal.invariant-loop-token
invariant-loop-token l =
    let it = take_source l.token-iterator in
    (map seen (held l.row) ++ left it.line it.text.now it.at ≡ tokens (record { number = l.number; bytes = l.line }))
    × (length (held l.row) + take_count l.token-iterator ≡ 6)
