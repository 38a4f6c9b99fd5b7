use Rattle.std.proofs.Common.{◌≡◌, ◌+◌, length, map, arith}
use lib.ListN.{length-map}
use Rattle.std.specs.Iterator.Adapters.{take_source, take_count}
use Rattle.few.specs.Held.{held}
use Rattle.model.specs.Lines.{tokens}
use Rattle.reader.specs.Seen.{seen, left}
use Rattle.reader.proofs.Walk.{first_few}
use Rattle.reader.proofs.row.row_of.Goals as goal

pub returns : goal.returns
returns c =
    let row = c.loop-token.row in
    let it = take_source c.loop-token.token-iterator in
    let n = take_count c.loop-token.token-iterator in
    let inv = c.loop-token.invariant in
    let room : length (map seen (held row)) + n ≡ 6 = omega (arith, length-map (held row) seen, inv.1) in
    first_few (map seen (held row)) (left it.line it.text.now it.at) (tokens (record { number = c.args.number; bytes = c.args.line.now })) n 6 inv.0 room (λ p. (c.in-None.ensures.steps p).0)
