use Rattle.std.proofs.Common.{vec_items, vec_len, arith}
use Rattle.std.proofs.lemmas.List.{get_or_read_under}
use Rattle.listing.proofs.Cuts.{too_late, too_low, start_there, row_said}
use Rattle.listing.proofs.reading.ListingCodeForm.row.Goals as goal
use Rattle.listing.proofs.reading.ListingCodeForm.row.Goals.{then-pass-passes-via-then-pass-passes, then-pass-passes-via-else-pass-passes+then-row-self}

pub returns-then-pass-passes : goal.returns-then-pass-passes
returns-then-pass-passes c = elim c.then-pass-passes.branch [
  | then-pass-passes-via-then-pass-passes w ↦ too_late c.args.self.now c.args.pass c.args.row (omega (arith, w.if-pass-passes.true, c.passes.ensures))
  | then-pass-passes-via-else-pass-passes+then-row-self w ↦ too_low c.args.self.now c.args.pass c.args.row w.if-row-self.true
]

pub returns : goal.returns
returns c =
    let l = c.args.self.now in
    let there = start_there l c.written_pass.result c.args.row c.written_pass.ensures.bound c.if-row-self.false in
    row_said l c.args.pass c.args.row c.written_pass.result c.index.result.now c.index-2.result.now (omega (arith, c.if-pass-passes.false, c.passes.ensures)) c.if-row-self.false c.written_pass.ensures.value
    (get_or_read_under (vec_items l.rows.starts) _ (vec_len l.rows.starts) c.index.result.now 0 c.index.ensures (omega arith) l.rows.starts.ok.0)
    (get_or_read_under (vec_items l.rows.starts) _ (vec_len l.rows.starts) c.index-2.result.now 0 c.index-2.ensures there l.rows.starts.ok.0)
