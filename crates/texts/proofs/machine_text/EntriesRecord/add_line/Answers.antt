use Rattle.std.proofs.Common.{◌≡◌, map, take, true, sym, ap, ◌∙◌, arith}
use Rattle.std.proofs.lemmas.Grind.{common_steps}
use Rattle.model.specs.Lines.{Line, tokens}
use Rattle.model.specs.Shapes.{every, between}
use Rattle.reader.specs.Seen.{seen}
use Rattle.texts.specs.Seen.{entries_seen}
use Rattle.texts.proofs.LineSteps.{line_unit, line_op, line_other}
use Rattle.texts.proofs.machine_text.EntriesRecord.add_line.Goals as goal

pub returns-in-Some : goal.returns-in-Some
returns-in-Some c =
    let l : Line = record { number = c.args.number; bytes = c.args.line.now } in
    let e : every (between 32 126) l.bytes ≡ true = sym c.all_between.ensures ∙ c.if-not-all_between.false in
    let row = map seen c.as_slice-row.result.now in
    let r : row ≡ take 6 (tokens l) = ap (map seen) c.as_slice-row.ensures.items ∙ c.row_of.ensures in
    c.unit_line.ensures ∙ line_unit (entries_seen c.args.self.now) l e row r c.in-Some.said c.in-Some.ensures

pub returns-in-Some-op_form : goal.returns-in-Some-op_form
returns-in-Some-op_form c =
    let l : Line = record { number = c.args.number; bytes = c.args.line.now } in
    let e : every (between 32 126) l.bytes ≡ true = sym c.all_between.ensures ∙ c.if-not-all_between.false in
    let row = map seen c.as_slice-row.result.now in
    let r : row ≡ take 6 (tokens l) = ap (map seen) c.as_slice-row.ensures.items ∙ c.row_of.ensures in
    c.op_line.ensures ∙ line_op (entries_seen c.args.self.now) l e row r c.in-Some-op_form.said c.in_default.ensures c.in-Some-op_form.ensures

pub returns : goal.returns
returns c =
    let l : Line = record { number = c.args.number; bytes = c.args.line.now } in
    let e : every (between 32 126) l.bytes ≡ true = sym c.all_between.ensures ∙ c.if-not-all_between.false in
    let row = map seen c.as_slice-row.result.now in
    let r : row ≡ take 6 (tokens l) = ap (map seen) c.as_slice-row.ensures.items ∙ c.row_of.ensures in
    line_other (entries_seen c.args.self.now) l e row r c.in_default.ensures c.in_default-op_form.ensures (λ z. grind (arith, common_steps))
