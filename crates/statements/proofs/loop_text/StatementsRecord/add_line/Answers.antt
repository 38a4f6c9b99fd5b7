use Rattle.std.proofs.Common.{◌≡◌, map, take, true, sym, ap, ◌∙◌, arith}
use Rattle.std.proofs.lemmas.Grind.{common_steps}
use Rattle.model.specs.Lines.{Line, tokens}
use Rattle.model.specs.Shapes.{every, between}
use Rattle.reader.specs.Seen.{seen}
use Rattle.statements.specs.Records.{statements_seen}
use Rattle.statements.proofs.LoopSteps.{line_said, line_other}
use Rattle.statements.proofs.loop_text.StatementsRecord.add_line.Goals as goal

pub returns-in-Some : goal.returns-in-Some
returns-in-Some c =
    let l : Line = record { number = c.args.number; bytes = c.args.line.now } in
    let e : every (between 32 126) l.bytes ≡ true = sym c.all_between.ensures ∙ c.if-not-all_between.false in
    let row = map seen c.as_slice-row.result.now in
    let r : row ≡ take 6 (tokens l) = ap (map seen) c.as_slice-row.ensures.items ∙ c.row_of.ensures in
    c.form_line.ensures ∙ line_said (statements_seen c.args.self.now) l e row r c.in-Some.form c.in-Some.ensures

pub returns : goal.returns
returns c =
    let l : Line = record { number = c.args.number; bytes = c.args.line.now } in
    let e : every (between 32 126) l.bytes ≡ true = sym c.all_between.ensures ∙ c.if-not-all_between.false in
    let row = map seen c.as_slice-row.result.now in
    let r : row ≡ take 6 (tokens l) = ap (map seen) c.as_slice-row.ensures.items ∙ c.row_of.ensures in
    line_other (statements_seen c.args.self.now) l e row r c.in_default.ensures (λ z. grind (arith, common_steps))
