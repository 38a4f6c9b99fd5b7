use Rattle.std.proofs.Common.{refl, rules, arith}
use Rattle.std.proofs.lemmas.Grind.{common_steps}
use Rattle.reader.proofs.Walk.{by_five}
use Rattle.statements.proofs.loop_form.load_form.Goals as goal

pub returns : goal.returns
returns c =
    let row = by_five c.args.row.now c.name-item.result c.equals-item.result c.code-item.result c.stride-item.result c.offset-item.result
    c.name-item.is c.equals-item.is c.code-item.is c.stride-item.is c.offset-item.is (omega arith) in
    simp row (grind (arith, common_steps), refl, (search rules, search rules, search rules))
