use Rattle.std.proofs.Common.{◌≡◌, length, map, refl, rules, arith}
use Rattle.std.proofs.lemmas.Grind.{common_steps}
use lib.ListN.{length-map}
use Rattle.model.specs.declared.MachineForm.TheVariants.{Op}
use Rattle.model.specs.MachineText.{wants}
use Rattle.reader.specs.Seen.{seen}
use Rattle.reader.proofs.Walk.{fits_len, by_five}
use Rattle.texts.proofs.machine_text.op_form.Goals.{in_default-via-then-row-lt5, in_default-via-else-row-lt5+else-row-lt6}
use Rattle.texts.proofs.machine_text.op_form.Goals as goal

pub returns-in_default : goal.returns-in_default
returns-in_default c =
    let ts = map seen c.args.row.now in
    fits_len (wants Op) ts
    (λ e.
    let five : length c.args.row.now ≡ 5 = omega (arith, length-map c.args.row.now seen, e) in
    elim c.in_default.branch [
      | in_default-via-then-row-lt5 w ↦ grind (arith, common_steps)
      | in_default-via-else-row-lt5+else-row-lt6 w ↦ grind (arith, common_steps)
    ])

pub returns : goal.returns
returns c =
    let row = c.args.row.now in
    let all = by_five row c.head-item.result c.code_token-item.result c.class-item.result c.latency-item.result c.busy-item.result
    c.head-item.is c.code_token-item.is c.class-item.is c.latency-item.is c.busy-item.is (omega arith) in
    simp all (grind (arith, common_steps), refl, search rules, search rules, search rules)
