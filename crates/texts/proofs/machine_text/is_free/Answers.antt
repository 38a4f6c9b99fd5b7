use Rattle.std.proofs.Common.{arith}
use Rattle.std.proofs.lemmas.Grind.{common_steps}
use Rattle.texts.proofs.Places.{is_named}
use Rattle.texts.proofs.machine_text.is_free.Goals as goal

pub returns-then-not-is_reserved : goal.returns-then-not-is_reserved
returns-then-not-is_reserved c =
    let n = is_named c.args.word.now c.args.classes.now c.place_of.result c.place_of.ensures in
    grind (arith, common_steps)
