use Rattle.std.proofs.Common.{ltb, refl, ◌∙◌, arith, rules, tests}
use Rattle.std.proofs.lemmas.Iterator.{YieldsList-from_range}
use Rattle.std.proofs.lemmas.Iterator.Search.{all_from_yields_List}
use Rattle.engine_laws.proofs.Below.{all_in_range}
use Rattle.engine_slots.specs.Boards.{taken_in}
use Rattle.engine_slots.proofs.units.Units.are_free.Goals as goal

pub returns : goal.returns
returns c =
    let free = λ (y : _). ltb (taken_in c.args.self.now c.args.class y) c.args.units in
    all_from_yields_List free _ _ c.all.result c.all.ensures.ran (YieldsList-from_range c.args.cycle _ c.args.busy refl (omega arith)) (λ x b q k. search (rules, tests))
    ∙ all_in_range free c.args.cycle c.args.busy
