use Rattle.std.proofs.Common.{◌≡◌, map, length, take, sym, ap, ◌∙◌, arith}
use Rattle.std.proofs.lemmas.Grind.{common_steps}
use Rattle.std.proofs.lemmas.List.{take_all}
use mathlib.Core.List.{map-map}
use Rattle.few.specs.Held.{held}
use Rattle.texts.specs.Seen.{class_seen}
use Rattle.dependence.proofs.hardware.units_of.Goals as goal

pub returns-clause-value : goal.returns-clause-value
returns-clause-value c =
    let classes = held c.args.machine.now.entries.classes in
    let all = ap length c.as_slice-classes.ensures.items in
    let end : length classes ≡ c.loop-place.place = omega arith in
    ap (λ n. take n c.loop-place.units) end ∙ c.loop-place.invariant.1
    ∙ ap (map (λ k. k.units)) (take_all c.loop-place.place classes (omega arith)) ∙ sym (map-map (λ k. k.count) class_seen classes)
