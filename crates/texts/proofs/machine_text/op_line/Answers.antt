use Rattle.std.proofs.Common.{◌≡◌, Some, ap, arith}
use Rattle.std.proofs.lemmas.Grind.{common_steps}
use Rattle.texts.specs.Seen.{classes_seen}
use Rattle.texts.proofs.Places.{is_named, is_place}
use Rattle.texts.proofs.machine_text.op_line.Goals as goal

pub returns-in_err-class : goal.returns-in_err-class
returns-in_err-class c =
    let same = ap classes_seen c.as_slice.ensures.items in
    let n = is_named c.args.said.class.part.text.now c.as_slice.result.now c.place_of-place.result c.place_of-place.ensures in
    grind (arith, common_steps)

pub returns : goal.returns
returns c =
    let w = c.args.said.class.part.text.now in
    let same = ap classes_seen c.as_slice.ensures.items in
    let some : c.place_of-place.result ≡ Some c.in_ok-class.class = grind (arith, common_steps) in
    let n = is_named w c.as_slice.result.now c.place_of-place.result c.place_of-place.ensures in
    let p = is_place w c.as_slice.result.now c.place_of-place.result c.place_of-place.ensures c.in_ok-class.class some in
    grind (arith, common_steps)
