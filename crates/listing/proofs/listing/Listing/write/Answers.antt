use Rattle.std.proofs.Common.{◌≤◌, length, refl, arith, rules}
use Rattle.std.proofs.lemmas.Grind.{common_steps}
use Rattle.model.specs.Schedule.{stages}
use Rattle.dependence.specs.Loops.{loop_seen}
use Rattle.timing.specs.Seen.{schedule_seen}
use Rattle.listing.proofs.Filled.{deep, near, ready, is_listing, means_issues, stages_same, owed}
use Rattle.listing.proofs.listing.Listing.write.Goals as goal

pub overflow_sub-stages : goal.overflow_sub-stages
overflow_sub-stages g c = deep c.new-body.result c.depth-stages.result c.depth-stages.ensures

pub overflow_add-stages : goal.overflow_add-stages
overflow_add-stages g c = omega (arith, near c.new-body.result c.farthest.result c.farthest.ensures, c.if-stages-gt8.false)

pub split-parts-requires-clause-shallow : goal.split-parts-requires-clause-shallow
split-parts-requires-clause-shallow g c = (deep c.new-body.result c.depth-stages.result c.depth-stages.ensures, c.if-stages-gt8.false)

pub write-requires : goal.write-requires
write-requires g c =
    let b = c.new-body.result in
    let known = c.new-body.ensures in
    let m = g.S.Scheme.meaning in
    let d = c.depth-stages.result in
    let f = c.farthest.result in
    let low : 1 ≤ c.args.schedule.now.interval = grind (arith, common_steps) in
    let high : c.args.schedule.now.interval ≤ 256 = grind (arith, common_steps) in
    let few : c.args.turns ≤ 8 = grind (arith, common_steps) in
    let r = ready b m c.args.schedule.now d f c.args.turns c.args.trips c.split-parts.result known.schedule low high known.turns few known.trips c.if-trips-gt4096.false
    c.depth-stages.ensures c.if-stages-gt8.false c.farthest.ensures c.split-parts.ensures in
    record { parts = r.parts; few = r.few; slots = r.slots; rows = r.rows }

pub invariant_of-self : goal.invariant_of-self
invariant_of-self g c =
    let b = c.new-body.result in
    let known = c.new-body.ensures in
    let m = g.S.Scheme.meaning in
    let d = c.depth-stages.result in
    let f = c.farthest.result in
    let low : 1 ≤ c.args.schedule.now.interval = grind (arith, common_steps) in
    let high : c.args.schedule.now.interval ≤ 256 = grind (arith, common_steps) in
    let few : c.args.turns ≤ 8 = grind (arith, common_steps) in
    let r = ready b m c.args.schedule.now d f c.args.turns c.args.trips c.split-parts.result known.schedule low high known.turns few known.trips c.if-trips-gt4096.false
    c.depth-stages.ensures c.if-stages-gt8.false c.farthest.ensures c.split-parts.ensures in
    let o = owed b m c.args.schedule.now c.split-parts.result c.write.new.self known.schedule high r c.write.ensures.starts in
    record { counted = o.counted; short = o.short; runs = o.runs; narrow = o.narrow }

pub returns : goal.returns
returns g c =
    let b = c.new-body.result in
    let known = c.new-body.ensures in
    let m = g.S.Scheme.meaning in
    let d = c.depth-stages.result in
    let f = c.farthest.result in
    let low : 1 ≤ c.args.schedule.now.interval = grind (arith, common_steps) in
    let high : c.args.schedule.now.interval ≤ 256 = grind (arith, common_steps) in
    let few : c.args.turns ≤ 8 = grind (arith, common_steps) in
    let r = ready b m c.args.schedule.now d f c.args.turns c.args.trips c.split-parts.result known.schedule low high known.turns few known.trips c.if-trips-gt4096.false
    c.depth-stages.ensures c.if-stages-gt8.false c.farthest.ensures c.split-parts.ensures in
    let ops = loop_seen c.args.source.now in
    let w = schedule_seen c.args.schedule.now in
    let shallow : stages w (length ops) ≤ 8 = omega (arith, stages_same b d ops c.args.schedule.now known.source known.schedule c.depth-stages.ensures, c.if-stages-gt8.false) in
    let is = is_listing _ b m ops c.args.schedule.now c.args.scheme.now c.args.turns c.args.trips known.source known.schedule known.scheme known.turns known.trips r c.write.ensures.keeps refl refl in
    record {
      written = (search rules, is);
      means = means_issues _ ops w (m c.args.scheme.now) c.args.turns c.args.trips (g.met.S.Scheme.lawful c.args.scheme.now) low shallow is;
    }
