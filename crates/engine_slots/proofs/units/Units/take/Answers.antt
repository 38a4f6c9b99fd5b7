use Rattle.std.proofs.Common.{◌≡◌, ◌+◌, ◌-◌, ◌^◌, ◌<◌, [], sym, refl, subst, arith}
use Rattle.std.proofs.lemmas.List.{length-set}
use Rattle.engine_slots.specs.Boards.{taken_in}
use Rattle.engine_slots.proofs.Taking.{room_for, taken_more}
use Rattle.engine_slots.proofs.units.Units.take.Goals as goal

pub count_one-requires-clause-room : goal.count_one-requires-clause-room
count_one-requires-clause-room c =
    let n = c.loop-y.y - c.args.cycle in
    let at : c.args.cycle + n ≡ c.loop-y.y = omega arith in
    rw (room_for c.loop-y.self.taken c.args.self.now.taken [] c.args.cycle n c.loop-y.y (n + 1) c.args.class (sym at) refl c.requires.small.0 (omega arith) c.loop-y.invariant)
    (subst (λ y. taken_in c.args.self.now c.args.class y < 2 ^ 64 - 1) at (c.requires.room n (omega arith)))

pub loop-y-preserved : goal.loop-y-preserved
loop-y-preserved c =
    taken_more c.loop-y.self.taken c.args.self.now.taken _ c.args.cycle (c.loop-y.y - c.args.cycle) c.loop-y.y _ c.args.class (omega arith) (omega arith) c.requires.small.0 (omega arith) c.loop-y.invariant
    (omega (arith, simp length-set at c.count_one.array_long)) c.count_one.ensures.one c.count_one.ensures.others
