use Rattle.std.proofs.Common.{arith}
use Rattle.listing.proofs.Whole.{front_room, kernel_room, rest_room, all_kept}
use Rattle.listing.proofs.rows.Rows.write.Goals as goal

pub push_part-requires : goal.push_part-requires
push_part-requires g c = record {
  few = omega (arith, c.requires.few);
  room = front_room c.args.body.now g.S.Scheme.meaning c.args.parts c.requires.parts c.clear.new.self
      c.clear.ensures.slots c.clear.ensures.starts c.requires.slots c.requires.rows;
}

pub push_part-requires-2 : goal.push_part-requires-2
push_part-requires-2 g c = record {
  few = omega (arith, c.requires.few);
  room = kernel_room c.args.body.now g.S.Scheme.meaning c.args.parts c.requires.parts c.clear.new.self
      c.clear.ensures.slots c.clear.ensures.starts c.requires.slots c.requires.rows c.push_part.new.self c.push_part.ensures;
}

pub push_part-requires-3 : goal.push_part-requires-3
push_part-requires-3 g c = record {
  few = omega (arith, c.requires.few);
  room = rest_room c.args.body.now g.S.Scheme.meaning c.args.parts c.requires.parts c.clear.new.self
      c.clear.ensures.slots c.clear.ensures.starts c.requires.slots c.requires.rows c.push_part.new.self c.push_part-2.new.self c.push_part.ensures c.push_part-2.ensures;
}

pub returns : goal.returns
returns g c =
    let all = all_kept c.args.body.now g.S.Scheme.meaning c.args.parts c.requires.parts c.clear.new.self c.push_part.new.self
    c.push_part-2.new.self c.push_part-3.new.self c.clear.ensures.keeps c.clear.ensures.starts c.push_part.ensures c.push_part-2.ensures c.push_part-3.ensures in
    record { keeps = all.0; starts = all.1 }
