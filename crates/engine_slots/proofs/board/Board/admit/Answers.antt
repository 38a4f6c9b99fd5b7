use Rattle.std.proofs.Common.{◌≡◌, true, false, cond, set, subst, sym, ◌∙◌, arith, rules}
use Rattle.model.specs.declared.Status.TheVariants.{Waits}
use Rattle.model.specs.Loop.{makes}
use Rattle.engine_laws.specs.Tracks.{Tracks}
use Rattle.engine_laws.specs.Parts.{status_after, taken_after}
use Rattle.engine_laws.proofs.Examining.{slot_tracked, room_left}
use Rattle.engine_slots.specs.Slots.{slot_of, operation_of}
use Rattle.engine_slots.specs.Boards.{taken_in}
use Rattle.engine_slots.proofs.Questions.{none_denied}
use Rattle.engine_slots.proofs.board.Board.admit.Goals as goal

pub take-requires : goal.take-requires
take-requires c = record {
  small = search rules;
  room = room_left c.args.self.now.statuses.status (taken_in c.args.self.now.units) (λ _. c.args.units) c.args.bounds.trips c.args.bounds.cells c.args.row.pass c.args.row.cycle (slot_of c.args.slot.now)
      (none_denied _ c.in_ok-ask.field-0 c.in_ok-ask.ensures) (omega (arith, c.ranges.units.fits));
}

pub returns-then-makes : goal.returns-then-makes
returns-then-makes c = record {
  verdict = search rules;
  tracked = λ s t h passed.
      let does : makes (operation_of c.args.slot.now.operation) ≡ true = sym c.makes.ensures ∙ c.if-makes.true in
      let same : cond (makes (operation_of c.args.slot.now.operation)) (set c.args.self.now.statuses.status c.args.slot.now.target Waits) c.args.self.now.statuses.status ≡ c.await_write.new.self.status =
      rw does (sym c.await_write.ensures) in
      subst (λ x. Tracks c.args.row.cycle x (taken_in c.take.new.self) (status_after (slot_of c.args.slot.now) s) (taken_after c.args.row.cycle (slot_of c.args.slot.now) t)) same
      (slot_tracked c.args.row.cycle c.args.self.now.statuses.status (taken_in c.args.self.now.units) (taken_in c.take.new.self) s t (slot_of c.args.slot.now) h
      (omega (arith, c.requires.0.target)) c.requires.0.timing.busy c.take.ensures);
}

pub returns-else-makes : goal.returns-else-makes
returns-else-makes c = record {
  verdict = search rules;
  tracked = λ s t h passed.
      let does_not : makes (operation_of c.args.slot.now.operation) ≡ false = sym c.makes.ensures ∙ c.if-makes.false in
      let same : cond (makes (operation_of c.args.slot.now.operation)) (set c.args.self.now.statuses.status c.args.slot.now.target Waits) c.args.self.now.statuses.status ≡ c.args.self.now.statuses.status =
      rw does_not in
      subst (λ x. Tracks c.args.row.cycle x (taken_in c.take.new.self) (status_after (slot_of c.args.slot.now) s) (taken_after c.args.row.cycle (slot_of c.args.slot.now) t)) same
      (slot_tracked c.args.row.cycle c.args.self.now.statuses.status (taken_in c.args.self.now.units) (taken_in c.take.new.self) s t (slot_of c.args.slot.now) h
      (omega (arith, c.requires.0.target)) c.requires.0.timing.busy c.take.ensures);
}
