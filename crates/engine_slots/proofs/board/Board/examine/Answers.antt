use Rattle.std.proofs.Common.{◌≡◌, ℕ, sym, arith}
use Rattle.engine_laws.proofs.Stepping.{passed_over, denied, admitted, through}
use Rattle.engine_slots.specs.Slots.{slot_of}
use Rattle.engine_slots.proofs.Questions.{none_denied, one_denied}
use Rattle.engine_slots.proofs.board.Board.examine.Goals as goal

pub loop-place-preserved-in_default : goal.loop-place-preserved-in_default
loop-place-preserved-in_default g c = (
  omega arith,
  λ k m pass whole tracks.
      let before = c.loop-place.invariant.1 k m pass whole tracks in
      (before.0, passed_over _ k _ _ _ _ _ _ _ _ _ m before.0 before.1 c.loop-place-test.true (sym c.in_default.ensures.is)),
)

pub returns-in-Err : goal.returns-in-Err
returns-in-Err g c = λ k m pass whole tracks.
    let before = c.loop-place.invariant.1 k m pass whole tracks in
    let held = c.in-Some.ensures.within in (
      denied _ k _ _ _ _ _ _ _ _ _ m before.0 before.1 (slot_of c.in-Some.slot) c.args.row.pass c.args.bounds.cells held.timing.class held.timing.busy pass whole c.loop-place-test.true (sym c.in-Some.ensures.is)
          c.in-Err.question (one_denied _ _ c.in-Err.ensures.verdict),
      λ e. let z : ◌≡◌ {A = ℕ} 0 1 = cc in absurd (omega arith),
    )

pub loop-place-preserved : goal.loop-place-preserved
loop-place-preserved g c = (
  omega arith,
  λ k m pass whole tracks.
      let before = c.loop-place.invariant.1 k m pass whole tracks in
      let held = c.in-Some.ensures.within in (
        _,
        admitted _ k _ _ _ _ _ _ _ _ _ m before.0 before.1 (slot_of c.in-Some.slot) c.args.row.pass c.args.bounds.cells held.timing.class held.timing.busy pass whole c.loop-place-test.true (sym c.in-Some.ensures.is)
            _ _ (none_denied _ _ c.in_default-admit.ensures.verdict) (c.admit.ensures.tracked _ _ before.1.follows c.in_default-admit.is),
      ),
)

pub returns : goal.returns
returns g c = λ k m pass whole tracks.
    let before = c.loop-place.invariant.1 k m pass whole tracks in
    let end = through _ k _ _ _ _ _ _ _ _ _ m before.0 before.1 c.loop-place-test.false in
    (end.0, λ e. end.1)
