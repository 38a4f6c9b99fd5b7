use Rattle.std.proofs.Common.{◌≡◌, ◌+◌, ◌-◌, ◌≤◌, sym, ◌∙◌, ap, not, arith, rules}
use Rattle.model.specs.Relaxation.{rounds}
use Rattle.graph_laws.proofs.Steps.{zeros}
use Rattle.bounds.proofs.Marks.{none_at, low_values, next_values, heights_here, still_rises}
use Rattle.bounds.proofs.graph.Relaxation.settle.Goals as goal

pub loop-init : goal.loop-init
unfolding rounds
loop-init c = λ u. zeros 32 u

pub round-row-requires : goal.round-row-requires
round-row-requires c = low_values c.args.self.now (c.loop.counter - 1) c.loop.held (omega arith) c.loop.invariant

pub returns-then-is_none : goal.returns-then-is_none
returns-then-is_none c = heights_here c.args.self.now (c.loop.counter - 1) c.loop.held (omega arith) c.loop.invariant c.round-row.result c.round-row.ensures
    (sym c.first_raised.ensures ∙ none_at c.first_raised.result (c.is_none.ensures ∙ ap not c.if-is_none.true))

pub loop-preserved : goal.loop-preserved
loop-preserved c =
    let next : (c.loop.counter - 1) + 1 ≡ (c.loop.counter + 1) - 1 = omega (arith, c.loop.auto.counter) in
    rw (sym next) (next_values c.args.self.now (c.loop.counter - 1) c.loop.held (omega arith) c.loop.invariant c.round-row.result c.round-row.ensures)

pub round-requires : goal.round-requires
round-requires c = low_values c.args.self.now (c.loop.counter - 1) c.loop.held (omega (arith, c.loop.auto.counter-end c.args.self.now.graph.fits.some)) c.loop.invariant

pub returns-in-None : goal.returns-in-None
returns-in-None c = heights_here c.args.self.now (c.loop.counter - 1) c.loop.held (omega (arith, c.loop.auto.counter-end c.args.self.now.graph.fits.some)) c.loop.invariant
    c.round.result c.round.ensures (sym c.first_raised-2.ensures ∙ c.in-None.is)

pub returns-in-Some : goal.returns-in-Some
returns-in-Some c =
    let end : c.loop.counter ≤ c.args.self.now.graph.count = c.loop.auto.counter-end c.args.self.now.graph.fits.some in
    still_rises c.args.self.now (c.loop.counter - 1) c.loop.held (omega (arith, end)) c.loop.invariant
    c.round.result c.round.ensures c.in-Some.rising (sym c.first_raised-2.ensures ∙ c.in-Some.is) (search rules) (omega (arith, end, c.loop.auto.counter, c.loop-test.false))
