use Rattle.std.proofs.Common.{◌≡◌, ◌+◌, ◌++◌, ◌∷◌, [], subst, sym, arith, rules}
use Rattle.few.specs.Held.{held}
use Rattle.model.specs.Relaxation.{rounds}
use Rattle.graph_laws.proofs.Steps.{zeros}
use Rattle.bounds.specs.Rounds.{Traced}
use Rattle.bounds.proofs.Marks.{low_values, next_values, row_traced}
use Rattle.bounds.proofs.graph.Relaxation.trace.Goals as goal

pub loop-init : goal.loop-init
unfolding rounds
loop-init c = ((λ u. zeros 32 u), record { many = search rules; each = λ r l. absurd (omega arith) })

pub round-row-requires : goal.round-row-requires
round-row-requires c = low_values c.args.self.now c.loop.counter c.loop.old (omega arith) c.loop.invariant.0

pub loop-preserved : goal.loop-preserved
loop-preserved c =
    let g = c.args.self.now in
    let more : held c.push.new.self ≡ held c.loop.rows ++ c.round-row.result.marks ∷ [] = search rules in (
      next_values g c.loop.counter c.loop.old (omega arith) c.loop.invariant.0 c.round-row.result c.round-row.ensures,
      subst (Traced g.graph.edges.now g.interval (c.loop.counter + 1)) (sym more)
          (row_traced g.interval c.loop.counter g.graph.edges.now c.loop.old c.round-row.result.values c.round-row.result.marks (held c.loop.rows)
          c.loop.invariant.0 c.round-row.ensures.values c.round-row.ensures.marks c.loop.invariant.1),
    )
