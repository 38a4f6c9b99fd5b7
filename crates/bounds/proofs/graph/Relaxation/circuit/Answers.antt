use Rattle.std.proofs.Common.{◌≡◌, ◌+◌, ◌++◌, take, drop, sym, subst, rules}
use Rattle.model.specs.Minimum.{CircuitWitness}
use Rattle.graph_laws.specs.Trails.{BestWalk}
use Rattle.bounds.specs.Paths.{numbers}
use Rattle.bounds.proofs.Turned.{long_enough, edges_there, turned}
use Rattle.bounds.proofs.graph.Relaxation.circuit.Goals as goal

pub round_trip-round_trip-requires-clause-long : goal.round_trip-round_trip-requires-clause-long
round_trip-round_trip-requires-clause-long c =
    let g = c.args.self.now in
    let best = subst (BestWalk g.graph.edges.now g.interval g.graph.count c.args.rising) (sym c.numbers.ensures) c.best_walk-walk.ensures in
    long_enough g c.args.rising c.numbers.result.now best c.requires.rose

pub lowest-requires-clause-known : goal.lowest-requires-clause-known
lowest-requires-clause-known c =
    let g = c.args.self.now in
    let best = subst (BestWalk g.graph.edges.now g.interval g.graph.count c.args.rising) (sym c.numbers.ensures) c.best_walk-walk.ensures in
    edges_there g c.args.rising c.numbers.result.now best c.requires.rose c.round_trip-round_trip.result.now c.round_trip-round_trip.ensures

pub returns : goal.returns
returns c =
    let g = c.args.self.now in
    let best = subst (BestWalk g.graph.edges.now g.interval g.graph.count c.args.rising) (sym c.numbers.ensures) c.best_walk-walk.ensures in
    let ys = c.round_trip-round_trip.result.now in
    let low = c.lowest.result in
    let both : numbers c.extend-2.new.self ≡ drop low ys ++ take low ys = search rules in
    subst (CircuitWitness g.graph.edges.now (g.interval + 1)) (sym both)
    (turned g c.args.rising c.numbers.result.now best c.requires.rose c.round_trip-round_trip.result.now c.round_trip-round_trip.ensures low
    c.lowest.ensures.inside c.lowest.ensures.least)
