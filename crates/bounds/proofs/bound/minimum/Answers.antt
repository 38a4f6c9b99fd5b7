use Rattle.std.proofs.Common.{Some, length, rules}
use Rattle.model.specs.Limits.{MachineFits}
use Rattle.bounds.specs.Graphs.{GraphOf}
use Rattle.bounds.specs.Rounds.{FirstOf}
use Rattle.bounds.proofs.Told.{class_told, class_told_at_one, circuit_told}
use Rattle.bounds.proofs.bound.minimum.Goals as goal

pub returns-in-Some : goal.returns-in-Some
returns-in-Some c =
    let made : GraphOf c.args.edges.now (length c.args.timings.now) (Some c.in_ok-graph.graph) = search rules in
    let machine : MachineFits c.args.timings.now c.args.units.now = search rules in
    let first : FirstOf c.in_ok-graph.graph.edges.now c.in_ok-graph.graph.count (Some c.in_ok-first.first) = search rules in
    circuit_told c.args.edges.now c.args.timings.now c.args.units.now c.in_ok-graph.graph made machine c.resource_minimum-resource.result c.resource_minimum-resource.ensures
    c.in_ok-first.first first c.circuit.result c.if-first-resource.true c.circuit.ensures

pub returns-in_default : goal.returns-in_default
returns-in_default c =
    let made : GraphOf c.args.edges.now (length c.args.timings.now) (Some c.in_ok-graph.graph) = search rules in
    let machine : MachineFits c.args.timings.now c.args.units.now = search rules in
    let first : FirstOf c.in_ok-graph.graph.edges.now c.in_ok-graph.graph.count (Some c.in_ok-first.first) = search rules in
    class_told c.args.edges.now c.args.timings.now c.args.units.now c.in_ok-graph.graph made machine c.resource_minimum-resource.result c.resource_minimum-resource.ensures
    c.in_ok-first.first first c.if-first-resource.false

pub returns-in_default-2 : goal.returns-in_default-2
returns-in_default-2 c =
    let made : GraphOf c.args.edges.now (length c.args.timings.now) (Some c.in_ok-graph.graph) = search rules in
    let machine : MachineFits c.args.timings.now c.args.units.now = search rules in
    let first : FirstOf c.in_ok-graph.graph.edges.now c.in_ok-graph.graph.count (Some c.in_ok-first.first) = search rules in
    class_told_at_one c.args.edges.now c.args.timings.now c.args.units.now c.in_ok-graph.graph made machine c.resource_minimum-resource.result c.resource_minimum-resource.ensures
    c.in_ok-first.first first (search rules)
