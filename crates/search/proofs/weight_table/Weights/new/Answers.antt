use Rattle.graph_laws.proofs.Steps.{fits_at}
use Rattle.search.proofs.Entries.{woven_none, woven_more}
use Rattle.search.proofs.weight_table.Weights.new.Goals as goal

pub loop-edge-init : goal.loop-edge-init
loop-edge-init c = woven_none _

pub loop-edge-preserved : goal.loop-edge-preserved
loop-edge-preserved c =
    let es = c.args.edges.now in
    let i = c.loop-edge.edge-index in
    let fits = fits_at 32 es i c.requires.fit c.loop-edge-test.true in
    woven_more c.args.interval es i _ c.loop-edge.between c.loop-edge-test.true c.loop-edge.invariant fits.from fits.to c.max.result c.of-weight.result.raised
    c.of-weight.ensures c.of-weight.result.most c.max.ensures
