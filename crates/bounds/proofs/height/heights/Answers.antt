use Rattle.std.proofs.Common.{◌≡◌, rules, Ok, Err, subst₂}
use Rattle.std.specs.Result.{MatchResult}
use Rattle.bounds.specs.Answers.{HeightsOf}
use Rattle.bounds.specs.declared.height.NoHeights.TheVariants.{Above}
use Rattle.bounds.proofs.Told.{heights_of}
use Rattle.bounds.proofs.height.heights.Goals as goal

pub returns : goal.returns
returns c =
    let g = c.in_ok-graph.graph in
    let made : (g.edges.now ≡ c.args.edges.now) × (g.count ≡ c.args.count) = search rules in
    let cases : MatchResult c.settle.result (λ hs. c.map_err.result ≡ Ok hs) (λ _. c.map_err.result ≡ Err Above) = search rules in
    subst₂ (λ es n. HeightsOf es n c.args.interval c.map_err.result) made.0 made.1
    (heights_of (record { graph = g; interval = c.args.interval; short = c.if-interval-gt256.false }) c.settle.result c.map_err.result c.settle.ensures cases)
