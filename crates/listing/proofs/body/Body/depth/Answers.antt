use Rattle.std.proofs.Common.{◌≡◌, ◌+◌, max, fold, ◌∙◌, rules}
use Rattle.few.specs.Held.{held}
use Rattle.listing.specs.Views.{schedule_of}
use Rattle.listing.proofs.Bodies.{stages_folded}
use Rattle.listing.proofs.body.Body.depth.Goals as goal

pub returns : goal.returns
returns g c =
    let b = c.args.self.now in
    let mirrored : c.fold.result ≡ fold (λ d p. max d (p.stage + 1)) 0 (held b.placed) = search rules in
    mirrored ∙ stages_folded (schedule_of b) (held b.placed) b.standing
