use Rattle.std.proofs.Common.{◌≡◌, max, fold, ◌∙◌, rules}
use Rattle.few.specs.Held.{held}
use Rattle.model.specs.ScheduleLives.{greatest}
use Rattle.model.specs.Listing.{distance}
use Rattle.dependence.specs.Operations.{operation_seen}
use Rattle.listing.specs.Views.{schedule_of}
use Rattle.listing.proofs.Bodies.{farthest_folded}
use Rattle.listing.proofs.body.Body.farthest.Goals as goal

pub returns : goal.returns
returns g c =
    let b = c.args.self.now in
    let mirrored : c.fold.result ≡ fold (λ d p. max d (greatest distance (operation_seen p.operation))) 0 (held b.placed) = search rules in
    mirrored ∙ farthest_folded (schedule_of b) (held b.placed) b.standing
