use Rattle.std.proofs.Common.{length, get_or, refl, ◌∙◌, ap₂}
use Rattle.model.specs.Search as model
use Rattle.search.proofs.Runs.{same_hardware}
use Rattle.search.proofs.run.search.Goals as goal

pub returns : goal.returns
returns c =
    let us = c.args.timings.now in
    let units = c.args.units.now in
    let heights = c.in_ok-heights.ensures in
    let made = rw c.in_ok-table.ensures.ok_part at c.new.ensures in (
      record { graph = heights.0.0; machine = c.if-not-machine_fits.ensures.0 refl; some = made.0.some; most = made.0.most },
      c.if-not-alone_fit.ensures.0 refl,
      record {
        height = λ j. get_or c.in_ok-heights.heights j 0;
        heights = heights.2;
        is = c.run.ensures ∙ ap₂ (λ h k. model.search c.args.edges.now h (length us) (λ j. get_or c.in_ok-heights.heights j 0) k) (same_hardware us c.in_ok-table.table.units units made.1.has) made.1.at;
      },
    )
