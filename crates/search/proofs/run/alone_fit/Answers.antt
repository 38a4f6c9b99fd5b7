use Rattle.std.proofs.Common.{◌≡◌, ◌*◌, ◌≤◌, length, get_or, leb, sym, subst, ◌∙◌, rules, tests}
use Rattle.std.proofs.lemmas.Bool.{leb-true, le-leb}
use Rattle.std.proofs.lemmas.Iterator.{YieldsList-from_slice}
use Rattle.std.proofs.lemmas.Iterator.Adapters.{serves_from_places}
use Rattle.std.proofs.lemmas.Iterator.Search.{all_from_yields_List}
use Rattle.std.proofs.ByRecursion.{All-get_or}
use Rattle.std.proofs.lemmas.Nat.{mul-le}
use Rattle.std.specs.List.{list_all}
use Rattle.model.specs.declared.Timing.{Timing}
use Rattle.model.specs.Limits.{TimingFits}
use Rattle.graph_laws.proofs.Top.{units_at}
use Rattle.search.proofs.Cells.{each_passes, all_pass}
use Rattle.search.proofs.run.alone_fit.Goals as goal

pub all-requires-clause-callable : goal.all-requires-clause-callable
all-requires-clause-callable c =
    let us = c.args.timings.now in
    let units = c.args.units.now in
    serves_from_places (YieldsList-from_slice us cc) (λ x q k. search (rules, tests)) (λ x k h is.
    let fit : TimingFits (length units) x.now = subst (TimingFits (length units)) (sym is) (All-get_or (TimingFits (length units)) us k x.now h c.requires.fits.each) in
    let few = units_at us units c.requires.fits x.now.class fit.class in
    let product : c.args.interval * get_or units x.now.class 0 ≤ 256 * 8 = mul-le c.args.interval _ 256 8 c.requires.interval few.1 in
    search (rules, tests))

pub returns : goal.returns
returns c =
    let us = c.args.timings.now in
    let units = c.args.units.now in
    let is : c.all.result ≡ list_all (λ (t : Timing). leb t.busy (c.args.interval * get_or units t.class 0)) us =
    all_from_yields_List (λ (t : Timing). leb t.busy (c.args.interval * get_or units t.class 0)) _ _ c.all.result c.all.ensures.ran (YieldsList-from_slice us cc) (λ x b q k. search (rules, tests)) in (
      (λ yes j h. leb-true _ _ (each_passes (λ (t : Timing). leb t.busy (c.args.interval * get_or units t.class 0)) us _ (sym is ∙ yes) j h)),
      (λ roomy. is ∙ all_pass (λ (t : Timing). leb t.busy (c.args.interval * get_or units t.class 0)) us _ (λ j h. le-leb _ _ (roomy j h))),
    )
