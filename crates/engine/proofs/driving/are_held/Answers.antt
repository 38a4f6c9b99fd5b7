use Rattle.std.proofs.Common.{◌≡◌, ◌∙◌, subst, length, sym, arith, rules, tests}
use Rattle.std.proofs.lemmas.Iterator.{YieldsList-from_slice}
use Rattle.std.proofs.lemmas.Iterator.Search.{all_from_yields_List}
use Rattle.model.specs.Limits.{timing}
use Rattle.model.specs.Driving.{all_below}
use Rattle.engine_laws.proofs.Below.{all_listed}
use Rattle.engine.specs.Answers.{timing_held}
use Rattle.engine.proofs.Driven.{held_all}
use Rattle.engine.proofs.driving.are_held.Goals as goal

pub returns : goal.returns
returns c =
    let timings = c.args.timings.now in
    let long : length timings ≡ 6 = omega arith in
    let said : c.all.result ≡ all_below (λ j. timing_held (timing timings j)) (length timings) =
    all_from_yields_List timing_held _ _ c.all.result c.all.ensures.ran (YieldsList-from_slice timings cc) (λ x b q k. search (rules, tests)) ∙ all_listed timing_held timings (record { class = 0; latency = 0; busy = 0 }) in
    let is : c.all.result ≡ all_below (λ j. timing_held (timing timings j)) 6 = subst (λ n. c.all.result ≡ all_below (λ j. timing_held (timing timings j)) n) long said in
    record { is = is; held = λ e. held_all timings long (sym is ∙ e) }
