-- The plan, interval by interval.
use Rattle.std.proofs.Common.{◌≡◌, ℕ, suc, ◌+◌, ◌-◌, ◌<◌, ◌≤◌, true, false, List, length, refl, ◌∙◌, add-one, arith}
use mathlib.Core.Path.{fun_ext}
use Rattle.std.specs.List.{AllByRecursion}
use Rattle.std.proofs.lemmas.Bool.{le-leb, lt-leb}
use Rattle.model.specs.Loop.{Loop, Hardware, total}
use Rattle.model.specs.declared.Edge.{Edge}
use Rattle.model.specs.Minimum.{NoneAbove, IsHeight}
use Rattle.model.specs.Limits.{EdgeFits}
use Rattle.model.specs.Relaxation.{rounds}
use Rattle.model.specs.Schedule.{stages, sequential}
use Rattle.model.specs.Lives.{Table}
use Rattle.model.specs.ScheduleLives.{lives_table}
use Rattle.model.specs.Search.{Outcome, found, failed, search}
use Rattle.model.specs.Plan.{Plan, planned, refused, at_interval, steps_of, succeeds, found_at, in_sequence, plan_from}
use Rattle.graph_laws.proofs.Steps.{all_within}
use Rattle.graph_laws.proofs.Relaxed.{fixed_is_height}
use Rattle.search_laws.specs.Bounded.{Roomy, Sound}
use Rattle.search_laws.proofs.Sound.{search_sound}
use Rattle.search_laws.proofs.Plan.{short_edges, height_one, above_minimum, settled}
use Rattle.schedule_laws.specs.Laws.{RoundsAreHeights}

-- Where no circuit is above k, as many rounds as operations give the heights, and there are no others.
pub heights_are : (es : List Edge) (n k : ℕ) → AllByRecursion (EdgeFits n) es → NoneAbove es k →
    ((u : ℕ) → IsHeight es k u (rounds k es n u)) × ((height : ℕ → ℕ) → ((u : ℕ) → IsHeight es k u (height u)) → height ≡ rounds k es n)
heights_are es n k fits none =
    let are : (u : ℕ) → IsHeight es k u (rounds k es n u) = (fixed_is_height es k n (settled es n k (all_within n es fits) none)).1 in
    (are, λ height hs. fun_ext (λ u. height_one es k u _ _ (hs u) (are u)))

pub rounds_are_heights : RoundsAreHeights
rounds_are_heights es hw n classes lowest k fits min h = heights_are es n k fits (above_minimum es hw n classes lowest k min h)

-- no search takes more steps than it may
steps_few : (es : List Edge) (hw : Hardware) (n k : ℕ) (o : Outcome) → n ≤ 32 → Sound es hw n k o → steps_of o ≤ 192
steps_few es hw n k (found time taken) few h = omega (arith, h.3)
steps_few es hw n k (failed taken) few h = omega arith

pub search_steps : (es : List Edge) (hw : Hardware) (n : ℕ) (height : ℕ → ℕ) (k : ℕ) → n ≤ 32 → AllByRecursion (EdgeFits n) es → Roomy hw n k →
    steps_of (search es hw n height k) ≤ 192
search_steps es hw n height k few fits roomy =
    steps_few es hw n k _ few (search_sound es hw n height k (all_within n es fits) (short_edges n es fits) roomy)

-- A schedule is taken, or not.
module _ (ops : Loop) (hw : Hardware) (need : Table → ℕ) (file k : ℕ) (time : ℕ → ℕ) (taken : ℕ) where
  pub succeeds_then : stages (at_interval k time) (length ops) ≤ 8 → need (lives_table ops hw (at_interval k time)) ≤ file →
      succeeds ops hw need file k (found time taken) ≡ true
  unfolding succeeds
  succeeds_then few fits = rw (le-leb _ _ few, le-leb _ _ fits)

  pub fails_deep : 8 < stages (at_interval k time) (length ops) → succeeds ops hw need file k (found time taken) ≡ false
  unfolding succeeds
  fails_deep deep = rw (lt-leb _ _ deep)

  pub fails_refused : stages (at_interval k time) (length ops) ≤ 8 → file < need (lives_table ops hw (at_interval k time)) →
      succeeds ops hw need file k (found time taken) ≡ false
  unfolding succeeds
  fails_refused few beyond = rw (le-leb _ _ few, lt-leb _ _ beyond)

pub fails_failed : (ops : Loop) (hw : Hardware) (need : Table → ℕ) (file k taken : ℕ) → succeeds ops hw need file k (failed taken) ≡ false
unfolding succeeds
fails_failed ops hw need file k taken = refl

module _ (ops : Loop) (es : List Edge) (hw : Hardware) (height : ℕ → ℕ → ℕ) (need : Table → ℕ) (file : ℕ) where
  abbrev pub longest : ℕ
  longest = total hw.latency (length ops)

  abbrev pub searched : ℕ → Outcome
  searched k = search es hw (length ops) (height k) k

  abbrev pub from_here : ℕ → ℕ → Plan
  from_here k steps = plan_from ops es hw height need file k (longest - k) steps

  pub plan_found : (k steps : ℕ) → k < longest → succeeds ops hw need file k (searched k) ≡ true →
      from_here k steps ≡ planned (found_at k (searched k)) (steps + steps_of (searched k))
  unfolding plan_from
  plan_found k steps h e = let m : longest - k ≡ suc (longest - suc k) = omega arith in rw m (rw e refl)

  pub plan_next : (k steps : ℕ) → k < longest → succeeds ops hw need file k (searched k) ≡ false → from_here k steps ≡ from_here (k + 1) (steps + steps_of (searched k))
  unfolding plan_from
  plan_next k steps h e = let m : longest - k ≡ suc (longest - suc k) = omega arith in rw (m, add-one) (rw e refl)

  pub plan_last : (k steps : ℕ) → longest ≤ k → from_here k steps ≡ in_sequence ops hw need file steps
  unfolding plan_from
  plan_last k steps h = let m : longest - k ≡ 0 = omega arith in rw m refl

  pub plan_sequential : (k steps : ℕ) → longest ≤ k → need (lives_table ops hw (sequential ops hw)) ≤ file → from_here k steps ≡ planned (sequential ops hw) steps
  plan_sequential k steps h fits = plan_last k steps h ∙ rw (le-leb _ _ fits)

  pub plan_refused : (k steps : ℕ) → longest ≤ k → file < need (lives_table ops hw (sequential ops hw)) → from_here k steps ≡ refused
  plan_refused k steps h beyond = plan_last k steps h ∙ rw (lt-leb _ _ beyond)
