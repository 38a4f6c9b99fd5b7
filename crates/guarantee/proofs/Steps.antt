-- Each call keeps the guarantee, from what its layer answers. Assumes nothing.
use Rattle.std.proofs.Common.{◌≡◌, ℕ, ◌<◌, ◌≤◌, true, ◌⊎◌, List, [], length, Some, None, Ok, Err, Option, sym, refl, ap, ◌∙◌, subst, ⊎_elim, arith}
use Rattle.model.specs.Faults.{Fault, text_fault, on_err}
use Rattle.model.specs.MachineText.{Machine, read_machine}
use Rattle.model.specs.LoopText.{read_loop}
use Rattle.model.specs.Loop.{Loop}
use Rattle.model.specs.Soundness.{sound_machine, sound_loop, hardware}
use Rattle.model.specs.Edges.{edges}
use Rattle.model.specs.Schedule.{Schedule, stages}
use Rattle.model.specs.Minimum.{IsEvidence}
use Rattle.model.specs.ScheduleLives.{lives_table}
use Rattle.model.specs.Schemes.{Meaning, Lawful, Accepted}
use Rattle.model.specs.Domains.{Domain}
use Rattle.model.specs.Issues.{cycles}
use Rattle.model.specs.Pipelining.{InMemory}
use Rattle.model.specs.Listing.{Slot, slots_of}
use Rattle.model.specs.Plan as plans
use Rattle.model.specs.Plan.{IsPlan}
use Rattle.schedule_laws.specs.Alike.{IsPlanned}
use Rattle.guarantee.specs.Calls.{Buffers, Call, machine, loop, plan, expand, run, Standing, nothing, with_machine, with_loop, with_plan, with_listing, machine_in, Body, loop_in, PlannedBody, plan_in, ListedBody, listing_in, Planned, State, accepted, planned, expanded, ran, refused, not_standing, no_schedule, many_trips, short_files, outside_memory}
use Rattle.guarantee.specs.PlainPacker.{Reply, done, leaves, refuses, Refusal, Needs, Read, Planning, Expanding, Running, PlainCall}
use Rattle.guarantee.specs.Guarantees.{plainly, PlanHolds, listing_of, StandsSound, values_in, waiting_in, machine_left, SoundRun, Present, Sound, Guaranteed}
use Rattle.guarantee.proofs.Plans.{plan_holds}
use Rattle.guarantee.proofs.Runs.{runs_pipelined}

-- what stands, and what the plain packer has of it
plain_machine : (x : Standing Planned) → machine_in (plainly x) ≡ machine_in x
plain_machine nothing = refl
plain_machine (with_machine m) = refl
plain_machine (with_loop m ops) = refl
plain_machine (with_plan m ops p) = refl
plain_machine (with_listing m ops p trips) = refl

plain_loop : (x : Standing Planned) → loop_in (plainly x) ≡ loop_in x
plain_loop nothing = refl
plain_loop (with_machine m) = refl
plain_loop (with_loop m ops) = refl
plain_loop (with_plan m ops p) = refl
plain_loop (with_listing m ops p trips) = refl

plain_plan_none : (x : Standing Planned) → plan_in x ≡ None → plan_in (plainly x) ≡ None
plain_plan_none nothing e = refl
plain_plan_none (with_machine m) e = refl
plain_plan_none (with_loop m ops) e = refl
plain_plan_none (with_plan m ops p) e = cc
plain_plan_none (with_listing m ops p trips) e = cc

plain_plan_some : (x : Standing Planned) (b : PlannedBody Planned) → plan_in x ≡ Some b →
    plan_in (plainly x) ≡ Some (record { machine = b.machine; ops = b.ops; plan = b.plan.schedule })
plain_plan_some nothing b e = cc
plain_plan_some (with_machine m) b e = cc
plain_plan_some (with_loop m ops) b e = cc
plain_plan_some (with_plan m ops p) b e = cc
plain_plan_some (with_listing m ops p trips) b e = cc

plain_listing_none : (x : Standing Planned) → listing_in x ≡ None → listing_in (plainly x) ≡ None
plain_listing_none nothing e = refl
plain_listing_none (with_machine m) e = refl
plain_listing_none (with_loop m ops) e = refl
plain_listing_none (with_plan m ops p) e = refl
plain_listing_none (with_listing m ops p trips) e = cc

plain_listing_some : (x : Standing Planned) (l : ListedBody Planned) → listing_in x ≡ Some l →
    listing_in (plainly x) ≡ Some (record { machine = l.machine; ops = l.ops; plan = l.plan.schedule; trips = l.trips })
plain_listing_some nothing l e = cc
plain_listing_some (with_machine m) l e = cc
plain_listing_some (with_loop m ops) l e = cc
plain_listing_some (with_plan m ops p) l e = cc
plain_listing_some (with_listing m ops p trips) l e = cc

-- what is known of a plan that stands, and of a listing
pub record KnownPlan (scheme : Meaning) (b : PlannedBody Planned) : Type 0 where
  pub machine_sound : sound_machine b.machine ≡ true
  pub loop_sound : sound_loop b.ops ≡ true
  pub holds : PlanHolds scheme b.machine b.ops b.plan

pub known_plan : (scheme : Meaning) (slots : List Slot) (x : Standing Planned) (b : PlannedBody Planned) → StandsSound scheme slots x → plan_in x ≡ Some b → KnownPlan scheme b
known_plan scheme slots nothing b s e = let z : ◌≡◌ {A = ℕ} 0 1 = cc in absurd (omega arith)
known_plan scheme slots (with_machine m) b s e = let z : ◌≡◌ {A = ℕ} 0 1 = cc in absurd (omega arith)
known_plan scheme slots (with_loop m ops) b s e = let z : ◌≡◌ {A = ℕ} 0 1 = cc in absurd (omega arith)
known_plan scheme slots (with_plan m ops p) b s e =
    let same : record { machine = m; ops = ops; plan = p } ≡ b = cc in
    subst (KnownPlan scheme) same (record { machine_sound = s.0; loop_sound = s.1; holds = s.2 })
known_plan scheme slots (with_listing m ops p trips) b s e =
    let same : record { machine = m; ops = ops; plan = p } ≡ b = cc in
    subst (KnownPlan scheme) same (record { machine_sound = s.0; loop_sound = s.1; holds = s.2 })

pub listing_plan : (x : Standing Planned) (l : ListedBody Planned) → listing_in x ≡ Some l →
    plan_in x ≡ Some (record { machine = l.machine; ops = l.ops; plan = l.plan })
listing_plan nothing l e = cc
listing_plan (with_machine m) l e = cc
listing_plan (with_loop m ops) l e = cc
listing_plan (with_plan m ops p) l e = cc
listing_plan (with_listing m ops p trips) l e = cc

pub few_listed : (scheme : Meaning) (slots : List Slot) (x : Standing Planned) (l : ListedBody Planned) → StandsSound scheme slots x → listing_in x ≡ Some l → l.trips ≤ 4096
few_listed scheme slots nothing l s e = let z : ◌≡◌ {A = ℕ} 0 1 = cc in absurd (omega arith)
few_listed scheme slots (with_machine m) l s e = let z : ◌≡◌ {A = ℕ} 0 1 = cc in absurd (omega arith)
few_listed scheme slots (with_loop m ops) l s e = let z : ◌≡◌ {A = ℕ} 0 1 = cc in absurd (omega arith)
few_listed scheme slots (with_plan m ops p) l s e = let z : ◌≡◌ {A = ℕ} 0 1 = cc in absurd (omega arith)
few_listed scheme slots (with_listing m ops p trips) l s e = let n : trips ≡ l.trips = cc in omega (arith, s.3)

needs_none : {V X : Type 0} (s : Standing Schedule) (r : Reply V) (t : Standing Schedule) (o : Option X) (P : X → Type 0) → o ≡ None → Refusal s r t not_standing → Needs s r t o P
needs_none s r t o P e h = subst (λ x. Needs s r t x P) (sym e) h

needs_some : {V X : Type 0} (s : Standing Schedule) (r : Reply V) (t : Standing Schedule) (o : Option X) (P : X → Type 0) (x : X) → o ≡ Some x → P x → Needs s r t o P
needs_some s r t o P x e h = subst (λ y. Needs s r t y P) (sym e) h

module _ {S V : Type 0} (meaning : S → Meaning) (place : S → ℕ → ℕ → ℕ) (dom : Domain V) (s : State S) (sound : Sound meaning place dom s) where
  abbrev was : Standing Schedule
  was = plainly s.stands

  abbrev Plainly : Call V → Reply V → Standing Schedule → Type 0
  Plainly = PlainCall dom (meaning s.scheme).need (meaning s.scheme).file was

  -- a call that is refused
  kept : (c : Call V) (f : Fault) → Plainly c (refuses f) was → Guaranteed meaning place dom s c (refused f) c s
  kept c f same = record { same = same; reports = (refl, refl); sound = sound; need = refl; file = refl }

  -- MACHINE
  pub machine_refused : (text : List ℕ) (f : Fault) → on_err text_fault (read_machine text) ≡ Err f → Guaranteed meaning place dom s (machine text) (refused f) (machine text) s
  machine_refused text f e = kept (machine text) f (subst (Read was (refuses f) was with_machine) (sym e) (refl, refl))

  pub machine_accepted : (text : List ℕ) (m : Machine) → on_err text_fault (read_machine text) ≡ Ok m → sound_machine m ≡ true →
      Guaranteed meaning place dom s (machine text) accepted (machine text) (record { stands = with_machine m; scheme = s.scheme; slots = [] })
  machine_accepted text m e ok = record {
    same = subst (Read was done (with_machine m) with_machine) (sym e) (refl, refl);
    reports = (tt, refl, refl, refl);
    sound = ok;
    need = refl;
    file = refl;
  }

  -- LOOP
  pub loop_early : (text : List ℕ) → machine_in s.stands ≡ None → Guaranteed meaning place dom s (loop text) (refused not_standing) (loop text) s
  loop_early text e = kept (loop text) not_standing (needs_none was (refuses not_standing) was (machine_in was) _ (plain_machine s.stands ∙ e) (refl, refl))

  pub loop_refused : (text : List ℕ) (m : Machine) (f : Fault) → machine_in s.stands ≡ Some m → on_err text_fault (read_loop text) ≡ Err f →
      Guaranteed meaning place dom s (loop text) (refused f) (loop text) s
  loop_refused text m f e r =
      kept (loop text) f (needs_some was (refuses f) was (machine_in was) (λ x. Read was (refuses f) was (with_loop x) (on_err text_fault (read_loop text))) m (plain_machine s.stands ∙ e)
      (subst (Read was (refuses f) was (with_loop m)) (sym r) (refl, refl)))

  pub loop_accepted : (text : List ℕ) (m : Machine) (ops : Loop) → machine_in s.stands ≡ Some m → on_err text_fault (read_loop text) ≡ Ok ops →
      sound_machine m ≡ true → sound_loop ops ≡ true →
      Guaranteed meaning place dom s (loop text) accepted (loop text) (record { stands = with_loop m ops; scheme = s.scheme; slots = [] })
  loop_accepted text m ops e r sm sl = record {
    same = needs_some was done (with_loop m ops) (machine_in was) (λ x. Read was done (with_loop m ops) (with_loop x) (on_err text_fault (read_loop text))) m (plain_machine s.stands ∙ e)
        (subst (Read was done (with_loop m ops) (with_loop m)) (sym r) (refl, refl));
    reports = (tt, refl, refl, refl);
    sound = (sm, sl);
    need = refl;
    file = refl;
  }

  -- PLAN
  abbrev PlanOf : Body → ℕ → plans.Plan → Type 0
  PlanOf b lowest p =
      IsPlan b.ops (edges b.ops (hardware b.machine b.ops)) (hardware b.machine b.ops) (length b.machine.classes)
      (meaning s.scheme).need (meaning s.scheme).file lowest p

  abbrev PlannedOf : Body → Planned → Type 0
  PlannedOf b p =
      IsPlanned b.ops (edges b.ops (hardware b.machine b.ops)) (hardware b.machine b.ops) (length b.machine.classes)
      (meaning s.scheme).need (meaning s.scheme).file p.minimum p.schedule p.steps

  pub plan_early : loop_in s.stands ≡ None → Guaranteed meaning place dom s plan (refused not_standing) plan s
  plan_early e = kept plan not_standing (needs_none was (refuses not_standing) was (loop_in was) _ (plain_loop s.stands ∙ e) (refl, refl))

  pub plan_refused : (b : Body) (lowest : ℕ) → loop_in s.stands ≡ Some b → PlanOf b lowest plans.refused → Guaranteed meaning place dom s plan (refused no_schedule) plan s
  plan_refused b lowest e is =
      kept plan no_schedule (needs_some was (refuses no_schedule) was (loop_in was) (Planning dom _ _ was (refuses no_schedule) was) b (plain_loop s.stands ∙ e) (lowest, (plans.refused, (is, (refl, refl)))))

  pub plan_accepted : (b : Body) (after : S) (p : Planned) → loop_in s.stands ≡ Some b → sound_machine b.machine ≡ true → sound_loop b.ops ≡ true →
      Lawful (meaning after) → (meaning after).place ≡ place after → PlannedOf b p →
      IsEvidence (edges b.ops (hardware b.machine b.ops)) (hardware b.machine b.ops) (length b.ops) (length b.machine.classes) p.minimum p.evidence →
      p.stages ≡ stages p.schedule (length b.ops) →
      Accepted (meaning s.scheme) (meaning after) (place after) (lives_table b.ops (hardware b.machine b.ops) p.schedule) p.turns →
      Guaranteed meaning place dom s plan (planned p) plan (record { stands = with_plan b.machine b.ops p; scheme = after; slots = [] })
  plan_accepted b after p e sm sl lawful placed is evidence deep taken = record {
    same = needs_some was done (with_plan b.machine b.ops p.schedule) (loop_in was) (Planning dom _ _ was done (with_plan b.machine b.ops p.schedule)) b (plain_loop s.stands ∙ e)
        (p.minimum, (plans.planned is.schedule p.steps, (is.is, (p.schedule, (is.tells, (refl, refl))))));
    reports = (refl, refl, refl, record { is = refl; accepts = taken });
    sound = (sm, sl, plan_holds b.machine b.ops sm sl p (meaning s.scheme) (meaning after) (place after) lawful placed is evidence deep taken);
    need = taken.need;
    file = taken.file;
  }

  -- EXPAND
  pub expand_early : (trips : ℕ) → plan_in s.stands ≡ None → Guaranteed meaning place dom s (expand trips) (refused not_standing) (expand trips) s
  expand_early trips e = kept (expand trips) not_standing (needs_none was (refuses not_standing) was (plan_in was) _ (plain_plan_none s.stands e) (refl, refl))

  pub expand_refused : (trips : ℕ) (b : PlannedBody Planned) → plan_in s.stands ≡ Some b → 4096 < trips →
      Guaranteed meaning place dom s (expand trips) (refused many_trips) (expand trips) s
  expand_refused trips b e many =
      kept (expand trips) many_trips (needs_some was (refuses many_trips) was (plan_in was) (Expanding was (refuses many_trips) was trips) _ (plain_plan_some s.stands b e)
      ((λ few. absurd (omega arith)), (λ _. (refl, refl))))

  pub expand_accepted : (trips : ℕ) (b : PlannedBody Planned) (slots : List Slot) → plan_in s.stands ≡ Some b → trips ≤ 4096 →
      slots ≡ slots_of (listing_of (meaning s.scheme) b.ops b.plan trips) →
      Guaranteed meaning place dom s (expand trips) (expanded (listing_of (meaning s.scheme) b.ops b.plan trips).parts) (expand trips)
      (record { stands = with_listing b.machine b.ops b.plan trips; scheme = s.scheme; slots = slots })
  expand_accepted trips b slots e few written =
      let known = known_plan (meaning s.scheme) s.slots s.stands b sound e in
      let now : Standing Schedule = with_listing b.machine b.ops b.plan.schedule trips in
      record {
        same = needs_some was done now (plan_in was) (Expanding was done now trips) _ (plain_plan_some s.stands b e)
            ((λ _. (refl, refl)), (λ many. absurd (omega arith)));
        reports = (trips, (refl, refl, refl, refl));
        sound = (known.machine_sound, known.loop_sound, known.holds, few, written);
        need = refl;
        file = refl;
      }

  -- RUN
  pub run_early : (b : Buffers V) → listing_in s.stands ≡ None → Guaranteed meaning place dom s (run b) (refused not_standing) (run b) s
  run_early b e = kept (run b) not_standing (needs_none was (refuses not_standing) was (listing_in was) _ (plain_listing_none s.stands e) (refl, refl))

  pub run_short : (b : Buffers V) (l : ListedBody Planned) → listing_in s.stands ≡ Some l →
      (length b.values < (meaning s.scheme).file) ⊎ (length b.waiting < (meaning s.scheme).file) →
      Guaranteed meaning place dom s (run b) (refused short_files) (run b) s
  run_short b l e short =
      let file : ℕ = (meaning s.scheme).file in
      let never : file ≤ length b.values → file ≤ length b.waiting → ⊥ =
      λ v w. ⊎_elim (λ (h : length b.values < file). absurd (omega arith)) (λ (h : length b.waiting < file). absurd (omega arith)) short in
      kept (run b) short_files (needs_some was (refuses short_files) was (listing_in was) (Running dom (meaning s.scheme).need file was b (refuses short_files) was) _ (plain_listing_some s.stands l e)
      (record { short = λ _. (refl, refl); outside = λ v w _. absurd (never v w); runs = λ v w _. absurd (never v w) }))

  pub run_outside : (b : Buffers V) (l : ListedBody Planned) → listing_in s.stands ≡ Some l →
      (meaning s.scheme).file ≤ length b.values → (meaning s.scheme).file ≤ length b.waiting → (InMemory l.ops l.trips (length b.memory) → ⊥) →
      Guaranteed meaning place dom s (run b) (refused outside_memory) (run b) s
  run_outside b l e v w far =
      let file : ℕ = (meaning s.scheme).file in
      kept (run b) outside_memory (needs_some was (refuses outside_memory) was (listing_in was) (Running dom (meaning s.scheme).need file was b (refuses outside_memory) was) _ (plain_listing_some s.stands l e)
      (record {
        short = λ short. absurd (⊎_elim (λ (h : length b.values < file). omega arith) (λ (h : length b.waiting < file). omega arith) short);
        outside = λ _ _ _. (refl, refl);
        runs = λ _ _ inside. absurd (far inside);
      }))

  pub run_accepted : (b c : Buffers V) (l : ListedBody Planned) (n : ℕ) → listing_in s.stands ≡ Some l →
      (meaning s.scheme).file ≤ length b.values → (meaning s.scheme).file ≤ length b.waiting → InMemory l.ops l.trips (length b.memory) →
      n ≡ cycles l.plan.schedule (length l.ops) l.trips →
      c.memory ≡ (machine_left dom (meaning s.scheme) l.machine l.ops l.plan l.trips b).memory →
      ((r : ℕ) → values_in dom c r ≡ (machine_left dom (meaning s.scheme) l.machine l.ops l.plan l.trips b).values r) →
      ((r : ℕ) → waiting_in dom c r ≡ (machine_left dom (meaning s.scheme) l.machine l.ops l.plan l.trips b).waiting r) →
      length c.values ≡ length b.values → length c.waiting ≡ length b.waiting →
      Guaranteed meaning place dom s (run b) (ran n) (run c) s
  run_accepted b c l n e v w inside takes memory values waiting values_long waiting_long =
      let file : ℕ = (meaning s.scheme).file in
      let known = known_plan (meaning s.scheme) s.slots s.stands _ sound (listing_plan s.stands l e) in
      let piped = runs_pipelined l.machine l.ops known.machine_sound known.loop_sound l.plan (meaning s.scheme) known.holds l.trips dom b inside in
      record {
        same = needs_some was (leaves c.memory) was (listing_in was) (Running dom (meaning s.scheme).need file was b (leaves c.memory) was) _ (plain_listing_some s.stands l e)
            (record {
              short = λ short. absurd (⊎_elim (λ (h : length b.values < file). omega arith) (λ (h : length b.waiting < file). omega arith) short);
              outside = λ _ _ far. absurd (far inside);
              runs = λ _ _ _. (ap leaves (memory ∙ piped.same_memory), refl);
            });
        reports = (
          b,
          c,
          (
            refl,
            refl,
            refl,
            subst (λ o. Present o (λ x. SoundRun dom (meaning s.scheme) x.machine x.ops x.plan x.trips b c n)) (sym e)
                (record { pipelined = piped; takes = takes; memory = memory; values = values; waiting = waiting; values_long = values_long; waiting_long = waiting_long }),
          ),
        );
        sound = sound;
        need = refl;
        file = refl;
      }
