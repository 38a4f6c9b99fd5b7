-- The pipelining theorem.
use Rattle.std.proofs.Common.{◌≡◌, ℕ, suc, ◌+◌, ◌-◌, ◌*◌, ◌<◌, ◌≤◌, true, List, length, sym, refl, ap, ◌∙◌, arith}
use Rattle.model.specs.Loop.{Loop, Operand, literal, variable, op, Hardware, WellFormed}
use Rattle.model.specs.Schedule.{Schedule, IsSchedule, FewStages}
use Rattle.model.specs.MemoryOrder.{issue_cycle}
use Rattle.model.specs.Schemes.{Apart}
use Rattle.model.specs.ScheduleLives.{life_end, lives_table, LivesLast}
use Rattle.model.specs.Domains.{Domain}
use Rattle.model.specs.Plain.{State, begun}
use Rattle.model.specs.Issues.{Form, cycles, issues, iteration_of, home_of, issues_at}
use Rattle.model.specs.Driving.{Waiting, Machine, fresh, Outcome, finished, standing, land, run}
use Rattle.model.specs.Pipelining.{InMemory, Means, InRange, ReadsRight, Pipelined}
use Rattle.pipelining.proofs.Effects.{each_operand}
use Rattle.pipelining.proofs.Sound.{Sound}
use Rattle.pipelining.proofs.Placed.{Placed}
use Rattle.pipelining.proofs.Issue.{issued, minus_times}
use Rattle.pipelining.proofs.Landing.{lands_not}
use Rattle.pipelining.proofs.Driven.{driven}
use Rattle.pipelining.proofs.Row.{values_stay, each_slot}
use Rattle.pipelining.proofs.Run.{timed_value}
use Rattle.pipelining.proofs.Drive.{Made, kept_at, read_right, Known, operands_known, machine_right, machine_is_plain}
use Rattle.pipelining.proofs.Units.{taken_is, units_suffice, in_use_same}
use Rattle.pipelining.proofs.Questions.{all_passed, goes_on}
use Rattle.pipelining.proofs.FilesHold.{waiting_untouched, waiting_holds, values_hold, landed_stays}
use Rattle.pipelining.proofs.Lasting.{lasting, limits, placed_by}
use Rattle.pipelining.proofs.Length.{no_cycles, all_cycles, all_issue, sound_schedule}

pub lives_last : LivesLast
lives_last ops hw w formed = (lasting ops hw w formed, limits ops hw w formed)

module _ {V : Type 0} (dom : Domain V) (ops : Loop) (hw : Hardware) (w : Schedule) (trips : ℕ) (place : ℕ → ℕ → ℕ)
    (memory : List V) (values : ℕ → V) (waiting : ℕ → Waiting V) (form : Form)
    (formed : WellFormed ops hw) (schedule : IsSchedule ops hw w) (few : FewStages ops w) (law : Apart (lives_table ops hw w) place)
    (within : InMemory ops trips (length memory)) (means : Means form ops hw w trips place) where
  abbrev home : ℕ → ℕ → ℕ
  home = home_of ops place

  abbrev last : ℕ
  last = cycles w (length ops) trips

  abbrev ends : ℕ → ℕ
  ends = life_end ops hw w

  abbrev start : State V
  start = begun dom memory

  abbrev m : Machine V
  m = fresh memory values waiting

  sound : Sound ops hw w trips (length memory)
  sound = sound_schedule ops hw w trips (length memory) formed schedule few within

  placed : Placed ops hw w home ends
  placed = placed_by ops hw w place formed law

  -- the machine before cycle c, on the issues of the schedule, and on the form
  abbrev now : ℕ → Machine V
  now c = driven dom w.interval (issues_at ops hw w trips home) c m

  abbrev then : ℕ → Outcome V
  then c = run dom hw.units w.interval trips form c m

  runs : (c : ℕ) → c ≤ last → then c ≡ finished (now c)
  runs c h = goes_on dom ops hw w trips home ends start m sound placed refl (λ r. refl) (λ u y. refl) schedule.rows_fit form c (λ y l. means y (omega arith))

  same : (c : ℕ) → c ≤ last → standing (then c) ≡ now c
  same c h = ap standing (runs c h)

  operand_right : (c q : ℕ) → c < last → q < length ops → issues w trips q c ≡ true → (a : Operand) →
      Known dom ops hw w trips home ends start m sound placed refl (λ r. refl) q a → ReadsRight dom ops hw w trips place memory values waiting form c (iteration_of w q c) a
  operand_right c q hc hq iss (literal z) known = tt
  operand_right c q hc hq iss (variable p d) known = λ h.
      let i : ℕ = iteration_of w q c in
      let it = issued w trips q c iss in
      let named = known.0 in
      let apart_by = minus_times i d w.interval h in
      let is : Made dom ops hw w trips home ends start m sound placed refl (λ r. refl) p (i - d) = (named.0, named.1, omega (arith, it.0)) in
      let due : issue_cycle w p (i - d) + hw.latency p ≤ c = omega (arith, known.1.0, it.1, apart_by) in
      let alive : c ≤ ends p + (i - d) * w.interval = omega (arith, known.1.1, it.1, apart_by) in
      let kept = kept_at dom ops hw w trips home ends start m sound placed refl (λ r. refl) c in (
        landed_stays dom ops hw w trips home ends start m sound placed refl (λ r. refl) c p (i - d) is due alive,
        rw (same c (omega arith)) ((read_right dom ops hw w trips home ends start m sound placed refl (λ r. refl) c p (i - d) kept is due alive).1 ∙
            timed_value dom ops hw w trips start sound c p (i - d) named.0 (omega (arith, it.0)) (omega (arith, formed.latencies p named.0))),
      )

  pub pipelined : Pipelined dom ops hw w trips place memory values waiting form
  unfolding driven land
  pipelined = record {
    ends = rw (runs last (omega arith));
    no_fault = λ c h. (
      rw (runs c (omega arith)),
      rw (same c (omega arith), means c h) (all_passed dom ops hw w trips home ends start m sound placed refl (λ r. refl) (λ u y. refl) schedule.rows_fit c),
    );
    same_memory = rw (same last (omega arith))
        (machine_is_plain dom ops hw w trips home ends start m sound placed refl (λ r. refl) last (λ j i hj hi. all_issue w (length ops) trips j i schedule.positive hj hi));
    right_reads = λ c j h hj iss. each_operand _ _ (operand_right c j h hj iss) (op ops j)
        (operands_known dom ops hw w trips home ends start m sound placed refl (λ r. refl) j hj);
    right_results = λ c j h hj iss. rw (same c (omega arith)) (machine_right dom ops hw w trips home ends start m sound placed refl (λ r. refl) c j hj iss);
    units_suffice = λ c u y h. rw (in_use_same form (issues_at ops hw w trips home) u y c (λ e l. means e (omega arith)))
        (units_suffice ops hw w trips home schedule.positive schedule.rows_fit u y c);
    units_counted = λ c u y h. rw (same c h)
        (taken_is dom w.interval (issues_at ops hw w trips home) u y c m refl ∙ sym (in_use_same form (issues_at ops hw w trips home) u y c (λ e l. means e (omega arith))));
    in_range = λ c h. rw (means c h) (each_slot ops hw w trips home c (InRange w.interval trips c) (length ops)
        (λ q hq iss. ((issued w trips q c iss).2, (issued w trips q c iss).0)) (length ops) (omega arith));
    no_cycles = no_cycles w (length ops) trips;
    all_cycles = all_cycles w (length ops) trips;
    values_change = λ c r h not. rw (same (suc c) h, same c (omega arith))
        (ap (λ f. f r) (values_stay dom ops hw w trips home c (land c (now c)) (length ops)) ∙ lands_not c (now c) r (rw (same c (omega arith)) at not));
    waiting_changes = λ c r h untouched. rw (same (suc c) h, same c (omega arith))
        (waiting_untouched dom w.interval c r (issues_at ops hw w trips home c) (land c (now c)) (land c (now c)) (rw (means c h) at untouched));
    values_are = λ c r h. rw (same c h) (values_hold dom ops hw w trips home ends start m sound placed refl (λ r. refl) c r);
    waiting_are = λ c r h. rw (same c h) (waiting_holds dom ops hw w trips home ends start m sound placed refl (λ r. refl) c r);
  }
