-- No question is answered no.
use Rattle.std.proofs.Common.{◌≡◌, ℕ, zero, suc, ◌+◌, ◌-◌, ◌*◌, ◌<◌, ◌≤◌, true, not, leb, length, sym, refl, ap, ◌∙◌, inl, inr, arith}
use Rattle.std.proofs.lemmas.Bool.{cases_Bool, leb-true, le-leb, lt-ltb, and_from}
use Rattle.model.specs.Loop.{Loop, Operand, literal, variable, op, makes, Hardware}
use Rattle.model.specs.Schedule.{Schedule, RowsFit}
use Rattle.model.specs.MemoryOrder.{issue_cycle}
use Rattle.model.specs.Domains.{Domain}
use Rattle.model.specs.Plain.{State}
use Rattle.model.specs.Issues.{Form, issues, iteration_in, iteration_of, source, slot_of, slots, issues_at}
use Rattle.model.specs.Driving.{Machine, finished, passed, has_landed, land, readable, unit_free, operands_landed, cell_in_memory, result_free, examine, cycle, run}
use Rattle.model.specs.declared.Status.TheVariants.{Never}
use Rattle.pipelining.proofs.Effects.{each_operand}
use Rattle.pipelining.proofs.Sound.{Sound}
use Rattle.pipelining.proofs.Placed.{Placed}
use Rattle.pipelining.proofs.Issue.{issued, minus_times}
use Rattle.pipelining.proofs.Landing.{not_waiting}
use Rattle.pipelining.proofs.Driven.{driven}
use Rattle.pipelining.proofs.Row.{makes_on}
use Rattle.pipelining.proofs.Units.{taken_is, unit_left}
use Rattle.pipelining.proofs.Examine.{all_below_true, all_of_on, cell_fine, Yes, examined, memory_reserved, taken_reserved, found, found_then, row_yes}
use Rattle.pipelining.proofs.Drive.{Made, Kept, kept_at, read_right, alive_at, no_clash, Known, operands_known, target_free, memory_length}

module _ {V : Type 0} (dom : Domain V) (ops : Loop) (hw : Hardware) (w : Schedule) (trips : ℕ) (home : ℕ → ℕ → ℕ) (life_end : ℕ → ℕ) (start : State V) (m : Machine V)
    (sound : Sound ops hw w trips (length start.memory)) (placed : Placed ops hw w home life_end)
    (same_start : m.memory ≡ start.memory) (fresh : (r : ℕ) → m.status r ≡ Never)
    (idle : (u y : ℕ) → m.taken u y ≡ 0) (fit : RowsFit ops hw w) where
  -- the machine after the landings of cycle c
  abbrev seen : ℕ → Machine V
  seen c = land c (driven dom w.interval (issues_at ops hw w trips home) c m)

  module _ (c q : ℕ) (hq : q < length ops) (iss : issues w trips q c ≡ true) where
    kept : Kept dom ops hw w trips home life_end start m sound placed same_start fresh c
    kept = kept_at dom ops hw w trips home life_end start m sound placed same_start fresh c

    -- the machine as the slot of operation q finds it
    abbrev here : Machine V
    here = found ops hw w trips home c (seen c) q

    unit_yes : unit_free hw.units c (slot_of ops hw w home c q) here ≡ true
    unfolding land
    unit_yes = all_below_true _ (hw.busy q) (λ b l.
        lt-ltb _ _ (omega (
          arith,
          taken_reserved c (hw.class q) (c + b) (slots ops hw w trips home c q) (seen c),
          taken_is dom w.interval (issues_at ops hw w trips home) (hw.class q) (c + b) c m (idle (hw.class q) (c + b)),
          unit_left ops hw w trips home sound.positive fit c q (c + b) hq iss (omega arith) (omega arith),
        )))

    operand_yes : (a : Operand) → Known dom ops hw w trips home life_end start m sound placed same_start fresh q a →
        readable here (source home (iteration_of w q c) a) ≡ true
    operand_yes (literal z) known = refl
    operand_yes (variable p d) known =
        let i : ℕ = iteration_of w q c in
        let it = issued w trips q c iss in
        elim (cases_Bool (leb d i)) [
          | inl e ↦
              let named = known.0 in
              let apart_by = minus_times i d w.interval (leb-true d i e) in
              let made : Made dom ops hw w trips home life_end start m sound placed same_start fresh p (i - d) = (named.0, named.1, omega (arith, it.0)) in
              let due : issue_cycle w p (i - d) + hw.latency p ≤ c = omega (arith, known.1.0, it.1, apart_by) in
              let alive : c ≤ life_end p + (i - d) * w.interval = omega (arith, known.1.1, it.1, apart_by) in
              let is = read_right dom ops hw w trips home life_end start m sound placed same_start fresh c p (i - d) kept made due alive in
              rw e (elim (found_then ops hw w trips home c (seen c) (home p (i - d)) q) [
                | inl z ↦ absurd (no_clash dom ops hw w trips home life_end start m sound placed same_start fresh c p (i - d) z.0 made
                    (omega (arith, sound.formed.latencies p named.0)) alive (omega (arith, z.1)) z.2 z.3 (sym z.4))
                | inr z ↦ ap has_landed (z ∙ is.0)
              ])
          | inr e ↦ rw e
        ]

    landed_yes : operands_landed (slot_of ops hw w home c q) here ≡ true
    landed_yes = all_of_on (source home (iteration_of w q c)) (readable here) (op ops q)
        (each_operand _ _ operand_yes (op ops q) (operands_known dom ops hw w trips home life_end start m sound placed same_start fresh q hq))

    there_yes : cell_in_memory (iteration_of w q c) (slot_of ops hw w home c q) here ≡ true
    unfolding land
    there_yes =
        let as_long : length here.memory ≡ length start.memory =
        ap length (memory_reserved c (slots ops hw w trips home c q) (seen c)) ∙ memory_length dom ops hw w trips home life_end start m sound placed same_start fresh c in
        cell_fine (source home (iteration_of w q c)) (op ops q) (iteration_of w q c) (length here.memory)
        (λ x h. omega (arith, as_long, sound.within q (iteration_of w q c) x hq (issued w trips q c iss).0 h))

    free_yes : result_free (slot_of ops hw w home c q) here ≡ true
    free_yes = elim (cases_Bool (makes (op ops q))) [
      | inr k ↦ rw (makes_on, k)
      | inl k ↦ rw (makes_on, k) (ap not (not_waiting (here.status (home q (iteration_of w q c))) (λ waits.
          elim (found_then ops hw w trips home c (seen c) (home q (iteration_of w q c)) q) [
            | inl z ↦
                let hz : z.0 < length ops = omega (arith, z.1) in
                let y = placed.apart z.0 (iteration_of w z.0 c) q (iteration_of w q c) c hz hq z.3 k
                (alive_at dom ops hw w trips home life_end start m sound placed same_start fresh c z.0 hz z.2 z.3)
                (alive_at dom ops hw w trips home life_end start m sound placed same_start fresh c q hq iss k) z.4 in
                omega (arith, z.1, y.0)
            | inr z ↦ target_free dom ops hw w trips home life_end start m sound placed same_start fresh c q kept hq iss k (sym z ∙ waits)
          ])))
    ]

    slot_yes : Yes hw.units w.interval trips c (slot_of ops hw w home c q) here
    unfolding iteration_in
    slot_yes =
        let it = issued w trips q c iss in
        record {
          unit = unit_yes;
          landed = landed_yes;
          runs = and_from _ _ (le-leb _ _ it.2) (lt-ltb _ _ it.0);
          there = there_yes;
          free = free_yes;
        }

  pub all_passed : (c : ℕ) → examine hw.units w.interval trips c 0 (issues_at ops hw w trips home c) (seen c) ≡ passed
  all_passed c = examined hw.units w.interval trips c 0 (issues_at ops hw w trips home c) (seen c)
      (row_yes ops hw w trips home c (seen c) (length ops) (λ q hq iss. slot_yes c q hq iss) (length ops) (omega arith))

  -- So the run of every form that says so much for the first cycles goes on to their end.
  pub goes_on : (form : Form) (c : ℕ) → ((y : ℕ) → y < c → form y ≡ issues_at ops hw w trips home y) →
      run dom hw.units w.interval trips form c m ≡ finished (driven dom w.interval (issues_at ops hw w trips home) c m)
  unfolding run cycle driven
  goes_on form zero means = refl
  goes_on form (suc c) means = rw (goes_on form c (λ y l. means y (omega arith)), means c (omega arith), all_passed c)
