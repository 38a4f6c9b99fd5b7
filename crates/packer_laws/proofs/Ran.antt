-- The call run keeps the guarantee. Assumes nothing.
use Rattle.std.proofs.Common.{◌≡◌, ℕ, zero, suc, ◌+◌, ◌*◌, ◌^◌, ◌<◌, ◌≤◌, Bool, true, ◌⊎◌, List, [], ◌∷◌, map, length, get_or, take, pos, Some, Ok, Err, Result, sym, refl, ap, ◌∙◌, subst, inl, inr, mul-le-mul, arith, length-take}
use mathlib.Core.Path.{fun_ext}
use Rattle.std.proofs.lemmas.List.{length-map, get_or-take, get_or_past}
use Rattle.std.proofs.lemmas.Bool.{cases_lt, le-leb, lt-ltb, eq-eqb, ne_eqb, cases_eq}
use Rattle.model.specs.declared.Timing.{Timing}
use Rattle.model.specs.declared.Operator.TheVariants.{Plus, Minus, Times}
use Rattle.model.specs.Limits.{timing}
use Rattle.model.specs.Loop.{Loop, literal, load, store, binary, move, op}
use Rattle.model.specs.MachineText.{Machine}
use Rattle.model.specs.Soundness.{sound_machine, sound_loop, sound_below, units_of, hardware}
use Rattle.model.specs.Schedule.{Schedule, stages}
use Rattle.model.specs.Schemes.{Meaning}
use Rattle.model.specs.Domains.{Domain}
use Rattle.model.specs.Plain.{nought}
use Rattle.model.specs.Issues.{Form, passes, cycles}
use Rattle.model.specs.Codes.{form_of}
use Rattle.model.specs.Driving.{all_below, fresh, finished, drive}
use Rattle.model.specs.Pipelining.{InMemory}
use Rattle.model.specs.Listing.{code_of_listing, passes_run}
use Rattle.listing_laws.proofs.Sizes.{listing_sizes}
use Rattle.text_laws.proofs.Formed.{well_formed, machine_fits}
use Rattle.texts.specs.Records.{machine_seen}
use Rattle.dependence.specs.Loops.{loop_seen}
use Rattle.schedule.specs.Answers.{schedule_of}
use Rattle.listing.specs.Forms.{rows_said}
use Rattle.engine.specs.declared.answer.Halt.{Halt}
use Rattle.engine_writes.specs.declared.waiting.Waiting.{Waiting}
use Rattle.engine_writes.specs.Files.{entry_of}
use Rattle.engine_slots.specs.Rows.{units_of as units_in}
use Rattle.engine.specs.Answers.{timing_held, begins, lent, Driven}
use Rattle.guarantee.specs.Calls.{Buffers, Call, run, ListedBody, listing_in, Planned, Answer, ran, refused, short_files, outside_memory}
use Rattle.guarantee.specs.Guarantees.{code_timings, listing_of, listed_form, values_in, waiting_in, machine_left, Guaranteed}
use Rattle.guarantee.proofs.OnTexts.{on_machine}
use Rattle.guarantee.proofs.Runs.{runs_pipelined}
use Rattle.guarantee.proofs.Steps.{known_plan, few_listed, listing_plan, run_short, run_outside, run_accepted}
use Rattle.standing.specs.declared.Desk.{Desk}
use Rattle.standing.specs.declared.Plan.{Plan}
use Rattle.standing.specs.declared.Standing.TheVariants as own
use Rattle.standing.specs.Seen.{standing_seen, planned_seen}
use Rattle.packer_laws.specs.States.{state, buffers, Whole, Kept}

-- THE TIMINGS of a machine whose text was accepted can be followed. A loop with each code has them all.
six : Loop
six = load 0 0 ∷ store (literal (pos 0)) 0 0 ∷ binary Plus (literal (pos 0)) (literal (pos 0)) ∷ binary Minus (literal (pos 0)) (literal (pos 0)) ∷
    binary Times (literal (pos 0)) (literal (pos 0)) ∷ move (literal (pos 0)) ∷ []

six_sound : sound_loop six ≡ true
unfolding six sound_below op
six_sound = refl

all_held : (p : ℕ → Bool) (n : ℕ) → ((j : ℕ) → j < n → p j ≡ true) → all_below p n ≡ true
all_held p zero h = refl
all_held p (suc n) h = rw (all_held p n (λ j l. h j (omega arith))) (h n (omega arith))

held : (t : Timing) → t.class < 8 → t.latency ≤ 8 → t.busy ≤ 8 → timing_held t ≡ true
held t c l b = rw (lt-ltb t.class 8 c) (rw (le-leb t.latency 8 l) (le-leb t.busy 8 b))

pub timings_held : (m : Machine) → sound_machine m ≡ true → all_below (λ j. timing_held (timing (code_timings m) j)) 6 ≡ true
unfolding six
timings_held m e =
    let formed = well_formed m six e six_sound in
    let on = on_machine m six e six_sound in
    let few = (machine_fits m six e).classes in
    let long : length (units_of m) ≡ length m.classes = length-map m.classes (λ c. c.count) in
    all_held (λ j. timing_held (timing (code_timings m) j)) 6 (λ j h.
    let l = formed.latencies j h in
    let b = formed.busies j h in
    held (timing (code_timings m) j) (omega (arith, on.known j h)) l.1 (omega (arith, l.1, b.1)))

-- the cycles of a run fit 64 bits, and those behind it in which a write may be due
short_run : (w : Schedule) (n trips : ℕ) → trips ≤ 4096 → stages w n ≤ 8 → w.interval ≤ 256 → cycles w n trips + 8 < 2 ^ 64
short_run w n trips t s k =
    let p : passes w n trips ≤ 4104 = elim (cases_eq trips 0) [ inl e ↦ rw (eq-eqb trips 0 e) (omega arith) | inr z ↦ rw (ne_eqb trips 0 z) (omega arith) ] in
    let c : passes w n trips * w.interval ≤ 4104 * 256 = mul-le-mul p k in
    omega arith

begun : (timings : List Timing) (file values waiting n : ℕ) → all_below (λ j. timing_held (timing timings j)) 6 ≡ true → file ≤ values → file ≤ waiting → n + 8 < 2 ^ 64 →
    begins timings file values waiting n ≡ Ok n
begun timings file values waiting n a v w s = rw a (rw (le-leb file values v) (rw (le-leb file waiting w) (rw (lt-ltb (n + 8) (2 ^ 64) s))))

get_d_mapped : {X Y : Type 0} (f : X → Y) (xs : List X) (i : ℕ) (d : X) → get_or (map f xs) i (f d) ≡ f (get_or xs i d)
get_d_mapped f [] i d = refl
get_d_mapped f (x ∷ xs) zero d = refl
get_d_mapped f (x ∷ xs) (suc i) d = get_d_mapped f xs i d

-- a run ends in one way
pub run_halts_never : (n : ℕ) (h : Halt) → Err h ≡ Ok n → ⊥
run_halts_never n h e = let z : ◌≡◌ {A = ℕ} 0 1 = cc in omega arith

pub one_result : (r : Result ℕ Halt) (n m : ℕ) → r ≡ Ok n → r ≡ Ok m → n ≡ m
one_result r n m e f = cc

module _ {S V : Type 0} (meaning : S → Meaning) (place : S → ℕ → ℕ → ℕ) (dom : Domain V) (scheme : S) (desk : Desk) (p : Plan) (trips : ℕ) (stands : desk.standing ≡ own.Listing p trips) where
  abbrev on : Machine
  on = machine_seen p.body.machine

  abbrev ops : Loop
  ops = loop_seen p.body.source

  abbrev w : Schedule
  w = schedule_of p.scheduled

  abbrev listed : ListedBody Planned
  listed = record { machine = on; ops = ops; plan = planned_seen p.scheduled; trips = trips }

  here : listing_in (standing_seen desk.standing) ≡ Some listed
  here = ap (λ x. listing_in (standing_seen x)) stands

  pub run_driven : (timings : List Timing) (units : List ℕ) (n : ℕ) (memory values : List V) (waiting : List (Waiting V)) (memory' values' : List V) (waiting' : List (Waiting V)) (r : Result ℕ Halt) →
      timings ≡ code_timings on → ((u : ℕ) → units_in units u ≡ (hardware on ops).units u) → n ≡ passes_run desk.listing.parts →
      (meaning scheme).file ≤ length values → (meaning scheme).file ≤ length waiting → InMemory ops trips (length memory) →
      length values' ≡ length values → length waiting' ≡ length waiting →
      Driven dom (begins timings (meaning scheme).file (length values) (length waiting) (n * w.interval))
      (drive dom (units_in units) w.interval trips (form_of (meaning scheme).resolve timings w.interval (rows_said desk.listing)) n (lent dom memory values waiting))
      memory values waiting memory' values' waiting' r →
      Whole meaning place dom scheme desk →
      (r ≡ Ok (cycles w (length ops) trips)) ×
      Guaranteed meaning place dom (state scheme desk) (run (buffers memory values waiting)) (ran (cycles w (length ops) trips)) (run (buffers memory' values' waiting')) (state scheme desk)
  run_driven timings units n memory values waiting memory' values' waiting' r same_timings each_unit counted v u inside values_long waiting_long said whole =
      let b : Buffers V = buffers memory values waiting in
      let c : Buffers V = buffers memory' values' waiting' in
      let known = known_plan (meaning scheme) _ (standing_seen desk.standing) _ whole.sound (listing_plan (standing_seen desk.standing) listed here) in
      let few = few_listed (meaning scheme) _ (standing_seen desk.standing) listed whole.sound here in
      let is = whole.written listed here in
      let same_units : units_in units ≡ (hardware on ops).units = fun_ext each_unit in
      let turns = known.holds.turns in
      let lawful = known.holds.lives.lawful in
      let sizes = listing_sizes ops (hardware on ops) w (meaning scheme).name p.scheduled.choice.turns trips (on_machine on ops known.machine_sound known.loop_sound).formed
      known.holds.sound.is_schedule.positive known.holds.sound.few_stages (omega (arith, lawful.some_turns)) (omega (arith, lawful.few_turns)) in
      let same_passes : n ≡ passes w (length ops) trips = counted ∙ ap passes_run is.parts ∙ sizes.run in
      let rows : rows_said desk.listing ≡ code_of_listing (listing_of (meaning scheme) ops (planned_seen p.scheduled) trips) = fun_ext (λ q. fun_ext (λ x. is.says q x)) in
      let start : lent dom memory values waiting ≡ fresh memory (values_in dom b) (waiting_in dom b) =
      ap (fresh memory (values_in dom b)) (fun_ext (λ x. sym (get_d_mapped entry_of waiting x (record { due = 0; value = nought dom })))) in
      let k : ℕ = w.interval in
      let said_form : Form = form_of (meaning scheme).resolve timings k (rows_said desk.listing) in
      let real : Form = listed_form (meaning scheme) on ops (planned_seen p.scheduled) trips in
      let forms : said_form ≡ real =
      ap (λ t. form_of (meaning scheme).resolve t k (rows_said desk.listing)) same_timings ∙ ap (form_of (meaning scheme).resolve (code_timings on) k) rows in
      let piped = runs_pipelined on ops known.machine_sound known.loop_sound (planned_seen p.scheduled) (meaning scheme) known.holds trips dom b inside in
      let ends : drive dom (units_in units) k trips said_form n (lent dom memory values waiting) ≡ finished (machine_left dom (meaning scheme) on ops (planned_seen p.scheduled) trips b) =
      ap (λ x. drive dom x k trips said_form n (lent dom memory values waiting)) same_units ∙
      ap (λ x. drive dom (hardware on ops).units k trips x n (lent dom memory values waiting)) forms ∙
      ap (λ x. drive dom (hardware on ops).units k trips real x (lent dom memory values waiting)) same_passes ∙
      ap (λ x. drive dom (hardware on ops).units k trips real (passes w (length ops) trips) x) start ∙ piped.ends in
      let begins_well : begins timings (meaning scheme).file (length values) (length waiting) (n * k) ≡ Ok (cycles w (length ops) trips) =
      ap (λ t. begins t (meaning scheme).file (length values) (length waiting) (n * k)) same_timings ∙
      ap (λ x. begins (code_timings on) (meaning scheme).file (length values) (length waiting) (x * k)) same_passes ∙
      begun (code_timings on) (meaning scheme).file (length values) (length waiting) (cycles w (length ops) trips) (timings_held on known.machine_sound) v u
      (short_run w (length ops) trips few known.holds.sound.eight known.holds.sound.short) in
      let done = subst (λ x. Driven dom (Ok (cycles w (length ops) trips)) x memory values waiting memory' values' waiting' r) ends
      (subst (λ x. Driven dom x (drive dom (units_in units) k trips said_form n (lent dom memory values waiting)) memory values waiting memory' values' waiting' r) begins_well said) in
      let left = done.1 in (
        done.0,
        run_accepted meaning place dom (state scheme desk) whole.sound b c listed (cycles w (length ops) trips) here v (subst (λ x. (meaning scheme).file ≤ x) (sym (length-map waiting entry_of)) u) inside refl
            (sym left.memory) (λ x. sym (ap (λ f. f x) left.values))
            (λ x. get_d_mapped entry_of waiting' x (record { due = 0; value = nought dom }) ∙ sym (ap (λ f. f x) left.waiting))
            values_long (length-map waiting' entry_of ∙ waiting_long ∙ sym (length-map waiting entry_of)),
      )

  pub run_short_kept : (memory values : List V) (waiting : List (Waiting V)) → (length values < (meaning scheme).file) ⊎ (length waiting < (meaning scheme).file) →
      Kept meaning place dom scheme desk (run (buffers memory values waiting)) (refused short_files) (run (buffers memory values waiting)) scheme desk
  run_short_kept memory values waiting short whole = (
    run_short meaning place dom (state scheme desk) whole.sound (buffers memory values waiting) listed here
        (subst (λ x. (length values < (meaning scheme).file) ⊎ (x < (meaning scheme).file)) (sym (length-map waiting entry_of)) short),
    whole,
  )

  pub run_outside_kept : (memory values : List V) (waiting : List (Waiting V)) → (meaning scheme).file ≤ length values → (meaning scheme).file ≤ length waiting →
      (InMemory ops trips (length memory) → ⊥) →
      Kept meaning place dom scheme desk (run (buffers memory values waiting)) (refused outside_memory) (run (buffers memory values waiting)) scheme desk
  run_outside_kept memory values waiting v u far whole = (
    run_outside meaning place dom (state scheme desk) whole.sound (buffers memory values waiting) listed here v
        (subst (λ x. (meaning scheme).file ≤ x) (sym (length-map waiting entry_of)) u) far,
    whole,
  )

-- the units of a machine, from an array that holds nothing behind them
pub units_same : (xs ys : List ℕ) (n : ℕ) → take n xs ≡ ys → ((u : ℕ) → n ≤ u → get_or xs u 0 ≡ 0) → (u : ℕ) → get_or xs u 0 ≡ get_or ys u 0
units_same xs ys n e rest u = elim (cases_lt u n) [
  | inl h ↦ sym (get_or-take n xs u 0 h) ∙ ap (λ z. get_or z u 0) e
  | inr h ↦ rest u h ∙ sym (subst (λ z. get_or z u 0 ≡ 0) e (get_or_past (take n xs) u 0 (omega (arith, length-take n xs))))
]

-- the same run, of the same lists
pub same_buffers : {V : Type 0} (a b : List V) (c : List (Waiting V)) (x y : List V) (z : List (Waiting V)) → a ≡ x → b ≡ y → c ≡ z → buffers a b c ≡ buffers x y z
same_buffers a b c x y z e f h = cc

pub same_run : {S V : Type 0} (meaning : S → Meaning) (place : S → ℕ → ℕ → ℕ) (dom : Domain V) (scheme : S) (desk : Desk) (b b' : Call V) (a a' : Answer) (c c' : Call V) →
    b ≡ b' → a ≡ a' → c ≡ c' → Kept meaning place dom scheme desk b a c scheme desk → Kept meaning place dom scheme desk b' a' c' scheme desk
same_run meaning place dom scheme desk b b' a a' c c' e f h kept =
    subst (λ x. Kept meaning place dom scheme desk x a' c' scheme desk) e
    (subst (λ x. Kept meaning place dom scheme desk b x c' scheme desk) f (subst (λ x. Kept meaning place dom scheme desk b a x scheme desk) h kept))
