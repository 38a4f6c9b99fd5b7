-- The run of the program is the machine's.
use Rattle.std.proofs.Common.{◌≡◌, ℕ, zero, suc, ◌+◌, ◌^◌, ◌<◌, ◌≤◌, Bool, true, false, cond, ◌&&◌, ltb, leb, List, [], length, get_or, replicate, Ok, Err, Result, sym, refl, ap, ◌∙◌, subst, inl, inr, add-one, arith}
use lib.ListN.{get_or-replicate, length-replicate}
use Rattle.std.proofs.lemmas.List.{get_or_past}
use Rattle.std.proofs.lemmas.Bool.{cases_eq, cases_lt, and_parts, ltb-true, leb-true}
use Rattle.model.specs.declared.Status.TheVariants.{Never}
use Rattle.model.specs.declared.Timing.{Timing}
use Rattle.model.specs.Limits.{timing}
use Rattle.model.specs.Domains.{Domain}
use Rattle.model.specs.Issues.{Form}
use Rattle.model.specs.Driving as driving
use Rattle.model.specs.Driving.{Machine, Outcome, finished, stopped, go_on, cycle, run, all_below}
use Rattle.std.proofs.lemmas.List.Elements.{All-nil}
use Rattle.engine_laws.proofs.Below.{all_below_each}
use Rattle.engine_slots.specs.Boards.{taken_in}
use Rattle.engine_writes.specs.Lists.{lists_of}
use Rattle.engine.specs.declared.answer.Fault.{Fault}
use Rattle.engine.specs.declared.answer.Refusal.TheVariants.{Timing as BadTiming, Files, Cycles}
use Rattle.engine.specs.declared.answer.Halt.{Halt}
use Rattle.engine.specs.declared.answer.Halt.TheVariants.{Stopped}
use Rattle.engine_slots.specs.declared.slot.Denial.{Denial}
use Rattle.engine.specs.declared.tables.Tables.{Tables}
use Rattle.engine_writes.specs.declared.waiting.Waiting.{Waiting}
use Rattle.engine.specs.Runs.{CycleKept}
use Rattle.engine_slots.specs.Slots.{TimingHeld, TimingsHeld}
use Rattle.engine.specs.Answers.{timing_held, begins, ended, faulted, lent, Running, Ran, Driven}

get_d_all : {A : Type 0} (n : ℕ) (a : A) (i : ℕ) → get_or (replicate n a) i a ≡ a
get_d_all n a i = elim (cases_lt i n) [
  | inl h ↦ get_or-replicate n i a a h
  | inr h ↦ get_or_past (replicate n a) i a (rw (length-replicate n a) h)
]

module _ {V : Type 0} (dom : Domain V) (units : ℕ → ℕ) (k trips file : ℕ) (form : Form) (memory₀ values₀ : List V) (waiting₀ : List (Waiting V)) where
  abbrev first : Machine V
  first = lent dom memory₀ values₀ waiting₀

  pub at_first : (t : Tables) → t.board.statuses.status ≡ replicate 256 Never → ((u y : ℕ) → taken_in t.board.units u y ≡ 0) → ((x : ℕ) → lists_of t.dues x ≡ []) →
      Running dom units k trips file form first 0 memory₀ values₀ waiting₀ t
  unfolding run
  at_first t status taken dues = (
    first,
    (
      refl,
      record {
        left = record { memory = refl; values = refl; waiting = refl };
        follows = record {
          statuses = λ r. rw status (get_d_all 256 Never r);
          units = λ u y few from to. taken u y;
          beyond = λ u y far. refl;
        };
        pending = λ r waits. let z : ◌≡◌ {A = ℕ} 0 1 = cc in absurd (omega arith);
        registers = λ x. rw (dues x) (All-nil (λ r. r < file));
      },
    ),
  )

  module _ (c : ℕ) (memory values : List V) (waiting : List (Waiting V)) (t : Tables) (memory' values' : List V) (waiting' : List (Waiting V)) (t' : Tables)
      (running : Running dom units k trips file form first c memory values waiting t) where
    next : (o : Outcome V) → cycle dom units k trips c (form c) running.0 ≡ o → run dom units k trips form (c + 1) first ≡ o
    unfolding run
    next o e = rw (add-one c) (ap (go_on (cycle dom units k trips c (form c))) running.1.0 ∙ e)

    pub one_more : CycleKept dom units trips file k c form memory values waiting t memory' values' waiting' t' (Ok tt) →
        Running dom units k trips file form first (c + 1) memory' values' waiting' t'
    one_more kept =
        let done = kept running.0 running.1.1 in
        (done.0, (next (finished done.0) done.1.0, done.1.1.1 refl))

    stays : (f : driving.Fault) (m : Machine V) (x : ℕ) → run dom units k trips form (c + 1) first ≡ stopped f m → c + 1 ≤ x → run dom units k trips form x first ≡ stopped f m
    unfolding run
    stays f m zero e h = absurd (omega arith)
    stays f m (suc x) e h = elim (cases_eq x c) [
      | inl same ↦ rw same (rw (add-one c) at e)
      | inr z ↦ rw (stays f m x e (omega arith)) refl
    ]

    pub stops : (d : Denial) (cycles : ℕ) → c < cycles → CycleKept dom units trips file k c form memory values waiting t memory' values' waiting' t' (Err d) →
        Ran dom (run dom units k trips form cycles first) memory' values' waiting' (Err (record { question = d.question; cycle = c; slot = d.slot }))
    stops d cycles h kept =
        let done = kept running.0 running.1.1 in
        let f : driving.Fault = record { question = d.question; cycle = c; slot = d.slot } in
        let stop = stays f done.0 cycles (next (stopped f done.0) done.1.0) (omega arith) in
        rw stop (refl, done.1.1.0)

  pub ends : (c : ℕ) (memory values : List V) (waiting : List (Waiting V)) (t : Tables) → Running dom units k trips file form first c memory values waiting t →
      (cycles : ℕ) → c ≡ cycles → Ran dom (run dom units k trips form cycles first) memory values waiting (Ok tt)
  ends c memory values waiting t running cycles e =
      let at : run dom units k trips form cycles first ≡ finished running.0 = subst (λ x. run dom units k trips form x first ≡ finished running.0) e running.1.0 in
      rw at (refl, running.1.1.left)

-- how a run begins
module _ (ts : List Timing) where
  held_one : (t : Timing) → timing_held t ≡ true → TimingHeld t
  held_one t e =
      let a = and_parts (ltb t.class 8) (leb t.latency 8 && leb t.busy 8) e in
      let b = and_parts (leb t.latency 8) (leb t.busy 8) a.1 in
      record { class = ltb-true _ _ a.0; latency = leb-true _ _ b.0; busy = leb-true _ _ b.1 }

  pub held_all : length ts ≡ 6 → all_below (λ j. timing_held (timing ts j)) 6 ≡ true → TimingsHeld ts
  held_all long all j = elim (cases_lt j 6) [
    | inl h ↦ held_one (timing ts j) (all_below_each (λ i. timing_held (timing ts i)) 6 j all h)
    | inr h ↦ rw (get_or_past ts j (record { class = 0; latency = 0; busy = 0 }) (omega arith)) (record { class = omega arith; latency = omega arith; busy = omega arith })
  ]

pub record Begun (timings : List Timing) (file values waiting cycles n : ℕ) : Type 0 where
  pub timed : all_below (λ j. timing_held (timing timings j)) 6 ≡ true
  pub values_fit : file ≤ values
  pub waiting_fit : file ≤ waiting
  pub dues_fit : n + 8 < 2 ^ 64
  pub cycles_are : n ≡ cycles

pub begun : (timings : List Timing) (file values waiting cycles n : ℕ) → begins timings file values waiting cycles ≡ Ok n → Begun timings file values waiting cycles n
begun timings file values waiting cycles n e =
    let all = go (all_below (λ j. timing_held (timing timings j)) 6) (leb file values && leb file waiting) (ltb (cycles + 8) (2 ^ 64)) e in
    let fit = and_parts (leb file values) (leb file waiting) all.1 in
    record {
      timed = all.0;
      values_fit = leb-true _ _ fit.0;
      waiting_fit = leb-true _ _ fit.1;
      dues_fit = omega (arith, ltb-true _ _ all.2, all.3);
      cycles_are = sym all.3;
    }
  where
    go : (a b c : Bool) → cond a (cond b (cond c (Ok cycles) (Err Cycles)) (Err Files)) (Err BadTiming) ≡ Ok n → (a ≡ true) × (b ≡ true) × (c ≡ true) × (cycles ≡ n)
    go true true true h = (refl, refl, refl, cc)
    go true true false h = let z : ◌≡◌ {A = ℕ} 0 1 = cc in absurd (omega arith)
    go true false c h = let z : ◌≡◌ {A = ℕ} 0 1 = cc in absurd (omega arith)
    go false b c h = let z : ◌≡◌ {A = ℕ} 0 1 = cc in absurd (omega arith)

-- what it answers
abbrev pub whole : ℕ → Result (Unit {0}) Fault → Result ℕ Halt
whole n (Ok x) = Ok n
whole n (Err f) = Err (Stopped f)

same_answer : {V : Type 0} (n : ℕ) (o : Outcome V) → whole n (faulted o) ≡ ended n o
same_answer n (finished m) = refl
same_answer n (stopped f m) = refl

pub answers : {V : Type 0} (dom : Domain V) (timings : List Timing) (file long_values long_waiting cycles n : ℕ) (at : ℕ → Outcome V) (memory values : List V) (waiting : List (Waiting V))
    (memory' values' : List V) (waiting' : List (Waiting V)) (x : Result (Unit {0}) Fault) (r : Result ℕ Halt) →
    begins timings file long_values long_waiting cycles ≡ Ok n → Ran dom (at n) memory' values' waiting' x → r ≡ whole n x →
    Driven dom (begins timings file long_values long_waiting cycles) (at cycles) memory values waiting memory' values' waiting' r
answers dom timings file long_values long_waiting cycles n at memory values waiting memory' values' waiting' x r e ran is =
    subst (λ c. Driven dom (begins timings file long_values long_waiting cycles) (at c) memory values waiting memory' values' waiting' r) (begun timings file long_values long_waiting cycles n e).cycles_are
    (rw e (is ∙ ap (whole n) ran.0 ∙ same_answer n (at n), ran.1))
