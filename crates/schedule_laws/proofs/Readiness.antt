-- What follows where a plan can be made.
use Rattle.std.proofs.Common.{◌≡◌, ℕ, ◌<◌, ◌≤◌, cond, ltb, List, [], length, refl, ap, ◌∙◌, subst, ap₂, arith}
use Rattle.std.proofs.ByRecursion.{All-get_or}
use Rattle.std.proofs.lemmas.Bool.{lt-ltb, le-ltb}
use Rattle.std.proofs.lemmas.Nat.{mul-le}
use Rattle.model.specs.declared.Edge.{Edge}
use Rattle.model.specs.declared.Timing.{Timing}
use Rattle.model.specs.Loop.{Loop, Hardware, WellFormed, total}
use Rattle.model.specs.Limits.{hardware, GraphFits, MachineFits, TimingFits}
use Rattle.model.specs.Minimum.{IsMinimum, IsHeight}
use Rattle.model.specs.Schedule.{stages, sequential}
use Rattle.model.specs.Lives.{Limits}
use Rattle.model.specs.ScheduleLives.{lives_table}
use Rattle.model.specs.Search.{search}
use Rattle.model.specs.Plan.{at_interval, steps_of}
use Rattle.pipelining.proofs.Length.{stages_by_times}
use Rattle.pipelining.proofs.Theorem.{lives_last}
use Rattle.search_laws.proofs.Plan.{none_above_more, above_minimum, roomy_from, sequential_stands}
use Rattle.schedule_laws.specs.Alike.{Tells}
use Rattle.schedule_laws.specs.Ready.{Ready, heights, searched}
use Rattle.schedule_laws.proofs.Intervals.{heights_are, search_steps}
use Rattle.schedule_laws.proofs.Tables.{table_any}

-- from the minimum on
pub ready_from : (ops : Loop) (es : List Edge) (us : List Timing) (units : List ℕ) (lowest : ℕ) → WellFormed ops (hardware us units) → length us ≡ length ops → GraphFits (length ops) es →
    MachineFits us units → IsMinimum es (hardware us units) (length ops) (length units) lowest → Ready ops es us units lowest
ready_from ops es us units lowest formed each graph machine min = record {
  formed = formed;
  each = each;
  graph = graph;
  machine = machine;
  positive = omega (arith, min.greater, min.least.0);
  none_above = above_minimum es (hardware us units) (length ops) (length units) lowest lowest min (omega arith);
  roomy = roomy_from es (hardware us units) (length ops) (length units) lowest lowest known some_units min (omega arith);
}
  where
    known : (j : ℕ) → j < length ops → (hardware us units).class j < length units
    known j h = (All-get_or (TimingFits (length units)) us j (record { class = 0; latency = 0; busy = 0 }) (omega (arith, each)) machine.each).class

    some_units : (u : ℕ) → u < length units → 0 < (hardware us units).units u
    some_units u h = omega (arith, (All-get_or (λ c. (1 ≤ c) × (c ≤ 8)) units u 0 h machine.counts).0)

pub ready_later : (ops : Loop) (es : List Edge) (us : List Timing) (units : List ℕ) (l k : ℕ) → Ready ops es us units l → l ≤ k → Ready ops es us units k
ready_later ops es us units l k r h = record {
  formed = r.formed;
  each = r.each;
  graph = r.graph;
  machine = r.machine;
  positive = omega (arith, r.positive);
  none_above = none_above_more es l k h r.none_above;
  roomy = λ j b. omega (arith, r.roomy j b, mul-le l ((hardware us units).units ((hardware us units).class j)) k ((hardware us units).units ((hardware us units).class j)) h (omega arith));
}

module _ (ops : Loop) (es : List Edge) (us : List Timing) (units : List ℕ) (k : ℕ) (ready : Ready ops es us units k) where
  abbrev hw : Hardware
  hw = hardware us units

  -- the sum of the latencies is an interval
  pub whole_short : total hw.latency (length ops) ≤ 256
  whole_short = (sequential_stands ops hw ready.formed).3

  pub few_steps : steps_of (searched ops es us units k) ≤ 192
  few_steps = search_steps es hw (length ops) (heights es (length ops) k) k ready.formed.few ready.graph.each ready.roomy

  -- a search by heights is the search
  pub by_heights : (height : ℕ → ℕ) → ((u : ℕ) → IsHeight es k u (height u)) → search es hw (length us) height k ≡ searched ops es us units k
  by_heights height are =
      ap₂ (λ n h. search es hw n h k) ready.each
      ((heights_are es (length ops) k ready.graph.each ready.none_above).1 height are)

  -- a table can hold the lives of a schedule at k with few stages
  pub lives_limits : (time : ℕ → ℕ) → k ≤ 256 → stages (at_interval k time) (length ops) ≤ 8 → Limits (lives_table ops (hardware us []) (at_interval k time))
  lives_limits time small few =
      subst Limits (table_any ops us (at_interval k time) units [])
      ((lives_last ops hw (at_interval k time) ready.formed).1 ready.positive small ((stages_by_times ops (at_interval k time) ready.positive).0 few))

  -- the sequential times
  pub sequence_is : (interval : ℕ) (time : ℕ → ℕ) → interval ≡ total hw.latency (length us) →
      ((j : ℕ) → time j ≡ cond (ltb j (length us)) (total hw.latency j) 0) → Tells (length ops) (at_interval interval time) (sequential ops hw)
  sequence_is interval time a b = record {
    alike = record {
      interval = a ∙ ap (total hw.latency) ready.each;
      times = λ j h. b j ∙ (let below : j < length us = omega (arith, ready.each) in rw (lt-ltb j (length us) below) refl);
    };
    rest = λ j h. b j ∙ (let past : length us ≤ j = omega (arith, ready.each) in rw (le-ltb j (length us) past) refl);
  }

  pub sequence_limits : Limits (lives_table ops hw (sequential ops hw))
  sequence_limits = (sequential_stands ops hw ready.formed).4
