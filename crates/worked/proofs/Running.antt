-- The running sum: the theorem's hypotheses, and the runs computed.
use Rattle.std.proofs.Common.{◌≡◌, ℕ, zero, suc, ◌<◌, ◌≤◌, sym, refl, subst, inl, inr, arith}
use Rattle.std.specs.List.{AllByRecursion}
use Rattle.std.proofs.lemmas.Bool.Decides.{nat_tests}
use Rattle.model.specs.Loop.{op, EachOperand, Named}
use Rattle.model.specs.Edges.{EdgeMet, meets, joins, edges}
use Rattle.model.specs.Schedule.{RowsFit, FewStages}
use Rattle.model.specs.Lives.{LifeWithin, life, Limits}
use Rattle.model.specs.Schemes.{Apart, rotating, expanded}
use Rattle.model.specs.SchemeLaws.{sum_lives}
use Rattle.model.specs.ScheduleLives.{last_read, lives_of, lives_table}
use Rattle.model.specs.Plain.{operand_value, evaluate, result, perform, written, remembered, iteration, iterations}
use Rattle.model.specs.Issues.{issues_in, iteration_in, slots}
use Rattle.model.specs.Driving.{land, reserved, examine, issue, issue_all, cycle, run}
use Rattle.model.specs.Pipelining.{InMemory}
use Rattle.model.specs.WorkedRun.{sums, one_of_each, packed, WorkedRun}
use Rattle.register_laws.proofs.Rotating.{rotating_apart}
use Rattle.register_laws.proofs.Expanded.{expanded_apart}

named : (q : ℕ) → q < 3 → EachOperand (Named sums q) (op sums q)
unfolding op
named zero h = tt
named (suc zero) h = ((omega arith, refl, omega arith, omega arith), (omega arith, refl, omega arith, omega arith))
named (suc (suc zero)) h = (omega arith, refl, omega arith, omega arith)
named (suc (suc (suc q))) h = absurd (omega arith)

latencies : (j : ℕ) → j < 3 → (1 ≤ one_of_each.latency j) × (one_of_each.latency j ≤ 8)
latencies zero h = (omega arith, omega arith)
latencies (suc j) h = (omega arith, omega arith)

busies : (j : ℕ) → j < 3 → (1 ≤ 1) × (1 ≤ one_of_each.latency j)
busies zero h = (omega arith, omega arith)
busies (suc j) h = (omega arith, omega arith)

edges_met : AllByRecursion (EdgeMet packed.time 2) (edges sums one_of_each)
unfolding edges joins meets op
edges_met = (omega arith, (omega arith, (omega arith, tt)))

rows_fit : RowsFit sums one_of_each packed
rows_fit u r h = grind (arith, nat_tests)

few_stages : FewStages sums packed
few_stages zero h = omega arith
few_stages (suc zero) h = omega arith
few_stages (suc (suc j)) h = omega arith

in_memory : InMemory sums 3 67
unfolding op
in_memory zero i x hj hi (inl e) = omega arith
in_memory zero i x hj hi (inr e) = absurd e
in_memory (suc zero) i x hj hi (inl e) = absurd e
in_memory (suc zero) i x hj hi (inr e) = absurd e
in_memory (suc (suc zero)) i x hj hi (inl e) = absurd e
in_memory (suc (suc zero)) i x hj hi (inr e) = omega arith
in_memory (suc (suc (suc j))) i x hj hi e = absurd (omega arith)

not_in_memory : InMemory sums 3 66 → ⊥
unfolding op
not_in_memory h = let z : 66 < 66 = h 2 2 66 (omega arith) (omega arith) (inr refl) in omega arith

lives : lives_table sums one_of_each packed ≡ sum_lives
unfolding lives_of last_read op
lives = refl

limits : Limits sum_lives
limits = record { some = omega arith; most = omega arith; few = omega arith; each = each }
  where
    each : (v : ℕ) → v < 2 → LifeWithin 2 (life sum_lives v)
    each zero h = (omega arith, omega arith, omega arith)
    each (suc zero) h = (omega arith, omega arith, omega arith)
    each (suc (suc v)) h = absurd (omega arith)

pub worked : WorkedRun
unfolding op operand_value evaluate result perform written remembered iteration iterations issues_in iteration_in slots land reserved examine issue issue_all cycle run
worked = record {
  well_formed = record {
    some = omega arith;
    few = omega arith;
    named = named;
    latencies = latencies;
    busies = busies;
    units = λ j h. (omega arith, omega arith);
  };
  is_schedule = record { positive = omega arith; edges_met = edges_met; rows_fit = rows_fit };
  few_stages = few_stages;
  in_memory = in_memory;
  lives = lives;
  rotating_law = subst (λ t. Apart t (rotating sum_lives).place) (sym lives) (rotating_apart sum_lives limits (omega arith));
  expanded_law = subst (λ t. Apart t (expanded sum_lives).place) (sym lives) (expanded_apart sum_lives limits);
  not_in_memory = not_in_memory;
  two_stages = refl;
  eight_cycles = refl;
  no_cycles = refl;
  plain_leaves = refl;
  rotating_leaves = refl;
  expanded_leaves = refl;
  rotating_values = refl;
  rotating_waiting = refl;
  expanded_values = refl;
  expanded_waiting = refl;
}
