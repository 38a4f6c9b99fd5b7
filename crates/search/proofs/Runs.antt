-- A search under way, as the program has it.
use Rattle.std.proofs.Common.{◌≡◌, ℕ, ◌<◌, ◌≤◌, List, length, get_or, sym, ap, ◌∙◌, subst, ap₂, inl, inr, arith}
use mathlib.Core.Path.{fun_ext}
use Rattle.std.proofs.lemmas.List.{get_or_past}
use Rattle.std.proofs.lemmas.Bool.{cases_lt}
use Rattle.model.specs.declared.Timing.{Timing}
use Rattle.model.specs.Limits.{timing, hardware, MachineFits}
use Rattle.model.specs.Search.{State, step, complete}
use Rattle.graph_laws.proofs.Top.{timing_at, units_at}
use Rattle.search_laws.specs.Counts.{Low}
use Rattle.search_laws.proofs.Steps.{Going, going_low}
use Rattle.reservation.specs.Views.{Possible}
use Rattle.reservation.specs.declared.table.ReservationTable.{ReservationTable}
use Rattle.search.specs.Fitting.{Fitting}
use Rattle.search.specs.Tables.{hw_of}
use Rattle.search.specs.Boards.{timings_of, size, height, Keeps, state_of, step_on, LowIn}
use Rattle.search.specs.declared.task.Task.{Task}
use Rattle.search.specs.declared.board.Board.{Board}
use Rattle.search.specs.declared.state.Progress.{Progress}

-- a step on a board is one by its task and table, and so is its end
pub step_back : (k : Task) (t : ReservationTable) (b : Board) → Keeps k t b → (s : State) → step_on b s ≡ step k.edges.now (hw_of k.timings.now t) (length k.timings.now) (height k) t.interval s
step_back k t b same s =
    ap₂ (λ u x. step b.task.now.edges.now (hardware (timings_of b) u) (size b) (height b.task.now) x s) same.table.units same.table.interval ∙
    ap (λ x. step x.edges.now (hardware x.timings.now t.units) (length x.timings.now) (height x) t.interval s) same.task

pub complete_back : (k : Task) (t : ReservationTable) (b : Board) → Keeps k t b → (s : State) → complete (size b) s ≡ complete (length k.timings.now) s
complete_back k t b same s = ap (λ x. complete (length x.timings.now) s) same.task

pub low_now : (k : Task) (t : ReservationTable) (s : Progress) (left : ℕ) → Keeps k t s.board → Going k.edges.now (hw_of k.timings.now t) (length k.timings.now) (height k) t.interval (state_of s) left → LowIn s
low_now k t s left same going =
    subst (Low (state_of s).time (state_of s).last (state_of s).taken) (sym same.table.interval) (going_low k.edges.now (hw_of k.timings.now t) (length k.timings.now) (height k) t.interval (state_of s) left going)

-- what the limits give
pub fitting_from : (us : List Timing) (units : List ℕ) → length us ≤ 32 → MachineFits us units → Fitting us
fitting_from us units few fits =
    let classes = fits.classes in
    record {
      few = few;
      class = λ j h. omega (arith, (timing_at us units fits j h).class);
      busy = λ j h. (timing_at us units fits j h).short;
    }

pub possible_from : (us : List Timing) (units : List ℕ) (k : ℕ) → 1 ≤ k → k ≤ 256 → MachineFits us units → Possible units k
possible_from us units k some most fits = record {
  some = some;
  most = most;
  few = record {
    classes = fits.classes;
    each = λ u. elim (cases_lt u (length units)) [ inl l ↦ (units_at us units fits u l).1 | inr g ↦ omega (arith, get_or_past units u 0 g) ];
  };
}

-- the table has the machine's units
pub same_hardware : (us : List Timing) (a b : List ℕ) → ((u : ℕ) → get_or a u 0 ≡ get_or b u 0) → hardware us a ≡ hardware us b
same_hardware us a b h i =
    record { latency = λ j. (timing us j).latency; class = λ j. (timing us j).class; busy = λ j. (timing us j).busy; units = fun_ext h i }
