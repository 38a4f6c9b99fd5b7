-- The worked example of a run: a running sum over the cells from 0, into the cells from 64.
use Rattle.std.specs.Prelude.{◌≡◌, ℕ, zero, suc, List, [], ◌∷◌, ◌++◌, map, length, replicate}
use Rattle.model.specs.Loop.{Loop, variable, load, store, binary, Hardware, WellFormed}
use Rattle.model.specs.declared.Operator.TheVariants.{Plus}
use Rattle.model.specs.Schedule.{Schedule, stages, IsSchedule, FewStages}
use Rattle.model.specs.Schemes.{Apart, rotating, expanded}
use Rattle.model.specs.SchemeLaws.{sum_lives}
use Rattle.model.specs.Domains.{words}
use Rattle.model.specs.Plain.{plain}
use Rattle.model.specs.Issues.{passes, cycles, home_of, issues_at}
use Rattle.model.specs.Driving.{Waiting, Machine, fresh, standing, drive}
use Rattle.model.specs.ScheduleLives.{lives_table}
use Rattle.model.specs.Pipelining.{InMemory}

-- a = load 1 0; s = add s@1 a; store s 1 64
abbrev pub sums : Loop
sums = load 1 0 ∷ binary Plus (variable 1 1) (variable 0 0) ∷ store (variable 1 0) 1 64 ∷ []

abbrev pub latency_of : ℕ → ℕ
latency_of zero = 2
latency_of (suc j) = 1

abbrev pub class_of : ℕ → ℕ
class_of zero = 1
class_of (suc zero) = 0
class_of (suc (suc j)) = 1

abbrev pub time_of : ℕ → ℕ
time_of zero = 0
time_of (suc zero) = 2
time_of (suc (suc j)) = 3

-- class 0 is alu, class 1 is mem, one unit each; a load takes two cycles
abbrev pub one_of_each : Hardware
one_of_each = record { latency = latency_of; class = class_of; busy = λ _. 1; units = λ _. 1 }

abbrev pub packed : Schedule
packed = record { interval = 2; time = time_of }

-- 67 cells, and files that hold something else
abbrev pub cells : List ℕ
cells = 5 ∷ 7 ∷ 9 ∷ replicate 64 0

abbrev pub entry : ℕ → ℕ → Waiting ℕ
entry due value = record { due = due; value = value }

abbrev pub left : List ℕ
left = 5 ∷ 7 ∷ 9 ∷ (replicate 61 0 ++ 5 ∷ 12 ∷ 21 ∷ [])

-- the machine's run with these places, and what stands then
abbrev pub three_iterations : (ℕ → ℕ → ℕ) → Machine ℕ
three_iterations place = standing (drive words (λ _. 1) 2 3 (issues_at sums one_of_each packed 3 (home_of sums place)) (passes packed 3 3) (fresh cells (λ _. 99) (λ _. entry 98 97)))

pub record WorkedRun : Type 0 where
  -- the theorem's hypotheses hold
  pub well_formed : WellFormed sums one_of_each
  pub is_schedule : IsSchedule sums one_of_each packed
  pub few_stages : FewStages sums packed
  pub in_memory : InMemory sums 3 (length cells)
  pub lives : lives_table sums one_of_each packed ≡ sum_lives
  pub rotating_law : Apart (lives_table sums one_of_each packed) (rotating sum_lives).place
  pub expanded_law : Apart (lives_table sums one_of_each packed) (expanded sum_lives).place
  -- one cell less is too few
  pub not_in_memory : InMemory sums 3 66 → ⊥
  -- two stages, eight cycles, and none without iterations
  pub two_stages : stages packed 3 ≡ 2
  pub eight_cycles : cycles packed 3 3 ≡ 8
  pub no_cycles : cycles packed 3 0 ≡ 0
  -- cells 64 to 66 become 5, 12 and 21
  pub plain_leaves : (plain words sums 3 cells).memory ≡ left
  pub rotating_leaves : (three_iterations (rotating sum_lives).place).memory ≡ left
  pub expanded_leaves : (three_iterations (expanded sum_lives).place).memory ≡ left
  -- the files: by rotating in registers 62, 63, 0 and 1, and by expanded in registers 0 to 3; the next is as it was
  pub rotating_values : map (three_iterations (rotating sum_lives).place).values (62 ∷ 63 ∷ 0 ∷ 1 ∷ 2 ∷ []) ≡ 9 ∷ 21 ∷ 12 ∷ 5 ∷ 99 ∷ []
  pub rotating_waiting : map (three_iterations (rotating sum_lives).place).waiting (62 ∷ 63 ∷ 0 ∷ 1 ∷ 2 ∷ []) ≡
      entry 6 9 ∷ entry 7 21 ∷ entry 5 12 ∷ entry 3 5 ∷ entry 98 97 ∷ []
  pub expanded_values : map (three_iterations (expanded sum_lives).place).values (0 ∷ 1 ∷ 2 ∷ 3 ∷ 4 ∷ []) ≡ 9 ∷ 7 ∷ 21 ∷ 12 ∷ 99 ∷ []
  pub expanded_waiting : map (three_iterations (expanded sum_lives).place).waiting (0 ∷ 1 ∷ 2 ∷ 3 ∷ 4 ∷ []) ≡
      entry 6 9 ∷ entry 4 7 ∷ entry 7 21 ∷ entry 5 12 ∷ entry 98 97 ∷ []
