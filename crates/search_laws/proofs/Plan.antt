-- What is planned is a schedule.
use Rattle.std.proofs.Common.{◌≡◌, ℕ, zero, suc, ◌+◌, ◌-◌, ◌*◌, ◌<◌, ◌≤◌, true, false, cond, eqb, List, length, sym, refl, ap, ◌∙◌, subst, inl, inr, mul-le-mul_right, mod-lt, suc-mul, div-add-mod', arith}
use mathlib.Core.Path.{fun_ext}
use native.Mathlib.Nat.{div-eq_of_lt}
use Rattle.std.specs.List.{AllByRecursion}
use Rattle.std.proofs.ByRecursion.{All-weaker}
use Rattle.std.proofs.lemmas.Bool.{cases_eq, cases_Bool, cases_lt, eq-eqb, and_parts, leb-true, leb-false, false≢true}
use Rattle.std.proofs.lemmas.Nat.{mul-le}
use Rattle.model.specs.Loop.{Loop, Hardware, total, WellFormed}
use Rattle.model.specs.Edges.{edges}
use Rattle.model.specs.declared.Edge.{Edge}
use Rattle.model.specs.Walks.{Within, distances}
use Rattle.model.specs.Minimum.{busy_sum, rounded_up, own_minimum, NoneAbove, IsMinimum, IsHeight}
use Rattle.model.specs.Limits.{EdgeFits}
use Rattle.model.specs.Relaxation.{round, rounds, Fixed}
use Rattle.model.specs.Schedule.{Schedule, stage, stages, FewStages, sequential}
use Rattle.model.specs.Lives.{Table}
use Rattle.model.specs.ScheduleLives.{lives_table}
use Rattle.model.specs.Search.{Outcome, found, failed, search}
use Rattle.model.specs.Plan.{Plan, planned, refused, at_interval, steps_of, takes, succeeds, found_at, plan_from, plan}
use Rattle.model.specs.SearchLaws.{OnMachine, SoundSearch, SoundSchedule, SoundPlan, SearchIsSound, SequentialStands, PlanIsSound, PlanEnds, PlanIsOne, PlanSucceeds, Succeeded}
use Rattle.graph_laws.proofs.Total.{total_le, total_longer}
use Rattle.graph_laws.proofs.Fits.{edges_fit}
use Rattle.graph_laws.proofs.Steps.{all_within}
use Rattle.graph_laws.proofs.Sums.{greatest_above}
use Rattle.graph_laws.proofs.Lower.{total_const}
use Rattle.graph_laws.proofs.Sequence.{sequential_is_schedule}
use Rattle.graph_laws.proofs.Upper.{at_most_sequential}
use Rattle.graph_laws.proofs.Relaxed.{round_keeps, fixed_is_height}
use Rattle.graph_laws.proofs.Cut.{change_gives_circuit}
use Rattle.pipelining.proofs.Length.{stage_below, stages_by_times}
use Rattle.pipelining.proofs.Theorem.{lives_last}
use Rattle.search_laws.specs.Bounded.{Short, Roomy, Sound}
use Rattle.search_laws.proofs.Sound.{search_sound, in_sixteen}

pub short_edges : (n : ℕ) (es : List Edge) → AllByRecursion (EdgeFits n) es → Short es
short_edges n es h = All-weaker _ _ (λ e f. f.delay) es h

part_sum : (f : ℕ → ℕ) (n j : ℕ) → j < n → f j ≤ total f n
part_sum f n j h = omega (arith, total_longer f (suc j) n h)

-- a quotient rounded up is not exceeded
covers : (a b : ℕ) → 0 < b → a ≤ b * rounded_up a b
covers a b pos = omega (arith, div-add-mod' (a + (b - 1)) b, mod-lt (a + (b - 1)) pos)

pub roomy_from : (es : List Edge) (hw : Hardware) (n classes lowest k : ℕ) → ((j : ℕ) → j < n → hw.class j < classes) → ((u : ℕ) → u < classes → 0 < hw.units u) →
    IsMinimum es hw n classes lowest → lowest ≤ k → Roomy hw n k
roomy_from es hw n classes lowest k known some min low j h =
    let u : ℕ = hw.class j in
    let mine : hw.busy j ≤ busy_sum hw n u = omega (arith, part_sum (λ i. cond (eqb (hw.class i) u) (hw.busy i) 0) n j h, own) in
    omega (
      arith,
      covers (busy_sum hw n u) (hw.units u) (some u (known j h)),
      mul-le (hw.units u) (own_minimum hw n u) (hw.units u) k (omega arith) (omega (arith, greatest_above (own_minimum hw n) classes u (known j h), min.greater)),
    )
  where
    own : cond (eqb (hw.class j) (hw.class j)) (hw.busy j) 0 ≡ hw.busy j
    own = rw (eq-eqb (hw.class j) (hw.class j) refl)

module _ (ops : Loop) (hw : Hardware) (classes lowest : ℕ) (on : OnMachine ops hw classes) (min : IsMinimum (edges ops hw) hw (length ops) classes lowest) where
  positive : 0 < lowest
  positive = omega (arith, min.greater, min.least.0)

  sound_at : (height : ℕ → ℕ) (k : ℕ) → lowest ≤ k → Sound (edges ops hw) hw (length ops) k (search (edges ops hw) hw (length ops) height k)
  sound_at height k h =
      let fits = edges_fit ops hw on.formed in
      search_sound (edges ops hw) hw (length ops) height k (all_within (length ops) (edges ops hw) fits.each) (short_edges (length ops) (edges ops hw) fits.each)
      (roomy_from (edges ops hw) hw (length ops) classes lowest k on.known on.some_units min h)

  sound_outcome : (k : ℕ) (o : Outcome) → 0 < k → Sound (edges ops hw) hw (length ops) k o → SoundSearch ops hw k o
  sound_outcome k (found time taken) pos h = (
    record { positive = pos; edges_met = h.0; rows_fit = h.1 },
    (λ small j l. omega (arith, h.2 j l, in_sixteen k (length ops) taken on.formed.few small h.3)),
    h.3,
  )
  sound_outcome k (failed taken) pos h = h

pub search_is_sound : SearchIsSound
search_is_sound ops hw classes lowest on min height k h =
    sound_outcome ops hw classes lowest on min k _ (omega (arith, positive ops hw classes lowest on min)) (sound_at ops hw classes lowest on min height k h)

-- THE SEQUENTIAL SCHEDULE
module _ (ops : Loop) (hw : Hardware) (formed : WellFormed ops hw) where
  abbrev whole : ℕ
  whole = total hw.latency (length ops)

  starts_below : (j : ℕ) → j < length ops → total hw.latency j < whole
  starts_below j h = omega (arith, total_longer hw.latency (suc j) (length ops) h, (formed.latencies j h).0)

  one_stage : (n : ℕ) → n ≤ length ops → 0 < n → stages (sequential ops hw) n ≡ 1
  one_stage zero h pos = absurd (omega arith)
  one_stage (suc zero) h pos = let none : stage (sequential ops hw) 0 ≡ 0 = div-eq_of_lt (starts_below 0 (omega arith)) in omega arith
  one_stage (suc (suc n)) h pos =
      let none : stage (sequential ops hw) (suc n) ≡ 0 = div-eq_of_lt (starts_below (suc n) (omega arith)) in
      omega (arith, one_stage (suc n) (omega arith) (omega arith))

  whole_small : whole ≤ 256
  whole_small = omega (arith, total_le hw.latency (λ _. 8) (length ops) (λ j h. (formed.latencies j h).1), total_const 8 (length ops), formed.few)

  sequential_few : FewStages ops (sequential ops hw)
  sequential_few j h = omega (arith, starts_below j h)

pub sequential_stands : SequentialStands
sequential_stands ops hw formed =
    let is = sequential_is_schedule ops hw formed in
    let few = sequential_few ops hw formed in
    let small = whole_small ops hw formed in (
      is,
      one_stage ops hw formed (length ops) (omega arith) formed.some,
      few,
      small,
      (lives_last ops hw (sequential ops hw) formed).1 is.positive small few,
    )

-- THE PLAN
some_stage : (w : Schedule) (n : ℕ) → 0 < n → 1 ≤ stages w n
some_stage w n h = omega (arith, stage_below w n 0 h)

module _ (ops : Loop) (hw : Hardware) (classes : ℕ) (height : ℕ → ℕ → ℕ) (need : Table → ℕ) (file lowest : ℕ) (on : OnMachine ops hw classes)
    (min : IsMinimum (edges ops hw) hw (length ops) classes lowest) where
  abbrev longest : ℕ
  longest = total hw.latency (length ops)

  abbrev searched : ℕ → Outcome
  searched k = search (edges ops hw) hw (length ops) (height k) k

  steps_at : (k : ℕ) (o : Outcome) → SoundSearch ops hw k o → steps_of o ≤ 6 * length ops
  steps_at k (found time taken) h = h.2
  steps_at k (failed taken) h = omega arith

  success : (k steps : ℕ) (o : Outcome) → lowest ≤ k → k ≤ longest → SoundSearch ops hw k o → succeeds ops hw need file k o ≡ true →
      ((i : ℕ) → lowest ≤ i → i < k → succeeds ops hw need file i (searched i) ≡ false) → steps ≤ (longest - lowest) * (6 * length ops) →
      SoundSchedule ops hw height need file lowest (found_at k o) steps
  unfolding succeeds
  success k steps (found time taken) low most h e none st =
      let w : Schedule = at_interval k time in
      let both = and_parts _ _ e in
      let eight : stages w (length ops) ≤ 8 = leb-true _ _ both.0 in
      let few : FewStages ops w = (stages_by_times ops w h.0.positive).0 eight in
      let small : k ≤ 256 = omega (arith, whole_small ops hw on.formed) in
      record {
        is_schedule = h.0;
        few_stages = few;
        eight = eight;
        some_stages = some_stage w (length ops) on.formed.some;
        taken = leb-true _ _ both.1;
        limits = (lives_last ops hw w on.formed).1 h.0.positive small few;
        at_least = low;
        at_most = most;
        short = small;
        times = h.1 small;
        earlier = none;
        steps_few = st;
      }
  success k steps (failed taken) low most h e none st = absurd (false≢true e)

  from_sound : (m k steps : ℕ) → lowest ≤ k → k + m ≡ longest → steps ≤ (k - lowest) * (6 * length ops) →
      ((i : ℕ) → lowest ≤ i → i < k → succeeds ops hw need file i (searched i) ≡ false) →
      SoundPlan ops hw height need file lowest (plan_from ops (edges ops hw) hw height need file k m steps)
  unfolding plan_from
  from_sound zero k steps lk e st none =
      let is_l : k ≡ longest = omega arith in
      let sum : steps ≤ (longest - lowest) * (6 * length ops) = rw is_l at st in
      let seq = sequential_stands ops hw on.formed in
      elim (cases_Bool (takes ops hw need file (sequential ops hw))) [
        | inl yes' ↦ rw yes' (record {
          is_schedule = seq.0;
          few_stages = seq.2;
          eight = omega (arith, seq.1);
          some_stages = omega (arith, seq.1);
          taken = leb-true _ _ yes';
          limits = seq.4;
          at_least = omega arith;
          at_most = omega arith;
          short = seq.3;
          times = λ j h. omega (arith, seq.2 j h, seq.3);
          earlier = λ i a b. none i a (omega arith);
          steps_few = sum;
        })
        | inr no' ↦ rw no' (record { not_taken = leb-false _ _ no'; nowhere = λ i a b. none i a (omega arith) })
      ]
  from_sound (suc m) k steps lk e st none =
      let o : Outcome = searched k in
      let sound : SoundSearch ops hw k o = search_is_sound ops hw classes lowest on min (height k) k lk in
      let more : (suc k - lowest) * (6 * length ops) ≡ (k - lowest) * (6 * length ops) + 6 * length ops =
      let same : suc k - lowest ≡ suc (k - lowest) = omega arith in rw same (suc-mul (k - lowest) (6 * length ops)) in
      let sum : steps + steps_of o ≤ (suc k - lowest) * (6 * length ops) = omega (arith, more, steps_at k o sound) in
      let rest : (suc k - lowest) * (6 * length ops) ≤ (longest - lowest) * (6 * length ops) = mul-le-mul_right (6 * length ops) (omega arith) in
      elim (cases_Bool (succeeds ops hw need file k o)) [
        | inl yes' ↦ rw yes' (success k (steps + steps_of o) o lk (omega arith) sound yes' none (omega arith))
        | inr no' ↦ rw no' (from_sound m (suc k) (steps + steps_of o) (omega arith) (omega arith) sum
            (λ i a b. elim (cases_eq i k) [ inl z ↦ rw z no' | inr z ↦ none i a (omega arith) ]))
      ]

  pub plan_sound : SoundPlan ops hw height need file lowest (plan ops (edges ops hw) hw height need file lowest)
  plan_sound =
      let most = at_most_sequential ops hw classes lowest on.formed on.some_units min in
      from_sound (longest - lowest) lowest 0 (omega arith) (omega arith) (omega arith) (λ i a b. absurd (omega arith))

pub plan_is_sound : PlanIsSound
plan_is_sound ops hw classes need file lowest p on is =
    subst (SoundPlan ops hw is.height need file lowest) (sym is.is) (plan_sound ops hw classes is.height need file lowest on is.minimum)

succeeded : (ops : Loop) (hw : Hardware) (height : ℕ → ℕ → ℕ) (need : Table → ℕ) (file lowest : ℕ) (p : Plan) →
    need (lives_table ops hw (sequential ops hw)) ≤ file → SoundPlan ops hw height need file lowest p → Succeeded p
succeeded ops hw height need file lowest (planned w steps) fits h = tt
succeeded ops hw height need file lowest refused fits h = omega (arith, h.not_taken)

pub plan_succeeds : PlanSucceeds
plan_succeeds ops hw classes need file lowest p on is fits = succeeded ops hw is.height need file lowest p fits (plan_is_sound ops hw classes need file lowest p on is)

-- THE HEIGHTS are there from the minimum on, and there is one of each operation.
pub height_one : (es : List Edge) (k u h g : ℕ) → IsHeight es k u h → IsHeight es k u g → h ≡ g
height_one es k u h g a b =
    omega (arith, a.bound b.end b.best b.walk, b.attained, b.bound a.end a.best a.walk, a.attained)

pub none_above_more : (es : List Edge) (k m : ℕ) → k ≤ m → NoneAbove es k → NoneAbove es m
none_above_more es k m h none xs c = omega (arith, none xs c, mul-le (distances es xs) k (distances es xs) m (omega arith) h)

pub above_minimum : (es : List Edge) (hw : Hardware) (n classes lowest k : ℕ) → IsMinimum es hw n classes lowest → lowest ≤ k → NoneAbove es k
above_minimum es hw n classes lowest k min h = none_above_more es min.recurrence k (omega (arith, min.greater)) min.least.1

pub settled : (es : List Edge) (n k : ℕ) → Within n es → NoneAbove es k → Fixed k es (rounds k es n)
unfolding rounds
settled es n k within none u = elim (cases_lt (rounds k es n u) (round k es (rounds k es n) u)) [
  | inr g ↦ omega (arith, round_keeps k (rounds k es n) es u)
  | inl l ↦ let c = change_gives_circuit es k n within n u (omega arith) l in absurd (omega (arith, none c.0 c.1, c.3))
]

pub plan_ends : PlanEnds
plan_ends ops hw classes need file lowest on min =
    let es : List Edge = edges ops hw in
    let n : ℕ = length ops in
    let height : ℕ → ℕ → ℕ = λ k u. rounds k es n u in (
      plan ops es hw height need file lowest,
      record {
        minimum = min;
        height = height;
        heights = λ k h. (fixed_is_height es k n (settled es n k (all_within n es (edges_fit ops hw on.formed).each) (above_minimum es hw n classes lowest k min h))).1;
        is = refl;
      },
    )

-- the plan goes by the heights from k on alone
pub plan_same : (ops : Loop) (es : List Edge) (hw : Hardware) (f g : ℕ → ℕ → ℕ) (need : Table → ℕ) (file lowest : ℕ) → ((k : ℕ) → lowest ≤ k → f k ≡ g k) →
    (m k steps : ℕ) → lowest ≤ k → plan_from ops es hw f need file k m steps ≡ plan_from ops es hw g need file k m steps
unfolding plan_from
plan_same ops es hw f g need file lowest same zero k steps h = refl
plan_same ops es hw f g need file lowest same (suc m) k steps h =
    let o : (ℕ → ℕ) → Outcome = λ x. search es hw (length ops) x k in
    ap (λ x. cond (succeeds ops hw need file k (o x)) (planned (found_at k (o x)) (steps + steps_of (o x))) (plan_from ops es hw f need file (suc k) m (steps + steps_of (o x)))) (same k h) ∙
    ap (λ p. cond (succeeds ops hw need file k (o (g k))) (planned (found_at k (o (g k))) (steps + steps_of (o (g k)))) p)
    (plan_same ops es hw f g need file lowest same m (suc k) (steps + steps_of (o (g k))) (omega arith))

minimum_one : (es : List Edge) (hw : Hardware) (n classes l m : ℕ) → IsMinimum es hw n classes l → IsMinimum es hw n classes m → l ≡ m
minimum_one es hw n classes l m a b =
    omega (
      arith,
      a.greater,
      b.greater,
      a.least.2 b.recurrence b.least.0 b.least.1,
      b.least.2 a.recurrence a.least.0 a.least.1,
    )

pub plan_is_one : PlanIsOne
plan_is_one ops hw classes need file l m p q a b =
    let es : List Edge = edges ops hw in
    let same : l ≡ m = minimum_one es hw (length ops) classes l m a.minimum b.minimum in
    let heights : (k : ℕ) → l ≤ k → a.height k ≡ b.height k =
    λ k h. fun_ext (λ u. height_one es k u _ _ (a.heights k h u) (b.heights k (omega arith) u)) in (
      same,
      a.is ∙ (plan_same ops es hw a.height b.height need file l heights (total hw.latency (length ops) - l) l 0 (omega arith) ∙
          (ap (λ x. plan ops es hw b.height need file x) same ∙ sym b.is)),
    )
