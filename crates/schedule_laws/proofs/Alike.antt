-- What is the same of schedules that are alike.
use Rattle.std.proofs.Common.{◌≡◌, ℕ, zero, suc, ◌+◌, ◌-◌, ◌*◌, ◌/◌, ◌<◌, ◌≤◌, max, cond, ◌==◌, List, [], ◌∷◌, ◌++◌, length, sym, refl, subst, ap₂, arith}
use Rattle.std.specs.List.{AllByRecursion}
use Rattle.model.specs.declared.Edge.{Edge}
use Rattle.model.specs.declared.Life.{Life}
use Rattle.model.specs.Loop.{Loop, Operand, literal, variable, Operation, load, store, binary, move, op, makes, Hardware, WellFormed}
use Rattle.model.specs.Edges.{EdgeMet, edges}
use Rattle.model.specs.Limits.{EdgeFits}
use Rattle.model.specs.Schedule.{Schedule, stage, stages, uses, row_uses, IsSchedule}
use Rattle.model.specs.Lives.{Table, Limits}
use Rattle.model.specs.ScheduleLives.{read_at, greatest, last_read, life_of, lives_of, lives_table}
use Rattle.model.specs.SearchLaws.{SoundSchedule}
use Rattle.graph_laws.proofs.Total.{total_same}
use Rattle.graph_laws.proofs.Fits.{edges_fit}
use Rattle.schedule_laws.specs.Alike.{Alike}

pub alike_back : (n : ℕ) (v w : Schedule) → Alike n v w → Alike n w v
alike_back n v w a = record { interval = sym a.interval; times = λ j h. sym (a.times j h) }

pub alike_self : (n : ℕ) (w : Schedule) → Alike n w w
alike_self n w = record { interval = refl; times = λ _ _. refl }

stage_same : (v w : Schedule) (j : ℕ) → v.interval ≡ w.interval → v.time j ≡ w.time j → stage v j ≡ stage w j
stage_same v w j a b = ap₂ (λ t k. t / k) b a

pub stages_same : (v w : Schedule) (n : ℕ) → Alike n v w → stages v n ≡ stages w n
stages_same v w zero a = refl
stages_same v w (suc n) a =
    ap₂ (λ x s. max x (s + 1)) (stages_same v w n (record { interval = a.interval; times = λ j h. a.times j (omega arith) }))
    (stage_same v w n a.interval (a.times n (omega arith)))

module _ (v w : Schedule) (x q : ℕ) (interval : v.interval ≡ w.interval) (time : v.time q ≡ w.time q) where
  read_same : (a : Operand) → read_at v x q a ≡ read_at w x q a
  read_same (literal z) = refl
  read_same (variable p d) = ap₂ (λ t k. cond (p == x) (t + d * k) 0) time interval

  greatest_same : (o : Operation Operand) → greatest (read_at v x q) o ≡ greatest (read_at w x q) o
  greatest_same (load stride offset) = refl
  greatest_same (store a stride offset) = read_same a
  greatest_same (binary code a b) = ap₂ max (read_same a) (read_same b)
  greatest_same (move a) = read_same a

module _ (ops : Loop) (v w : Schedule) where
  last_same : (x n : ℕ) → Alike n v w → last_read ops v x n ≡ last_read ops w x n
  unfolding last_read
  last_same x zero a = refl
  last_same x (suc q) a =
      ap₂ max (last_same x q (record { interval = a.interval; times = λ j h. a.times j (omega arith) }))
      (greatest_same v w x q a.interval (a.times q (omega arith)) (op ops q))

  module _ (hw : Hardware) (a : Alike (length ops) v w) where
    life_same : (j : ℕ) → j < length ops → life_of ops hw v j ≡ life_of ops hw w j
    life_same j h = ap₂ (λ t r. made t (max (t + hw.latency j - 1) r)) (a.times j h) (last_same j (length ops) a)
      where
        made : ℕ → ℕ → Life
        made s e = record { start = s; end = e }

    lives_same : (n : ℕ) → n ≤ length ops → lives_of ops hw v n ≡ lives_of ops hw w n
    unfolding lives_of
    lives_same zero h = refl
    lives_same (suc j) h = ap₂ (λ l x. l ++ cond (makes (op ops j)) (x ∷ []) []) (lives_same j (omega arith)) (life_same j (omega arith))

    pub table_same : lives_table ops hw v ≡ lives_table ops hw w
    table_same = ap₂ listed a.interval (lives_same (length ops) (omega arith))
      where
        listed : ℕ → List Life → Table
        listed k ls = record { interval = k; lives = ls }

met_same : (n : ℕ) (v w : Schedule) → Alike n v w → (es : List Edge) → AllByRecursion (EdgeFits n) es → AllByRecursion (EdgeMet w.time w.interval) es → AllByRecursion (EdgeMet v.time v.interval) es
met_same n v w a [] f m = tt
met_same n v w a (e ∷ es) f m = (
  subst (λ k. v.time e.from + e.delay ≤ v.time e.to + e.distance * k) (sym a.interval)
      (omega (arith, a.times e.from f.0.from, a.times e.to f.0.to, m.0)),
  met_same n v w a es f.1 m.1,
)

module _ (ops : Loop) (hw : Hardware) (formed : WellFormed ops hw) (v w : Schedule) (a : Alike (length ops) v w) where
  uses_same : (u r : ℕ) → row_uses ops hw v u r ≡ row_uses ops hw w u r
  uses_same u r =
      total_same _ _ (length ops) (λ j h. ap₂ (λ k t. cond (hw.class j == u) (uses k t (hw.busy j) r) 0) a.interval (a.times j h))

  pub schedule_same : IsSchedule ops hw w → IsSchedule ops hw v
  schedule_same s = record {
    positive = subst (λ k. 0 < k) (sym a.interval) s.positive;
    edges_met = met_same (length ops) v w a (edges ops hw) (edges_fit ops hw formed).each s.edges_met;
    rows_fit = λ u r h. let below : r < w.interval = omega (arith, a.interval) in omega (arith, uses_same u r, s.rows_fit u r below);
  }

  pub sound_same : (height : ℕ → ℕ → ℕ) (need : Table → ℕ) (file lowest steps : ℕ) →
      SoundSchedule ops hw height need file lowest w steps → SoundSchedule ops hw height need file lowest v steps
  sound_same height need file lowest steps s = record {
    is_schedule = schedule_same s.is_schedule;
    few_stages = λ j h. omega (arith, a.interval, a.times j h, s.few_stages j h);
    eight = omega (arith, stages_same v w (length ops) a, s.eight);
    some_stages = omega (arith, stages_same v w (length ops) a, s.some_stages);
    taken = subst (λ t. need t ≤ file) (sym (table_same ops v w hw a)) s.taken;
    limits = subst Limits (sym (table_same ops v w hw a)) s.limits;
    at_least = omega (arith, a.interval, s.at_least);
    at_most = omega (arith, a.interval, s.at_most);
    short = omega (arith, a.interval, s.short);
    times = λ j h. omega (arith, a.times j h, s.times j h);
    earlier = λ i l h. s.earlier i l (omega (arith, a.interval));
    steps_few = s.steps_few;
  }
