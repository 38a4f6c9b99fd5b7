-- One operation more.
use Rattle.std.proofs.Common.{◌≡◌, ℕ, ◌+◌, ◌-◌, ◌<◌, max, true, false, cond, ltb, List, [], ◌∷◌, ◌++◌, length, get_or, set, sym, refl, ap, ◌∙◌, subst, ap₂, subst₂, inl, inr, arith}
use mathlib.Core.Path.{fun_ext}
use Rattle.std.proofs.lemmas.List.{get_or-set_same, get_or-set_other}
use Rattle.std.proofs.lemmas.Bool.{cases_eq, cases_lt, lt-ltb, le-ltb}
use Rattle.model.specs.Loop.{Loop, Operand, literal, variable, Operation, op, makes, Hardware}
use Rattle.model.specs.Limits.{timing, hardware}
use Rattle.model.specs.declared.Timing.{Timing}
use Rattle.model.specs.declared.Life.{Life}
use Rattle.model.specs.Schedule.{Schedule}
use Rattle.model.specs.Lives.{Table, LifeWithin, Limits}
use Rattle.model.specs.ScheduleLives.{read_at, greatest, last_read, life_of, lives_of, lives_table}
use Rattle.schedule_laws.proofs.Tables.{read_more, lives_none, lives_more, lives_same, same_lives, each_within}
use Rattle.lives.specs.Reads.{read_by}

-- THE LAST READS
reads_same : (w : Schedule) (v q : ℕ) (a : Operand) → read_by (w.time q) w.interval v a ≡ read_at w v q a
reads_same w v q (literal z) = refl
reads_same w v q (variable p d) = refl

pub reads_then : (ops : Loop) (w : Schedule) (v q before after time : ℕ) (o : Operation Operand) → before ≡ last_read ops w v q → o ≡ op ops q → time ≡ w.time q →
    after ≡ max before (greatest (read_by time w.interval v) o) → after ≡ last_read ops w v (q + 1)
reads_then ops w v q before after time o b e t a =
    a ∙ (ap (λ x. max before (greatest (read_by x w.interval v) o)) t ∙
    (ap₂ (λ x y. max x (greatest (read_by (w.time q) w.interval v) y)) b e ∙
    (ap (λ f. max (last_read ops w v q) (greatest f (op ops q))) (fun_ext (reads_same w v q)) ∙ sym (read_more ops w v q))))

-- THE TABLE OF LIVES
abbrev pub pushed : Table → Life → Table
pushed t l = record { interval = t.interval; lives = t.lives ++ (l ∷ []) }

abbrev pub filled : Loop → Hardware → Schedule → ℕ → Table
filled ops hw w j = record { interval = w.interval; lives = lives_of ops hw w j }

abbrev pub listed : Schedule → List Life → Table
listed w ls = record { interval = w.interval; lives = ls }

pub life_then : (ops : Loop) (us : List Timing) (w : Schedule) (j latency last : ℕ) (l : Life) → latency ≡ (timing us j).latency → last ≡ last_read ops w j (length ops) →
    l ≡ record { start = w.time j; end = max (w.time j + latency - 1) last } → l ≡ life_of ops (hardware us []) w j
life_then ops us w j latency last l e f is = is ∙ ap₂ (λ x y. life_from x y) e f
  where
    life_from : ℕ → ℕ → Life
    life_from x y = record { start = w.time j; end = max (w.time j + x - 1) y }

pub table_first : (ops : Loop) (hw : Hardware) (w : Schedule) (t : Table) → t ≡ listed w [] → t ≡ filled ops hw w 0
table_first ops hw w t e = e ∙ ap (listed w) (sym (lives_none ops hw w))

pub table_then : (ops : Loop) (hw : Hardware) (w : Schedule) (j : ℕ) (before after : Table) (l : Life) → before ≡ filled ops hw w j → after ≡ pushed before l →
    l ≡ life_of ops hw w j → makes (op ops j) ≡ true → after ≡ filled ops hw w (j + 1)
table_then ops hw w j before after l b a e m = a ∙ (ap₂ pushed b e ∙ ap (listed w) (sym (lives_more ops hw w j m)))

pub table_skip : (ops : Loop) (hw : Hardware) (w : Schedule) (j : ℕ) (t : Table) → t ≡ filled ops hw w j → makes (op ops j) ≡ false → t ≡ filled ops hw w (j + 1)
table_skip ops hw w j t b m = b ∙ ap (listed w) (sym (lives_same ops hw w j m))

pub table_last : (ops : Loop) (us : List Timing) (w : Schedule) (j : ℕ) (t : Table) (units : List ℕ) → j ≡ length ops → t ≡ filled ops (hardware us []) w j →
    t ≡ lives_table ops (hardware us units) w
table_last ops us w j t units e b =
    b ∙ (ap (filled ops (hardware us []) w) e ∙ ap (listed w) (same_lives ops (hardware us []) (hardware us units) w (length ops) (λ _ _. refl)))

-- a life that lands too late, and one that is refused
pub no_room : (ops : Loop) (us : List Timing) (w : Schedule) (j latency : ℕ) (units : List ℕ) → j < length ops → makes (op ops j) ≡ true →
    latency ≡ (timing us j).latency → 4095 < w.time j + latency - 1 → Limits (lives_table ops (hardware us units) w) → ⊥
no_room ops us w j latency units h m e late limits = omega (arith, (each_within ops (hardware us units) w j h m limits).1.2)

pub no_push : (ops : Loop) (us : List Timing) (w : Schedule) (j : ℕ) (l : Life) (t : Table) (units : List ℕ) → j < length ops → makes (op ops j) ≡ true →
    l ≡ life_of ops (hardware us []) w j → t ≡ filled ops (hardware us []) w j → ((length t.lives < 32) × LifeWithin t.interval l → ⊥) →
    Limits (lives_table ops (hardware us units) w) → ⊥
no_push ops us w j l t units h m is b refused limits =
    let within = each_within ops (hardware us units) w j h m limits in
    refused (
      subst (λ x. length x.lives < 32) (sym b) (subst (λ ls. length ls < 32) (sym (same_lives ops (hardware us []) (hardware us units) w j (λ _ _. refl))) within.0),
      subst₂ (λ x y. LifeWithin x.interval y) (sym b) (sym is) within.1,
    )

-- THE SEQUENTIAL TIMES
pub times_more : (f : ℕ → ℕ) (xs : List ℕ) (j x : ℕ) → length xs ≡ 32 → j < 32 → x ≡ f j → ((q : ℕ) → get_or xs q 0 ≡ cond (ltb q j) (f q) 0) →
    (q : ℕ) → get_or (set xs j x) q 0 ≡ cond (ltb q (j + 1)) (f q) 0
times_more f xs j x long h e below q = elim (cases_eq q j) [
  | inl s ↦ rw (s, lt-ltb j (j + 1) (omega arith)) (get_or-set_same xs j x 0 (omega arith) ∙ e)
  | inr z ↦ get_or-set_other xs j q x 0 z ∙ (below q ∙ ap (λ b. cond b (f q) 0) (same z))
]
  where
    same : (q ≡ j → ⊥) → ltb q j ≡ ltb q (j + 1)
    same z = elim (cases_lt q j) [
      | inl l ↦ lt-ltb q j l ∙ sym (lt-ltb q (j + 1) (omega arith))
      | inr g ↦ le-ltb q j g ∙ sym (le-ltb q (j + 1) (omega arith))
    ]
