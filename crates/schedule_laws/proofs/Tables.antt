-- The table of lives, operation by operation.
use Rattle.std.proofs.Common.{◌≡◌, ℕ, zero, suc, ◌+◌, ◌-◌, ◌<◌, max, true, false, cond, List, [], ◌∷◌, ◌++◌, length, get_or, refl, ap, ◌∙◌, subst, ap₂, inl, inr, append_assoc, add-one, arith, length-append}
use Rattle.std.proofs.lemmas.List.{get_or_at, append-nil}
use Rattle.std.proofs.lemmas.Bool.{cases_eq}
use Rattle.model.specs.Loop.{Loop, op, makes, Hardware}
use Rattle.model.specs.Schedule.{Schedule}
use Rattle.model.specs.declared.Life.{Life}
use Rattle.model.specs.declared.Timing.{Timing}
use Rattle.model.specs.Limits.{hardware}
use Rattle.model.specs.Lives.{Table, no_life, LifeWithin, Limits}
use Rattle.model.specs.ScheduleLives.{read_at, greatest, last_read, life_of, lives_of, lives_table}

pub read_more : (ops : Loop) (w : Schedule) (v q : ℕ) → last_read ops w v (q + 1) ≡ max (last_read ops w v q) (greatest (read_at w v q) (op ops q))
unfolding last_read
read_more ops w v q = rw add-one refl

pub read_none : (ops : Loop) (w : Schedule) (v : ℕ) → last_read ops w v 0 ≡ 0
unfolding last_read
read_none ops w v = refl

module _ (ops : Loop) (hw : Hardware) (w : Schedule) where
  pub lives_none : lives_of ops hw w 0 ≡ []
  unfolding lives_of
  lives_none = refl

  pub lives_more : (j : ℕ) → makes (op ops j) ≡ true → lives_of ops hw w (j + 1) ≡ lives_of ops hw w j ++ (life_of ops hw w j ∷ [])
  unfolding lives_of
  lives_more j e = rw add-one (rw e refl)

  pub lives_same : (j : ℕ) → makes (op ops j) ≡ false → lives_of ops hw w (j + 1) ≡ lives_of ops hw w j
  unfolding lives_of
  lives_same j e = rw add-one (rw e (append-nil (lives_of ops hw w j)))

  -- what stands behind the life of a definer
  behind : (j n : ℕ) → j < n → makes (op ops j) ≡ true → (rest : List Life) × (lives_of ops hw w n ≡ lives_of ops hw w j ++ (life_of ops hw w j ∷ rest))
  unfolding lives_of
  behind j zero h e = absurd (omega arith)
  behind j (suc n) h e = elim (cases_eq j n) [
    | inl s ↦ rw (← s) ([], rw e refl)
    | inr z ↦
        let before = behind j n (omega arith) e in
        let tail : List Life = cond (makes (op ops n)) (life_of ops hw w n ∷ []) [] in
        (before.0 ++ tail, ap (λ l. l ++ tail) before.1 ∙ append_assoc (lives_of ops hw w j) (life_of ops hw w j ∷ before.0) tail)
  ]

  -- within the limits of the table each life has a place, and is within its own
  pub each_within : (j : ℕ) → j < length ops → makes (op ops j) ≡ true → Limits (lives_table ops hw w) →
      (length (lives_of ops hw w j) < 32) × LifeWithin w.interval (life_of ops hw w j)
  each_within j h e limits =
      let b = behind j (length ops) h e in
      let before = lives_of ops hw w j in
      let long : length (lives_of ops hw w (length ops)) ≡ length before + length (life_of ops hw w j ∷ b.0) =
      ap length b.1 ∙ length-append before (life_of ops hw w j ∷ b.0) in
      let is : get_or (lives_of ops hw w (length ops)) (length before) no_life ≡ life_of ops hw w j =
      ap (λ l. get_or l (length before) no_life) b.1 ∙ get_or_at before (life_of ops hw w j) b.0 no_life (length before) refl in
      (omega (arith, limits.few), subst (LifeWithin w.interval) is (limits.each (length before) (omega arith)))

-- The lives go by the latencies alone.
pub same_lives : (ops : Loop) (hw other : Hardware) (w : Schedule) (n : ℕ) → ((j : ℕ) → j < n → hw.latency j ≡ other.latency j) → lives_of ops hw w n ≡ lives_of ops other w n
unfolding lives_of
same_lives ops hw other w zero same = refl
same_lives ops hw other w (suc j) same =
    ap₂ (λ l x. l ++ cond (makes (op ops j)) (record { start = w.time j; end = max (w.time j + x - 1) (last_read ops w j (length ops)) } ∷ []) [])
    (same_lives ops hw other w j (λ i h. same i (omega arith))) (same j (omega arith))

pub table_any : (ops : Loop) (us : List Timing) (w : Schedule) (a b : List ℕ) → lives_table ops (hardware us a) w ≡ lives_table ops (hardware us b) w
table_any ops us w a b = ap listed (same_lives ops (hardware us a) (hardware us b) w (length ops) (λ _ _. refl))
  where
    listed : List Life → Table
    listed ls = record { interval = w.interval; lives = ls }
