-- Where a name is defined, among statements on rising lines. Assumes nothing.
use Rattle.std.proofs.Common.{◌≡◌, ℕ, zero, suc, ◌+◌, ◌<◌, ◌≤◌, Bool, true, false, ◌&&◌, ltb, List, [], ◌∷◌, ◌++◌, length, get_or, ⊎_elim, arith}
use Rattle.std.proofs.lemmas.Bool.{ltb-true, cases_Bool, and_parts, or_cases, or_left, or_right, both_ways}
use Rattle.model.specs.Shapes.{some}
use Rattle.model.specs.LoopText.{Statement, same_name, is_defined, definer}

-- each on a later line than the one before it, from `low` on and below `high`
abbrev pub Rising : ℕ → ℕ → List Statement → Type 0
Rising low high [] = low ≤ high
Rising low high (s ∷ ss) = (low ≤ s.line) × Rising (s.line + 1) high ss

pub rising_more : (ss : List Statement) (low high : ℕ) → Rising low high ss → Rising low (high + 1) ss
rising_more [] low high h = omega arith
rising_more (s ∷ ss) low high h = (h.0, rising_more ss (s.line + 1) high h.1)

pub rising_push : (ss : List Statement) (s : Statement) (low high : ℕ) → s.line ≡ high → Rising low high ss → Rising low (high + 1) (ss ++ s ∷ [])
rising_push [] s low high e h = (omega arith, omega arith)
rising_push (t ∷ ss) s low high e h = (h.0, rising_push ss s (t.line + 1) high e h.1)

module _ (w : List ℕ) where
  abbrev above : ℕ → Statement → Bool
  above line s = same_name w s.defines && ltb s.line line

  -- none of them stands above a line where the first of them may stand
  none_above : (ss : List Statement) (low high line : ℕ) → line ≤ low → Rising low high ss → some (above line) ss ≡ true → ⊥
  none_above [] low high line h r e = let z : ◌≡◌ {A = ℕ} 0 1 = cc in omega arith
  none_above (s ∷ ss) low high line h r e =
      ⊎_elim
      (λ (y : above line s ≡ true). omega (arith, ltb-true s.line line (and_parts (same_name w s.defines) (ltb s.line line) y).1))
      (λ (y : some (above line) ss ≡ true). none_above ss (s.line + 1) high line (omega arith) r.1 y)
      (or_cases (above line s) (some (above line) ss) e)

  pub definer_above : (ss : List Statement) (low high q : ℕ) (d : Statement) → Rising low high ss → q < length ss → some (above (get_or ss q d).line) ss ≡ true → definer ss w < q
  definer_above [] low high q d r h e = absurd (omega arith)
  definer_above (s ∷ ss) low high zero d r h e = absurd (none_above (s ∷ ss) s.line high s.line (omega arith) (omega arith, r.1) e)
  definer_above (s ∷ ss) low high (suc q) d r h e =
      ⊎_elim
      (λ (y : same_name w s.defines ≡ true). rw y (omega arith))
      (λ (y : same_name w s.defines ≡ false).
      let below : some (above (get_or ss q d).line) ss ≡ true =
      ⊎_elim
      (λ (z : above (get_or ss q d).line s ≡ true). absurd (both_ways (same_name w s.defines) y (and_parts (same_name w s.defines) (ltb s.line (get_or ss q d).line) z).0))
      (λ (z : some (above (get_or ss q d).line) ss ≡ true). z)
      (or_cases (above (get_or ss q d).line s) (some (above (get_or ss q d).line) ss) e) in
      rw y (let ih = definer_above ss (s.line + 1) high q d r.1 (omega arith) below in omega arith))
      (cases_Bool (same_name w s.defines))

  -- a name that some statement defines has its definer among them
  pub definer_in : (ss : List Statement) (d : Statement) → is_defined ss w ≡ true → (definer ss w < length ss) × (same_name w (get_or ss (definer ss w) d).defines ≡ true)
  definer_in [] d e = let z : ◌≡◌ {A = ℕ} 0 1 = cc in absurd (omega arith)
  definer_in (s ∷ ss) d e =
      ⊎_elim
      (λ (y : same_name w s.defines ≡ true). rw y (omega arith, y))
      (λ (y : same_name w s.defines ≡ false).
      let ih = definer_in ss d (rw y at e) in
      let next : 1 + definer ss w ≡ suc (definer ss w) = omega arith in
      rw (y, next) (omega arith, ih.1))
      (cases_Bool (same_name w s.defines))

  -- defined above a line, so defined
  pub defined : (ss : List Statement) (line : ℕ) → some (above line) ss ≡ true → is_defined ss w ≡ true
  defined [] line e = e
  defined (s ∷ ss) line e =
      ⊎_elim
      (λ (y : above line s ≡ true). or_left (same_name w s.defines) (is_defined ss w) (and_parts (same_name w s.defines) (ltb s.line line) y).0)
      (λ (y : some (above line) ss ≡ true). or_right (same_name w s.defines) (is_defined ss w) (defined ss line y))
      (or_cases (above line s) (some (above line) ss) e)
