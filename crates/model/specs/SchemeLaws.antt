-- What is proved of the two schemes.
use Rattle.std.specs.Prelude.{◌≡◌, ℕ, ◌+◌, ◌-◌, ◌*◌, ◌/◌, ◌%◌, ◌<◌, ◌≤◌, [], ◌∷◌, length, take, ℤ, pos, ◌+ℤ◌, ◌-ℤ◌}
use Rattle.std.specs.Int.{int_rem_euclid}
use Rattle.model.specs.Lives.{Table, life, Limits}
use Rattle.model.specs.Schemes.{Meaning, Apart, Lawful, widths, rotating_need, rotating, expanded_turns, expanded_need, expanded}

-- A scheme that accepted t last keeps the ranges, its names lead to its places, and instances that share a cycle have places of their own.
pub record Keeps (m : Meaning) (t : Table) : Type 0 where
  pub lawful : Lawful m
  pub variables : m.variables ≡ length t.lives
  pub apart : Apart t m.place

abbrev pub KeepsLaw : (Table → Meaning) → Type 0
KeepsLaw scheme = (t : Table) → Limits t → (scheme t).need t ≤ (scheme t).file → Keeps (scheme t) t

-- In pass p, for an accepted table, the name of (v, p mod turns, r) resolves to the place of (v, p - r).
abbrev pub NamesResolve : (Table → Meaning) → Type 0
NamesResolve scheme = (t : Table) → Limits t → (scheme t).need t ≤ (scheme t).file →
    (v p r : ℕ) → v < length t.lives → r ≤ 14 → r ≤ p →
    (scheme t).resolve ((scheme t).name v (p % (scheme t).turns) r) p ≡ (scheme t).place v (p - r)

-- A, as an integer: the widths of the lower variables minus the stage of v.
abbrev pub rotating_offset : Table → ℕ → ℤ
rotating_offset t v = pos (widths t.interval (take v t.lives)) -ℤ pos ((life t v).start / t.interval)

-- The formulas over the integers, remainders from 0.
pub record Formulas (t : Table) : Type 0 where
  pub rotating_place : (v i : ℕ) → v < length t.lives → pos ((rotating t).place v i) ≡ int_rem_euclid (rotating_offset t v -ℤ pos i) (pos 64)
  pub rotating_name : (v r : ℕ) → v < length t.lives → r ≤ 14 → pos ((rotating t).name v 0 r) ≡ int_rem_euclid (rotating_offset t v +ℤ pos r) (pos 64)
  pub rotating_resolve : (a p : ℕ) → a < 64 → pos ((rotating t).resolve a p) ≡ int_rem_euclid (pos a -ℤ pos p) (pos 64)
  pub expanded_place : (v i : ℕ) → v < length t.lives → (expanded t).place v i ≡ expanded_turns t * v + i % expanded_turns t
  pub expanded_name : (v c r : ℕ) → v < length t.lives → c < expanded_turns t → r ≤ 14 →
      pos ((expanded t).name v c r) ≡ pos (expanded_turns t * v) +ℤ int_rem_euclid (pos c -ℤ pos r) (pos (expanded_turns t))
  pub expanded_resolve : (a p : ℕ) → a < 64 → (expanded t).resolve a p ≡ a

abbrev pub PlacesByFormula : Type 0
PlacesByFormula = (t : Table) → Formulas t

-- The worked example at interval 2: a lives from 0 to 2, s from 2 to 4.
abbrev pub sum_lives : Table
sum_lives = record { interval = 2; lives = record { start = 0; end = 2 } ∷ record { start = 2; end = 4 } ∷ [] }

pub record WorkedLives : Type 0 where
  pub rotating : rotating_need sum_lives ≡ 4
  pub expanded : expanded_need sum_lives ≡ 4
  pub turns : expanded_turns sum_lives ≡ 2
