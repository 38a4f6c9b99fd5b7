-- Register schemes: what one means, the law of places, and the rotating and the expanded scheme.
use Rattle.std.specs.Prelude.{◌≡◌, ℕ, ◌+◌, ◌-◌, ◌*◌, ◌/◌, ◌%◌, ◌<◌, ◌≤◌, max, cond, ◌&&◌, List, [], ◌∷◌, length, take, nat_le, nat_lt}
use Rattle.model.specs.Lives.{Life, Table, life, Alive}

-- What a scheme means: the number of its registers, what it needs for a table, the number of variables of the table that it accepted last, its turns,
-- the register of a variable in an iteration, the name for a variable, a copy and a number of passes back, and the register of a name in a pass.
pub record Meaning : Type 0 where
  pub file : ℕ
  pub need : Table → ℕ
  pub variables : ℕ
  pub turns : ℕ
  pub place : ℕ → ℕ → ℕ
  pub name : ℕ → ℕ → ℕ → ℕ
  pub resolve : ℕ → ℕ → ℕ

-- The law of places: two instances that share a cycle and a place are one.
abbrev pub Apart : Table → (ℕ → ℕ → ℕ) → Type 0
Apart t place = (v i w j c : ℕ) → Alive t v i c → Alive t w j c → place v i ≡ place w j → (v ≡ w) × (i ≡ j)

-- There is a name for each variable, each copy below the turns and 0 to 14 passes back.
abbrev pub Nameable : Meaning → ℕ → ℕ → ℕ → Type 0
Nameable m v c r = (v < m.variables) × (c < m.turns) × (r ≤ 14)

-- The ranges of a scheme, and that names lead to places. It holds at all times.
pub record Lawful (m : Meaning) : Type 0 where
  pub some_file : 1 ≤ m.file
  pub small_file : m.file ≤ 256
  pub some_turns : 1 ≤ m.turns
  pub few_turns : m.turns ≤ 8
  pub names_below : (v c r : ℕ) → m.name v c r < m.file
  pub names_outside : (v c r : ℕ) → (Nameable m v c r → ⊥) → m.name v c r ≡ 0
  pub registers_below : (n p : ℕ) → m.resolve n p < m.file
  pub registers_outside : (n p : ℕ) → m.file ≤ n → m.resolve n p ≡ 0
  pub places_below : (v i : ℕ) → v < m.variables → m.place v i < m.file
  -- in pass p the name for copy p mod turns and r passes back leads to the place of iteration p - r
  pub resolves : (v p r : ℕ) → v < m.variables → r ≤ 14 → r ≤ p → m.resolve (m.name v (p % m.turns) r) p ≡ m.place v (p - r)

-- A table was accepted with the answer u: what the scheme meant before, what it means after and the places it gives then.
pub record Accepted (before after : Meaning) (place : ℕ → ℕ → ℕ) (t : Table) (u : ℕ) : Type 0 where
  pub within : before.need t ≤ before.file
  pub turns : u ≡ after.turns
  pub variables : after.variables ≡ length t.lives
  pub file : after.file ≡ before.file
  pub need : after.need ≡ before.need
  pub apart : Apart t place

-- A table was refused: it needs too much, and the scheme is as it was.
pub record Refused {S : Type 0} (meaning : Meaning) (before after : S) (t : Table) : Type 0 where
  pub beyond : meaning.file < meaning.need t
  pub same : after ≡ before

-- a - b modulo m, from 0 to m - 1: modulo m, subtracting 1 is adding m - 1
abbrev pub less : ℕ → ℕ → ℕ → ℕ
less m a b = (a + (m - 1) * b) % m

-- ROTATING, 64 registers. Each pass turns the registers by one, so a life takes as many of them as it touches stages.
abbrev pub width : ℕ → Life → ℕ
width k l = l.end / k - l.start / k + 1

abbrev pub widths : ℕ → List Life → ℕ
widths k [] = 0
widths k (l ∷ ls) = width k l + widths k ls

abbrev pub rotating_need : Table → ℕ
rotating_need t = widths t.interval t.lives

-- A, modulo 64: the widths of the lower variables minus the stage of v
abbrev pub rotating_base : Table → ℕ → ℕ
rotating_base t v = less 64 (widths t.interval (take v t.lives)) ((life t v).start / t.interval)

-- with n variables and A of each
abbrev pub rotating_with : ℕ → (ℕ → ℕ) → Meaning
rotating_with n base = record {
  file = 64;
  need = rotating_need;
  variables = n;
  turns = 1;
  place = λ v i. cond (nat_lt v n) (less 64 (base v) i) 0;
  name = λ v c r. cond (nat_lt v n && (nat_lt c 1 && nat_le r 14)) ((base v + r) % 64) 0;
  resolve = λ a p. cond (nat_lt a 64) (less 64 a p) 0;
}

-- The rotating scheme that accepted t last.
abbrev pub rotating : Table → Meaning
rotating t = rotating_with (length t.lives) (rotating_base t)

-- EXPANDED, 64 registers. The kernel is written out once for each turn, and each variable has a register for each turn.
abbrev pub want : ℕ → Life → ℕ
want k l = (l.end - l.start) / k + 1

-- the greatest want, 1 without variables
abbrev pub greatest_want : ℕ → List Life → ℕ
greatest_want k [] = 1
greatest_want k (l ∷ ls) = max (want k l) (greatest_want k ls)

abbrev pub expanded_turns : Table → ℕ
expanded_turns t = greatest_want t.interval t.lives

abbrev pub expanded_need : Table → ℕ
expanded_need t = cond (nat_lt 8 (expanded_turns t)) 257 (expanded_turns t * length t.lives)

-- with n variables and U turns
abbrev pub expanded_with : ℕ → ℕ → Meaning
expanded_with n U = record {
  file = 64;
  need = expanded_need;
  variables = n;
  turns = U;
  place = λ v i. cond (nat_lt v n) (U * v + i % U) 0;
  name = λ v c r. cond (nat_lt v n && (nat_lt c U && nat_le r 14)) (U * v + less U c r) 0;
  resolve = λ a p. cond (nat_lt a 64) a 0;
}

-- The expanded scheme that accepted t last.
abbrev pub expanded : Table → Meaning
expanded t = expanded_with (length t.lives) (expanded_turns t)

-- A fresh scheme has accepted nothing.
abbrev pub no_lives : Table
no_lives = record { interval = 1; lives = [] }
