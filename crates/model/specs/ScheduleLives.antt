-- The lives of the variables of a loop in a schedule.
use Rattle.std.specs.Prelude.{◌≡◌, ℕ, zero, suc, ◌+◌, ◌-◌, ◌*◌, ◌<◌, ◌≤◌, max, true, cond, List, [], ◌∷◌, ◌++◌, length, ◌==◌}
use Rattle.model.specs.Loop.{Loop, Operand, literal, variable, Operation, load, store, binary, move, op, EachOperand, makes, Hardware, WellFormed}
use Rattle.model.specs.Schedule.{Schedule, FewStages}
use Rattle.model.specs.Lives.{Life, Table, life, Limits}
use Rattle.model.specs.Issues.{variable_number}

-- When operation q reads, by this operand, what operation v made in iteration 0; 0 if it does not.
abbrev pub read_at : Schedule → ℕ → ℕ → Operand → ℕ
read_at w v q (literal z) = 0
read_at w v q (variable p d) = cond (p == v) (w.time q + d * w.interval) 0

abbrev pub greatest : {A : Type 0} → (A → ℕ) → Operation A → ℕ
greatest f (load stride offset) = 0
greatest f (store a stride offset) = f a
greatest f (binary code a b) = max (f a) (f b)
greatest f (move a) = f a

-- The last read by the first n operations of what operation v made in iteration 0.
unfoldable pub last_read : Loop → Schedule → ℕ → ℕ → ℕ
last_read ops w v zero = 0
last_read ops w v (suc q) = max (last_read ops w v q) (greatest (read_at w v q) (op ops q))

-- The life of what operation v makes: from its time until it is about to land, or to its last read if that is later.
abbrev pub life_end : Loop → Hardware → Schedule → ℕ → ℕ
life_end ops hw w v = max (w.time v + hw.latency v - 1) (last_read ops w v (length ops))

abbrev pub life_of : Loop → Hardware → Schedule → ℕ → Life
life_of ops hw w v = record { start = w.time v; end = life_end ops hw w v }

-- The lives by variable number: one for each definer among the first n operations, in their order.
unfoldable pub lives_of : Loop → Hardware → Schedule → ℕ → List Life
lives_of ops hw w zero = []
lives_of ops hw w (suc j) = lives_of ops hw w j ++ cond (makes (op ops j)) (life_of ops hw w j ∷ []) []

-- The table of lives of a loop in a schedule.
abbrev pub lives_table : Loop → Hardware → Schedule → Table
lives_table ops hw w = record { interval = w.interval; lives = lives_of ops hw w (length ops) }

abbrev pub ReadInLife : Schedule → (ℕ → ℕ) → ℕ → Operand → Type 0
ReadInLife w life_end q (literal z) = Unit {0}
ReadInLife w life_end q (variable p d) = w.time q + d * w.interval ≤ life_end p

-- What lives have to be: each lasts until its value is about to land and to its last read.
pub record Lasting (ops : Loop) (hw : Hardware) (w : Schedule) : Type 0 where
  pub lands_in_life : (j : ℕ) → j < length ops → makes (op ops j) ≡ true → w.time j + hw.latency j ≤ life_end ops hw w j + 1
  pub reads_in_life : (q : ℕ) → q < length ops → EachOperand (ReadInLife w (life_end ops hw w) q) (op ops q)
  -- the table has the life of each definer under its variable's number
  pub numbered : (j : ℕ) → j < length ops → makes (op ops j) ≡ true →
      (variable_number ops j < length (lives_table ops hw w).lives) × (life (lives_table ops hw w) (variable_number ops j) ≡ life_of ops hw w j)

-- The lives last, and at an interval of at most 256 and at most eight stages they are within the limits of a table.
abbrev pub LivesLast : Type 0
LivesLast =
    (ops : Loop) (hw : Hardware) (w : Schedule) → WellFormed ops hw →
    Lasting ops hw w × (0 < w.interval → w.interval ≤ 256 → FewStages ops w → Limits (lives_table ops hw w))
