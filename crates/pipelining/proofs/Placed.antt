-- What the run asks of registers: lives that last, and places of their own for lives that share a cycle. Registers go by operation here.
use Rattle.std.proofs.Common.{◌≡◌, ℕ, ◌+◌, ◌*◌, ◌<◌, ◌≤◌, true, length}
use Rattle.model.specs.Loop.{Loop, op, EachOperand, makes, Hardware}
use Rattle.model.specs.Schedule.{Schedule}
use Rattle.model.specs.MemoryOrder.{issue_cycle}
use Rattle.model.specs.ScheduleLives.{ReadInLife}

-- Cycle c belongs to the life of what operation p makes in iteration i.
abbrev pub Lives : Schedule → (ℕ → ℕ) → ℕ → ℕ → ℕ → Type 0
Lives w life_end p i c = (issue_cycle w p i ≤ c) × (c ≤ life_end p + i * w.interval)

pub record Placed (ops : Loop) (hw : Hardware) (w : Schedule) (home : ℕ → ℕ → ℕ) (life_end : ℕ → ℕ) : Type 0 where
  pub lands_in_life : (j : ℕ) → j < length ops → makes (op ops j) ≡ true → w.time j + hw.latency j ≤ life_end j + 1
  pub reads_in_life : (q : ℕ) → q < length ops → EachOperand (ReadInLife w life_end q) (op ops q)
  pub apart : (p i q m c : ℕ) → p < length ops → q < length ops → makes (op ops p) ≡ true → makes (op ops q) ≡ true →
      Lives w life_end p i c → Lives w life_end q m c → home p i ≡ home q m → (p ≡ q) × (i ≡ m)
