use Rattle.std.proofs.Common.{◌≡◌, ℕ, ◌≤◌, map, length, get_or, take}
use Rattle.few.specs.Held.{held}
use Rattle.dependence.proofs.hardware.units_of.Given as goal

abbrev pub invariant-loop-place : goal.invariant-loop-place
invariant-loop-place l =
    (length l.units ≡ 8) × (take l.place l.units ≡ map (λ c. c.units) (take l.place (held l.machine.entries.classes))) ×
    ((u : ℕ) → l.place ≤ u → get_or l.units u 0 ≡ 0) × (length (held l.machine.entries.classes) ≤ 8)
