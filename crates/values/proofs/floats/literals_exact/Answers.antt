use Rattle.std.specs.Float.{binary64}
use Rattle.std.specs.Float.Ieee.{of_int}
use Rattle.std.proofs.Common.{ℕ, suc, ◌^◌, ◌<◌, true, false, pos, negsuc, arith}
use lib.Ieee.Back.{round_whole}
use Rattle.model.specs.Domains.{Exact, floats}
use Rattle.values.proofs.floats.literals_exact.Goals as goal

small : (n : ℕ) → n < 2 ^ 31 → Exact (pos n) (floats.of_literal (pos n))
unfolding of_int
small n h = round_whole binary64 false n (omega arith)

negative : (n : ℕ) → n < 2 ^ 31 → Exact (negsuc n) (floats.of_literal (negsuc n))
unfolding of_int
negative n h = round_whole binary64 true (suc n) (omega arith)

pub returns : goal.returns
returns c = record { from_zero = small; below_zero = negative }
