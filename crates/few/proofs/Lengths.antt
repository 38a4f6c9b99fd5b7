-- No more items than there are places.
use Rattle.std.proofs.Common.{ℕ, ◌≤◌, length, arith, length-take}
use Rattle.few.specs.declared.list.Few.{Few}
use Rattle.few.specs.Held.{held}

pub held_few : {T : Type 0} {N : ℕ} (f : Few T N) → length (held f) ≤ N
held_few f = omega (arith, length-take f.len f.items, f.fits, f.whole)
