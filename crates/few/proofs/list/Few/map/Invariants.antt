use Rattle.std.proofs.Common.{◌≡◌, length, take}
use Rattle.std.specs.List.{AllZip}
use Rattle.few.proofs.list.Few.map.Given as goal

abbrev pub invariant-loop-place : goal.invariant-loop-place
invariant-loop-place g l = (length l.items ≡ g.row.N) × AllZip (goal.F-post g l.f) (take l.place l.item-items) (take l.place l.items)
