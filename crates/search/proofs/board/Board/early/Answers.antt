use Rattle.std.proofs.Common.{◌≡◌, ℕ, ◌<◌, List, [], ◌∷◌, max, refl, ◌∙◌, arith, rules, tests}
use Rattle.std.specs.Ordering.{ord_max, nat_cmp}
use Rattle.std.specs.List.{fold}
use Rattle.std.proofs.lemmas.List.Sums.{fold-append}
use Rattle.std.proofs.lemmas.Fn.{fold_over}
use Rattle.std.proofs.iter.Yields.{nat_range_steps}
use Rattle.std.proofs.lemmas.Iterator.{YieldsList-from_range}
use Rattle.search.specs.Views.{weights_of}
use Rattle.search.specs.Boards.{size, placed_on}
use Rattle.search.proofs.Boards.{asked_from, greatest_asked}
use Rattle.search.proofs.Cells.{greater_is}
use Rattle.search.proofs.board.Board.early.Goals as goal

pub returns : goal.returns
returns c =
    let b = c.args.self.now in
    let h = asked_from (weights_of b.task.now.weights.now) (placed_on b) c.args.op in
    let J : List ℕ → ℕ → Type 0 = λ ys a. (a ≡ fold (λ x q. max x (h q)) 0 ys) × (a < 65600) in
    let road = YieldsList-from_range 0 (size b) (size b) refl (omega arith) in
    let all = fold_over nat_range_steps (λ x. x) _ J _ (λ ys a x r f' j k.
    let got : (y : ℕ) × (y ≡ h x) × (y < 65600) × (r ≡ ord_max nat_cmp a y) = search (rules, tests) in
    let greater = greater_is a got.0 in
    let more = fold-append (λ x q. max x (h q)) 0 ys (x ∷ []) in
    ((omega (arith, more, got.1, got.3), omega (arith, got.2, got.3)), search (rules, tests))) (record { start = 0; end = size b }) _ 0 c.fold.result road.runs (refl, omega arith) c.fold.ensures.ran in
    record { value = all.0 ∙ greatest_asked (weights_of b.task.now.weights.now) (placed_on b) c.args.op (size b); small = all.1 }
