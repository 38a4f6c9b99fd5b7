use Rattle.std.proofs.Common.{◌≡◌, ℕ, ◌<◌, false, length, get_or}
use Rattle.search_laws.specs.Weights.{torn_by}
use Rattle.search.specs.Views.{weights_of}
use Rattle.search.specs.Boards.{placed_on}
use Rattle.search.proofs.board.Board.torn.Given as goal

abbrev pub invariant-loop-q : goal.invariant-loop-q
invariant-loop-q l =
    ((p : ℕ) → p < l.q → get_or l.marks p false ≡ torn_by (weights_of l.self.task.now.weights.now) (placed_on l.self) l.op p) × (length l.marks ≡ 32)
