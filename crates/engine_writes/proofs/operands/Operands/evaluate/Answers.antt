use Rattle.std.proofs.Common.{◌∙◌, ap₂, inl, inr}
use Rattle.model.specs.Plain.{evaluate}
use Rattle.engine_writes.proofs.operands.Operands.evaluate.Goals as goal

pub returns-in-Load : goal.returns-in-Load
unfolding evaluate
returns-in-Load g c = rw c.in-Load.is c.load.ensures

pub returns-in-Store : goal.returns-in-Store
unfolding evaluate
returns-in-Store g c = elim c.in-Store.is [
  | inl store ↦ rw store.1 c.read.ensures
  | inr is ↦ rw is c.read.ensures
]

pub returns-in-Binary : goal.returns-in-Binary
unfolding evaluate
returns-in-Binary g c = rw c.in-Binary.is (c.apply.ensures ∙ ap₂ (g.D.Domain.operations.apply c.in-Binary.operator) c.read-a.ensures c.read-b.ensures)
