use Rattle.std.proofs.Common.{◌≡◌, ◌-◌, ◌≤◌, length, set, sym, refl, ap, ◌∙◌, subst}
use Rattle.std.proofs.lemmas.List.{set_past}
use Rattle.model.specs.Loop.{cell}
use Rattle.model.specs.Plain.{nought}
use Rattle.model.specs.Driving.{source_value}
use Rattle.engine_slots.specs.Slots.{source_of}
use Rattle.engine_writes.specs.Files.{value_file}
use Rattle.engine_writes.proofs.Issued.{store_writes, other_writes}
use Rattle.engine_writes.proofs.issuing.store_one.Goals as goal

pub returns-in-Some : goal.returns-in-Some
returns-in-Some g c = λ cells.
    let place : c.in-Some.x ≡ cell c.in-Store.cell.stride c.in-Store.cell.offset (c.args.row.pass - c.args.slot.stage) =
    c.in-Some.ensures.0 ∙ ap (λ i. cell c.in-Store.cell.stride c.in-Store.cell.offset i) c.saturating_sub-iteration.ensures in
    ap (λ x. set c.args.memory.now x c.read.result) place ∙
    store_writes g.D.Domain.operations c.args.operands.now.values.now c.args.row.pass c.args.slot c.args.memory.now c.in-Store.source c.in-Store.cell c.in-Store.is
    c.read.result c.read.ensures cells

pub returns-in_default-find_cell : goal.returns-in_default-find_cell
returns-in_default-find_cell g c = λ cells.
    let beyond = subst (λ i. length c.args.memory.now ≤ cell c.in-Store.cell.stride c.in-Store.cell.offset i) c.saturating_sub-iteration.ensures c.in_default-find_cell.ensures in
    let v = source_value g.D.Domain.operations (value_file (nought g.D.Domain.operations) c.args.operands.now.values.now) (source_of c.in-Store.source) in
    sym (set_past c.args.memory.now (cell c.in-Store.cell.stride c.in-Store.cell.offset (c.args.row.pass - c.args.slot.stage)) v beyond) ∙
    store_writes g.D.Domain.operations c.args.operands.now.values.now c.args.row.pass c.args.slot c.args.memory.now c.in-Store.source c.in-Store.cell c.in-Store.is v refl cells

pub returns-in_default : goal.returns-in_default
returns-in_default g c = other_writes g.D.Domain.operations c.args.operands.now.values.now c.args.row.pass c.args.slot c.args.memory.now c.in_default.not-Store
