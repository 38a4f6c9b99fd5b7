use Rattle.std.proofs.Common.{refl, arith}
use Rattle.model.specs.Search.{crowded, torn}
use Rattle.search_laws.proofs.Steps.{unmarked_is, stays_none, placed_is}
use Rattle.reservation.specs.Times.{times_of}
use Rattle.search.specs.Boards.{size, hw, placed_on}
use Rattle.search.proofs.Cells.{replaced_put, unmarked_fewer}
use Rattle.search.proofs.Boards.{room_moved, torn_moved, keeps_both, beyond_then}
use Rattle.search.proofs.state.Progress.place.Goals as goal

pub place-requires-clause-room : goal.place-requires-clause-room
place-requires-clause-room c =
    let b = c.args.self.now.board in
    let b' = c.remove_marked.new.self in
    let few = b.task.now.fitting.few in
    let gone = unmarked_is c.crowded-crowd.result (size b) (placed_on b) (placed_on b') (crowded (hw b) b.table.interval (placed_on b) (size b) c.args.op c.args.time)
    (unmarked_fewer c.crowded-crowd.result (size b) 32 (placed_on b) (placed_on b') few b.sound.beyond c.remove_marked.ensures.time) c.crowded-crowd.ensures b.sound.beyond in
    let none = stays_none _ _ (placed_on b) (placed_on b') c.args.op c.remove_marked.ensures.time c.requires.free in
    room_moved b b' c.args.op c.args.time c.remove_marked.ensures.same c.requires.inside gone none

pub returns-clause-state : goal.returns-clause-state
returns-clause-state c =
    let b = c.args.self.now.board in
    let b' = c.remove_marked.new.self in
    let k = b.table.interval in
    let es = b.task.now.edges.now in
    let few = b.task.now.fitting.few in
    let gone = unmarked_is c.crowded-crowd.result (size b) (placed_on b) (placed_on b') (crowded (hw b) k (placed_on b) (size b) c.args.op c.args.time)
    (unmarked_fewer c.crowded-crowd.result (size b) 32 (placed_on b) (placed_on b') few b.sound.beyond c.remove_marked.ensures.time) c.crowded-crowd.ensures b.sound.beyond in
    let put = c.place.new.self in
    let same = keeps_both b.task.now b.table b' put c.remove_marked.ensures.same c.place.ensures.same in
    let after = placed_on put in
    let left = placed_on c.remove_marked-2.new.self in
    let torn_gone = unmarked_is c.torn-gone.result (size b) after left (torn k after c.args.op es)
    (unmarked_fewer c.torn-gone.result (size b) 32 after left few (beyond_then b put same) c.remove_marked-2.ensures.time)
    (torn_moved b put c.args.op c.torn-gone.result same c.requires.inside c.torn-gone.ensures) (beyond_then b put same) in
    placed_is es (hw b) (size b) k c.args.op c.args.time (placed_on b) (placed_on b') after left (times_of c.args.self.now.last) (times_of c.put.new.self) _ _ gone c.place.ensures.time torn_gone
    (replaced_put c.args.op c.args.time c.args.self.now.last c.put.new.self (omega (arith, c.requires.inside)) c.put.ensures) refl
