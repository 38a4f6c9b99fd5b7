use Rattle.std.proofs.Common.{[], ◌∷◌}
use Rattle.edge_list.proofs.Appending.{appended_then, appended_push}
use Rattle.edge_list.proofs.push.push_both.Goals as goal

pub returns : goal.returns
returns c =
    let one = c.push_reserved.ensures in
    let two = c.push_reserved-2.ensures in
    appended_then c.args.list.now c.push_reserved.new.self c.push_reserved-2.new.self (c.args.near ∷ []) (c.args.far ∷ [])
    (appended_push _ _ _ one.items one.len one.capacity) (appended_push _ _ _ two.items two.len two.capacity)
