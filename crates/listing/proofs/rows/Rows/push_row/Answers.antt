use Rattle.std.proofs.Common.{[], ◌∷◌, ◌++◌, vec_items, ap, ◌∙◌}
use Rattle.listing.proofs.Appending.{row_pushed}
use Rattle.listing.proofs.rows.Rows.push_row.Goals as goal

pub returns : goal.returns
returns g c =
    row_pushed c.args.self.now _ _ (record { items = c.push_slots.ensures.items; len = c.push_slots.ensures.len; cap = c.push_slots.ensures.capacity })
    (c.push_reserved.ensures.items ∙ ap (λ n. vec_items c.args.self.now.starts ++ n ∷ []) c.len.ensures) c.push_reserved.ensures.len
