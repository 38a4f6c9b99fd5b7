-- The memory edges from one line to the lines from n on, of which i are done.
use Rattle.std.proofs.Common.{◌≡◌, ℕ, ◌+◌, ◌-◌, ◌<◌, ◌≤◌, List, length, get_or, take, drop, Vec, refl, sym, ◌∙◌, subst, arith}
use Rattle.std.proofs.lemmas.List.{get_or-drop, get_or-take, length-drop, length-take-le}
use Rattle.model.specs.declared.Edge.{Edge}
use Rattle.model.specs.Edges.{each, between}
use Rattle.model.specs.Loop.{Loop as LoopBody}
use Rattle.edge_laws.proofs.Pieces.{row_start}
use Rattle.dependence.specs.Operations.{OwnOperation, operation_seen, operations_seen}
use Rattle.edge_list.specs.Appended.{Appended, RoomFor}
use Rattle.edge_list.specs.Lists.{pair, row_in}
use Rattle.edge_list.proofs.Appending.{appended_none, room_more, appended_more}
use Rattle.edge_list.proofs.Reading.{seen_count, pair_at}

pub row_none : {Z : Type 0} (ops : LoopBody) (p n : ℕ) (v : Vec Edge Z) → n ≤ p + 1 → Appended v v (each (between ops p) n)
row_none ops p n v h = subst (λ r. Appended v v r) (sym (row_start ops p n h)) (appended_none v)

module _ (xs : List OwnOperation) (p n i : ℕ) where
  abbrev ops : LoopBody
  ops = operations_seen xs

  abbrev later : List OwnOperation
  later = take (length xs - n) (drop n xs)

  later_count : length later ≡ length xs - n
  later_count = length-take-le (length xs - n) (drop n xs) (omega (arith, length-drop n xs))

  module _ {Z : Type 0} (v u : Vec Edge Z) (a : Appended v u (each (between ops p) (n + i))) where
    module _ (x y c d : OwnOperation) (inside : p < length xs) (ex : x ≡ get_or xs p c) (here : i < length later) (ey : y ≡ get_or later i d) (order : p < n) where
      small : n + i < length xs
      small = omega (arith, here, later_count)

      pair_is : between ops p (n + i) ≡ pair p (n + i) (operation_seen x) (operation_seen y)
      pair_is =
          let first : i < length xs - n = omega (arith, here, later_count) in
          pair_at xs ops refl p (n + i) x y c d (omega arith) inside small ex (ey ∙ get_or-take (length xs - n) (drop n xs) i d first ∙ get_or-drop n xs i d)

      pub row_room : RoomFor (row_in ops p) v → RoomFor (pair p (n + i) (operation_seen x) (operation_seen y)) u
      row_room room = subst (λ r. RoomFor r u) pair_is (room_more (between ops p) v u (n + i) (length ops) a (omega (arith, small, seen_count xs ops refl)) room)

      pub row_more : (w : Vec Edge Z) → Appended u w (pair p (n + i) (operation_seen x) (operation_seen y)) → Appended v w (each (between ops p) (n + (i + 1)))
      row_more w b =
          let next : n + i + 1 ≡ n + (i + 1) = omega arith in
          subst (λ k. Appended v w (each (between ops p) k)) next (appended_more (between ops p) v u (n + i) (length ops) a w (subst (λ r. Appended u w r) (sym pair_is) b))

    pub row_end : i ≤ length later → length later ≤ i → n ≤ length xs → Appended v u (row_in ops p)
    row_end most all inside =
        let end : n + i ≡ length ops = omega (arith, most, all, later_count, seen_count xs ops refl) in
        subst (λ k. Appended v u (each (between ops p) k)) end a
