-- One append after another.
use Rattle.std.proofs.Common.{◌≡◌, ℕ, ◌+◌, ◌<◌, List, [], ◌∷◌, ◌++◌, vec_items, vec_len, vec_capacity, Vec, sym, refl, ap, ◌∙◌, subst, add-one, arith}
use Rattle.std.proofs.lemmas.List.{append-nil, append_assoc, length-append}
use Rattle.model.specs.Edges.{each}
use Rattle.edge_laws.proofs.Pieces.{each_room}
use Rattle.edge_list.specs.Appended.{Appended, RoomFor}

module _ {X Z : Type 0} where
  pub appended_none : (v : Vec X Z) → Appended v v []
  appended_none v = record { items = sym (append-nil (vec_items v)); len = omega arith; capacity = refl }

  pub appended_then : (u v w : Vec X Z) (xs ys : List X) → Appended u v xs → Appended v w ys → Appended u w (xs ++ ys)
  appended_then u v w xs ys a b = record {
    items = b.items ∙ ap (λ r. r ++ ys) a.items ∙ append_assoc (vec_items u) xs ys;
    len = omega (arith, a.len, b.len, length-append xs ys);
    capacity = b.capacity ∙ a.capacity;
  }

  pub room_then : (u v : Vec X Z) (xs ys : List X) → Appended u v xs → RoomFor (xs ++ ys) u → RoomFor ys v
  room_then u v xs ys a room = omega (arith, a.len, a.capacity, length-append xs ys)

  -- a loop that appends a piece a turn
  module _ (f : ℕ → List X) (u v : Vec X Z) (i n : ℕ) (a : Appended u v (each f i)) where
    pub room_more : i < n → RoomFor (each f n) u → RoomFor (f i) v
    room_more l room = omega (arith, a.len, a.capacity, each_room f i n l)

    pub appended_more : (w : Vec X Z) → Appended v w (f i) → Appended u w (each f (i + 1))
    appended_more w b = subst (λ k. Appended u w (each f k)) (sym (add-one i)) (appended_then u v w (each f i) (f i) a b)

  pub appended_push : (v w : Vec X Z) (x : X) → vec_items w ≡ vec_items v ++ x ∷ [] → vec_len w ≡ vec_len v + 1 → vec_capacity w ≡ vec_capacity v → Appended v w (x ∷ [])
  appended_push v w x e n k = record { items = e; len = omega arith; capacity = k }
