-- A Vec with some more behind what it held, in the room that it had.
use Rattle.std.specs.Prelude.{◌≡◌, ◌+◌, ◌≤◌, List, ◌++◌, length, vec_items, vec_len, vec_capacity, Vec}

pub record Appended {X Z : Type 0} (before after : Vec X Z) (more : List X) : Type 0 where
  pub items : vec_items after ≡ vec_items before ++ more
  pub len : vec_len after ≡ vec_len before + length more
  pub capacity : vec_capacity after ≡ vec_capacity before

abbrev pub RoomFor : {X Z : Type 0} → List X → Vec X Z → Type 0
RoomFor more v = vec_len v + length more ≤ vec_capacity v
