-- Rows put behind rows.
use Rattle.std.proofs.Common.{◌≡◌, ℕ, ◌+◌, ◌<◌, ◌≤◌, ◌-◌, ◌==◌, ◌&&◌, leb, ltb, get_or, true, false, cond, List, [], ◌∷◌, ◌++◌, map, length, vec_items, vec_len, vec_capacity, Vec, sym, ap, ◌∙◌, subst, ap₂, add_assoc, add-one, arith}
use Rattle.std.specs.declared.alloc.Global.{Global}
use Rattle.std.proofs.lemmas.List.{append-nil, append_assoc, length-append, length_push, length-map, map_push}
use Rattle.std.proofs.lemmas.Grind.{flat_map-append}
use Rattle.model.specs.Edges.{each}
use Rattle.model.specs.Issues.{issues_in}
use Rattle.model.specs.Listing as listings
use Rattle.model.specs.Listing.{slot_in_pass, row_of}
use Rattle.listing.specs.declared.slot.Slot.{Slot}
use Rattle.listing.specs.declared.rows.Rows.{Rows}
use Rattle.listing.specs.declared.body.Body.{Body}
use Rattle.listing.specs.declared.place.Place.{Place}
use Rattle.listing.specs.declared.placed.Placed.{Placed}
use Rattle.listing.specs.Views.{slot_seen, loop_of, schedule_of}
use Rattle.listing.specs.Rows.{slot_of, slots_of_row}
use Rattle.few.specs.Held.{held}
use Rattle.dependence.specs.Operations.{operation_seen}
use Rattle.model.specs.Schemes.{Meaning}
use Rattle.listing.specs.Kept.{all_slots, cuts, Room, Appended}
use Rattle.listing_laws.proofs.Each.{each_up_to, joined_each}
use Rattle.listing.proofs.Bodies.{issues_at, slot_at}

-- Slots put behind slots.
pub record Grown (before after : Vec Slot Global) (more : List listings.Slot) : Type 0 where
  pub items : map slot_seen (vec_items after) ≡ map slot_seen (vec_items before) ++ more
  pub len : vec_len after ≡ vec_len before + length more
  pub cap : vec_capacity after ≡ vec_capacity before

pub grown_same : (v u : Vec Slot Global) (xs : List listings.Slot) → Grown v u xs → Grown v u (xs ++ [])
grown_same v u xs g = rw (append-nil xs) g

pub grown_one : (v u t : Vec Slot Global) (s : Slot) (x : listings.Slot) (xs : List listings.Slot) → Grown v u xs →
    vec_items t ≡ vec_items u ++ s ∷ [] → vec_len t ≡ vec_len u + 1 → vec_capacity t ≡ vec_capacity u → slot_seen s ≡ x → Grown v t (xs ++ x ∷ [])
grown_one v u t s x xs g items len cap is = record {
  items = ap (map slot_seen) items ∙ map_push slot_seen (vec_items u) s ∙ ap₂ (λ a b. a ++ b ∷ []) g.items is ∙ append_assoc (map slot_seen (vec_items v)) xs (x ∷ []);
  len = omega (arith, len, g.len, length_push xs x);
  cap = cap ∙ g.cap;
}

module _ {S : Type 0} (b : Body S) (m : S → Meaning) (place : Place) (r : ℕ) where
  -- operation j in row r of the pass, if it issues there
  abbrev pub issuing : ℕ → List listings.Slot
  issuing j =
      cond (issues_in (schedule_of b) b.trips j place.pass r) (slot_in_pass (loop_of b) (schedule_of b) (m b.scheme.now).name b.turns place.part place.written place.pass j ∷ []) []

  row_is : slots_of_row b m place r ≡ each issuing (length (held b.placed))
  unfolding row_of
  row_is = ap (each issuing) (length-map (held b.placed) (λ q. operation_seen q.operation))

  pub issuing_all : (v u : Vec Slot Global) (j : ℕ) → j ≡ length (held b.placed) → Grown v u (each issuing j) → Grown v u (slots_of_row b m place r)
  issuing_all v u j end g = subst (Grown v u) (ap (each issuing) end ∙ sym row_is) g

  module _ (ps : List Placed) (items : ps ≡ held b.placed) (j : ℕ) (p : Placed) (h : j < length ps) (is : p ≡ get_or ps j p) where
    pub issuing_yes : (v u t n : Vec Slot Global) (s : Slot) → n ≡ t → Grown v u (each issuing j) →
        true ≡ p.row == r && (leb p.stage place.pass && ltb (place.pass - p.stage) b.trips) →
        vec_items t ≡ vec_items u ++ s ∷ [] → vec_len t ≡ vec_len u + 1 → vec_capacity t ≡ vec_capacity u →
        slot_seen s ≡ slot_of b m place p → Grown v n (each issuing (j + 1))
    issuing_yes v u t n s new g e put len cap same =
        rw (new, add-one, sym (e ∙ issues_at b ps items j p h is place.pass r)) (grown_one v u t s _ (each issuing j) g put len cap (same ∙ slot_at b ps items j p h is m place))

    pub issuing_no : (v u n : Vec Slot Global) → n ≡ u → Grown v u (each issuing j) →
        false ≡ p.row == r && (leb p.stage place.pass && ltb (place.pass - p.stage) b.trips) → Grown v n (each issuing (j + 1))
    issuing_no v u n new g e = rw (new, add-one, sym (e ∙ issues_at b ps items j p h is place.pass r)) (grown_same v u (each issuing j) g)

    -- There is room for a slot that issues.
    pub issuing_room : (v u : Vec Slot Global) → Grown v u (each issuing j) →
        true ≡ p.row == r && (leb p.stage place.pass && ltb (place.pass - p.stage) b.trips) →
        vec_len v + length (slots_of_row b m place r) ≤ vec_capacity v → vec_len u < vec_capacity u
    issuing_room v u g e room =
        let here : length (issuing j) ≡ 1 = rw (sym (e ∙ issues_at b ps items j p h is place.pass r)) in
        omega (arith, g.len, g.cap, ap length row_is, each_up_to issuing j (length (held b.placed)) (rw items at h))

-- What is kept takes so many places.
cuts_push : (b : ℕ) (rows : List (List listings.Slot)) (row : List listings.Slot) → cuts b (rows ++ row ∷ []) ≡ cuts b rows ++ (b + length (all_slots (rows ++ row ∷ []))) ∷ []
cuts_push b [] row = rw (append-nil row)
cuts_push b (x ∷ rows) row =
    ap (λ xs. b ∷ xs) (cuts_push (b + length x) rows row) ∙
    ap (λ n. b ∷ (cuts (b + length x) rows ++ n ∷ [])) (add_assoc b (length x) (length (all_slots (rows ++ row ∷ []))) ∙ ap (λ n. b + n) (sym (length-append x (all_slots (rows ++ row ∷ [])))))

all_push : (rows : List (List listings.Slot)) (row : List listings.Slot) → all_slots (rows ++ row ∷ []) ≡ all_slots rows ++ row
all_push rows row = flat_map-append (λ row. row) rows (row ∷ []) ∙ ap (λ xs. all_slots rows ++ xs) (append-nil row)

-- A row is put behind the others, and then its end.
pub row_pushed : (a z : Rows) (row : List listings.Slot) → Grown a.slots z.slots row → vec_items z.starts ≡ vec_items a.starts ++ vec_len z.slots ∷ [] →
    vec_len z.starts ≡ vec_len a.starts + 1 → Appended a z (row ∷ [])
row_pushed a z row g starts len = record {
  slots = g.len ∙ ap (λ n. vec_len a.slots + n) (ap length (sym (append-nil row)));
  starts = len;
  keeps = λ rows k.
      let all : map slot_seen (vec_items z.slots) ≡ all_slots (rows ++ row ∷ []) = g.items ∙ ap (λ xs. xs ++ row) k.slots ∙ sym (all_push rows row) in
      let end : vec_len z.slots ≡ 0 + length (all_slots (rows ++ row ∷ [])) = omega (arith, z.slots.ok.0, length-map (vec_items z.slots) slot_seen, ap length all) in
      record {
        slots = all;
        starts = starts ∙ ap₂ (λ xs n. xs ++ n ∷ []) k.starts end ∙ sym (cuts_push 0 rows row);
      };
}

pub append_then : (a b c : Rows) (xs ys : List (List listings.Slot)) → Appended a b xs → Appended b c ys → Appended a c (xs ++ ys)
append_then a b c xs ys f g = record {
  slots = omega (arith, g.slots, f.slots, ap length (flat_map-append (λ row. row) xs ys), length-append (all_slots xs) (all_slots ys));
  starts = omega (arith, g.starts, f.starts, length-append xs ys);
  keeps = λ rows k. rw (← append_assoc rows xs ys) (g.keeps (rows ++ xs) (f.keeps rows k));
}

-- The next of some rows.
pub append_next : (f : ℕ → List (List listings.Slot)) (a b c : Rows) (i : ℕ) → Appended a b (each f i) → Appended b c (f i) → Appended a c (each f (i + 1))
append_next f a b c i x y = rw add-one (append_then a b c (each f i) (f i) x y)

pub room_next : (f : ℕ → List (List listings.Slot)) (a b : Rows) (i n : ℕ) → i < n → Room a (each f n) → Appended a b (each f i) → Room b (f i)
room_next f a b i n h room x = record {
  slots = omega (arith, room.slots, x.slots, ap length (joined_each f n), ap length (joined_each f i), each_up_to (λ q. all_slots (f q)) i n h);
  starts = omega (arith, room.starts, x.starts, each_up_to f i n h);
}

pub room_front : (a : Rows) (xs ys : List (List listings.Slot)) → Room a (xs ++ ys) → Room a xs
room_front a xs ys room = record {
  slots = omega (arith, room.slots, ap length (flat_map-append (λ row. row) xs ys), length-append (all_slots xs) (all_slots ys));
  starts = omega (arith, room.starts, length-append xs ys);
}

pub room_back : (a b : Rows) (xs ys : List (List listings.Slot)) → Room a (xs ++ ys) → Appended a b xs → Room b ys
room_back a b xs ys room x = record {
  slots = omega (arith, room.slots, x.slots, ap length (flat_map-append (λ row. row) xs ys), length-append (all_slots xs) (all_slots ys));
  starts = omega (arith, room.starts, x.starts, length-append xs ys);
}
