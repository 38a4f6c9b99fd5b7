-- The search's arrays.
use Rattle.std.proofs.Common.{◌≡◌, ℕ, zero, suc, ◌+◌, ◌<◌, ◌≤◌, max, Bool, true, false, cond, not, ◌&&◌, List, [], ◌∷◌, length, get_or, set, Some, None, Option, option_map, MatchOption, sym, refl, ap, ap₂, ◌∙◌, inl, inr, zero-add, add-one, arith}
use Rattle.std.specs.Ordering.{ord_max, nat_cmp}
use Rattle.std.proofs.lemmas.Bool.Decides.{nat_tests}
use Rattle.std.specs.List.{range_with_len, find, list_all}
use Rattle.std.proofs.lemmas.List.{get_or-set_same, get_or-set_other}
use Rattle.std.proofs.lemmas.List.Folds.{list_all-append}
use Rattle.std.proofs.lemmas.Bool.{cases_eq, cases_lt, eq-eqb, ne_eqb, and_from, and_parts, lt-ltb, le-leb, both_ways}
use Rattle.model.specs.declared.Timing.{Timing}
use Rattle.model.specs.Search.{first, all_below}
use Rattle.search_laws.specs.Counts.{Added, Has, Room, Less, Put, Unmarked}
use Rattle.search_laws.proofs.Crowds.{room_not_over}
use Rattle.reservation.proofs.Cells.{range_more}
use Rattle.reservation.specs.Cells.{bookable}
use Rattle.reservation.specs.Times.{times_of, Replaced}
use Rattle.reservation.specs.Views.{count, units_of, Alike, Booked, Released}
use Rattle.reservation.specs.declared.table.ReservationTable.{ReservationTable}
use Rattle.reservation.specs.declared.time_table.TimeTable.{TimeTable}

-- one entry of a time table replaced
pub replaced_less : (j : ℕ) (before after : TimeTable) → j < 32 → Replaced j None before after → Less j (times_of before) (times_of after)
replaced_less j before after h is q = ap (λ x. get_or x q None) is ∙ elim (cases_eq q j) [
  | inl e ↦ rw (e, eq-eqb j j refl) (get_or-set_same before.times j None None (omega (arith, before.whole)))
  | inr n ↦ rw (ne_eqb q j n) (get_or-set_other before.times j q None None n)
]

pub replaced_put : (j t : ℕ) (before after : TimeTable) → j < 32 → Replaced j (Some t) before after → Put j t (times_of before) (times_of after)
replaced_put j t before after h is q = ap (λ x. get_or x q None) is ∙ elim (cases_eq q j) [
  | inl e ↦ rw (e, eq-eqb j j refl) (get_or-set_same before.times j (Some t) None (omega (arith, before.whole)))
  | inr n ↦ rw (ne_eqb q j n) (get_or-set_other before.times j q (Some t) None n)
]

pub is_bookable : (c busy t : ℕ) → c < 8 → busy ≤ 8 → t ≤ 99999 → bookable c busy t ≡ true
is_bookable c busy t a b d = and_from _ _ (lt-ltb c 8 a) (and_from _ _ (le-leb busy 8 b) (le-leb t 99999 d))

-- what is there is released; what has room is booked
pub released_there : (before after : ReservationTable) (o : Timing) (t : ℕ) (r : Bool) → Released before after o t r → bookable o.class o.busy t ≡ true →
    Has before.interval o.class t o.busy (count before) → Added before.interval o.class t o.busy (count after) (count before) × Alike before after
released_there before after o t true h yes' has = (h.1, h.2)
released_there before after o t false h yes' has = absurd (h.0 (yes', has))

pub booked_there : (before after : ReservationTable) (o : Timing) (t : ℕ) (r : Bool) → Booked before after o t r → bookable o.class o.busy t ≡ true →
    Room before.interval o.class t o.busy (count before) (units_of before) → Added before.interval o.class t o.busy (count before) (count after) × Alike before after
booked_there before after o t true h yes' room = (h.1, h.2)
booked_there before after o t false h yes' room =
    absurd (both_ways _ h.0 (and_from _ _ yes' (ap not (room_not_over before.interval o.class t o.busy (count before) (units_of before) before.positive before.small room))))

-- one more mark
pub marks_more : (f : ℕ → Bool) (marks : List Bool) (q : ℕ) (v : Bool) → q < length marks → v ≡ f q → ((p : ℕ) → p < q → get_or marks p false ≡ f p) →
    (p : ℕ) → p < q + 1 → get_or (set marks q v) p false ≡ f p
marks_more f marks q v h is inv p l = elim (cases_eq p q) [
  | inl e ↦ rw e (get_or-set_same marks q v false h ∙ is)
  | inr n ↦ get_or-set_other marks q p v false n ∙ inv p (omega arith)
]

-- the first of so many numbers
pub found_first : (p : ℕ → Bool) (m t : ℕ) → find p (range_with_len t m) ≡ first p t m
found_first p zero t = refl
found_first p (suc m) t = ap (cond (p t) (Some t)) (found_first p m (t + 1) ∙ ap (λ x. first p x m) (add-one t))

-- each of so many numbers
pub all_numbers : (p : ℕ → Bool) (n : ℕ) → list_all p (range_with_len 0 n) ≡ all_below p n
all_numbers p zero = refl
all_numbers p (suc n) =
    ap (list_all p) (range_more 0 n) ∙ (list_all-append p (range_with_len 0 n) ((0 + n) ∷ []) ∙
    (ap₂ (λ x y. x && (p y && true)) (all_numbers p n) (zero-add n) ∙ turned (all_below p n) (p n)))
  where
    turned : (a b : Bool) → (a && (b && true)) ≡ (b && a)
    turned true true = refl
    turned true false = refl
    turned false true = refl
    turned false false = refl

-- marks of operations that are not placed change nothing
none_either : (b : Bool) (o : Option ℕ) → o ≡ None → cond b None o ≡ None
none_either true o e = refl
none_either false o e = e

pub unmarked_fewer : (marks : List Bool) (n m : ℕ) (before now : ℕ → Option ℕ) → n ≤ m → ((q : ℕ) → n ≤ q → before q ≡ None) → Unmarked marks m before now → Unmarked marks n before now
unmarked_fewer marks n m before now few beyond is q = elim (cases_lt q n) [
  | inl l ↦ is q ∙ ap (λ b. cond (b && get_or marks q false) None (before q)) (lt-ltb q m (omega arith) ∙ sym (lt-ltb q n l))
  | inr g ↦ is q ∙ (none_either _ _ (beyond q g) ∙ sym (none_either _ _ (beyond q g)))
]

-- the same the other way round
pub unmarked_wider : (marks : List Bool) (n m : ℕ) (before now : ℕ → Option ℕ) → n ≤ m → ((q : ℕ) → n ≤ q → before q ≡ None) → Unmarked marks n before now → Unmarked marks m before now
unmarked_wider marks n m before now few beyond is q = elim (cases_lt q n) [
  | inl l ↦ is q ∙ ap (λ b. cond (b && get_or marks q false) None (before q)) (lt-ltb q n l ∙ sym (lt-ltb q m (omega arith)))
  | inr g ↦ is q ∙ (none_either _ _ (beyond q g) ∙ sym (none_either _ _ (beyond q g)))
]

pub greater_is : (a b : ℕ) → ord_max nat_cmp a b ≡ max a b
greater_is a b = grind (arith, nat_tests)

-- what a call gave for an option, by cases
pub by_option : {A : Type 0} (o : Option A) (N G : Type 0) (P : A → Type 0) → MatchOption o N P → (o ≡ None → N → G) → ((x : A) → o ≡ Some x → P x → G) → G
by_option None N G P h none some = none refl h
by_option (Some x) N G P h none some = some x refl h

pub same_mapped : (o : Option ℕ) → option_map (λ x. x) o ≡ o
same_mapped None = refl
same_mapped (Some x) = refl

-- a test that each item passes
pub each_passes : {A : Type 0} (p : A → Bool) (xs : List A) (d : A) → list_all p xs ≡ true → (j : ℕ) → j < length xs → p (get_or xs j d) ≡ true
each_passes p [] d h j l = absurd (omega arith)
each_passes p (x ∷ xs) d h zero l = (and_parts _ _ h).0
each_passes p (x ∷ xs) d h (suc j) l = each_passes p xs d (and_parts _ _ h).1 j (omega arith)

pub all_pass : {A : Type 0} (p : A → Bool) (xs : List A) (d : A) → ((j : ℕ) → j < length xs → p (get_or xs j d) ≡ true) → list_all p xs ≡ true
all_pass p [] d h = refl
all_pass p (x ∷ xs) d h = and_from _ _ (h 0 (omega arith)) (all_pass p xs d (λ j l. h (suc j) (omega arith)))
