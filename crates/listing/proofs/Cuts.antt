-- What is read from the slots between two starts is a row.
use Rattle.std.proofs.Common.{◌≡◌, ℕ, zero, suc, ◌+◌, ◌-◌, ◌*◌, ◌<◌, ◌≤◌, ◌&&◌, ltb, List, [], ◌∷◌, ◌++◌, map, length, get_or, take, drop, Some, None, Option, Bor, vec_items, vec_len, sym, refl, ap, ◌∙◌, ap₂, inl, inr, mul-le-mul_right, mod-lt, add-mul, mul-zero, add-one, arith}
use Rattle.std.proofs.lemmas.List.{take_at, drop_at, drop-drop, length-append, length-map, take-map, drop-map}
use Rattle.std.proofs.lemmas.Bool.{cases_Bool, cases_eq, cases_lt, and_parts, and_from, and_right, ltb-true, lt-ltb, le-ltb}
use Rattle.model.specs.declared.Parts.{Parts}
use Rattle.std.specs.List.{slice_get}
use Rattle.std.specs.Option.{option_map, IfSome, MatchOption}
use Rattle.std.proofs.lemmas.Option.{slice_get_past, slice_get-get_or, slice_get-map}
use Rattle.std.proofs.lemmas.Simd.{map-map}
use Rattle.model.specs.declared.Operator.TheVariants.{Plus, Minus, Times}
use Rattle.model.specs.declared.Part.{Part}
use Rattle.model.specs.Soundness.{code_of}
use Rattle.operations.specs.declared.operation.Operation.{Operation}
use Rattle.operations.specs.declared.operation.Operation.TheVariants.{Load, Store, Binary, Move}
use Rattle.code.specs.declared.issue.Source.{Source}
use Rattle.code.specs.declared.issue.Issue.{Issue}
use Rattle.code.specs.Seen.{code_operation_seen, slot_seen as issue_seen, fetched}
use Rattle.model.specs.Codes.{CodeSlot, gathered}
use Rattle.model.specs.Listing as listings
use Rattle.model.specs.Listing.{said, operation_by, left_of, right_of, stride_written, offset_written, slot_with, passes_run, passes_written, written_pass, code_of_listing, written_row}
use Rattle.listing.specs.declared.slot.Slot.{Slot}
use Rattle.listing.specs.declared.listing.Listing.{Listing}
use Rattle.listing.specs.Views.{slot_seen}
use Rattle.listing.specs.Kept.{all_slots, cuts, Keeps}
use Rattle.listing.specs.Forms.{issued_at, row_number, start_of, rows_said}

shifted : (x : CodeSlot) (xs : List CodeSlot) (s n : ℕ) → gathered (slice_get (x ∷ xs)) (suc s) n ≡ gathered (slice_get xs) s n
unfolding gathered
shifted x xs s zero = refl
shifted x xs s (suc n) = rw (shifted x xs (suc s) n)

gathered_is : (xs : List CodeSlot) (s n : ℕ) → s + n ≤ length xs → gathered (slice_get xs) s n ≡ take n (drop s xs)
unfolding gathered
gathered_is xs s zero h = refl
gathered_is [] zero (suc n) h = absurd (omega arith)
gathered_is [] (suc s) (suc n) h = absurd (omega arith)
gathered_is (x ∷ xs) zero (suc n) h = ap (λ ys. x ∷ ys) (shifted x xs 0 n ∙ gathered_is xs 0 n (omega arith))
gathered_is (x ∷ xs) (suc s) (suc n) h = shifted x xs s (suc n) ∙ gathered_is xs s (suc n) (omega arith)

cuts_first : (b : ℕ) (rows : List (List listings.Slot)) → get_or (cuts b rows) 0 0 ≡ b
cuts_first b [] = refl
cuts_first b (row ∷ rows) = refl

record Cut (b : ℕ) (rows : List (List listings.Slot)) (g s e : ℕ) : Type 0 where
  from : b ≤ s
  forward : s ≤ e
  within : e ≤ b + length (all_slots rows)
  is : take (e - s) (drop (s - b) (all_slots rows)) ≡ get_or rows g []

cut_at : (b : ℕ) (rows : List (List listings.Slot)) (g : ℕ) → g < length rows → Cut b rows g (get_or (cuts b rows) g 0) (get_or (cuts b rows) (suc g) 0)
cut_at b [] g h = absurd (omega arith)
cut_at b (row ∷ rows) zero h =
    let e = get_or (cuts (b + length row) rows) 0 0 in
    let first : e ≡ b + length row = cuts_first (b + length row) rows in
    let long : length row ≡ e - b = omega arith in
    let at : b - b ≡ 0 = omega arith in
    record {
      from = omega arith;
      forward = omega arith;
      within = omega (arith, length-append row (all_slots rows));
      is = ap (λ n. take (e - b) (drop n (row ++ all_slots rows))) at ∙ take_at row (all_slots rows) (e - b) long;
    }
cut_at b (row ∷ rows) (suc g) h =
    let c = cut_at (b + length row) rows g (omega arith) in
    let s = get_or (cuts (b + length row) rows) g 0 in
    let e = get_or (cuts (b + length row) rows) (suc g) 0 in
    let at : s - b ≡ length row + (s - (b + length row)) = omega (arith, c.from) in
    let skip : drop (s - b) (row ++ all_slots rows) ≡ drop (s - (b + length row)) (all_slots rows) =
    ap (λ n. drop n (row ++ all_slots rows)) at ∙ sym (drop-drop (s - (b + length row)) (length row) (row ++ all_slots rows)) ∙
    ap (drop (s - (b + length row))) (drop_at row (all_slots rows) (length row) refl) in
    record {
      from = omega (arith, c.from);
      forward = c.forward;
      within = omega (arith, c.within, length-append row (all_slots rows));
      is = ap (take (e - s)) skip ∙ c.is;
    }

-- A written pass is one of those that are written.
pub written_below : (ps : Parts) (p : ℕ) → p < passes_run ps → written_pass ps p < passes_written ps
unfolding written_pass
written_below ps p h = elim (cases_lt p ps.front) [
  | inl l ↦ rw (lt-ltb p ps.front l) (omega arith)
  | inr l ↦ rw (le-ltb p ps.front l) (elim (cases_lt p (ps.front + ps.repeats * ps.kernel)) [
    | inl m ↦ rw (lt-ltb p (ps.front + ps.repeats * ps.kernel) m) (elim (cases_eq ps.kernel 0) [
      | inl e ↦ absurd (omega (arith, ap (λ x. ps.repeats * x) e, mul-zero ps.repeats))
      | inr z ↦ let some : 0 < ps.kernel = omega arith in omega (arith, mod-lt (p - ps.front) some)
    ])
    | inr m ↦ rw (le-ltb p (ps.front + ps.repeats * ps.kernel) m) (omega arith)
  ])
]

row_read : (l : Listing) (rows : List (List listings.Slot)) (p g : ℕ) → Keeps l.rows rows → g < length rows →
    gathered (issued_at l p) (start_of l g) (start_of l (g + 1) - start_of l g) ≡ map said (get_or rows g [])
row_read l rows p g k h =
    let xs = vec_items l.rows.slots in
    let s = get_or (cuts 0 rows) g 0 in
    let e = get_or (cuts 0 rows) (suc g) 0 in
    let c = cut_at 0 rows g h in
    let s_is : start_of l g ≡ s = ap (λ zs. get_or zs g 0) k.starts in
    let e_is : start_of l (g + 1) ≡ e = ap₂ (λ zs n. get_or zs n 0) k.starts (add-one g) in
    let none : s - 0 ≡ s = omega arith in
    let all : map (λ z. said (slot_seen z)) xs ≡ map said (all_slots rows) = sym (map-map said slot_seen xs) ∙ ap (map said) k.slots in
    let long : s + (e - s) ≤ length (map said (all_slots rows)) = omega (arith, c.within, c.forward, length-map (all_slots rows) said) in
    ap₂ (λ a b. gathered (slice_get (map (λ z. said (slot_seen z)) xs)) a (b - a)) s_is e_is ∙ ap (λ zs. gathered (slice_get zs) s (e - s)) all ∙
    gathered_is (map said (all_slots rows)) s (e - s) long ∙ ap (take (e - s)) (drop-map said s (all_slots rows)) ∙ take-map said (e - s) (drop s (all_slots rows)) ∙
    ap (map said) (ap (λ n. take (e - s) (drop n (all_slots rows))) (sym none) ∙ c.is)

-- A listing of the code says what a listing of the definitions says, if it keeps its rows.
pub says_same : (l : Listing) (d : listings.Listing) → Keeps l.rows d.rows → l.parts ≡ d.parts → l.interval ≡ d.interval →
    length d.rows ≡ passes_written d.parts * d.interval → (p r : ℕ) → rows_said l p r ≡ code_of_listing d p r
unfolding code_of_listing
says_same l d k parts interval long p r =
    rw (← parts, ← interval)
    (elim (cases_Bool (ltb p (passes_run l.parts) && ltb r l.interval)) [
      | inl e ↦
          let both = and_parts _ _ e in
          let low = written_below l.parts p (ltb-true _ _ both.0) in
          let narrow : r < l.interval = ltb-true _ _ both.1 in
          let le : written_pass l.parts p + 1 ≤ passes_written l.parts = omega arith in
          let long' : length d.rows ≡ passes_written l.parts * l.interval = long ∙ ap₂ (λ a b. passes_written a * b) (sym parts) (sym interval) in
          rw e (row_read l d.rows p (row_number l p r) k (omega (arith, long', mul-le-mul_right l.interval le, add-mul (written_pass l.parts p) 1 l.interval)))
      | inr e ↦ rw e
    ])

-- Outside the run nothing is said.
pub too_late : (l : Listing) (p r : ℕ) → passes_run l.parts ≤ p → rows_said l p r ≡ gathered (issued_at l p) 0 0
unfolding gathered
too_late l p r h = rw (le-ltb p (passes_run l.parts) h)

pub too_low : (l : Listing) (p r : ℕ) → l.interval ≤ r → rows_said l p r ≡ gathered (issued_at l p) 0 0
unfolding gathered
too_low l p r h = rw (and_right (ltb p (passes_run l.parts)) (ltb r l.interval) (le-ltb r l.interval h))

-- The start and the end of a written row are there.
pub start_there : (l : Listing) (n r : ℕ) → n < passes_written l.parts → r < l.interval → n * l.interval + r + 1 < vec_len l.rows.starts
start_there l n r h k = let le : n + 1 ≤ passes_written l.parts = omega arith in omega (arith, l.counted, mul-le-mul_right l.interval le, add-mul n 1 l.interval)

pub row_said : (l : Listing) (p r n s e : ℕ) → p < passes_run l.parts → r < l.interval → n ≡ written_pass l.parts p →
    s ≡ start_of l (n * l.interval + r) → e ≡ start_of l (n * l.interval + r + 1) → rows_said l p r ≡ gathered (issued_at l p) s (e - s)
row_said l p r n s e hp hr is s_is e_is =
    rw (and_from _ _ (lt-ltb _ _ hp) (lt-ltb _ _ hr), ← is, s_is, e_is)

-- What is at a place.
operation_said : (o : Operation Source) → operation_by (code_of (code_operation_seen o)) (left_of (code_operation_seen o)) (right_of (code_operation_seen o)) (stride_written (code_operation_seen o)) (offset_written (code_operation_seen o)) ≡ code_operation_seen o
operation_said (Load c) = refl
operation_said (Store a c) = refl
operation_said (Binary Plus a b) = refl
operation_said (Binary Minus a b) = refl
operation_said (Binary Times a b) = refl
operation_said (Move a) = refl

issue_said : (i : Issue) (part : Part) (pass row : ℕ) → said (slot_with part pass row i.stage i.result (code_operation_seen i.operation)) ≡ issue_seen i
issue_said i part pass row = ap (λ o. record { operation = o; stage = i.stage; result = i.result }) (operation_said i.operation)

pub fetched_at : (xs : List Slot) (n : ℕ) (got : Option (Bor Slot)) → IfSome got (λ x. x.now ≡ get_or xs n x.now) →
    MatchOption got (length xs ≤ n) (λ x. n < length xs) → fetched (option_map (λ x. x.now.issue) got) ≡ slice_get (map (λ s. said (slot_seen s)) xs) n
fetched_at xs n None is there = sym (slice_get-map (λ s. said (slot_seen s)) xs n ∙ ap (option_map (λ s. said (slot_seen s))) (slice_get_past xs n there))
fetched_at xs n (Some x) is there =
    sym (slice_get-map (λ s. said (slot_seen s)) xs n ∙ ap (option_map (λ s. said (slot_seen s))) (slice_get-get_or xs n x.now there ∙ ap Some (sym is))
    ∙ ap Some (issue_said x.now.issue x.now.part x.now.pass x.now.row))
