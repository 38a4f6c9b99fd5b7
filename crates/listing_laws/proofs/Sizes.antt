-- How long a listing is.
use Rattle.std.proofs.Common.{◌≡◌, ℕ, zero, suc, ◌+◌, ◌*◌, ◌<◌, ◌≤◌, Bool, true, false, cond, ◌&&◌, eqb, List, [], ◌∷◌, ◌++◌, length, refl, ap, ◌∙◌, ap₂, inl, inr, mul-le-mul_right, add-mul, mul-le-mul_left, arith}
use Rattle.std.specs.List.{flat_map}
use Rattle.std.proofs.lemmas.List.{append-nil, length-append}
use Rattle.std.proofs.lemmas.Bool.{cases_eq, eq-eqb, ne_eqb}
use Rattle.model.specs.declared.Part.{Part}
use Rattle.model.specs.declared.Part.TheVariants.{Front, Kernel, Rest}
use Rattle.model.specs.Loop.{Loop, total}
use Rattle.model.specs.Edges.{each}
use Rattle.model.specs.Schedule.{Schedule, row, stages}
use Rattle.model.specs.Issues.{issues_in}
use Rattle.model.specs.Listing.{Slot, head_of, parts_of, passes_in, passes_written, slot_in_pass, row_of, rows_of_pass, rows_of_part, rows_of}
use Rattle.model.specs.ListingLaws.{ListingSizes}
use Rattle.pipelining.proofs.Length.{stage_below, stages_by_times}
use Rattle.std.proofs.lemmas.Grind.{flat_map-append}
use Rattle.listing_laws.proofs.Each.{joined_each, each_same, each_short, length_each}
use Rattle.listing_laws.proofs.Reach.{head_far}
use Rattle.listing_laws.proofs.Rows.{length_three, short, long, kind_of, split_of, passes_whole}
use Rattle.listing_laws.proofs.Law.{ps, pass_in, pass_long}

total_add : (f g : ℕ → ℕ) (n : ℕ) → total (λ j. f j + g j) n ≡ total f n + total g n
total_add f g zero = refl
total_add f g (suc n) = omega (arith, total_add f g n)

total_le : (f g : ℕ → ℕ) (n : ℕ) → ((j : ℕ) → f j ≤ g j) → total f n ≤ total g n
total_le f g zero h = omega arith
total_le f g (suc n) h = omega (arith, total_le f g n h, h n)

total_same : (f g : ℕ → ℕ) (n : ℕ) → ((j : ℕ) → f j ≡ g j) → total f n ≡ total g n
total_same f g zero h = refl
total_same f g (suc n) h = ap₂ ◌+◌ (total_same f g n h) (h n)

total_none : (n : ℕ) → total (λ _. 0) n ≡ 0
total_none zero = refl
total_none (suc n) = omega (arith, total_none n)

-- Among the numbers below k, x is at most once.
at_most_once : (x k : ℕ) → (k ≤ x → total (λ r. cond (eqb x r) 1 0) k ≡ 0) × (total (λ r. cond (eqb x r) 1 0) k ≤ 1)
at_most_once x zero = ((λ _. refl), omega arith)
at_most_once x (suc k) = elim (cases_eq x k) [
  | inl e ↦ rw (eq-eqb x k e) ((λ h. absurd (omega arith)), omega (arith, (at_most_once x k).0 (omega arith)))
  | inr z ↦ rw (ne_eqb x k z) ((λ h. omega (arith, (at_most_once x k).0 (omega arith))), omega (arith, (at_most_once x k).1))
]

-- Where each j is counted at most once over the k rows, n of them are counted at most n times.
counted : (F : ℕ → ℕ → ℕ) (k n : ℕ) → ((j : ℕ) → total (λ r. F r j) k ≤ 1) → total (λ r. total (F r) n) k ≤ n
counted F k zero h = omega (arith, total_none k)
counted F k (suc n) h = omega (arith, total_add (λ r. total (F r) n) (λ r. F r n) k, counted F k n h, h n)

one_or_none : {A : Type 0} (a b : Bool) (x : A) → length (cond (a && b) (x ∷ []) []) ≤ cond a 1 0
one_or_none true true x = omega arith
one_or_none true false x = omega arith
one_or_none false b x = omega arith

module _ (ops : Loop) (w : Schedule) (name : ℕ → ℕ → ℕ → ℕ) (turns trips : ℕ) where
  abbrev one : Part → ℕ → ℕ → ℕ → ℕ → List Slot
  one part q p r j = cond (issues_in w trips j p r) (slot_in_pass ops w name turns part q p j ∷ []) []

  one_short : (part : Part) (q p r j : ℕ) → length (one part q p r j) ≤ cond (eqb (row w j) r) 1 0
  unfolding issues_in
  one_short part q p r j = one_or_none (eqb (row w j) r) _ (slot_in_pass ops w name turns part q p j)

  -- A pass has at most one slot for each operation.
  pass_short : (part : Part) (q p : ℕ) → length (flat_map (λ row. row) (rows_of_pass ops w name turns trips part q p)) ≤ length ops
  unfolding rows_of_pass row_of
  pass_short part q p =
      let rows : flat_map (λ row. row) (rows_of_pass ops w name turns trips part q p) ≡ each (λ r. row_of ops w name turns trips part q p r) w.interval =
      joined_each (λ r. row_of ops w name turns trips part q p r ∷ []) w.interval ∙ each_same _ _ w.interval (λ r _. append-nil (row_of ops w name turns trips part q p r)) in
      let lengths : length (each (λ r. row_of ops w name turns trips part q p r) w.interval) ≡ total (λ r. total (λ j. length (one part q p r j)) (length ops)) w.interval =
      length_each (λ r. row_of ops w name turns trips part q p r) w.interval ∙ total_same _ _ w.interval (λ r. length_each (one part q p r) (length ops)) in
      let few = counted (λ r j. length (one part q p r j)) w.interval (length ops)
      (λ j. omega (arith, total_le (λ r. length (one part q p r j)) (λ r. cond (eqb (row w j) r) 1 0) w.interval (λ r. one_short part q p r j), (at_most_once (row w j) w.interval).1)) in
      omega (arith, ap length rows, lengths, few)

  part_short : (part : Part) → length (flat_map (λ row. row) (rows_of_part ops w name turns trips part)) ≤ passes_in (parts_of ops w turns trips) part * length ops
  unfolding rows_of_part
  part_short part = omega (
    arith,
    ap length (joined_each (pass_in ops w name turns trips part) (passes_in (parts_of ops w turns trips) part)),
    each_short (λ q. flat_map (λ row. row) (pass_in ops w name turns trips part q)) (length ops) (passes_in (parts_of ops w turns trips) part) (λ q. pass_short part q _),
  )

  slots_short : length (flat_map (λ row. row) (rows_of ops w name turns trips)) ≤ passes_written (parts_of ops w turns trips) * length ops
  unfolding rows_of
  slots_short =
      let F = rows_of_part ops w name turns trips Front in
      let K = rows_of_part ops w name turns trips Kernel in
      let R = rows_of_part ops w name turns trips Rest in
      omega (
        arith,
        ap length (flat_map-append (λ row. row) F (K ++ R)),
        ap length (flat_map-append (λ row. row) K R),
        length-append (flat_map (λ row. row) F) (flat_map (λ row. row) (K ++ R)),
        length-append (flat_map (λ row. row) K) (flat_map (λ row. row) R),
        part_short Front,
        part_short Kernel,
        part_short Rest,
        add-mul ((ps ops w name turns trips).front + (ps ops w name turns trips).kernel) (ps ops w name turns trips).rest (length ops),
        add-mul (ps ops w name turns trips).front (ps ops w name turns trips).kernel (length ops),
      )

  rows_many : length (rows_of ops w name turns trips) ≡ passes_written (parts_of ops w turns trips) * w.interval
  unfolding rows_of rows_of_part
  rows_many =
      length_three (pass_in ops w name turns trips Front) (pass_in ops w name turns trips Kernel) (pass_in ops w name turns trips Rest) w.interval
      (parts_of ops w turns trips).front (parts_of ops w turns trips).kernel (parts_of ops w turns trips).rest
      (pass_long ops w name turns trips Front) (pass_long ops w name turns trips Kernel) (pass_long ops w name turns trips Rest)

few_written : (ops : Loop) (w : Schedule) (turns trips : ℕ) → head_of ops w ≤ 14 → stages w (length ops) ≤ 8 → 1 ≤ turns → turns ≤ 8 →
    passes_written (parts_of ops w turns trips) ≤ 36
few_written ops w turns trips far deep some few = elim (kind_of ops w turns trips) [
  | short h e ↦ rw e (elim (cases_eq trips 0) [
    | inl z ↦ rw (eq-eqb trips 0 z) (omega arith)
    | inr z ↦ rw (ne_eqb trips 0 z) (omega arith)
  ])
  | long more is some_more e ↦ let s = split_of turns more some in rw e (omega (arith, s.short_left, s.small))
]

pub listing_sizes : ListingSizes
listing_sizes ops hw w name turns trips formed positive few some at_most =
    let deep : 0 < stages w (length ops) = omega (arith, stage_below w (length ops) 0 formed.some) in
    let passes = few_written ops w turns trips (head_far ops hw w formed positive few) ((stages_by_times ops w positive).1 few) some at_most in
    let slots = slots_short ops w name turns trips in
    let many = mul-le-mul_right (length ops) passes in
    let thirty_two = mul-le-mul_left 36 formed.few in
    record {
      run = passes_whole ops w turns trips some deep;
      few_passes = passes;
      rows = rows_many ops w name turns trips;
      few_slots = omega (arith, slots, many);
      slots = omega (arith, slots, many, thirty_two);
    }
