-- The listing says what issues.
use Rattle.std.proofs.Common.{◌≡◌, ℕ, ◌+◌, ◌-◌, ◌*◌, ◌/◌, ◌%◌, ◌<◌, ◌≤◌, List, [], map, length, get_or, ap, ◌∙◌, inl, inr, mod-lt, div-lt_iff_lt-mul, zero-mul, arith}
use native.Mathlib.Nat.{mod-le, add-mod-mod}
use Rattle.std.proofs.lemmas.Bool.{cases_lt, and_from, lt-ltb, le-ltb}
use Rattle.model.specs.declared.Part.{Part}
use Rattle.model.specs.declared.Part.TheVariants.{Front, Kernel, Rest}
use Rattle.model.specs.declared.Parts.{Parts}
use Rattle.model.specs.Loop.{Loop}
use Rattle.model.specs.Schedule.{Schedule, stages}
use Rattle.model.specs.Codes.{slot_in}
use Rattle.model.specs.Listing.{Slot, said, parts_of, head_of, passes_run, first_pass, written_pass, row_of, rows_of_pass, rows_of_part, rows_of, listing, code_of_listing}
use Rattle.model.specs.ListingLaws.{ListingMeans}
use Rattle.pipelining.proofs.Length.{stage_below}
use Rattle.listing_laws.proofs.Each.{at_ones, length_ones}
use Rattle.listing_laws.proofs.Alike.{Reaches, code_row, row_said, row_alike, row_right}
use Rattle.listing_laws.proofs.Reach.{head_reaches}
use Rattle.listing_laws.proofs.Rows.{at_first, at_second, at_third, short, long, kind_of, split_of, passes_whole}

module _ (ops : Loop) (w : Schedule) (name : ℕ → ℕ → ℕ → ℕ) (turns trips : ℕ) where
  abbrev pub ps : Parts
  ps = parts_of ops w turns trips

  pub rows_in_pass : (part : Part) (q p : ℕ) → length (rows_of_pass ops w name turns trips part q p) ≡ w.interval
  unfolding rows_of_pass
  rows_in_pass part q p = length_ones (row_of ops w name turns trips part q p) w.interval

  row_in_pass : (part : Part) (q p r : ℕ) → r < w.interval → get_or (rows_of_pass ops w name turns trips part q p) r [] ≡ row_of ops w name turns trips part q p r
  unfolding rows_of_pass
  row_in_pass part q p r h = at_ones (row_of ops w name turns trips part q p) w.interval r [] h

  -- the rows of pass q of a part
  abbrev pub pass_in : Part → ℕ → List (List Slot)
  pass_in part q = rows_of_pass ops w name turns trips part q (first_pass ps part + q)

  pub pass_long : (part : Part) (q : ℕ) → length (pass_in part q) ≡ w.interval
  pass_long part q = rows_in_pass part q (first_pass ps part + q)

  abbrev row_at : ℕ → ℕ → List Slot
  row_at q r = get_or (rows_of ops w name turns trips) (q * w.interval + r) []

  front_row : (q r : ℕ) → q < ps.front → r < w.interval → row_at q r ≡ row_of ops w name turns trips Front q (first_pass ps Front + q) r
  unfolding rows_of rows_of_part
  front_row q r hq hr =
      at_first (pass_in Front) (pass_in Kernel) (pass_in Rest) w.interval ps.front ps.kernel ps.rest (pass_long Front) (pass_long Kernel) (pass_long Rest) q r [] hq hr ∙
      row_in_pass Front q (first_pass ps Front + q) r hr

  kernel_row : (q r : ℕ) → q < ps.kernel → r < w.interval → row_at (ps.front + q) r ≡ row_of ops w name turns trips Kernel q (first_pass ps Kernel + q) r
  unfolding rows_of rows_of_part
  kernel_row q r hq hr =
      at_second (pass_in Front) (pass_in Kernel) (pass_in Rest) w.interval ps.front ps.kernel ps.rest (pass_long Front) (pass_long Kernel) (pass_long Rest) q r [] hq hr ∙
      row_in_pass Kernel q (first_pass ps Kernel + q) r hr

  rest_row : (q r : ℕ) → q < ps.rest → r < w.interval → row_at (ps.front + ps.kernel + q) r ≡ row_of ops w name turns trips Rest q (first_pass ps Rest + q) r
  unfolding rows_of rows_of_part
  rest_row q r hq hr =
      at_third (pass_in Front) (pass_in Kernel) (pass_in Rest) w.interval ps.front ps.kernel ps.rest (pass_long Front) (pass_long Kernel) (pass_long Rest) q r [] hq hr ∙
      row_in_pass Rest q (first_pass ps Rest + q) r hr

  -- In the repeats of the kernel: the trips have not ended, and its passes go round by turns.
  record Repeating (p : ℕ) : Type 0 where
    after_head : head_of ops w ≤ p
    before_end : p < trips
    front_is : ps.front ≡ head_of ops w
    kernel_is : ps.kernel ≡ turns

  repeating : (p : ℕ) → 0 < turns → ps.front ≤ p → p < ps.front + ps.repeats * ps.kernel → Repeating p
  repeating p some low high = elim (kind_of ops w turns trips) [
    | short h e ↦
        let none : ps.repeats * ps.kernel ≡ 0 = rw e (zero-mul 0) in
        absurd (omega arith)
    | long more is some_more e ↦
        let s = split_of turns more some in
        let whole : ps.repeats * ps.kernel + more % turns ≡ more = rw e s.whole in
        let front : ps.front ≡ head_of ops w = rw e in
        let again : ps.kernel ≡ turns = elim (cases_lt 0 ps.repeats) [
          | inl h ↦ rw e (s.a_turn (rw e at h))
          | inr h ↦
              let none : ps.repeats ≡ 0 = omega arith in
              absurd (omega (arith, ap (λ x. x * ps.kernel) none, zero-mul ps.kernel))
        ] in
        record { after_head = omega arith; before_end = omega arith; front_is = front; kernel_is = again }
  ]

  module _ (some : 0 < turns) (reaches : Reaches ops w (head_of ops w)) (p r : ℕ) (hp : p < passes_run ps) (hr : r < w.interval) where
    -- The written row that stands for row r of pass p says what that row says.
    pub row_written : map said (row_at (written_pass ps p) r) ≡ code_row ops w name turns trips p r
    unfolding written_pass
    row_written = elim (cases_lt p ps.front) [
      | inl h ↦ rw (lt-ltb p ps.front h)
          (ap (map said) (front_row p r h hr) ∙ row_said ops w name turns trips Front p (0 + p) r ∙ ap (λ x. code_row ops w name turns trips x r) (zero_plus p))
      | inr h ↦ rw (le-ltb p ps.front h) (elim (cases_lt p (ps.front + ps.repeats * ps.kernel)) [
        | inl l ↦ rw (lt-ltb p (ps.front + ps.repeats * ps.kernel) l) (
            let t = repeating p some h l in
            let full : 0 < ps.kernel = rw t.kernel_is some in
            let q = (p - ps.front) % ps.kernel in
            let below : q < ps.kernel = mod-lt (p - ps.front) full in
            let at_most : q ≤ p - ps.front = mod-le (p - ps.front) ps.kernel in
            let same : ps.front + (p - ps.front) ≡ p = omega arith in
            let turn : (ps.front + q) % turns ≡ p % turns =
            ap (λ x. (ps.front + (p - ps.front) % x) % turns) t.kernel_is ∙ add-mod-mod ps.front (p - ps.front) turns ∙ ap (λ z. z % turns) same in
            ap (map said) (kernel_row q r below hr) ∙ row_said ops w name turns trips Kernel q (ps.front + q) r ∙
            row_alike ops w name turns trips (head_of ops w) reaches (ps.front + q) p (omega (arith, t.front_is)) (omega (arith, t.before_end)) t.after_head t.before_end turn r)
        | inr l ↦ rw (le-ltb p (ps.front + ps.repeats * ps.kernel) l) (
            let q = p - (ps.front + ps.repeats * ps.kernel) in
            let index : p - ps.repeats * ps.kernel + ps.kernel ≡ ps.front + ps.kernel + q = omega arith in
            let same : ps.front + ps.repeats * ps.kernel + q ≡ p = omega arith in
            ap (λ x. map said (row_at x r)) index ∙ ap (map said) (rest_row q r (omega arith) hr) ∙
            row_said ops w name turns trips Rest q (ps.front + ps.repeats * ps.kernel + q) r ∙ ap (λ x. code_row ops w name turns trips x r) same)
      ])
    ]
      where
        zero_plus : (x : ℕ) → 0 + x ≡ x
        zero_plus x = omega arith

    pub listing_says : code_of_listing (listing ops w name turns trips) p r ≡ code_row ops w name turns trips p r
    unfolding code_of_listing
    listing_says = rw (and_from _ _ (lt-ltb _ _ hp) (lt-ltb _ _ hr)) row_written

pub listing_means : ListingMeans
listing_means ops hw w scheme trips timings formed positive few lawful variables by_code c hc =
    let reaches = head_reaches ops hw w formed positive few in
    let deep : 0 < stages w (length ops) = omega (arith, stage_below w (length ops) 0 formed.some) in
    let some : 0 < scheme.turns = omega (arith, lawful.some_turns) in
    let in_run : c / w.interval < passes_run (parts_of ops w scheme.turns trips) =
    rw (passes_whole ops w scheme.turns trips some deep) ((div-lt_iff_lt-mul positive).1 hc) in
    ap (map (slot_in scheme.resolve timings (c / w.interval)))
    (listing_says ops w scheme.name scheme.turns trips some reaches (c / w.interval) (c % w.interval) in_run (mod-lt c positive)) ∙
    row_right ops hw w scheme trips (head_of ops w) timings lawful variables by_code reaches formed.named c
