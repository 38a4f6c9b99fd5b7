-- What is known when a listing is written.
use Rattle.std.proofs.Common.{◌≡◌, ℕ, ◌+◌, ◌-◌, ◌*◌, ◌/◌, ◌%◌, ◌<◌, ◌≤◌, cond, eqb, leb, List, map, length, Some, None, vec_len, sym, ap, ◌∙◌, subst, ap₂, inl, inr, mul-le-mul, arith}
use Rattle.std.proofs.lemmas.Bool.{cases_eq, eq-eqb, ne_eqb, le-leb, lt-leb}
use Rattle.model.specs.declared.Parts.{Parts}
use Rattle.model.specs.declared.Timing.{Timing}
use Rattle.model.specs.Loop.{Loop, Hardware, WellFormed}
use Rattle.model.specs.Schedule.{Schedule, stages}
use Rattle.model.specs.Schemes.{Meaning, Lawful}
use Rattle.model.specs.Issues.{passes, variable_number}
use Rattle.model.specs.Pipelining.{Means}
use Rattle.model.specs.Codes.{form_of, slot_in}
use Rattle.model.specs.Listing as listings
use Rattle.model.specs.Listing.{farthest, head_of, all_front, with_kernel, parts_of, passes_run, passes_written, rows_of, listing, slots_of}
use Rattle.model.specs.ListingLaws.{ByCode}
use Rattle.timing.specs.declared.schedule.Schedule.{Schedule as OwnSchedule}
use Rattle.timing.specs.Seen.{schedule_seen}
use Rattle.pipelining.proofs.Length.{stage_below, stages_by_times}
use Rattle.listing_laws.proofs.Reach.{farthest_near}
use Rattle.listing_laws.proofs.Law.{listing_means}
use Rattle.listing_laws.proofs.Sizes.{listing_sizes}
use Rattle.listing.specs.declared.body.Body.{Body}
use Rattle.listing.specs.declared.listing.Listing.{Listing}
use Rattle.listing.specs.declared.rows.Rows.{Rows}
use Rattle.listing.specs.Views.{loop_of, schedule_of}
use Rattle.listing.specs.Rows.{all_rows}
use Rattle.listing.specs.Kept.{all_slots, Keeps}
use Rattle.listing.specs.Forms.{rows_said}
use Rattle.listing.specs.Written.{Is, complaint}
use Rattle.listing.specs.declared.refusal.Unwritable.TheVariants.{Stages}
use Rattle.listing.proofs.Bodies.{formed}
use Rattle.listing.proofs.Cuts.{says_same}

-- At least one stage, and distances up to seven.
pub deep : {S : Type 0} (b : Body S) (d : ℕ) → d ≡ stages (schedule_of b) (length (loop_of b)) → 1 ≤ d
deep b d e = omega (arith, e, stage_below (schedule_of b) (length (loop_of b)) 0 (formed b).some)

pub near : {S : Type 0} (b : Body S) (f : ℕ) → f ≡ farthest (loop_of b) (length (loop_of b)) → f ≤ 7
near b f e = omega (arith, farthest_near (loop_of b) (length (loop_of b)) (formed b).named)

pub record Ready {S : Type 0} (b : Body S) (m : S → Meaning) (ps : Parts) : Type 0 where
  pub parts : ps ≡ parts_of (loop_of b) (schedule_of b) b.turns b.trips
  pub few : passes_run ps + ps.kernel ≤ 65535
  pub slots : length (all_slots (all_rows b m)) ≤ 1152
  pub rows : length (all_rows b m) ≤ 9216
  pub short : passes_written ps ≤ 36
  pub counted : length (all_rows b m) ≡ passes_written ps * b.schedule.interval

pub record Owed (ps : Parts) (rows : Rows) (interval : ℕ) : Type 0 where
  pub counted : vec_len rows.starts ≡ passes_written ps * interval + 1
  pub short : passes_written ps ≤ 36
  pub runs : passes_run ps ≤ 65535
  pub narrow : interval ≤ 256

abbrev split_by : ℕ → ℕ → ℕ → ℕ → Parts
split_by head stages turns trips = cond (leb trips head) (all_front (cond (eqb trips 0) 0 (trips + stages - 1))) (with_kernel head stages turns (trips - head))

split_is : {S : Type 0} (b : Body S) (d f : ℕ) → d ≡ stages (schedule_of b) (length (loop_of b)) → f ≡ farthest (loop_of b) (length (loop_of b)) →
    split_by (d - 1 + f) d b.turns b.trips ≡ parts_of (loop_of b) (schedule_of b) b.turns b.trips
unfolding parts_of head_of
split_is b d f e h =
    ap₂ (λ x y. split_by (x - 1 + y) x b.turns b.trips) e h

few_passes : (w : Schedule) (n trips : ℕ) → trips ≤ 4096 → stages w n ≤ 8 → passes w n trips ≤ 4104
few_passes w n trips h deep = elim (cases_eq trips 0) [ inl e ↦ rw (eq-eqb trips 0 e) (omega arith) | inr z ↦ rw (ne_eqb trips 0 z) (omega arith) ]

pub ready : {S : Type 0} (b : Body S) (m : S → Meaning) (s : OwnSchedule) (d f turns trips : ℕ) (ps : Parts) → b.schedule ≡ s → 1 ≤ s.interval → s.interval ≤ 256 →
    b.turns ≡ turns → turns ≤ 8 → b.trips ≡ trips → trips ≤ 4096 →
    d ≡ stages (schedule_of b) (length (loop_of b)) → d ≤ 8 → f ≡ farthest (loop_of b) (length (loop_of b)) → ps ≡ split_by (d - 1 + f) d turns trips → Ready b m ps
ready b m s d f turns trips ps s_is low high turns_is few_turns trips_is few_trips d_is shallow f_is split =
    let some : 1 ≤ b.schedule.interval = rw s_is low in
    let narrow : b.schedule.interval ≤ 256 = rw s_is high in
    let is : ps ≡ parts_of (loop_of b) (schedule_of b) b.turns b.trips =
    split ∙ ap₂ (λ x y. split_by (d - 1 + f) d x y) (sym turns_is) (sym trips_is) ∙ split_is b d f d_is f_is in
    let all_stages : stages (schedule_of b) (length (loop_of b)) ≤ 8 = omega (arith, d_is) in
    let few_stages = (stages_by_times (loop_of b) (schedule_of b) some).0 all_stages in
    let z = listing_sizes (loop_of b) _ (schedule_of b) (m b.scheme.now).name b.turns b.trips (formed b) some few_stages b.turning (omega arith) in
    let run = ap passes_run is ∙ z.run in
    let written : passes_written ps ≤ 36 = rw is z.few_passes in
    let long = few_passes (schedule_of b) (length (loop_of b)) b.trips (omega arith) all_stages in
    let most = mul-le-mul written narrow in
    record {
      parts = is;
      few = omega (arith, run, written, long);
      slots = z.slots;
      rows = omega (arith, z.rows ∙ ap (λ x. passes_written x * b.schedule.interval) (sym is), most);
      short = written;
      counted = z.rows ∙ ap (λ x. passes_written x * b.schedule.interval) (sym is);
    }

-- The listing that is kept is the definition's.
pub is_listing : {S : Type 0} (l : Listing) (b : Body S) (m : S → Meaning) (ops : Loop) (s : OwnSchedule) (x : S) (turns trips : ℕ) →
    loop_of b ≡ ops → b.schedule ≡ s → b.scheme.now ≡ x → b.turns ≡ turns → b.trips ≡ trips →
    Ready b m l.parts → Keeps l.rows (all_rows b m) → l.trips ≡ trips → l.interval ≡ s.interval →
    Is l (listing ops (schedule_seen s) (m x).name turns trips)
is_listing l b m ops s x turns trips ops_is s_is x_is turns_is trips_is r keeps lt li =
    let k_is = ap (λ x. x.interval) s_is in
    let d : listings.Listing = listing (loop_of b) (schedule_of b) (m b.scheme.now).name b.turns b.trips in
    let own : Is l d = record {
      slots = keeps.slots;
      parts = r.parts;
      trips = lt ∙ sym trips_is;
      interval = li ∙ sym k_is;
      says = says_same l d keeps r.parts (li ∙ sym k_is) (r.counted ∙ ap (λ x. passes_written x * b.schedule.interval) r.parts);
    } in
    let same : d ≡ listing ops (schedule_seen s) (m x).name turns trips =
    ap₂ (λ z y. listing z (schedule_seen y) (m b.scheme.now).name b.turns b.trips) ops_is s_is ∙
    ap (λ z. listing ops (schedule_seen s) (m z).name b.turns b.trips) x_is ∙
    ap₂ (λ z y. listing ops (schedule_seen s) (m x).name z y) turns_is trips_is in
    subst (Is l) same own

-- And so it means what issues.
pub means_issues : (l : Listing) (ops : Loop) (w : Schedule) (scheme : Meaning) (turns trips : ℕ) → Lawful scheme → 0 < w.interval → stages w (length ops) ≤ 8 →
    Is l (listing ops w scheme.name turns trips) → turns ≡ scheme.turns → scheme.variables ≡ variable_number ops (length ops) →
    (hw : Hardware) (timings : List Timing) → WellFormed ops hw → ByCode timings ops hw →
    Means (form_of scheme.resolve timings w.interval (rows_said l)) ops hw w trips scheme.place
means_issues l ops w scheme turns trips lawful positive shallow is turning variables hw timings fine by_code c h =
    let own : Is l (listing ops w scheme.name scheme.turns trips) = subst (λ u. Is l (listing ops w scheme.name u trips)) turning is in
    ap (map (slot_in scheme.resolve timings (c / w.interval))) (own.says (c / w.interval) (c % w.interval)) ∙
    listing_means ops hw w scheme trips timings fine positive ((stages_by_times ops w positive).0 shallow) lawful variables by_code c h

pub stages_same : {S : Type 0} (b : Body S) (d : ℕ) (ops : Loop) (s : OwnSchedule) → loop_of b ≡ ops → b.schedule ≡ s → d ≡ stages (schedule_of b) (length (loop_of b)) →
    stages (schedule_seen s) (length ops) ≡ d
stages_same b d ops s ops_is s_is d_is = sym (d_is ∙ ap₂ (λ x y. stages (schedule_seen x) (length y)) s_is ops_is)

-- Complaints.
pub no_complaint : (ops : Loop) (w : Schedule) (turns trips : ℕ) → 1 ≤ w.interval → w.interval ≤ 256 → 1 ≤ turns → turns ≤ 8 → trips ≤ 4096 → stages w (length ops) ≤ 8 →
    complaint ops w turns trips ≡ None
no_complaint ops w turns trips a b c d e f =
    rw (le-leb 1 w.interval a, le-leb w.interval 256 b, le-leb 1 turns c, le-leb turns 8 d, le-leb 0 trips (omega arith), le-leb trips 4096 e, le-leb 0 (stages w (length ops)) (omega arith), le-leb (stages w (length ops)) 8 f)

pub too_deep : (ops : Loop) (w : Schedule) (turns trips : ℕ) → 1 ≤ w.interval → w.interval ≤ 256 → 1 ≤ turns → turns ≤ 8 → trips ≤ 4096 → 8 < stages w (length ops) →
    complaint ops w turns trips ≡ Some Stages
too_deep ops w turns trips a b c d e f =
    rw (le-leb 1 w.interval a, le-leb w.interval 256 b, le-leb 1 turns c, le-leb turns 8 d, le-leb 0 trips (omega arith), le-leb trips 4096 e, le-leb 0 (stages w (length ops)) (omega arith), lt-leb (stages w (length ops)) 8 f)

-- What a listing owes.
pub owed : {S : Type 0} (b : Body S) (m : S → Meaning) (s : OwnSchedule) (ps : Parts) (rows : Rows) → b.schedule ≡ s → s.interval ≤ 256 → Ready b m ps →
    vec_len rows.starts ≡ length (all_rows b m) + 1 → Owed ps rows s.interval
owed b m s ps rows s_is narrow r starts = record {
  counted = starts ∙ ap (λ n. n + 1) (r.counted ∙ ap (λ x. passes_written ps * x.interval) s_is);
  short = r.short;
  runs = omega (arith, r.few);
  narrow = narrow;
}
