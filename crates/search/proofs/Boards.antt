-- Boards stay sound.
use Rattle.std.proofs.Common.{◌≡◌, ℕ, zero, suc, ◌+◌, ◌<◌, ◌≤◌, max, Bool, true, false, cond, ◌&&◌, ◌||◌, eqb, List, [], ◌∷◌, length, get_or, Some, None, Option, unwrap_or, sym, refl, ap, ◌∙◌, subst, ap₂, subst₂, add-one, zero-add, inl, inr, arith}
use Rattle.std.specs.List.{fold, range_with_len}
use Rattle.std.proofs.lemmas.List.Sums.{fold-append}
use Rattle.reservation.proofs.Cells.{range_more}
use Rattle.std.proofs.lemmas.Bool.{and_from, cases_lt}
use Rattle.model.specs.declared.Timing.{Timing}
use Rattle.model.specs.Limits.{timing, hardware}
use Rattle.model.specs.declared.Edge.{Edge}
use Rattle.model.specs.Search.{Times, without, first, fits, crowded, early, torn, fallback, slot}
use Rattle.search_laws.specs.Counts.{Room, Held, Less, Put, Tied}
use Rattle.search_laws.specs.Bounded.{Roomy}
use Rattle.search_laws.specs.Weights.{weight, early_by, asked, unmet, torn_by}
use Rattle.search_laws.proofs.Weights.{early_weights, torn_weights}
use Rattle.search_laws.proofs.Ties.{tied_less, tied_put, has_uses}
use Rattle.search_laws.proofs.Crowds.{fits_is, there, room_then}
use Rattle.search_laws.proofs.Steps.{first_same, slot_is, slot_fits}
use Rattle.search_laws.proofs.Plan.{short_edges}
use Rattle.reservation.specs.Cells.{bookable}
use Rattle.reservation.specs.Times.{times_of, Replaced}
use Rattle.reservation.specs.Views.{count, units_of, fits_of, crowds_of, Alike, Booked, Released}
use Rattle.reservation.specs.declared.table.ReservationTable.{ReservationTable}
use Rattle.reservation.specs.declared.time_table.TimeTable.{TimeTable}
use Rattle.search.specs.Fitting.{Fitting}
use Rattle.search.specs.Views.{weights_of}
use Rattle.search.specs.Weighed.{Weighed}
use Rattle.search.specs.declared.weight_table.Weights.{Weights}
use Rattle.search.specs.Tables.{hw_of, Sound}
use Rattle.search.specs.Boards.{timings_of, size, hw, placed_on, slot_on, Keeps, Same, state_of, LowIn}
use Rattle.search.specs.declared.task.Task.{Task}
use Rattle.search.specs.declared.board.Board.{Board}
use Rattle.search.specs.declared.state.Progress.{Progress}
use Rattle.search.proofs.Cells.{replaced_less, replaced_put, is_bookable, released_there, booked_there}

pub tied_alike : (us : List Timing) (t t' : ReservationTable) → Alike t t' → (time : Times) (counts : ℕ → ℕ → ℕ) →
    Tied (hw_of us t) (length us) t.interval time counts → Tied (hw_of us t') (length us) t'.interval time counts
tied_alike us t t' same time counts h = subst₂ (λ u k. Tied (hardware us u) (length us) k time counts) (sym same.units) (sym same.interval) h

pub alike_both : (a b c : ReservationTable) → Alike a b → Alike b c → Alike a c
alike_both a b c f g = record { units = g.units ∙ f.units; interval = g.interval ∙ f.interval }

module _ (us : List Timing) (j t : ℕ) (fitting : Fitting us) (below : j < length us) (small : t ≤ 99999) where
  takes : bookable (timing us j).class (timing us j).busy t ≡ true
  takes = is_bookable (timing us j).class (timing us j).busy t (fitting.class j below) (fitting.busy j below) small

  pub removed : (tb tb' : ReservationTable) (ts ts' : TimeTable) (r : Bool) → times_of ts j ≡ Some t →
      Tied (hw_of us tb) (length us) tb.interval (times_of ts) (count tb) → Released tb tb' (timing us j) t r → Replaced j None ts ts' →
      Less j (times_of ts) (times_of ts') × Tied (hw_of us tb') (length us) tb'.interval (times_of ts') (count tb') × Alike tb tb'
  removed tb tb' ts ts' r at tied released replaced =
      let few = fitting.few in
      let less = replaced_less j ts ts' (omega arith) replaced in
      let has = has_uses (hw_of us tb) (length us) tb.interval j t below (times_of ts) at (count tb) tied (fitting.class j below) in
      let gone = released_there tb tb' (timing us j) t r released takes has in
      (less, tied_alike us tb tb' gone.1 (times_of ts') (count tb') (tied_less (hw_of us tb) (length us) tb.interval j t below (times_of ts) at (times_of ts') (count tb) (count tb') less gone.0 tied), gone.1)

  pub placed : (tb tb' : ReservationTable) (ts ts' : TimeTable) (r : Bool) → times_of ts j ≡ None →
      Tied (hw_of us tb) (length us) tb.interval (times_of ts) (count tb) → Room tb.interval (timing us j).class t (timing us j).busy (count tb) (units_of tb) →
      Booked tb tb' (timing us j) t r → Replaced j (Some t) ts ts' →
      Put j t (times_of ts) (times_of ts') × Tied (hw_of us tb') (length us) tb'.interval (times_of ts') (count tb') × Alike tb tb'
  placed tb tb' ts ts' r free tied room booked replaced =
      let few = fitting.few in
      let more = replaced_put j t ts ts' (omega arith) replaced in
      let there' = booked_there tb tb' (timing us j) t r booked takes room in
      (more, tied_alike us tb tb' there'.1 (times_of ts') (count tb') (tied_put (hw_of us tb) (length us) tb.interval j t below (times_of ts) (times_of ts') (count tb) (count tb') free more there'.0 tied), there'.1)

-- a test that begins with what holds
skip : (a b : Bool) → a ≡ true → (a && b) ≡ b
skip a b e = rw e

module _ (us : List Timing) (tb : ReservationTable) (time : Times) (fitting : Fitting us) (tied : Tied (hw_of us tb) (length us) tb.interval time (count tb)) (j : ℕ) (below : j < length us) where
  pub crowds_is : (t q s : ℕ) (r : Bool) → q < length us → t ≤ 99999 → s ≤ 99999 → (timing us q).class ≡ (timing us j).class → time q ≡ Some s →
      r ≡ (bookable (timing us j).class (timing us j).busy t && bookable (timing us j).class (timing us q).busy s) && crowds_of tb (timing us j) t s (timing us q).busy →
      r ≡ crowded (hw_of us tb) tb.interval time (length us) j t q
  crowds_is t q s r known ht hs same at is =
      is ∙ (skip _ _ (and_from _ _ (is_bookable _ _ t (fitting.class j below) (fitting.busy j below) ht) (is_bookable _ _ s (fitting.class j below) (fitting.busy q known) hs)) ∙
      there (hw_of us tb) (length us) tb.interval time (count tb) tb.positive tb.small tied j t (fitting.class j below) q s same at)

  pub window_is : (from : ℕ) → from < 65600 → first (fits_of tb (timing us j)) from tb.interval ≡ first (fits (hw_of us tb) tb.interval time (length us) j) from tb.interval
  window_is from h =
      let small : tb.interval ≤ 256 = tb.small in
      first_same _ _ from tb.interval (λ t a b. skip _ _ (is_bookable _ _ t (fitting.class j below) (fitting.busy j below) (omega arith)) ∙
      sym (fits_is (hw_of us tb) (length us) tb.interval time (count tb) tb.positive tb.small tied j t (fitting.class j below) tb.held))

-- one operation more looked at for the early time
pub early_more : (weights : ℕ → ℕ → ℕ) (time : Times) (j q : ℕ) → early_by weights time j (q + 1) ≡ max (early_by weights time j q) (cond (eqb q j) 0 (asked (weights q j) (time q)))
unfolding early_by
early_more weights time j q = rw add-one

pub early_none : (weights : ℕ → ℕ → ℕ) (time : Times) (j : ℕ) → 0 ≡ early_by weights time j 0
unfolding early_by
early_none weights time j = refl

-- what an operation asks of the early time of another
abbrev pub asked_from : (ℕ → ℕ → ℕ) → Times → ℕ → ℕ → ℕ
asked_from weights time j q = cond (eqb q j) 0 (asked (weights q j) (time q))

pub greatest_asked : (weights : ℕ → ℕ → ℕ) (time : Times) (j n : ℕ) → fold (λ a q. max a (asked_from weights time j q)) 0 (range_with_len 0 n) ≡ early_by weights time j n
greatest_asked weights time j zero = early_none weights time j
greatest_asked weights time j (suc n) =
    ap (fold (λ a q. max a (asked_from weights time j q)) 0) (range_more 0 n) ∙ (fold-append (λ a q. max a (asked_from weights time j q)) 0 (range_with_len 0 n) ((0 + n) ∷ []) ∙
    (ap₂ (λ a q. max a (asked_from weights time j q)) (greatest_asked weights time j n) (zero-add n) ∙ (sym (early_more weights time j n) ∙ ap (early_by weights time j) (add-one n))))

-- the weights say what the edges say
module _ (es : List Edge) (n k : ℕ) (w : Weights) (weighed : Weighed es n k w) (few : n ≤ 32) (j : ℕ) (below : j < n) where
  pub torn_is : (time : Times) (q : ℕ) → q < n → torn_by (weights_of w) time j q ≡ torn k time j es q
  torn_is time q h =
      ap₂ (λ a b. unmet a (time j) (time q) || unmet b (time q) (time j)) (weighed.are j q (omega arith) (omega arith)) (weighed.are q j (omega arith) (omega arith)) ∙
      torn_weights k weighed.small time j n es weighed.fit q

  early_same : (time : Times) (m : ℕ) → m ≤ n → early_by (weights_of w) time j m ≡ early_by (weight k es) time j m
  unfolding early_by
  early_same time zero h = refl
  early_same time (suc m) h =
      ap₂ (λ a b. max a (cond (eqb m j) 0 (asked b (time m)))) (early_same time m (omega arith)) (weighed.are m j (omega arith) (omega arith))

  pub early_is : (time : Times) → early_by (weights_of w) time j n ≡ early k time j es
  early_is time = early_same time n (omega arith) ∙ early_weights k time j weighed.small es n weighed.fit

-- the same table under another name
pub held_alike : (us : List Timing) (t t' : ReservationTable) → Alike t t' → Held (count t') (units_of t)
held_alike us t t' same = subst (λ u. Held (count t') (λ x. get_or u x 0)) same.units t'.held

pub roomy_alike : (us : List Timing) (t t' : ReservationTable) → Alike t t' → Roomy (hw_of us t) (length us) t.interval → Roomy (hw_of us t') (length us) t'.interval
roomy_alike us t t' same h = subst₂ (λ u k. Roomy (hardware us u) (length us) k) (sym same.units) (sym same.interval) h

alike_back : (t t' : ReservationTable) → Alike t t' → Alike t' t
alike_back t t' same = record { units = sym same.units; interval = sym same.interval }

-- room for an operation where those that it crowds out are gone
pub room_now : (us : List Timing) (tb tb' : ReservationTable) (j t : ℕ) → Fitting us → j < length us → Roomy (hw_of us tb) (length us) tb.interval → (time time' : Times) →
    Tied (hw_of us tb) (length us) tb.interval time (count tb) → Alike tb tb' → Tied (hw_of us tb') (length us) tb'.interval time' (count tb') →
    ((q : ℕ) → time' q ≡ without (crowded (hw_of us tb) tb.interval time (length us) j t) time q) → time' j ≡ None →
    Room tb'.interval (timing us j).class t (timing us j).busy (count tb') (units_of tb')
room_now us tb tb' j t fitting below roomy time time' tied same tied' gone none =
    subst₂ (λ u k. Room k (timing us j).class t (timing us j).busy (count tb') (λ x. get_or u x 0)) (sym same.units) (sym same.interval)
    (room_then (hw_of us tb) (length us) tb.interval time (count tb) tb.positive tb.small tied j t (fitting.class j below) time' (count tb') below roomy tb.held
    (tied_alike us tb' tb (alike_back tb tb' same) time' (count tb') tied') (held_alike us tb tb' same) gone none)

-- a board that stays as it is, or changes twice
pub same_still : (b : Board) → Same b b
same_still b = record { task = refl; table = record { units = refl; interval = refl } }

pub keeps_both : (k : Task) (t : ReservationTable) (b c : Board) → Keeps k t b → Same b c → Keeps k t c
keeps_both k t b c f g = record { task = g.task ∙ f.task; table = alike_both t b.table c.table f.table g.table }

-- the same of the operations
pub inside_then : (b b' : Board) → Same b b' → (j : ℕ) → j < size b → j < size b'
inside_then b b' same j h = subst (λ k. j < length k.timings.now) (sym same.task) h

-- an operation that is placed is one of those
pub placed_inside : (b : Board) (j t : ℕ) → placed_on b j ≡ Some t → j < size b
placed_inside b j t is = elim (cases_lt j (size b)) [ inl l ↦ l | inr g ↦ absurd (both j t (sym (b.sound.beyond j g) ∙ is)) ]
  where
    both : (j t : ℕ) → ◌≡◌ {A = Option ℕ} None (Some t) → ⊥
    both j t e = cc

pub beyond_then : (b b' : Board) → Same b b' → (q : ℕ) → size b ≤ q → placed_on b' q ≡ None
beyond_then b b' same q h = b'.sound.beyond q (subst (λ k. length k.timings.now ≤ q) (sym same.task) h)

-- what a board needs, as it is after a change
pub weighed_then : (b : Board) (t' : ReservationTable) → Alike b.table t' → Weighed b.task.now.edges.now (size b) t'.interval b.task.now.weights.now
weighed_then b t' same = subst (λ k. Weighed b.task.now.edges.now (size b) k b.task.now.weights.now) (sym same.interval) b.weighed

-- room for an operation where those that it crowds out are gone
pub room_moved : (b b' : Board) (j t : ℕ) → Same b b' → j < size b →
    ((q : ℕ) → placed_on b' q ≡ without (crowded (hw b) b.table.interval (placed_on b) (size b) j t) (placed_on b) q) → placed_on b' j ≡ None →
    Room b'.table.interval ((hw b').class j) t ((hw b').busy j) (count b'.table) (units_of b'.table)
room_moved b b' j t same below gone none =
    let sound' : Sound (timings_of b) b'.table b'.time = subst (λ k. Sound k.timings.now b'.table b'.time) same.task b'.sound in
    subst (λ k. Room b'.table.interval (timing k.timings.now j).class t (timing k.timings.now j).busy (count b'.table) (units_of b'.table)) (sym same.task)
    (room_now (timings_of b) b.table b'.table j t b.task.now.fitting below b.alone (placed_on b) (placed_on b') b.sound same.table sound' gone none)

-- the marks of torn operations say what the edges say
pub torn_moved : (b b' : Board) (j : ℕ) (marks : List Bool) → Same b b' → j < size b →
    ((q : ℕ) → q < size b' → get_or marks q false ≡ torn_by (weights_of b'.task.now.weights.now) (placed_on b') j q) →
    (q : ℕ) → q < size b → get_or marks q false ≡ torn b.table.interval (placed_on b') j b.task.now.edges.now q
torn_moved b b' j marks same below are q h =
    let here : get_or marks q false ≡ torn_by (weights_of b.task.now.weights.now) (placed_on b') j q =
    subst (λ k. get_or marks q false ≡ torn_by (weights_of k.weights.now) (placed_on b') j q) same.task (are q (inside_then b b' same q h)) in
    here ∙ torn_is b.task.now.edges.now (size b) b.table.interval b.task.now.weights.now b.weighed b.task.now.fitting.few j below (placed_on b') q h

-- the time that an operation takes
module _ (s : Progress) (j : ℕ) (below : j < size s.board) (last : Option ℕ) (last_is : last ≡ times_of s.last j) (t : ℕ) (t_is : t ≡ slot_on s.board j last) where
  abbrev b : Board
  b = s.board

  abbrev es : List Edge
  es = b.task.now.edges.now

  early_now : early_by (weights_of b.task.now.weights.now) (placed_on b) j (size b) ≡ early b.table.interval (placed_on b) j es
  early_now = early_is es (size b) b.table.interval b.task.now.weights.now b.weighed b.task.now.fitting.few j below (placed_on b)

  pub slot_of : early_by (weights_of b.task.now.weights.now) (placed_on b) j (size b) < 65600 → t ≡ slot es (hw b) (size b) b.table.interval (state_of s) j
  slot_of small =
      let from : ℕ = early_by (weights_of b.task.now.weights.now) (placed_on b) j (size b) in
      t_is ∙ (ap (λ l. unwrap_or (first (fits_of b.table (timing (timings_of b) j)) from b.table.interval) (fallback l from)) last_is ∙
      slot_is es (hw b) (size b) b.table.interval (state_of s) j from _ early_now
      (window_is (timings_of b) b.table (placed_on b) b.task.now.fitting b.sound j below from small))

  pub slot_small : early_by (weights_of b.task.now.weights.now) (placed_on b) j (size b) < 65600 → LowIn s → s.taken < 192 → t < 65536
  slot_small small low steps = slot_fits es (hw b) (size b) b.table.interval (state_of s) j t (short_edges (size b) es b.weighed.fit) b.weighed.small steps low (slot_of small)
