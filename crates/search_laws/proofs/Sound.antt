-- What the search finds is a schedule.
use Rattle.std.proofs.Common.{◌≡◌, ℕ, zero, suc, ◌+◌, ◌*◌, ◌<◌, ◌≤◌, Bool, true, false, cond, eqb, List, [], ◌∷◌, is_some, Some, None, Option, unwrap_or, refl, subst, inl, inr, add-mul, arith}
use Rattle.std.specs.List.{AllByRecursion}
use Rattle.std.proofs.lemmas.Bool.{cases_eq, cases_Bool, and_parts, ltb-false, false≢true}
use Rattle.std.proofs.lemmas.Nat.{mul-le}
use Rattle.model.specs.Loop.{Hardware, total}
use Rattle.model.specs.declared.Edge.{Edge}
use Rattle.model.specs.Edges.{EdgeMet}
use Rattle.model.specs.Walks.{Within}
use Rattle.model.specs.Schedule.{uses}
use Rattle.graph_laws.proofs.Total.{total_le, total_zero}
use Rattle.model.specs.Search.{all_below, bounded, State, start, pick, late, torn, uses_of, in_row, crowded, slot, joined, placed, with_pick, step, complete, failed, times_of, turn, search}
use Rattle.search_laws.specs.Bounded.{Under, Short, Roomy, Sound}
use Rattle.search_laws.proofs.Rows.{in_row_without, rows_then}
use Rattle.search_laws.proofs.Edges.{Held, held_none, edges_then}
use Rattle.search_laws.proofs.Bounds.{under_more, under_without, under_put, pick_below, slot_under}

-- What every state of a search satisfies.
pub record Kept (es : List Edge) (hw : Hardware) (n k : ℕ) (s : State) : Type 0 where
  pub edges : Held k s.time es
  pub rows : (u r : ℕ) → r < k → in_row hw k s.time n u r ≤ hw.units u
  pub times : (q : ℕ) → Under (s.taken * (k + 8)) (s.time q)
  pub lasts : (q : ℕ) → Under (s.taken * (k + 8)) (s.last q)

some_is : (o : Option ℕ) → is_some o ≡ true → o ≡ Some (unwrap_or o 0)
some_is None h = absurd (false≢true h)
some_is (Some t) h = refl

pub below_all : (p : ℕ → Bool) (n j : ℕ) → all_below p n ≡ true → j < n → p j ≡ true
below_all p zero j h l = absurd (omega arith)
below_all p (suc n) j h l = let both = and_parts _ _ h in elim (cases_eq j n) [ inl e ↦ rw e both.0 | inr z ↦ below_all p n j both.1 (omega arith) ]

module _ (es : List Edge) (hw : Hardware) (n : ℕ) (height : ℕ → ℕ) (k : ℕ) (short : Short es) (roomy : Roomy hw n k) where
  placed_keeps : (s : State) (j t : ℕ) → Kept es hw n k s → j < n → t < s.taken * (k + 8) + (k + 8) → Kept es hw n k (placed es hw n k s j t)
  unfolding placed joined
  placed_keeps s j t kept below slow =
      let more : (s.taken + 1) * (k + 8) ≡ s.taken * (k + 8) + 1 * (k + 8) = add-mul s.taken 1 (k + 8) in
      record {
        edges = edges_then k s.time (crowded hw k s.time n j t) j t es kept.edges;
        rows = λ u r h. omega (
          arith,
          in_row_without hw k (torn k (joined es hw n k s j t) j es) (joined es hw n k s j t) n u r,
          rows_then hw k s.time n j t (roomy j below) u r h (kept.rows u r h),
        );
        times = λ q. under_without _ _ _ (under_put _ (eqb q j) t _ (omega arith) (under_without _ _ _ (under_more _ _ _ (omega arith) (kept.times q))));
        lasts = λ q. under_put _ (eqb q j) t _ (omega arith) (under_more _ _ _ (omega arith) (kept.lasts q));
      }

  pick_keeps : (s : State) (o : Option ℕ) → Kept es hw n k s → Under n o → Kept es hw n k (with_pick es hw n k s o) × ((with_pick es hw n k s o).taken ≤ s.taken + 1)
  unfolding placed
  pick_keeps s None kept h = (kept, omega arith)
  pick_keeps s (Some j) kept h = (placed_keeps s j (slot es hw n k s j) kept h (slot_under es hw n k s j _ short kept.times (kept.lasts j)), omega arith)

  pub step_keeps : (s : State) → Kept es hw n k s → Kept es hw n k (step es hw n height k s) × ((step es hw n height k s).taken ≤ s.taken + 1)
  unfolding step
  step_keeps s kept = pick_keeps s (pick height s.time n) kept (pick_below height s.time n)

  -- All placed: the times are a schedule.
  module _ (s : State) (kept : Kept es hw n k s) (all : complete n s ≡ true) where
    time_is : (j : ℕ) → j < n → s.time j ≡ Some (times_of s j)
    time_is j h = some_is (s.time j) (below_all (λ q. is_some (s.time q)) n j all h)

    one_met : (e : Edge) → e.from < n → e.to < n → late k e (s.time e.from) (s.time e.to) ≡ false → EdgeMet (times_of s) k e
    one_met e f t h = ltb-false _ _ (rw (time_is e.from f, time_is e.to t) at h)

    all_met : (es : List Edge) → Within n es → Held k s.time es → AllByRecursion (EdgeMet (times_of s) k) es
    unfolding Held
    all_met [] j h = tt
    all_met (e ∷ es) j h = (one_met e j.0.0 j.0.1 h.0, all_met es j.1 h.1)

    same_uses : (j r : ℕ) → j < n → uses k (times_of s j) (hw.busy j) r ≤ uses_of hw k j (s.time j) r
    same_uses j r h = rw (time_is j h) (omega arith)

    part_le : (b : Bool) (x y : ℕ) → x ≤ y → cond b x 0 ≤ cond b y 0
    part_le true x y h = h
    part_le false x y h = omega arith

    rows_met : (u r : ℕ) → r < k → total (λ j. cond (eqb (hw.class j) u) (uses k (times_of s j) (hw.busy j) r) 0) n ≤ hw.units u
    unfolding in_row
    rows_met u r h = omega (
      arith,
      kept.rows u r h,
      total_le (λ j. cond (eqb (hw.class j) u) (uses k (times_of s j) (hw.busy j) r) 0) (λ j. cond (eqb (hw.class j) u) (uses_of hw k j (s.time j) r) 0) n
          (λ j l. part_le (eqb (hw.class j) u) _ _ (same_uses j r l)),
    )

    time_under : (j : ℕ) → j < n → times_of s j < s.taken * (k + 8)
    time_under j h = subst (Under (s.taken * (k + 8))) (time_is j h) (kept.times j)

  module _ (ends : Within n es) where
    turns_keep : (left : ℕ) (s : State) → Kept es hw n k s → s.taken + left ≤ 6 * n → Sound es hw n k (bounded (turn es hw n height k) (failed (6 * n)) left s)
    unfolding turn
    turns_keep zero s kept h = refl
    turns_keep (suc left) s kept h =
        let later = step_keeps s kept in
        elim (cases_Bool (complete n (step es hw n height k s))) [
          | inl e ↦ rw e (
            all_met (step es hw n height k s) later.0 e es ends later.0.edges,
            rows_met (step es hw n height k s) later.0 e,
            time_under (step es hw n height k s) later.0 e,
            omega arith,
          )
          | inr e ↦ rw e (turns_keep left (step es hw n height k s) later.0 (omega arith))
        ]

pub start_kept : (es : List Edge) (hw : Hardware) (n k : ℕ) → Kept es hw n k start
unfolding in_row
start_kept es hw n k = record {
  edges = held_none k es;
  rows = λ u r h. omega (arith, total_le (λ j. cond (eqb (hw.class j) u) 0 0) (λ _. 0) n (λ j _. none (eqb (hw.class j) u)), total_zero n);
  times = λ q. tt;
  lasts = λ q. tt;
}
  where
    none : (b : Bool) → cond b 0 0 ≤ 0
    none true = omega arith
    none false = omega arith

pub search_sound : (es : List Edge) (hw : Hardware) (n : ℕ) (height : ℕ → ℕ) (k : ℕ) → Within n es → Short es → Roomy hw n k → Sound es hw n k (search es hw n height k)
search_sound es hw n height k ends short roomy = turns_keep es hw n height k short roomy ends (6 * n) start (start_kept es hw n k) (omega arith)

-- times of at most 192 steps at an interval of at most 256
pub in_sixteen : (k n taken : ℕ) → n ≤ 32 → k ≤ 256 → taken ≤ 6 * n → taken * (k + 8) ≤ 50688
in_sixteen k n taken few small steps = omega (arith, mul-le taken (k + 8) 192 264 (omega arith) (omega arith))
