-- The search at an interval.
use Rattle.std.specs.Prelude.{ℕ, zero, suc, ◌+◌, ◌-◌, ◌*◌, max, Bool, true, false, cond, not, ◌&&◌, ◌||◌, ◌⊎◌, List, [], ◌∷◌, is_some, Some, None, Option, ◌==◌, nat_lt}
use Rattle.std.proofs.Common.{inl, inr}
use Rattle.std.specs.Option.{unwrap_or}
use Rattle.model.specs.Loop.{Hardware, total}
use Rattle.model.specs.Edges.{Edge}
use Rattle.model.specs.Schedule.{uses}

-- p holds of each number below n; of some number below n.
abbrev pub all_below : (ℕ → Bool) → ℕ → Bool
all_below p zero = true
all_below p (suc n) = p n && all_below p n

abbrev pub some_below : (ℕ → Bool) → ℕ → Bool
some_below p zero = false
some_below p (suc n) = p n || some_below p n

-- The first number from `from` on of which p holds, of so many.
abbrev pub first : (ℕ → Bool) → ℕ → ℕ → Option ℕ
first p from zero = None
first p from (suc m) = cond (p from) (Some from) (first p (suc from) m)

-- Steps until one answers, at most n of them.
abbrev pub next : {S R : Type 0} → R ⊎ S → (S → R) → R
next (inl r) go = r
next (inr t) go = go t

abbrev pub bounded : {S R : Type 0} → (S → R ⊎ S) → R → ℕ → S → R
bounded step out zero s = out
bounded step out (suc n) s = next (step s) (bounded step out n)

-- The times of the operations that are placed.
abbrev pub Times : Type 0
Times = ℕ → Option ℕ

-- With operation j at time t; without those of which a test holds.
abbrev pub put : ℕ → ℕ → Times → Times
put j t f q = cond (q == j) (Some t) (f q)

abbrev pub without : (ℕ → Bool) → Times → Times
without gone f q = cond (gone q) None (f q)

-- The operations that are placed; when each was last placed in this search; the steps taken.
pub record State : Type 0 where
  pub time : Times
  pub last : Times
  pub taken : ℕ

-- Nothing is placed, and nothing ever was.
abbrev pub start : State
start = record { time = λ _. None; last = λ _. None; taken = 0 }

-- THE PICK. Of the best so far and one that comes later: the later only if it is higher.
abbrev pub better : (ℕ → ℕ) → Option ℕ → ℕ → Option ℕ
better height None j = Some j
better height (Some b) j = Some (cond (nat_lt (height b) (height j)) j b)

-- Of the first n the operation that is not placed and of greatest height, the lowest number among equals.
unfoldable pub pick : (ℕ → ℕ) → Times → ℕ → Option ℕ
pick height time zero = None
pick height time (suc j) = cond (is_some (time j)) (pick height time j) (better height (pick height time j) j)

-- THE EARLY TIME. What an edge from an operation asks: nothing if it is not placed.
abbrev pub after : ℕ → Edge → Option ℕ → ℕ
after k e None = 0
after k e (Some t) = (t + e.delay) - e.distance * k

-- The greatest of 0 and what is asked by the edges to operation j from other operations.
unfoldable pub early : ℕ → Times → ℕ → List Edge → ℕ
early k time j [] = 0
early k time j (e ∷ es) = max (cond (e.to == j && not (e.from == j)) (after k e (time e.from)) 0) (early k time j es)

-- THE TIME. Where there is no room: early, if it was never placed or early is above its last time, and otherwise that time + 1.
abbrev pub fallback : Option ℕ → ℕ → ℕ
fallback None early = early
fallback (Some last) early = cond (nat_lt last early) early (last + 1)

module _ (hw : Hardware) (k : ℕ) where
  -- The uses that operation j has in row r.
  abbrev pub uses_of : ℕ → Option ℕ → ℕ → ℕ
  uses_of j None r = 0
  uses_of j (Some t) r = uses k t (hw.busy j) r

  -- The uses of class u in row r, of the placed among the first n operations.
  unfoldable pub in_row : Times → ℕ → ℕ → ℕ → ℕ
  in_row time n u r = total (λ j. cond (hw.class j == u) (uses_of j (time j) r) 0) n

  -- With operation j at time t its class would have more uses in row r than units.
  unfoldable pub overfull : Times → ℕ → ℕ → ℕ → ℕ → Bool
  overfull time n j t r = nat_lt (hw.units (hw.class j)) (in_row time n (hw.class j) r + uses k t (hw.busy j) r)

  -- The uses of operation j at time t fit beside those placed.
  abbrev pub fits : Times → ℕ → ℕ → ℕ → Bool
  fits time n j t = not (some_below (overfull time n j t) k)

  -- Operation q is of the class of j and has a use in a row that would be overfull.
  unfoldable pub crowded : Times → ℕ → ℕ → ℕ → ℕ → Bool
  crowded time n j t q = hw.class q == hw.class j && some_below (λ r. overfull time n j t r && nat_lt 0 (uses_of q (time q) r)) k

-- An edge between placed operations that is not met.
abbrev pub late : ℕ → Edge → Option ℕ → Option ℕ → Bool
late k e None b = false
late k e (Some s) None = false
late k e (Some s) (Some t) = nat_lt (t + e.distance * k) (s + e.delay)

-- Operation q is the far end of an edge of operation j that is not met.
unfoldable pub torn : ℕ → Times → ℕ → List Edge → ℕ → Bool
torn k time j [] q = false
torn k time j (e ∷ es) q =
    (((e.from == j && e.to == q) || (e.to == j && e.from == q)) && late k e (time e.from) (time e.to)) || torn k time j es q

-- Of n operations with these edges.
module _ (es : List Edge) (hw : Hardware) (n k : ℕ) where
  -- The time that operation j takes: the first of k times from early on at which it fits.
  unfoldable pub slot : State → ℕ → ℕ
  slot s j =
      let e = early k s.time j es in
      unwrap_or (first (fits hw k s.time n j) e k) (fallback (s.last j) e)

  -- Operation j placed at time t, without those that it crowds out.
  unfoldable pub joined : State → ℕ → ℕ → Times
  joined s j t = put j t (without (crowded hw k s.time n j t) s.time)

  -- And then without the far ends of its edges that are not met.
  unfoldable pub placed : State → ℕ → ℕ → State
  placed s j t = record {
    time = without (torn k (joined s j t) j es) (joined s j t);
    last = put j t s.last;
    taken = s.taken + 1;
  }

  abbrev pub with_pick : State → Option ℕ → State
  with_pick s None = s
  with_pick s (Some j) = placed s j (slot s j)

-- All of the first n are placed.
abbrev pub complete : ℕ → State → Bool
complete n s = all_below (λ j. is_some (s.time j)) n

-- How a search ends: with the times of all operations, or without; after so many steps.
pub data Outcome : Type 0 where
  found : (ℕ → ℕ) → ℕ → Outcome
  failed : ℕ → Outcome

abbrev pub times_of : State → ℕ → ℕ
times_of s j = unwrap_or (s.time j) 0

-- THE SEARCH at interval k, by the heights of the operations.
module _ (es : List Edge) (hw : Hardware) (n : ℕ) (height : ℕ → ℕ) (k : ℕ) where
  unfoldable pub step : State → State
  step s = with_pick es hw n k s (pick height s.time n)

  -- a step, and the end if all are placed then
  unfoldable pub turn : State → Outcome ⊎ State
  turn s = let after_it = step s in cond (complete n after_it) (inl (found (times_of after_it) after_it.taken)) (inr after_it)

  -- At most six steps for each operation.
  abbrev pub search : Outcome
  search = bounded turn (failed (6 * n)) (6 * n) start
