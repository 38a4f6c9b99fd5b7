-- Picks, windows and steps as the definition has them.
use Rattle.std.proofs.Common.{◌≡◌, ℕ, zero, suc, ◌+◌, ◌-◌, ◌*◌, ◌<◌, ◌≤◌, Bool, true, false, cond, eqb, ltb, ◌⊎◌, List, get_or, is_some, Some, None, Option, unwrap_or, sym, refl, ap, ◌∙◌, subst, ap₂, inl, inr, add-one, arith}
use mathlib.Core.Path.{fun_ext}
use Rattle.std.proofs.lemmas.Bool.{cases_eq, cases_lt, cases_Bool, lt-ltb, le-ltb, and_left, and_right, and_from, false≢true}
use Rattle.std.proofs.lemmas.Nat.{mul-le}
use Rattle.model.specs.Loop.{Hardware}
use Rattle.model.specs.declared.Edge.{Edge}
use Rattle.model.specs.Search.{all_below, first, next, bounded, Times, put, without, State, start, better, pick, early, fallback, fits, crowded, torn, slot, joined, placed, with_pick, complete, found, failed, times_of, step, turn, search}
use Rattle.search_laws.specs.Bounded.{Under, Short, Roomy}
use Rattle.search_laws.specs.Counts.{Put, Unmarked, Low}
use Rattle.search_laws.proofs.Bounds.{slot_under}
use Rattle.search_laws.proofs.Sound.{Kept, step_keeps, start_kept}

pub pick_placed : (height : ℕ → ℕ) (time : Times) (j : ℕ) → is_some (time j) ≡ true → pick height time (j + 1) ≡ pick height time j
unfolding pick
pick_placed height time j e = rw (add-one, e)

pub pick_open : (height : ℕ → ℕ) (time : Times) (j : ℕ) → is_some (time j) ≡ false → pick height time (j + 1) ≡ better height (pick height time j) j
unfolding pick
pick_open height time j e = rw (add-one, e)

pub pick_none : (height : ℕ → ℕ) (time : Times) → None ≡ pick height time 0
unfolding pick
pick_none height time = refl

pub pick_step_open : (height : ℕ → ℕ) (time : Times) (j : ℕ) (best later new at : Option ℕ) → best ≡ pick height time j → at ≡ time j → is_some at ≡ false →
    later ≡ better height best j → new ≡ later → Under (j + 1) later → (new ≡ pick height time (j + 1)) × Under (j + 1) new
pick_step_open height time j best later new at inv is unplaced it same below =
    ((same ∙ it) ∙ (ap (λ b. better height b j) inv ∙ sym (pick_open height time j (sym (ap is_some is) ∙ unplaced))), rw same below)

in_range_more : (j : ℕ) (o : Option ℕ) → Under j o → Under (j + 1) o
in_range_more j None h = tt
in_range_more j (Some x) h = omega arith

pub pick_step_placed : (height : ℕ → ℕ) (time : Times) (j : ℕ) (best new at : Option ℕ) → best ≡ pick height time j → at ≡ time j → is_some at ≡ true →
    new ≡ best → Under j best → (new ≡ pick height time (j + 1)) × Under (j + 1) new
pick_step_placed height time j best new at inv is placed same below =
    (same ∙ (inv ∙ sym (pick_placed height time j (sym (ap is_some is) ∙ placed))), rw same (in_range_more j best below))

-- the window: what is left of it from t on answers `all`
pub first_hit : (p : ℕ → Bool) (t m : ℕ) (all : Option ℕ) → first p t m ≡ all → true ≡ p t → 0 < m → Some t ≡ all
first_hit p t zero all inv e h = absurd (omega arith)
first_hit p t (suc m) all inv e h = rw (← e) at inv

pub first_miss : (p : ℕ → Bool) (t m n : ℕ) (all : Option ℕ) → first p t m ≡ all → false ≡ p t → 0 < m → n ≡ m - 1 → first p (t + 1) n ≡ all
first_miss p t zero n all inv e h en = absurd (omega arith)
first_miss p t (suc m) n all inv e h en =
    let same : n ≡ m = omega arith in
    rw (same, add-one) (rw (← e) at inv)

pub first_end : (p : ℕ → Bool) (t m : ℕ) (all : Option ℕ) → first p t m ≡ all → m ≡ 0 → None ≡ all
first_end p t zero all inv e = inv
first_end p t (suc m) all inv e = absurd (omega arith)

-- tests that agree in the window find the same
pub first_same : (p q : ℕ → Bool) (from m : ℕ) → ((t : ℕ) → from ≤ t → t < from + m → p t ≡ q t) → first p from m ≡ first q from m
first_same p q from zero h = refl
first_same p q from (suc m) h = rw (h from (omega arith) (omega arith), first_same p q (suc from) m (λ t a b. h t (omega arith) (omega arith)))

-- what is picked is not placed
abbrev Free : Times → Option ℕ → Type 0
Free time None = Unit {0}
Free time (Some j) = is_some (time j) ≡ false

better_free : (height : ℕ → ℕ) (time : Times) (o : Option ℕ) (j : ℕ) → Free time o → is_some (time j) ≡ false → Free time (better height o j)
better_free height time None j h e = e
better_free height time (Some b) j h e = elim (cases_Bool (ltb (height b) (height j))) [ inl t ↦ rw t e | inr t ↦ rw t h ]

picked_free : (height : ℕ → ℕ) (time : Times) (n : ℕ) → Free time (pick height time n)
unfolding pick
picked_free height time zero = tt
picked_free height time (suc n) = elim (cases_Bool (is_some (time n))) [
  | inl e ↦ rw e (picked_free height time n)
  | inr e ↦ rw e (better_free height time (pick height time n) n (picked_free height time n) e)
]

none_is : (o : Option ℕ) → is_some o ≡ false → o ≡ None
none_is None h = refl
none_is (Some x) h = absurd (false≢true (sym h))

pub pick_free : (height : ℕ → ℕ) (time : Times) (n j : ℕ) (o : Option ℕ) → o ≡ pick height time n → o ≡ Some j → time j ≡ None
pick_free height time n j o e some = none_is (time j) (subst (Free time) (sym e ∙ some) (picked_free height time n))

-- a time fits its type
pub slot_fits : (es : List Edge) (hw : Hardware) (n k : ℕ) (s : State) (j t : ℕ) → Short es → k ≤ 256 → s.taken < 192 → Low s.time s.last s.taken k →
    t ≡ slot es hw n k s j → t < 65536
slot_fits es hw n k s j t short small few low is =
    let under = slot_under es hw n k s j (s.taken * (k + 8)) short low.times (low.lasts j) in
    let most : s.taken * (k + 8) ≤ 191 * 264 = mul-le s.taken (k + 8) 191 264 (omega arith) (omega arith) in
    omega arith

-- all placed
pub all_more : (p : ℕ → Bool) (n : ℕ) → p n ≡ true → all_below p n ≡ true → all_below p (n + 1) ≡ true
all_more p n e h = rw add-one (and_from _ _ e h)

pub all_fails : (p : ℕ → Bool) (q n : ℕ) → p q ≡ false → q < n → false ≡ all_below p n
all_fails p q zero e h = absurd (omega arith)
all_fails p q (suc n) e h = elim (cases_eq q n) [
  | inl z ↦ sym (and_left _ _ (rw z at e))
  | inr z ↦ sym (and_right _ _ (sym (all_fails p q n e (omega arith))))
]

-- a search that is to answer `all`, at a step that answers and at one that goes on
ends : {S R : Type 0} (go : S → R ⊎ S) (out : R) (n : ℕ) (s : S) (r all : R) → bounded go out n s ≡ all → inl r ≡ go s → 0 < n → r ≡ all
ends go out zero s r all inv e pos = absurd (omega arith)
ends go out (suc n) s r all inv e pos = ap (λ x. next x (bounded go out n)) e ∙ inv

goes : {S R : Type 0} (go : S → R ⊎ S) (out : R) (n m : ℕ) (s t : S) (all : R) → bounded go out n s ≡ all → inr t ≡ go s → 0 < n → m ≡ n - 1 → bounded go out m t ≡ all
goes go out zero m s t all inv e pos em = absurd (omega arith)
goes go out (suc n) m s t all inv e pos em = let same : m ≡ n = omega arith in rw same (ap (λ x. next x (bounded go out n)) e ∙ inv)

none_either : (b : Bool) (o : Option ℕ) → o ≡ None → cond b None o ≡ None
none_either true o h = refl
none_either false o h = h

-- those that are marked are gone
pub unmarked_is : (marks : List Bool) (n : ℕ) (before now : Times) (gone : ℕ → Bool) → Unmarked marks n before now → ((q : ℕ) → q < n → get_or marks q false ≡ gone q) →
    ((q : ℕ) → n ≤ q → before q ≡ None) → (q : ℕ) → now q ≡ without gone before q
unmarked_is marks n before now gone is same beyond q = elim (cases_lt q n) [
  | inl l ↦ is q ∙ rw (lt-ltb q n l, same q l)
  | inr g ↦ is q ∙ (rw (le-ltb q n g) (beyond q g) ∙ sym (none_either (gone q) (before q) (beyond q g)))
]

pub stays_none : (marks : List Bool) (n : ℕ) (before now : Times) (j : ℕ) → Unmarked marks n before now → before j ≡ None → now j ≡ None
stays_none marks n before now j is none = is j ∙ none_either _ _ none

abbrev pub state : Times → Times → ℕ → State
state time last taken = record { time = time; last = last; taken = taken }

module _ (es : List Edge) (hw : Hardware) (n k : ℕ) where
  -- an operation placed, in four parts
  pub placed_is : (j t : ℕ) (t₀ t₁ t₂ t₃ last last' : Times) (taken taken' : ℕ) →
      ((q : ℕ) → t₁ q ≡ without (crowded hw k t₀ n j t) t₀ q) → Put j t t₁ t₂ → ((q : ℕ) → t₃ q ≡ without (torn k t₂ j es) t₂ q) →
      Put j t last last' → taken' ≡ taken + 1 →
      state t₃ last' taken' ≡ placed es hw n k (state t₀ last taken) j t
  unfolding placed joined
  placed_is j t t₀ t₁ t₂ t₃ last last' taken taken' one two three lasts steps =
      let there : t₂ ≡ put j t (without (crowded hw k t₀ n j t) t₀) = fun_ext (λ q. two q ∙ ap (λ o. cond (eqb q j) (Some t) o) (one q)) in
      let time : t₃ ≡ without (torn k (put j t (without (crowded hw k t₀ n j t) t₀)) j es) (put j t (without (crowded hw k t₀ n j t) t₀)) =
      fun_ext three ∙ ap (λ T. without (torn k T j es) T) there in
      let past : last' ≡ put j t last = fun_ext lasts in
      λ i. record { time = time i; last = past i; taken = steps i }

  -- the time that is taken
  pub slot_is : (s : State) (j from : ℕ) (win : Option ℕ) → from ≡ early k s.time j es → win ≡ first (fits hw k s.time n j) from k →
      unwrap_or win (fallback (s.last j) from) ≡ slot es hw n k s j
  unfolding slot
  slot_is s j from win from_is e =
      ap (λ w. unwrap_or w (fallback (s.last j) from)) e ∙
      ap (λ x. unwrap_or (first (fits hw k s.time n j) x k) (fallback (s.last j) x)) from_is

  module _ (height : ℕ → ℕ) where
    pub step_some : (s s' : State) (o : Option ℕ) (j t : ℕ) → o ≡ pick height s.time n → o ≡ Some j → t ≡ slot es hw n k s j → s' ≡ placed es hw n k s j t → s' ≡ step es hw n height k s
    unfolding step
    step_some s s' o j t e some at is = is ∙ (ap (placed es hw n k s j) at ∙ ap (with_pick es hw n k s) (sym some ∙ e))

    pub step_none : (s : State) (o : Option ℕ) → o ≡ pick height s.time n → o ≡ None → s ≡ step es hw n height k s
    unfolding step
    step_none s o e none = ap (with_pick es hw n k s) (sym none ∙ e)

    module _ (s s' : State) (is : s' ≡ step es hw n height k s) where
      turn_found : true ≡ complete n s' → inl (found (times_of s') s'.taken) ≡ turn es hw n height k s
      unfolding turn
      turn_found e =
          let here : cond (complete n s') (inl (found (times_of s') s'.taken)) (inr s') ≡ inl (found (times_of s') s'.taken) = rw (← e) in
          sym here ∙ ap (λ x. cond (complete n x) (inl (found (times_of x) x.taken)) (inr x)) is

      turn_on : false ≡ complete n s' → inr s' ≡ turn es hw n height k s
      unfolding turn
      turn_on e =
          let here : cond (complete n s') (inl (found (times_of s') s'.taken)) (inr s') ≡ inr s' = rw (← e) in
          sym here ∙ ap (λ x. cond (complete n x) (inl (found (times_of x) x.taken)) (inr x)) is

-- A search under way, with so many steps left.
pub record Going (es : List Edge) (hw : Hardware) (n : ℕ) (height : ℕ → ℕ) (k : ℕ) (s : State) (left : ℕ) : Type 0 where
  pub answer : bounded (turn es hw n height k) (failed (6 * n)) left s ≡ search es hw n height k
  pub kept : Kept es hw n k s
  pub enough : s.taken + left ≤ 6 * n

module _ (es : List Edge) (hw : Hardware) (n : ℕ) (height : ℕ → ℕ) (k : ℕ) where
  pub going_start : (s : State) (left : ℕ) → ((q : ℕ) → s.time q ≡ None) → ((q : ℕ) → s.last q ≡ None) → s.taken ≡ 0 → left ≡ 6 * n → Going es hw n height k s left
  going_start s left no_times no_lasts none el =
      let begin : s ≡ start = λ i. record { time = fun_ext no_times i; last = fun_ext no_lasts i; taken = none i } in
      record {
        answer = ap₂ (λ m x. bounded (turn es hw n height k) (failed (6 * n)) m x) el begin;
        kept = subst (Kept es hw n k) (sym begin) (start_kept es hw n k);
        enough = omega arith;
      }

  module _ (s : State) (left : ℕ) (going : Going es hw n height k s left) where
    pub going_low : Low s.time s.last s.taken k
    going_low = record { times = going.kept.times; lasts = going.kept.lasts }

    pub going_out : left ≡ 0 → failed (6 * n) ≡ search es hw n height k
    going_out none = ap (λ m. bounded (turn es hw n height k) (failed (6 * n)) m s) (sym none) ∙ going.answer

    module _ (short : Short es) (roomy : Roomy hw n k) (s' : State) (is : s' ≡ step es hw n height k s) (some : 0 < left) where
      pub going_found : true ≡ complete n s' → found (times_of s') s'.taken ≡ search es hw n height k
      going_found e = ends (turn es hw n height k) _ left s _ _ going.answer (turn_found es hw n k height s s' is e) some

      pub going_on : (left' : ℕ) → false ≡ complete n s' → left' ≡ left - 1 → Going es hw n height k s' left'
      going_on left' e el =
          let later = step_keeps es hw n height k short roomy s going.kept in
          let count : s'.taken ≡ (step es hw n height k s).taken = ap (λ x. x.taken) is in
          record {
            answer = goes (turn es hw n height k) _ left left' s s' _ going.answer (turn_on es hw n k height s s' is e) some el;
            kept = subst (Kept es hw n k) (sym is) later.0;
            enough = omega (arith, later.1, count, going.enough);
          }
