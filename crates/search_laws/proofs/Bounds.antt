-- Times stay bounded.
use Rattle.std.proofs.Common.{◌≡◌, ℕ, zero, suc, ◌+◌, ◌<◌, ◌≤◌, Bool, true, false, cond, not, ◌&&◌, eqb, ltb, List, [], ◌∷◌, is_some, Some, None, Option, unwrap_or, inl, inr, arith}
use Rattle.std.specs.List.{AllByRecursion}
use Rattle.std.proofs.lemmas.Bool.{cases_lt, cases_eq, cases_Bool, lt-ltb, le-ltb, both_ways}
use Rattle.model.specs.Loop.{Hardware}
use Rattle.model.specs.declared.Edge.{Edge}
use Rattle.model.specs.Search.{first, Times, State, better, pick, after, early, fallback, fits, slot}
use Rattle.model.specs.SearchLaws.{Picked}
use Rattle.search_laws.specs.Bounded.{Under, Short}

pub under_more : (b c : ℕ) (o : Option ℕ) → b ≤ c → Under b o → Under c o
under_more b c None l h = tt
under_more b c (Some t) l h = omega arith

pub under_without : (b : ℕ) (gone : Bool) (o : Option ℕ) → Under b o → Under b (cond gone None o)
under_without b true o h = tt
under_without b false o h = h

pub under_put : (b : ℕ) (here : Bool) (t : ℕ) (o : Option ℕ) → t < b → Under b o → Under b (cond here (Some t) o)
under_put b true t o l h = l
under_put b false t o l h = h

-- what is picked is an operation
better_below : (height : ℕ → ℕ) (n j : ℕ) (o : Option ℕ) → j < n → Under n o → Under n (better height o j)
better_below height n j None l h = l
better_below height n j (Some b) l h = elim (cases_Bool (ltb (height b) (height j))) [ inl e ↦ rw e l | inr e ↦ rw e h ]

pub pick_below : (height : ℕ → ℕ) (time : Times) (n : ℕ) → Under n (pick height time n)
unfolding pick
pick_below height time zero = tt
pick_below height time (suc j) =
    let before : Under (suc j) (pick height time j) = under_more j (suc j) (pick height time j) (omega arith) (pick_below height time j) in
    elim (cases_Bool (is_some (time j))) [ inl e ↦ rw e before | inr e ↦ rw e (better_below height (suc j) j (pick height time j) (omega arith) before) ]

after_under : (k b : ℕ) (e : Edge) (o : Option ℕ) → e.delay ≤ 8 → Under b o → after k e o < b + 8
after_under k b e None d h = omega arith
after_under k b e (Some t) d h = omega arith

chosen_under : (x : Bool) (a c : ℕ) → a < c → cond x a 0 < c
chosen_under true a c h = h
chosen_under false a c h = omega arith

pub early_under : (k b : ℕ) (time : Times) (j : ℕ) (es : List Edge) → AllByRecursion (λ e. e.delay ≤ 8) es → ((q : ℕ) → Under b (time q)) → early k time j es < b + 8
unfolding early
early_under k b time j [] short h = omega arith
early_under k b time j (e ∷ es) short h =
    omega (
      arith,
      chosen_under (eqb e.to j && not (eqb e.from j)) (after k e (time e.from)) (b + 8) (after_under k b e (time e.from) short.0 (h e.from)),
      early_under k b time j es short.1 h,
    )

pub first_under : (p : ℕ → Bool) (from m : ℕ) → Under (from + m) (first p from m)
first_under p from zero = tt
first_under p from (suc m) = elim (cases_Bool (p from)) [
  | inl e ↦ rw e (omega arith)
  | inr e ↦ rw e (under_more (suc from + m) (from + suc m) (first p (suc from) m) (omega arith) (first_under p (suc from) m))
]

fallback_under : (b : ℕ) (o : Option ℕ) (e : ℕ) → Under b o → e < b + 8 → fallback o e < b + 8
fallback_under b None e h l = l
fallback_under b (Some last) e h l = elim (cases_Bool (ltb last e)) [ inl t ↦ rw t l | inr t ↦ rw t (omega arith) ]

or_under : (c : ℕ) (o : Option ℕ) (d : ℕ) → Under c o → d < c → unwrap_or o d < c
or_under c None d h l = l
or_under c (Some t) d h l = h

pub slot_under : (es : List Edge) (hw : Hardware) (n k : ℕ) (s : State) (j b : ℕ) → Short es → ((q : ℕ) → Under b (s.time q)) → Under b (s.last j) →
    slot es hw n k s j < b + (k + 8)
unfolding slot
slot_under es hw n k s j b short time last =
    let e : ℕ = early k s.time j es in
    let le : e < b + 8 = early_under k b s.time j es short time in
    let window = first_under (fits hw k s.time n j) e k in
    or_under (b + (k + 8)) _ _ (under_more (e + k) (b + (k + 8)) _ (omega arith) window) (omega (arith, fallback_under b (s.last j) e last le))

-- what is picked
better_picked : (height : ℕ → ℕ) (time : Times) (n : ℕ) (o : Option ℕ) → is_some (time n) ≡ false → Picked height time n o → Picked height time (suc n) (better height o n)
better_picked height time n None e h = (
  omega arith,
  e,
  λ i l f. elim (cases_eq i n) [
    | inl z ↦ rw z (omega arith, λ k. absurd (omega arith))
    | inr z ↦ absurd (both_ways _ f (h i (omega arith)))
  ],
)
better_picked height time n (Some b) e h = elim (cases_lt (height b) (height n)) [
  | inl l ↦ rw (lt-ltb _ _ l) (
    omega arith,
    e,
    λ i k f. elim (cases_eq i n) [
      | inl z ↦ rw z (omega arith, λ m. absurd (omega arith))
      | inr z ↦ let it = h.2 i (omega arith) f in (omega (arith, it.0), λ _. omega (arith, it.0))
    ],
  )
  | inr g ↦ rw (le-ltb _ _ g) (
    omega (arith, h.0),
    h.1,
    λ i k f. elim (cases_eq i n) [
      | inl z ↦ rw z (g, λ m. absurd (omega (arith, h.0)))
      | inr z ↦ h.2 i (omega arith) f
    ],
  )
]

placed_picked : (height : ℕ → ℕ) (time : Times) (n : ℕ) (o : Option ℕ) → is_some (time n) ≡ true → Picked height time n o → Picked height time (suc n) o
placed_picked height time n None e h = λ i l. elim (cases_eq i n) [ inl z ↦ rw z e | inr z ↦ h i (omega arith) ]
placed_picked height time n (Some j) e h = (
  omega (arith, h.0),
  h.1,
  λ i l f. elim (cases_eq i n) [
    | inl z ↦ absurd (both_ways _ (rw z at f) e)
    | inr z ↦ h.2 i (omega arith) f
  ],
)

pub pick_highest : (height : ℕ → ℕ) (time : Times) (n : ℕ) → Picked height time n (pick height time n)
unfolding pick
pick_highest height time zero = λ i h. absurd (omega arith)
pick_highest height time (suc n) = elim (cases_Bool (is_some (time n))) [
  | inl e ↦ rw e (placed_picked height time n (pick height time n) e (pick_highest height time n))
  | inr e ↦ rw e (better_picked height time n (pick height time n) e (pick_highest height time n))
]
