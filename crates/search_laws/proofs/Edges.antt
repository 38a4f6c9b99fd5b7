-- Edges between placed operations stay met.
use Rattle.std.proofs.Common.{◌≡◌, ℕ, Bool, true, false, cond, ◌&&◌, ◌||◌, eqb, List, [], ◌∷◌, Some, None, Option, refl, inl, inr}
use Rattle.std.specs.List.{AllByRecursion}
use Rattle.std.proofs.ByRecursion.{All-weaker}
use Rattle.std.proofs.lemmas.Bool.{cases_eq, cases_Bool, eq-eqb, ne_eqb, or_left, or_right, and_from, both_ways}
use Rattle.model.specs.declared.Edge.{Edge}
use Rattle.model.specs.Search.{Times, put, without, late, torn}

late_none : (k : ℕ) (e : Edge) (a : Option ℕ) → late k e a None ≡ false
late_none k e None = refl
late_none k e (Some s) = refl

-- Operation q is the far end of this edge of operation j, which is not met.
abbrev Torn_by : ℕ → Times → ℕ → ℕ → Edge → Bool
Torn_by k time j q e = ((eqb e.from j && eqb e.to q) || (eqb e.to j && eqb e.from q)) && late k e (time e.from) (time e.to)

torn_all : (k : ℕ) (time : Times) (j : ℕ) (es : List Edge) → AllByRecursion (λ e. (q : ℕ) → Torn_by k time j q e ≡ true → torn k time j es q ≡ true) es
unfolding torn
torn_all k time j [] = tt
torn_all k time j (e ∷ es) = ((λ q h. or_left _ _ h), All-weaker _ _ (λ x f q h. or_right _ _ (f q h)) es (torn_all k time j es))

unfoldable pub Held : ℕ → Times → List Edge → Type 0
Held k time es = AllByRecursion (λ e. late k e (time e.from) (time e.to) ≡ false) es

late_less : (k : ℕ) (e : Edge) (x y : Bool) (a b : Option ℕ) → late k e a b ≡ false → late k e (cond x None a) (cond y None b) ≡ false
late_less k e true y a b h = refl
late_less k e false true a b h = late_none k e a
late_less k e false false a b h = h

module _ (k : ℕ) (time : Times) (crowd : ℕ → Bool) (j t : ℕ) where
  abbrev then : Times
  then = put j t (without crowd time)

  one : (gone : ℕ → Bool) (e : Edge) → ((q : ℕ) → Torn_by k then j q e ≡ true → gone q ≡ true) → late k e (time e.from) (time e.to) ≡ false →
      late k e (without gone then e.from) (without gone then e.to) ≡ false
  one gone e torn_by old = elim (cases_Bool (gone e.from)) [
    | inl g ↦ rw g
    | inr f ↦ elim (cases_Bool (gone e.to)) [
      | inl g ↦ rw (f, g) (late_none k e _)
      | inr h ↦ rw (f, h) (elim (cases_Bool (late k e (then e.from) (then e.to))) [
        | inr fine ↦ fine
        | inl bad ↦ elim (cases_eq e.from j) [
          | inl z ↦ absurd (both_ways _ h (torn_by e.to (and_from _ _ (or_left _ _ (and_from _ _ (eq-eqb _ _ z) (eq-eqb e.to _ refl))) bad)))
          | inr nf ↦ elim (cases_eq e.to j) [
            | inl z ↦ absurd (both_ways _ f (torn_by e.from (and_from _ _ (or_right _ _ (and_from _ _ (eq-eqb _ _ z) (eq-eqb e.from _ refl))) bad)))
            | inr nt ↦ rw (ne_eqb _ _ nf, ne_eqb _ _ nt) (late_less k e (crowd e.from) (crowd e.to) _ _ old)
          ]
        ]
      ])
    ]
  ]

  each : (gone : ℕ → Bool) (es : List Edge) → AllByRecursion (λ e. (q : ℕ) → Torn_by k then j q e ≡ true → gone q ≡ true) es → Held k time es → Held k (without gone then) es
  unfolding Held
  each gone [] h old = tt
  each gone (e ∷ es) h old = (one gone e h.0 old.0, each gone es h.1 old.1)

  pub edges_then : (es : List Edge) → Held k time es → Held k (without (torn k then j es) then) es
  edges_then es old = each (torn k then j es) es (torn_all k then j es) old

pub held_none : (k : ℕ) (es : List Edge) → Held k (λ _. None) es
unfolding Held
held_none k [] = tt
held_none k (e ∷ es) = (refl, held_none k es)
