-- Relaxation: what a round does, walks of at most r edges, and the fixed point.
use Rattle.std.proofs.Common.{◌≡◌, ℕ, zero, suc, ◌+◌, ◌*◌, ◌<◌, ◌≤◌, max, ◌⊎◌, List, [], ◌∷◌, length, refl, ap, inl, inr, add-mul, arith}
use Rattle.std.proofs.lemmas.Bool.{cases_eq, cases_lt, eq-eqb, ne_eqb}
use Rattle.model.specs.declared.Edge.{Edge}
use Rattle.model.specs.Walks.{edge, Walk, delays, distances}
use Rattle.model.specs.Relaxation.{offer, round, rounds, Fixed}
use Rattle.model.specs.GraphLaws.{FixedIsHeight}

module _ (k : ℕ) (h : ℕ → ℕ) where
  pub round_keeps : (es : List Edge) (u : ℕ) → h u ≤ round k es h u
  unfolding round
  round_keeps [] u = omega arith
  round_keeps (e ∷ es) u = elim (cases_eq e.from u) [
    | inl s ↦ rw (eq-eqb _ _ s) (omega (arith, round_keeps es u))
    | inr n ↦ rw (ne_eqb _ _ n) (round_keeps es u)
  ]

  -- every edge's offer is taken up
  pub round_takes : (es : List Edge) (x : ℕ) → x < length es → (u : ℕ) → (edge es x).from ≡ u → offer k h (edge es x) ≤ round k es h u
  unfolding round
  round_takes [] x l u s = absurd (omega arith)
  round_takes (e ∷ es) zero l u s = rw (eq-eqb _ _ s) (omega arith)
  round_takes (e ∷ es) (suc x) l u s = elim (cases_eq e.from u) [
    | inl t ↦ rw (eq-eqb _ _ t) (omega (arith, round_takes es x (omega arith) u s))
    | inr n ↦ rw (ne_eqb _ _ n) (round_takes es x (omega arith) u s)
  ]

  -- a value is the old one, or the offer of an edge that is better
  abbrev pub Came : List Edge → ℕ → ℕ → Type 0
  Came es u v = (v ≡ h u) ⊎ ((x : ℕ) × (x < length es) × ((edge es x).from ≡ u) × (v ≡ offer k h (edge es x)) × (h u < v))

  later : (e : Edge) (es : List Edge) (u v : ℕ) → Came es u v → Came (e ∷ es) u v
  later e es u v (inl s) = inl s
  later e es u v (inr c) = inr (suc c.0, omega (arith, c.1), c.2, c.3, c.4)

  pub round_came : (es : List Edge) (u : ℕ) → Came es u (round k es h u)
  unfolding round
  round_came [] u = inl refl
  round_came (e ∷ es) u = elim (cases_eq e.from u) [
    | inl s ↦ rw (eq-eqb _ _ s) (elim (cases_lt (round k es h u) (offer k h e)) [
      | inl l ↦
          let is : max (offer k h e) (round k es h u) ≡ offer k h e = omega arith in
          rw is (inr (0, omega arith, s, refl, omega (arith, round_keeps es u)))
      | inr g ↦
          let is : max (offer k h e) (round k es h u) ≡ round k es h u = omega arith in
          rw is (later e es u _ (round_came es u))
    ])
    | inr n ↦ rw (ne_eqb _ _ n) (later e es u _ (round_came es u))
  ]

-- One more edge at the front.
more : (es : List Edge) (k x : ℕ) (xs : List ℕ) → distances es (x ∷ xs) * k ≡ (edge es x).distance * k + distances es xs * k
more es k x xs = add-mul (edge es x).distance (distances es xs) k

-- What no edge's offer exceeds bounds every walk.
module _ (es : List Edge) (k : ℕ) where
  pub walk_below : (h : ℕ → ℕ) → Fixed k es h → (u v : ℕ) (xs : List ℕ) → Walk es u xs v → delays es xs + h v ≤ h u + distances es xs * k
  walk_below h fixed u v [] w = omega (arith, ap h w)
  walk_below h fixed u v (x ∷ xs) w = omega (
    arith,
    more es k x xs,
    walk_below h fixed (edge es x).to v xs w.2,
    round_takes k h es x w.0 u w.1,
    fixed u,
  )

  -- a walk of at most r edges
  pub short_below : (r u v : ℕ) (xs : List ℕ) → Walk es u xs v → length xs ≤ r → delays es xs ≤ rounds k es r u + distances es xs * k
  unfolding rounds
  short_below r u v [] w l = omega arith
  short_below zero u v (x ∷ xs) w l = absurd (omega arith)
  short_below (suc r) u v (x ∷ xs) w l = omega (
    arith,
    more es k x xs,
    short_below r (edge es x).to v xs w.2 (omega arith),
    round_takes k (rounds k es r) es x w.0 u w.1,
  )

  -- Each value is the sum of a walk.
  pub record Attained (r u value : ℕ) : Type 0 where
    pub end : ℕ
    pub best : List ℕ
    pub walk : Walk es u best end
    pub short : length best ≤ r
    pub sum : delays es best ≡ value + distances es best * k

  pub attained : (r u : ℕ) → Attained r u (rounds k es r u)
  unfolding rounds
  attained zero u = record { end = u; best = []; walk = refl; short = omega arith; sum = omega arith }
  attained (suc r) u = elim (round_came k (rounds k es r) es u) [
    | inl s ↦ let a = attained r u in record { end = a.end; best = a.best; walk = a.walk; short = omega (arith, a.short); sum = omega (arith, a.sum, s) }
    | inr c ↦ let a = attained r (edge es c.0).to in record {
      end = a.end;
      best = c.0 ∷ a.best;
      walk = (c.1, c.2, a.walk);
      short = omega (arith, a.short);
      sum = omega (arith, more es k c.0 a.best, a.sum, c.3, c.4);
    }
  ]

pub fixed_is_height : FixedIsHeight
fixed_is_height es k r fixed = (
  (λ xs c. omega (arith, walk_below es k (rounds k es r) fixed c.1.0 c.1.0 xs c.1.1)),
  λ u. let a = attained es k r u in record {
    bound = λ v xs w. omega (arith, walk_below es k (rounds k es r) fixed u v xs w);
    end = a.end;
    best = a.best;
    walk = a.walk;
    attained = a.sum;
  },
)
