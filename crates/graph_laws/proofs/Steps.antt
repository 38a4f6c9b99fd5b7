-- One more edge of a round.
use Rattle.std.proofs.Common.{◌≡◌, ℕ, zero, suc, ◌+◌, ◌-◌, ◌*◌, ◌<◌, ◌≤◌, max, cond, eqb, List, [], ◌∷◌, ◌++◌, length, get_or, take, set, replicate, sym, refl, ap, ◌∙◌, subst, inl, inr, mul-le-mul, add-one, arith}
use mathlib.Core.Path.{fun_ext}
use Rattle.std.specs.List.{AllByRecursion}
use Rattle.std.proofs.lemmas.List.{take_more, get_or-set_same, get_or-set_other}
use Rattle.std.proofs.ByRecursion.{All-get_or, All-weaker}
use Rattle.std.proofs.lemmas.Bool.{cases_eq, cases_lt, eq-eqb, ne_eqb}
use Rattle.model.specs.declared.Edge.{Edge}
use Rattle.model.specs.Walks.{edge, Walk, delays, distances, froms, Circuit, Within}
use Rattle.model.specs.Relaxation.{offer, round, rounds, Fixed}
use Rattle.model.specs.Minimum.{NoneAbove, Standing, RecurrenceMinimum, IsHeight}
use Rattle.graph_laws.proofs.Pigeons.{pigeons}
use Rattle.graph_laws.proofs.Cut.{change_gives_circuit}
use Rattle.graph_laws.proofs.Relaxed.{round_keeps, round_came, fixed_is_height}
use Rattle.model.specs.Limits.{EdgeFits}
use Rattle.graph_laws.specs.Trails.{value}

pub fits_at : (n : ℕ) (es : List Edge) (i : ℕ) → AllByRecursion (EdgeFits n) es → i < length es → EdgeFits n (edge es i)
fits_at n es i s l = All-get_or (EdgeFits n) es i _ l s

pub widened : (n m : ℕ) (es : List Edge) → n ≤ m → AllByRecursion (EdgeFits n) es → AllByRecursion (EdgeFits m) es
widened n m es l h = All-weaker (EdgeFits n) (EdgeFits m) (λ e f. record { from = omega (arith, f.from); to = omega (arith, f.to); delay = f.delay; distance = f.distance }) es h

pub all_within : (n : ℕ) (es : List Edge) → AllByRecursion (EdgeFits n) es → Within n es
all_within n es h = All-weaker (EdgeFits n) (λ e. (e.from < n) × (e.to < n)) (λ e f. (f.from, f.to)) es h

pub round_push : (k : ℕ) (h : ℕ → ℕ) (es : List Edge) (e : Edge) (u : ℕ) →
    round k (es ++ e ∷ []) h u ≡ cond (eqb e.from u) (max (offer k h e) (round k es h u)) (round k es h u)
unfolding round
round_push k h [] e u = refl
round_push k h (f ∷ es) e u = elim (cases_eq f.from u) [
  | inl s ↦ elim (cases_eq e.from u) [
    | inl t ↦ rw (eq-eqb _ _ s, round_push k h es e u, eq-eqb _ _ t) (omega arith)
    | inr n ↦ rw (eq-eqb _ _ s, round_push k h es e u, ne_eqb _ _ n)
  ]
  | inr m ↦ rw (ne_eqb _ _ m) (round_push k h es e u)
]

module _ (k i : ℕ) (es : List Edge) (old new : List ℕ) (l : i < length es)
    (inv : (u : ℕ) → get_or new u 0 ≡ round k (take i es) (value old) u) where
  next : (u : ℕ) → round k (take (i + 1) es) (value old) u ≡ cond (eqb (edge es i).from u) (max (offer k (value old) (edge es i)) (get_or new u 0)) (get_or new u 0)
  next u = rw (take_more es i (record { from = 0; to = 0; delay = 0; distance = 0 }) l, round_push k (value old) (take i es) (edge es i) u, inv u)

  pub raises : (v : ℕ) → (edge es i).from < length new → v ≡ offer k (value old) (edge es i) → get_or new (edge es i).from 0 < v →
      (u : ℕ) → get_or (set new (edge es i).from v) u 0 ≡ round k (take (i + 1) es) (value old) u
  raises v room is better u = elim (cases_eq (edge es i).from u) [
    | inl e ↦ rw (next u, eq-eqb _ _ e, ← e, get_or-set_same new (edge es i).from v 0 room) (omega arith)
    | inr n ↦ rw (next u, ne_eqb _ _ n) (get_or-set_other new (edge es i).from u v 0 (λ e. n (sym e)))
  ]

  pub stays : offer k (value old) (edge es i) ≤ get_or new (edge es i).from 0 → (u : ℕ) → get_or new u 0 ≡ round k (take (i + 1) es) (value old) u
  stays no_better u = elim (cases_eq (edge es i).from u) [
    | inl e ↦ rw (next u, eq-eqb _ _ e) (omega (arith, ap (λ x. get_or new x 0) e))
    | inr n ↦ rw (next u, ne_eqb _ _ n)
  ]

pub zeros : (n u : ℕ) → ◌≡◌ {A = ℕ} (get_or (replicate n 0) u 0) 0
zeros zero u = refl
zeros (suc n) zero = refl
zeros (suc n) (suc u) = zeros n u

pub loss_fits : (d k : ℕ) → d ≤ 7 → k ≤ 256 → d * k ≤ 1792
loss_fits d k hd hk = omega (arith, mul-le-mul hd hk)

-- Rounds of the code are rounds of the rules.
module _ (k r : ℕ) (es : List Edge) (old new : List ℕ) (inv : (u : ℕ) → get_or old u 0 ≡ rounds k es r u)
    (step : (u : ℕ) → get_or new u 0 ≡ round k es (value old) u) where
  pub one_more : (u : ℕ) → get_or new u 0 ≡ rounds k es (r + 1) u
  unfolding rounds
  one_more u = rw add-one (step u ∙ ap (λ h. round k es h u) (fun_ext inv))

  pub settled : ((u : ℕ) → get_or new u 0 ≡ get_or old u 0) → NoneAbove es k × ((u : ℕ) → IsHeight es k u (value old u))
  unfolding rounds
  settled same =
      let fixed : Fixed k es (rounds k es r) = λ u. ap (λ h. round k es h u) (sym (fun_ext inv)) ∙ sym (step u) ∙ same u ∙ inv u in
      let h = fixed_is_height es k r fixed in
      (h.0, λ u. rw (inv u) (h.1 u))

  pub rose : (u : ℕ) → (get_or new u 0 ≡ get_or old u 0 → ⊥) → rounds k es ((r + 1) - 1) u < rounds k es (r + 1) u
  rose u n =
      let e : (r + 1) - 1 ≡ r = omega arith in
      rw e (omega (arith, n, one_more u, inv u, step u, round_keeps k (value old) es u))

rounds_low : (k n : ℕ) (es : List Edge) → AllByRecursion (EdgeFits n) es → (r u : ℕ) → rounds k es r u ≤ 8 * r
unfolding rounds
rounds_low k n es s zero u = omega arith
rounds_low k n es s (suc r) u = elim (round_came k (rounds k es r) es u) [
  | inl e ↦ omega (arith, e, rounds_low k n es s r u)
  | inr c ↦ omega (arith, c.3, rounds_low k n es s r (edge es c.0).to, (fits_at n es c.0 s c.1).delay)
]

pub low : (k n r : ℕ) (es : List Edge) (hs : List ℕ) → AllByRecursion (EdgeFits n) es → r ≤ 32 → ((u : ℕ) → get_or hs u 0 ≡ rounds k es r u) → (u : ℕ) → get_or hs u 0 ≤ 256
low k n r es hs s h inv u = omega (arith, inv u, rounds_low k n es s r u)

pub least : (es : List Edge) (k : ℕ) → 1 ≤ k → NoneAbove es k → ((m : ℕ) → 1 ≤ m → m < k → NoneAbove es m → ⊥) → RecurrenceMinimum es k
least es k one none before = (one, none, λ m h n. elim (cases_lt m k) [ inl l ↦ absurd (before m h l n) | inr g ↦ g ])

-- An operation that the last round raised: some circuit is above.
pub above_here : (es : List Edge) (k n u : ℕ) → Within n es → 0 < n → rounds k es (n - 1) u < rounds k es n u → NoneAbove es k → ⊥
above_here es k zero u inside some better none = absurd (omega arith)
above_here es k (suc r) u inside some better none =
    let e : suc r - 1 ≡ r = omega arith in
    let c = change_gives_circuit es k (suc r) inside r u (omega arith) (rw e at better) in
    omega (arith, c.3, none c.0 c.1)

-- And the circuit.
pub circuit_here : (es : List Edge) (k n u : ℕ) → Within n es → 0 < n → rounds k es (n - 1) u < rounds k es n u → (xs : List ℕ) × Circuit es xs × (distances es xs * k < delays es xs)
circuit_here es k n u inside some better =
    let e : suc (n - 1) ≡ n = omega arith in
    let c = change_gives_circuit es k n inside (n - 1) u (omega arith) (subst (λ m. rounds k es (n - 1) u < rounds k es m u) (sym e) better) in
    (c.0, c.1, c.3)

-- The same at 256, which is more than the delays of a simple circuit: some circuit has no distance.
module _ (es : List Edge) (n : ℕ) (fit : AllByRecursion (EdgeFits n) es) where
  delays_most : (u v : ℕ) (xs : List ℕ) → Walk es u xs v → delays es xs ≤ 8 * length xs
  delays_most u v [] w = omega arith
  delays_most u v (x ∷ xs) w = omega (arith, (fits_at n es x fit w.0).delay, delays_most (edge es x).to v xs w.2)

  froms_below : (u v : ℕ) (xs : List ℕ) → Walk es u xs v → AllByRecursion (λ y. y < n) (froms es xs)
  froms_below u v [] w = tt
  froms_below u v (x ∷ xs) w = ((fits_at n es x fit w.0).from, froms_below (edge es x).to v xs w.2)

  length_froms : (xs : List ℕ) → length (froms es xs) ≡ length xs
  length_froms [] = refl
  length_froms (x ∷ xs) = ap suc (length_froms xs)

  pub stands_still : (u : ℕ) → 0 < n → n ≤ 32 → rounds 256 es (n - 1) u < rounds 256 es n u → Standing es
  stands_still u some few better =
      let e : suc (n - 1) ≡ n = omega arith in
      let c = change_gives_circuit es 256 n (all_within n es fit) (n - 1) u (omega arith) (subst (λ m. rounds 256 es (n - 1) u < rounds 256 es m u) (sym e) better) in
      let xs : List ℕ = c.0 in
      let most : delays es xs ≤ 256 = omega (
        arith,
        delays_most c.1.1.0 c.1.1.0 xs c.1.1.1,
        pigeons n (froms es xs) c.2 (froms_below c.1.1.0 c.1.1.0 xs c.1.1.1),
        length_froms xs,
      ) in
      (xs, c.1, omega (arith, c.3), omega (arith, c.3))
