-- A round trip of the best walk, turned to begin with its lowest operation, is a witness.
use Rattle.std.proofs.Common.{◌≡◌, ℕ, ◌+◌, ◌-◌, ◌<◌, ◌≤◌, List, ◌++◌, length, get_or, take, drop, sym, ap, ap₂, ◌∙◌, subst, arith}
use Rattle.std.specs.List.{All}
use Rattle.std.proofs.lemmas.Grind.{get_or_default_zero}
use Rattle.std.proofs.lemmas.List.{length-take-le, length-drop, take_all, drop-drop, drop-take, take-take, get_or-take, get_or-drop}
use Rattle.model.specs.Walks.{edge}
use Rattle.model.specs.Minimum.{CircuitWitness}
use Rattle.model.specs.Relaxation.{rounds}
use Rattle.graph_laws.specs.Trails.{BestWalk, Repeats}
use Rattle.graph_laws.proofs.Again.{next_edge}
use Rattle.graph_laws.proofs.Whole.{exact_length, witness}
use Rattle.bounds.specs.declared.graph.Relaxation.{Relaxation}
use Rattle.bounds.specs.Passing.{RoundTrip}

module _ (g : Relaxation) (u : ℕ) (xs : List ℕ) (b : BestWalk g.graph.edges.now g.interval g.graph.count u xs)
    (better : rounds g.interval g.graph.edges.now (g.graph.count - 1) u < rounds g.interval g.graph.edges.now g.graph.count u) where
  pub long_enough : g.graph.count ≤ length xs
  long_enough = exact_length g.graph.edges.now g.interval g.graph.count u xs g.graph.fits.some b better

  module _ (ys : List ℕ) (trip : RoundTrip g.graph.edges.now u xs ys) where
    size : length ys ≡ trip.1 - trip.0
    size = ap length trip.3 ∙ length-take-le (trip.1 - trip.0) (drop trip.0 xs) (omega (arith, length-drop trip.0 xs, trip.2.inside))

    at : (t d : ℕ) → t < length ys → get_or ys t d ≡ get_or xs (trip.0 + t) d
    at t d l = ap (λ zs. get_or zs t d) trip.3 ∙ get_or-take (trip.1 - trip.0) (drop trip.0 xs) t d (omega (arith, size)) ∙ get_or-drop trip.0 xs t d

    pub edges_there : All (λ x. x < length g.graph.edges.now) ys
    edges_there t d l =
        let inside : trip.0 + t < length xs = omega (arith, size, trip.2.inside, l) in
        omega (arith, at t d l, get_or_default_zero xs (trip.0 + t) d inside, (next_edge g.graph.edges.now u b.end xs (trip.0 + t) b.walk inside).0)

    pub turned : (low : ℕ) → low < length ys → ((t : ℕ) → t < length ys → (edge g.graph.edges.now (get_or ys low 0)).from ≤ (edge g.graph.edges.now (get_or ys t 0)).from) →
        CircuitWitness g.graph.edges.now (g.interval + 1) (drop low ys ++ take low ys)
    turned low l least =
        let i : ℕ = trip.0 in
        let j : ℕ = trip.1 in
        let whole : take (length xs) xs ≡ xs = take_all (length xs) xs (omega arith) in
        let from : ℕ → ℕ = λ t. (edge g.graph.edges.now (get_or xs t 0)).from in
        let lowest : (t : ℕ) → i ≤ t → t < j → from (i + low) ≤ from t = λ t after before.
        let e : i + (t - i) ≡ t = omega arith in
        omega (
          arith,
          least (t - i) (omega (arith, size)),
          ap (λ x. (edge g.graph.edges.now x).from) (at low 0 l),
          ap (λ x. (edge g.graph.edges.now x).from) (at (t - i) 0 (omega (arith, size)) ∙ ap (λ n. get_or xs n 0) e),
        ) in
        let w : CircuitWitness g.graph.edges.now (g.interval + 1) (take (j - (i + low)) (drop (i + low) xs) ++ take ((i + low) - i) (drop i xs)) =
        witness g.graph.edges.now g.interval g.graph.count u (length xs) i j (i + low) xs g.graph.fits.some
        (subst (BestWalk g.graph.edges.now g.interval g.graph.count u) (sym whole) b) better
        (subst (λ zs. Repeats g.graph.edges.now u zs i j) (sym whole) trip.2) (omega arith) (omega arith) (omega (arith, size, l)) lowest in
        let back : drop low ys ≡ take (j - (i + low)) (drop (i + low) xs) =
        let e : low + (j - (i + low)) ≡ j - i = omega (arith, size, l) in
        ap (drop low) trip.3 ∙ ap (λ n. drop low (take n (drop i xs))) (sym e) ∙ drop-take low (j - (i + low)) (drop i xs) ∙ ap (take (j - (i + low))) (drop-drop low i xs) in
        let front : take low ys ≡ take ((i + low) - i) (drop i xs) =
        let e : low ≡ (i + low) - i = omega arith in
        ap (take low) trip.3 ∙ take-take low (j - i) (drop i xs) (omega (arith, size, l)) ∙ ap (λ n. take n (drop i xs)) e in
        subst (CircuitWitness g.graph.edges.now (g.interval + 1)) (sym (ap₂ ◌++◌ back front)) w
