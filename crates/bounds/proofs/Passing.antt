-- The first operation that comes again along a walk.
use Rattle.std.proofs.Common.{◌≡◌, ℕ, ◌+◌, ◌<◌, ◌≤◌, List, None, Some, Option, length, get_or, set, replicate, sym, ap, ◌∙◌, inl, inr, add-one, arith}
use Rattle.std.proofs.lemmas.List.{get_or-set_same, get_or-set_other}
use Rattle.std.proofs.lemmas.Option.{none-some, same_Some}
use Rattle.std.proofs.lemmas.Bool.{cases_eq}
use Rattle.model.specs.declared.Edge.{Edge}
use Rattle.model.specs.Walks.{edge, Walk}
use Rattle.graph_laws.specs.Trails.{standing, NewBefore, Repeats}
use Rattle.graph_laws.proofs.Steps.{all_within}
use Rattle.graph_laws.proofs.Again.{places, next_edge, standing_within}
use Rattle.bounds.specs.declared.graph.Graph.{Graph}
use Rattle.bounds.specs.Noted.{noted}
use Rattle.bounds.specs.Passing.{Passed}
use Rattle.bounds.proofs.Marks.{no_marks}

module _ (es : List Edge) (u : ℕ) (xs : List ℕ) where
  pub none_passed : Passed es u xs (replicate 32 None) 0
  none_passed = record {
    unseen = λ v z a l. absurd (omega arith);
    placed = λ v b e. absurd (none-some b (sym (no_marks 32 v) ∙ e));
    new = λ a b ab l. absurd (omega arith);
  }

  module _ (seen : List (Option ℕ)) (n : ℕ) (p : Passed es u xs seen n) where
    pub repeats : (b : ℕ) → n ≤ length xs → noted seen (standing es u xs n) ≡ Some b → Repeats es u xs b n
    repeats b l e = let w = p.placed (standing es u xs n) b e in record { order = w.0; inside = l; same = w.1; new = p.new }

    one_new : noted seen (standing es u xs n) ≡ None → NewBefore es u xs (n + 1)
    one_new z a b ab h e = elim (cases_eq b n) [
      | inl s ↦ p.unseen (standing es u xs n) z a (omega arith) (e ∙ ap (standing es u xs) s)
      | inr m ↦ p.new a b ab (omega arith) e
    ]

    pub passes : standing es u xs n < length seen → noted seen (standing es u xs n) ≡ None → Passed es u xs (set seen (standing es u xs n) (Some n)) (n + 1)
    passes room z = record {
      unseen = λ v none a l e. elim (cases_eq v (standing es u xs n)) [
        | inl s ↦ none-some n (sym none ∙ ap (noted (set seen (standing es u xs n) (Some n))) s ∙ get_or-set_same seen (standing es u xs n) (Some n) None room)
        | inr o ↦ elim (cases_eq a n) [
          | inl t ↦ o (sym e ∙ ap (standing es u xs) t)
          | inr m ↦ p.unseen v (sym (get_or-set_other seen (standing es u xs n) v (Some n) None o) ∙ none) a (omega arith) e
        ]
      ];
      placed = λ v b e. elim (cases_eq v (standing es u xs n)) [
        | inl s ↦
            let here : n ≡ b = same_Some n b (sym (get_or-set_same seen (standing es u xs n) (Some n) None room) ∙ ap (noted (set seen (standing es u xs n) (Some n))) (sym s) ∙ e) in
            (omega (arith, here), ap (standing es u xs) (sym here) ∙ sym s)
        | inr o ↦
            let w = p.placed v b (sym (get_or-set_other seen (standing es u xs n) v (Some n) None o) ∙ e) in
            (omega (arith, w.0), w.1)
      ];
      new = one_new z;
    }

-- One more edge of a walk in a graph.
module _ (g : Graph) (u : ℕ) (xs : List ℕ) (first : u < g.count) (w : (v : ℕ) × Walk g.edges.now u xs v) where
  pub edge_there : (j : ℕ) → j < length xs → get_or xs j 0 < length g.edges.now
  edge_there j l = (next_edge g.edges.now u w.0 xs j w.1 l).0

  pub stands_next : (j : ℕ) → j < length xs → (edge g.edges.now (get_or xs j 0)).to ≡ standing g.edges.now u xs (j + 1)
  stands_next j l = rw add-one (sym (next_edge g.edges.now u w.0 xs j w.1 l).1)

  pub stands_within : (j : ℕ) → standing g.edges.now u xs j < 32
  stands_within j = omega (arith, standing_within g.edges.now g.count (all_within g.count g.edges.now g.fits.each) u w.0 xs first w.1 j, g.fits.few)

  pub comes_again : g.count ≤ length xs → NewBefore g.edges.now u xs (length xs + 1) → ⊥
  comes_again long new = absurd (omega (
    arith,
    places (standing g.edges.now u xs) (length xs + 1) g.count
        (λ a _. standing_within g.edges.now g.count (all_within g.count g.edges.now g.fits.each) u w.0 xs first w.1 a) new,
  ))
