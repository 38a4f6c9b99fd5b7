-- The walk that the rounds stand for, edge by edge.
use Rattle.std.proofs.Common.{◌≡◌, ℕ, suc, ◌+◌, ◌*◌, ◌<◌, ◌≤◌, List, [], ◌∷◌, ◌++◌, Some, None, Option, length, refl, ap, subst, add-mul, arith}
use Rattle.std.proofs.lemmas.List.{length-append}
use Rattle.model.specs.Walks.{edge, distances}
use Rattle.model.specs.Relaxation.{rounds}
use Rattle.graph_laws.proofs.Cut.{delays_append, distances_append, walk_append}
use Rattle.graph_laws.proofs.Steps.{fits_at}
use Rattle.graph_laws.specs.Trails.{Partly, BestWalk}
use Rattle.bounds.specs.declared.graph.Relaxation.{Relaxation}
use Rattle.bounds.specs.Noted.{noted}
use Rattle.bounds.specs.Rounds.{Marked, Traced}
use Rattle.bounds.proofs.Marks.{row_before}

-- The walk so far from start, which stands at `at`, with these rows left.
pub record Trail (g : Relaxation) (start : ℕ) (xs : List ℕ) (at : ℕ) (left : List (List (Option ℕ))) : Type 0 where
  pub inside : at < 32
  pub few : length xs + length left ≤ g.graph.count
  pub traced : Traced g.graph.edges.now g.interval (length left) left
  pub partly : Partly g.graph.edges.now g.interval g.graph.count start xs (length left) at

module _ (g : Relaxation) (start : ℕ) where
  module _ (xs : List ℕ) (at : ℕ) (all left : List (List (Option ℕ))) (marks : List (Option ℕ)) (split : all ≡ left ++ marks ∷ []) (here : Trail g start xs at all) where
    last : Trail g start xs at (left ++ marks ∷ [])
    last = subst (Trail g start xs at) split here

    size : length (left ++ marks ∷ []) ≡ suc (length left)
    size = omega (arith, length-append left (marks ∷ []))

    before : Partly g.graph.edges.now g.interval g.graph.count start xs (suc (length left)) at
    before = subst (λ n. Partly g.graph.edges.now g.interval g.graph.count start xs n at) size last.partly

    pub stays : noted marks at ≡ None → Trail g start xs at left
    stays none =
        let rows = row_before g.graph.edges.now g.interval left marks last.traced in
        let m : rounds g.interval g.graph.edges.now (suc (length left)) at ≡ rounds g.interval g.graph.edges.now (length left) at = rw none at (rows.1 at) in
        record {
          inside = last.inside;
          few = omega (arith, last.few, size);
          traced = rows.0;
          partly = (before.0, omega (arith, before.1, m));
        }

    module _ (x : ℕ) (some : noted marks at ≡ Some x) where
      taken : Marked g.graph.edges.now g.interval (rounds g.interval g.graph.edges.now (length left)) (rounds g.interval g.graph.edges.now (suc (length left))) at (Some x)
      taken = subst (Marked g.graph.edges.now g.interval (rounds g.interval g.graph.edges.now (length left)) (rounds g.interval g.graph.edges.now (suc (length left))) at) some
          ((row_before g.graph.edges.now g.interval left marks last.traced).1 at)

      pub edge_taken : x < length g.graph.edges.now
      edge_taken = taken.0.0

      pub goes_on : Trail g start (xs ++ x ∷ []) (edge g.graph.edges.now x).to left
      goes_on = record {
        inside = omega (arith, (fits_at g.graph.count g.graph.edges.now x g.graph.fits.each edge_taken).to, g.graph.fits.few);
        few = omega (arith, last.few, size, length-append xs (x ∷ []));
        traced = (row_before g.graph.edges.now g.interval left marks last.traced).0;
        partly = (
          walk_append g.graph.edges.now start at (edge g.graph.edges.now x).to xs (x ∷ []) before.0 (taken.0.0, taken.0.1, refl),
          omega (
            arith,
            before.1,
            delays_append g.graph.edges.now xs (x ∷ []),
            ap (λ d. d * g.interval) (distances_append g.graph.edges.now xs (x ∷ [])),
            add-mul (distances g.graph.edges.now xs) (distances g.graph.edges.now (x ∷ [])) g.interval,
            add-mul (edge g.graph.edges.now x).distance 0 g.interval,
            taken.0.2,
            taken.1,
          ),
        );
      }

  pub ended : (xs : List ℕ) (at : ℕ) (left : List (List (Option ℕ))) → length left ≡ 0 → Trail g start xs at left → BestWalk g.graph.edges.now g.interval g.graph.count start xs
  unfolding rounds
  ended xs at left none here = record {
    end = at;
    walk = here.partly.0;
    short = omega (arith, here.few);
    sum = omega (arith, here.partly.1, ap (λ n. rounds g.interval g.graph.edges.now n at) none);
  }
