-- What the answers of the public functions rest on.
use Rattle.std.proofs.Common.{◌≡◌, ℕ, ◌+◌, ◌-◌, ◌<◌, ◌≤◌, List, length, Some, None, Ok, Err, Result, sym, subst, subst₂, arith}
use Rattle.std.specs.Result.{MatchResult}
use Rattle.model.specs.declared.Edge.{Edge}
use Rattle.model.specs.declared.Timing.{Timing}
use Rattle.model.specs.Limits.{hardware, GraphFits, MachineFits}
use Rattle.model.specs.Minimum.{own_minimum, CircuitWitness}
use Rattle.graph_laws.specs.Trails.{Leads}
use Rattle.graph_laws.proofs.Top.{some_resource, class_minimum, circuit_minimum, class_named, resource_below}
use Rattle.graph_laws.proofs.Steps.{all_within, circuit_here}
use Rattle.bounds.specs.declared.answer.Witness.TheVariants.{Class, Circuit}
use Rattle.bounds.specs.declared.graph.Graph.{Graph}
use Rattle.bounds.specs.declared.graph.Relaxation.{Relaxation}
use Rattle.bounds.specs.declared.path.Path.{Path}
use Rattle.bounds.specs.declared.relax.FirstSettled.{FirstSettled}
use Rattle.bounds.specs.declared.resource.Resource.{Resource}
use Rattle.bounds.specs.Graphs.{GraphOf}
use Rattle.bounds.specs.Paths.{numbers}
use Rattle.bounds.specs.declared.height.NoHeights.{NoHeights}
use Rattle.bounds.specs.declared.height.NoHeights.TheVariants.{Above}
use Rattle.bounds.specs.Rounds.{Settles, Rose, FirstOf}
use Rattle.bounds.specs.Answers.{Inside, MinimumOf, HeightsOf}

pub heights_of : (g : Relaxation) (r : Result (List ℕ) ℕ) (s : Result (List ℕ) NoHeights) →
    Settles g.graph.edges.now g.interval g.graph.count r → MatchResult r (λ hs. s ≡ Ok hs) (λ _. s ≡ Err Above) → HeightsOf g.graph.edges.now g.graph.count g.interval s
heights_of g (Ok hs) s h e = subst (HeightsOf g.graph.edges.now g.graph.count g.interval) (sym e) ((g.graph.fits, g.short), h.0, h.1)
heights_of g (Err u) s h e = subst (HeightsOf g.graph.edges.now g.graph.count g.interval) (sym e)
    ((g.graph.fits, g.short), circuit_here g.graph.edges.now g.interval g.graph.count u (all_within g.graph.count g.graph.edges.now g.graph.fits.each) g.graph.fits.some h.1)

-- Of a graph, a machine that fits, and the first interval at which the rounds settle.
module _ (es : List Edge) (us : List Timing) (units : List ℕ) (g : Graph) (made : GraphOf es (length us) (Some g)) (machine : MachineFits us units) (r : Resource)
    (leads : Leads (own_minimum (hardware us units) (length us)) (length units) r.interval r.class) (f : FirstSettled)
    (settles : FirstOf g.edges.now g.count (Some f)) where
  inside : Inside es us units
  inside = (subst₂ GraphFits made.1 made.0 g.fits, machine)

  first : FirstOf es (length us) (Some f)
  first = subst₂ (λ xs n. FirstOf xs n (Some f)) made.0 made.1 settles

  pub class_told : f.interval ≤ r.interval → MinimumOf es us units (Ok (record { value = r.interval; witness = Class r.class }))
  class_told less = (
    inside,
    class_minimum us units machine r.interval r.class leads es f.interval first.0 less,
    class_named us units machine r.interval r.class leads inside.0.some,
  )

  pub class_told_at_one : f.rising ≡ None → MinimumOf es us units (Ok (record { value = r.interval; witness = Class r.class }))
  class_told_at_one none =
      let one : f.interval ≤ 1 = subst (Rose es f.interval (length us)) none first.2 in
      class_told (omega (arith, one, some_resource us units machine r.interval r.class leads inside.0.some))

  pub circuit_told : (p : Path) → r.interval < f.interval → CircuitWitness g.edges.now ((f.interval - 1) + 1) (numbers p) →
      MinimumOf es us units (Ok (record { value = f.interval; witness = Circuit p }))
  circuit_told p more w =
      let back : (f.interval - 1) + 1 ≡ f.interval = omega (arith, more) in (
        inside,
        circuit_minimum us units machine r.interval r.class leads es f.interval first.0 more,
        (resource_below us units machine r.interval r.class leads f.interval more, subst₂ (λ xs k. CircuitWitness xs k (numbers p)) made.0 back w),
      )
