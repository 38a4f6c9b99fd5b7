-- What the public functions answer.
use Rattle.std.specs.Prelude.{ℕ, ◌*◌, ◌<◌, ◌≤◌, List, filter, length, Ok, Err, Result, ◌==◌, slice_index}
use Rattle.std.specs.List.{sum_by}
use Rattle.model.specs.declared.Edge.{Edge}
use Rattle.model.specs.declared.Timing.{Timing}
use Rattle.model.specs.Walks.{Circuit, delays, distances}
use Rattle.model.specs.Limits.{hardware, GraphFits, MachineFits}
use Rattle.model.specs.Minimum.{NoneAbove, Standing, IsMinimum, IsHeight, Evidence, by_class, by_circuit, IsEvidence}
use Rattle.bounds.specs.declared.answer.Minimum.{Minimum}
use Rattle.bounds.specs.declared.answer.NoMinimum.{NoMinimum}
use Rattle.bounds.specs.declared.answer.NoMinimum.TheVariants.{Outside as OutsideMinimum, Standing as StandingCircuit}
use Rattle.bounds.specs.declared.answer.Witness.{Witness}
use Rattle.bounds.specs.declared.answer.Witness.TheVariants.{Class, Circuit as CircuitNamed}
use Rattle.bounds.specs.declared.height.NoHeights.{NoHeights}
use Rattle.bounds.specs.declared.height.NoHeights.TheVariants.{Outside, Above}
use Rattle.bounds.specs.Paths.{numbers}

-- The sum of BUSY over the operations of class u.
abbrev pub class_busy : List Timing → ℕ → ℕ
class_busy us u = sum_by (λ t. t.busy) (filter (λ t. t.class == u) us)

abbrev pub evidence : Witness → Evidence
evidence (Class u) = by_class u
evidence (CircuitNamed p) = by_circuit (numbers p)

-- What may be handed in.
abbrev pub Inside : List Edge → List Timing → List ℕ → Type 0
Inside es us units = GraphFits (length us) es × MachineFits us units

-- The minimum with its evidence; or what was handed in is outside the limits; or some circuit is above every interval.
abbrev pub MinimumOf : List Edge → List Timing → List ℕ → Result Minimum NoMinimum → Type 0
MinimumOf es us units (Ok m) =
    Inside es us units × IsMinimum es (hardware us units) (length us) (length units) m.value ×
    IsEvidence es (hardware us units) (length us) (length units) m.value (evidence m.witness)
MinimumOf es us units (Err OutsideMinimum) = Inside es us units → ⊥
MinimumOf es us units (Err StandingCircuit) = Inside es us units × Standing es

-- The heights of all operations; or what was handed in is outside the limits; or some circuit is above k.
abbrev pub HeightsOf : List Edge → ℕ → ℕ → Result (List ℕ) NoHeights → Type 0
HeightsOf es n k (Ok hs) = (GraphFits n es × (k ≤ 256)) × NoneAbove es k × ((u : ℕ) → IsHeight es k u (slice_index hs u))
HeightsOf es n k (Err Outside) = GraphFits n es × (k ≤ 256) → ⊥
HeightsOf es n k (Err Above) = (GraphFits n es × (k ≤ 256)) × ((xs : List ℕ) × Circuit es xs × (distances es xs * k < delays es xs))
