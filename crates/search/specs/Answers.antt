-- What the search answers.
use Rattle.std.specs.Prelude.{◌≡◌, ℕ, ◌*◌, ◌<◌, ◌≤◌, List, length, Some, None, Option, Ok, Err, Result}
use Rattle.std.specs.Option.{unwrap_or}
use Rattle.model.specs.declared.Edge.{Edge}
use Rattle.model.specs.declared.Timing.{Timing}
use Rattle.model.specs.Walks.{Circuit, delays, distances}
use Rattle.model.specs.Limits.{hardware, GraphFits, MachineFits}
use Rattle.model.specs.Minimum.{IsHeight}
use Rattle.model.specs.Search as model
use Rattle.search_laws.specs.Bounded.{Roomy}
use Rattle.reservation.specs.Times.{times_of}
use Rattle.reservation.specs.declared.time_table.TimeTable.{TimeTable}
use Rattle.search.specs.declared.outcome.Outcome.{Outcome}
use Rattle.search.specs.declared.outcome.NoSearch.{NoSearch}
use Rattle.search.specs.declared.outcome.NoSearch.TheVariants.{Outside, Above, Narrow}

abbrev pub ended : Option TimeTable → ℕ → model.Outcome
ended (Some times) steps = model.found (λ j. unwrap_or (times_of times j) 0) steps
ended None steps = model.failed steps

abbrev pub outcome : Outcome → model.Outcome
outcome o = ended o.times o.steps

-- What may be handed in.
pub record Inside (es : List Edge) (us : List Timing) (units : List ℕ) (k : ℕ) : Type 0 where
  pub graph : GraphFits (length us) es
  pub machine : MachineFits us units
  pub some : 1 ≤ k
  pub most : k ≤ 256

-- The outcome of the search at k, by the heights at k.
pub record IsSearch (es : List Edge) (us : List Timing) (units : List ℕ) (k : ℕ) (o : model.Outcome) : Type 0 where
  pub height : ℕ → ℕ
  pub heights : (u : ℕ) → IsHeight es k u (height u)
  pub is : o ≡ model.search es (hardware us units) (length us) height k

-- The outcome; or what was handed in is outside the limits; or some circuit is above k; or an operation alone does not fit at k.
abbrev pub SearchOf : List Edge → List Timing → List ℕ → ℕ → Result Outcome NoSearch → Type 0
SearchOf es us units k (Ok o) = Inside es us units k × Roomy (hardware us units) (length us) k × IsSearch es us units k (outcome o)
SearchOf es us units k (Err Outside) = Inside es us units k → ⊥
SearchOf es us units k (Err Above) = Inside es us units k × ((xs : List ℕ) × Circuit es xs × (distances es xs * k < delays es xs))
SearchOf es us units k (Err Narrow) = Inside es us units k × (Roomy (hardware us units) (length us) k → ⊥)
