-- Walks: that a circuit takes an iteration, and what a circuit says of every schedule.
use Rattle.std.proofs.Common.{◌≡◌, ℕ, ◌+◌, ◌*◌, ◌<◌, ◌≤◌, List, [], ◌∷◌, length, ap, inl, inr, add-mul, arith}
use Rattle.std.specs.List.{AllByRecursion}
use Rattle.std.proofs.ByRecursion.{All-get_or}
use Rattle.std.proofs.lemmas.Bool.{cases_eq, cases_lt}
use Rattle.model.specs.declared.Edge.{Edge}
use Rattle.model.specs.Edges.{EdgeMet, edges}
use Rattle.model.specs.Walks.{edge, Walk, delays, distances, Circuit, Forward}
use Rattle.model.specs.Minimum.{NoneAbove}
use Rattle.model.specs.GraphLaws.{NoStandingCircuit, CircuitExcludes}
use Rattle.graph_laws.proofs.Listed.{edges_lead_forward}

ahead : (es : List Edge) → Forward es → (u v : ℕ) (xs : List ℕ) → Walk es u xs v → distances es xs ≡ 0 → u + length xs ≤ v
ahead es f u v [] w z = omega (arith, w)
ahead es f u v (x ∷ xs) w z =
    let here : (edge es x).from < (edge es x).to = All-get_or (λ e. e.distance ≡ 0 → e.from < e.to) es x _ w.0 f (omega arith) in
    omega (arith, ahead es f (edge es x).to v xs w.2 (omega arith), w.1)

pub forward_circuit : (es : List Edge) → Forward es → (xs : List ℕ) → Circuit es xs → 0 < distances es xs
forward_circuit es f xs c = elim (cases_eq (distances es xs) 0) [
  | inl z ↦ absurd (omega (arith, ahead es f c.1.0 c.1.0 xs c.1.1 z, c.0))
  | inr n ↦ omega arith
]

pub no_standing_circuit : NoStandingCircuit
no_standing_circuit ops hw formed xs c = forward_circuit (edges ops hw) (edges_lead_forward ops hw formed).1 xs c

-- of a walk whose own edges are met
pub own_met : (es : List Edge) (time : ℕ → ℕ) (k u v : ℕ) (xs : List ℕ) → Walk es u xs v → AllByRecursion (λ x. EdgeMet time k (edge es x)) xs →
    time u + delays es xs ≤ time v + distances es xs * k
own_met es time k u v [] w met = omega (arith, ap time w)
own_met es time k u v (x ∷ xs) w met =
    omega (arith, met.0, own_met es time k (edge es x).to v xs w.2 met.1, ap time w.1, add-mul (edge es x).distance (distances es xs) k)

pub circuit_excludes : CircuitExcludes
circuit_excludes es k xs c w met = elim (cases_lt w.interval k) [
  | inl l ↦ absurd (omega (arith, c.too_much w.interval l, own_met es w.time w.interval c.first c.first xs c.closed met))
  | inr g ↦ g
]

of_walk : (es : List Edge) (P : Edge → Type 0) → AllByRecursion P es → (u v : ℕ) (xs : List ℕ) → Walk es u xs v → AllByRecursion (λ x. P (edge es x)) xs
of_walk es P h u v [] w = tt
of_walk es P h u v (x ∷ xs) w = (All-get_or P es x _ w.0 h, of_walk es P h (edge es x).to v xs w.2)

pub walk_met : (es : List Edge) (time : ℕ → ℕ) (k : ℕ) → AllByRecursion (EdgeMet time k) es → (u v : ℕ) (xs : List ℕ) → Walk es u xs v →
    time u + delays es xs ≤ time v + distances es xs * k
walk_met es time k met u v xs w = own_met es time k u v xs w (of_walk es (EdgeMet time k) met u v xs w)

pub none_above : (es : List Edge) (time : ℕ → ℕ) (k : ℕ) → AllByRecursion (EdgeMet time k) es → NoneAbove es k
none_above es time k met xs c = omega (arith, walk_met es time k met c.1.0 c.1.0 xs c.1.1)
