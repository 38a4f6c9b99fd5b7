-- What a plan is made of, as lists.
use Rattle.std.specs.Prelude.{◌≡◌, ℕ, ◌≤◌, List, length}
use Rattle.std.specs.Coded.{×_prop, Unit-prop}
use Rattle.std.proofs.Props.{props}
use Rattle.model.specs.declared.Edge.{Edge}
use Rattle.model.specs.declared.Timing.{Timing}
use Rattle.model.specs.Loop.{Loop, Operand, literal, variable, Operation, load, store, binary, move, EachOperand, Named, WellFormed}
use Rattle.model.specs.Limits.{hardware, GraphFits, MachineFits}
use Rattle.model.specs.Minimum.{NoneAbove}
use Rattle.search_laws.specs.Bounded.{Roomy}
use Rattle.model.specs.Relaxation.{rounds}
use Rattle.model.specs.Search.{Outcome, search}

-- Two proofs that each operand is what it has to be are equal.
pub Named-prop : (ops : Loop) (q : ℕ) (a : Operand) → IsProp (Named ops q a)
Named-prop ops q (literal z) = Unit-prop
Named-prop ops q (variable p d) = Prim.hlevel props

pub EachOperand-prop : {A : Type 0} (P : A → Type 0) (o : Operation A) → ((a : A) → IsProp (P a)) → IsProp (EachOperand P o)
EachOperand-prop P (load stride offset) h = Unit-prop
EachOperand-prop P (store a stride offset) h = h a
EachOperand-prop P (binary code a b) h = ×_prop (h a) (h b)
EachOperand-prop P (move a) h = h a

-- A loop with its timings, on classes with so many units, with these edges, at k: no circuit is above k, and an operation alone fits.
pub record Ready (ops : Loop) (es : List Edge) (us : List Timing) (units : List ℕ) (k : ℕ) : Type 0 where
  pub formed : WellFormed ops (hardware us units)
  pub each : length us ≡ length ops
  pub graph : GraphFits (length ops) es
  pub machine : MachineFits us units
  pub positive : 1 ≤ k
  pub none_above : NoneAbove es k
  pub roomy : Roomy (hardware us units) (length ops) k

-- The heights at an interval, of n operations.
abbrev pub heights : List Edge → ℕ → ℕ → ℕ → ℕ
heights es n k = rounds k es n

abbrev pub searched : Loop → List Edge → List Timing → List ℕ → ℕ → Outcome
searched ops es us units k = search es (hardware us units) (length ops) (heights es (length ops) k) k
