-- The loop of the code, operation by operation.
use Rattle.std.proofs.Common.{◌≡◌, ℕ, ◌<◌, ◌≤◌, List, length, get_or, sym, ap, ◌∙◌, subst, arith}
use Rattle.std.proofs.lemmas.List.{get_or-map, length-map}
use Rattle.model.specs.Loop.{Loop, Operand, literal, variable, Operation, load, store, binary, move, op, EachOperand, Named}
use Rattle.text_laws.proofs.Formed.{sound_named}
use Rattle.dependence.specs.declared.loops.Loop.{Loop as OwnLoop}
use Rattle.dependence.specs.Operations.{OwnOperation, operation_seen, operations_seen}
use Rattle.dependence.specs.Loops.{loop_seen}
use Rattle.lives.specs.Reads.{Near}

near_operand : (ops : Loop) (q : ℕ) → length ops ≤ 32 → (a : Operand) → Named ops q a → Near a
near_operand ops q few (literal z) h = tt
near_operand ops q few (variable p d) h = (omega (arith, h.0), h.3)

near_each : (ops : Loop) (q : ℕ) → length ops ≤ 32 → (o : Operation Operand) → EachOperand (Named ops q) o → EachOperand Near o
near_each ops q few (load stride offset) h = tt
near_each ops q few (store a stride offset) h = near_operand ops q few a h
near_each ops q few (binary code a b) h = (near_operand ops q few a h.0, near_operand ops q few b h.1)
near_each ops q few (move a) h = near_operand ops q few a h

module _ (s : OwnLoop) (xs : List OwnOperation) (seen : operations_seen xs ≡ loop_seen s) where
  pub count_is : length xs ≡ length (loop_seen s)
  count_is = sym (length-map xs operation_seen) ∙ ap length seen

  module _ (j : ℕ) (o d : OwnOperation) (below : j < length xs) (is : o ≡ get_or xs j d) where
    pub seen_at : operation_seen o ≡ op (loop_seen s) j
    unfolding op
    seen_at = ap operation_seen is ∙ (sym (get_or-map operation_seen xs j d _ below) ∙ ap (λ l. op l j) seen)

    -- the operands of a loop's operations are near
    pub near_at : EachOperand Near (operation_seen o)
    near_at =
        let named = sound_named (loop_seen s) s.sound in
        subst (EachOperand Near) (sym seen_at) (near_each (loop_seen s) j named.1 (op (loop_seen s) j) (named.2 j (omega (arith, count_is))))
