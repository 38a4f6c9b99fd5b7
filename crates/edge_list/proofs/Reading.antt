-- An operation of the loop by its number, and its latency.
use Rattle.std.proofs.Common.{◌≡◌, ℕ, ◌<◌, ◌≤◌, List, map, length, get_or, pos, sym, ap, ◌∙◌, arith}
use Rattle.std.proofs.lemmas.List.{length-map, get_or-map, get_or_past}
use Rattle.model.specs.Loop.{Loop as LoopBody, op, move, literal}
use Rattle.model.specs.Edges.{between}
use Rattle.model.specs.Soundness.{code_of, timing_of}
use Rattle.edge_laws.proofs.Pieces.{pair_is}
use Rattle.texts.specs.declared.machine.Machine.{Machine}
use Rattle.texts.specs.Records.{machine_seen}
use Rattle.dependence.specs.declared.loops.Loop.{Loop}
use Rattle.dependence.specs.Operations.{OwnOperation, operation_seen, operations_seen}
use Rattle.dependence.specs.Loops.{loop_seen}
use Rattle.edge_list.specs.Lists.{hardware_of, pair}

module _ (xs : List OwnOperation) (ops : LoopBody) (e : operations_seen xs ≡ ops) where
  pub seen_count : length ops ≡ length xs
  seen_count = sym (ap length e) ∙ length-map xs operation_seen

  pub op_at : (p : ℕ) (x d : OwnOperation) → p < length xs → x ≡ get_or xs p d → op ops p ≡ operation_seen x
  unfolding op
  op_at p x d h q = sym (ap (λ os. op os p) e) ∙ get_or-map operation_seen xs p d (move (literal (pos 0))) h ∙ ap operation_seen (sym q)

  pub pair_at : (p q : ℕ) (x y c d : OwnOperation) → p < q → p < length xs → q < length xs → x ≡ get_or xs p c → y ≡ get_or xs q d → between ops p q ≡ pair p q (operation_seen x) (operation_seen y)
  pair_at p q x y c d order h k ex ey = pair_is ops p q order ∙ ap (λ o. pair p q o (op ops q)) (op_at p x c h ex) ∙ ap (pair p q (operation_seen x)) (op_at q y d k ey)

module _ (l : Loop) (m : Machine) where
  pub latency_at : (xs : List OwnOperation) → operations_seen xs ≡ loop_seen l → (p : ℕ) (x d : OwnOperation) → p < length xs → x ≡ get_or xs p d → (hardware_of m l).latency p ≡ (timing_of (machine_seen m) (code_of (operation_seen x))).latency
  latency_at xs e p x d h q = ap (λ t. t.latency) (get_or-map (λ o. timing_of (machine_seen m) (code_of o)) (loop_seen l) p (operation_seen x) _ (omega (arith, seen_count xs (loop_seen l) e))
      ∙ ap (λ o. timing_of (machine_seen m) (code_of o)) (sym (ap (λ os. get_or os p (operation_seen x)) e) ∙ get_or-map operation_seen xs p d _ h ∙ ap operation_seen (sym q)))

  pub no_latency : (xs : List OwnOperation) → operations_seen xs ≡ loop_seen l → (p : ℕ) → length xs ≤ p → (hardware_of m l).latency p ≡ 0
  no_latency xs e p h = ap (λ t. t.latency) (get_or_past (map (λ o. timing_of (machine_seen m) (code_of o)) (loop_seen l)) p _ (omega (arith, length-map (loop_seen l) (λ o. timing_of (machine_seen m) (code_of o)), seen_count xs (loop_seen l) e)))
