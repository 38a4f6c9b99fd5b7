-- How far back the head reaches.
use Rattle.std.proofs.Common.{ℕ, zero, suc, ◌+◌, ◌<◌, ◌≤◌, length, inl, inr, arith}
use Rattle.std.proofs.lemmas.Bool.{cases_eq}
use Rattle.model.specs.Loop.{Loop, Operand, literal, variable, Operation, load, store, binary, move, op, EachOperand, Named, Hardware, WellFormed}
use Rattle.model.specs.Schedule.{Schedule, stage, FewStages}
use Rattle.model.specs.ScheduleLives.{greatest}
use Rattle.model.specs.Listing.{distance, farthest, head_of}
use Rattle.pipelining.proofs.Effects.{each_operand}
use Rattle.pipelining.proofs.Length.{stage_below, stages_by_times}
use Rattle.listing_laws.proofs.Alike.{Reaches}

each_greatest : (o : Operation Operand) → EachOperand (λ a. distance a ≤ greatest distance o) o
each_greatest (load s a) = tt
each_greatest (store x s a) = omega arith
each_greatest (binary c x y) = (omega arith, omega arith)
each_greatest (move x) = omega arith

greatest_in : (ops : Loop) (n j : ℕ) → j < n → greatest distance (op ops j) ≤ farthest ops n
unfolding farthest
greatest_in ops zero j h = absurd (omega arith)
greatest_in ops (suc n) j h = elim (cases_eq j n) [ inl e ↦ rw e (omega arith) | inr z ↦ omega (arith, greatest_in ops n j (omega arith)) ]

near_enough : (q : ℕ) (ops : Loop) (a : Operand) → Named ops q a → distance a ≤ 7
near_enough q ops (literal z) n = omega arith
near_enough q ops (variable v d) n = n.3

greatest_near : (o : Operation Operand) → EachOperand (λ a. distance a ≤ 7) o → greatest distance o ≤ 7
greatest_near (load s a) h = omega arith
greatest_near (store x s a) h = h
greatest_near (binary c x y) h = omega arith
greatest_near (move x) h = h

pub farthest_near : (ops : Loop) (n : ℕ) → ((q : ℕ) → q < n → EachOperand (Named ops q) (op ops q)) → farthest ops n ≤ 7
unfolding farthest
farthest_near ops zero named = omega arith
farthest_near ops (suc n) named = omega (
  arith,
  farthest_near ops n (λ q h. named q (omega arith)),
  greatest_near (op ops n) (each_operand _ _ (near_enough n ops) (op ops n) (named n (omega arith))),
)

pub head_far : (ops : Loop) (hw : Hardware) (w : Schedule) → WellFormed ops hw → 0 < w.interval → FewStages ops w → head_of ops w ≤ 14
unfolding head_of
head_far ops hw w formed positive few = omega (arith, (stages_by_times ops w positive).1 few, farthest_near ops (length ops) formed.named)

pub head_reaches : (ops : Loop) (hw : Hardware) (w : Schedule) → WellFormed ops hw → 0 < w.interval → FewStages ops w → Reaches ops w (head_of ops w)
unfolding head_of
head_reaches ops hw w formed positive few = record {
  far = head_far ops hw w formed positive few;
  stages_in = λ j h. omega (arith, stage_below w (length ops) j h);
  operands_in = λ j h. each_operand (λ a. distance a ≤ greatest distance (op ops j)) (λ a. stage w j + distance a ≤ head_of ops w)
      (λ a d. omega (arith, d, greatest_in ops (length ops) j h, stage_below w (length ops) j h)) (op ops j) (each_greatest (op ops j));
}
