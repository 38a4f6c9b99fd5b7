-- What is answered about a question, and what is not.
use Rattle.std.proofs.Common.{◌≡◌, ℕ, Some, None, Option, Ok, Err, refl, arith}
use Rattle.model.specs.declared.Question.{Question}
use Rattle.engine_slots.specs.Rows.{question_answered}

pub none_denied : (o : Option Question) (u : Unit {0}) → Ok u ≡ question_answered o → None ≡ o
none_denied None u e = refl
none_denied (Some q) u e = let z : ◌≡◌ {A = ℕ} 0 1 = cc in absurd (omega arith)

pub one_denied : (o : Option Question) (q : Question) → Err q ≡ question_answered o → Some q ≡ o
one_denied None q e = let z : ◌≡◌ {A = ℕ} 0 1 = cc in absurd (omega arith)
one_denied (Some r) q e = cc
