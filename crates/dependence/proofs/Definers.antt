-- Steps of the loops over statements.
use Rattle.std.proofs.Common.{◌≡◌, ℕ, ◌+◌, ◌<◌, ◌≤◌, Bool, true, false, ◌||◌, cond, List, [], ◌∷◌, ◌++◌, map, ltb, not, length, get_or, drop, Some, None, sym, refl, ap, ◌∙◌, arith}
use Rattle.std.proofs.lemmas.List.{at_drop_more}
use Rattle.std.specs.Prelude.{unwrap_or}
use Rattle.std.specs.List.{position_or_len}
use Rattle.std.proofs.lemmas.List.Recursion.{is_position_or_len}
use Rattle.std.proofs.lemmas.List.Sums.{prefix_len-le-length}
use Rattle.std.proofs.lemmas.Bool.{ltb-false}
use Rattle.model.specs.Shapes.{some}
use Rattle.model.specs.Questions.{Answer, good, bad, Refusal, no_or}
use Rattle.model.specs.Loop.{operands}
use Rattle.model.specs.LoopText.{Use, Statement, same_name, definer, known_use, uses_of}
use Rattle.statements.specs.declared.statement.Statement.{Statement as OwnStatement}
use Rattle.statements.specs.Statements.{statement_seen, all_seen}
use Rattle.dependence.specs.Known.{uses_known}

-- a test of what the elements are seen as
pub some-map : {X Y : Type 0} (p : Y → Bool) (h : X → Y) (xs : List X) → some p (map h xs) ≡ some (λ x. p (h x)) xs
some-map p h [] = refl
some-map p h (x ∷ xs) = ap (λ b. p (h x) || b) (some-map p h xs)

pub definer_at : (w : List ℕ) (xs : List OwnStatement) → definer (all_seen xs) w ≡ position_or_len (λ s. same_name w (statement_seen s).defines) xs
definer_at w = is_position_or_len (λ ss. definer (all_seen ss) w) (λ s. same_name w (statement_seen s).defines) refl (λ x xs. refl)

-- a place, or the length where there is none
pub or_len : {X : Type 0} (p : X → Bool) (xs : List X) → unwrap_or (cond (ltb (position_or_len p xs) (length xs)) (Some (position_or_len p xs)) None) (length xs) ≡ position_or_len p xs
or_len p xs = go (ltb (position_or_len p xs) (length xs)) refl
  where
    go : (b : Bool) → ltb (position_or_len p xs) (length xs) ≡ b → unwrap_or (cond b (Some (position_or_len p xs)) None) (length xs) ≡ position_or_len p xs
    go true e = refl
    go false e = let long : position_or_len p xs ≤ length xs = prefix_len-le-length (λ x. not (p x)) xs in let back : length xs ≤ position_or_len p xs = ltb-false _ _ e in let end : length xs ≡ position_or_len p xs = omega arith in end

abbrev then_ask : Answer → Answer → Answer
then_ask good b = b
then_ask (bad l c) b = bad l c

known_append : (ss : List Statement) (us vs : List Use) → uses_known ss (us ++ vs) ≡ then_ask (uses_known ss us) (uses_known ss vs)
known_append ss [] vs = refl
known_append ss (u ∷ us) vs = go (known_append ss us vs) (known_use ss u).fine
  where
    go : uses_known ss (us ++ vs) ≡ then_ask (uses_known ss us) (uses_known ss vs) → (b : Bool) →
        cond b (uses_known ss (us ++ vs)) (bad u.line (Some u.column)) ≡ then_ask (cond b (uses_known ss us) (bad u.line (Some u.column))) (uses_known ss vs)
    go ih true = ih
    go ih false = refl

is_good : (a : Answer) → None ≡ no_or 7 a None → a ≡ good
is_good good e = refl
is_good (bad l c) e = let z : ◌≡◌ {A = ℕ} 0 1 = cc in absurd (omega arith)

stays_bad : (f : Refusal) (a b : Answer) → Some f ≡ no_or 7 a None → Some f ≡ no_or 7 (then_ask a b) None
stays_bad f good b e = let z : ◌≡◌ {A = ℕ} 0 1 = cc in absurd (omega arith)
stays_bad f (bad l c) b e = e

module _ (ss : List OwnStatement) (i : ℕ) (x : OwnStatement) (h : i < length ss) (q : x ≡ get_or ss i x) (all : Answer)
    (inv : uses_known (all_seen ss) (uses_of (all_seen (drop i ss))) ≡ all) where
  abbrev later : List Use
  later = uses_of (all_seen (drop (i + 1) ss))

  split : uses_known (all_seen ss) (uses_of (all_seen (drop i ss))) ≡ then_ask (uses_known (all_seen ss) (operands (statement_seen x).operation)) (uses_known (all_seen ss) later)
  split =
      ap (uses_known (all_seen ss)) (at_drop_more (λ r. uses_of (all_seen r)) ss i x h ∙ ap (λ y. operands (statement_seen y).operation ++ later) (sym q))
      ∙ known_append (all_seen ss) (operands (statement_seen x).operation) later

  pub uses_on : None ≡ no_or 7 (uses_known (all_seen ss) (operands (statement_seen x).operation)) None → uses_known (all_seen ss) later ≡ all
  uses_on a = sym (split ∙ ap (λ y. then_ask y (uses_known (all_seen ss) later)) (is_good _ a)) ∙ inv

  pub uses_off : (f : Refusal) → Some f ≡ no_or 7 (uses_known (all_seen ss) (operands (statement_seen x).operation)) None → Some f ≡ no_or 7 all None
  uses_off f a = stays_bad f _ _ a ∙ ap (λ y. no_or 7 y None) (sym split ∙ inv)
