-- Checks of numbers, some of them after others.
use Rattle.std.proofs.Common.{◌≡◌, ℕ, Bool, true, false, cond, List, [], ◌∷◌, ◌++◌, Some, None, Ok, Err, Result, refl, ap, arith}
use Rattle.model.specs.Questions.{Refusal, bad, Check, each, no_or, unless}
use Rattle.statements.specs.Statements.{in_range_or}

module _ {X Y : Type 0} (x : X) (y : Result Y Refusal) (ds : List Check) where
  -- a no among the first checks is the first no
  pub stop : (e : Refusal) (cs : List Check) → Err e ≡ in_range_or cs (Ok x) → Err e ≡ in_range_or (cs ++ ds) y
  stop e [] h = let z : ◌≡◌ {A = ℕ} 0 1 = cc in absurd (omega arith)
  stop e (c ∷ cs) h = go (stop e cs) c.fine h
    where
      go : (Err e ≡ in_range_or cs (Ok x) → Err e ≡ in_range_or (cs ++ ds) y) → (b : Bool) →
          Err e ≡ unless (no_or 3 (cond b (each cs) (bad c.line (Some c.column))) None) (Ok x) →
          Err e ≡ unless (no_or 3 (cond b (each (cs ++ ds)) (bad c.line (Some c.column))) None) y
      go ih true q = ih q
      go ih false q = let s : e ≡ record { number = 3; line = c.line; column = Some c.column } = cc in ap Err s

  -- where the first checks pass, the others decide
  pub pass : (u : X) (cs : List Check) → Ok u ≡ in_range_or cs (Ok x) → in_range_or (cs ++ ds) y ≡ in_range_or ds y
  pass u [] h = refl
  pass u (c ∷ cs) h = go (pass u cs) c.fine h
    where
      go : (Ok u ≡ in_range_or cs (Ok x) → in_range_or (cs ++ ds) y ≡ in_range_or ds y) → (b : Bool) →
          Ok u ≡ unless (no_or 3 (cond b (each cs) (bad c.line (Some c.column))) None) (Ok x) →
          unless (no_or 3 (cond b (each (cs ++ ds)) (bad c.line (Some c.column))) None) y ≡ in_range_or ds y
      go ih true q = ih q
      go ih false q = let z : ◌≡◌ {A = ℕ} 0 1 = cc in absurd (omega arith)
