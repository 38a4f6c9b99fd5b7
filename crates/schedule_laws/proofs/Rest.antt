-- A search places no operation behind the last.
use Rattle.std.proofs.Common.{◌≡◌, ℕ, zero, suc, ◌*◌, ◌<◌, ◌≤◌, Bool, List, Some, None, Option, unwrap_or, inl, inr, refl, ap, ◌∙◌, arith}
use Rattle.std.proofs.lemmas.Bool.{cases_Bool, ne_eqb}
use Rattle.model.specs.declared.Edge.{Edge}
use Rattle.model.specs.Loop.{Hardware}
use Rattle.model.specs.Search.{Times, put, without, bounded, State, start, pick, crowded, torn, joined, placed, with_pick, complete, step, turn, Outcome, found, failed, search}
use Rattle.search_laws.specs.Bounded.{Under}
use Rattle.search_laws.proofs.Bounds.{pick_below}

-- Of what is found, the times behind the first n are 0.
abbrev pub RestFound : ℕ → Outcome → Type 0
RestFound n (found time taken) = (q : ℕ) → n ≤ q → time q ≡ 0
RestFound n (failed taken) = Unit {0}

without_none : (gone : ℕ → Bool) (f : Times) (q : ℕ) → f q ≡ None → without gone f q ≡ None
without_none gone f q e = elim (cases_Bool (gone q)) [ inl t ↦ rw t refl | inr z ↦ rw z e ]

put_other : (j t : ℕ) (f : Times) (q : ℕ) → (q ≡ j → ⊥) → put j t f q ≡ f q
put_other j t f q n = rw (ne_eqb q j n) refl

module _ (es : List Edge) (hw : Hardware) (n : ℕ) (height : ℕ → ℕ) (k : ℕ) where
  abbrev NoneBehind : State → Type 0
  NoneBehind s = (q : ℕ) → n ≤ q → s.time q ≡ None

  placed_behind : (s : State) (j t : ℕ) → j < n → NoneBehind s → NoneBehind (placed es hw n k s j t)
  unfolding placed joined
  placed_behind s j t l b q h =
      without_none (torn k (joined es hw n k s j t) j es) (joined es hw n k s j t) q
      (put_other j t (without (crowded hw k s.time n j t) s.time) q (λ e. omega arith) ∙ without_none (crowded hw k s.time n j t) s.time q (b q h))

  picked_behind : (s : State) (o : Option ℕ) → Under n o → NoneBehind s → NoneBehind (with_pick es hw n k s o)
  picked_behind s None u b = b
  picked_behind s (Some j) u b = placed_behind s j _ u b

  step_behind : (s : State) → NoneBehind s → NoneBehind (step es hw n height k s)
  unfolding step
  step_behind s b = picked_behind s (pick height s.time n) (pick_below height s.time n) b

  turns_behind : (left : ℕ) (s : State) → NoneBehind s → RestFound n (bounded (turn es hw n height k) (failed (6 * n)) left s)
  unfolding turn
  turns_behind zero s b = tt
  turns_behind (suc left) s b =
      let later = step_behind s b in
      elim (cases_Bool (complete n (step es hw n height k s))) [
        | inl e ↦ rw e (λ q h. ap (λ o. unwrap_or o 0) (later q h))
        | inr e ↦ rw e (turns_behind left (step es hw n height k s) later)
      ]

  pub search_rest : RestFound n (search es hw n height k)
  search_rest = turns_behind (6 * n) start (λ q h. refl)
