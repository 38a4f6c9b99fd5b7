-- What is listed stays so.
use Rattle.std.proofs.Common.{◌≡◌, ℕ, ◌%◌, ◌<◌, ◌≤◌, List, [], ◌∷◌, ◌++◌, length, inl, inr, arith, length-append}
use Rattle.std.proofs.lemmas.Bool.{cases_eq}
use Rattle.std.proofs.lemmas.List.Elements.{All-push, Contains-push, Contains-append_left}
use Rattle.engine_laws.specs.Dues.{Pushed}

module _ (due r : ℕ) (lists lists' : ℕ → List ℕ) (same : (x : ℕ) → (x ≡ due % 8 → ⊥) → lists' x ≡ lists x) where
  -- there was no place
  pub pushed_full : 32 ≤ length (lists (due % 8)) → lists' (due % 8) ≡ lists (due % 8) → Pushed due r lists lists'
  pushed_full full kept =
      let all : (x : ℕ) → lists' x ≡ lists x = λ x. elim (cases_eq x (due % 8)) [ inl e ↦ rw e kept | inr z ↦ same x z ] in
      record {
        in_list = inl (rw kept full);
        others = λ x q h. rw (all x) h;
        bounded = λ bound h each x. rw (all x) (each x);
      }

  pub pushed_more : lists' (due % 8) ≡ lists (due % 8) ++ r ∷ [] → Pushed due r lists lists'
  pushed_more more = record {
    in_list = inr (rw more (Contains-push (lists (due % 8)) r));
    others = λ x q h. elim (cases_eq x (due % 8)) [
      | inl e ↦ elim (rw e at h) [
        | inl full ↦ inl (rw (e, more) (omega (arith, length-append (lists (due % 8)) (r ∷ []))))
        | inr at ↦ inr (rw (e, more) (Contains-append_left (lists (due % 8)) (r ∷ []) q at))
      ]
      | inr z ↦ rw (same x z) h
    ];
    bounded = λ bound h each x. elim (cases_eq x (due % 8)) [
      | inl e ↦ rw (e, more) (All-push (λ q. q < bound) (lists (due % 8)) r (each (due % 8)) h)
      | inr z ↦ rw (same x z) (each x)
    ];
  }
