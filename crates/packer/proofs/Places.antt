-- Lists of calls that are played in place: one place more, and the whole list.
use Rattle.std.proofs.Common.{◌≡◌, ℕ, ◌+◌, ◌<◌, ◌≤◌, List, length, get_or, take, drop, set, sym, ap, ◌∙◌, subst, subst₂, add-one, arith}
use Rattle.std.proofs.lemmas.List.{drop-set-lt, drop-drop, take_all}
use Rattle.guarantee.specs.Lists.{Chain}
use Rattle.guarantee.proofs.Chains.{place_more}

module _ {A : Type 0} (e xs : List A) (i : ℕ) (same : drop i xs ≡ drop i e) where
  -- what is left of the list is as it was
  pub rest_more : (z : A) → drop (i + 1) (set xs i z) ≡ drop (i + 1) e
  rest_more z =
      drop-set-lt (i + 1) xs i z (omega arith) ∙ (sym (drop-drop 1 i xs) ∙ (ap (drop 1) same ∙ drop-drop 1 i e))

  pub one_more : {S : Type 0} (R : S → A → A → S → Type 0) (m t : S) (b d : A) (s : S) → i < length e → length xs ≡ length e →
      Chain R s (take i e) (take i xs) m → R m (get_or xs i d) b t → (z : A) → z ≡ b → Chain R s (take (i + 1) e) (take (i + 1) (set xs i z)) t
  one_more R m t b d s h l before here z is =
      subst (λ y. Chain R s (take (i + 1) e) (take (i + 1) (set xs i y)) t) (sym is)
      (subst (λ n. Chain R s (take n e) (take n (set xs i b)) t) (sym (add-one i)) (place_more R m t b d s e xs i h l before same here).0)

-- all places
pub whole_list : {S A : Type 0} (R : S → A → A → S → Type 0) (s t : S) (e xs : List A) (i : ℕ) → length e ≤ i → length xs ≡ length e →
    Chain R s (take i e) (take i xs) t → Chain R s e xs t
whole_list R s t e xs i past l all =
    subst₂ (λ a b. Chain R s a b t) (take_all i e past) (take_all i xs (omega arith)) all
