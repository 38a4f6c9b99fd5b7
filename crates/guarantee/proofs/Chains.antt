-- Lists of calls, one step more, and the plain packer over a list. Assumes nothing.
use Rattle.std.proofs.Common.{◌≡◌, ℕ, zero, suc, ◌<◌, List, [], ◌∷◌, length, get_or, take, drop, set, refl, ap, ◌∙◌, subst, arith}
use Rattle.model.specs.Lives.{Table}
use Rattle.model.specs.Schemes.{Meaning}
use Rattle.model.specs.Domains.{Domain}
use Rattle.guarantee.specs.Calls.{State}
use Rattle.guarantee.specs.PlainPacker.{PlainCall}
use Rattle.guarantee.specs.Guarantees.{plainly, reply}
use Rattle.guarantee.specs.Lists.{Chain, Entry, asked, answered, Played, PlainPlayed}

-- one place more, in place: what is left of the list is as it was
module _ {S A : Type 0} (R : S → A → A → S → Type 0) (m t : S) (b d : A) where
  pub place_more : (s : S) (e xs : List A) (i : ℕ) → i < length e → length xs ≡ length e → Chain R s (take i e) (take i xs) m → drop i xs ≡ drop i e → R m (get_or xs i d) b t →
      Chain R s (take (suc i) e) (take (suc i) (set xs i b)) t × (drop (suc i) (set xs i b) ≡ drop (suc i) e)
  place_more s [] xs i h l ch dr st = let f : ⊥ = omega arith in absurd f
  place_more s (y ∷ e) [] i h l ch dr st = let f : ⊥ = omega arith in absurd f
  place_more s (y ∷ e) (x ∷ xs) zero h l ch dr st =
      let same : x ≡ y = cc in
      let rest : xs ≡ e = cc in
      ((t, (subst (λ z. R z y b t) ch (subst (λ z. R m z b t) same st), refl)), rest)
  place_more s (y ∷ e) (x ∷ xs) (suc i) h l ch dr st =
      let r = place_more ch.0 e xs i (omega arith) (omega arith) ch.1.1 dr st in
      ((ch.0, (ch.1.0, r.0)), r.1)

-- THE PLAIN PACKER, fed the same calls, goes along.
module _ {S V : Type 0} (meaning : S → Meaning) (place : S → ℕ → ℕ → ℕ) (dom : Domain V) where
  record Along (need : Table → ℕ) (file : ℕ) (s : State S) (e f : Entry V) (t : State S) : Type 0 where
    pub plain : PlainPlayed dom need file (plainly s.stands) e f (plainly t.stands)
    pub need_kept : (meaning t.scheme).need ≡ need
    pub file_kept : (meaning t.scheme).file ≡ file

  one : (need : Table → ℕ) (file : ℕ) (s : State S) (e f : Entry V) (t : State S) → (meaning s.scheme).need ≡ need → (meaning s.scheme).file ≡ file →
      Played meaning place dom s e f t → Along need file s e f t
  one need file s (asked c) (asked d) t n k p = absurd p
  one need file s (asked c) (answered d a) t n k p = record {
    plain = subst (λ x. PlainCall dom x file (plainly s.stands) c (reply d a) (plainly t.stands)) n
        (subst (λ x. PlainCall dom (meaning s.scheme).need x (plainly s.stands) c (reply d a) (plainly t.stands)) k p.same);
    need_kept = p.need ∙ n;
    file_kept = p.file ∙ k;
  }
  one need file s (answered c a) (asked d) t n k p = absurd p
  one need file s (answered c a) (answered d b) t n k p = record {
    plain = (p.0, p.1, ap (λ x. plainly x.stands) p.2);
    need_kept = ap (λ x. (meaning x.scheme).need) p.2 ∙ n;
    file_kept = ap (λ x. (meaning x.scheme).file) p.2 ∙ k;
  }

  pub plain_chain : {E : Type 0} (seen : E → Entry V) (need : Table → ℕ) (file : ℕ) (s : State S) (es fs : List E) (t : State S) →
      (meaning s.scheme).need ≡ need → (meaning s.scheme).file ≡ file →
      Chain (λ s e f t. Played meaning place dom s (seen e) (seen f) t) s es fs t →
      Chain (λ s e f t. PlainPlayed dom need file s (seen e) (seen f) t) (plainly s.stands) es fs (plainly t.stands)
  plain_chain seen need file s [] [] t n k c = ap (λ x. plainly x.stands) c
  plain_chain seen need file s [] (f ∷ fs) t n k c = absurd c
  plain_chain seen need file s (e ∷ es) [] t n k c = absurd c
  plain_chain seen need file s (e ∷ es) (f ∷ fs) t n k c =
      let a = one need file s (seen e) (seen f) c.0 n k c.1.0 in
      (plainly c.0.stands, (a.plain, plain_chain seen need file c.0 es fs t a.need_kept a.file_kept c.1.1))
