-- A text cut behind its first line.
use Rattle.std.proofs.Common.{◌≡◌, ℕ, suc, ◌+◌, ◌<◌, true, false, eqb, List, [], ◌∷◌, length, take, drop, sym, ap, ◌∙◌, ⊎_elim, one-add, arith}
use Rattle.std.specs.List.{prefix_len}
use Rattle.std.proofs.lemmas.Bool.{cases_Bool}
use Rattle.model.specs.Lines.{lines, front}
use Rattle.reader.specs.Seen.{inside}

first_line : (b : ℕ) (bs : List ℕ) → lines (b ∷ bs) ≡ take (prefix_len inside (b ∷ bs)) (b ∷ bs) ∷ lines (drop (prefix_len inside (b ∷ bs) + 1) (b ∷ bs))
first_line b [] =
    ⊎_elim (λ (e : eqb b 10 ≡ true). simp e) (λ (e : eqb b 10 ≡ false). simp e) (cases_Bool (eqb b 10))
first_line b (c ∷ cs) =
    ⊎_elim
    (λ (e : eqb b 10 ≡ true). simp e)
    (λ (e : eqb b 10 ≡ false).
    let n = prefix_len inside (c ∷ cs) in
    let more : 1 + n ≡ suc n = one-add n in
    let far : suc n + 1 ≡ suc (n + 1) = omega arith in
    simp e (ap (front b) (first_line c cs) ∙ sym (ap (λ i. take i (b ∷ c ∷ cs) ∷ lines (drop (i + 1) (b ∷ c ∷ cs))) more ∙ ap (λ k. take (suc n) (b ∷ c ∷ cs) ∷ lines (drop k (b ∷ c ∷ cs))) far)))
    (cases_Bool (eqb b 10))

pub cut : (s : List ℕ) → 0 < length s → lines s ≡ take (prefix_len inside s) s ∷ lines (drop (prefix_len inside s + 1) s)
cut [] h = absurd (omega arith)
cut (b ∷ bs) h = first_line b bs
