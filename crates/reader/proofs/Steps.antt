-- The tokens of a line, one after another.
use Rattle.std.proofs.Common.{◌≡◌, ℕ, suc, ◌+◌, ◌-◌, ◌<◌, true, false, List, [], ◌∷◌, length, take, drop, Some, None, Option, sym, refl, ap, ◌∙◌, ⊎_elim, one-add, arith}
use Rattle.std.proofs.lemmas.Bool.{cases_Bool, cases_lt}
use Rattle.std.proofs.lemmas.List.{drop-drop}
use Rattle.std.specs.List.{prefix_len}
use Rattle.std.specs.Bool.{⊤}
use Rattle.std.specs.Option.{MatchOption}
use Rattle.std.specs.Iterator.{YieldsFirstBy, MakesProgress, item_count}
use Rattle.model.specs.Lines.{space, solid, lexemes, Lexeme, lexeme, run}
use Rattle.reader.specs.declared.token.Token.{Token}
use Rattle.reader.specs.Seen.{seen, left, taken}

skips : (line at : ℕ) (bs : List ℕ) → lexemes line at true bs ≡ lexemes line (at + prefix_len space bs) true (drop (prefix_len space bs) bs)
skips line at [] = refl
skips line at (b ∷ bs) =
    ⊎_elim
    (λ (e : space b ≡ true).
    let far : at + 1 + prefix_len space bs ≡ at + suc (prefix_len space bs) = omega arith in
    let more : 1 + prefix_len space bs ≡ suc (prefix_len space bs) = one-add _ in
    simp (e, more) (skips line (at + 1) bs ∙ ap (λ i. lexemes line i true (drop (prefix_len space bs) bs)) far))
    (λ (e : space b ≡ false). let far : at + 0 ≡ at = omega arith in simp (e, far))
    (cases_Bool (space b))

runs : (line at : ℕ) (bs : List ℕ) → lexemes line at false bs ≡ lexemes line (at + prefix_len solid bs) true (drop (prefix_len solid bs) bs)
runs line at [] = refl
runs line at (b ∷ bs) =
    ⊎_elim
    (λ (e : space b ≡ true). let far : at + 0 ≡ at = omega arith in simp (e, far))
    (λ (e : space b ≡ false).
    let far : at + 1 + prefix_len solid bs ≡ at + suc (prefix_len solid bs) = omega arith in
    let more : 1 + prefix_len solid bs ≡ suc (prefix_len solid bs) = one-add _ in
    simp (e, more) (runs line (at + 1) bs ∙ ap (λ i. lexemes line i true (drop (prefix_len solid bs) bs)) far))
    (cases_Bool (space b))

-- a line that begins with a run
first : (line at : ℕ) (bs : List ℕ) → 0 < prefix_len solid bs → lexemes line at true bs ≡ run line at bs ∷ lexemes line (at + prefix_len solid bs) true (drop (prefix_len solid bs) bs)
first line at [] h = absurd (omega arith)
first line at (b ∷ bs) h =
    ⊎_elim
    (λ (e : space b ≡ true). absurd (omega (arith, simp e at h)))
    (λ (e : space b ≡ false).
    let far : at + 1 + prefix_len solid bs ≡ at + suc (prefix_len solid bs) = omega arith in
    let more : 1 + prefix_len solid bs ≡ suc (prefix_len solid bs) = one-add _ in
    let tail = runs line (at + 1) bs ∙ ap (λ i. lexemes line i true (drop (prefix_len solid bs) bs)) far in
    simp (e, more, tail))
    (cases_Bool (space b))

none : (line at : ℕ) (bs : List ℕ) → prefix_len solid (drop (prefix_len space bs) bs) ≡ 0 → lexemes line at true bs ≡ []
none line at [] h = refl
none line at (b ∷ bs) h =
    ⊎_elim
    (λ (e : space b ≡ true). let more : 1 + prefix_len space bs ≡ suc (prefix_len space bs) = one-add _ in simp e (none line (at + 1) bs (simp (e, more) at h)))
    (λ (e : space b ≡ false). absurd (omega (arith, simp e at h)))
    (cases_Bool (space b))

module _ (line : ℕ) (s : List ℕ) (at b e : ℕ) (eb : b ≡ at + prefix_len space (drop at s)) (ee : e ≡ b + prefix_len solid (drop b s)) where
  skipped : left line s at ≡ left line s b
  unfolding left
  skipped =
      skips line at (drop at s)
      ∙ ap (λ r. lexemes line (at + prefix_len space (drop at s)) true r) (drop-drop (prefix_len space (drop at s)) at s)
      ∙ sym (ap (λ i. left line s i) eb)

  -- a token, and what is left after it
  pub onward : (t : Lexeme) → (b ≡ e → ⊥) → t ≡ lexeme (take (e - b) (drop b s)) line b → left line s at ≡ t ∷ left line s e
  unfolding left
  onward t ne q =
      let size : e - b ≡ prefix_len solid (drop b s) = omega arith in
      let some : 0 < prefix_len solid (drop b s) = ⊎_elim (λ x. x) (λ x. absurd (ne (omega arith))) (cases_lt 0 (prefix_len solid (drop b s))) in
      let is : t ≡ run line b (drop b s) = q ∙ ap (λ n. lexeme (take n (drop b s)) line b) size in
      skipped ∙ first line b (drop b s) some
      ∙ ap (λ r. run line b (drop b s) ∷ lexemes line (b + prefix_len solid (drop b s)) true r) (drop-drop (prefix_len solid (drop b s)) b s)
      ∙ sym (ap (λ i. run line b (drop b s) ∷ left line s i) ee)
      ∙ sym (ap (λ x. x ∷ left line s e) is)

  -- no token any more
  pub finished : b ≡ e → left line s at ≡ []
  unfolding left
  finished q =
      let zero_long : prefix_len solid (drop b s) ≡ 0 = omega arith in
      let same : drop (prefix_len space (drop at s)) (drop at s) ≡ drop b s = drop-drop (prefix_len space (drop at s)) at s ∙ sym (ap (λ i. drop i s) eb) in
      none line at (drop at s) (ap (prefix_len solid) same ∙ zero_long)

  pub stays : b ≡ e → left line s e ≡ []
  unfolding left
  stays q = sym (ap (left line s) q) ∙ sym skipped ∙ finished q

-- the next token as the first of what is left
pub next_of : (ts us : List Lexeme) (r : Option Token) → ts ≡ taken r us → (r ≡ None → us ≡ []) → MatchOption r ((ts ≡ []) × (us ≡ [])) (λ t. ts ≡ seen t ∷ us)
next_of ts us None e f = (e ∙ f refl, f refl)
next_of ts us (Some t) e f = e

-- who takes the first of what is left comes nearer to the end
pub nearer : {S A B : Type 0} (view : A → B) (rest : S → List B) (s : S) (r : Option A) (t : S) → YieldsFirstBy view rest s r t → MakesProgress (λ _. ⊤) (item_count rest) s r t
nearer view rest s None t h = record { on = λ _. tt; keeps = tt; rests = λ _. tt }
nearer view rest s (Some x) t h = let less = ap length h in record { on = λ _. (tt, tt, omega arith); keeps = tt; rests = λ _. tt }
