-- The first tokens of a line say whether it has a form, and what stands in it.
use Rattle.std.proofs.Common.{◌≡◌, ℕ, zero, suc, ◌+◌, ◌<◌, ◌≤◌, Bool, true, false, cond, ◌&&◌, leb, List, [], ◌∷◌, ◌++◌, length, get_or, take, refl, sym, ap, ◌∙◌, ⊎_elim, arith}
use Rattle.std.proofs.lemmas.Bool.{and_parts, leb-true, cases_lt}
use Rattle.std.proofs.lemmas.List.{append-nil, take_all, take_at}
use Rattle.model.specs.Shapes.{between, is_name, kind_of}
use Rattle.model.specs.Lines.{Line, Lexeme, Want, fits, fits_all, tok, tokens, lexemes, space, run}

pub fits_take : (ws : List Want) (ts : List Lexeme) (n : ℕ) → length ws < n → fits_all ws (take n ts) ≡ fits_all ws ts
fits_take ws ts zero h = absurd (omega arith)
fits_take [] [] (suc n) h = refl
fits_take [] (t ∷ ts) (suc n) h = refl
fits_take (w ∷ ws) [] (suc n) h = refl
fits_take (w ∷ ws) (t ∷ ts) (suc n) h = ap (λ b. fits w t && b) (fits_take ws ts n (omega arith))

pub tok_take : (ts : List Lexeme) (n i : ℕ) → i < n → tok (take n ts) i ≡ tok ts i
tok_take ts zero i h = absurd (omega arith)
tok_take [] (suc n) i h = refl
tok_take (t ∷ ts) (suc n) zero h = refl
tok_take (t ∷ ts) (suc n) (suc i) h = tok_take ts n i (omega arith)

-- the first k, taken one after another: all k, or fewer where there are no more
pub first_few : {A : Type 0} (xs ys ts : List A) (n k : ℕ) → xs ++ ys ≡ ts → length xs + n ≡ k → (0 < n → ys ≡ []) → xs ≡ take k ts
first_few xs ys ts n k e f g =
    ⊎_elim
    (λ (p : 0 < n).
    let all : xs ≡ ts = sym (append-nil xs) ∙ ap (λ zs. xs ++ zs) (sym (g p)) ∙ e in
    all ∙ sym (take_all k ts (omega (arith, ap length all))))
    (λ (p : n ≤ 0). sym (take_at xs ys k (omega arith)) ∙ ap (take k) e)
    (cases_lt 0 n)

-- each token has the kind of its bytes
abbrev Fit : Lexeme → Type 0
Fit t = t.kind ≡ kind_of t.bytes

fit_pick : (s f : Bool) (r : Lexeme) (xs ys : List Lexeme) → Fit r → ((j : ℕ) → Fit (tok xs j)) → ((j : ℕ) → Fit (tok ys j)) → (j : ℕ) → Fit (tok (cond s xs (cond f (r ∷ ys) ys)) j)
fit_pick true f r xs ys h hx hy j = hx j
fit_pick false true r xs ys h hx hy zero = h
fit_pick false true r xs ys h hx hy (suc j) = hy j
fit_pick false false r xs ys h hx hy j = hy j

fit_lexemes : (line at : ℕ) (fresh : Bool) (bs : List ℕ) (i : ℕ) → Fit (tok (lexemes line at fresh bs) i)
fit_lexemes line at fresh [] i = refl
fit_lexemes line at fresh (b ∷ bs) i =
    fit_pick (space b) fresh (run line at (b ∷ bs)) (lexemes line (at + 1) true bs) (lexemes line (at + 1) false bs) refl
    (fit_lexemes line (at + 1) true bs) (fit_lexemes line (at + 1) false bs) i

pub kind_fits : (l : Line) (i : ℕ) → (tok (tokens l) i).kind ≡ kind_of (tok (tokens l) i).bytes
kind_fits l i = fit_lexemes l.number 0 true l.bytes i

pub name_short : (w : List ℕ) → is_name w ≡ true → length w ≤ 8
name_short w e = let x = and_parts (between 1 8 (length w)) _ e in let y = and_parts (leb 1 (length w)) (leb (length w) 8) x.0 in leb-true (length w) 8 y.1

-- a form has as many tokens as it wants
pub fits_len : (ws : List Want) (ts : List Lexeme) → (length ts ≡ length ws → ⊥) → fits_all ws ts ≡ false
fits_len [] [] h = absurd (h refl)
fits_len [] (t ∷ ts) h = refl
fits_len (w ∷ ws) [] h = refl
fits_len (w ∷ ws) (t ∷ ts) h = off (fits w t) (fits_all ws ts) (fits_len ws ts (λ e. h (omega (arith, e))))
  where
    off : (a b : Bool) → b ≡ false → (a && b) ≡ false
    off true b e = e
    off false b e = refl

-- a list by its items
pub by_four : {X : Type 0} (xs : List X) (a b c d : X) → a ≡ get_or xs 0 a → b ≡ get_or xs 1 b → c ≡ get_or xs 2 c → d ≡ get_or xs 3 d
    → length xs ≡ 4 → xs ≡ a ∷ b ∷ c ∷ d ∷ []
by_four (t ∷ u ∷ v ∷ w ∷ []) a b c d ea eb ec ed h = cc
by_four [] a b c d ea eb ec ed h = absurd (omega arith)
by_four (t ∷ []) a b c d ea eb ec ed h = absurd (omega arith)
by_four (t ∷ u ∷ []) a b c d ea eb ec ed h = absurd (omega arith)
by_four (t ∷ u ∷ v ∷ []) a b c d ea eb ec ed h = absurd (omega arith)
by_four (t ∷ u ∷ v ∷ w ∷ x ∷ xs) a b c d ea eb ec ed h = absurd (omega arith)

pub by_five : {X : Type 0} (xs : List X) (a b c d e : X) → a ≡ get_or xs 0 a → b ≡ get_or xs 1 b → c ≡ get_or xs 2 c → d ≡ get_or xs 3 d → e ≡ get_or xs 4 e
    → length xs ≡ 5 → xs ≡ a ∷ b ∷ c ∷ d ∷ e ∷ []
by_five [] a b c d e ea eb ec ed ee h = absurd (omega arith)
by_five (s ∷ xs) a b c d e ea eb ec ed ee h = let r = by_four xs b c d e eb ec ed ee (omega arith) in cc
