-- What one line of a loop text does, by its form.
use Rattle.std.proofs.Common.{◌≡◌, ℕ, ◌≤◌, Bool, true, false, ◌||◌, ◌&&◌, leb, List, [], ◌∷◌, ◌++◌, map, length, take, Some, None, Ok, Err, Option, Result, sym, refl, ap, ◌∙◌, arith}
use Rattle.std.proofs.lemmas.List.{append-nil}
use Rattle.model.specs.declared.Code.{Code}
use Rattle.model.specs.declared.Code.TheVariants.{Load, Store, Add, Sub, Mul, Move}
use Rattle.model.specs.declared.Operator.{Operator}
use Rattle.model.specs.declared.Operator.TheVariants.{Plus, Minus, Times}
use Rattle.model.specs.Shapes.{every, some, between, has_some}
use Rattle.model.specs.Lines.{Line, Lexeme, tokens, tok, fits_all}
use Rattle.model.specs.Questions.{Answer, good, bad, Refusal, at_line, each, no_or, unless, formed_by}
use Rattle.model.specs.Loop.{Operation, binary}
use Rattle.model.specs.LoopText.{Use, Statement, wants, form_of, formed, ranged_by, named_by, statement_by, checks_by, operation_by, defined_by, name_in, memory_operations, statement_rules, operand_check, use_of}
use Rattle.reader.proofs.Walk.{fits_take, tok_take}
use Rattle.texts.specs.Seen.{line_step}
use Rattle.statements.specs.declared.forms.Form.{Form}
use Rattle.statements.specs.Statements.{in_range_or, push_step, form_step}
use Rattle.statements.specs.Forms.{binary_code, code_in, tokens_in, Same, FormFound}

pub some-map : {X Y : Type 0} (p : Y → Bool) (f : X → Y) (xs : List X) → some p (map f xs) ≡ some (λ x. p (f x)) xs
some-map p f [] = refl
some-map p f (x ∷ xs) = ap (λ b. p (f x) || b) (some-map p f xs)

-- a form with two operands, whatever its operator is
pub binary_said : (o : Operator) (w u v a b : Lexeme) → in_range_or (operand_check a ∷ operand_check b ∷ []) (Ok (binary o (use_of a) (use_of b)))
    ≡ in_range_or (checks_by (binary_code o) (w ∷ u ∷ v ∷ a ∷ b ∷ [])) (Ok (operation_by (binary_code o) (w ∷ u ∷ v ∷ a ∷ b ∷ [])))
binary_said Plus w u v a b = refl
binary_said Minus w u v a b = refl
binary_said Times w u v a b = refl

-- the questions 3, 4 and 6 one after another
abbrev three : {X : Type 0} → Answer → Answer → Answer → Result X Refusal → Result X Refusal
three a b d r = unless (no_or 3 a (no_or 4 b (no_or 6 d None))) r

module _ {X Y Z : Type 0} (x : X) (y : Y) (d : Answer) (r : Result Z Refusal) where
  stop_3 : (e : Refusal) (a b : Answer) → Err e ≡ unless (no_or 3 a None) (Ok x) → Err e ≡ three a b d r
  stop_3 e good b h = cc
  stop_3 e (bad l c) b h = let s : e ≡ record { number = 3; line = l; column = c } = cc in ap Err s

  stop_4 : (e : Refusal) (x' : X) (a b : Answer) → Ok x' ≡ unless (no_or 3 a None) (Ok x) → Err e ≡ unless (no_or 4 b None) (Ok y) → Err e ≡ three a b d r
  stop_4 e x' good good h k = cc
  stop_4 e x' good (bad l c) h k = let s : e ≡ record { number = 4; line = l; column = c } = cc in ap Err s
  stop_4 e x' (bad l c) b h k = cc

  on_6 : (x' : X) (y' : Y) (a b : Answer) → Ok x' ≡ unless (no_or 3 a None) (Ok x) → Ok y' ≡ unless (no_or 4 b None) (Ok y) → unless (no_or 6 d None) r ≡ three a b d r
  on_6 x' y' good good h k = refl
  on_6 x' y' good (bad l c) h k = cc
  on_6 x' y' (bad l c) b h k = cc

same_ok : {X : Type 0} (n : ℕ) (x x' : X) (a : Answer) → Ok x' ≡ unless (no_or n a None) (Ok x) → x' ≡ x
same_ok n x x' good h = cc
same_ok n x x' (bad l c) h = cc

module _ (ss : List Statement) (n : ℕ) (c : Code) (ts : List Lexeme) where
  pub form_3 : (e : Refusal) → Err e ≡ in_range_or (checks_by c ts) (Ok (operation_by c ts)) → Err e ≡ form_step ss n c ts
  form_3 e h = stop_3 (operation_by c ts) (operation_by c ts) _ _ e (each (checks_by c ts)) (named_by ss (Some c) ts) h

  module _ (o : Operation Use) (h : Ok o ≡ in_range_or (checks_by c ts) (Ok (operation_by c ts))) where
    pub form_4 : (e : Refusal) → Err e ≡ unless (no_or 4 (named_by ss (Some c) ts) None) (Ok (name_in (defined_by c ts))) → Err e ≡ form_step ss n c ts
    form_4 e k = stop_4 (operation_by c ts) (name_in (defined_by c ts)) _ _ e o (each (checks_by c ts)) (named_by ss (Some c) ts) h k

    pub form_6 : (d : Option (List ℕ)) → Ok d ≡ unless (no_or 4 (named_by ss (Some c) ts) None) (Ok (name_in (defined_by c ts))) →
        push_step ss (record { line = n; defines = d; operation = o }) ≡ form_step ss n c ts
    form_6 d k =
        ap (λ x. push_step ss (record { line = n; defines = d; operation = x })) (same_ok 3 _ _ (each (checks_by c ts)) h)
        ∙ ap (λ x. push_step ss (record { line = n; defines = x; operation = operation_by c ts })) (same_ok 4 _ _ (named_by ss (Some c) ts) k)
        ∙ on_6 (operation_by c ts) (name_in (defined_by c ts)) _ _ o d (each (checks_by c ts)) (named_by ss (Some c) ts) h k

-- a line does what the tokens say that its form reads
by_same : (ss : List Statement) (n : ℕ) (c : Code) (us ts : List Lexeme) → Same c us ts → form_step ss n c us ≡ form_step ss n c ts
by_same ss n Load us ts h = simp (h.0, h.1, h.2)
by_same ss n Store us ts h = simp (h.0, h.1, h.2)
by_same ss n Add us ts h = simp (h.0, h.1, h.2)
by_same ss n Sub us ts h = simp (h.0, h.1, h.2)
by_same ss n Mul us ts h = simp (h.0, h.1, h.2)
by_same ss n Move us ts h = simp (h.0, h.1)

module _ (ts row : List Lexeme) (r : row ≡ take 6 ts) where
  tok_same : (i : ℕ) (t : Lexeme) → i ≤ 5 → t ≡ tok row i → t ≡ tok ts i
  tok_same i t h e = e ∙ ap (λ xs. tok xs i) r ∙ tok_take ts 6 i (omega arith)

  same_tokens : (c : Code) (us : List Lexeme) → Same c us row → Same c us ts
  same_tokens Load us h = (tok_same 0 _ (omega arith) h.0, tok_same 3 _ (omega arith) h.1, tok_same 4 _ (omega arith) h.2)
  same_tokens Store us h = (tok_same 1 _ (omega arith) h.0, tok_same 2 _ (omega arith) h.1, tok_same 3 _ (omega arith) h.2)
  same_tokens Add us h = (tok_same 0 _ (omega arith) h.0, tok_same 3 _ (omega arith) h.1, tok_same 4 _ (omega arith) h.2)
  same_tokens Sub us h = (tok_same 0 _ (omega arith) h.0, tok_same 3 _ (omega arith) h.1, tok_same 4 _ (omega arith) h.2)
  same_tokens Mul us h = (tok_same 0 _ (omega arith) h.0, tok_same 3 _ (omega arith) h.1, tok_same 4 _ (omega arith) h.2)
  same_tokens Move us h = (tok_same 0 _ (omega arith) h.0, tok_same 3 _ (omega arith) h.1)

  fits_same : (c : Code) → fits_all (wants c) row ≡ fits_all (wants c) ts
  fits_same Load = ap (fits_all (wants Load)) r ∙ fits_take (wants Load) ts 6 (omega arith)
  fits_same Store = ap (fits_all (wants Store)) r ∙ fits_take (wants Store) ts 6 (omega arith)
  fits_same Add = ap (fits_all (wants Add)) r ∙ fits_take (wants Add) ts 6 (omega arith)
  fits_same Sub = ap (fits_all (wants Sub)) r ∙ fits_take (wants Sub) ts 6 (omega arith)
  fits_same Mul = ap (fits_all (wants Mul)) r ∙ fits_take (wants Mul) ts 6 (omega arith)
  fits_same Move = ap (fits_all (wants Move)) r ∙ fits_take (wants Move) ts 6 (omega arith)

  form_same : form_of row ≡ form_of ts
  form_same = simp (fits_same Load, fits_same Store, fits_same Add, fits_same Sub, fits_same Mul, fits_same Move)

some_tokens : (ts row : List Lexeme) → row ≡ take 6 ts → (length row ≡ 0 → ⊥) → ts ≡ [] → ⊥
some_tokens ts row r h e = h (ap length r ∙ ap (λ xs. length (take 6 xs)) e)

module _ (ss : List Statement) (l : Line) where
  pub line_1 : every (between 32 126) l.bytes ≡ false → Err (record { number = 1; line = l.number; column = None }) ≡ line_step statement_rules ss l
  line_1 e = simp e

  module _ (e : every (between 32 126) l.bytes ≡ true) where
    abbrev more : Option Code → List Lexeme → List Statement
    more o ts = ss ++ statement_by l.number o ts

    abbrev from_2 : Answer → Option Code → List Lexeme → Result (List Statement) Refusal
    from_2 a o ts =
        unless (no_or 2 a (no_or 3 (ranged_by o ts) (no_or 4 (named_by ss o ts) (no_or 6 (at_line l.number (leb (length (more o ts)) 32 && leb (memory_operations (more o ts)) 16)) None)))) (Ok (more o ts))

    past_1 : line_step statement_rules ss l ≡ from_2 (formed l) (form_of (tokens l)) (tokens l)
    past_1 = simp e

    -- a line without tokens adds nothing, since the statements before it had room
    pub line_2 : leb (length ss) 32 ≡ true → leb (memory_operations ss) 16 ≡ true → tokens l ≡ [] → Ok ss ≡ line_step statement_rules ss l
    line_2 p q h = go (tokens l) h ∙ sym past_1
      where
        go : (ts : List Lexeme) → ts ≡ [] → Ok ss ≡ from_2 (formed_by (λ xs. has_some (form_of xs)) l.number ts) (form_of ts) ts
        go [] k = simp (append-nil ss, p, q)
        go (t ∷ ts) k = cc

    line_3 : (tokens l ≡ [] → ⊥) → form_of (tokens l) ≡ None → Err (record { number = 2; line = l.number; column = None }) ≡ line_step statement_rules ss l
    line_3 h o = go (tokens l) h o ∙ sym past_1
      where
        go : (ts : List Lexeme) → (ts ≡ [] → ⊥) → form_of ts ≡ None → Err (record { number = 2; line = l.number; column = None }) ≡ from_2 (formed_by (λ xs. has_some (form_of xs)) l.number ts) (form_of ts) ts
        go [] p q = absurd (p refl)
        go (t ∷ ts) p q = simp q

    has_form : (ts : List Lexeme) (c : Code) → form_of ts ≡ Some c → formed_by (λ xs. has_some (form_of xs)) l.number ts ≡ good
    has_form [] c q = refl
    has_form (t ∷ ts) c q = simp q

    line_form : (c : Code) → form_of (tokens l) ≡ Some c → form_step ss l.number c (tokens l) ≡ line_step statement_rules ss l
    line_form c q = sym (past_1 ∙ ap (λ a. from_2 a (form_of (tokens l)) (tokens l)) (has_form (tokens l) c q) ∙ ap (λ o. from_2 good o (tokens l)) q)

    module _ (row : List Lexeme) (r : row ≡ take 6 (tokens l)) where
      pub line_said : (f : Form) → FormFound row (Some f) → form_step ss l.number (code_in f) (tokens_in f) ≡ line_step statement_rules ss l
      line_said f h =
          by_same ss l.number (code_in f) (tokens_in f) (tokens l) (same_tokens (tokens l) row r (code_in f) (tokens_in f) h.1)
          ∙ line_form (code_in f) (sym (form_same (tokens l) row r) ∙ h.0)

      pub line_other : FormFound row None → (length row ≡ 0 → ⊥) → Err (record { number = 2; line = l.number; column = None }) ≡ line_step statement_rules ss l
      line_other f h = line_3 (some_tokens (tokens l) row r h) (sym (form_same (tokens l) row r) ∙ f)
