-- What one line does, by its form.
use Rattle.std.proofs.Common.{◌≡◌, ℕ, ◌≤◌, Bool, true, false, List, [], ◌∷◌, ◌++◌, length, take, Some, None, Ok, Err, Option, Result, sym, refl, ap, ◌∙◌, arith}
use Rattle.std.proofs.lemmas.List.{append-nil}
use Rattle.model.specs.declared.MachineForm.{MachineForm}
use Rattle.model.specs.declared.MachineForm.TheVariants.{Unit as UnitForm, Op}
use Rattle.model.specs.Lines.{Line, Lexeme, tokens, tok, fits_all}
use Rattle.model.specs.Shapes.{every, between, has_some}
use Rattle.model.specs.Questions.{Answer, good, Refusal, no_or, unless, formed_by}
use Rattle.model.specs.MachineText.{Class, Machine, wants, form_of, formed, ranged_by, named_by, roomy_by, class_by, timings_by, machine_rules}
use Rattle.reader.specs.Seen.{seen, word_seen, number_seen}
use Rattle.reader.proofs.Walk.{fits_take, tok_take}
use Rattle.texts.specs.declared.forms.UnitLine.{UnitLine}
use Rattle.texts.specs.declared.forms.OpLine.{OpLine}
use Rattle.texts.specs.Forms.{UnitFormed, OpFormed}
use Rattle.texts.specs.Seen.{unit_step, op_step, line_step}

-- the form of a line, from its first six tokens
module _ (ts row : List Lexeme) (r : row ≡ take 6 ts) where
  fits_same : (f : MachineForm) (b : Bool) → fits_all (wants f) row ≡ b → fits_all (wants f) ts ≡ b
  fits_same UnitForm b e = sym (fits_take (wants UnitForm) ts 6 (omega arith)) ∙ sym (ap (fits_all (wants UnitForm)) r) ∙ e
  fits_same Op b e = sym (fits_take (wants Op) ts 6 (omega arith)) ∙ sym (ap (fits_all (wants Op)) r) ∙ e

  tok_same : (i : ℕ) (t : Lexeme) → i ≤ 5 → t ≡ tok row i → t ≡ tok ts i
  tok_same i t h e = e ∙ ap (λ xs. tok xs i) r ∙ tok_take ts 6 i (omega arith)

  is_unit : fits_all (wants UnitForm) row ≡ true → form_of ts ≡ Some UnitForm
  is_unit e = simp (fits_same UnitForm true e)

  is_op : fits_all (wants UnitForm) row ≡ false → fits_all (wants Op) row ≡ true → form_of ts ≡ Some Op
  is_op e f = simp (fits_same UnitForm false e, fits_same Op true f)

  is_none : fits_all (wants UnitForm) row ≡ false → fits_all (wants Op) row ≡ false → form_of ts ≡ None
  is_none e f = simp (fits_same UnitForm false e, fits_same Op false f)

some_tokens : (ts row : List Lexeme) → row ≡ take 6 ts → (length row ≡ 0 → ⊥) → ts ≡ [] → ⊥
some_tokens ts row r h e = h (ap length r ∙ ap (λ xs. length (take 6 xs)) e)

module _ (m : Machine) (l : Line) where
  module _ (e : every (between 32 126) l.bytes ≡ true) where
    abbrev adds_by : Option MachineForm → List Lexeme → Machine
    adds_by o ts = record { classes = m.classes ++ class_by o ts; timings = timings_by m o ts }

    abbrev from_2 : Answer → Option MachineForm → List Lexeme → Result Machine Refusal
    from_2 a o ts =
        unless (no_or 2 a (no_or 3 (ranged_by o ts) (no_or 4 (named_by m o ts) (no_or 5 (roomy_by m o l.number) None)))) (Ok (adds_by o ts))

    past_1 : line_step machine_rules m l ≡ from_2 (formed l) (form_of (tokens l)) (tokens l)
    past_1 = simp e

    line_3 : (tokens l ≡ [] → ⊥) → form_of (tokens l) ≡ None → Err (record { number = 2; line = l.number; column = None }) ≡ line_step machine_rules m l
    line_3 h o = go (tokens l) h o ∙ sym past_1
      where
        go : (ts : List Lexeme) → (ts ≡ [] → ⊥) → form_of ts ≡ None → Err (record { number = 2; line = l.number; column = None }) ≡ from_2 (formed_by (λ xs. has_some (form_of xs)) l.number ts) (form_of ts) ts
        go [] p q = absurd (p refl)
        go (t ∷ ts) p q = simp q

    has_form : (ts : List Lexeme) (f : MachineForm) → form_of ts ≡ Some f → formed_by (λ xs. has_some (form_of xs)) l.number ts ≡ good
    has_form [] f q = refl
    has_form (t ∷ ts) f q = simp q

    line_form : (f : MachineForm) → form_of (tokens l) ≡ Some f → from_2 good (Some f) (tokens l) ≡ line_step machine_rules m l
    line_form f q = sym (past_1 ∙ ap (λ a. from_2 a (form_of (tokens l)) (tokens l)) (has_form (tokens l) f q) ∙ ap (λ o. from_2 good o (tokens l)) q)

    abbrev no_class : List Class → Result Machine Refusal
    no_class cs =
        unless (no_or 3 (ranged_by (Some Op) (tokens l)) (no_or 4 (named_by m (Some Op) (tokens l)) None)) (Ok (record { classes = cs; timings = timings_by m (Some Op) (tokens l) }))

    module _ (row : List Lexeme) (r : row ≡ take 6 (tokens l)) where
      pub line_unit : (u : UnitLine) → UnitFormed row (Some u) → unit_step m l.number (word_seen u.name) (number_seen u.count) ≡ line_step machine_rules m l
      line_unit u f =
          ap (λ t. unit_step m l.number t (number_seen u.count)) (tok_same (tokens l) row r 1 _ (omega arith) f.1)
          ∙ ap (unit_step m l.number (tok (tokens l) 1)) (tok_same (tokens l) row r 2 _ (omega arith) f.2)
          ∙ line_form UnitForm (is_unit (tokens l) row r f.0)

      pub line_op : (o : OpLine) → UnitFormed row None → OpFormed row (Some o) → op_step m (seen o.code_token) (word_seen o.class) (number_seen o.latency) (number_seen o.busy) ≡ line_step machine_rules m l
      line_op o u f =
          ap (λ t. op_step m t (word_seen o.class) (number_seen o.latency) (number_seen o.busy)) (tok_same (tokens l) row r 1 _ (omega arith) f.1)
          ∙ ap (λ t. op_step m (tok (tokens l) 1) t (number_seen o.latency) (number_seen o.busy)) (tok_same (tokens l) row r 2 _ (omega arith) f.2)
          ∙ ap (λ t. op_step m (tok (tokens l) 1) (tok (tokens l) 2) t (number_seen o.busy)) (tok_same (tokens l) row r 3 _ (omega arith) f.3)
          ∙ ap (op_step m (tok (tokens l) 1) (tok (tokens l) 2) (tok (tokens l) 3)) (tok_same (tokens l) row r 4 _ (omega arith) f.4)
          ∙ ap (λ cs. no_class cs) (sym (append-nil m.classes)) ∙ line_form Op (is_op (tokens l) row r u f.0)

      pub line_other : UnitFormed row None → OpFormed row None → (length row ≡ 0 → ⊥) → Err (record { number = 2; line = l.number; column = None }) ≡ line_step machine_rules m l
      line_other u f h = line_3 (some_tokens (tokens l) row r h) (is_none (tokens l) row r u f)
