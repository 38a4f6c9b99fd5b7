-- What the statements of a loop text are known by, once the questions of its lines are answered yes. Assumes nothing.
use Rattle.std.proofs.Common.{◌≡◌, ℕ, zero, suc, ◌+◌, ◌≤◌, Bool, true, false, cond, ◌&&◌, leb, List, [], ◌∷◌, ◌++◌, length, drop, pos, neg_ℤ, Some, None, Option, refl, arith}
use Rattle.std.specs.List.{AllByRecursion}
use Rattle.std.proofs.ByRecursion.{All-push}
use Rattle.std.proofs.lemmas.List.{append-nil}
use Rattle.std.proofs.lemmas.Bool.{le-leb, leb-true, and_parts, and_from}
use Rattle.model.specs.declared.Code.{Code}
use Rattle.model.specs.declared.Code.TheVariants.{Load, Store, Add, Sub, Mul, Move}
use Rattle.model.specs.Shapes.{between, has_some, value, name_of, after_at, Kind, word, number, operand, other}
use Rattle.model.specs.Lines.{Lexeme, space, run, lexemes, tokens, tok, amount, is_digits}
use Rattle.model.specs.Questions.{good, each}
use Rattle.model.specs.Loop.{EachOperand, makes, stride_of, offset_of}
use Rattle.model.specs.LoopText.{Written, numeral, name, Use, Statement, form_of, minus, written_by, use_at, operation_by, defined_by, name_in, statement_by, operand_fine, operand_check, a_stride, an_offset, checks_by, ranged_by, memory_operations, loop_rules}
use Rattle.model.specs.Soundness.{in_range, sound_cell}
use Rattle.model.specs.TextLaws.{Yes}
use Rattle.text_laws.proofs.Asked.{line_yes, each_yes}
use Rattle.text_laws.proofs.Definers.{Rising, rising_more, rising_push}

-- a token stands on its line
all_on : (bs : List ℕ) (n at : ℕ) (fresh : Bool) → AllByRecursion (λ t. t.line ≡ n) (lexemes n at fresh bs)
all_on [] n at fresh = tt
all_on (b ∷ bs) n at fresh = go (all_on bs n (at + 1)) (space b) fresh
  where
    go : ((f : Bool) → AllByRecursion (λ t. t.line ≡ n) (lexemes n (at + 1) f bs)) → (x f : Bool)
        → AllByRecursion (λ t. t.line ≡ n) (cond x (lexemes n (at + 1) true bs) (cond f (run n at (b ∷ bs) ∷ lexemes n (at + 1) false bs) (lexemes n (at + 1) false bs)))
    go ih true f = ih true
    go ih false true = (refl, ih false)
    go ih false false = ih false

-- a fine operand is one of the line's tokens
on_line : (ts : List Lexeme) (n i : ℕ) → AllByRecursion (λ t. t.line ≡ n) ts → operand_fine (tok ts i).kind (tok ts i).bytes ≡ true → (tok ts i).line ≡ n
on_line [] n i a e = let z : ◌≡◌ {A = ℕ} 0 1 = cc in absurd (omega arith)
on_line (t ∷ ts) n zero a e = a.0
on_line (t ∷ ts) n (suc i) a e = on_line ts n i a.1 e

-- the ranges of a written operand
abbrev pub ranging : Written → Bool
ranging (numeral z) = in_range z
ranging (name w d) = leb d 7

negated : (v : ℕ) → leb v 32768 ≡ true → in_range (neg_ℤ (pos v)) ≡ true
negated zero e = refl
negated (suc v) e = le-leb v 32767 (omega (arith, leb-true (suc v) 32768 e))

written : (k : Kind) (w : List ℕ) → operand_fine k w ≡ true → ranging (written_by k w) ≡ true
written word w e = refl
written number w e = e
written operand w e = go (minus w) e
  where
    go : (b : Bool) → cond b (leb (value (drop 1 w)) 32768) (between 1 7 (value (after_at w))) ≡ true
        → ranging (cond b (numeral (neg_ℤ (pos (value (drop 1 w))))) (name (name_of w) (value (after_at w)))) ≡ true
    go true h = negated (value (drop 1 w)) h
    go false h = (and_parts (leb 1 (value (after_at w))) (leb (value (after_at w)) 7) h).1
written other w e = let z : ◌≡◌ {A = ℕ} 0 1 = cc in absurd (omega arith)

abbrev pub FineUse : ℕ → Use → Type 0
FineUse n u = (u.line ≡ n) × (ranging u.operand ≡ true)

-- Only what makes a value defines a name; each operand is on the statement's line and in range, and so are stride and offset.
pub record Fine (s : Statement) : Type 0 where
  pub valued : has_some s.defines ≡ true → makes s.operation ≡ true
  pub uses : EachOperand (FineUse s.line) s.operation
  pub cell : sound_cell (stride_of s.operation) (offset_of s.operation) ≡ true

module _ (n : ℕ) (ts : List Lexeme) (on : AllByRecursion (λ t. t.line ≡ n) ts) where
  use_fine : (i : ℕ) → operand_fine (tok ts i).kind (tok ts i).bytes ≡ true → FineUse n (use_at ts i)
  use_fine i e = (on_line ts n i on e, written (tok ts i).kind (tok ts i).bytes e)

  cell_fine : (i j : ℕ) → (a_stride (tok ts i)).fine ≡ true → (an_offset (tok ts j)).fine ≡ true → sound_cell (amount ts i) (amount ts j) ≡ true
  cell_fine i j e f = and_from (leb (amount ts i) 16) (leb (amount ts j) 65535) (and_parts (is_digits (tok ts i).kind) _ e).1 (and_parts (is_digits (tok ts j).kind) _ f).1

  two_fine : each (operand_check (tok ts 3) ∷ operand_check (tok ts 4) ∷ []) ≡ good → FineUse n (use_at ts 3) × FineUse n (use_at ts 4)
  two_fine r =
      let a = each_yes (operand_check (tok ts 3)) (operand_check (tok ts 4) ∷ []) r in
      (use_fine 3 a.0, use_fine 4 (each_yes (operand_check (tok ts 4)) [] a.1).0)

  fine_form : (c : Code) → each (checks_by c ts) ≡ good → Fine (record { line = n; defines = name_in (defined_by c ts); operation = operation_by c ts })
  fine_form Load r =
      let a = each_yes (a_stride (tok ts 3)) (an_offset (tok ts 4) ∷ []) r in
      record { valued = λ _. refl; uses = tt; cell = cell_fine 3 4 a.0 (each_yes (an_offset (tok ts 4)) [] a.1).0 }
  fine_form Store r =
      let a = each_yes (operand_check (tok ts 1)) (a_stride (tok ts 2) ∷ an_offset (tok ts 3) ∷ []) r in
      let b = each_yes (a_stride (tok ts 2)) (an_offset (tok ts 3) ∷ []) a.1 in
      record { valued = λ e. e; uses = use_fine 1 a.0; cell = cell_fine 2 3 b.0 (each_yes (an_offset (tok ts 3)) [] b.1).0 }
  fine_form Add r = record { valued = λ _. refl; uses = two_fine r; cell = refl }
  fine_form Sub r = record { valued = λ _. refl; uses = two_fine r; cell = refl }
  fine_form Mul r = record { valued = λ _. refl; uses = two_fine r; cell = refl }
  fine_form Move r = record { valued = λ _. refl; uses = use_fine 3 (each_yes (operand_check (tok ts 3)) [] r).0; cell = refl }

-- the statements of the lines before line n
pub record Half (n : ℕ) (ss : List Statement) : Type 0 where
  pub rising : Rising 0 n ss
  pub fine : AllByRecursion Fine ss
  pub few : length ss ≤ 32
  pub memory : memory_operations ss ≤ 16

keep_form : (n : ℕ) (ss : List Statement) (ts : List Lexeme) → AllByRecursion (λ t. t.line ≡ n) ts → Half n ss → (f : Option Code) → ranged_by f ts ≡ good
    → length (ss ++ statement_by n f ts) ≤ 32 → memory_operations (ss ++ statement_by n f ts) ≤ 16 → Half (n + 1) (ss ++ statement_by n f ts)
keep_form n ss ts on h None r few memory = rw append-nil (record { rising = rising_more ss 0 n h.rising; fine = h.fine; few = h.few; memory = h.memory })
keep_form n ss ts on h (Some c) r few memory =
    let s : Statement = record { line = n; defines = name_in (defined_by c ts); operation = operation_by c ts } in
    record { rising = rising_push ss s 0 n refl h.rising; fine = All-push Fine ss s h.fine (fine_form n ts on c r); few = few; memory = memory }

pub keeps : (n : ℕ) (ss : List Statement) (bytes : List ℕ) → Half n ss → Yes (loop_rules.asks ss (record { number = n; bytes = bytes })) → Half (n + 1) (loop_rules.adds ss (record { number = n; bytes = bytes }))
keeps n ss bytes h y =
    let ts = tokens (record { number = n; bytes = bytes }) in
    let more = ss ++ statement_by n (form_of ts) ts in
    let room = and_parts (leb (length more) 32) (leb (memory_operations more) 16) (line_yes n (leb (length more) 32 && leb (memory_operations more) 16) y.1.1.1.1.0) in
    keep_form n ss ts (all_on bytes n 0 true) h (form_of ts) y.1.1.0 (leb-true (length more) 32 room.0) (leb-true (memory_operations more) 16 room.1)
