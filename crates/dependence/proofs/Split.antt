-- The loop text's reading in two layers: questions 1 to 6, then question 7.
use Rattle.std.proofs.Common.{◌≡◌, ℕ, leb, List, [], ◌∷◌, length, Some, None, Ok, Err, Option, Result, sym, refl, ap, ◌∙◌, arith}
use Rattle.model.specs.Lines.{Line, lines_of}
use Rattle.model.specs.Questions.{Answer, good, bad, Refusal, at_line, first_no, no_or, unless, read_lines, before, reading}
use Rattle.model.specs.Loop.{Operation, Operand, on_operands}
use Rattle.model.specs.LoopText.{Statement, statement_rules, loop_rules, uses_of, resolved, loop_of, on_ok}
use Rattle.model.specs.Faults.{on_err, text_fault}
use Rattle.texts.specs.declared.fault.TextFault.{TextFault}
use Rattle.texts.specs.declared.fault.TextFault.TheVariants.{TooLong, Unprintable, NoForm, OutOfRange, WrongName, ManyClasses, CodeMissing, ManyOperations, NoOperation}
use Rattle.texts.specs.Faults.{refusal}
use Rattle.dependence.specs.declared.fault.GraphFault.{GraphFault}
use Rattle.dependence.specs.declared.fault.GraphFault.TheVariants.{Text, UnknownName}
use Rattle.dependence.specs.Faults.{fault}
use Rattle.dependence.specs.Known.{uses_known, refusal as graph_refusal}

abbrev pub seven : List Statement → Result (List Statement) Refusal
seven ss = unless (no_or 7 (uses_known ss (uses_of ss)) None) (Ok ss)

abbrev and_then : Result (List Statement) Refusal → Result (List Statement) Refusal
and_then (Ok ss) = seven ss
and_then (Err f) = Err f

through : (o : Option Refusal) (r : Result (List Statement) Refusal) → unless o (and_then r) ≡ and_then (unless o r)
through None r = refl
through (Some f) r = refl

at_end : (ss : List Statement) (a : Answer) → unless (no_or 6 a (no_or 7 (uses_known ss (uses_of ss)) None)) (Ok ss) ≡ and_then (unless (no_or 6 a None) (Ok ss))
at_end ss good = refl
at_end ss (bad l c) = refl

lines_split : (ls : List Line) (ss : List Statement) → read_lines loop_rules ss ls ≡ and_then (read_lines statement_rules ss ls)
lines_split [] ss = at_end ss (at_line 0 (leb 1 (length ss)))
lines_split (l ∷ ls) ss =
    ap (unless (first_no (statement_rules.asks ss l))) (lines_split ls (statement_rules.adds ss l)) ∙ through (first_no (statement_rules.asks ss l)) (read_lines statement_rules (statement_rules.adds ss l) ls)

split : (text : List ℕ) → reading loop_rules text ≡ and_then (reading statement_rules text)
split text = ap (unless (first_no (before text))) (lines_split (lines_of text) []) ∙ through (first_no (before text)) (read_lines statement_rules [] (lines_of text))

module _ (text : List ℕ) where
  pub refused_before : (f : Refusal) → Err f ≡ reading statement_rules text → reading loop_rules text ≡ Err f
  refused_before f e = split text ∙ sym (ap and_then e)

  pub then_seven : (ss : List Statement) → Ok ss ≡ reading statement_rules text → reading loop_rules text ≡ seven ss
  then_seven ss e = split text ∙ sym (ap and_then e)

-- a text fault is one of questions 1 to 6
pub same_fault : (f : TextFault) → fault (Text f) ≡ text_fault (refusal f)
same_fault TooLong = refl
same_fault (Unprintable line) = refl
same_fault (NoForm line) = refl
same_fault (OutOfRange line column) = refl
same_fault (WrongName line column) = refl
same_fault (ManyClasses line) = refl
same_fault CodeMissing = refl
same_fault (ManyOperations line) = refl
same_fault NoOperation = refl

-- an operation, its operands looked up
abbrev pub looked_up : List Statement → Statement → Operation Operand
looked_up ss s = on_operands (λ u. resolved ss u.operand) s.operation

-- what question 7 refuses
pub by_seven : (ss : List Statement) (f : GraphFault) → Some (graph_refusal f) ≡ no_or 7 (uses_known ss (uses_of ss)) None → Err (fault f) ≡ on_err text_fault (on_ok loop_of (seven ss))
by_seven ss f e = go (uses_known ss (uses_of ss)) e
  where
    told_seven : (g : GraphFault) (l : ℕ) (c : Option ℕ) → graph_refusal g ≡ record { number = 7; line = l; column = c } → fault g ≡ text_fault (graph_refusal g)
    told_seven (Text t) l c q = same_fault t
    told_seven (UnknownName l' c') l c q = refl

    go : (a : Answer) → Some (graph_refusal f) ≡ no_or 7 a None → Err (fault f) ≡ on_err text_fault (on_ok loop_of (unless (no_or 7 a None) (Ok ss)))
    go good h = let z : ◌≡◌ {A = ℕ} 0 1 = cc in absurd (omega arith)
    go (bad l c) h = let s : graph_refusal f ≡ record { number = 7; line = l; column = c } = cc in ap Err (told_seven f l c s ∙ ap text_fault s)

pub passed_seven : (ss : List Statement) → None ≡ no_or 7 (uses_known ss (uses_of ss)) None → seven ss ≡ Ok ss
passed_seven ss e = sym (ap (λ o. unless o (Ok ss)) e)
