-- What a reading is for: a text is accepted exactly if every question's answer is yes, and a refusal gives the first no.
use Rattle.std.specs.Prelude.{◌≡◌, ℕ, List, [], ◌∷◌, ◌++◌, map, Ok, Err, fold}
use Rattle.std.specs.List.{flat_map}
use Rattle.model.specs.Lines.{Line, lines_of}
use Rattle.model.specs.Questions.{good, bad, Asked, asked, Refusal, Rules, before, reading}
use Rattle.model.specs.MachineText.{Machine, machine_rules, class_of}
use Rattle.model.specs.LoopText.{Statement, loop_rules, statement_of}

-- each answer is yes
abbrev pub Yes : List Asked → Type 0
Yes [] = Unit {0}
Yes (q ∷ qs) = (q.answer ≡ good) × Yes qs

-- one is no, by the refusal's number and at its place, and all before it are yes
pub record FirstNo (qs : List Asked) (f : Refusal) : Type 0 where
  pub earlier : List Asked
  pub here : Asked
  pub later : List Asked
  pub split : qs ≡ earlier ++ here ∷ later
  pub yes_before : Yes earlier
  pub is : here ≡ asked f.number (bad f.line f.column)

module _ {R : Type 0} (k : Rules R) where
  -- what was read after some lines
  abbrev pub after : R → List Line → R
  after r ls = fold k.adds r ls

  -- each question put to each line, over what the lines before it said, is answered yes
  abbrev pub LinesYes : R → List Line → Type 0
  LinesYes r ls = (ps : List Line) (l : Line) (bs : List Line) → ls ≡ ps ++ l ∷ bs → Yes (k.asks (after r ps) l)

  -- the first no, in the lines or at the end
  pub data LinesNo (r : R) (ls : List Line) (f : Refusal) : Type 0 where
    at_line : (ps : List Line) (l : Line) (bs : List Line) → ls ≡ ps ++ l ∷ bs → LinesYes r ps → FirstNo (k.asks (after r ps) l) f → LinesNo r ls f
    at_end : LinesYes r ls → FirstNo (k.ends (after r ls)) f → LinesNo r ls f

  pub record Accepts (text : List ℕ) : Type 0 where
    pub short : Yes (before text)
    pub each_line : LinesYes k.start (lines_of text)
    pub at_last : Yes (k.ends (after k.start (lines_of text)))

  pub data Refuses (text : List ℕ) (f : Refusal) : Type 0 where
    too_long : FirstNo (before text) f → Refuses text f
    later_no : Yes (before text) → LinesNo k.start (lines_of text) f → Refuses text f

  pub record Law : Type 0 where
    pub accepts : (text : List ℕ) (r : R) → reading k text ≡ Ok r → Accepts text × (r ≡ after k.start (lines_of text))
    pub accepted : (text : List ℕ) → Accepts text → reading k text ≡ Ok (after k.start (lines_of text))
    pub refuses : (text : List ℕ) (f : Refusal) → reading k text ≡ Err f → Refuses text f
    pub refused : (text : List ℕ) (f : Refusal) → Refuses text f → reading k text ≡ Err f

-- the questions are put in the order of their numbers
abbrev pub numbers_of : List Asked → List ℕ
numbers_of qs = map (λ q. q.number) qs

-- The machine text; and the classes are those of its unit lines, in their order.
pub record MachineLaw : Type 0 where
  pub law : Law machine_rules
  pub order : (m : Machine) (l : Line) → numbers_of (machine_rules.asks m l) ≡ 1 ∷ 2 ∷ 3 ∷ 4 ∷ 5 ∷ []
  pub classes_are_lines : (text : List ℕ) (m : Machine) → reading machine_rules text ≡ Ok m → m.classes ≡ flat_map class_of (lines_of text)

-- The loop text; and its operations are those of its lines, in their order.
pub record LoopLaw : Type 0 where
  pub law : Law loop_rules
  pub order : (ss : List Statement) (l : Line) → numbers_of (loop_rules.asks ss l) ≡ 1 ∷ 2 ∷ 3 ∷ 4 ∷ 6 ∷ []
  pub order_at_end : (ss : List Statement) → numbers_of (loop_rules.ends ss) ≡ 6 ∷ 7 ∷ []
  pub statements_are_lines : (text : List ℕ) (ss : List Statement) → reading loop_rules text ≡ Ok ss → ss ≡ flat_map statement_of (lines_of text)
