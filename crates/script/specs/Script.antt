-- A line of a call script.
use Rattle.std.specs.Prelude.{ℕ, ◌-◌, Bool, cond, ◌&&◌, ◌||◌, List, [], ◌∷◌, length, take, drop, Some, None, codes, Option, ◌==◌, nat_le, slice_index}
use Rattle.std.specs.Str.{bytes_eq}
use Rattle.model.specs.Shapes.{every, has_some}
use Rattle.model.specs.Lines.{front}
pub use Rattle.script.specs.declared.line.SchemeName.{SchemeName}
use Rattle.script.specs.declared.line.SchemeName.TheVariants.{Rotating, Expanded}
pub use Rattle.script.specs.declared.line.DomainName.{DomainName}
use Rattle.script.specs.declared.line.DomainName.TheVariants.{Words, Floats}
use Rattle.script.specs.Escapes.{unescaped}
use Rattle.script.specs.Cells.{count_of, length_of, is_cell}

-- The lengths of the three buffers, and the first cells as they are written.
pub record Run : Type 0 where
  pub memory : ℕ
  pub values : ℕ
  pub waiting : ℕ
  pub cells : List (List ℕ)

pub data Call : Type 0 where
  machine loop : List ℕ → Call
  plan : Call
  expand : ℕ → Call
  run : Run → Call

pub data Line : Type 0 where
  blank : Line
  scheme : SchemeName → Line
  domain : DomainName → Line
  call : Call → Line
  wrong : Line

abbrev pub or_empty : Option (List ℕ) → List ℕ
or_empty None = []
or_empty (Some t) = t

-- WORDS are separated by one space: a second space makes an empty word.
abbrev pub parts : List ℕ → List (List ℕ)
parts [] = [] ∷ []
parts (b ∷ bs) = cond (b == 32) ([] ∷ parts bs) (front b (parts bs))

-- the words that follow a space, if there is one
abbrev pub words_of : List ℕ → List (List ℕ)
words_of [] = []
words_of (b ∷ bs) = parts bs

unfoldable pub begins : List ℕ → List ℕ → Bool
begins w l = bytes_eq (take (length w) l) w

-- of what follows the first quote: a text and the last quote
abbrev pub body_of : List ℕ → List ℕ
body_of r = take (length r - 1) r

abbrev pub is_quoted : List ℕ → Bool
is_quoted r = slice_index r (length r - 1) == 34 && has_some (unescaped (body_of r))

--    machine "TEXT"        loop "TEXT"
unfoldable pub quoted : List ℕ → List ℕ → Option (List ℕ)
quoted start l = cond (begins start l && is_quoted (drop (length start) l)) (unescaped (body_of (drop (length start) l))) None

--    expand N
unfoldable pub expand_of : List ℕ → Option ℕ
expand_of l = cond (begins (codes "expand ") l) (count_of (drop 7 l)) None

--    run MEMORY VALUES WAITING CELL CELL ...
abbrev pub cells_fit : DomainName → ℕ → List (List ℕ) → Bool
cells_fit d most cells = every (is_cell d) cells && nat_le (length cells) most

abbrev pub buffers : DomainName → Option ℕ → Option ℕ → Option ℕ → List (List ℕ) → Option Run
buffers d None v w cells = None
buffers d (Some m) None w cells = None
buffers d (Some m) (Some v) None cells = None
buffers d (Some m) (Some v) (Some w) cells = cond (cells_fit d m cells) (Some (record { memory = m; values = v; waiting = w; cells = cells })) None

-- the next word as the length of a buffer, and the words behind it
abbrev pub next_length : List (List ℕ) → Option ℕ
next_length [] = None
next_length (w ∷ ws) = length_of w

abbrev pub rest : List (List ℕ) → List (List ℕ)
rest [] = []
rest (w ∷ ws) = ws

abbrev pub run_by : DomainName → List (List ℕ) → Option Run
run_by d ws = buffers d (next_length ws) (next_length (rest ws)) (next_length (rest (rest ws))) (rest (rest (rest ws)))

unfoldable pub run_of : DomainName → List ℕ → Option Run
run_of d l = cond (begins (codes "run ") l) (run_by d (words_of (drop 3 l))) None

--    scheme rotating | scheme expanded        domain words | domain floats        before the first call
unfoldable pub setting_of : List ℕ → Line
setting_of l =
    cond (bytes_eq l (codes "scheme rotating")) (scheme Rotating)
    (cond (bytes_eq l (codes "scheme expanded")) (scheme Expanded)
    (cond (bytes_eq l (codes "domain words")) (domain Words)
    (cond (bytes_eq l (codes "domain floats")) (domain Floats) wrong)))

abbrev pub or_else : {X : Type 0} → (X → Line) → Option X → Line → Line
or_else f None l = l
or_else f (Some x) l = f x

abbrev pub form_of : DomainName → Bool → List ℕ → Line
form_of d called l =
    or_else (λ t. call (machine t)) (quoted (codes "machine \"") l)
    (or_else (λ t. call (loop t)) (quoted (codes "loop \"") l)
    (cond (bytes_eq l (codes "plan")) (call plan)
    (or_else (λ n. call (expand n)) (expand_of l)
    (or_else (λ r. call (run r)) (run_of d l)
    (cond called wrong (setting_of l))))))

-- An empty line and one that begins with # say nothing.
unfoldable pub is_blank : List ℕ → Bool
is_blank l = length l == 0 || slice_index l 0 == 35

-- WHAT A LINE SAYS, in a domain, before the first call or after it.
abbrev pub line_of : DomainName → Bool → List ℕ → Line
line_of d called l = cond (is_blank l) blank (form_of d called l)
