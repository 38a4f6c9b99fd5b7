-- The records of the code as the definitions have them, and what one line of a machine text does.
use Rattle.std.specs.Prelude.{ℕ, ◌+◌, not, ◌&&◌, List, [], ◌∷◌, ◌++◌, map, length, Some, None, Ok, Err, Result, nat_le, slice_index_or, slice_set}
use Rattle.model.specs.Shapes.{has_some, code_of, between, value, is_reserved}
use Rattle.model.specs.Lines.{Line, Lexeme}
use Rattle.model.specs.Questions.{asked, at_line, check, each, first_no, unless, Refusal, Rules}
use Rattle.model.specs.MachineText.{Class, Machine, number_of, class_at, names_class}
use Rattle.few.specs.Held.{held}
use Rattle.texts.specs.declared.fault.TextFault.{TextFault}
use Rattle.texts.specs.declared.name.Name.{Name}
use Rattle.texts.specs.declared.entries.Class.{Class as OwnClass}
use Rattle.texts.specs.declared.entries.Entries.{Entries}
use Rattle.texts.specs.Faults.{refusal}

abbrev pub name_seen : Name → List ℕ
name_seen n = held n.bytes

abbrev pub class_seen : OwnClass → Class
class_seen c = record { name = name_seen c.name; count = c.units }

abbrev pub classes_seen : List OwnClass → List Class
classes_seen cs = map class_seen cs

abbrev pub entries_seen : Entries → Machine
entries_seen m = record { classes = classes_seen (held m.classes); timings = m.timings }

-- what a call that writes a record answers
abbrev pub told : {X R : Type 0} → Result X TextFault → R → Result R Refusal
told (Ok x) m = Ok m
told (Err f) m = Err (refusal f)

-- a unit line, from its name and its count
abbrev pub unit_step : Machine → ℕ → Lexeme → Lexeme → Result Machine Refusal
unit_step m n a b =
    unless
    (first_no
    (asked 3 (each (check b (between 1 8 (value b.bytes)) ∷ []))
    ∷ asked 4 (each (check a (not (is_reserved a.bytes) && not (names_class m.classes a.bytes)) ∷ []))
    ∷ asked 5 (at_line n (nat_le (length m.classes + 1) 8))
    ∷ []))
    (Ok (record { classes = m.classes ++ record { name = a.bytes; count = value b.bytes } ∷ []; timings = m.timings }))

-- an op line, from its code, its class, its latency and its busy time
abbrev pub op_step : Machine → Lexeme → Lexeme → Lexeme → Lexeme → Result Machine Refusal
op_step m a b c d =
    unless
    (first_no
    (asked 3 (each (check c (between 1 8 (value c.bytes)) ∷ check d (between 1 (value c.bytes) (value d.bytes)) ∷ []))
    ∷ asked 4 (each (check a (not (has_some (slice_index_or m.timings (number_of (code_of a.bytes)) None))) ∷ check b (names_class m.classes b.bytes) ∷ []))
    ∷ []))
    (Ok
    (record {
      classes = m.classes;
      timings = slice_set m.timings (number_of (code_of a.bytes)) (Some (record { class = class_at m.classes b.bytes; latency = value c.bytes; busy = value d.bytes }));
    }))

-- one line of a text, after what was read before it
abbrev pub line_step : {R : Type 0} → Rules R → R → Line → Result R Refusal
line_step k r l = unless (first_no (k.asks r l)) (Ok (k.adds r l))

-- what a call answers, seen by a function
abbrev pub answered : {X Y : Type 0} → (X → Y) → Result X TextFault → Result Y Refusal
answered f (Ok x) = Ok (f x)
answered f (Err e) = Err (refusal e)
