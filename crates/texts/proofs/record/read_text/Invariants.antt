use Rattle.std.proofs.Common.{◌≡◌, ◌≤◌, length}
use Rattle.model.specs.Lines.{lines_of}
use Rattle.model.specs.Questions.{read_lines}
use Rattle.reader.specs.Ahead.{ahead}
use Rattle.texts.proofs.record.read_text.Given as goal

abbrev pub invariant-loop-number : goal.invariant-loop-number
invariant-loop-number g l =
    (length l.text ≤ 4096) × (read_lines g.R.Record.rules (g.R.Record.seen l.said) (ahead l.number-iterator) ≡ read_lines g.R.Record.rules g.R.Record.rules.start (lines_of l.text))
