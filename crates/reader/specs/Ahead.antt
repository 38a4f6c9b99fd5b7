-- The lines that are left of a text.
use Rattle.std.specs.Prelude.{List}
use Rattle.model.specs.Lines.{Line, lines, numbered}
use Rattle.reader.specs.declared.lines.Lines.{Lines}

abbrev pub ahead : Lines → List Line
ahead s = numbered s.number (lines s.rest.now)
