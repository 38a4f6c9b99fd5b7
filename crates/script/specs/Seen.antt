-- The code's lines as the definitions have them.
use Rattle.std.specs.Prelude.{ℕ, List, Some, None, Option}
use Rattle.std.specs.Borrow.{Bor}
use Rattle.script.specs.declared.line.Run.{Run as OwnRun}
use Rattle.script.specs.declared.line.Call.{Call as OwnCall}
use Rattle.script.specs.declared.line.Call.TheVariants.{Machine, Loop, Plan, Expand, Run as RunCall}
use Rattle.script.specs.declared.line.Line.{Line as OwnLine}
use Rattle.script.specs.declared.line.Line.TheVariants.{Blank, Scheme, Domain, Call as CallLine}
use Rattle.script.specs.Escapes.{unescaped}
use Rattle.script.specs.Script.{Run, Call, machine, loop, plan, expand, run, Line, blank, scheme, domain, call, wrong, or_empty, words_of}

abbrev pub run_seen : OwnRun → Run
run_seen r = record { memory = r.memory; values = r.values; waiting = r.waiting; cells = words_of r.cells.bytes.now }

-- the code keeps a text as it is written
abbrev pub call_seen : OwnCall → Call
call_seen (Machine body) = machine (or_empty (unescaped body.now))
call_seen (Loop body) = loop (or_empty (unescaped body.now))
call_seen Plan = plan
call_seen (Expand n) = expand n
call_seen (RunCall r) = run (run_seen r)

-- a line that says nothing of a script's is wrong
abbrev pub line_seen : Option OwnLine → Line
line_seen None = wrong
line_seen (Some Blank) = blank
line_seen (Some (Scheme s)) = scheme s
line_seen (Some (Domain d)) = domain d
line_seen (Some (CallLine c)) = call (call_seen c)

-- a body that is quoted, and a run, if there is one
abbrev pub body_seen : Option (Bor (List ℕ)) → Option (List ℕ)
body_seen None = None
body_seen (Some b) = Some (or_empty (unescaped b.now))

abbrev pub run_in : Option OwnRun → Option Run
run_in None = None
run_in (Some r) = Some (run_seen r)
