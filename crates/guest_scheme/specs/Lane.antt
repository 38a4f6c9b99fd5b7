-- A scheme with 256 registers that always gives a variable eight, one for each of eight turns.
use Rattle.std.specs.Prelude.{ℕ, ◌+◌, ◌-◌, ◌*◌, ◌%◌, Bool, cond, ◌&&◌, List, length, ◌==◌, nat_le, nat_lt}
use Rattle.std.specs.List.{list_all}
use Rattle.model.specs.declared.Life.{Life}
use Rattle.model.specs.Lives.{Table}
use Rattle.model.specs.Schemes.{Meaning, less}

-- No life is longer than eight intervals.
abbrev pub short : ℕ → List Life → Bool
short k ls = list_all (λ l. nat_lt (l.end - l.start) (8 * k)) ls

abbrev pub lanes_need : Table → ℕ
lanes_need t = cond (short t.interval t.lives) (8 * length t.lives) 257

-- One turn without variables, eight with some.
abbrev pub lanes_turns : ℕ → ℕ
lanes_turns n = cond (n == 0) 1 8

abbrev pub lanes_with : ℕ → Meaning
lanes_with n = record {
  file = 256;
  need = lanes_need;
  variables = n;
  turns = lanes_turns n;
  place = λ v i. 8 * v + i % 8;
  name = λ v c r. cond (nat_lt v n && (nat_lt c 8 && nat_le r 14)) (8 * v + less 8 c r) 0;
  resolve = λ a p. cond (nat_lt a 256) a 0;
}
