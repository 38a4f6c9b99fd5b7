use Rattle.std.proofs.Common.{◌≡◌, ◌∷◌, length, ap, ◌∙◌, arith}
use Rattle.script.specs.Script.{words_of}
use Rattle.script.proofs.Splits.{parts_step}
use Rattle.script.proofs.words.WordsIterator.next.Goals as goal

pub returns-clause-steps : goal.returns-clause-steps
returns-clause-steps c =
    rw (c.split_at.ensures.front, c.split_at.ensures.back, c.solid_len.ensures.value) (ap words_of c.in_ok-behind.ensures.cases.0 ∙ parts_step c.in_ok-behind.behind.now)

pub returns-clause-goes : goal.returns-clause-goes
returns-clause-goes c =
    let on : words_of c.args.self.now.bytes.now ≡ c.split_at.result.0.now ∷ words_of c.split_at.result.1.now =
    rw (c.split_at.ensures.front, c.split_at.ensures.back, c.solid_len.ensures.value) (ap words_of c.in_ok-behind.ensures.cases.0 ∙ parts_step c.in_ok-behind.behind.now) in
    let less = ap length on in
    record { on = λ _. (tt, tt, omega arith); keeps = tt; rests = λ _. tt }
