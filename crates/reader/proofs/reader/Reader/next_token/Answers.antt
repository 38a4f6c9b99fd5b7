use Rattle.std.proofs.Common.{◌≡◌, ℕ, ◌+◌, [], ◌∷◌, sym, ◌∙◌, arith, rules}
use Rattle.std.proofs.lemmas.Grind.{common_steps}
use Rattle.reader.specs.Seen.{seen, left}
use Rattle.reader.proofs.Steps.{onward, finished, stays}
use Rattle.reader.proofs.reader.Reader.next_token.Goals as goal

pub returns-then-start-end : goal.returns-then-start-end
returns-then-start-end c =
    let self = c.args.self.now in
    let q = c.if-start-end.true in
    let none : left self.line self.text.now self.at ≡ [] = finished self.line self.text.now self.at _ _ (grind (arith, common_steps)) (grind (arith, common_steps)) q in
    let rest : left self.line self.text.now (self.at + c.space_len.result + c.solid_len.result) ≡ [] = stays self.line self.text.now self.at _ _ (grind (arith, common_steps)) (grind (arith, common_steps)) q in
    record {
      token = none ∙ sym rest;
      finished = λ _. rest;
      text = search rules;
      line = search rules;
    }

pub returns : goal.returns
returns c =
    let self = c.args.self.now in
    let on : left self.line self.text.now self.at ≡ seen c.token_of.result ∷ left self.line self.text.now (self.at + c.space_len.result + c.solid_len.result) =
    onward self.line self.text.now self.at _ _ (grind (arith, common_steps)) (grind (arith, common_steps)) _ c.if-start-end.false c.token_of.ensures in
    record {
      token = on;
      finished = λ h. let z : ◌≡◌ {A = ℕ} 0 1 = cc in absurd (omega arith);
      text = search rules;
      line = search rules;
    }
