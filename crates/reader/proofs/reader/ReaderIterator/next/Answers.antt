use Rattle.std.proofs.Common.{◌≡◌, sym, ap, ◌∙◌}
use Rattle.reader.specs.Seen.{seen, left, taken}
use Rattle.reader.proofs.Steps.{next_of, nearer}
use Rattle.reader.proofs.reader.ReaderIterator.next.Goals as goal

pub returns : goal.returns
returns c =
    let old = c.args.self.now in
    let new = c.next_token.new.self in
    let said = c.next_token.ensures in
    let same : left old.line old.text.now new.at ≡ left new.line new.text.now new.at = ap (λ n. left n old.text.now new.at) (sym said.line) ∙ ap (λ s. left new.line s new.at) (sym said.text) in
    let steps = next_of (left old.line old.text.now old.at) (left new.line new.text.now new.at) c.next_token.result (said.token ∙ ap (taken c.next_token.result) same) (λ e. sym same ∙ said.finished e) in
    record { steps = steps; goes = nearer seen (λ s. left s.line s.text.now s.at) old c.next_token.result new steps }
