use Rattle.std.proofs.Common.{◌≡◌, rules, refl, sym, ap, ◌∙◌}
use Rattle.std.proofs.lemmas.List.{with_items_is}
use Rattle.guarantee.specs.Calls.{run}
use Rattle.packer_laws.proofs.Ran.{same_buffers, same_run}
use Rattle.packer.specs.Requests.{call_seen, outcome_seen}
use Rattle.packer_laws.specs.States.{run_answer}
use Rattle.packer.proofs.packer.Packer.make.Goals as goal

pub returns-in-Run : goal.returns-in-Run
returns-in-Run g c = record {
  keeps =
      let s = c.args.self.now in
      let b = c.in-Run.buffers in
      let memory = with_items_is b.memory c.run-answer.new.memory (c.run-answer.auto.memory ∙ c.as_mut_slice.ensures.len) in
      let values = with_items_is b.values c.run-answer.new.values (c.run-answer.auto.values ∙ c.as_mut_slice-in-Run.ensures.len) in
      let waiting = with_items_is b.waiting c.run-answer.new.waiting (c.run-answer.auto.waiting ∙ c.as_mut_slice-in-Run-2.ensures.len) in
      let came : outcome_seen c.map_or_else-outcome-in-Run.result ≡ run_answer c.run-answer.result = search rules in
      same_run g.S.Scheme.meaning g.S.Scheme.place g.D.Domain.operations s.scheme s.desk _ _ _ _ _ _
      (ap run (same_buffers _ _ _ _ _ _ c.as_mut_slice.ensures.value c.as_mut_slice-in-Run.ensures.value c.as_mut_slice-in-Run-2.ensures.value) ∙ sym (ap call_seen c.in-Run.is))
      (sym came) (sym (ap run (same_buffers _ _ _ _ _ _ memory values waiting))) c.run-answer.ensures;
  domain = refl;
}
