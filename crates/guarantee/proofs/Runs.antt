-- A run of the listing of a plan that holds is sound. Assumes nothing.
use Rattle.std.proofs.Common.{◌≡◌, ℕ, zero, suc, true, length, sym, refl, ◌∙◌, subst, inl, inr, arith, length-append}
use Rattle.std.proofs.lemmas.Bool.{cases_Bool}
use Rattle.model.specs.Loop.{Loop, op, makes, Hardware}
use Rattle.model.specs.MachineText.{Machine}
use Rattle.model.specs.Soundness.{sound_machine, sound_loop, hardware}
use Rattle.model.specs.Schedule.{Schedule}
use Rattle.model.specs.ScheduleLives.{lives_of}
use Rattle.model.specs.Schemes.{Meaning}
use Rattle.model.specs.Domains.{Domain}
use Rattle.model.specs.Issues.{variable_number}
use Rattle.model.specs.Pipelining.{InMemory, Means, Pipelined}
use Rattle.listing_laws.proofs.Law.{listing_means}
use Rattle.pipelining.proofs.Theorem.{pipelined}
use Rattle.guarantee.specs.Calls.{Planned, Buffers}
use Rattle.guarantee.specs.Guarantees.{PlanHolds, code_timings, listed_form, values_in, waiting_in}
use Rattle.guarantee.proofs.OnTexts.{on_machine, by_code}

lives_count : (ops : Loop) (hw : Hardware) (w : Schedule) (n : ℕ) → length (lives_of ops hw w n) ≡ variable_number ops n
unfolding lives_of
lives_count ops hw w zero = refl
lives_count ops hw w (suc j) = elim (cases_Bool (makes (op ops j))) [
  | inl e ↦ rw e (simp length-append (omega (arith, lives_count ops hw w j)))
  | inr e ↦ rw e (simp length-append (omega (arith, lives_count ops hw w j)))
]

module _ (m : Machine) (ops : Loop) (sm : sound_machine m ≡ true) (sl : sound_loop ops ≡ true) (p : Planned) (scheme : Meaning) (holds : PlanHolds scheme m ops p) (trips : ℕ) where
  -- in every cycle of the run the listing says what issues
  pub listed_means : Means (listed_form scheme m ops p trips) ops (hardware m ops) p.schedule trips scheme.place
  listed_means =
      let turned : Means (listed_form scheme m ops (record { minimum = p.minimum; evidence = p.evidence; schedule = p.schedule; steps = p.steps; stages = p.stages; turns = scheme.turns }) trips)
      ops (hardware m ops) p.schedule trips scheme.place =
      listing_means ops (hardware m ops) p.schedule scheme trips (code_timings m) (on_machine m ops sm sl).formed holds.sound.is_schedule.positive
      holds.sound.few_stages holds.lives.lawful (holds.lives.variables ∙ lives_count ops (hardware m ops) p.schedule (length ops)) (by_code m ops) in
      subst (λ u. Means (listed_form scheme m ops (record { minimum = p.minimum; evidence = p.evidence; schedule = p.schedule; steps = p.steps; stages = p.stages; turns = u }) trips)
      ops (hardware m ops) p.schedule trips scheme.place) (sym holds.turns) turned

  pub runs_pipelined : {V : Type 0} (dom : Domain V) (b : Buffers V) → InMemory ops trips (length b.memory) →
      Pipelined dom ops (hardware m ops) p.schedule trips scheme.place b.memory (values_in dom b) (waiting_in dom b) (listed_form scheme m ops p trips)
  runs_pipelined dom b inside =
      pipelined dom ops (hardware m ops) p.schedule trips scheme.place b.memory (values_in dom b) (waiting_in dom b) (listed_form scheme m ops p trips)
      (on_machine m ops sm sl).formed holds.sound.is_schedule holds.sound.few_stages holds.lives.apart inside listed_means
