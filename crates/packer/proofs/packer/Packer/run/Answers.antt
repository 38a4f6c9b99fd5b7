use Rattle.std.proofs.Common.{◌≡◌, ℕ, ◌<◌, ◌≤◌, true, false, ◌⊎◌, length, sym, refl, ◌∙◌, subst, inl, inr, arith}
use Rattle.guarantee.specs.Calls.{run, ran}
use Rattle.guarantee.specs.Guarantees.{Guaranteed}
use Rattle.packer_laws.specs.States.{state, buffers}
use Rattle.packer_laws.proofs.Ran.{run_driven, run_halts_never, one_result, run_short_kept, run_outside_kept}
use Rattle.packer.proofs.packer.Packer.run.Goals as goal

pub returns-then-values-file : goal.returns-then-values-file
returns-then-values-file g c =
    let s = c.args.self.now in
    let file = c.file-file.ensures in
    run_short_kept g.S.Scheme.meaning g.S.Scheme.place g.D.Domain.operations s.scheme s.desk c.in-Listing.plan c.in-Listing.trips c.in-Listing.is
    c.args.memory.now c.args.values.now c.args.waiting.now
    (subst (λ n. (length c.args.values.now < n) ⊎ (length c.args.waiting.now < n)) file
    (elim c.then-values-file.either [ inl h ↦ inl h | inr h ↦ inr h.1 ]))

pub returns-then-not-cells_in_memory : goal.returns-then-not-cells_in_memory
returns-then-not-cells_in_memory g c =
    let s = c.args.self.now in
    let file = c.file-file.ensures in
    run_outside_kept g.S.Scheme.meaning g.S.Scheme.place g.D.Domain.operations s.scheme s.desk c.in-Listing.plan c.in-Listing.trips c.in-Listing.is
    c.args.memory.now c.args.values.now c.args.waiting.now
    (subst (λ n. n ≤ length c.args.values.now) file c.if-values-file.false) (subst (λ n. n ≤ length c.args.waiting.now) file c.if-waiting-file.false)
    (λ inside. let e : false ≡ true = c.if-not-cells_in_memory.ensures.1 inside in let z : ◌≡◌ {A = ℕ} 0 1 = cc in omega arith)

pub returns-in-Ok : goal.returns-in-Ok
returns-in-Ok g c whole =
    let s = c.args.self.now in
    let file = c.file-file.ensures in
    let driven = run_driven g.S.Scheme.meaning g.S.Scheme.place g.D.Domain.operations s.scheme s.desk c.in-Listing.plan c.in-Listing.trips c.in-Listing.is
    c.hardware_of-hardware.result.timings c.hardware_of-hardware.result.units c.passes.result c.args.memory.now c.args.values.now c.args.waiting.now
    c.drive.new.memory c.drive.new.values c.drive.new.waiting c.drive.result c.hardware_of-hardware.ensures.timings c.hardware_of-hardware.ensures.units c.passes.ensures
    (subst (λ n. n ≤ length c.args.values.now) file c.if-values-file.false) (subst (λ n. n ≤ length c.args.waiting.now) file c.if-waiting-file.false)
    (c.if-not-cells_in_memory.ensures.0 refl) c.drive.auto.values c.drive.auto.waiting c.drive.ensures whole in (
      subst (λ n. Guaranteed g.S.Scheme.meaning g.S.Scheme.place g.D.Domain.operations (state s.scheme s.desk) (run (buffers c.args.memory.now c.args.values.now c.args.waiting.now)) (ran n)
          (run (buffers c.drive.new.memory c.drive.new.values c.drive.new.waiting)) (state s.scheme s.desk))
          (one_result c.drive.result _ c.in-Ok.cycles driven.0 c.in-Ok.is) driven.1,
      whole,
    )

pub returns-in-Err : goal.returns-in-Err
returns-in-Err g c whole =
    let s = c.args.self.now in
    let file = c.file-file.ensures in
    let driven = run_driven g.S.Scheme.meaning g.S.Scheme.place g.D.Domain.operations s.scheme s.desk c.in-Listing.plan c.in-Listing.trips c.in-Listing.is
    c.hardware_of-hardware.result.timings c.hardware_of-hardware.result.units c.passes.result c.args.memory.now c.args.values.now c.args.waiting.now
    c.drive.new.memory c.drive.new.values c.drive.new.waiting c.drive.result c.hardware_of-hardware.ensures.timings c.hardware_of-hardware.ensures.units c.passes.ensures
    (subst (λ n. n ≤ length c.args.values.now) file c.if-values-file.false) (subst (λ n. n ≤ length c.args.waiting.now) file c.if-waiting-file.false)
    (c.if-not-cells_in_memory.ensures.0 refl) c.drive.auto.values c.drive.auto.waiting c.drive.ensures whole in
    absurd (run_halts_never _ c.in-Err.field-0 (sym c.in-Err.is ∙ driven.0))
