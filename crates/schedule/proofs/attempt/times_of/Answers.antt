use Rattle.std.proofs.Common.{None, unwrap_or, sym, ap, ◌∙◌, inl, inr, arith, rules}
use Rattle.std.proofs.lemmas.List.{get_or_past}
use Rattle.std.proofs.lemmas.Bool.{cases_lt}
use Rattle.reservation.specs.Times.{times_of}
use Rattle.schedule.proofs.Arrays.{made_at}
use Rattle.schedule.proofs.attempt.times_of.Goals as goal

pub returns : goal.returns
returns c = λ j. elim (cases_lt j 32) [
  | inl l ↦ made_at _ _ (λ q. unwrap_or (times_of c.args.table.now q) 0) (λ x y q k. search rules) _ 0 32 c.from_fn.ensures.items j l
  | inr g ↦
      get_or_past c.from_fn.result j 0 (omega (arith, c.from_fn.ensures.items.long)) ∙
      sym (ap (λ o. unwrap_or o 0) (get_or_past c.args.table.now.times j None (omega (arith, c.args.table.now.whole))))
]
