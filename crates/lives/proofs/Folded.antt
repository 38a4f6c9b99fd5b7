-- The stages, time by time.
use Rattle.std.proofs.Common.{◌≡◌, ℕ, zero, suc, ◌+◌, ◌/◌, ◌≤◌, max, fold, take, length, sym, refl, ap, ◌∙◌, add-one, arith}
use Rattle.std.proofs.lemmas.List.Sums.{fold_more}
use Rattle.model.specs.Schedule.{stage, stages}
use Rattle.timing.specs.declared.Schedule.{Schedule as OwnSchedule}
use Rattle.timing.specs.Seen.{schedule_seen}

pub stages_folded : (s : OwnSchedule) (n : ℕ) → n ≤ length s.times → fold (λ stages time. max stages (time / s.interval + 1)) 0 (take n s.times) ≡ stages (schedule_seen s) n
stages_folded s zero h = refl
stages_folded s (suc n) h =
    let among : ℕ → ℕ = λ m. fold (λ stages time. max stages (time / s.interval + 1)) 0 (take m s.times) in
    ap among (sym (add-one n)) ∙
    (fold_more (λ stages time. max stages (time / s.interval + 1)) 0 s.times n 0 (omega arith) ∙
    ap (λ before. max before (stage (schedule_seen s) n + 1)) (stages_folded s n (omega arith)))
