-- What `issues` and `iteration_of` say: operation j issues in cycle c for the iteration i with time j + i * interval = c.
use Rattle.std.proofs.Common.{◌≡◌, ℕ, ◌+◌, ◌-◌, ◌*◌, ◌/◌, ◌%◌, ◌<◌, ◌≤◌, true, sym, ap, ◌∙◌, add-mul, div-add-mod', arith}
use native.Mathlib.Nat.{add-mul-div_right, add-mul-mod_self_right}
use Rattle.std.proofs.lemmas.Bool.{and_parts, and_from, eqb-true, leb-true, ltb-true, eq-eqb, le-leb, lt-ltb}
use Rattle.model.specs.Schedule.{Schedule, stage, row}
use Rattle.model.specs.MemoryOrder.{issue_cycle}
use Rattle.model.specs.Issues.{issues_in, issues, iteration_in, iteration_of}

-- (a - b) * k, taken apart
pub minus_times : (a b k : ℕ) → b ≤ a → a * k ≡ (a - b) * k + b * k
minus_times a b k h = ap (λ x. x * k) e ∙ add-mul (a - b) b k
  where
    e : a ≡ (a - b) + b
    e = omega arith

module _ (w : Schedule) (trips : ℕ) (j c : ℕ) where
  pub issued : issues w trips j c ≡ true → (iteration_of w j c < trips) × (issue_cycle w j (iteration_of w j c) ≡ c) × (stage w j ≤ c / w.interval)
  unfolding issues_in iteration_in
  issued h =
      let parts = and_parts _ _ h in
      let more = and_parts _ _ parts.1 in
      let same_row : row w j ≡ c % w.interval = eqb-true _ _ parts.0 in
      let in_stage : stage w j ≤ c / w.interval = leb-true _ _ more.0 in (
        ltb-true _ _ more.1,
        omega (arith, minus_times (c / w.interval) (stage w j) w.interval in_stage, div-add-mod' c w.interval, div-add-mod' (w.time j) w.interval),
        in_stage,
      )

  pub will_issue : (i : ℕ) → 0 < w.interval → i < trips → issue_cycle w j i ≡ c → (issues w trips j c ≡ true) × (iteration_of w j c ≡ i)
  unfolding issues_in iteration_in
  will_issue i pos hi e =
      let quotient : c / w.interval ≡ stage w j + i = rw (← e) (add-mul-div_right (w.time j) i pos) in
      let remainder : c % w.interval ≡ row w j = rw (← e) (add-mul-mod_self_right (w.time j) i w.interval) in
      let in_stage : stage w j ≤ c / w.interval = omega arith in
      let is_i : c / w.interval - stage w j ≡ i = omega arith in
      let in_range : c / w.interval - stage w j < trips = rw is_i hi in
      (and_from _ _ (eq-eqb _ _ (sym remainder)) (and_from _ _ (le-leb _ _ in_stage) (lt-ltb _ _ in_range)), is_i)
