-- One place further in the examination of a row.
use Rattle.std.proofs.Common.{◌≡◌, ℕ, suc, ◌+◌, ◌/◌, ◌<◌, ◌≤◌, List, ◌∷◌, length, Some, None, Option, sym, refl, ap, ◌∙◌, add-one}
use Rattle.model.specs.declared.Status.{Status}
use Rattle.model.specs.declared.Question.{Question}
use Rattle.model.specs.Issues.{Slot}
use Rattle.model.specs.Driving.{Machine, passed, failed, reserved, examine}
use Rattle.model.specs.Codes.{with_some}
use Rattle.engine_laws.specs.Parts.{statuses, takens, status_after, taken_after}
use Rattle.engine_laws.specs.Tracks.{Tracks, verdict_by, judged}
use Rattle.engine_laws.specs.Rows.{slots_from, Reached}
use Rattle.engine_laws.proofs.Apart.{gathered_first, gathered_end}
use Rattle.engine_laws.proofs.Examining.{examined_one}

module _ (units : ℕ → ℕ) (k trips c : ℕ) (f : ℕ → Option Slot) (end first : ℕ) (status : List Status) (taken : ℕ → ℕ → ℕ) (at n : ℕ) (m now : Machine ℕ)
    (r : Reached units k trips c f end first status taken at n m now) where
  -- nothing issues from the place
  pub passed_over : at < end → f at ≡ None → Reached units k trips c f end first status taken (at + 1) n m now
  passed_over h e =
      let rest : slots_from f end at ≡ slots_from f end (at + 1) = gathered_first f at end h ∙ ap (λ o. with_some o (slots_from f end (at + 1))) e in
      record {
        follows = r.follows;
        cells = r.cells;
        answer = r.answer ∙ ap (λ s. examine units k trips c n s now) rest;
        statuses_left = r.statuses_left ∙ ap (λ s. statuses s now.status) rest;
        takens_left = r.takens_left ∙ ap (λ s. takens c s now.taken) rest;
      }

  module _ (slot : Slot) (p cells : ℕ) (few : slot.class < 8) (short : slot.busy ≤ 8) (pass : c / k ≡ p) (whole : length m.memory ≡ cells)
      (h : at < end) (e : f at ≡ Some slot) where
    rest : slots_from f end at ≡ slot ∷ slots_from f end (at + 1)
    rest = gathered_first f at end h ∙ ap (λ o. with_some o (slots_from f end (at + 1))) e

    one : examine units k trips c 0 (slots_from f end first) m ≡
        judged (verdict_by status taken units trips cells p c slot) n (examine units k trips c (suc n) (slots_from f end (at + 1)) (reserved c slot now))
    one = r.answer ∙ ap (λ s. examine units k trips c n s now) rest ∙
        examined_one c status taken now r.follows units k trips n cells p slot (slots_from f end (at + 1)) pass (r.cells ∙ whole) few short

    pub denied : (q : Question) → Some q ≡ verdict_by status taken units trips cells p c slot →
        examine units k trips c 0 (slots_from f end first) m ≡ failed q n
    denied q v = one ∙ ap (λ o. judged o n (examine units k trips c (suc n) (slots_from f end (at + 1)) (reserved c slot now))) (sym v)

    pub admitted : (status' : List Status) (taken' : ℕ → ℕ → ℕ) → None ≡ verdict_by status taken units trips cells p c slot →
        Tracks c status' taken' (status_after slot now.status) (taken_after c slot now.taken) →
        Reached units k trips c f end first status' taken' (at + 1) (n + 1) m (reserved c slot now)
    unfolding reserved statuses takens
    admitted status' taken' v tracks = record {
      follows = tracks;
      cells = r.cells;
      answer = rw (add-one n) (one ∙ ap (λ o. judged o n (examine units k trips c (suc n) (slots_from f end (at + 1)) (reserved c slot now))) (sym v));
      statuses_left = r.statuses_left ∙ ap (λ s. statuses s now.status) rest;
      takens_left = r.takens_left ∙ ap (λ s. takens c s now.taken) rest;
    }

  -- the row is through
  pub through : end ≤ at → (examine units k trips c 0 (slots_from f end first) m ≡ passed) ×
      Tracks c status taken (statuses (slots_from f end first) m.status) (takens c (slots_from f end first) m.taken)
  unfolding examine statuses takens
  through h = (
    r.answer ∙ ap (λ s. examine units k trips c n s now) (gathered_end f at end h),
    rw (r.statuses_left, r.takens_left, gathered_end f at end h) r.follows,
  )

-- at first
pub at_first : (units : ℕ → ℕ) (k trips c : ℕ) (f : ℕ → Option Slot) (end first : ℕ) (status : List Status) (taken : ℕ → ℕ → ℕ) (m : Machine ℕ) →
    Tracks c status taken m.status m.taken → Reached units k trips c f end first status taken first 0 m m
at_first units k trips c f end first status taken m h = record { follows = h; cells = refl; answer = refl; statuses_left = refl; takens_left = refl }
