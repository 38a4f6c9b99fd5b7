-- One register more lands.
use Rattle.std.proofs.Common.{◌≡◌, ℕ, ◌+◌, ◌%◌, ◌<◌, Bool, true, false, cond, ◌&&◌, eqb, ◌⊎◌, List, length, get_or, sym, refl, ap, ◌∙◌, subst, inl, inr, arith}
use Rattle.std.proofs.lemmas.List.Elements.{All-contains}
use Rattle.std.proofs.lemmas.Bool.{cases_eq, cases_Bool, and_parts, eqb-true, eqb-false}
use Rattle.model.specs.declared.Status.{Status}
use Rattle.model.specs.declared.Status.TheVariants.{Never, Waits, Landed}
use Rattle.model.specs.Driving.{awaits}
use Rattle.engine_laws.specs.Dues.{Listed, Pending}
use Rattle.engine_writes.specs.declared.waiting.Waiting.{Waiting}
use Rattle.engine_writes.specs.Files.{waiting_file, lands_by, Done, Same, LandsOne, Between, LandsListed, LandsBelow}

pub awaits_waits : (s : Status) → awaits s ≡ true → s ≡ Waits
awaits_waits Never h = let z : ◌≡◌ {A = ℕ} 0 1 = cc in absurd (omega arith)
awaits_waits Waits h = refl
awaits_waits Landed h = let z : ◌≡◌ {A = ℕ} 0 1 = cc in absurd (omega arith)

awaited_before : (s : Status) (due : Bool) → Waits ≡ cond (awaits s && due) Landed s → (s ≡ Waits) × (due ≡ false)
awaited_before Never due h = let z : ◌≡◌ {A = ℕ} 0 1 = cc in absurd (omega arith)
awaited_before Waits true h = let z : ◌≡◌ {A = ℕ} 0 1 = cc in absurd (omega arith)
awaited_before Waits false h = (refl, refl)
awaited_before Landed due h = let z : ◌≡◌ {A = ℕ} 0 1 = cc in absurd (omega arith)

module _ {V : Type 0} (c : ℕ) (waiting : List (Waiting V)) (status : List Status) (values : List V) where
  -- what a register is after it was put to landing twice is what it is after once
  again : (s s' s'' : Status) (v v' v'' w : V) (due : Bool) →
      (s' ≡ cond (awaits s && due) Landed s) → (v' ≡ cond (awaits s && due) w v) →
      (s'' ≡ cond (awaits s' && due) Landed s') → (v'' ≡ cond (awaits s' && due) w v') →
      (s'' ≡ cond (awaits s && due) Landed s) × (v'' ≡ cond (awaits s && due) w v)
  again Never s' s'' v v' v'' w due a b e f = (e ∙ rw a refl, f ∙ rw (a, b) refl)
  again Waits s' s'' v v' v'' w true a b e f = (e ∙ rw a refl, f ∙ rw (a, b) refl)
  again Waits s' s'' v v' v'' w false a b e f = (e ∙ rw a refl, f ∙ rw (a, b) refl)
  again Landed s' s'' v v' v'' w due a b e f = (e ∙ rw a refl, f ∙ rw (a, b) refl)

  module _ (status' status'' : List Status) (values' values'' : List V) (r : ℕ) (d : V)
      (one : LandsOne c waiting status' values' r status'' values'') (before : Between c waiting status values status' values' d) where
    pub done_here : Done c waiting status values status'' values'' d r
    done_here = elim (before r) [
      | inl done ↦
          again (get_or status r Never) (get_or status' r Never) (get_or status'' r Never) (get_or values r d) (get_or values' r d) (get_or values'' r d) (waiting_file d waiting r).value
          (eqb (waiting_file d waiting r).due c) done.0 done.1 (one d).0.0 (one d).0.1
      | inr same ↦ ((one d).0.0 ∙ rw same.0 refl, (one d).0.1 ∙ rw (same.0, same.1) refl)
    ]

    pub done_still : (q : ℕ) → Done c waiting status values status' values' d q → Done c waiting status values status'' values'' d q
    done_still q done = elim (cases_eq q r) [
      | inl e ↦ rw e done_here
      | inr z ↦ (((one d).1 q z).0 ∙ done.0, ((one d).1 q z).1 ∙ done.1)
    ]

    pub between_still : Between c waiting status values status'' values'' d
    between_still q = elim (cases_eq q r) [
      | inl e ↦ inl (rw e done_here)
      | inr z ↦ elim (before q) [
        | inl done ↦ inl (done_still q done)
        | inr same ↦ inr (((one d).1 q z).0 ∙ same.0, ((one d).1 q z).1 ∙ same.1)
      ]
    ]

  pub between_none : (d : V) → Between c waiting status values status values d
  between_none d q = inr (refl, refl)

  -- a register for which nothing is due is as it was
  module _ (status' : List Status) (values' : List V) (d : V) where
    pub done_or_due : (q : ℕ) → Done c waiting status values status' values' d q ⊎ Same c waiting status values status' values' d q →
        (get_or status q Never ≡ Waits → (waiting_file d waiting q).due ≡ c → Done c waiting status values status' values' d q) → Done c waiting status values status' values' d q
    done_or_due q between due = elim (cases_Bool (lands_by c waiting status values d q)) [
      | inl yes_lands ↦
          let parts = and_parts (awaits (get_or status q Never)) (eqb (waiting_file d waiting q).due c) yes_lands in
          due (awaits_waits _ parts.0) (eqb-true _ _ parts.1)
      | inr not_lands ↦ elim between [
        | inl done ↦ done
        | inr same ↦ (same.0 ∙ rw not_lands refl, same.1 ∙ rw not_lands refl)
      ]
    ]

    -- what awaits a write behind this cycle awaited it before
    pub still_awaits : (q : ℕ) → Done c waiting status values status' values' d q → get_or status' q Never ≡ Waits →
        (get_or status q Never ≡ Waits) × ((waiting_file d waiting q).due ≡ c → ⊥)
    still_awaits q done waits =
        let was = awaited_before (get_or status q Never) (eqb (waiting_file d waiting q).due c) (sym waits ∙ done.0) in
        (was.0, eqb-false _ _ was.1)

  -- The lists are right for the next cycle: what is due later is not in this cycle's.
  module _ (file : ℕ) (lists : ℕ → List ℕ) (status' : List Status) (values' : List V) (d : V)
      (pending : Pending file c (λ r. get_or status r Never) (waiting_file d waiting) lists) where
    pub next_pending : (lists' : ℕ → List ℕ) → ((x : ℕ) → (x ≡ c % 8 → ⊥) → lists' x ≡ lists x) → ((r : ℕ) → Done c waiting status values status' values' d r) →
        Pending file (c + 1) (λ r. get_or status' r Never) (waiting_file d waiting) lists'
    next_pending lists' others all r waits =
        let was = still_awaits status' values' d r (all r) waits in
        let old = pending r was.0 in
        record {
          within = old.within;
          soon = λ h. omega (arith, old.soon (omega arith));
          listed = λ h.
              let soon : (waiting_file d waiting r).due < c + 8 = old.soon (omega arith) in
              let apart : (waiting_file d waiting r).due % 8 ≡ c % 8 → ⊥ = λ e. omega arith in
              rw (others ((waiting_file d waiting r).due % 8) apart) (old.listed (omega arith));
        }

    pub listed_all : (list : List ℕ) → list ≡ lists (c % 8) → length list < 32 → LandsListed c waiting status values list status' values' →
        (r : ℕ) → Done c waiting status values status' values' d r
    listed_all list is few lands r =
        done_or_due status' values' d r ((lands d).0 r) (λ waits due.
        let listed : Listed lists (c % 8) r = subst (λ x. Listed lists (x % 8) r) due ((pending r waits).listed (omega arith)) in
        elim listed [
          | inl full ↦ absurd (omega (arith, ap length is))
          | inr at ↦ All-contains (Done c waiting status values status' values' d) list r (lands d).1 (rw is at)
        ])

    pub below_all : LandsBelow c waiting status values file status' values' → (r : ℕ) → Done c waiting status values status' values' d r
    below_all lands r = done_or_due status' values' d r ((lands d).0 r) (λ waits due. (lands d).1 r (pending r waits).within)
