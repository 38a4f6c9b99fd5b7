-- What the start of a cycle does to one register.
use Rattle.std.proofs.Common.{◌≡◌, ℕ, false, refl, arith}
use Rattle.std.proofs.lemmas.Bool.{eq-eqb, ne_eqb}
use Rattle.model.specs.Driving.{Machine, awaits, lands, land}
use Rattle.model.specs.declared.Status.{Status}
use Rattle.model.specs.declared.Status.TheVariants.{Never, Waits, Landed}

pub never_waits : Never ≡ Waits → ⊥
never_waits e = let z : ◌≡◌ {A = ℕ} 0 1 = cc in omega arith

pub landed_waits : Landed ≡ Waits → ⊥
landed_waits e = let z : ◌≡◌ {A = ℕ} 0 1 = cc in omega arith

-- A register that does not wait does not await.
pub not_waiting : (s : Status) → (s ≡ Waits → ⊥) → awaits s ≡ false
not_waiting Never h = refl
not_waiting Waits h = absurd (h refl)
not_waiting Landed h = refl

module _ {V : Type 0} (c : ℕ) (m : Machine V) (r : ℕ) where
  pub lands_now : m.status r ≡ Waits → (m.waiting r).due ≡ c → ((land c m).status r ≡ Landed) × ((land c m).values r ≡ (m.waiting r).value)
  unfolding land
  lands_now e d = (rw (e, eq-eqb _ _ d), rw (e, eq-eqb _ _ d))

  pub lands_later : m.status r ≡ Waits → ((m.waiting r).due ≡ c → ⊥) → ((land c m).status r ≡ Waits) × ((land c m).values r ≡ m.values r)
  unfolding land
  lands_later e d = (rw (e, ne_eqb _ _ d), rw (e, ne_eqb _ _ d))

  pub landed_before : m.status r ≡ Landed → ((land c m).status r ≡ Landed) × ((land c m).values r ≡ m.values r)
  unfolding land
  landed_before e = (rw e, rw e)

  pub waits_still : (land c m).status r ≡ Waits → (m.status r ≡ Waits) × ((m.waiting r).due ≡ c → ⊥)
  unfolding land
  waits_still h = go (m.status r) refl
    where
      go : (x : Status) → m.status r ≡ x → (m.status r ≡ Waits) × ((m.waiting r).due ≡ c → ⊥)
      go Never e = absurd (never_waits (rw e at h))
      go Waits e = (e, λ d. landed_waits (rw (e, eq-eqb _ _ d) at h))
      go Landed e = absurd (landed_waits (rw e at h))

  -- Where nothing lands the value stays.
  pub lands_not : lands c m r ≡ false → (land c m).values r ≡ m.values r
  unfolding land
  lands_not h = rw h

  -- What lands was awaited, and is due.
  pub value_kept : (m.status r ≡ Waits → (m.waiting r).due ≡ c → ⊥) → (land c m).values r ≡ m.values r
  unfolding land
  value_kept h = go (m.status r) refl
    where
      go : (x : Status) → m.status r ≡ x → (land c m).values r ≡ m.values r
      go Never e = rw e
      go Waits e = rw (e, ne_eqb _ _ (h e))
      go Landed e = rw e
