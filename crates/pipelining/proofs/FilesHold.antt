-- What the value entries and the waiting entries hold.
use Rattle.std.proofs.Common.{◌≡◌, ℕ, zero, suc, ◌+◌, ◌-◌, ◌*◌, ◌<◌, ◌≤◌, true, ◌&&◌, eqb, leb, ◌⊎◌, List, [], ◌∷◌, length, sym, refl, ap, ◌∙◌, ap₂, inl, inr, arith}
use Rattle.std.specs.List.{AllByRecursion}
use Rattle.std.proofs.lemmas.Bool.{cases_eq, cases_Bool, both_ways, eqb-true, leb-true, eq-eqb, ne_eqb, le-leb, and_parts, and_from}
use Rattle.model.specs.Loop.{Loop, op, makes, Hardware}
use Rattle.model.specs.Schedule.{Schedule}
use Rattle.model.specs.MemoryOrder.{issue_cycle}
use Rattle.model.specs.Domains.{Domain}
use Rattle.model.specs.Plain.{State, iterations}
use Rattle.model.specs.Issues.{Slot, issues, iteration_of, slot_of, issues_at}
use Rattle.model.specs.Driving.{Machine, slot_result, land, issue, issue_all}
use Rattle.model.specs.declared.Status.TheVariants.{Never}
use Rattle.model.specs.Files.{Instance, made, reaches, latest_in, latest, last_issued, last_landed, value_entry, waiting_entry}
use Rattle.pipelining.proofs.Sound.{Sound}
use Rattle.pipelining.proofs.Placed.{Lives, Placed}
use Rattle.pipelining.proofs.Issue.{issued, will_issue}
use Rattle.pipelining.proofs.Landing.{lands_now, value_kept}
use Rattle.pipelining.proofs.Driven.{driven}
use Rattle.pipelining.proofs.Row.{values_stay, register_then}
use Rattle.pipelining.proofs.Run.{timed_value}
use Rattle.pipelining.proofs.Drive.{Made, Kept, kept_at, alive_at, machine_right}

module _ (ops : Loop) (w : Schedule) (trips : ℕ) (home : ℕ → ℕ → ℕ) (delay : ℕ → ℕ) (positive : 0 < w.interval) where
  -- What operation j makes in iteration i reaches register r in cycle c.
  abbrev pub Reaches : ℕ → ℕ → ℕ → ℕ → Type 0
  Reaches r c j i = (makes (op ops j) ≡ true) × (i < trips) × (home j i ≡ r) × (issue_cycle w j i + delay j ≡ c)

  reached : (r c j : ℕ) → reaches ops w trips home delay r c j ≡ true → Reaches r c j (iteration_of w j (c - delay j))
  reached r c j h =
      let late : (leb (delay j) c ≡ true) × (issues w trips j (c - delay j) && (makes (op ops j) && eqb (home j (iteration_of w j (c - delay j))) r) ≡ true) = and_parts _ _ h in
      let is : (issues w trips j (c - delay j) ≡ true) × (makes (op ops j) && eqb (home j (iteration_of w j (c - delay j))) r ≡ true) = and_parts _ _ late.1 in
      let goes : (makes (op ops j) ≡ true) × (eqb (home j (iteration_of w j (c - delay j))) r ≡ true) = and_parts _ _ is.1 in
      let it = issued w trips j (c - delay j) is.0 in
      let then : issue_cycle w j (iteration_of w j (c - delay j)) + delay j ≡ c = omega (arith, it.1, leb-true (delay j) c late.0) in
      (goes.0, it.0, eqb-true _ _ goes.1, then)

  will_reach : (r c j i : ℕ) → Reaches r c j i → reaches ops w trips home delay r c j ≡ true
  will_reach r c j i h =
      let then : issue_cycle w j i ≡ c - delay j = omega (arith, h.3) in
      let it = will_issue w trips j (c - delay j) i positive h.1 then in
      let there : home j (iteration_of w j (c - delay j)) ≡ r = ap (home j) it.1 ∙ h.2 in
      and_from _ _ (le-leb _ _ (omega (arith, h.3))) (and_from _ _ it.0 (and_from _ _ h.0 (eq-eqb _ _ there)))

  -- In cycle c one reaches register r, or none does.
  abbrev pub LatestThen : ℕ → ℕ → ℕ → Instance → Instance → Type 0
  LatestThen r c n before x =
      ((j : ℕ) × (i : ℕ) × (j < n) × Reaches r c j i × (x ≡ made j i)) ⊎
      (((j i : ℕ) → j < n → Reaches r c j i → ⊥) × (x ≡ before))

  pub latest_then : (r c n : ℕ) (before : Instance) → LatestThen r c n before (latest_in ops w trips home delay r c n before)
  unfolding latest_in
  latest_then r c zero before = inr ((λ j i h. absurd (omega arith)), refl)
  latest_then r c (suc n) before = elim (cases_Bool (reaches ops w trips home delay r c n)) [
    | inl e ↦ rw e (inl (n, iteration_of w n (c - delay n), omega arith, reached r c n e, refl))
    | inr e ↦ rw e (elim (latest_then r c n before) [
      | inl z ↦ inl (z.0, z.1, omega (arith, z.2), z.3, z.4)
      | inr z ↦ inr (
        (λ j i h g. elim (cases_eq j n) [ inl p ↦ both_ways _ e (will_reach r c n i (rw p at g)) | inr y ↦ z.0 j i (omega arith) g ]),
        z.1,
      )
    ])
  ]

-- A waiting entry that no slot of the row has for its target stays.
pub waiting_untouched : {V : Type 0} (dom : Domain V) (k c r : ℕ) (xs : List Slot) (seen m : Machine V) →
    AllByRecursion (λ slot. makes slot.operation ≡ true → slot.target ≡ r → ⊥) xs → (issue_all dom k c xs seen m).waiting r ≡ m.waiting r
unfolding issue_all issue
waiting_untouched dom k c r [] seen m h = refl
waiting_untouched dom k c r (x ∷ xs) seen m h = waiting_untouched dom k c r xs seen (issue dom k c x seen m) h.1 ∙
    elim (cases_Bool (makes x.operation)) [
      | inl e ↦ rw (e, ne_eqb r x.target (λ p. h.0 e (sym p)))
      | inr e ↦ rw e
    ]

module _ {V : Type 0} (dom : Domain V) (ops : Loop) (hw : Hardware) (w : Schedule) (trips : ℕ) (home : ℕ → ℕ → ℕ) (life_end : ℕ → ℕ) (start : State V) (m : Machine V)
    (sound : Sound ops hw w trips (length start.memory)) (placed : Placed ops hw w home life_end)
    (same_start : m.memory ≡ start.memory) (fresh : (r : ℕ) → m.status r ≡ Never) where
  -- the machine before cycle c, and the plain loop's values
  abbrev machine : ℕ → Machine V
  machine c = driven dom w.interval (issues_at ops hw w trips home) c m

  abbrev truth : ℕ → ℕ → V
  truth = (iterations dom ops trips start).value

  kept : (c : ℕ) → Kept dom ops hw w trips home life_end start m sound placed same_start fresh c
  kept c = kept_at dom ops hw w trips home life_end start m sound placed same_start fresh c

  -- What operation j makes lives in the cycle before it lands.
  lives_before : (c j i : ℕ) → j < length ops → makes (op ops j) ≡ true → issue_cycle w j i + hw.latency j ≡ suc c → Lives w life_end j i c
  lives_before c j i hj k e =
      (omega (arith, sound.formed.latencies j hj), omega (arith, placed.lands_in_life j hj k))

  waiting_next : (c r : ℕ) → (machine c).waiting r ≡ waiting_entry hw w truth (m.waiting r) (last_issued ops hw w trips home r c) →
      (machine (suc c)).waiting r ≡ waiting_entry hw w truth (m.waiting r) (last_issued ops hw w trips home r (suc c))
  unfolding driven latest land
  waiting_next c r before = elim (register_then dom ops hw w trips home c (land c (machine c)) r (length ops)) [
    | inl z ↦
        let q : ℕ = z.0 in
        let it = issued w trips q c z.2 in
        let alive : Lives w life_end q (iteration_of w q c) c = alive_at dom ops hw w trips home life_end start m sound placed same_start fresh c q z.1 z.2 z.3 in
        elim (latest_then ops w trips home (λ _. 0) sound.positive r c (length ops) (last_issued ops hw w trips home r c)) [
          | inl y ↦
              let j : ℕ = y.0 in
              let i : ℕ = y.1 in
              let t : issue_cycle w j i ≡ c = omega (arith, y.3.3) in
              let lives : Lives w life_end j i c = (omega arith, omega (arith, placed.lands_in_life j y.2 y.3.0, sound.formed.latencies j y.2)) in
              let one = placed.apart q (iteration_of w q c) j i c z.1 y.2 z.3 y.3.0 alive lives (z.4 ∙ sym y.3.2) in
              let due_same : c + hw.latency q ≡ issue_cycle w j i + hw.latency j = ap₂ ◌+◌ (sym t) (ap hw.latency one.0) in
              let value_same : slot_result dom w.interval c (slot_of ops hw w home c q) (land c (machine c)) ≡ truth j i =
              machine_right dom ops hw w trips home life_end start m sound placed same_start fresh c q z.1 z.2 ∙ ap₂ truth one.0 one.1 in
              rw y.4 (z.5 ∙ ap₂ (λ (d : ℕ) (v : V). record { due = d; value = v }) due_same value_same)
          | inr y ↦ absurd (y.0 q (iteration_of w q c) z.1 (z.3, it.0, z.4, omega (arith, it.1)))
        ]
    | inr z ↦ elim (latest_then ops w trips home (λ _. 0) sound.positive r c (length ops) (last_issued ops hw w trips home r c)) [
      | inl y ↦
          let it = will_issue w trips y.0 c y.1 sound.positive y.3.1 (omega (arith, y.3.3)) in
          absurd (z.0 y.0 y.2 it.0 y.3.0 (ap (home y.0) it.1 ∙ y.3.2))
      | inr y ↦ rw y.1 (z.1 ∙ before)
    ]
  ]

  pub waiting_holds : (c r : ℕ) → (machine c).waiting r ≡ waiting_entry hw w truth (m.waiting r) (last_issued ops hw w trips home r c)
  unfolding driven latest
  waiting_holds zero r = refl
  waiting_holds (suc c) r = waiting_next c r (waiting_holds c r)

  -- after the landings of cycle c
  landed_next : (c r : ℕ) → (machine c).values r ≡ value_entry hw w truth (m.values r) (last_landed ops hw w trips home r c) →
      (land c (machine c)).values r ≡ value_entry hw w truth (m.values r) (last_landed ops hw w trips home r (suc c))
  unfolding latest
  landed_next c r before = elim (latest_then ops w trips home hw.latency sound.positive r c (length ops) (last_landed ops hw w trips home r c)) [
    | inl y ↦
        let j : ℕ = y.0 in
        let i : ℕ = y.1 in
        let made_it : Made dom ops hw w trips home life_end start m sound placed same_start fresh j i = (y.2, y.3.0, y.3.1) in
        let earlier : issue_cycle w j i < c = omega (arith, y.3.3, sound.formed.latencies j y.2) in
        let h = (kept c).live j i made_it earlier (omega (arith, y.3.3, placed.lands_in_life j y.2 y.3.0)) in
        let value : ((machine c).waiting r).value ≡ truth j i =
        ap (λ x. ((machine c).waiting x).value) (sym y.3.2) ∙ ap (λ e. e.value) h.waiting_is ∙ timed_value dom ops hw w trips start sound c j i y.2 y.3.1 earlier in
        let due : ((machine c).waiting r).due ≡ c = ap (λ x. ((machine c).waiting x).due) (sym y.3.2) ∙ ap (λ e. e.due) h.waiting_is ∙ y.3.3 in
        elim h.either [
          | inl z ↦ rw y.4 ((lands_now c (machine c) r (ap (λ x. (machine c).status x) (sym y.3.2) ∙ z.1) due).1 ∙ value)
          | inr z ↦ absurd (omega (arith, z.0, y.3.3))
        ]
    | inr y ↦ rw y.1 (value_kept c (machine c) r (λ waits due.
        let a = (kept c).awaited r waits in
        y.0 a.by a.«for» a.made.0 (a.made.1, a.made.2, a.there, sym a.due_then ∙ due)) ∙ before)
  ]

  pub values_hold : (c r : ℕ) → (machine c).values r ≡ value_entry hw w truth (m.values r) (last_landed ops hw w trips home r c)
  unfolding driven latest
  values_hold zero r = refl
  values_hold (suc c) r = ap (λ f. f r) (values_stay dom ops hw w trips home c (land c (machine c)) (length ops)) ∙ landed_next c r (values_hold c r)

  -- To the end of its life an instance is the last that landed in its register.
  pub landed_stays : (c p i : ℕ) → Made dom ops hw w trips home life_end start m sound placed same_start fresh p i →
      issue_cycle w p i + hw.latency p ≤ c → c ≤ life_end p + i * w.interval →
      last_landed ops hw w trips home (home p i) (suc c) ≡ made p i
  unfolding latest
  landed_stays zero p i is due alive = absurd (omega (arith, sound.formed.latencies p is.0))
  landed_stays (suc c) p i is due alive =
      elim (latest_then ops w trips home hw.latency sound.positive (home p i) (suc c) (length ops) (last_landed ops hw w trips home (home p i) (suc c))) [
        | inl y ↦
            let one = placed.apart y.0 y.1 p i c y.2 is.0 y.3.0 is.1
            (lives_before c y.0 y.1 y.2 y.3.0 y.3.3) (omega (arith, sound.formed.latencies p is.0), omega arith) y.3.2 in
            y.4 ∙ ap₂ made one.0 one.1
        | inr y ↦ elim (cases_eq (issue_cycle w p i + hw.latency p) (suc c)) [
          | inl e ↦ absurd (y.0 p i is.0 (is.1, is.2, refl, e))
          | inr n ↦ y.1 ∙ landed_stays c p i is (omega arith) (omega arith)
        ]
      ]
