-- In no cycle are more units of a class in use than the class has.
use Rattle.std.proofs.Common.{◌≡◌, ℕ, zero, suc, ◌+◌, ◌-◌, ◌*◌, ◌%◌, ◌<◌, ◌≤◌, Bool, true, false, cond, eqb, ltb, List, [], ◌∷◌, ◌++◌, length, sym, refl, ap, ◌∙◌, subst, ap₂, inl, inr, mod-lt, arith}
use native.Mathlib.Nat.{add-mul-mod_self_right}
use Rattle.std.proofs.lemmas.Bool.{cases_eq, cases_lt, cases_Bool, eq-eqb, ne_eqb, le-leb, lt-ltb, le-ltb, lt-leb}
use Rattle.model.specs.Loop.{Loop, Hardware, total}
use Rattle.model.specs.Schedule.{Schedule, RowsFit}
use Rattle.model.specs.Domains.{Domain}
use Rattle.model.specs.Issues.{Form, issues, iteration_of, Slot, slot_of, slots, issues_at}
use Rattle.model.specs.Driving.{Machine, use_of, land, reserved, issue, issue_all}
use Rattle.model.specs.Pipelining.{uses_of, in_use}
use Rattle.pipelining.proofs.Driven.{driven}
use Rattle.pipelining.proofs.Issue.{issued}
use Rattle.graph_laws.proofs.Total.{total_le, total_same, total_zero, total_swap, total_back, total_cut, total_longer}

pub one_use_of : (y c : ℕ) (x : Slot) → c ≤ y → y < c + x.busy → use_of x.class y c x ≡ 1
one_use_of y c x g l = rw (eq-eqb x.class x.class refl, le-leb c y g, lt-ltb y (c + x.busy) l)

-- What issues later than cycle y has no use in it.
late_use : (u y c : ℕ) (x : Slot) → y < c → use_of u y c x ≡ 0
late_use u y c x h = elim (cases_eq x.class u) [ inl e ↦ rw (eq-eqb _ _ e, lt-leb c y h) | inr n ↦ rw (ne_eqb _ _ n) ]

late_uses : (u y c : ℕ) (xs : List Slot) → y < c → uses_of u y c xs ≡ 0
late_uses u y c [] h = refl
late_uses u y c (x ∷ xs) h = omega (arith, late_use u y c x h, late_uses u y c xs h)

in_use_longer : (code : ℕ → List Slot) (u y c e : ℕ) → c ≤ e → in_use code u y c ≤ in_use code u y e
unfolding in_use
in_use_longer code u y c zero h = let z : c ≡ 0 = omega arith in rw z (omega arith)
in_use_longer code u y c (suc e) h = elim (cases_eq c (suc e)) [ inl z ↦ rw z (omega arith) | inr z ↦ omega (arith, in_use_longer code u y c e (omega arith)) ]

in_use_then : (code : Form) (u y c : ℕ) → in_use code u y c ≤ in_use code u y (suc y)
unfolding in_use
in_use_then code u y zero = omega arith
in_use_then code u y (suc c) = elim (cases_lt y c) [
  | inl h ↦ omega (arith, late_uses u y c (code c) h, in_use_then code u y c)
  | inr g ↦ in_use_longer code u y (suc c) (suc y) (omega arith)
]

-- Forms that say the same use the same.
pub in_use_same : (f g : Form) (u y c : ℕ) → ((e : ℕ) → e < c → f e ≡ g e) → in_use f u y c ≡ in_use g u y c
unfolding in_use
in_use_same f g u y zero h = refl
in_use_same f g u y (suc c) h = ap₂ ◌+◌ (in_use_same f g u y c (λ e l. h e (omega arith))) (ap (uses_of u y c) (h c (omega arith)))

-- The machine counts the same.
module _ {V : Type 0} (dom : Domain V) (k : ℕ) where
  taken_then : (u y c : ℕ) (xs : List Slot) (seen m : Machine V) → (issue_all dom k c xs seen m).taken u y ≡ m.taken u y + uses_of u y c xs
  unfolding issue_all issue reserved
  taken_then u y c [] seen m = omega arith
  taken_then u y c (x ∷ xs) seen m = omega (arith, taken_then u y c xs seen (issue dom k c x seen m))

  pub taken_is : (form : Form) (u y c : ℕ) (m : Machine V) → m.taken u y ≡ 0 → (driven dom k form c m).taken u y ≡ in_use form u y c
  unfolding driven in_use land
  taken_is form u y zero m h = h
  taken_is form u y (suc c) m h =
      omega (arith, taken_then u y c (form c) (land c (driven dom k form c m)) (land c (driven dom k form c m)), taken_is form u y c m h)

uses_append : (u y c : ℕ) (xs ys : List Slot) → uses_of u y c (xs ++ ys) ≡ uses_of u y c xs + uses_of u y c ys
uses_append u y c [] ys = omega arith
uses_append u y c (x ∷ xs) ys = omega (arith, uses_append u y c xs ys)

at_most_one : (b : Bool) → cond b 1 0 ≤ 1
at_most_one true = omega arith
at_most_one false = omega arith

module _ (ops : Loop) (hw : Hardware) (w : Schedule) (trips : ℕ) (home : ℕ → ℕ → ℕ) (positive : 0 < w.interval) (fit : RowsFit ops hw w) where
  -- the use by operation q, if it issues in cycle c
  abbrev use_by : ℕ → ℕ → ℕ → ℕ → ℕ
  use_by u y c q = cond (issues w trips q c) (use_of u y c (slot_of ops hw w home c q)) 0

  uses_by : (u y c j : ℕ) → uses_of u y c (slots ops hw w trips home c j) ≡ total (use_by u y c) j
  unfolding slots
  uses_by u y c zero = refl
  uses_by u y c (suc j) = elim (cases_Bool (issues w trips j c)) [
    | inl e ↦ rw e (omega (arith, uses_append u y c (slots ops hw w trips home c j) (slot_of ops hw w home c j ∷ []), uses_by u y c j))
    | inr e ↦ rw e (omega (arith, uses_append u y c (slots ops hw w trips home c j) [], uses_by u y c j))
  ]

  in_use_by : (u y c : ℕ) → in_use (issues_at ops hw w trips home) u y c ≡ total (λ e. total (use_by u y e) (length ops)) c
  unfolding in_use
  in_use_by u y zero = refl
  in_use_by u y (suc c) = ap₂ ◌+◌ (in_use_by u y c) (uses_by u y c (length ops))

  -- Operation q has a use in the row of cycle y, b cycles after its issue.
  abbrev hit : ℕ → ℕ → ℕ → ℕ
  hit y q b = cond (eqb ((w.time q + b) % w.interval) (y % w.interval)) 1 0

  hits : (y c q : ℕ) → c ≤ y → issues w trips q c ≡ true → (w.time q + (y - c)) % w.interval ≡ y % w.interval
  hits y c q h e =
      let it = issued w trips q c e in
      let i : ℕ = iteration_of w q c in
      let is_y : w.time q + (y - c) + i * w.interval ≡ y = omega (arith, it.1) in
      sym (add-mul-mod_self_right (w.time q + (y - c)) i w.interval) ∙ ap (λ x. x % w.interval) is_y

  one_use : (y c q : ℕ) → c < suc y → use_by (hw.class q) y c q ≤ cond (ltb (y - c) (hw.busy q)) (hit y q (y - c)) 0
  one_use y c q h = elim (cases_Bool (issues w trips q c)) [
    | inl e ↦ elim (cases_lt y (c + hw.busy q)) [
      | inl l ↦ rw (e, lt-ltb (y - c) (hw.busy q) (omega arith), eq-eqb _ _ (hits y c q (omega arith) e)) (at_most_one _)
      | inr g ↦ rw (e, eq-eqb (hw.class q) (hw.class q) refl, le-leb c y (omega arith), le-ltb y (c + hw.busy q) g) (omega arith)
    ]
    | inr e ↦ rw e (omega arith)
  ]

  not_its_class : (u y c q : ℕ) → (hw.class q ≡ u → ⊥) → use_by u y c q ≡ 0
  not_its_class u y c q n = elim (cases_Bool (issues w trips q c)) [ inl e ↦ rw (e, ne_eqb _ _ n) | inr e ↦ rw e ]

  its_uses : (y q : ℕ) → total (λ c. use_by (hw.class q) y c q) (suc y) ≤ total (hit y q) (hw.busy q)
  its_uses y q = omega (
    arith,
    total_le (λ c. use_by (hw.class q) y c q) (λ c. cond (ltb (y - c) (hw.busy q)) (hit y q (y - c)) 0) (suc y) (λ c h. one_use y c q h),
    total_back (λ b. cond (ltb b (hw.busy q)) (hit y q b) 0) y,
    total_cut (hit y q) (hw.busy q) (suc y),
  )

  operation_uses : (u y q : ℕ) → total (λ c. use_by u y c q) (suc y) ≤ cond (eqb (hw.class q) u) (total (hit y q) (hw.busy q)) 0
  operation_uses u y q = elim (cases_eq (hw.class q) u) [
    | inl e ↦ is true (eq-eqb _ _ e) (subst (λ v. total (λ c. use_by v y c q) (suc y) ≤ total (hit y q) (hw.busy q)) e (its_uses y q))
    | inr n ↦ is false (ne_eqb _ _ n) (omega (arith, total_same (λ c. use_by u y c q) (λ _. 0) (suc y) (λ c _. not_its_class u y c q n), total_zero (suc y)))
  ]
    where
      is : (b : Bool) → eqb (hw.class q) u ≡ b → total (λ c. use_by u y c q) (suc y) ≤ cond b (total (hit y q) (hw.busy q)) 0 →
          total (λ c. use_by u y c q) (suc y) ≤ cond (eqb (hw.class q) u) (total (hit y q) (hw.busy q)) 0
      is b e h = subst (λ x. total (λ c. use_by u y c q) (suc y) ≤ cond x (total (hit y q) (hw.busy q)) 0) (sym e) h

  units_then : (u y : ℕ) → in_use (issues_at ops hw w trips home) u y (suc y) ≤ hw.units u
  units_then u y = omega (
    arith,
    in_use_by u y (suc y),
    total_swap (λ c q. use_by u y c q) (suc y) (length ops),
    total_le (λ q. total (λ c. use_by u y c q) (suc y)) (λ q. cond (eqb (hw.class q) u) (total (hit y q) (hw.busy q)) 0) (length ops) (λ q _. operation_uses u y q),
    fit u (y % w.interval) (mod-lt y positive),
  )

  -- At every moment, in every cycle.
  pub units_suffice : (u y c : ℕ) → in_use (issues_at ops hw w trips home) u y c ≤ hw.units u
  units_suffice u y c = omega (arith, in_use_then (issues_at ops hw w trips home) u y c, units_then u y)

  -- When operation q issues in cycle c, a unit is left in each of its busy cycles.
  pub unit_left : (c q y : ℕ) → q < length ops → issues w trips q c ≡ true → c ≤ y → y < c + hw.busy q →
      in_use (issues_at ops hw w trips home) (hw.class q) y c + uses_of (hw.class q) y c (slots ops hw w trips home c q) < hw.units (hw.class q)
  unfolding in_use
  unit_left c q y hq e g l =
      let u : ℕ = hw.class q in
      let one : use_by u y c q ≡ 1 = rw e (one_use_of y c (slot_of ops hw w home c q) g l) in
      omega (
        arith,
        one,
        uses_by u y c q,
        uses_by u y c (length ops),
        total_longer (use_by u y c) (suc q) (length ops) hq,
        units_suffice u y (suc c),
      )
