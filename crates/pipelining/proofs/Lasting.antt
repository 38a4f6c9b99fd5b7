-- The lives of a schedule last long enough, and not too long; and a scheme's law by variables is one by operations.
use Rattle.std.proofs.Common.{◌≡◌, ℕ, zero, suc, ◌+◌, ◌*◌, ◌<◌, ◌≤◌, true, length, get_or, refl, ◌∙◌, inl, inr, mul-le-mul_right, arith, length-append}
use Rattle.std.specs.List.{AllByRecursion}
use Rattle.std.proofs.ByRecursion.{All-append, All-get_or}
use Rattle.std.proofs.lemmas.List.{get_or_append_left, get_or_push}
use Rattle.std.proofs.lemmas.Bool.{cases_eq, cases_order, cases_Bool, eq-eqb, ne_eqb}
use Rattle.model.specs.Loop.{Loop, Operand, literal, variable, Operation, load, store, binary, move, op, EachOperand, makes, Hardware, Named, WellFormed}
use Rattle.model.specs.Schedule.{Schedule, FewStages}
use Rattle.model.specs.Lives.{no_life, LifeWithin, Limits, Alive}
use Rattle.model.specs.Schemes.{Apart}
use Rattle.model.specs.Issues.{variable_number, home_of}
use Rattle.model.specs.ScheduleLives.{read_at, greatest, last_read, life_end, life_of, lives_of, lives_table, ReadInLife, Lasting}
use Rattle.pipelining.proofs.Placed.{Lives, Placed}

-- what a family over operands gives of each
each_weaker : {A : Type 0} (P Q : A → Type 0) (o : Operation A) → ((a : A) → P a → Q a) → EachOperand P o → EachOperand Q o
each_weaker P Q (load stride offset) f h = tt
each_weaker P Q (store a stride offset) f h = f a h
each_weaker P Q (binary code a b) f h = (f a h.0, f b h.1)
each_weaker P Q (move a) f h = f a h

each_greatest : {A : Type 0} (f : ℕ → A → ℕ) (o : Operation A) → EachOperand (λ a. (v : ℕ) → f v a ≤ greatest (f v) o) o
each_greatest f (load stride offset) = tt
each_greatest f (store a stride offset) = λ v. omega arith
each_greatest f (binary code a b) = ((λ v. omega arith), (λ v. omega arith))
each_greatest f (move a) = λ v. omega arith

greatest_below : {A : Type 0} (f : A → ℕ) (b : ℕ) (o : Operation A) → EachOperand (λ a. f a ≤ b) o → greatest f o ≤ b
greatest_below f b (load stride offset) h = omega arith
greatest_below f b (store a stride offset) h = h
greatest_below f b (binary code x y) h = omega arith
greatest_below f b (move a) h = h

module _ (ops : Loop) (hw : Hardware) (w : Schedule) where
  last_read_of : (v q n : ℕ) → q < n → greatest (read_at w v q) (op ops q) ≤ last_read ops w v n
  unfolding last_read
  last_read_of v q zero h = absurd (omega arith)
  last_read_of v q (suc n) h = elim (cases_eq q n) [ inl e ↦ rw e (omega arith) | inr z ↦ omega (arith, last_read_of v q n (omega arith)) ]

  read_in_life : (q : ℕ) → q < length ops → (a : Operand) → ((v : ℕ) → read_at w v q a ≤ greatest (read_at w v q) (op ops q)) → ReadInLife w (life_end ops hw w) q a
  read_in_life q h (literal z) r = tt
  read_in_life q h (variable p d) r =
      let here : w.time q + d * w.interval ≤ greatest (read_at w p q) (op ops q) = rw (eq-eqb p p refl) at (r p) in
      omega (arith, last_read_of p q (length ops) h)

  pub reads : (q : ℕ) → q < length ops → EachOperand (ReadInLife w (life_end ops hw w) q) (op ops q)
  reads q h = each_weaker _ _ (op ops q) (read_in_life q h) (each_greatest (λ v. read_at w v q) (op ops q))

  module _ (formed : WellFormed ops hw) (small : w.interval ≤ 256)
      (few : FewStages ops w) where
    near : (v q : ℕ) → q < length ops → (a : Operand) → Named ops q a → read_at w v q a ≤ 4095
    near v q h (literal z) n = omega arith
    near v q h (variable p d) n =
        let far : d * w.interval ≤ 7 * w.interval = mul-le-mul_right w.interval n.3 in
        elim (cases_eq p v) [ inl e ↦ rw (eq-eqb _ _ e) (omega (arith, few q h)) | inr z ↦ rw (ne_eqb _ _ z) (omega arith) ]

    last_read_near : (v n : ℕ) → n ≤ length ops → last_read ops w v n ≤ 4095
    unfolding last_read
    last_read_near v zero h = omega arith
    last_read_near v (suc q) h =
        omega (
          arith,
          last_read_near v q (omega arith),
          greatest_below (read_at w v q) 4095 (op ops q) (each_weaker _ _ (op ops q) (near v q h) (formed.named q h)),
        )

    one_within : (j : ℕ) → j < length ops → LifeWithin w.interval (life_of ops hw w j)
    one_within j h =
        let t = few j h in
        let l = formed.latencies j h in
        let r = last_read_near j (length ops) (omega arith) in
        (t, omega arith, omega arith)

    all_within : (n : ℕ) → n ≤ length ops → AllByRecursion (LifeWithin w.interval) (lives_of ops hw w n)
    unfolding lives_of
    all_within zero h = tt
    all_within (suc j) h = elim (cases_Bool (makes (op ops j))) [
      | inl e ↦ rw e (All-append _ _ _ (all_within j (omega arith)) (one_within j h, tt))
      | inr e ↦ rw e (All-append _ _ _ (all_within j (omega arith)) tt)
    ]

  lives_count : (n : ℕ) → length (lives_of ops hw w n) ≡ variable_number ops n
  unfolding lives_of
  lives_count zero = refl
  lives_count (suc j) = elim (cases_Bool (makes (op ops j))) [
    | inl e ↦ rw e (simp length-append (omega (arith, lives_count j)))
    | inr e ↦ rw e (simp length-append (omega (arith, lives_count j)))
  ]

  few_numbers : (n : ℕ) → variable_number ops n ≤ n
  few_numbers zero = omega arith
  few_numbers (suc j) = elim (cases_Bool (makes (op ops j))) [ inl e ↦ rw e (omega (arith, few_numbers j)) | inr e ↦ rw e (omega (arith, few_numbers j)) ]

  -- A definer's number is below the numbers of those behind it.
  number_below : (j n : ℕ) → j < n → makes (op ops j) ≡ true → variable_number ops j < variable_number ops n
  number_below j zero h k = absurd (omega arith)
  number_below j (suc n) h k = elim (cases_eq j n) [
    | inl e ↦ rw (← e) (rw k (omega arith))
    | inr z ↦ omega (arith, number_below j n (omega arith) k)
  ]

  life_at : (j n : ℕ) → j < n → makes (op ops j) ≡ true → get_or (lives_of ops hw w n) (variable_number ops j) no_life ≡ life_of ops hw w j
  unfolding lives_of
  life_at j zero h k = absurd (omega arith)
  life_at j (suc n) h k = elim (cases_eq j n) [
    | inl e ↦ rw (← e) (rw k (get_or_push (lives_of ops hw w j) (life_of ops hw w j) no_life (variable_number ops j) (lives_count j)))
    | inr z ↦
        get_or_append_left (lives_of ops hw w n) _ no_life (variable_number ops j) (omega (arith, lives_count n, number_below j n (omega arith) k)) ∙
        life_at j n (omega arith) k
  ]

  pub lasting : WellFormed ops hw → Lasting ops hw w
  lasting formed = record {
    lands_in_life = λ j h m. omega (arith, formed.latencies j h);
    reads_in_life = reads;
    numbered = λ j h k. (omega (arith, lives_count (length ops), number_below j (length ops) h k), life_at j (length ops) h k);
  }

  pub limits : WellFormed ops hw → 0 < w.interval → w.interval ≤ 256 → FewStages ops w → Limits (lives_table ops hw w)
  limits formed positive small few = record {
    some = positive;
    most = small;
    few = omega (arith, lives_count (length ops), few_numbers (length ops), formed.few);
    each = λ v h. All-get_or (LifeWithin w.interval) (lives_of ops hw w (length ops)) v no_life h (all_within formed small few (length ops) (omega arith));
  }

  -- Two definers of one number are one.
  one_definer : (p q : ℕ) → makes (op ops p) ≡ true → makes (op ops q) ≡ true → variable_number ops p ≡ variable_number ops q → p ≡ q
  one_definer p q kp kq e = elim (cases_order p q) [
    | inl same ↦ same
    | inr (inl l) ↦ absurd (omega (arith, number_below p q l kp))
    | inr (inr g) ↦ absurd (omega (arith, number_below q p g kq))
  ]

  alive : (place : ℕ → ℕ → ℕ) (p i c : ℕ) → WellFormed ops hw → p < length ops → makes (op ops p) ≡ true → Lives w (life_end ops hw w) p i c →
      Alive (lives_table ops hw w) (variable_number ops p) i c
  alive place p i c formed hp kp l =
      let n = (lasting formed).numbered p hp kp in
      record { known = n.0; begun = rw n.1 l.0; lasts = rw n.1 l.1 }

  -- The law of places, by operations.
  pub placed_by : (place : ℕ → ℕ → ℕ) → WellFormed ops hw → Apart (lives_table ops hw w) place → Placed ops hw w (home_of ops place) (life_end ops hw w)
  placed_by place formed law = record {
    lands_in_life = (lasting formed).lands_in_life;
    reads_in_life = reads;
    apart = λ p i q m c hp hq kp kq lp lq same.
        let y = law (variable_number ops p) i (variable_number ops q) m c (alive place p i c formed hp kp lp) (alive place q m c formed hq kq lq) same in
        (one_definer p q kp kq y.0, y.1);
  }
