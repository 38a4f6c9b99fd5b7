-- What holds of every edge of the list, by the rules.
use Rattle.std.proofs.Common.{◌≡◌, ℕ, zero, suc, ◌+◌, ◌*◌, ◌<◌, ◌≤◌, true, false, not, ◌&&◌, ◌||◌, eqb, ltb, leb, ◌⊎◌, List, [], ◌∷◌, ◌++◌, length, sym, refl, subst, inl, inr, arith}
use Rattle.std.specs.List.{AllByRecursion}
use Rattle.std.proofs.ByRecursion.{All-append, All-weaker}
use Rattle.std.proofs.lemmas.Bool.{cases_eq, cases_lt, cases_Bool, and_parts, and_from, or_cases, or_left, or_right, not-true, not_from_false, eqb-true, eq-eqb, ne_eqb, lt-ltb, le-ltb, le-leb, ltb-true, leb-true}
use Rattle.model.specs.Loop.{Loop, Operand, literal, variable, Operation, load, store, binary, move, op, operands, makes, EachOperand, in_memory, stride_of, offset_of, Hardware, Named}
use Rattle.model.specs.declared.Edge.{Edge}
use Rattle.model.specs.Edges.{each, operand_edge, operand_edges, memory_delay, meets, joins, memory_link, memory_edge, between, edges}
use Rattle.model.specs.GraphLaws.{Among, OperandEdge, Follows, MemoryEdge, ListMeansRules, EdgesLeadForward, DelaysAreShort}

module _ {A : Type 0} (P : A → Type 0) where
  pub all_left : (xs ys : List A) → AllByRecursion P (xs ++ ys) → AllByRecursion P xs
  all_left [] ys h = tt
  all_left (x ∷ xs) ys h = (h.0, all_left xs ys h.1)

  pub all_right : (xs ys : List A) → AllByRecursion P (xs ++ ys) → AllByRecursion P ys
  all_right [] ys h = h
  all_right (x ∷ xs) ys h = all_right xs ys h.1

  pub all_each : (f : ℕ → List A) (n : ℕ) → ((i : ℕ) → i < n → AllByRecursion P (f i)) → AllByRecursion P (each f n)
  all_each f zero h = tt
  all_each f (suc n) h = All-append P (each f n) (f n) (all_each f n (λ i l. h i (omega arith))) (h n (omega arith))

  pub each_all : (f : ℕ → List A) (n : ℕ) → AllByRecursion P (each f n) → (i : ℕ) → i < n → AllByRecursion P (f i)
  each_all f zero h i l = absurd (omega arith)
  each_all f (suc n) h i l = elim (cases_eq i n) [
    | inl e ↦ rw e (all_right (each f n) (f n) h)
    | inr z ↦ each_all f n (all_left (each f n) (f n) h) i (omega arith)
  ]

-- P of the edge that an operand makes
abbrev pub OfOperand : (Edge → Type 0) → Hardware → ℕ → Operand → Type 0
OfOperand P hw q (literal z) = Unit {0}
OfOperand P hw q (variable p d) = P (record { from = p; to = q; delay = hw.latency p; distance = d })

module _ (P : Edge → Type 0) (hw : Hardware) (q : ℕ) where
  one_operand : (a : Operand) → OfOperand P hw q a → AllByRecursion P (operand_edge hw q a)
  one_operand (literal z) h = tt
  one_operand (variable p d) h = (h, tt)

  operand_one : (a : Operand) → AllByRecursion P (operand_edge hw q a) → OfOperand P hw q a
  operand_one (literal z) h = tt
  operand_one (variable p d) h = h.0

  to_list : (l : List Operand) → AllByRecursion (OfOperand P hw q) l → AllByRecursion P (operand_edges hw q l)
  to_list [] h = tt
  to_list (a ∷ l) h = All-append P (operand_edge hw q a) (operand_edges hw q l) (one_operand a h.0) (to_list l h.1)

  of_list : (l : List Operand) → AllByRecursion P (operand_edges hw q l) → AllByRecursion (OfOperand P hw q) l
  of_list [] h = tt
  of_list (a ∷ l) h = (
    operand_one a (all_left P (operand_edge hw q a) (operand_edges hw q l) h),
    of_list l (all_right P (operand_edge hw q a) (operand_edges hw q l) h),
  )

-- An operation's operands, one by one and as a list.
module _ {A : Type 0} (P : A → Type 0) where
  pub each_to_all : (o : Operation A) → EachOperand P o → AllByRecursion P (operands o)
  each_to_all (load s a) h = tt
  each_to_all (store x s a) h = (h, tt)
  each_to_all (binary c x y) h = (h.0, (h.1, tt))
  each_to_all (move x) h = (h, tt)

  pub all_to_each : (o : Operation A) → AllByRecursion P (operands o) → EachOperand P o
  all_to_each (load s a) h = tt
  all_to_each (store x s a) h = h.0
  all_to_each (binary c x y) h = (h.0, h.1.0)
  all_to_each (move x) h = h.0

-- What holds of all holds of each that is among them, and each is among all.
pub among_all : {A : Type 0} (P : A → Type 0) (x : A) (xs : List A) → Among x xs → AllByRecursion P xs → P x
among_all P x [] m h = absurd m
among_all P x (y ∷ ys) (inl e) h = subst P (sym e) h.0
among_all P x (y ∷ ys) (inr m) h = among_all P x ys m h.1

pub all_among : {A : Type 0} (xs : List A) → AllByRecursion (λ x. Among x xs) xs
all_among [] = tt
all_among (x ∷ xs) = (inl refl, All-weaker (λ y. Among y xs) (λ y. Among y (x ∷ xs)) (λ y m. inr m) xs (all_among xs))

pub each_operand : {A : Type 0} (P Q : A → Type 0) → ((a : A) → P a → Q a) → (o : Operation A) → EachOperand P o → EachOperand Q o
each_operand P Q f (load s a) h = tt
each_operand P Q f (store x s a) h = f x h
each_operand P Q f (binary c x y) h = (f x h.0, f y h.1)
each_operand P Q f (move x) h = f x h

module _ (P : Edge → Type 0) (ops : Loop) (hw : Hardware) where
  abbrev pub OperandPart : Type 0
  OperandPart = (q : ℕ) → q < length ops → EachOperand (OfOperand P hw q) (op ops q)

  abbrev pub MemoryPart : Type 0
  MemoryPart = (p q d : ℕ) → p < length ops → q < length ops → (p ≡ q → ⊥) → d < 8 → joins ops p q d ≡ true → P (memory_link ops p q d)

  linked : (p q d : ℕ) → (joins ops p q d ≡ true → P (memory_link ops p q d)) → AllByRecursion P (memory_edge ops p q d)
  linked p q d h = elim (cases_Bool (joins ops p q d)) [ inl e ↦ rw e (h e, tt) | inr e ↦ rw e tt ]

  link : (p q d : ℕ) → AllByRecursion P (memory_edge ops p q d) → joins ops p q d ≡ true → P (memory_link ops p q d)
  link p q d h e = (rw e at h).0

  pub all_edges : OperandPart → MemoryPart → AllByRecursion P (edges ops hw)
  unfolding edges
  all_edges f g = All-append P _ _
      (all_each P _ (length ops) (λ q l. to_list P hw q (operands (op ops q)) (each_to_all (OfOperand P hw q) (op ops q) (f q l))))
      (all_each P _ (length ops) (λ p hp. all_each P _ (length ops) (λ q hq. pair p q hp hq)))
    where
      pair : (p q : ℕ) → p < length ops → q < length ops → AllByRecursion P (between ops p q)
      pair p q hp hq = elim (cases_lt p q) [
        | inl l ↦ rw (lt-ltb p q l) (all_each P (λ d. memory_edge ops p q d ++ memory_edge ops q p d) 8 (λ d h. All-append P (memory_edge ops p q d) (memory_edge ops q p d)
            (linked p q d (g p q d hp hq (λ e. omega arith) h))
            (linked q p d (g q p d hq hp (λ e. omega arith) h))))
        | inr z ↦ rw (le-ltb p q z) tt
      ]

  pub operand_part : AllByRecursion P (edges ops hw) → OperandPart
  unfolding edges
  operand_part h q l = all_to_each (OfOperand P hw q) (op ops q) (of_list P hw q (operands (op ops q)) (each_all P (λ q. operand_edges hw q (operands (op ops q))) (length ops) (all_left P _ _ h) q l))

  pair_part : AllByRecursion P (edges ops hw) → (p q d : ℕ) → p < length ops → q < length ops → p < q → d < 8 → AllByRecursion P (memory_edge ops p q d ++ memory_edge ops q p d)
  unfolding edges
  pair_part h p q d hp hq l hd =
      let row : AllByRecursion P (each (λ q. between ops p q) (length ops)) = each_all P (λ p. each (λ q. between ops p q) (length ops)) (length ops)
      (all_right P (each (λ q. operand_edges hw q (operands (op ops q))) (length ops)) _ h) p hp in
      let here : AllByRecursion P (between ops p q) = each_all P (λ q. between ops p q) (length ops) row q hq in
      let open' : AllByRecursion P (each (λ d. memory_edge ops p q d ++ memory_edge ops q p d) 8) = rw (lt-ltb p q l) at here in
      each_all P (λ d. memory_edge ops p q d ++ memory_edge ops q p d) 8 open' d hd

  pub memory_part : AllByRecursion P (edges ops hw) → MemoryPart
  memory_part h p q d hp hq n hd e = elim (cases_lt p q) [
    | inl l ↦ link p q d (all_left P (memory_edge ops p q d) (memory_edge ops q p d) (pair_part h p q d hp hq l hd)) e
    | inr z ↦ link p q d (all_right P (memory_edge ops q p d) (memory_edge ops p q d) (pair_part h q p d hq hp (omega arith) hd)) e
  ]

-- The rule as a test, and as a statement.
meets_edge : (p s a q t b d : ℕ) → meets p s a q t b d ≡ true → Follows p s a q t b d
unfolding meets
meets_edge p s a q t b d h = elim (cases_eq s t) [
  | inl e ↦ elim (cases_lt 0 s) [
    | inl pos ↦
        let g : (eqb a (b + s * d) && (leb d 7 && (ltb 0 d || ltb p q))) ≡ true = rw (eq-eqb s t e, lt-ltb 0 s pos) at h in
        let parts = and_parts _ _ g in
        let more = and_parts _ _ parts.1 in
        inl (e, pos, eqb-true _ _ parts.0, leb-true _ _ more.0, λ z. elim (or_cases (ltb 0 d) (ltb p q) more.1) [ inl y ↦ absurd (omega (arith, ltb-true 0 d y)) | inr y ↦ ltb-true p q y ])
    | inr none ↦
        let g : (eqb a b && ((eqb d 0 && ltb p q) || (eqb d 1 && ltb q p))) ≡ true = rw (eq-eqb s t e, le-ltb 0 s none) at h in
        let parts = and_parts _ _ g in
        inr ((λ _. (omega arith, eqb-true a b parts.0)), ways parts.1)
  ]
  | inr n ↦
      let g : ((eqb d 0 && ltb p q) || (eqb d 1 && ltb q p)) ≡ true = rw (ne_eqb s t n) at h in
      inr ((λ e. absurd (n e)), ways g)
]
  where
    ways : ((eqb d 0 && ltb p q) || (eqb d 1 && ltb q p)) ≡ true → ((d ≡ 0) × (p < q)) ⊎ ((d ≡ 1) × (q < p))
    ways g = elim (or_cases (eqb d 0 && ltb p q) (eqb d 1 && ltb q p) g) [
      | inl y ↦ inl (eqb-true d 0 (and_parts (eqb d 0) (ltb p q) y).0, ltb-true p q (and_parts (eqb d 0) (ltb p q) y).1)
      | inr y ↦ inr (eqb-true d 1 (and_parts (eqb d 1) (ltb q p) y).0, ltb-true q p (and_parts (eqb d 1) (ltb q p) y).1)
    ]

edge_meets : (p s a q t b d : ℕ) → Follows p s a q t b d → meets p s a q t b d ≡ true
unfolding meets
edge_meets p s a q t b d (inl z) =
    let last : (ltb 0 d || ltb p q) ≡ true = elim (cases_eq d 0) [ inl e ↦ or_right _ _ (lt-ltb p q (z.4 e)) | inr n ↦ or_left _ _ (lt-ltb 0 d (omega arith)) ] in
    rw (eq-eqb s t z.0, lt-ltb 0 s z.1) (and_from _ _ (eq-eqb _ _ z.2) (and_from _ _ (le-leb _ _ z.3) last))
edge_meets p s a q t b d (inr z) = elim (cases_eq s t) [
  | inl e ↦
      let none : s ≡ 0 = (z.0 e).0 in
      rw (eq-eqb s t e, le-ltb 0 s (omega arith)) (and_from _ _ (eq-eqb a b (z.0 e).1) (ways z.1))
  | inr n ↦ rw (ne_eqb s t n) (ways z.1)
]
  where
    ways : ((d ≡ 0) × (p < q)) ⊎ ((d ≡ 1) × (q < p)) → ((eqb d 0 && ltb p q) || (eqb d 1 && ltb q p)) ≡ true
    ways (inl y) = or_left _ _ (and_from _ _ (eq-eqb d 0 y.0) (lt-ltb p q y.1))
    ways (inr y) = or_right _ _ (and_from _ _ (eq-eqb d 1 y.0) (lt-ltb q p y.1))

near : (p s a q t b d : ℕ) → Follows p s a q t b d → d < 8
near p s a q t b d (inl z) = omega (arith, z.3)
near p s a q t b d (inr z) = elim z.1 [ inl y ↦ omega (arith, y.0) | inr y ↦ omega (arith, y.0) ]

-- What `joins` says.
unfoldable pub Joined : Loop → ℕ → ℕ → ℕ → Type 0
Joined ops p q d =
    (in_memory (op ops p) ≡ true) × (in_memory (op ops q) ≡ true) × ((makes (op ops p) ≡ false) ⊎ (makes (op ops q) ≡ false)) ×
    Follows p (stride_of (op ops p)) (offset_of (op ops p)) q (stride_of (op ops q)) (offset_of (op ops q)) d

pub joined : (ops : Loop) (p q d : ℕ) → joins ops p q d ≡ true → Joined ops p q d
unfolding joins Joined
joined ops p q d h =
    let parts = and_parts _ _ h in
    let both = and_parts _ _ parts.0 in
    let more = and_parts _ _ parts.1 in (
      both.0,
      both.1,
      elim (or_cases _ _ more.0) [ inl e ↦ inl (not-true _ e) | inr e ↦ inr (not-true _ e) ],
      meets_edge p _ _ q _ _ d more.1,
    )

join : (ops : Loop) (e : Edge) → MemoryEdge ops e → joins ops e.from e.to e.distance ≡ true
unfolding joins
join ops e m =
    let stored : (not (makes (op ops e.from)) || not (makes (op ops e.to))) ≡ true =
    elim m.one_stores [ inl s ↦ or_left _ _ (not_from_false _ s) | inr s ↦ or_right _ _ (not_from_false _ s) ] in
    and_from _ _ (and_from _ _ m.from_memory m.to_memory) (and_from _ _ stored (edge_meets _ _ _ _ _ _ _ m.follows))

module _ (ops : Loop) (hw : Hardware) where
  abbrev Ruled : Edge → Type 0
  Ruled f = OperandEdge ops hw f ⊎ MemoryEdge ops f

  abbrev Listed : Edge → Type 0
  Listed f = Among f (edges ops hw)

  named : (q : ℕ) → q < length ops → (a : Operand) → Among a (operands (op ops q)) → OfOperand Ruled hw q a
  named q l (literal z) m = tt
  named q l (variable p d) m = inl (l, m, refl)

  all_ruled : AllByRecursion Ruled (edges ops hw)
  unfolding Joined
  all_ruled = all_edges Ruled ops hw
      (λ q l. all_to_each (OfOperand Ruled hw q) (op ops q) (All-weaker (λ a. Among a (operands (op ops q))) (OfOperand Ruled hw q) (named q l) (operands (op ops q)) (all_among (operands (op ops q)))))
      (λ p q d hp hq n hd h.
      let j = joined ops p q d h in
      inr (record { from_inside = hp; to_inside = hq; different = n; from_memory = j.0; to_memory = j.1; one_stores = j.2; follows = j.3; waits = refl }))

  operand_listed : (e : Edge) → OperandEdge ops hw e → Listed e
  operand_listed e o =
      let here : Listed (record { from = e.from; to = e.to; delay = hw.latency e.from; distance = e.distance }) =
      among_all (OfOperand Listed hw e.to) (variable e.from e.distance) (operands (op ops e.to)) o.1
      (each_to_all (OfOperand Listed hw e.to) (op ops e.to) (operand_part Listed ops hw (all_among (edges ops hw)) e.to o.0)) in
      subst (λ x. Listed (record { from = e.from; to = e.to; delay = x; distance = e.distance })) (sym o.2) here

  memory_listed : (e : Edge) → MemoryEdge ops e → Listed e
  memory_listed e m =
      let here : Listed (memory_link ops e.from e.to e.distance) =
      memory_part Listed ops hw (all_among (edges ops hw)) e.from e.to e.distance m.from_inside m.to_inside m.different (near _ _ _ _ _ _ _ m.follows) (join ops e m) in
      subst (λ x. Listed (record { from = e.from; to = e.to; delay = x; distance = e.distance })) (sym m.waits) here

pub list_means_rules : ListMeansRules
list_means_rules ops hw e = (
  (λ m. among_all (Ruled ops hw) e (edges ops hw) m (all_ruled ops hw)),
  (λ r. elim r [ inl o ↦ operand_listed ops hw e o | inr m ↦ memory_listed ops hw e m ]),
)

pub forward_edge : (p s a q t b d : ℕ) → Follows p s a q t b d → d ≡ 0 → p < q
forward_edge p s a q t b d (inl z) e = z.4 e
forward_edge p s a q t b d (inr z) e = elim z.1 [ inl y ↦ y.1 | inr y ↦ absurd (omega (arith, y.0)) ]

pub edges_lead_forward : EdgesLeadForward
unfolding Joined
edges_lead_forward ops hw formed = (
  all_edges _ ops hw
      (λ q l. each_operand _ _ (within q l) (op ops q) (formed.named q l))
      (λ p q d hp hq n hd e. (hp, hq)),
  all_edges _ ops hw
      (λ q l. each_operand _ _ (forward q) (op ops q) (formed.named q l))
      (λ p q d hp hq n hd e. forward_edge p _ _ q _ _ d (joined ops p q d e).3),
)
  where
    within : (q : ℕ) → q < length ops → (a : Operand) → Named ops q a → OfOperand (λ e. (e.from < length ops) × (e.to < length ops)) hw q a
    within q l (literal z) h = tt
    within q l (variable p d) h = (h.0, l)

    forward : (q : ℕ) (a : Operand) → Named ops q a → OfOperand (λ e. e.distance ≡ 0 → e.from < e.to) hw q a
    forward q (literal z) h = tt
    forward q (variable p d) h = h.2

pub delay_one : {A : Type 0} (o : Operation A) → memory_delay o ≤ 1
delay_one (load s a) = omega arith
delay_one (store x s a) = omega arith
delay_one (binary c x y) = omega arith
delay_one (move x) = omega arith

pub delays_are_short : DelaysAreShort
delays_are_short ops hw formed = (
  all_edges (λ e. e.delay ≤ hw.latency e.from) ops hw
      (λ q l. each_operand _ _ (operand q) (op ops q) (formed.named q l))
      (λ p q d hp hq n hd e. omega (arith, delay_one (op ops p), (formed.latencies p hp).0)),
  λ e m. omega (arith, m.waits, delay_one (op ops e.from)),
)
  where
    operand : (q : ℕ) (a : Operand) → Named ops q a → OfOperand (λ e. e.delay ≤ hw.latency e.from) hw q a
    operand q (literal z) h = tt
    operand q (variable p d) h = omega arith
