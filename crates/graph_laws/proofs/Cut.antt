-- A long walk has a simple circuit in it, and one that no shorter walk equals has a circuit above k.
use Rattle.std.proofs.Common.{◌≡◌, ℕ, suc, ◌+◌, ◌*◌, ◌<◌, ◌≤◌, ◌⊎◌, List, [], ◌∷◌, ◌++◌, length, sym, refl, ap, ◌∙◌, inl, inr, add-mul, arith}
use Rattle.std.specs.List.{AllByRecursion}
use Rattle.std.proofs.ByRecursion.{All-get_or}
use Rattle.std.proofs.lemmas.Bool.{cases_eq, cases_lt}
use Rattle.model.specs.declared.Edge.{Edge}
use Rattle.model.specs.Walks.{edge, Walk, delays, distances, froms, Absent, Distinct, Simple, Within}
use Rattle.model.specs.Relaxation.{rounds}
use Rattle.model.specs.GraphLaws.{ChangeGivesCircuit}
use Rattle.graph_laws.proofs.Relaxed.{round_came, short_below, attained}
use Rattle.graph_laws.proofs.Pigeons.{pigeons}

module _ (es : List Edge) where
  -- the operations along a walk to v, with v
  abbrev nodes : List ℕ → ℕ → List ℕ
  nodes [] v = v ∷ []
  nodes (x ∷ xs) v = (edge es x).from ∷ nodes xs v

  length_nodes : (xs : List ℕ) (v : ℕ) → length (nodes xs v) ≡ suc (length xs)
  length_nodes [] v = refl
  length_nodes (x ∷ xs) v = ap suc (length_nodes xs v)

  nodes_within : (n : ℕ) → Within n es → (u v : ℕ) (xs : List ℕ) → u < n → Walk es u xs v → AllByRecursion (λ y. y < n) (nodes xs v)
  nodes_within n inside u v [] h w = (omega (arith, w), tt)
  nodes_within n inside u v (x ∷ xs) h w =
      let here : ((edge es x).from < n) × ((edge es x).to < n) = All-get_or (λ e. (e.from < n) × (e.to < n)) es x _ w.0 inside in
      (here.0, nodes_within n inside (edge es x).to v xs here.1 w.2)

  -- A walk parted where it first comes to y.
  record Parted (u y v : ℕ) (xs : List ℕ) : Type 0 where
    front : List ℕ
    back : List ℕ
    to_y : Walk es u front y
    from_y : Walk es y back v
    split : xs ≡ front ++ back
    new : Absent y (froms es front)
    different : Distinct (froms es front)
    among : (a : ℕ) → Absent a (nodes xs v) → Absent a (froms es front)

  part : (u y v : ℕ) (xs : List ℕ) → Walk es u xs v → Distinct (nodes xs v) → Absent y (nodes xs v) ⊎ Parted u y v xs
  part u y v [] w d = elim (cases_eq y v) [
    | inl e ↦ inr (record { front = []; back = []; to_y = w ∙ sym e; from_y = e; split = refl; new = tt; different = tt; among = λ a h. tt })
    | inr n ↦ inl (n, tt)
  ]
  part u y v (x ∷ xs) w d = elim (cases_eq y (edge es x).from) [
    | inl e ↦ inr (record {
      front = [];
      back = x ∷ xs;
      to_y = sym w.1 ∙ sym e;
      from_y = (w.0, sym e, w.2);
      split = refl;
      new = tt;
      different = tt;
      among = λ a h. tt;
    })
    | inr n ↦ elim (part (edge es x).to y v xs w.2 d.1) [
      | inl none ↦ inl (n, none)
      | inr p ↦ inr (record {
        front = x ∷ p.front;
        back = p.back;
        to_y = (w.0, w.1, p.to_y);
        from_y = p.from_y;
        split = ap (λ l. x ∷ l) p.split;
        new = (n, p.new);
        different = (p.among (edge es x).from d.0, p.different);
        among = λ a h. (h.0, p.among a h.1);
      })
    ]
  ]

  -- A walk with a simple circuit in it.
  pub record Cut (u v : ℕ) (xs : List ℕ) : Type 0 where
    pub before : List ℕ
    pub round_trip : List ℕ
    pub after : List ℕ
    pub at : ℕ
    pub there : Walk es u before at
    pub around : Walk es at round_trip at
    pub on : Walk es at after v
    pub split : xs ≡ before ++ (round_trip ++ after)
    pub some : 0 < length round_trip
    pub simple : Simple es round_trip

  pub cut : (u v : ℕ) (xs : List ℕ) → Walk es u xs v → Distinct (nodes xs v) ⊎ Cut u v xs
  cut u v [] w = inl (tt, tt)
  cut u v (x ∷ xs) w = elim (cut (edge es x).to v xs w.2) [
    | inr c ↦ inr (record {
      before = x ∷ c.before;
      round_trip = c.round_trip;
      after = c.after;
      at = c.at;
      there = (w.0, w.1, c.there);
      around = c.around;
      on = c.on;
      split = ap (λ l. x ∷ l) c.split;
      some = c.some;
      simple = c.simple;
    })
    | inl d ↦ elim (part (edge es x).to (edge es x).from v xs w.2 d) [
      | inl none ↦ inl (none, d)
      | inr p ↦ inr (record {
        before = [];
        round_trip = x ∷ p.front;
        after = p.back;
        at = (edge es x).from;
        there = sym w.1;
        around = (w.0, refl, p.to_y);
        on = p.from_y;
        split = ap (λ l. x ∷ l) p.split;
        some = omega arith;
        simple = (p.new, p.different);
      })
    ]
  ]

  pub delays_append : (xs ys : List ℕ) → delays es (xs ++ ys) ≡ delays es xs + delays es ys
  delays_append [] ys = omega arith
  delays_append (x ∷ xs) ys = omega (arith, delays_append xs ys)

  pub distances_append : (xs ys : List ℕ) → distances es (xs ++ ys) ≡ distances es xs + distances es ys
  distances_append [] ys = omega arith
  distances_append (x ∷ xs) ys = omega (arith, distances_append xs ys)

  pub length-append : (xs ys : List ℕ) → length (xs ++ ys) ≡ length xs + length ys
  length-append [] ys = omega arith
  length-append (x ∷ xs) ys = omega (arith, length-append xs ys)

  pub walk_append : (u y v : ℕ) (xs ys : List ℕ) → Walk es u xs y → Walk es y ys v → Walk es u (xs ++ ys) v
  walk_append u y v [] ys w z = rw w z
  walk_append u y v (x ∷ xs) ys w z = (w.0, w.1, walk_append (edge es x).to y v xs ys w.2 z)

  pub long_walk : (n : ℕ) → Within n es → (u v : ℕ) (xs : List ℕ) → u < n → Walk es u xs v → n ≤ length xs → Cut u v xs
  long_walk n inside u v xs h w l = elim (cut u v xs w) [
    | inl d ↦ absurd (omega (arith, pigeons n (nodes xs v) d (nodes_within n inside u v xs h w), length_nodes xs v))
    | inr c ↦ c
  ]

  -- A walk that no walk of fewer edges equals: the circuit in it is above k.
  pub cut_gains : (k u v r value : ℕ) (xs : List ℕ) (c : Cut u v xs) → length xs ≤ suc r → delays es xs ≡ value + distances es xs * k → rounds k es r u < value →
      distances es c.round_trip * k < delays es c.round_trip
  cut_gains k u v r value xs c l sum better =
      let a = c.before in
      let b = c.round_trip in
      let z = c.after in
      let d : delays es xs ≡ delays es a + (delays es b + delays es z) = ap (delays es) c.split ∙ delays_append a (b ++ z) ∙ ap (λ x. delays es a + x) (delays_append b z) in
      let s : distances es xs ≡ distances es a + (distances es b + distances es z) =
      ap (distances es) c.split ∙ distances_append a (b ++ z) ∙ ap (λ x. distances es a + x) (distances_append b z) in
      let m : length xs ≡ length a + (length b + length z) = ap length c.split ∙ length-append a (b ++ z) ∙ ap (λ x. length a + x) (length-append b z) in
      let sk : distances es xs * k ≡ distances es a * k + (distances es b * k + distances es z * k) =
      ap (λ x. x * k) s ∙ add-mul (distances es a) _ k ∙ ap (λ x. distances es a * k + x) (add-mul (distances es b) (distances es z) k) in
      let short : length (a ++ z) ≤ r = omega (arith, length-append a z, c.some) in
      omega (
        arith,
        short_below es k r u v (a ++ z) (walk_append u c.at v a z c.there c.on) short,
        delays_append a z,
        ap (λ x. x * k) (distances_append a z),
        add-mul (distances es a) (distances es z) k,
      )

-- only an operation that an edge leaves is raised
pub risen : (es : List Edge) (k n : ℕ) → Within n es → (r u : ℕ) → rounds k es r u < rounds k es (suc r) u → u < n
unfolding rounds
risen es k n inside r u better = elim (round_came k (rounds k es r) es u) [
  | inl e ↦ absurd (omega arith)
  | inr c ↦
      let here : ((edge es c.0).from < n) × ((edge es c.0).to < n) = All-get_or (λ e. (e.from < n) × (e.to < n)) es c.0 _ c.1 inside in
      omega (arith, here.0, c.2)
]

pub change_gives_circuit : ChangeGivesCircuit
change_gives_circuit es k n inside r u late better =
    let h : u < n = risen es k n inside r u better in
    let a = attained es k (suc r) u in
    let exact : suc r ≤ length a.best = elim (cases_lt (length a.best) (suc r)) [
      | inl l ↦ absurd (omega (arith, short_below es k r u a.end a.best a.walk (omega arith), a.sum))
      | inr g ↦ g
    ] in
    let c = long_walk es n inside u a.end a.best h a.walk (omega arith) in
    (c.round_trip, (c.some, (c.at, c.around)), c.simple, cut_gains es k u a.end r (rounds k es (suc r) u) a.best c a.short a.sum better)
