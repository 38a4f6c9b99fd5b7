-- The circuit that the code names is a witness.
use Rattle.std.proofs.Common.{◌≡◌, ℕ, zero, suc, ◌+◌, ◌-◌, ◌*◌, ◌<◌, ◌≤◌, List, [], ◌∷◌, ◌++◌, length, get_or, take, drop, set, sym, refl, ap, ◌∙◌, subst, inl, inr, add-one, arith, take-add}
use Rattle.std.specs.List.{AllByRecursion}
use Rattle.std.proofs.lemmas.List.{length-take-le, length-drop, drop-drop, drop-take, take-take, drop_more, take_more, take_more_set, get_or-take, get_or-drop, append_assoc}
use Rattle.std.proofs.lemmas.Bool.{cases_lt}
use Rattle.model.specs.declared.Edge.{Edge}
use Rattle.model.specs.Walks.{edge, Walk, delays, distances, froms, Simple, Within}
use Rattle.model.specs.Minimum.{CircuitWitness}
use Rattle.model.specs.Relaxation.{rounds}
use Rattle.graph_laws.proofs.Relaxed.{short_below}
use Rattle.graph_laws.proofs.Cut.{Cut, cut_gains, risen}
use Rattle.graph_laws.proofs.Turn.{turned}
use Rattle.graph_laws.specs.Trails.{BestWalk, Repeats}
use Rattle.graph_laws.proofs.Again.{repeats_cut}

-- a walk that the last round made better has as many edges as rounds
pub exact_length : (es : List Edge) (k count u : ℕ) (xs : List ℕ) → 0 < count → BestWalk es k count u xs → rounds k es (count - 1) u < rounds k es count u → count ≤ length xs
exact_length es k count u xs some b better = elim (cases_lt (length xs) count) [
  | inl l ↦ absurd (omega (arith, short_below es k (count - 1) u b.end xs b.walk (omega arith), b.sum))
  | inr g ↦ g
]

pub risen_before : (es : List Edge) (k count u : ℕ) → Within count es → 0 < count → rounds k es (count - 1) u < rounds k es count u → u < count
risen_before es k zero u within some better = absurd (omega arith)
risen_before es k (suc r) u within some better =
    let e : suc r - 1 ≡ r = omega arith in
    risen es k (suc r) within r u (rw e at better)

module _ (es : List Edge) where
  walk_split : (u v : ℕ) (xs ys : List ℕ) → Walk es u (xs ++ ys) v → (m : ℕ) × Walk es u xs m × Walk es m ys v
  walk_split u v [] ys w = (u, refl, w)
  walk_split u v (x ∷ xs) ys w = let s = walk_split (edge es x).to v xs ys w.2 in (s.0, (w.0, w.1, s.1), s.2)

  all_froms : (z : ℕ) (xs : List ℕ) → ((t : ℕ) → t < length xs → z ≤ (edge es (get_or xs t 0)).from) → AllByRecursion (λ v. z ≤ v) (froms es xs)
  all_froms z [] h = tt
  all_froms z (x ∷ xs) h = (h 0 (omega arith), all_froms z xs (λ t l. h (suc t) (omega arith)))

  first_from : (m v x : ℕ) (xs ys : List ℕ) → ys ≡ x ∷ xs → Walk es m ys v → (edge es x).from ≡ m
  first_from m v x xs ys e w = (subst (λ l. Walk es m l v) e w).1

  pub witness : (k count u len i j low : ℕ) (path : List ℕ) → 0 < count → BestWalk es k count u (take len path) → rounds k es (count - 1) u < rounds k es count u →
      Repeats es u (take len path) i j → len ≤ length path → i ≤ low → low < j →
      ((t : ℕ) → i ≤ t → t < j → (edge es (get_or path low 0)).from ≤ (edge es (get_or path t 0)).from) →
      CircuitWitness es (k + 1) (take (j - low) (drop low path) ++ take (low - i) (drop i path))
  unfolding repeats_cut
  witness k count u len i j low path some b better r room after before least =
      let c : Cut es u b.end (take len path) = repeats_cut es u b.end (take len path) i j b.walk r in
      let xs : List ℕ = take (low - i) (drop i path) in
      let ys : List ℕ = take (j - low) (drop low path) in
      let size : length (take len path) ≡ len = length-take-le len path room in
      let whole : take (j - i) (drop i (take len path)) ≡ take (j - i) (drop i path) =
      let e : i + (len - i) ≡ len = omega (arith, r.order, r.inside) in
      ap (λ n. take (j - i) (drop i (take n path))) (sym e) ∙ ap (take (j - i)) (drop-take i (len - i) path) ∙ take-take (j - i) (len - i) (drop i path) (omega (arith, r.inside)) in
      let parts : take (j - i) (drop i (take len path)) ≡ xs ++ ys =
      let e : (low - i) + (j - low) ≡ j - i = omega arith in
      let f : i + (low - i) ≡ low = omega arith in
      whole ∙ ap (λ n. take n (drop i path)) (sym e) ∙ take-add (low - i) (j - low) (drop i path) ∙
      ap (λ l. xs ++ take (j - low) l) (drop-drop (low - i) i path ∙ ap (λ n. drop n path) f) in
      let count_of : suc (count - 1) ≡ count = omega arith in
      let gains : distances es (take (j - i) (drop i (take len path))) * k < delays es (take (j - i) (drop i (take len path))) =
      cut_gains es k u b.end (count - 1) (rounds k es count u) (take len path) c (omega (arith, b.short)) b.sum better in
      let loop : Walk es c.at (xs ++ ys) c.at = subst (λ l. Walk es c.at l c.at) parts c.around in
      let s = walk_split c.at c.at xs ys loop in
      let head : ys ≡ get_or path low 0 ∷ take (j - low - 1) (drop (low + 1) path) =
      let e : j - low ≡ suc (j - low - 1) = omega arith in
      ap (λ n. take n (drop low path)) e ∙ ap (take (suc (j - low - 1))) (drop_more path low 0 (omega (arith, r.inside))) in
      let from : (edge es (get_or path low 0)).from ≡ s.0 = first_from s.0 c.at (get_or path low 0) _ ys head s.2 in
      let lowest : AllByRecursion (λ v. s.0 ≤ v) (froms es (take (j - i) (drop i path))) = all_froms s.0 (take (j - i) (drop i path)) (λ t l.
      let bound : t < j - i = omega (arith, length-take-le (j - i) (drop i path) (omega (arith, length-drop i path, r.inside))) in
      let at : get_or (take (j - i) (drop i path)) t 0 ≡ get_or path (i + t) 0 = get_or-take (j - i) (drop i path) t 0 bound ∙ get_or-drop i path t 0 in
      omega (arith, from, least (i + t) (omega arith) (omega arith), ap (λ x. (edge es x).from) at)) in
      rw add-one (turned es k c.at s.0 xs ys s.1 s.2 (omega (arith, ap length head))
      (subst (λ l. Simple es l) parts c.simple)
      (subst (λ l. AllByRecursion (λ v. s.0 ≤ v) (froms es l)) (sym whole ∙ parts) lowest)
      (subst (λ l. distances es l * k < delays es l) parts gains))

-- one more edge behind
pub pushed : (to start other : List ℕ) (len base low t : ℕ) → len < length to → low ≤ t → t < length other →
    take len to ≡ take base start ++ take (t - low) (drop low other) →
    take (len + 1) (set to len (get_or other t 0)) ≡ take base start ++ take ((t + 1) - low) (drop low other)
pushed to start other len base low t room order inside inv =
    let e : (t + 1) - low ≡ (t - low) + 1 = omega arith in
    let f : low + (t - low) ≡ t = omega arith in
    take_more_set to len (get_or other t 0) room ∙
    ap (λ l. l ++ get_or other t 0 ∷ []) inv ∙
    append_assoc (take base start) (take (t - low) (drop low other)) (get_or other t 0 ∷ []) ∙
    ap (λ l. take base start ++ l) (
    ap (λ x. take (t - low) (drop low other) ++ x ∷ []) (sym (get_or-drop low other (t - low) 0 ∙ ap (λ n. get_or other n 0) f)) ∙
    sym (take_more (drop low other) (t - low) 0 (omega (arith, length-drop low other))) ∙
    ap (λ n. take n (drop low other)) (sym e)
    )
