-- The marks of a round, edge by edge, and of the rounds.
use Rattle.std.proofs.Common.{◌≡◌, ℕ, zero, suc, ◌+◌, ◌<◌, ◌≤◌, List, [], ◌∷◌, ◌++◌, Some, None, Option, true, false, cond, is_some, position, length, get_or, take, set, replicate, ◌-◌, subst, refl, sym, ap, ◌∙◌, subst₂, inl, inr, arith}
use mathlib.Core.Path.{fun_ext}
use Rattle.std.proofs.lemmas.List.{get_or-set_same, get_or-set_other, get_or_past, get_or_push, get_or_append_left, length-append}
use Rattle.std.proofs.lemmas.Option.{none-some}
use Rattle.std.proofs.lemmas.Bool.{cases_eq, cases_lt, lt-ltb, both_ways}
use Rattle.std.specs.List.{position_or_len}
use Rattle.std.proofs.lemmas.List.Sums.{fails_before_first}
use Rattle.std.proofs.lemmas.List.Quantifiers.{position-Some}
use Rattle.model.specs.Minimum.{NoneAbove, Standing, IsHeight}
use Rattle.model.specs.declared.Edge.{Edge}
use Rattle.model.specs.Walks.{edge}
use Rattle.model.specs.Relaxation.{offer, round, rounds}
use Rattle.graph_laws.specs.Trails.{value}
use Rattle.graph_laws.proofs.Relaxed.{round_keeps}
use Rattle.graph_laws.proofs.Steps.{one_more, settled, rose, low, widened, stands_still}
use Rattle.bounds.specs.declared.graph.Graph.{Graph}
use Rattle.bounds.specs.declared.graph.Relaxation.{Relaxation}
use Rattle.bounds.specs.declared.row.Row.{Row}
use Rattle.bounds.specs.Noted.{noted}
use Rattle.bounds.specs.Rounds.{Low, RoundOf, StillRises, Rose, Marked, Traced}

pub no_marks : (n u : ℕ) → noted (replicate n None) u ≡ None
no_marks zero u = refl
no_marks (suc n) zero = refl
no_marks (suc n) (suc u) = no_marks n u

pub unmarked : (es : List Edge) (k : ℕ) (h : ℕ → ℕ) (n u : ℕ) → Marked es k h h u (noted (replicate n None) u)
unmarked es k h n u = rw (no_marks n u) refl

same_mark : (es : List Edge) (k : ℕ) (h g f : ℕ → ℕ) (u : ℕ) (m : Option ℕ) → f u ≡ g u → Marked es k h g u m → Marked es k h f u m
same_mark es k h g f u None e w = e ∙ w
same_mark es k h g f u (Some x) e w = ((w.0.0, w.0.1, e ∙ w.0.2), omega (arith, e, w.1))

module _ (k i : ℕ) (es : List Edge) (old new : List ℕ) (marks : List (Option ℕ)) (l : i < length es)
    (inv : (u : ℕ) → get_or new u 0 ≡ round k (take i es) (value old) u) (marked : (u : ℕ) → Marked es k (value old) (value new) u (noted marks u)) where
  pub mark_raises : (v : ℕ) → (edge es i).from < length new → (edge es i).from < length marks → v ≡ offer k (value old) (edge es i) → get_or new (edge es i).from 0 < v →
      (u : ℕ) → Marked es k (value old) (value (set new (edge es i).from v)) u (noted (set marks (edge es i).from (Some i)) u)
  mark_raises v room space is better u = elim (cases_eq u (edge es i).from) [
    | inl e ↦
        let here : get_or (set new (edge es i).from v) u 0 ≡ v = ap (λ x. get_or (set new (edge es i).from v) x 0) e ∙ get_or-set_same new (edge es i).from v 0 room in
        let by : noted (set marks (edge es i).from (Some i)) u ≡ Some i = ap (noted (set marks (edge es i).from (Some i))) e ∙ get_or-set_same marks (edge es i).from (Some i) None space in
        rw by ((l, sym e, here ∙ is), omega (arith, here, ap (λ x. get_or new x 0) e, inv u, round_keeps k (value old) (take i es) u))
    | inr n ↦
        let here : get_or (set new (edge es i).from v) u 0 ≡ get_or new u 0 = get_or-set_other new (edge es i).from u v 0 n in
        let by : noted (set marks (edge es i).from (Some i)) u ≡ noted marks u = get_or-set_other marks (edge es i).from u (Some i) None n in
        rw by (same_mark es k (value old) (value new) (value (set new (edge es i).from v)) u (noted marks u) here (marked u))
  ]

-- one more round
pub row_traced : (k r : ℕ) (es : List Edge) (old new : List ℕ) (marks : List (Option ℕ)) (rows : List (List (Option ℕ))) →
    ((u : ℕ) → get_or old u 0 ≡ rounds k es r u) → ((u : ℕ) → get_or new u 0 ≡ round k es (value old) u) →
    ((u : ℕ) → Marked es k (value old) (value new) u (noted marks u)) → Traced es k r rows → Traced es k (r + 1) (rows ++ marks ∷ [])
unfolding rounds
row_traced k r es old new marks rows inv step marked before = record {
  many = omega (arith, length-append rows (marks ∷ []), before.many);
  each = λ s l u. elim (cases_eq s r) [
    | inl e ↦
        let here : get_or (rows ++ marks ∷ []) s [] ≡ marks = get_or_push rows marks [] s (before.many ∙ sym e) in
        let old_is : value old ≡ rounds k es s = fun_ext inv ∙ ap (rounds k es) (sym e) in
        let new_is : value new ≡ rounds k es (suc s) = fun_ext (λ v. step v ∙ ap (λ h. round k es h v) old_is) in
        rw here (subst₂ (λ h g. Marked es k h g u (noted marks u)) old_is new_is (marked u))
    | inr n ↦
        let here : get_or (rows ++ marks ∷ []) s [] ≡ get_or rows s [] = get_or_append_left rows (marks ∷ []) [] s (omega (arith, before.many)) in
        rw here (before.each s (omega arith) u)
  ];
}

pub none_at : (m : Option ℕ) → is_some m ≡ false → m ≡ None
none_at None e = refl
none_at (Some x) e = absurd (both_ways _ e refl)

some_at : (m : Option ℕ) → is_some m ≡ true → (x : ℕ) × (m ≡ Some x)
some_at None e = absurd (both_ways _ refl e)
some_at (Some x) e = (x, refl)

pub none_raised : (marks : List (Option ℕ)) → position is_some marks ≡ None → (u : ℕ) → noted marks u ≡ None
none_raised marks e u = elim (cases_lt u (position_or_len is_some marks)) [
  | inl l ↦ none_at (noted marks u) (fails_before_first is_some marks u None l)
  | inr g ↦ elim (cases_lt (position_or_len is_some marks) (length marks)) [
    | inl l ↦ absurd (none-some _ (sym e ∙ ap (λ b. cond b (Some (position_or_len is_some marks)) None) (lt-ltb _ _ l)))
    | inr h ↦ get_or_past marks u None (omega arith)
  ]
]

pub some_raised : (marks : List (Option ℕ)) (u : ℕ) → position is_some marks ≡ Some u → (u < length marks) × ((x : ℕ) × (noted marks u ≡ Some x))
some_raised marks u e = let p = position-Some is_some marks u None e in (p.0, some_at (noted marks u) p.1)

-- A round that marks nothing leaves the heights, and one that marks an operation still raised it.
module _ (g : Relaxation) (r : ℕ) (old : List ℕ) (l : r ≤ g.graph.count)
    (inv : (u : ℕ) → get_or old u 0 ≡ rounds g.interval g.graph.edges.now r u) where
  pub low_values : Low old
  low_values = low g.interval 32 r g.graph.edges.now old (widened g.graph.count 32 g.graph.edges.now g.graph.fits.few g.graph.fits.each) (omega (arith, g.graph.fits.few)) inv

  module _ (row : Row) (is : RoundOf g.graph.edges.now g.interval old row) where
    pub next_values : (u : ℕ) → get_or row.values u 0 ≡ rounds g.interval g.graph.edges.now (r + 1) u
    next_values = one_more g.interval r g.graph.edges.now old row.values inv is.values

    pub heights_here : position is_some row.marks ≡ None → NoneAbove g.graph.edges.now g.interval × ((u : ℕ) → IsHeight g.graph.edges.now g.interval u (value old u))
    heights_here e = settled g.interval r g.graph.edges.now old row.values inv is.values (λ u. rw (none_raised row.marks e u) at (is.marks u))

    pub still_rises : (u : ℕ) → position is_some row.marks ≡ Some u → length row.marks ≡ 32 → r + 1 ≡ g.graph.count → StillRises g.graph.edges.now g.interval g.graph.count u
    still_rises u e size last =
        let s = some_raised row.marks u e in
        let higher = (rw s.1.1 at (is.marks u)).1 in (
          omega (arith, s.0),
          subst (λ n. rounds g.interval g.graph.edges.now (n - 1) u < rounds g.interval g.graph.edges.now n u) last
              (rose g.interval r g.graph.edges.now old row.values inv is.values u (λ same. omega (arith, higher, same))),
        )

-- Where the rounds settle at no interval up to 256, some circuit has no distance.
pub never_settles : (g : Graph) (k : ℕ) (m : Option ℕ) → k ≡ 257 → Rose g.edges.now k g.count m → Standing g.edges.now
never_settles g k None e h = absurd (omega (arith, e))
never_settles g k (Some u) e h =
    let last : k - 1 ≡ 256 = omega arith in
    stands_still g.edges.now g.count g.fits.each u g.fits.some g.fits.few
    (subst (λ j. rounds j g.edges.now (g.count - 1) u < rounds j g.edges.now g.count u) last h.1.1)

-- The last of the rows, and those before it.
pub row_before : (es : List Edge) (k : ℕ) (rows : List (List (Option ℕ))) (marks : List (Option ℕ)) → Traced es k (length (rows ++ marks ∷ [])) (rows ++ marks ∷ []) →
    Traced es k (length rows) rows × ((u : ℕ) → Marked es k (rounds k es (length rows)) (rounds k es (suc (length rows))) u (noted marks u))
row_before es k rows marks t =
    let more = length-append rows (marks ∷ []) in (
      record {
        many = refl;
        each = λ s l u. subst (λ row. Marked es k (rounds k es s) (rounds k es (suc s)) u (noted row u)) (get_or_append_left rows (marks ∷ []) [] s l) (t.each s (omega (arith, more)) u);
      },
      λ u. subst (λ row. Marked es k (rounds k es (length rows)) (rounds k es (suc (length rows))) u (noted row u)) (get_or_push rows marks [] (length rows) refl) (t.each (length rows) (omega (arith, more)) u),
    )
