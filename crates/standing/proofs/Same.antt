-- Equal lists of edges. Assumes nothing.
use Rattle.std.proofs.Common.{◌≡◌, ℕ, true, eqb, List, [], ◌∷◌, Some, Option, sym, refl, ap, ◌∙◌, subst, arith}
use Rattle.std.proofs.lemmas.Bool.{eqb-true, eq-eqb, and_parts}
use Rattle.model.specs.declared.Edge.{Edge}
use Rattle.guarantee.specs.Calls.{Body}
use Rattle.standing.specs.Tied.{edges_in, same_edge, same_edges, edges_tied, edges_told}

same_as_itself : (e : Edge) → same_edge e e ≡ true
same_as_itself e = rw (eq-eqb e.from e.from refl) (rw (eq-eqb e.to e.to refl) (rw (eq-eqb e.delay e.delay refl) (eq-eqb e.distance e.distance refl)))

all_same : (es : List Edge) → same_edges es es ≡ true
unfolding same_edges
all_same [] = refl
all_same (e ∷ es) = rw (same_as_itself e) (all_same es)

pub edges_same : (ds es : List Edge) → ds ≡ es → same_edges ds es ≡ true
edges_same ds es e = subst (λ x. same_edges ds x ≡ true) e (all_same ds)

one_edge : (a b c d e f g h : ℕ) → same_edge (record { from = a; to = b; delay = c; distance = d }) (record { from = e; to = f; delay = g; distance = h }) ≡ true →
    ◌≡◌ {A = Edge} (record { from = a; to = b; delay = c; distance = d }) (record { from = e; to = f; delay = g; distance = h })
one_edge a b c d e f g h t =
    let x = and_parts (eqb a e) _ t in
    let y = and_parts (eqb b f) _ x.1 in
    let z = and_parts (eqb c g) _ y.1 in
    let p = eqb-true a e x.0 in
    let q = eqb-true b f y.0 in
    let r = eqb-true c g z.0 in
    let s = eqb-true d h z.1 in
    cc

pub are_edges : (ds es : List Edge) → same_edges ds es ≡ true → ds ≡ es
unfolding same_edges
are_edges [] [] h = refl
are_edges [] (e ∷ es) h = let z : ◌≡◌ {A = ℕ} 0 1 = cc in absurd (omega arith)
are_edges (d ∷ ds) [] h = let z : ◌≡◌ {A = ℕ} 0 1 = cc in absurd (omega arith)
are_edges (d ∷ ds) (e ∷ es) h =
    let x = and_parts (same_edge d e) (same_edges ds es) h in
    let first : d ≡ e = one_edge d.from d.to d.delay d.distance e.from e.to e.delay e.distance x.0 in
    let rest = are_edges ds es x.1 in
    cc

-- the edges of the loop that stands
pub tied_edges : (o : Option Body) (es : List Edge) (b : Body) → edges_tied o es ≡ true → o ≡ Some b → es ≡ edges_in b
tied_edges o es b t e = are_edges es (edges_in b) (subst (λ x. edges_tied x es ≡ true) e t)

pub told_edges : (o : Option Body) (es : List Edge) (b : Body) → edges_tied o es ≡ true → o ≡ Some b → es ≡ edges_told o
told_edges o es b t e = tied_edges o es b t e ∙ sym (ap edges_told e)
