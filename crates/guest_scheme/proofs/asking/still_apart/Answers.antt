use Rattle.std.proofs.Common.{◌≡◌, ◌<◌, not, sym, ap, ◌∙◌, rules, arith}
use Rattle.std.proofs.Math.Nat.{sub-zero}
use Rattle.std.proofs.lemmas.Bool.{ne_eqb}
use Rattle.guest_scheme.proofs.asking.still_apart.Goals as goal

pub returns : goal.returns
returns g c n alive_a alive_b differ =
    let taken = c.in_ok-turns.ensures in
    let same = c.in-None.ensures.same in
    let meaning = g.S.Scheme.meaning in
    let place = g.S.Scheme.place in
    let a = c.args.a in
    let b = c.args.b in
    let turns = taken.turns ∙ ap (λ x. (meaning x).turns) (sym same) in
    let many = ap (λ x. (meaning x).variables) same ∙ taken.variables in
    let known_a : a.variable < (meaning c.fit-2.new.self).variables = omega (arith, many, alive_a.known) in
    let known_b : b.variable < (meaning c.fit-2.new.self).variables = omega (arith, many, alive_b.known) in
    let first : c.place.result ≡ place c.fit-2.new.self a.variable a.iteration = search (rules, sub-zero) in
    let second : c.place-2.result ≡ place c.fit-2.new.self b.variable b.iteration = search (rules, sub-zero) in
    let apart = taken.apart a.variable a.iteration b.variable b.iteration n alive_a alive_b in
    ap not (ne_eqb _ _ (λ e. differ (apart (rw (← same) (sym first ∙ e ∙ second)))))
