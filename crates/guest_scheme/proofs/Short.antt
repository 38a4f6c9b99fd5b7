-- Short lives want at most eight turns.
use Rattle.std.proofs.Common.{◌≡◌, ℕ, zero, suc, ◌+◌, ◌-◌, ◌*◌, ◌/◌, ◌<◌, ◌≤◌, true, false, ◌&&◌, ltb, List, [], ◌∷◌, length, get_or, drop, sym, refl, ap, ◌∙◌, div-lt_iff_lt-mul, add-one, arith, drop-cons}
use Rattle.std.proofs.lemmas.Bool.{lt-ltb, le-ltb, ltb-true, cond-true}
use Rattle.std.proofs.lemmas.List.Sums.{AllPass-from_list_all}
use Rattle.model.specs.declared.Life.{Life}
use Rattle.model.specs.Lives.{Table, no_life, Limits}
use Rattle.model.specs.Schemes.{Accepted, want}
use Rattle.register_laws.proofs.Expanded.{turning_apart}
use Rattle.guest_scheme.specs.Lane.{short, lanes_need, lanes_turns, lanes_with}

pub wants_few : (k : ℕ) (ls : List Life) → 0 < k → short k ls ≡ true → (v : ℕ) → v < length ls → want k (get_or ls v no_life) ≤ 8
wants_few k ls some h v lt =
    let l = get_or ls v no_life in
    let s : l.end - l.start < 8 * k = ltb-true _ _ (AllPass-from_list_all _ ls h v no_life lt) in
    let d : (l.end - l.start) / k < 8 = (div-lt_iff_lt-mul some).1 s in
    omega arith

module _ (k : ℕ) (ls : List Life) (i : ℕ) (lt : i < length ls) where
  here : short k (drop i ls) ≡ (ltb ((get_or ls i no_life).end - (get_or ls i no_life).start) (8 * k) && short k (drop (suc i) ls))
  here = ap (short k) (drop-cons ls i no_life lt)

  pub short_more : short k ls ≡ short k (drop i ls) → (get_or ls i no_life).end - (get_or ls i no_life).start < 8 * k → short k ls ≡ short k (drop (i + 1) ls)
  short_more inv h = rw add-one (inv ∙ here ∙ ap (λ b. b && short k (drop (suc i) ls)) (lt-ltb _ _ h))

  pub too_long : short k ls ≡ short k (drop i ls) → 8 * k ≤ (get_or ls i no_life).end - (get_or ls i no_life).start → false ≡ short k ls
  too_long inv h = sym (inv ∙ here ∙ ap (λ b. b && short k (drop (suc i) ls)) (le-ltb _ _ h))

nothing : (k : ℕ) (ls : List Life) (i : ℕ) → length ls ≤ i → short k (drop i ls) ≡ true
nothing k [] zero h = refl
nothing k [] (suc i) h = refl
nothing k (l ∷ ls) zero h = let f : ⊥ = omega arith in absurd f
nothing k (l ∷ ls) (suc i) h = nothing k ls i (omega arith)

pub short_all : (k : ℕ) (ls : List Life) (i : ℕ) → length ls ≤ i → short k ls ≡ short k (drop i ls) → true ≡ short k ls
short_all k ls i h inv = sym (inv ∙ nothing k ls i h)

module _ (m n u : ℕ) (t : Table) (limits : Limits t) (all : n ≡ length t.lives) (fits : short t.interval t.lives ≡ true) (turns : u ≡ lanes_turns n) where
  pub accepts : Accepted (lanes_with m) (lanes_with n) (lanes_with n).place t u
  accepts = record {
    within = let e : lanes_need t ≡ 8 * length t.lives = cond-true _ _ 257 fits in omega (arith, limits.few);
    turns = turns;
    variables = all;
    file = refl;
    need = refl;
    apart = turning_apart t 8 (omega (arith, limits.some)) (omega arith) (wants_few t.interval t.lives (omega (arith, limits.some)) fits);
  }
