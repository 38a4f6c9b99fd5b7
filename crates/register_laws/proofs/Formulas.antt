-- The schemes' places, names and registers by the formulas over the integers.
use Rattle.std.proofs.Common.{◌≡◌, ℕ, ◌+◌, ◌-◌, ◌*◌, ◌/◌, ◌%◌, ◌<◌, ltb, length, take, pos, ◌+ℤ◌, ◌-ℤ◌, sym, refl, ap, ◌∙◌, mul_comm, arith}
use native.Mathlib.Nat.{mod-add-mod}
use Rattle.std.specs.Int.{int_rem_euclid}
use Rattle.std.proofs.lemmas.Int.{int_rem_euclid_is, ints}
use Rattle.std.proofs.lemmas.Bool.{lt-ltb, cond-true}
use Rattle.model.specs.Lives.{life}
use Rattle.model.specs.Schemes.{less, widths, rotating_base, expanded_turns}
use Rattle.model.specs.SchemeLaws.{PlacesByFormula}
use Rattle.register_laws.proofs.Modulo.{split}
use Rattle.register_laws.proofs.Names.{named}
use Rattle.register_laws.proofs.Rotating as turning
use Rattle.register_laws.proofs.Expanded.{some_want}

-- less is the remainder of the difference
difference : (m a b : ℕ) → 0 < m → pos (less m a b) ≡ int_rem_euclid (pos a -ℤ pos b) (pos m)
difference m a b some =
    let s = split m b some in
    let c = mul_comm b m in
    sym (int_rem_euclid_is (pos a -ℤ pos b) (pos m) m b (a + (m - 1) * b) some refl (omega (arith, ints)))

module _ (W f : ℕ) where
  place_is : (i : ℕ) → pos (((W + 63 * f) % 64 + 63 * i) % 64) ≡ int_rem_euclid ((pos W -ℤ pos f) -ℤ pos i) (pos 64)
  place_is i =
      ap pos (mod-add-mod (W + 63 * f) 64 (63 * i)) ∙
      sym (int_rem_euclid_is ((pos W -ℤ pos f) -ℤ pos i) (pos 64) 64 (f + i) (W + 63 * f + 63 * i) (omega arith) refl (omega (arith, ints)))

  name_is : (r : ℕ) → pos (((W + 63 * f) % 64 + r) % 64) ≡ int_rem_euclid ((pos W -ℤ pos f) +ℤ pos r) (pos 64)
  name_is r =
      ap pos (mod-add-mod (W + 63 * f) 64 r) ∙
      sym (int_rem_euclid_is ((pos W -ℤ pos f) +ℤ pos r) (pos 64) 64 f (W + 63 * f + r) (omega arith) refl (omega (arith, ints)))

pub places_by_formula : PlacesByFormula
places_by_formula t =
    let n = length t.lives in
    let U = expanded_turns t in
    let W : ℕ → ℕ = λ v. widths t.interval (take v t.lives) in
    let f : ℕ → ℕ = λ v. (life t v).start / t.interval in
    record {
      rotating_place = λ v i h. ap pos (turning.place_of n (rotating_base t) v i h) ∙ place_is (W v) (f v) i;
      rotating_name = λ v r h hr. ap pos (named n 1 v 0 r _ h (omega arith) hr) ∙ name_is (W v) (f v) r;
      rotating_resolve = λ a p h. ap pos (cond-true (ltb a 64) _ 0 (lt-ltb a 64 h)) ∙ difference 64 a p (omega arith);
      expanded_place = λ v i h. cond-true (ltb v n) _ 0 (lt-ltb v n h);
      expanded_name = λ v c r h hc hr. ap pos (named n U v c r _ h hc hr) ∙ ap (λ z. pos (U * v) +ℤ z) (difference U c r (some_want t.interval t.lives));
      expanded_resolve = λ a p h. cond-true (ltb a 64) _ 0 (lt-ltb a 64 h);
    }
