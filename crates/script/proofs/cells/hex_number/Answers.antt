use Rattle.std.proofs.Common.{ℕ, ◌+◌, ◌*◌, ◌^◌, ◌<◌, ◌≤◌, [], ◌∷◌, map, length, Bor, arith, rules, refl, ap, pow-add}
use native.Mathlib.Nat.{pow-le-pow_right}
use Rattle.std.proofs.lemmas.List.{length_push, length-append, length-map}
use Rattle.std.proofs.iter.Yields as gives
use Rattle.script.proofs.cells.hex_number.Goals as goal

-- After i digits the value is below 16 ^ i, and there is room for one digit more.
pub fold-requires-clause-callable : goal.fold-requires-clause-callable
fold-requires-clause-callable c =
    gives.serves_by _ (λ xs q. q.1 < 16 ^ length xs)
    (λ xs q x v j r. let more = length_push xs x in let p = pow-add 16 (length xs) 1 in search rules)
    _ _ _ _
    (let z : 0 < 1 = omega arith in z)
    (λ xs i q x u y e j.
    let l = gives.gives_left gives.fronts (λ b. b.now) xs c.iter.result.rest.now c.iter.result i (gives.slice_gives c.iter.result) y in
    let m = gives.gives_left gives.fronts (λ b. b.now) (x ∷ []) l.0 i u l.2 (u, e, refl) in
    let la = ap length l.1 in
    let ma = ap length m.1 in
    let s : length c.iter.result.rest.now ≤ 16 = search rules in
    let few : length xs + 1 ≤ 16 = omega (arith, s, la, ma, length-append (map (λ (b : Bor ℕ). b.now) xs) l.0, length-map xs (λ (b : Bor ℕ). b.now)) in
    let p : ◌^◌ 16 (length xs + 1) ≤ ◌^◌ 16 16 = pow-le-pow_right (let z : 0 < 16 = omega arith in z) few in
    let fit : q.1 * 16 + 15 < 18446744073709551616 = omega (arith, j, p, pow-add 16 (length xs) 1) in
    search rules)
