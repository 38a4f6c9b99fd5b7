-- The rotating scheme's bases, one variable after the other.
use Rattle.std.proofs.Common.{◌≡◌, ℕ, ◌+◌, ◌-◌, ◌*◌, ◌/◌, ◌%◌, ◌^◌, ◌<◌, ◌≤◌, List, [], ◌∷◌, ◌++◌, length, take, get_or, sum_by, refl, sym, ap, ◌∙◌, div-le_self, div-lt_iff_lt-mul, length-append, below_more, arith}
use Rattle.std.specs.List.{All}
use Rattle.std.proofs.lemmas.List.{get_or_append_left, get_or_push}
use Rattle.std.proofs.lemmas.List.Elements.{All-weaker}
use Rattle.std.proofs.lemmas.List.Sums.{sum_by-cons, sum_by-le}
use Rattle.model.specs.declared.Life.{Life}
use Rattle.model.specs.Lives.{Table, no_life, life, LifeWithin, Limits}
use Rattle.model.specs.Schemes.{width, widths, rotating_base}
use Rattle.register_laws.proofs.Rotating.{div_le_div_right, widths_more}

pub width_small : (k : ℕ) (l : Life) → LifeWithin k l → width k l ≤ 4096
width_small k l h = let d = div-le_self l.end k in omega arith

pub widths_sum : (k : ℕ) (ls : List Life) → widths k ls ≡ sum_by (width k) ls
widths_sum k [] = refl
widths_sum k (l ∷ ls) = ap (λ n. width k l + n) (widths_sum k ls) ∙ sym (sum_by-cons (width k) l ls)

pub widths_fit : (k : ℕ) (ls : List Life) → All (LifeWithin k) ls → length ls ≤ 32 → sum_by (width k) ls < 2 ^ 64
widths_fit k ls each few =
    let small = All-weaker (LifeWithin k) (λ l. width k l ≤ 4096) (width_small k) ls each in
    omega (arith, sum_by-le (width k) 4096 ls small)

module _ (t : Table) (limits : Limits t) (v : ℕ) (lt : v < length t.lives) where
  pub stages : ((life t v).start / t.interval ≤ (life t v).end / t.interval) × ((life t v).start / t.interval < 8) × ((life t v).end / t.interval ≤ 4095) × (v < 32)
  stages =
      let w = limits.each v lt in
      let some : 0 < t.interval = omega (arith, limits.some) in
      let d = div-le_self (life t v).end t.interval in
      (div_le_div_right t.interval some w.1, (div-lt_iff_lt-mul some).1 w.0, omega arith, omega (arith, limits.few))

-- how far the layout has come
pub record Laid (k : ℕ) (ls : List Life) (v below : ℕ) (bases : List ℕ) : Type 0 where
  pub sum : below ≡ widths k (take v ls)
  pub small : below ≤ 4096 * v
  pub count : length bases ≡ v
  pub each : (w : ℕ) → w < v → get_or bases w 0 ≡ rotating_base (record { interval = k; lives = ls }) w

-- one variable more
pub laid_more : (k : ℕ) (ls : List Life) (v below : ℕ) (bases : List ℕ) → 0 < k → All (LifeWithin k) ls → v < length ls → Laid k ls v below bases →
    Laid k ls (v + 1) (below + width k (get_or ls v no_life)) (bases ++ (below + 64 - (get_or ls v no_life).start / k) % 64 ∷ [])
laid_more k ls v below bases some each lt laid =
    let l = get_or ls v no_life in
    let within : LifeWithin k l = each v no_life lt in
    let narrow = width_small k l within in
    let stage : l.start / k < 8 = (div-lt_iff_lt-mul some).1 within.0 in
    let wider = widths_more k ls v lt in
    let base : (below + 64 - l.start / k) % 64 ≡ rotating_base (record { interval = k; lives = ls }) v =
    (let back : (below + 64 - l.start / k) % 64 ≡ (below + 63 * (l.start / k)) % 64 = omega arith in back ∙ ap (λ n. (n + 63 * (l.start / k)) % 64) laid.sum) in
    record {
      sum = omega (arith, laid.sum);
      small = omega (arith, laid.small);
      count = grind (arith, length-append, laid.count);
      each = below_more _ _ (λ w h. get_or_append_left bases _ 0 w (omega (arith, laid.count)) ∙ laid.each w h) (get_or_push bases _ 0 v laid.count ∙ base);
    }
