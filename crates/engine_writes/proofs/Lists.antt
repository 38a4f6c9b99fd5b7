-- One list of the lists of due writes, its places and its count, is put in place of another.
use Rattle.std.proofs.Common.{◌≡◌, ℕ, ◌%◌, ◌<◌, ◌≤◌, List, [], ◌∷◌, ◌++◌, length, get_or, set, take, ap₂, ◌∙◌, inl, inr, arith}
use Rattle.std.proofs.lemmas.List.{get_or-set_same, get_or-set_other}
use Rattle.std.proofs.lemmas.Bool.{cases_lt}
use Rattle.engine_laws.specs.Dues.{Pushed}
use Rattle.engine_laws.proofs.DueLists.{pushed_full, pushed_more}

module _ (places : List (List ℕ)) (counts : List ℕ) where
  abbrev taken : ℕ → List ℕ
  taken x = take (get_or counts x 0) (get_or places x [])

module _ (places : List (List ℕ)) (counts : List ℕ) (x : ℕ) (row : List ℕ) (n : ℕ) where
  list_put : x < length places → x < length counts → taken (set places x row) (set counts x n) x ≡ take n row
  list_put h k = ap₂ take (get_or-set_same counts x n 0 k) (get_or-set_same places x row [] h)

  list_kept : (y : ℕ) → (y ≡ x → ⊥) → taken (set places x row) (set counts x n) y ≡ taken places counts y
  list_kept y apart = ap₂ take (get_or-set_other counts x y n 0 apart) (get_or-set_other places x y row [] apart)

pub pushed_list : (places : List (List ℕ)) (counts : List ℕ) (due r : ℕ) (row : List ℕ) (n : ℕ) → length places ≡ 8 → length counts ≡ 8 →
    (get_or counts (due % 8) 0 < 32 → take n row ≡ taken places counts (due % 8) ++ r ∷ []) →
    (32 ≤ get_or counts (due % 8) 0 → (32 ≤ length (taken places counts (due % 8))) × (take n row ≡ taken places counts (due % 8))) →
    Pushed due r (taken places counts) (taken (set places (due % 8) row) (set counts (due % 8) n))
pushed_list places counts due r row n long also more full =
    let put = list_put places counts (due % 8) row n (omega arith) (omega arith) in
    let kept = list_kept places counts (due % 8) row n in
    elim (cases_lt (get_or counts (due % 8) 0) 32) [
      | inl h ↦ pushed_more due r _ _ kept (put ∙ more h)
      | inr h ↦ pushed_full due r _ _ kept (full h).0 (put ∙ (full h).1)
    ]
