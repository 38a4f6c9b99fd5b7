-- The last iteration touches the greatest cells.
use Rattle.std.proofs.Common.{◌≡◌, ℕ, suc, ◌+◌, ◌<◌, ◌≤◌, Bool, true, false, List, [], ◌∷◌, length, get_or, sym, refl, ◌∙◌, inl, inr, mul-le-mul_left, arith}
use Rattle.std.specs.Prelude.{Decides}
use Rattle.std.specs.List.{list_all}
use Rattle.std.proofs.lemmas.List.Folds.{list_all_at}
use Rattle.std.proofs.lemmas.Bool.{ltb-true, lt-ltb}
use Rattle.model.specs.Loop.{Loop, Operation, load, store, binary, move, op, cell}
use Rattle.model.specs.MemoryOrder.{Touches}
use Rattle.model.specs.Pipelining.{InMemory}
use Rattle.reach.specs.Cells.{cell_held}

nearer : (stride offset i last cells : ℕ) → i ≤ last → cell stride offset last < cells → cell stride offset i < cells
nearer stride offset i last cells h below = omega (arith, mul-le-mul_left stride h)

held_touched : {A : Type 0} (o : Operation A) (i last cells x : ℕ) → i ≤ last → cell_held o last cells ≡ true → Touches o i x → x < cells
held_touched (load s f) i last cells x h held (inl e) = rw (sym e) (nearer s f i last cells h (ltb-true _ _ held))
held_touched (load s f) i last cells x h held (inr z) = absurd z
held_touched (store a s f) i last cells x h held (inl z) = absurd z
held_touched (store a s f) i last cells x h held (inr e) = rw (sym e) (nearer s f i last cells h (ltb-true _ _ held))
held_touched (binary c a b) i last cells x h held (inl z) = absurd z
held_touched (binary c a b) i last cells x h held (inr z) = absurd z
held_touched (move a) i last cells x h held (inl z) = absurd z
held_touched (move a) i last cells x h held (inr z) = absurd z

touched_held : {A : Type 0} (o : Operation A) (i cells : ℕ) → ((x : ℕ) → Touches o i x → x < cells) → cell_held o i cells ≡ true
touched_held (load s f) i cells all = lt-ltb _ _ (all (cell s f i) (inl refl))
touched_held (store a s f) i cells all = lt-ltb _ _ (all (cell s f i) (inr refl))
touched_held (binary c a b) i cells all = refl
touched_held (move a) i cells all = refl

holds_at : {X : Type 0} (p : X → Bool) (xs : List X) (j : ℕ) (d : X) → list_all p xs ≡ true → j < length xs → p (get_or xs j d) ≡ true
holds_at p xs j d all h = go (p (get_or xs j d)) refl
  where
    go : (b : Bool) → p (get_or xs j d) ≡ b → b ≡ true
    go true e = refl
    go false e = sym (list_all_at p xs j d h e) ∙ all

holds_all : {X : Type 0} (p : X → Bool) (xs : List X) (d : X) → ((j : ℕ) → j < length xs → p (get_or xs j d) ≡ true) → list_all p xs ≡ true
holds_all p [] d each = refl
holds_all p (x ∷ xs) d each = rw (each 0 (omega arith)) (holds_all p xs d (λ j h. each (suc j) (omega arith)))

-- The last iteration decides for all.
pub all_decide : (ops : Loop) (trips last cells : ℕ) → trips ≡ last + 1 → Decides (list_all (λ o. cell_held o last cells) ops) (InMemory ops trips cells)
unfolding op
all_decide ops trips last cells e = (
  (λ all j i x small run touches. held_touched (op ops j) i last cells x (omega arith) (holds_at (λ o. cell_held o last cells) ops j _ all small) touches),
  (λ all. holds_all (λ o. cell_held o last cells) ops _ (λ j small. touched_held (op ops j) last cells (λ x. all j last x small (omega arith)))),
)
