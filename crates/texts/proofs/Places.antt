-- Where a class stands by its name.
use Rattle.std.proofs.Common.{◌≡◌, ℕ, Bool, true, false, cond, ltb, List, [], ◌∷◌, length, is_some, Some, None, Option, refl, sym, ap, ◌∙◌, ⊎_elim}
use Rattle.std.specs.List.{position, position_or_len}
use Rattle.std.proofs.lemmas.Bool.{cases_Bool}
use lib.ListN.{length-map}
use Rattle.model.specs.MachineText.{class_at, names_class}
use Rattle.text_laws.proofs.SoundMachines.{is_class}
use Rattle.texts.specs.declared.entries.Class.{Class as OwnClass}
use Rattle.texts.specs.Seen.{class_seen, classes_seen}
use Rattle.texts.specs.Forms.{called}

at_place : (w : List ℕ) (cs : List OwnClass) → class_at (classes_seen cs) w ≡ position_or_len (called w) cs
at_place w [] = refl
at_place w (c ∷ cs) =
    ⊎_elim (λ (e : called w c ≡ true). simp e) (λ (e : called w c ≡ false). simp (e, at_place w cs)) (cases_Bool (called w c))

named : (w : List ℕ) (cs : List OwnClass) → names_class (classes_seen cs) w ≡ ltb (position_or_len (called w) cs) (length cs)
named w cs = is_class (classes_seen cs) w ∙ ap (λ n. ltb n (length (classes_seen cs))) (at_place w cs) ∙ ap (ltb (position_or_len (called w) cs)) (length-map cs class_seen)

-- what the place of a class, or none, says
module _ (w : List ℕ) (cs : List OwnClass) (o : Option ℕ) (e : o ≡ position (called w) cs) where
  pub is_named : names_class (classes_seen cs) w ≡ is_some o
  is_named = go (ltb (position_or_len (called w) cs) (length cs)) (position_or_len (called w) cs) o (named w cs) e
    where
      go : (b : Bool) (n : ℕ) (p : Option ℕ) → names_class (classes_seen cs) w ≡ b → p ≡ cond b (Some n) None → names_class (classes_seen cs) w ≡ is_some p
      go true n p h q = h ∙ sym (ap is_some q)
      go false n p h q = h ∙ sym (ap is_some q)

  pub is_place : (i : ℕ) → o ≡ Some i → class_at (classes_seen cs) w ≡ i
  is_place i q = at_place w cs ∙ go (ltb (position_or_len (called w) cs) (length cs)) (position_or_len (called w) cs) (sym e ∙ q)
    where
      go : (b : Bool) (n : ℕ) → cond b (Some n) None ≡ Some i → n ≡ i
      go true n h = cc
      go false n h = cc
