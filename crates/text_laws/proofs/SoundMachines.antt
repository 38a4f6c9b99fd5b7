-- An accepted machine text gives a sound machine. Assumes nothing.
use Rattle.std.proofs.Common.{◌≡◌, ℕ, suc, ◌+◌, ◌≤◌, Bool, true, false, ◌&&◌, eqb, ltb, leb, List, [], ◌∷◌, ◌++◌, length, Some, None, Ok, Option, sym, refl, ◌∙◌, ⊎_elim, arith}
use Rattle.std.specs.Str.{bytes_eq}
use Rattle.std.proofs.lemmas.List.{append-nil, length-append, length-set}
use Rattle.std.proofs.lemmas.Bool.{lt-ltb, ltb-true, le-leb, leb-true, eq-eqb, cases_Bool, and_parts, and_from}
use Rattle.std.proofs.lemmas.Bool.Decides.{nat_tests}
use Rattle.model.specs.declared.MachineForm.{MachineForm}
use Rattle.model.specs.declared.MachineForm.TheVariants.{Unit as UnitForm, Op}
use Rattle.model.specs.declared.Timing.{Timing}
use Rattle.model.specs.Shapes.{every, between, has_some}
use Rattle.model.specs.Lines.{Lexeme, tokens, tok, amount}
use Rattle.model.specs.Questions.{good, check}
use Rattle.model.specs.MachineText.{Class, Machine, machine_rules, form_of, class_at, names_class, ranged_by, named_by, roomy_by, class_by, timings_by, code_at, read_machine}
use Rattle.model.specs.TextLaws.{Yes}
use Rattle.model.specs.Soundness.{sound_timing, sound_machine}
use Rattle.text_laws.proofs.Asked.{line_yes, each_yes, every_append, every_set, every_both}
use Rattle.text_laws.proofs.Firsts.{accepted_keeps}

pub is_class : (cs : List Class) (w : List ℕ) → names_class cs w ≡ ltb (class_at cs w) (length cs)
is_class [] w = refl
is_class (c ∷ cs) w =
    ⊎_elim
    (λ (e : bytes_eq w c.name ≡ true). simp e (sym (lt-ltb 0 (suc (length cs)) (omega arith))))
    (λ (e : bytes_eq w c.name ≡ false). let h = is_class cs w in simp e (grind (arith, nat_tests)))
    (cases_Bool (bytes_eq w c.name))

-- a code that the text has said nothing of yet, or a sound timing
abbrev sound_so_far : ℕ → Option Timing → Bool
sound_so_far classes None = true
sound_so_far classes (Some t) = sound_timing classes (Some t)

more_classes : (n k : ℕ) → n ≤ k → (o : Option Timing) → sound_so_far n o ≡ true → sound_so_far k o ≡ true
more_classes n k h None e = refl
more_classes n k h (Some t) e =
    let a = and_parts (ltb t.class n) (between 1 8 t.latency && between 1 t.latency t.busy) e in
    and_from (ltb t.class k) (between 1 8 t.latency && between 1 t.latency t.busy) (lt-ltb t.class k (omega (arith, ltb-true t.class n a.0))) a.1

said : (n : ℕ) (o : Option Timing) → sound_so_far n o ≡ true → has_some o ≡ true → sound_timing n o ≡ true
said n None e h = let z : ◌≡◌ {A = ℕ} 0 1 = cc in absurd (omega arith)
said n (Some t) e h = e

abbrev pub counted : Class → Bool
counted c = between 1 8 c.count

record Half (m : Machine) : Type 0 where
  pub timed : every (sound_so_far (length m.classes)) m.timings ≡ true
  pub units : every counted m.classes ≡ true
  pub few : length m.classes ≤ 8
  pub six : length m.timings ≡ 6

module _ (m : Machine) (half : Half m) (ts : List Lexeme) (n : ℕ) where
  adds_class : between 1 8 (amount ts 2) ≡ true → leb (length m.classes + 1) 8 ≡ true → Half (record { classes = m.classes ++ class_by (Some UnitForm) ts; timings = m.timings })
  adds_class e h =
      let long : length (m.classes ++ class_by (Some UnitForm) ts) ≡ length m.classes + 1 = length-append m.classes (class_by (Some UnitForm) ts) in
      record {
        timed =
            let now = sound_so_far (length m.classes) in
            every_both now now (sound_so_far (length (m.classes ++ class_by (Some UnitForm) ts)))
            (λ o s _. more_classes (length m.classes) (length (m.classes ++ class_by (Some UnitForm) ts)) (omega arith) o s) m.timings half.timed half.timed;
        units = every_append counted m.classes (class_by (Some UnitForm) ts) half.units (and_from (between 1 8 (amount ts 2)) true e refl);
        few = omega (arith, leb-true (length m.classes + 1) 8 h);
        six = half.six;
      }

  keep_form : (f : Option MachineForm) → ranged_by f ts ≡ good → named_by m f ts ≡ good → roomy_by m f n ≡ good → Half (record { classes = m.classes ++ class_by f ts; timings = timings_by m f ts })
  keep_form None r c y = rw append-nil half
  keep_form (Some UnitForm) r c y = adds_class (each_yes (check (tok ts 2) (between 1 8 (amount ts 2))) [] r).0 (line_yes n (leb (length m.classes + 1) 8) y)
  keep_form (Some Op) r c y =
      let latency = each_yes (check (tok ts 3) (between 1 8 (amount ts 3))) (check (tok ts 4) (between 1 (amount ts 3) (amount ts 4)) ∷ []) r in
      let busy = each_yes (check (tok ts 4) (between 1 (amount ts 3) (amount ts 4))) [] latency.1 in
      let class = each_yes (check (tok ts 2) (names_class m.classes (tok ts 2).bytes)) [] (each_yes _ (check (tok ts 2) (names_class m.classes (tok ts 2).bytes) ∷ []) c).1 in
      let t : Timing = record { class = class_at m.classes (tok ts 2).bytes; latency = amount ts 3; busy = amount ts 4 } in
      rw append-nil
      (record {
        timed =
            every_set (sound_so_far (length m.classes)) m.timings (code_at ts) (Some t) half.timed
            (and_from (ltb t.class (length m.classes)) (between 1 8 (amount ts 3) && between 1 (amount ts 3) (amount ts 4)) (sym (is_class m.classes (tok ts 2).bytes) ∙ class.0)
            (and_from (between 1 8 (amount ts 3)) (between 1 (amount ts 3) (amount ts 4)) latency.0 busy.0));
        units = half.units;
        few = half.few;
        six = length-set m.timings (code_at ts) (Some t) ∙ half.six;
      })

keeps : (n : ℕ) (m : Machine) (bytes : List ℕ) → Half m → Yes (machine_rules.asks m (record { number = n; bytes = bytes })) → Half (machine_rules.adds m (record { number = n; bytes = bytes }))
keeps n m bytes h y =
    let ts = tokens (record { number = n; bytes = bytes }) in
    keep_form m h ts n (form_of ts) y.1.1.0 y.1.1.1.0 y.1.1.1.1.0

pub is_sound_machine : (text : List ℕ) (m : Machine) → read_machine text ≡ Ok m → sound_machine m ≡ true
is_sound_machine text m e =
    let a = accepted_keeps machine_rules (λ n r. Half r) keeps (record { timed = refl; units = refl; few = omega arith; six = refl }) text m e in
    let half = a.0.1 in
    let all = line_yes 0 (every has_some m.timings) a.1.0 in
    let classes = length m.classes in
    let timed = every_both (sound_so_far classes) has_some (sound_timing classes) (said classes) m.timings half.timed all in
    and_from (every (sound_timing classes) m.timings) _ timed
    (and_from (every counted m.classes) _ half.units (and_from (leb classes 8) (eqb (length m.timings) 6) (le-leb classes 8 half.few) (eq-eqb (length m.timings) 6 half.six)))
