-- The law of a reading. Assumes nothing.
use Rattle.std.proofs.Common.{◌≡◌, ℕ, ◌+◌, List, [], ◌∷◌, ◌++◌, Some, None, Ok, Err, Option, Result, sym, refl, ap, ◌∙◌, subst, arith}
use Rattle.model.specs.Questions.{Refusal}
use Rattle.model.specs.Lines.{Line, lines, numbered, lines_of}
use Rattle.model.specs.Questions.{Answer, good, bad, Asked, asked, no_or, first_no, Rules, unless, read_lines, before, reading}
use Rattle.model.specs.MachineText.{Machine, machine_rules, class_of}
use Rattle.model.specs.LoopText.{Statement, loop_rules, statement_of}
use Rattle.std.specs.List.{flat_map}
use Rattle.std.proofs.lemmas.List.{append_assoc, append-nil}
use Rattle.model.specs.TextLaws.{Yes, FirstNo, after, LinesYes, LinesNo, at_line, at_end, Refuses, too_long, later_no, Law, MachineLaw, LoopLaw}

none_yes : (qs : List Asked) → first_no qs ≡ None → Yes qs
none_yes [] e = tt
none_yes (q ∷ qs) e = go (none_yes qs) q.answer refl e
  where
    go : (first_no qs ≡ None → Yes qs) → (a : Answer) → q.answer ≡ a → no_or q.number a (first_no qs) ≡ None → (q.answer ≡ good) × Yes qs
    go ih good p h = (p, ih h)
    go ih (bad l c) p h = let z : ◌≡◌ {A = ℕ} 0 1 = cc in absurd (omega arith)

yes_none : (qs : List Asked) → Yes qs → first_no qs ≡ None
yes_none [] y = refl
yes_none (q ∷ qs) y = ap (λ a. no_or q.number a (first_no qs)) y.0 ∙ yes_none qs y.1

some_first : (qs : List Asked) (f : Refusal) → first_no qs ≡ Some f → FirstNo qs f
some_first [] f e = let z : ◌≡◌ {A = ℕ} 0 1 = cc in absurd (omega arith)
some_first (q ∷ qs) f e = go (some_first qs f) q.answer refl e
  where
    go : (first_no qs ≡ Some f → FirstNo qs f) → (a : Answer) → q.answer ≡ a → no_or q.number a (first_no qs) ≡ Some f → FirstNo (q ∷ qs) f
    go ih good p h =
        let n = ih h in
        record { earlier = q ∷ n.earlier; here = n.here; later = n.later; split = ap (λ r. q ∷ r) n.split; yes_before = (p, n.yes_before); is = n.is }
    go ih (bad l c) p h =
        let same : record { number = q.number; line = l; column = c } ≡ f = cc in
        record { earlier = []; here = q; later = qs; split = refl; yes_before = tt; is = ap (asked q.number) p ∙ ap (λ g. asked g.number (bad g.line g.column)) same }

first_some : (ps : List Asked) (q : Asked) (bs : List Asked) (f : Refusal) → Yes ps → q ≡ asked f.number (bad f.line f.column) → first_no (ps ++ q ∷ bs) ≡ Some f
first_some [] q bs f y e = ap (λ x. no_or x.number x.answer (first_no bs)) e
first_some (a ∷ ps) q bs f y e = ap (λ x. no_or a.number x (first_no (ps ++ q ∷ bs))) y.0 ∙ first_some ps q bs f y.1 e

first_is : (qs : List Asked) (f : Refusal) → FirstNo qs f → first_no qs ≡ Some f
first_is qs f n = ap first_no n.split ∙ first_some n.earlier n.here n.later f n.yes_before n.is

no_split : {X : Type 0} (ps : List X) (l : X) (bs : List X) → [] ≡ ps ++ l ∷ bs → ⊥
no_split [] l bs e = let z : ◌≡◌ {A = ℕ} 0 1 = cc in omega arith
no_split (a ∷ ps) l bs e = let z : ◌≡◌ {A = ℕ} 0 1 = cc in omega arith

-- what an `unless` says
module _ {R : Type 0} (x : Result R Refusal) where
  unless_ok : (o : Option Refusal) (t : R) → unless o x ≡ Ok t → (o ≡ None) × (x ≡ Ok t)
  unless_ok None t e = (refl, e)
  unless_ok (Some f) t e = let z : ◌≡◌ {A = ℕ} 0 1 = cc in absurd (omega arith)

  data Why (o : Option Refusal) (f : Refusal) : Type 0 where
    now_no : o ≡ Some f → Why o f
    then_no : o ≡ None → x ≡ Err f → Why o f

  unless_err : (o : Option Refusal) (f : Refusal) → unless o x ≡ Err f → Why o f
  unless_err None f e = then_no refl e
  unless_err (Some g) f e = now_no (let s : g ≡ f = cc in ap Some s)

module _ {R : Type 0} (k : Rules R) where
  yes_nil : (r : R) → LinesYes k r []
  yes_nil r ps l bs e = absurd (no_split ps l bs e)

  yes_cons : (r : R) (l : Line) (ls : List Line) → Yes (k.asks r l) → LinesYes k (k.adds r l) ls → LinesYes k r (l ∷ ls)
  yes_cons r l ls y h [] m bs e = let s : l ≡ m = cc in subst (λ x. Yes (k.asks r x)) s y
  yes_cons r l ls y h (a ∷ ps) m bs e =
      let s : l ≡ a = cc in
      let t : ls ≡ ps ++ m ∷ bs = cc in
      subst (λ x. Yes (k.asks (after k (k.adds r x) ps) m)) s (h ps m bs t)

  yes_tail : (r : R) (l : Line) (ls : List Line) → LinesYes k r (l ∷ ls) → LinesYes k (k.adds r l) ls
  yes_tail r l ls h ps m bs e = h (l ∷ ps) m bs (ap (λ x. l ∷ x) e)

  lines_ok : (ls : List Line) (r t : R) → read_lines k r ls ≡ Ok t → LinesYes k r ls × Yes (k.ends (after k r ls)) × (t ≡ after k r ls)
  lines_ok [] r t e =
      let u = unless_ok (Ok r) (first_no (k.ends r)) t e in
      (yes_nil r, none_yes _ u.0, (let v = u.1 in cc))
  lines_ok (l ∷ ls) r t e =
      let u = unless_ok (read_lines k (k.adds r l) ls) (first_no (k.asks r l)) t e in
      let ih = lines_ok ls (k.adds r l) t u.1 in
      (yes_cons r l ls (none_yes _ u.0) ih.0, ih.1, ih.2)

  ok_lines : (ls : List Line) (r : R) → LinesYes k r ls → Yes (k.ends (after k r ls)) → read_lines k r ls ≡ Ok (after k r ls)
  ok_lines [] r h y = ap (λ o. unless o (Ok r)) (yes_none _ y)
  ok_lines (l ∷ ls) r h y = ap (λ o. unless o (read_lines k (k.adds r l) ls)) (yes_none _ (h [] l ls refl)) ∙ ok_lines ls (k.adds r l) (yes_tail r l ls h) y

  lines_err : (ls : List Line) (r : R) (f : Refusal) → read_lines k r ls ≡ Err f → LinesNo k r ls f
  lines_err [] r f e = go (unless_err (Ok r) (first_no (k.ends r)) f e)
    where
      go : Why (Ok r) (first_no (k.ends r)) f → LinesNo k r [] f
      go (now_no n) = at_end (yes_nil r) (some_first _ f n)
      go (then_no n x) = let z : ◌≡◌ {A = ℕ} 0 1 = cc in absurd (omega arith)
  lines_err (l ∷ ls) r f e = go (lines_err ls (k.adds r l) f) (unless_err (read_lines k (k.adds r l) ls) (first_no (k.asks r l)) f e)
    where
      more : Yes (k.asks r l) → LinesNo k (k.adds r l) ls f → LinesNo k r (l ∷ ls) f
      more y (at_line ps m bs s h n) = at_line (l ∷ ps) m bs (ap (λ x. l ∷ x) s) (yes_cons r l ps y h) n
      more y (at_end h n) = at_end (yes_cons r l ls y h) n

      go : (read_lines k (k.adds r l) ls ≡ Err f → LinesNo k (k.adds r l) ls f) → Why (read_lines k (k.adds r l) ls) (first_no (k.asks r l)) f → LinesNo k r (l ∷ ls) f
      go ih (now_no n) = at_line [] l ls refl (yes_nil r) (some_first _ f n)
      go ih (then_no n x) = more (none_yes _ n) (ih x)

  err_at : (ps : List Line) (r : R) (l : Line) (bs : List Line) (f : Refusal) → LinesYes k r ps → FirstNo (k.asks (after k r ps) l) f → read_lines k r (ps ++ l ∷ bs) ≡ Err f
  err_at [] r l bs f h n = ap (λ o. unless o (read_lines k (k.adds r l) bs)) (first_is _ f n)
  err_at (a ∷ ps) r l bs f h n = ap (λ o. unless o (read_lines k (k.adds r a) (ps ++ l ∷ bs))) (yes_none _ (h [] a ps refl)) ∙ err_at ps (k.adds r a) l bs f (yes_tail r a ps h) n

  err_end : (ls : List Line) (r : R) (f : Refusal) → LinesYes k r ls → FirstNo (k.ends (after k r ls)) f → read_lines k r ls ≡ Err f
  err_end [] r f h n = ap (λ o. unless o (Ok r)) (first_is _ f n)
  err_end (l ∷ ls) r f h n = ap (λ o. unless o (read_lines k (k.adds r l) ls)) (yes_none _ (h [] l ls refl)) ∙ err_end ls (k.adds r l) f (yes_tail r l ls h) n

  err_lines : (ls : List Line) (r : R) (f : Refusal) → LinesNo k r ls f → read_lines k r ls ≡ Err f
  err_lines ls r f (at_line ps l bs s h n) = ap (read_lines k r) s ∙ err_at ps r l bs f h n
  err_lines ls r f (at_end h n) = err_end ls r f h n

  by_why : (text : List ℕ) (f : Refusal) → Why (read_lines k k.start (lines_of text)) (first_no (before text)) f → Refuses k text f
  by_why text f (now_no n) = too_long (some_first (before text) f n)
  by_why text f (then_no n x) = later_no (none_yes (before text) n) (lines_err (lines_of text) k.start f x)

  back : (text : List ℕ) (f : Refusal) → Refuses k text f → reading k text ≡ Err f
  back text f (too_long n) = ap (λ o. unless o (read_lines k k.start (lines_of text))) (first_is _ f n)
  back text f (later_no y n) = ap (λ o. unless o (read_lines k k.start (lines_of text))) (yes_none (before text) y) ∙ err_lines (lines_of text) k.start f n

  pub law : Law k
  law = record {
    accepts = λ text r e.
        let u = unless_ok (read_lines k k.start (lines_of text)) (first_no (before text)) r e in
        let a = lines_ok (lines_of text) k.start r u.1 in
        (record { short = none_yes (before text) u.0; each_line = a.0; at_last = a.1 }, a.2);
    accepted = λ text a. ap (λ o. unless o (read_lines k k.start (lines_of text))) (yes_none (before text) a.short) ∙ ok_lines (lines_of text) k.start a.each_line a.at_last;
    refuses = λ text f e. by_why text f (unless_err (read_lines k k.start (lines_of text)) (first_no (before text)) f e);
    refused = back;
  }

-- What a line keeps if its questions are answered yes is kept by the lines of an accepted text, numbered from 1.
module _ {R : Type 0} (k : Rules R) (P : ℕ → R → Type 0)
    (keeps : (n : ℕ) (r : R) (bytes : List ℕ) → P n r → Yes (k.asks r (record { number = n; bytes = bytes })) → P (n + 1) (k.adds r (record { number = n; bytes = bytes }))) where
  kept : (ls : List (List ℕ)) (n : ℕ) (r : R) → P n r → LinesYes k r (numbered n ls) → (e : ℕ) × P e (after k r (numbered n ls))
  kept [] n r h y = (n, h)
  kept (l ∷ ls) n r h y =
      let line : Line = record { number = n; bytes = l } in
      kept ls (n + 1) (k.adds r line) (keeps n r l h (y [] line (numbered (n + 1) ls) refl)) (yes_tail k r line (numbered (n + 1) ls) y)

  pub accepted_keeps : P 1 k.start → (text : List ℕ) (r : R) → reading k text ≡ Ok r → ((e : ℕ) × P e r) × Yes (k.ends r)
  accepted_keeps h text r e =
      let a = (law k).accepts text r e in
      let end = kept (lines text) 1 k.start h a.0.each_line in
      ((end.0, subst (P end.0) (sym a.1) end.1), subst (λ x. Yes (k.ends x)) (sym a.1) a.0.at_last)

-- what the lines add to the classes, and to the statements
classes_after : (ls : List Line) (m : Machine) → (after machine_rules m ls).classes ≡ m.classes ++ flat_map class_of ls
classes_after [] m = sym (append-nil m.classes)
classes_after (l ∷ ls) m = classes_after ls (machine_rules.adds m l) ∙ append_assoc m.classes (class_of l) (flat_map class_of ls)

statements_after : (ls : List Line) (ss : List Statement) → after loop_rules ss ls ≡ ss ++ flat_map statement_of ls
statements_after [] ss = sym (append-nil ss)
statements_after (l ∷ ls) ss = statements_after ls (ss ++ statement_of l) ∙ append_assoc ss (statement_of l) (flat_map statement_of ls)

pub machine_law : MachineLaw
machine_law =
    record {
      law = law machine_rules;
      order = λ m l. refl;
      classes_are_lines = λ text m e. ap (λ r. r.classes) ((law machine_rules).accepts text m e).1 ∙ classes_after (lines_of text) machine_rules.start;
    }

pub loop_law : LoopLaw
loop_law =
    record {
      law = law loop_rules;
      order = λ ss l. refl;
      order_at_end = λ ss. refl;
      statements_are_lines = λ text ss e. ((law loop_rules).accepts text ss e).1 ∙ statements_after (lines_of text) loop_rules.start;
    }
