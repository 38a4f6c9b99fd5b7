-- An accepted loop text gives a sound loop. Assumes nothing.
use Rattle.std.proofs.Common.{◌≡◌, ℕ, zero, suc, ◌+◌, ◌<◌, ◌≤◌, Bool, true, cond, ◌&&◌, ◌||◌, ltb, leb, List, [], ◌∷◌, ◌++◌, map, length, get_or, Some, None, Ok, Err, fold, count_by, Option, Result, refl, ap, ◌∙◌, subst, arith}
use Rattle.std.specs.List.{flat_map, AllByRecursion}
use Rattle.std.proofs.ByRecursion.{All-get_or}
use Rattle.std.proofs.lemmas.List.{length-map, get_or-map}
use Rattle.std.proofs.lemmas.Bool.{lt-ltb, le-leb, leb-true, and_from, or_left, or_right}
use Rattle.model.specs.Shapes.{between, has_some}
use Rattle.model.specs.Questions.{good, each, Refusal, reading}
use Rattle.model.specs.Loop.{Operand, Operation, load, store, binary, move, Loop, op, EachOperand, operands, on_operands, makes, in_memory, stride_of, offset_of}
use Rattle.model.specs.LoopText.{Written, numeral, name, Use, Statement, same_name, is_defined, known, known_use, uses_of, memory_operations, loop_rules, definer, resolved, loop_of, on_ok, read_loop}
use Rattle.model.specs.Soundness.{sound_operand, sound_operation, sound_cell, sound_below, sound_loop}
use Rattle.text_laws.proofs.Asked.{line_yes, each_yes}
use Rattle.text_laws.proofs.Definers.{Rising, definer_above, definer_in, defined}
use Rattle.text_laws.proofs.Firsts.{accepted_keeps}
use Rattle.text_laws.proofs.Statements.{ranging, FineUse, Fine, Half, keeps}

-- each operand of the text is known
abbrev Known : List Statement → Use → Type 0
Known ss u = known ss u.line u.operand ≡ true

all_known : (ss : List Statement) (us : List Use) → each (map (known_use ss) us) ≡ good → AllByRecursion (Known ss) us
all_known ss [] e = tt
all_known ss (u ∷ us) e = let a = each_yes (known_use ss u) (map (known_use ss) us) e in (a.0, all_known ss us a.1)

all_parts : {X : Type 0} (P : X → Type 0) (xs ys : List X) → AllByRecursion P (xs ++ ys) → AllByRecursion P xs × AllByRecursion P ys
all_parts P [] ys h = (tt, h)
all_parts P (x ∷ xs) ys h = let a = all_parts P xs ys h.1 in ((h.0, a.0), a.1)

all_joined : {X Y : Type 0} (P : Y → Type 0) (f : X → List Y) (xs : List X) → AllByRecursion P (flat_map f xs) → AllByRecursion (λ x. AllByRecursion P (f x)) xs
all_joined P f [] h = tt
all_joined P f (x ∷ xs) h = let a = all_parts P (f x) (flat_map f xs) h in (a.0, all_joined P f xs a.1)

each_operand : {A : Type 0} (P : A → Type 0) (o : Operation A) → AllByRecursion P (operands o) → EachOperand P o
each_operand P (load stride offset) h = tt
each_operand P (store a stride offset) h = h.0
each_operand P (binary code a b) h = (h.0, h.1.0)
each_operand P (move a) h = h.0

-- the same operation over other operands is as it was
makes_on : {A B : Type 0} (f : A → B) (o : Operation A) → makes (on_operands f o) ≡ makes o
makes_on f (load stride offset) = refl
makes_on f (store a stride offset) = refl
makes_on f (binary code a b) = refl
makes_on f (move a) = refl

memory_on : {A B : Type 0} (f : A → B) (o : Operation A) → in_memory (on_operands f o) ≡ in_memory o
memory_on f (load stride offset) = refl
memory_on f (store a stride offset) = refl
memory_on f (binary code a b) = refl
memory_on f (move a) = refl

count_map : {X Y : Type 0} (p : Y → Bool) (q : X → Bool) (f : X → Y) → ((x : X) → p (f x) ≡ q x) → (xs : List X) (n : ℕ)
    → fold (λ a y. a + cond (p y) 1 0) n (map f xs) ≡ fold (λ a x. a + cond (q x) 1 0) n xs
count_map p q f h [] n = refl
count_map p q f h (x ∷ xs) n = ap (λ b. fold (λ a y. a + cond (p y) 1 0) (n + cond b 1 0) (map f xs)) (h x) ∙ count_map p q f h xs (n + cond (q x) 1 0)

named : (w : List ℕ) (o : Option (List ℕ)) → same_name w o ≡ true → has_some o ≡ true
named w None e = e
named w (Some v) e = refl

abbrev no_statement : Statement
no_statement = record { line = 0; defines = None; operation = load 0 0 }

module _ (ss : List Statement) (high : ℕ) (rising : Rising 0 high ss) (fine : AllByRecursion Fine ss) (all : AllByRecursion (λ s. AllByRecursion (Known ss) (operands s.operation)) ss) where
  abbrev at : ℕ → Statement
  at q = get_or ss q no_statement

  abbrev put : Use → Operand
  put u = resolved ss u.operand

  op_at : (q : ℕ) → q < length ss → op (loop_of ss) q ≡ on_operands put (at q).operation
  unfolding op
  op_at q h = get_or-map (λ s. on_operands put s.operation) ss q no_statement _ h

  module _ (q : ℕ) (h : q < length ss) where
    -- of a name that is defined, and without a distance defined above
    sound_name : (w : List ℕ) (d : ℕ) → is_defined ss w ≡ true → (ltb 0 d || ltb (definer ss w) q) ≡ true → leb d 7 ≡ true → sound_operand (loop_of ss) q (resolved ss (name w d)) ≡ true
    sound_name w d e o l =
        let p = definer ss w in
        let a = definer_in w ss no_statement e in
        let makes_it : makes (op (loop_of ss) p) ≡ true =
        ap makes (op_at p a.0) ∙ makes_on put (at p).operation ∙ (All-get_or Fine ss p no_statement a.0 fine).valued (named w (at p).defines a.1) in
        let low : p < length (loop_of ss) = omega (arith, a.0, length-map ss (λ s. on_operands put s.operation)) in
        and_from (ltb p (length (loop_of ss))) (makes (op (loop_of ss) p) && ((ltb 0 d || ltb p q) && leb d 7)) (lt-ltb p (length (loop_of ss)) low)
        (and_from (makes (op (loop_of ss) p)) ((ltb 0 d || ltb p q) && leb d 7) makes_it (and_from (ltb 0 d || ltb p q) (leb d 7) o l))

    sound_written : (x : Written) → known ss (at q).line x ≡ true → ranging x ≡ true → sound_operand (loop_of ss) q (resolved ss x) ≡ true
    sound_written (numeral z) e r = r
    sound_written (name w zero) e r =
        sound_name w zero (defined w ss (at q).line e) (or_right (ltb 0 zero) (ltb (definer ss w) q) (lt-ltb (definer ss w) q (definer_above w ss 0 high q no_statement rising h e))) r
    sound_written (name w (suc d)) e r = sound_name w (suc d) e (or_left (ltb 0 (suc d)) (ltb (definer ss w) q) (lt-ltb 0 (suc d) (omega arith))) r

    sound_use : (u : Use) → FineUse (at q).line u → Known ss u → sound_operand (loop_of ss) q (put u) ≡ true
    sound_use u f k = sound_written u.operand (subst (λ n. known ss n u.operand ≡ true) f.0 k) f.1

    sound_at : (o : Operation Use) → EachOperand (FineUse (at q).line) o → EachOperand (Known ss) o → sound_cell (stride_of o) (offset_of o) ≡ true → sound_operation (loop_of ss) q (on_operands put o) ≡ true
    sound_at (load stride offset) f k c = c
    sound_at (store a stride offset) f k c = and_from (sound_operand (loop_of ss) q (put a)) (sound_cell stride offset) (sound_use a f k) c
    sound_at (binary code a b) f k c = and_from (sound_operand (loop_of ss) q (put a)) (sound_operand (loop_of ss) q (put b)) (sound_use a f.0 k.0) (sound_use b f.1 k.1)
    sound_at (move a) f k c = sound_use a f k

    sound_op : sound_operation (loop_of ss) q (op (loop_of ss) q) ≡ true
    sound_op =
        let s = All-get_or Fine ss q no_statement h fine in
        let k = All-get_or (λ s. AllByRecursion (Known ss) (operands s.operation)) ss q no_statement h all in
        ap (sound_operation (loop_of ss) q) (op_at q h) ∙ sound_at (at q).operation s.uses (each_operand (Known ss) (at q).operation k) s.cell

  is_sound_below : (n : ℕ) → n ≤ length ss → sound_below (loop_of ss) n ≡ true
  unfolding sound_below
  is_sound_below zero h = refl
  is_sound_below (suc q) h = and_from (sound_below (loop_of ss) q) (sound_operation (loop_of ss) q (op (loop_of ss) q)) (is_sound_below q (omega arith)) (sound_op q (omega arith))

pub is_sound_loop : (text : List ℕ) (ss : List Statement) → reading loop_rules text ≡ Ok ss → sound_loop (loop_of ss) ≡ true
is_sound_loop text ss e =
    let a = accepted_keeps loop_rules Half keeps (record { rising = omega arith; fine = tt; few = omega arith; memory = omega arith }) text ss e in
    let half = a.0.1 in
    let all = all_joined (Known ss) (λ s. operands s.operation) ss (all_known ss (uses_of ss) a.1.1.0) in
    let long : length (loop_of ss) ≡ length ss = length-map ss (λ s. on_operands (λ u. resolved ss u.operand) s.operation) in
    let in_all : count_by in_memory (loop_of ss) ≡ memory_operations ss =
    count_map in_memory (λ s. in_memory s.operation) (λ s. on_operands (λ u. resolved ss u.operand) s.operation) (λ s. memory_on (λ u. resolved ss u.operand) s.operation) ss 0 in
    let at_least : 1 ≤ length ss = leb-true 1 (length ss) (line_yes 0 (leb 1 (length ss)) a.1.0) in
    and_from (between 1 32 (length (loop_of ss))) (leb (count_by in_memory (loop_of ss)) 16 && sound_below (loop_of ss) (length (loop_of ss)))
    (and_from (leb 1 (length (loop_of ss))) (leb (length (loop_of ss)) 32) (le-leb 1 (length (loop_of ss)) (omega arith)) (le-leb (length (loop_of ss)) 32 (omega (arith, half.few))))
    (and_from (leb (count_by in_memory (loop_of ss)) 16) (sound_below (loop_of ss) (length (loop_of ss))) (ap (λ n. leb n 16) in_all ∙ le-leb (memory_operations ss) 16 half.memory)
    (is_sound_below ss a.0.0 half.rising half.fine all (length (loop_of ss)) (omega arith)))

pub sound_ops : (text : List ℕ) (ops : Loop) → read_loop text ≡ Ok ops → sound_loop ops ≡ true
sound_ops text ops e = go (reading loop_rules text) refl e
  where
    go : (r : Result (List Statement) Refusal) → reading loop_rules text ≡ r → on_ok loop_of r ≡ Ok ops → sound_loop ops ≡ true
    go (Ok ss) p h = let same : loop_of ss ≡ ops = cc in subst (λ x. sound_loop x ≡ true) same (is_sound_loop text ss p)
    go (Err f) p h = let z : ◌≡◌ {A = ℕ} 0 1 = cc in absurd (omega arith)
