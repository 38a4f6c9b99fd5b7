-- A sound loop on a sound machine is well formed. Assumes nothing.
use Rattle.std.proofs.Common.{◌≡◌, ℕ, zero, suc, ◌<◌, ◌≤◌, true, ◌&&◌, ◌||◌, eqb, ltb, leb, ◌⊎◌, List, [], ◌∷◌, map, length, get_or, pos, Some, None, count_by, Option, sym, subst, ⊎_elim, arith}
use Rattle.std.specs.List.{AllByRecursion}
use Rattle.std.proofs.lemmas.List.{get_or-map, length-map}
use Rattle.model.specs.Limits.{timing, TimingFits, MachineFits}
use Rattle.std.proofs.lemmas.Bool.{ltb-true, leb-true, eqb-true, and_parts, or_cases, cases_order}
use Rattle.model.specs.declared.Code.{Code}
use Rattle.model.specs.declared.Code.TheVariants.{Load, Store, Add, Sub, Mul, Move}
use Rattle.model.specs.declared.Timing.{Timing}
use Rattle.model.specs.Shapes.{every, between}
use Rattle.model.specs.Loop.{Operand, literal, variable, Operation, load, store, binary, move, Loop, op, EachOperand, makes, in_memory, Named, WellFormed}
use Rattle.model.specs.MachineText.{Class, Machine, code_number}
use Rattle.model.specs.Soundness.{sound_timing, sound_machine, sound_operand, sound_operation, sound_cell, sound_below, sound_loop, code_of, or_no_timing, timing_of, timings_of, units_of, hardware}
use Rattle.text_laws.proofs.Asked.{every_at}
use Rattle.text_laws.proofs.SoundMachines.{counted}

between_parts : (lo hi n : ℕ) → between lo hi n ≡ true → (lo ≤ n) × (n ≤ hi)
between_parts lo hi n e = let a = and_parts (leb lo n) (leb n hi) e in (leb-true lo n a.0, leb-true n hi a.1)

-- the operands
module _ (ops : Loop) (q : ℕ) where
  named_operand : (x : Operand) → sound_operand ops q x ≡ true → Named ops q x
  named_operand (literal z) e = tt
  named_operand (variable p d) e =
      let a = and_parts (ltb p (length ops)) (makes (op ops p) && ((ltb 0 d || ltb p q) && leb d 7)) e in
      let b = and_parts (makes (op ops p)) ((ltb 0 d || ltb p q) && leb d 7) a.1 in
      let c = and_parts (ltb 0 d || ltb p q) (leb d 7) b.1 in (
        ltb-true p (length ops) a.0,
        b.0,
        (λ z. ⊎_elim (λ (y : ltb 0 d ≡ true). absurd (omega (arith, ltb-true 0 d y))) (λ (y : ltb p q ≡ true). ltb-true p q y) (or_cases (ltb 0 d) (ltb p q) c.0)),
        leb-true d 7 c.1,
      )

  named_operation : (o : Operation Operand) → sound_operation ops q o ≡ true → EachOperand (Named ops q) o
  named_operation (load stride offset) e = tt
  named_operation (store a stride offset) e = named_operand a (and_parts (sound_operand ops q a) (sound_cell stride offset) e).0
  named_operation (binary code a b) e =
      let x = and_parts (sound_operand ops q a) (sound_operand ops q b) e in
      (named_operand a x.0, named_operand b x.1)
  named_operation (move a) e = named_operand a e

sound_at : (ops : Loop) (n q : ℕ) → sound_below ops n ≡ true → q < n → sound_operation ops q (op ops q) ≡ true
unfolding sound_below
sound_at ops zero q e h = absurd (omega arith)
sound_at ops (suc n) q e h =
    let a = and_parts (sound_below ops n) (sound_operation ops n (op ops n)) e in
    ⊎_elim (λ (y : q ≡ n). subst (λ j. sound_operation ops j (op ops j) ≡ true) (sym y) a.1) (λ (y : (q < n) ⊎ (n < q)). sound_at ops n q a.0 (omega arith)) (cases_order q n)

-- the machine
code_low : (c : Code) → code_number c < 6
code_low Load = omega arith
code_low Store = omega arith
code_low Add = omega arith
code_low Sub = omega arith
code_low Mul = omega arith
code_low Move = omega arith

record InRange (m : Machine) (t : Timing) : Type 0 where
  pub latency : (1 ≤ t.latency) × (t.latency ≤ 8)
  pub busy : (1 ≤ t.busy) × (t.busy ≤ t.latency)
  pub known : t.class < length m.classes
  pub units : (1 ≤ get_or (units_of m) t.class 0) × (get_or (units_of m) t.class 0 ≤ 8)

module _ (m : Machine) (e : sound_machine m ≡ true) where
  in_range : (o : Option Timing) → sound_timing (length m.classes) o ≡ true → InRange m (or_no_timing o)
  in_range None s = let z : ◌≡◌ {A = ℕ} 0 1 = cc in absurd (omega arith)
  in_range (Some t) s =
      let a = and_parts (ltb t.class (length m.classes)) (between 1 8 t.latency && between 1 t.latency t.busy) s in
      let b = and_parts (between 1 8 t.latency) (between 1 t.latency t.busy) a.1 in
      let all = (and_parts (every counted m.classes) _ (and_parts (every (sound_timing (length m.classes)) m.timings) _ e).1).0 in
      let none : Class = record { name = []; count = 0 } in
      let units = every_at counted m.classes t.class none all (ltb-true t.class (length m.classes) a.0) in
      record {
        latency = between_parts 1 8 t.latency b.0;
        busy = between_parts 1 t.latency t.busy b.1;
        known = ltb-true t.class (length m.classes) a.0;
        units = subst (λ n. (1 ≤ n) × (n ≤ 8)) (sym (get_or-map (λ c. c.count) m.classes t.class none 0 (ltb-true t.class (length m.classes) a.0))) (between_parts 1 8 (get_or m.classes t.class none).count units);
      }

  timed : (c : Code) → InRange m (timing_of m c)
  timed c =
      let a = and_parts (every (sound_timing (length m.classes)) m.timings) _ e in
      let b = and_parts (every counted m.classes) (leb (length m.classes) 8 && eqb (length m.timings) 6) a.1 in
      let six = eqb-true (length m.timings) 6 (and_parts (leb (length m.classes) 8) (eqb (length m.timings) 6) b.1).1 in
      let low : code_number c < length m.timings = omega (arith, code_low c, six) in
      in_range (get_or m.timings (code_number c) None) (every_at (sound_timing (length m.classes)) m.timings (code_number c) None a.0 low)

-- what operation j takes of the machine is what its code does
at_operation : (m : Machine) (ops : Loop) (j : ℕ) → j < length ops → timing (timings_of m ops) j ≡ timing_of m (code_of (op ops j))
unfolding op
at_operation m ops j h = get_or-map (λ o. timing_of m (code_of o)) ops j (move (literal (pos 0))) (record { class = 0; latency = 0; busy = 0 }) h

pub well_formed : (m : Machine) (ops : Loop) → sound_machine m ≡ true → sound_loop ops ≡ true → WellFormed ops (hardware m ops)
well_formed m ops e s =
    let a = and_parts (between 1 32 (length ops)) (leb (count_by in_memory ops) 16 && sound_below ops (length ops)) s in
    let few = between_parts 1 32 (length ops) a.0 in
    let below = (and_parts (leb (count_by in_memory ops) 16) (sound_below ops (length ops)) a.1).1 in
    record {
      some = omega (arith, few.0);
      few = few.1;
      named = λ q h. named_operation ops q (op ops q) (sound_at ops (length ops) q below h);
      latencies = λ j h. subst (λ t. (1 ≤ t.latency) × (t.latency ≤ 8)) (sym (at_operation m ops j h)) (timed m e (code_of (op ops j))).latency;
      busies = λ j h. subst (λ t. (1 ≤ t.busy) × (t.busy ≤ t.latency)) (sym (at_operation m ops j h)) (timed m e (code_of (op ops j))).busy;
      units = λ j h. subst (λ t. (1 ≤ get_or (units_of m) t.class 0) × (get_or (units_of m) t.class 0 ≤ 8)) (sym (at_operation m ops j h)) (timed m e (code_of (op ops j))).units;
    }

-- the machine is one that the minimum and the search take
all_timed : (m : Machine) → sound_machine m ≡ true → (ops : Loop) → AllByRecursion (TimingFits (length (units_of m))) (timings_of m ops)
all_timed m e [] = tt
all_timed m e (o ∷ ops) =
    let t = timed m e (code_of o) in
    (record { class = subst (λ n. (timing_of m (code_of o)).class < n) (sym (length-map m.classes (λ c. c.count))) t.known; some = t.busy.0; short = omega (arith, t.busy.1, t.latency.1) }, all_timed m e ops)

all_counted : (cs : List Class) → every counted cs ≡ true → AllByRecursion (λ c. (1 ≤ c) × (c ≤ 8)) (map (λ c. c.count) cs)
all_counted [] e = tt
all_counted (c ∷ cs) e = let a = and_parts (counted c) (every counted cs) e in (between_parts 1 8 c.count a.0, all_counted cs a.1)

pub machine_fits : (m : Machine) (ops : Loop) → sound_machine m ≡ true → MachineFits (timings_of m ops) (units_of m)
machine_fits m ops e =
    let a = and_parts (every (sound_timing (length m.classes)) m.timings) _ e in
    let b = and_parts (every counted m.classes) (leb (length m.classes) 8 && eqb (length m.timings) 6) a.1 in
    let few = leb-true (length m.classes) 8 (and_parts (leb (length m.classes) 8) (eqb (length m.timings) 6) b.1).0 in
    record { classes = omega (arith, few, length-map m.classes (λ c. c.count)); each = all_timed m e ops; counts = all_counted m.classes b.0 }

-- of a sound loop alone: its operations are few, and their operands name what they may
pub sound_named : (ops : Loop) → sound_loop ops ≡ true → (0 < length ops) × (length ops ≤ 32) × ((q : ℕ) → q < length ops → EachOperand (Named ops q) (op ops q))
sound_named ops s =
    let a = and_parts (between 1 32 (length ops)) (leb (count_by in_memory ops) 16 && sound_below ops (length ops)) s in
    let few = between_parts 1 32 (length ops) a.0 in
    let below = (and_parts (leb (count_by in_memory ops) 16) (sound_below ops (length ops)) a.1).1 in
    (omega (arith, few.0), few.1, λ q h. named_operation ops q (op ops q) (sound_at ops (length ops) q below h))
