-- The machine on the issues of a schedule: what its registers hold, and that it keeps the memory of the timed run.
use Rattle.std.proofs.Common.{◌≡◌, ℕ, zero, suc, ◌+◌, ◌-◌, ◌*◌, ◌<◌, ◌≤◌, true, leb, ◌⊎◌, length, sym, refl, ap, ◌∙◌, ap₂, inl, inr, arith}
use Rattle.std.proofs.lemmas.Bool.{cases_eq, cases_Bool, leb-true}
use Rattle.model.specs.Loop.{Loop, Operand, literal, variable, op, EachOperand, makes, Hardware, Named}
use Rattle.model.specs.Schedule.{Schedule}
use Rattle.model.specs.MemoryOrder.{issue_cycle, Met}
use Rattle.model.specs.ScheduleLives.{ReadInLife}
use Rattle.model.specs.Domains.{Domain}
use Rattle.model.specs.Plain.{State, operand_value, evaluate, result, iterations}
use Rattle.model.specs.Issues.{Source, constant, register, issues, iteration_of, source, slot_of, issues_at}
use Rattle.model.specs.Driving.{Waiting, Machine, source_value, slot_result, land}
use Rattle.model.specs.declared.Status.TheVariants.{Never, Waits, Landed}
use Rattle.pipelining.proofs.Effects.{each_operand, both_operands}
use Rattle.pipelining.proofs.Timed.{timed}
use Rattle.pipelining.proofs.Sound.{Sound}
use Rattle.pipelining.proofs.Placed.{Lives, Placed}
use Rattle.pipelining.proofs.Issue.{issued, will_issue, minus_times}
use Rattle.pipelining.proofs.Cycle.{timed_length, cycle_kept, cycle_value}
use Rattle.pipelining.proofs.Run.{timed_is_plain, timed_right}
use Rattle.pipelining.proofs.Landing.{never_waits, lands_now, lands_later, landed_before, waits_still}
use Rattle.pipelining.proofs.Driven.{driven}
use Rattle.pipelining.proofs.Row.{evaluate_on, values_stay, memory_then, register_then}

-- A register that a source names has landed.
abbrev pub Landing : {V : Type 0} → Machine V → Source → Type 0
Landing m (constant z) = Unit {0}
Landing m (register r) = m.status r ≡ Landed

module _ {V : Type 0} (dom : Domain V) (ops : Loop) (hw : Hardware) (w : Schedule) (trips : ℕ) (home : ℕ → ℕ → ℕ) (life_end : ℕ → ℕ) (start : State V) (m : Machine V)
    (sound : Sound ops hw w trips (length start.memory)) (placed : Placed ops hw w home life_end)
    (same_start : m.memory ≡ start.memory) (fresh : (r : ℕ) → m.status r ≡ Never) where
  -- the machine and the timed run before cycle c, and the machine after its landings
  abbrev pub now : ℕ → Machine V
  now c = driven dom w.interval (issues_at ops hw w trips home) c m

  abbrev pub then : ℕ → State V
  then c = timed dom ops w trips c start

  -- Operation p makes a value in iteration i of the loop.
  abbrev pub Made : ℕ → ℕ → Type 0
  Made p i = (p < length ops) × (makes (op ops p) ≡ true) × (i < trips)

  -- the cycle in which that value lands
  abbrev pub landing : ℕ → ℕ → ℕ
  landing p i = issue_cycle w p i + hw.latency p

  -- the waiting entry of what operation p makes in iteration i, as the timed run has its value before cycle c
  abbrev pub entry : ℕ → ℕ → ℕ → Waiting V
  entry c p i = record { due = landing p i; value = (then c).value p i }

  -- Before cycle c, to the cycle behind its life, a value waits in its register, or has landed there.
  pub record Holds (c p i : ℕ) : Type 0 where
    pub waiting_is : (now c).waiting (home p i) ≡ entry c p i
    pub either : ((c ≤ landing p i) × ((now c).status (home p i) ≡ Waits)) ⊎
        ((landing p i < c) × ((now c).status (home p i) ≡ Landed) × ((now c).values (home p i) ≡ (then c).value p i))

  -- Before cycle c register r awaits what operation p makes in iteration i.
  pub record Awaited (c r : ℕ) : Type 0 where
    pub by : ℕ
    pub «for» : ℕ
    pub made : Made by «for»
    pub earlier : issue_cycle w by «for» < c
    pub coming_soon : c ≤ landing by «for»
    pub due_then : ((now c).waiting r).due ≡ landing by «for»
    pub there : home by «for» ≡ r

  pub record Kept (c : ℕ) : Type 0 where
    pub same_memory : (now c).memory ≡ (then c).memory
    pub live : (p i : ℕ) → Made p i → issue_cycle w p i < c → c ≤ life_end p + i * w.interval + 1 → Holds c p i
    pub awaited : (r : ℕ) → (now c).status r ≡ Waits → Awaited c r

  -- A live value that is due has landed, after the landings of cycle c.
  pub read_right : (c p i : ℕ) → Kept c → Made p i → landing p i ≤ c → c ≤ life_end p + i * w.interval →
      ((land c (now c)).status (home p i) ≡ Landed) × ((land c (now c)).values (home p i) ≡ (then c).value p i)
  read_right c p i kept made due alive =
      let h = kept.live p i made (omega (arith, sound.formed.latencies p made.0)) (omega arith) in
      elim h.either [
        | inl z ↦ let y = lands_now c (now c) (home p i) z.1 (ap (λ e. e.due) h.waiting_is ∙ omega (arith, z.0)) in (y.0, y.1 ∙ ap (λ e. e.value) h.waiting_is)
        | inr z ↦ let y = landed_before c (now c) (home p i) z.1 in (y.0, y.1 ∙ z.2)
      ]

  -- What issues in cycle c begins to live there, in no other live value's place.
  pub alive_at : (c q : ℕ) → q < length ops → issues w trips q c ≡ true → makes (op ops q) ≡ true → Lives w life_end q (iteration_of w q c) c
  alive_at c q hq iss k =
      let it = issued w trips q c iss in
      (omega arith, omega (arith, placed.lands_in_life q hq k, sound.formed.latencies q hq))

  pub no_clash : (c p i q : ℕ) → Made p i → issue_cycle w p i < c → c ≤ life_end p + i * w.interval →
      q < length ops → issues w trips q c ≡ true → makes (op ops q) ≡ true → home p i ≡ home q (iteration_of w q c) → ⊥
  no_clash c p i q made h alive hq iss k same =
      let y = placed.apart p i q (iteration_of w q c) c made.0 hq made.1 k (omega arith, alive) (alive_at c q hq iss k) same in
      let z : issue_cycle w p i ≡ issue_cycle w q (iteration_of w q c) = ap₂ (issue_cycle w) y.0 y.1 in
      omega (arith, z, (issued w trips q c iss).1)

  -- What an operand reads.
  abbrev pub Read : ℕ → ℕ → Operand → Type 0
  Read c q a = Landing (land c (now c)) (source home (iteration_of w q c) a) ×
      (source_value dom (land c (now c)).values (source home (iteration_of w q c) a) ≡ operand_value dom (then c).value (iteration_of w q c) a)

  operand_read : (c q : ℕ) → Kept c → q < length ops → issues w trips q c ≡ true → (a : Operand) → Named ops q a → Met hw w q a → ReadInLife w life_end q a → Read c q a
  unfolding operand_value
  operand_read c q kept hq iss (literal z) named met read = (tt, refl)
  operand_read c q kept hq iss (variable p d) named met read =
      let i : ℕ = iteration_of w q c in
      let it = issued w trips q c iss in
      elim (cases_Bool (leb d i)) [
        | inl e ↦
            let apart_by = minus_times i d w.interval (leb-true d i e) in
            rw e (read_right c p (i - d) kept (named.0, named.1, omega (arith, it.0)) (omega (arith, met, it.1, apart_by)) (omega (arith, read, it.1, apart_by)))
        | inr e ↦ rw e (tt, refl)
      ]

  -- What is known of an operand of operation q.
  abbrev pub Known : ℕ → Operand → Type 0
  Known q a = Named ops q a × (Met hw w q a × ReadInLife w life_end q a)

  pub operands_known : (q : ℕ) → q < length ops → EachOperand (Known q) (op ops q)
  operands_known q hq =
      both_operands _ _ _ (λ a n y. (n, y)) (op ops q) (sound.formed.named q hq)
      (both_operands (Met hw w q) (ReadInLife w life_end q) (λ a. Met hw w q a × ReadInLife w life_end q a) (λ a n y. (n, y)) (op ops q) (sound.operands q hq) (placed.reads_in_life q hq))

  pub operands_read : (c q : ℕ) → Kept c → q < length ops → issues w trips q c ≡ true → EachOperand (Read c q) (op ops q)
  operands_read c q kept hq iss =
      each_operand (Known q) (Read c q) (λ a y. operand_read c q kept hq iss a y.0 y.1.0 y.1.1) (op ops q) (operands_known q hq)

  pub slot_right : (c q : ℕ) → Kept c → q < length ops → issues w trips q c ≡ true →
      slot_result dom w.interval c (slot_of ops hw w home c q) (land c (now c)) ≡ result dom (op ops q) (iteration_of w q c) (then c)
  unfolding result land
  slot_right c q kept hq iss =
      evaluate_on dom (source home (iteration_of w q c)) _ (operand_value dom (then c).value (iteration_of w q c)) (op ops q) _ _
      (each_operand _ _ (λ a y. y.1) (op ops q) (operands_read c q kept hq iss)) ∙
      ap (evaluate dom (operand_value dom (then c).value (iteration_of w q c)) (op ops q) (iteration_of w q c)) kept.same_memory

  -- The result register of what issues awaits nothing.
  pub target_free : (c q : ℕ) → Kept c → q < length ops → issues w trips q c ≡ true → makes (op ops q) ≡ true →
      (land c (now c)).status (home q (iteration_of w q c)) ≡ Waits → ⊥
  target_free c q kept hq iss k waiting =
      let still = waits_still c (now c) (home q (iteration_of w q c)) waiting in
      let a = kept.awaited (home q (iteration_of w q c)) still.0 in
      let later : landing a.by a.«for» ≡ c → ⊥ = λ e. still.1 (a.due_then ∙ e) in
      no_clash c a.by a.«for» q a.made a.earlier
      (omega (arith, placed.lands_in_life a.by a.made.0 a.made.1, a.coming_soon, later)) hq iss k a.there

  next_live : (c p i : ℕ) → Kept c → Made p i → issue_cycle w p i < suc c → suc c ≤ life_end p + i * w.interval + 1 → Holds (suc c) p i
  unfolding driven timed land
  next_live c p i kept made h alive = elim (cases_eq (issue_cycle w p i) c) [ inl e ↦ new e | inr n ↦ old (omega arith) ]
    where
      seen : Machine V
      seen = land c (now c)

      new : issue_cycle w p i ≡ c → Holds (suc c) p i
      new e =
          let it = will_issue w trips p c i sound.positive made.2 e in
          elim (register_then dom ops hw w trips home c seen (home p i) (length ops)) [
            | inl z ↦
                let q : ℕ = z.0 in
                let y = placed.apart q (iteration_of w q c) p i c z.1 made.0 z.3 made.1 (alive_at c q z.1 z.2 z.3) (omega arith, omega arith) z.4 in
                let due_same : c + hw.latency q ≡ landing p i = ap₂ ◌+◌ (sym e) (ap hw.latency y.0) in
                let value_same : slot_result dom w.interval c (slot_of ops hw w home c q) seen ≡ (then (suc c)).value p i =
                slot_right c q kept z.1 z.2 ∙ sym (cycle_value dom ops w trips c (then c) (length ops) q z.1 z.2) ∙ ap₂ (then (suc c)).value y.0 y.1 in
                record {
                  waiting_is = z.5 ∙ ap₂ (λ (d : ℕ) (v : V). record { due = d; value = v }) due_same value_same;
                  either = inl (omega (arith, sound.formed.latencies p made.0), z.6);
                }
            | inr z ↦ absurd (z.0 p made.0 it.0 made.1 (ap (home p) it.1))
          ]

      old : issue_cycle w p i < c → Holds (suc c) p i
      old before =
          let k = kept.live p i made before (omega arith) in
          let same : (then (suc c)).value p i ≡ (then c).value p i = cycle_kept dom ops w trips c (then c) (length ops) p i
          (λ iss e. omega (arith, ap (issue_cycle w p) e ∙ (issued w trips p c iss).1)) in
          let stay : (now (suc c)).values (home p i) ≡ seen.values (home p i) = ap (λ f. f (home p i)) (values_stay dom ops hw w trips home c seen (length ops)) in
          elim (register_then dom ops hw w trips home c seen (home p i) (length ops)) [
            | inl z ↦ absurd (no_clash c p i z.0 made before (omega arith) z.1 z.2 z.3 (sym z.4))
            | inr z ↦ record {
              waiting_is = z.1 ∙ k.waiting_is ∙ ap (λ (v : V). record { due = landing p i; value = v }) (sym same);
              either = elim k.either [
                | inl y ↦ elim (cases_eq (landing p i) c) [
                  | inl e ↦
                      let l = lands_now c (now c) (home p i) y.1 (ap (λ x. x.due) k.waiting_is ∙ e) in
                      inr (omega arith, z.2 ∙ l.0, stay ∙ l.1 ∙ ap (λ x. x.value) k.waiting_is ∙ sym same)
                  | inr n ↦ inl (omega arith, z.2 ∙ (lands_later c (now c) (home p i) y.1 (λ e. n (sym (ap (λ x. x.due) k.waiting_is) ∙ e))).0)
                ]
                | inr y ↦
                    let l = landed_before c (now c) (home p i) y.1 in
                    inr (omega arith, z.2 ∙ l.0, stay ∙ l.1 ∙ y.2 ∙ sym same)
              ];
            }
          ]

  next_awaited : (c r : ℕ) → Kept c → (now (suc c)).status r ≡ Waits → Awaited (suc c) r
  unfolding driven timed land
  next_awaited c r kept waiting = elim (register_then dom ops hw w trips home c (land c (now c)) r (length ops)) [
    | inl z ↦
        let it = issued w trips z.0 c z.2 in
        record {
          by = z.0;
          «for» = iteration_of w z.0 c;
          made = (z.1, z.3, it.0);
          earlier = omega (arith, it.1);
          coming_soon = omega (arith, it.1, sound.formed.latencies z.0 z.1);
          due_then = ap (λ e. e.due) z.5 ∙ omega (arith, it.1);
          there = z.4;
        }
    | inr z ↦
        let still = waits_still c (now c) r (sym z.2 ∙ waiting) in
        let a = kept.awaited r still.0 in
        let later : landing a.by a.«for» ≡ c → ⊥ = λ e. still.1 (a.due_then ∙ e) in
        record {
          by = a.by;
          «for» = a.«for»;
          made = a.made;
          earlier = omega (arith, a.earlier);
          coming_soon = omega (arith, a.coming_soon, later);
          due_then = ap (λ e. e.due) z.1 ∙ a.due_then;
          there = a.there;
        }
  ]

  first : Kept zero
  unfolding driven timed
  first = record { same_memory = same_start; live = λ p i _ h. absurd (omega arith); awaited = λ r e. absurd (never_waits (sym (fresh r) ∙ e)) }

  next : (c : ℕ) → Kept c → Kept (suc c)
  unfolding driven timed land
  next c kept = record {
    same_memory = memory_then dom ops hw w trips home c (land c (now c)) (then c) kept.same_memory (length ops)
        (λ q hq iss. slot_right c q kept hq iss) (length ops) (omega arith);
    live = λ p i. next_live c p i kept;
    awaited = λ r. next_awaited c r kept;
  }

  pub kept_at : (c : ℕ) → Kept c
  kept_at zero = first
  kept_at (suc c) = next c (kept_at c)

  pub memory_length : (c : ℕ) → length (now c).memory ≡ length start.memory
  memory_length c = ap length (kept_at c).same_memory ∙ timed_length dom ops w trips start c

  pub machine_right : (c j : ℕ) → j < length ops → issues w trips j c ≡ true →
      slot_result dom w.interval c (slot_of ops hw w home c j) (land c (now c)) ≡ (iterations dom ops trips start).value j (iteration_of w j c)
  machine_right c j hj iss = slot_right c j (kept_at c) hj iss ∙ timed_right dom ops hw w trips start sound c j hj iss

  pub machine_is_plain : (cycles : ℕ) → ((j i : ℕ) → j < length ops → i < trips → issue_cycle w j i < cycles) →
      (now cycles).memory ≡ (iterations dom ops trips start).memory
  machine_is_plain c enough = (kept_at c).same_memory ∙ timed_is_plain dom ops hw w trips start sound c enough
