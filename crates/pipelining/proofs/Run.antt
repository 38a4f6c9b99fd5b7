-- The timed run leaves the plain loop's memory.
use Rattle.std.proofs.Common.{◌≡◌, ℕ, zero, suc, ◌+◌, ◌-◌, ◌*◌, ◌/◌, ◌%◌, ◌<◌, ◌≤◌, true, ◌⊎◌, length, get_or, sym, refl, ap, ◌∙◌, inl, inr, mul-le-mul_right, mod-lt, div-lt_iff_lt-mul, mul-zero, div-add-mod', arith}
use Rattle.std.proofs.lemmas.List.{ext_get_or}
use Rattle.std.proofs.lemmas.Nat.{div-mul-add, mod-mul-add}
use Rattle.std.proofs.lemmas.Bool.{cases_eq, cases_lt}
use Rattle.model.specs.Loop.{Loop, Operand, literal, variable, op, Loads, Stores, Hardware, Named}
use Rattle.model.specs.Schedule.{Schedule}
use Rattle.model.specs.MemoryOrder.{issue_cycle, Earlier, Met}
use Rattle.model.specs.Domains.{Domain}
use Rattle.model.specs.Plain.{State, nought, operand_value, result, iterations}
use Rattle.model.specs.Issues.{issues, iteration_of}
use Rattle.pipelining.proofs.Timed.{timed}
use Rattle.pipelining.proofs.Sound.{Sound}
use Rattle.pipelining.proofs.Effects.{result_same, operand_same, literal_same, both_operands, loads_only}
use Rattle.pipelining.proofs.Order.{earlier_of_lt, lt_of_earlier}
use Rattle.pipelining.proofs.Flat.{StoresAt, flat, made, flat_plain, flat_length, flat_value, flat_cell, flat_stored}
use Rattle.pipelining.proofs.Issue.{issued, will_issue, minus_times}
use Rattle.pipelining.proofs.Cycle.{cycle_length, cycle_kept, cycle_value, cycle_cell}

-- Instance m loads from cell x.
abbrev LoadsAt : Loop → ℕ → ℕ → Type 0
LoadsAt ops m x = Loads (op ops (m % length ops)) (m / length ops) x

-- The cycle of instance m.
abbrev at : Loop → Schedule → ℕ → ℕ
at ops w m = issue_cycle w (m % length ops) (m / length ops)

-- The parts of a number below the number of all instances.
parts_below : (n N m : ℕ) → m < N * n → (0 < n) × (m % n < n) × (m / n < N)
parts_below n N m h = elim (cases_eq n 0) [ inl e ↦ absurd (none e) | inr p ↦ some (omega arith) ]
  where
    none : n ≡ 0 → ⊥
    none e = omega (arith, rw (e, mul-zero) at h)

    some : 0 < n → (0 < n) × (m % n < n) × (m / n < N)
    some p = (p, mod-lt m p, (div-lt_iff_lt-mul p).1 h)

module _ {V : Type 0} (dom : Domain V) (ops : Loop) (hw : Hardware) (w : Schedule) (trips : ℕ) (start : State V)
    (sound : Sound ops hw w trips (length start.memory)) where
  -- the number of all instances
  abbrev all : ℕ
  all = trips * length ops

  store_before : (x a b : ℕ) → a < b → b < all → StoresAt ops a x → LoadsAt ops b x ⊎ StoresAt ops b x →
      at ops w a + 1 ≤ at ops w b
  store_before x a b h hb sa tb =
      let pa = parts_below (length ops) trips a (omega arith) in
      let pb = parts_below (length ops) trips b hb in
      sound.store_first _ _ _ _ x pa.1 pb.1 pa.2 pb.2 (earlier_of_lt (length ops) a b pa.0 h) sa tb

  load_before : (x a b : ℕ) → a < b → b < all → LoadsAt ops a x → StoresAt ops b x → at ops w a ≤ at ops w b
  load_before x a b h hb la sb =
      let pa = parts_below (length ops) trips a (omega arith) in
      let pb = parts_below (length ops) trips b hb in
      sound.load_first _ _ _ _ x pa.1 pb.1 pa.2 pb.2 (earlier_of_lt (length ops) a b pa.0 h) la sb

  -- Cell x before cycle c: what the first m instances leave, where those are just the stores to x of earlier cycles.
  record Cell (c x : ℕ) : Type 0 where
    upto : ℕ
    within : upto ≤ all
    past : (s : ℕ) → s < upto → StoresAt ops s x → at ops w s < c
    ahead : (s : ℕ) → upto ≤ s → s < all → StoresAt ops s x → c ≤ at ops w s
    holds : get_or (timed dom ops w trips c start).memory x (nought dom) ≡ get_or (flat dom ops start upto).memory x (nought dom)

  record Before (c : ℕ) : Type 0 where
    same_length : length (timed dom ops w trips c start).memory ≡ length start.memory
    values : (m : ℕ) → m < all → at ops w m < c → (timed dom ops w trips c start).value (m % length ops) (m / length ops) ≡ made dom ops start m
    cells : (x : ℕ) → x < length start.memory → Cell c x

  -- What a load finds in its cell.
  load_right : (c m x : ℕ) → Before c → m < all → at ops w m ≡ c → LoadsAt ops m x → x < length start.memory →
      get_or (timed dom ops w trips c start).memory x (nought dom) ≡ get_or (flat dom ops start m).memory x (nought dom)
  load_right c m x b hm e l hx =
      let k = b.cells x hx in
      k.holds ∙ elim (cases_lt m k.upto) [
        | inl h ↦ flat_cell dom ops start x m k.upto hx (omega arith) (λ s g lt st.
            elim (cases_eq s m) [
              | inl p ↦ loads_only _ _ x l (rw p at st)
              | inr n ↦ omega (arith, k.past s lt st, k.within, load_before x m s (omega arith) (omega (arith, k.within)) l st)
            ])
        | inr h ↦ sym (flat_cell dom ops start x k.upto m hx h (λ s g lt st.
            omega (arith, k.ahead s g (omega arith) st, store_before x s m lt hm st (inl l))))
      ]

  -- What an operand is worth.
  operand_right : (c m : ℕ) → Before c → m < all → at ops w m ≡ c → (a : Operand) →
      Named ops (m % length ops) a → Met hw w (m % length ops) a →
      operand_value dom (timed dom ops w trips c start).value (m / length ops) a ≡
      operand_value dom (flat dom ops start m).value (m / length ops) a
  operand_right c m b hm e (literal z) n met = literal_same dom _ _ _ z
  operand_right c m b hm e (variable p d) named met = operand_same dom _ _ _ p d (λ hd.
      let n : ℕ = length ops in
      let i : ℕ = m / n in
      let a : ℕ = (i - d) * n + p in
      let is_p : a % n ≡ p = mod-mul-add (i - d) n p named.0 in
      let is_i : a / n ≡ i - d = div-mul-add (i - d) n p named.0 in
      let earlier : Earlier p (i - d) (m % n) i = elim (cases_eq d 0) [ inl z ↦ inr (omega arith, named.2 z) | inr z ↦ inl (omega arith) ] in
      let lt : a < m = omega (arith, lt_of_earlier n p (i - d) (m % n) i named.0 earlier, div-add-mod' m n) in
      let then : at ops w a ≡ w.time p + (i - d) * w.interval = rw (is_p, is_i) in
      let issued_before : at ops w a < c = omega (arith, met, sound.formed.latencies p named.0, minus_times i d w.interval hd) in
      (rw (is_p, is_i) at (b.values a (omega arith) issued_before)) ∙ sym (rw (is_p, is_i) at (flat_value dom ops start a m lt)))

  -- What an instance makes.
  right : (c m : ℕ) → Before c → m < all → at ops w m ≡ c →
      result dom (op ops (m % length ops)) (m / length ops) (timed dom ops w trips c start) ≡ made dom ops start m
  unfolding made
  right c m b hm e =
      let p = parts_below (length ops) trips m hm in
      result_same dom (op ops (m % length ops)) (m / length ops) _ _
      (both_operands _ _ _ (operand_right c m b hm e) (op ops (m % length ops)) (sound.formed.named (m % length ops) p.1) (sound.operands (m % length ops) p.1))
      (λ x l. load_right c m x b hm e l (sound.within _ _ x p.1 p.2 (inl l)))

  first : Before zero
  unfolding timed flat
  first = record {
    same_length = refl;
    values = λ m h l. absurd (omega arith);
    cells = λ x hx. record {
      upto = zero;
      within = omega arith;
      past = λ s h. absurd (omega arith);
      ahead = λ s h g st. omega arith;
      holds = refl;
    };
  }

  next_value : (c m : ℕ) → Before c → m < all → at ops w m < suc c →
      (timed dom ops w trips (suc c) start).value (m % length ops) (m / length ops) ≡ made dom ops start m
  unfolding timed
  next_value c m b hm h =
      let p = parts_below (length ops) trips m hm in
      elim (cases_eq (at ops w m) c) [
        | inl e ↦
            let it = will_issue w trips (m % length ops) c (m / length ops) sound.positive p.2 e in
            (rw it.1 at (cycle_value dom ops w trips c (timed dom ops w trips c start) (length ops) (m % length ops) p.1 it.0)) ∙ right c m b hm e
        | inr n ↦
            cycle_kept dom ops w trips c _ (length ops) (m % length ops) (m / length ops)
            (λ iss e. n (ap (issue_cycle w (m % length ops)) e ∙ (issued w trips (m % length ops) c iss).1)) ∙
            b.values m hm (omega arith)
      ]

  -- Operation q issues in cycle c and stores to cell x.
  cell_stored : (c x q : ℕ) → Before c → x < length start.memory → q < length ops → issues w trips q c ≡ true →
      Stores (op ops q) (iteration_of w q c) x →
      get_or (timed dom ops w trips (suc c) start).memory x (nought dom) ≡ result dom (op ops q) (iteration_of w q c) (timed dom ops w trips c start) →
      Cell (suc c) x
  cell_stored c x q b hx hq iss st is =
      let n : ℕ = length ops in
      let i : ℕ = iteration_of w q c in
      let m : ℕ = i * n + q in
      let it = issued w trips q c iss in
      let is_q : m % n ≡ q = mod-mul-add i n q hq in
      let is_i : m / n ≡ i = div-mul-add i n q hq in
      let hm : m < all = omega (arith, mul-le-mul_right n it.0) in
      let e : at ops w m ≡ c = rw (is_q, is_i) it.1 in
      let stores : StoresAt ops m x = rw (is_q, is_i) st in
      record {
        upto = suc m;
        within = hm;
        past = λ s h sx. elim (cases_eq s m) [
          | inl p ↦ rw p (omega arith)
          | inr z ↦ omega (arith, store_before x s m (omega arith) hm sx (inr stores))
        ];
        ahead = λ s h g sx. omega (arith, store_before x m s h g stores (inr sx));
        holds = is ∙ (rw (is_q, is_i) at (right c m b hm e)) ∙ sym (flat_stored dom ops start x m hx stores);
      }

  -- Nothing that issues in cycle c stores to cell x.
  cell_kept : (c x : ℕ) → Cell c x →
      ((q : ℕ) → q < length ops → issues w trips q c ≡ true → Stores (op ops q) (iteration_of w q c) x → ⊥) →
      get_or (timed dom ops w trips (suc c) start).memory x (nought dom) ≡ get_or (timed dom ops w trips c start).memory x (nought dom) →
      Cell (suc c) x
  cell_kept c x k no_store is = record {
    upto = k.upto;
    within = k.within;
    past = λ s h sx. omega (arith, k.past s h sx);
    ahead = λ s h g sx.
        let p = parts_below (length ops) trips s g in
        elim (cases_eq (at ops w s) c) [
          | inl e ↦
              let it = will_issue w trips (s % length ops) c (s / length ops) sound.positive p.2 e in
              absurd (no_store (s % length ops) p.1 it.0 (rw it.1 sx))
          | inr z ↦ omega (arith, k.ahead s h g sx)
        ];
    holds = is ∙ k.holds;
  }

  next : (c : ℕ) → Before c → Before (suc c)
  unfolding timed
  next c b = record {
    same_length = cycle_length dom ops w trips c _ (length ops) ∙ b.same_length;
    values = λ m hm h. next_value c m b hm h;
    cells = λ x hx. elim (cycle_cell dom ops w trips c (timed dom ops w trips c start) x (length ops) (rw b.same_length hx)) [
      | inl z ↦ cell_stored c x z.0 b hx z.1 z.2 z.3 z.4
      | inr z ↦ cell_kept c x (b.cells x hx) z.0 z.1
    ];
  }

  before : (c : ℕ) → Before c
  before zero = first
  before (suc c) = next c (before c)

  pub timed_is_plain : (cycles : ℕ) → ((j i : ℕ) → j < length ops → i < trips → issue_cycle w j i < cycles) →
      (timed dom ops w trips cycles start).memory ≡ (iterations dom ops trips start).memory
  timed_is_plain c enough =
      let b = before c in
      rw (flat_plain dom ops start trips) (ext_get_or (nought dom) _ _ (b.same_length ∙ sym (flat_length dom ops start all)) (λ x h.
      let hx : x < length start.memory = omega (arith, b.same_length) in
      let k = b.cells x hx in
      k.holds ∙ sym (flat_cell dom ops start x k.upto all hx k.within (λ s g lt st.
      let p = parts_below (length ops) trips s lt in
      omega (arith, k.ahead s g lt st, enough (s % length ops) (s / length ops) p.1 p.2)))))

  -- What issues makes the value that the plain loop makes.
  pub timed_right : (c j : ℕ) → j < length ops → issues w trips j c ≡ true →
      result dom (op ops j) (iteration_of w j c) (timed dom ops w trips c start) ≡ (iterations dom ops trips start).value j (iteration_of w j c)
  timed_right c j hj iss =
      let n : ℕ = length ops in
      let i : ℕ = iteration_of w j c in
      let m : ℕ = i * n + j in
      let it = issued w trips j c iss in
      let is_j : m % n ≡ j = mod-mul-add i n j hj in
      let is_i : m / n ≡ i = div-mul-add i n j hj in
      let hm : m < all = omega (arith, mul-le-mul_right n it.0) in
      (rw (is_j, is_i) at (right c m (before c) hm (rw (is_j, is_i) it.1))) ∙
      sym (rw (flat_plain dom ops start trips) (rw (is_j, is_i) at (flat_value dom ops start m all hm)))

  -- What has issued is remembered with the plain loop's value.
  pub timed_value : (c j i : ℕ) → j < length ops → i < trips → issue_cycle w j i < c →
      (timed dom ops w trips c start).value j i ≡ (iterations dom ops trips start).value j i
  timed_value c j i hj hi lt =
      let n : ℕ = length ops in
      let m : ℕ = i * n + j in
      let is_j : m % n ≡ j = mod-mul-add i n j hj in
      let is_i : m / n ≡ i = div-mul-add i n j hj in
      let hm : m < all = omega (arith, mul-le-mul_right n hi) in
      (rw (is_j, is_i) at ((before c).values m hm (rw (is_j, is_i) lt))) ∙
      sym (rw (flat_plain dom ops start trips) (rw (is_j, is_i) at (flat_value dom ops start m all hm)))
