-- One slot issues.
use Rattle.std.proofs.Common.{◌≡◌, ℕ, ◌+◌, ◌-◌, ◌%◌, ◌<◌, ◌≤◌, true, false, List, [], ◌∷◌, length, set, sym, refl, ap, ◌∙◌, subst, inl, inr, arith}
use mathlib.Core.Path.{fun_ext}
use Rattle.std.proofs.lemmas.List.{get_or-set_same, get_or-set_other}
use Rattle.std.proofs.lemmas.Bool.{cases_eq, eq-eqb, ne_eqb}
use Rattle.model.specs.declared.Status.{Status}
use Rattle.model.specs.declared.Status.TheVariants.{Waits}
use Rattle.model.specs.Loop.{makes, cell}
use Rattle.model.specs.Domains.{Domain}
use Rattle.model.specs.Plain.{nought, written, evaluate}
use Rattle.model.specs.Issues as issues
use Rattle.model.specs.Driving as driving
use Rattle.model.specs.Driving.{put, source_value}
use Rattle.engine_laws.specs.Parts.{slot_value, statuses, waitings, memories}
use Rattle.engine_laws.specs.Dues.{Awaited, Pending, Pushed}
use Rattle.operations.specs.declared.operation.Cell.{Cell}
use Rattle.engine_slots.specs.declared.slot.Resolved.{Resolved}
use Rattle.operations.specs.declared.operation.Operation.{Operation}
use Rattle.operations.specs.declared.operation.Operation.TheVariants.{Load, Store, Binary, Move}
use Rattle.engine_slots.specs.declared.slot.Slot.{Slot}
use Rattle.engine_writes.specs.declared.waiting.Waiting.{Waiting}
use Rattle.engine_slots.specs.Slots.{slot_of, operation_of, source_of}
use Rattle.engine_writes.specs.Files.{value_file, waiting_file, entry_of}
use Rattle.engine_writes.specs.Steps.{Waited, Stored, WaitedSoFar, StoredSoFar}

module _ {V : Type 0} (dom : Domain V) (values : List V) (p : ℕ) (slot : Slot) (memory : List V) where
  pub store_writes : (a : Resolved) (c : Cell) → slot.operation ≡ Store a c → (v : V) → v ≡ source_value dom (value_file (nought dom) values) (source_of a) →
      Stored dom values p (slot_of slot ∷ []) memory (set memory (cell c.stride c.offset (p - slot.stage)) v)
  unfolding memories written evaluate
  store_writes a c e v is cells = rw (e, is) refl

  pub other_writes : ((a : Resolved) (c : Cell) → slot.operation ≡ Store a c → ⊥) → Stored dom values p (slot_of slot ∷ []) memory memory
  unfolding memories written
  other_writes not_store cells = go slot.operation refl
    where
      go : (o : Operation Resolved) → slot.operation ≡ o → memory ≡ written (operation_of slot.operation) (p - slot.stage) (slot_value dom (value_file (nought dom) values) cells p (slot_of slot)) memory
      go (Load c) e = rw e refl
      go (Store a c) e = absurd (not_store a c e)
      go (Binary o a b) e = rw e refl
      go (Move a) e = rw e refl

module _ {V : Type 0} (dom : Domain V) (values : List V) (p : ℕ) (memory : List V) (c file : ℕ) (slot : Slot) (waiting : List (Waiting V)) (due : ℕ → List ℕ) where
  abbrev file_before : ℕ → driving.Waiting V
  file_before = waiting_file (nought dom) waiting

  pub unmade_waits : makes (operation_of slot.operation) ≡ false → Waited dom values p memory c file (slot_of slot ∷ []) waiting due waiting due
  unfolding waitings statuses
  unmade_waits e = record {
    entries = rw e refl;
    registers = λ h. h;
    lists = λ status h. rw e h;
  }

  module _ (value : V) (due' : ℕ → List ℕ) (e : makes (operation_of slot.operation) ≡ true) (place : slot.target < length waiting)
      (soon : slot.timing.latency ≤ 8) (is : value ≡ slot_value dom (value_file (nought dom) values) memory p (slot_of slot))
      (pushed : Pushed (c + slot.timing.latency) slot.target due due') (within : slot.target < file) where
    abbrev entry : Waiting V
    entry = record { due = c + slot.timing.latency; value = value }

    abbrev file_after : ℕ → driving.Waiting V
    file_after = waiting_file (nought dom) (set waiting slot.target entry)

    at_target : file_after slot.target ≡ entry_of entry
    at_target = ap entry_of (get_or-set_same waiting slot.target entry _ place)

    elsewhere : (r : ℕ) → (r ≡ slot.target → ⊥) → file_after r ≡ file_before r
    elsewhere r z = ap entry_of (get_or-set_other waiting slot.target r entry _ z)

    entries : file_after ≡ waitings dom (value_file (nought dom) values) memory p c (slot_of slot ∷ []) file_before
    unfolding waitings
    entries = rw e (fun_ext (λ r. elim (cases_eq r slot.target) [
      | inl same ↦ rw (same, eq-eqb slot.target slot.target refl) (at_target ∙ rw is refl)
      | inr z ↦ rw (ne_eqb r slot.target z) (elsewhere r z)
    ]))

    lists : (status : ℕ → Status) → Pending file (c + 1) status file_before due →
        (r : ℕ) → put slot.target Waits status r ≡ Waits → Awaited (c + 1) (file_after r).due due' file r
    lists status h r waits = elim (cases_eq r slot.target) [
      | inl same ↦ rw same (subst (λ x. Awaited (c + 1) x due' file slot.target) (sym (ap (λ w. w.due) at_target))
          (record { within = within; soon = λ from. omega arith; listed = λ from. pushed.in_list }))
      | inr z ↦
          let was = h r (rw (ne_eqb r slot.target z) at waits) in
          subst (λ x. Awaited (c + 1) x due' file r) (sym (ap (λ w. w.due) (elsewhere r z))) (record {
            within = was.within;
            soon = was.soon;
            listed = λ from. pushed.others ((file_before r).due % 8) r (was.listed from);
          })
    ]

    pub made_waits : Waited dom values p memory c file (slot_of slot ∷ []) waiting due (set waiting slot.target entry) due'
    unfolding statuses
    made_waits = record {
      entries = entries;
      registers = λ h. pushed.bounded file within h;
      lists = λ status h. rw e (lists status h);
    }

-- A row, slot by slot.
module _ {V : Type 0} (dom : Domain V) (values : List V) (p : ℕ) where
  pub stored_first : (slots : List issues.Slot) (memory : List V) → StoredSoFar dom values p slots slots memory memory
  stored_first slots memory cells = refl

  pub stored_more : (slots left : List issues.Slot) (slot : issues.Slot) (memory memory' memory'' : List V) →
      StoredSoFar dom values p slots (slot ∷ left) memory memory' → Stored dom values p (slot ∷ []) memory' memory'' → StoredSoFar dom values p slots left memory memory''
  unfolding memories
  stored_more slots left slot memory memory' memory'' so_far one cells = so_far cells ∙ ap (memories dom (value_file (nought dom) values) cells p left) (sym (one cells))

  pub stored_all : (slots : List issues.Slot) (memory memory' : List V) → StoredSoFar dom values p slots [] memory memory' → Stored dom values p slots memory memory'
  unfolding memories
  stored_all slots memory memory' so_far cells = sym (so_far cells)

  module _ (memory : List V) (c file : ℕ) (slots : List issues.Slot) (waiting : List (Waiting V)) (due : ℕ → List ℕ) where
    pub waited_first : WaitedSoFar dom values p memory c file slots slots waiting due waiting due
    waited_first = record { entries = refl; registers = λ h. h; lists = λ status h. (status, (h, refl)) }

    module _ (waiting' : List (Waiting V)) (due' : ℕ → List ℕ) where
      pub waited_all : WaitedSoFar dom values p memory c file slots [] waiting due waiting' due' → Waited dom values p memory c file slots waiting due waiting' due'
      unfolding waitings statuses
      waited_all so_far = record {
        entries = sym so_far.entries;
        registers = so_far.registers;
        lists = λ status h. let now = so_far.lists status h in rw now.1.1 now.1.0;
      }

      pub waited_more : (left : List issues.Slot) (slot : issues.Slot) (waiting'' : List (Waiting V)) (due'' : ℕ → List ℕ) →
          WaitedSoFar dom values p memory c file slots (slot ∷ left) waiting due waiting' due' →
          Waited dom values p memory c file (slot ∷ []) waiting' due' waiting'' due'' →
          WaitedSoFar dom values p memory c file slots left waiting due waiting'' due''
      unfolding waitings statuses
      waited_more left slot waiting'' due'' so_far one = record {
        entries = so_far.entries ∙ ap (waitings dom (value_file (nought dom) values) memory p c left) (sym one.entries);
        registers = λ h. one.registers (so_far.registers h);
        lists = λ status h. let now = so_far.lists status h in (statuses (slot ∷ []) now.0, (one.lists now.0 now.1.0, now.1.1));
      }
