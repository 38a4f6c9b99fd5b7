-- What the slots of a row do to each part of the machine, part by part.
use Rattle.std.specs.Prelude.{ℕ, ◌+◌, ◌-◌, cond, List, [], ◌∷◌, Some, None, Option}
use Rattle.model.specs.declared.Status.{Status}
use Rattle.model.specs.declared.Status.TheVariants.{Waits}
use Rattle.model.specs.Loop.{makes}
use Rattle.model.specs.Domains.{Domain}
use Rattle.model.specs.Plain.{written, evaluate}
use Rattle.model.specs.Issues.{Slot}
use Rattle.model.specs.Driving.{Waiting, put, use_of, source_value}

-- one slot
abbrev pub status_after : Slot → (ℕ → Status) → ℕ → Status
status_after slot status = cond (makes slot.operation) (put slot.target Waits status) status

abbrev pub taken_after : ℕ → Slot → (ℕ → ℕ → ℕ) → ℕ → ℕ → ℕ
taken_after c slot taken u y = taken u y + use_of u y c slot

-- all slots of a row, in order
unfoldable pub statuses : List Slot → (ℕ → Status) → ℕ → Status
statuses [] status = status
statuses (slot ∷ slots) status = statuses slots (status_after slot status)

unfoldable pub takens : ℕ → List Slot → (ℕ → ℕ → ℕ) → ℕ → ℕ → ℕ
takens c [] taken = taken
takens c (slot ∷ slots) taken = takens c slots (taken_after c slot taken)

-- In cycle c of pass p, where registers and memory hold this.
module _ {V : Type 0} (dom : Domain V) (values : ℕ → V) (cells : List V) (p : ℕ) where
  abbrev pub slot_value : Slot → V
  slot_value slot = evaluate dom (source_value dom values) slot.operation (p - slot.stage) cells

  abbrev pub waiting_after : ℕ → Slot → (ℕ → Waiting V) → ℕ → Waiting V
  waiting_after c slot waiting =
      cond (makes slot.operation) (put slot.target (record { due = c + slot.latency; value = slot_value slot }) waiting) waiting

  abbrev pub memory_after : Slot → List V → List V
  memory_after slot memory = written slot.operation (p - slot.stage) (slot_value slot) memory

  unfoldable pub waitings : ℕ → List Slot → (ℕ → Waiting V) → ℕ → Waiting V
  waitings c [] waiting = waiting
  waitings c (slot ∷ slots) waiting = waitings c slots (waiting_after c slot waiting)

  unfoldable pub memories : List Slot → List V → List V
  memories [] memory = memory
  memories (slot ∷ slots) memory = memories slots (memory_after slot memory)

-- something, if there is something, by a function
abbrev pub turned : {A B : Type 0} → (A → B) → Option A → Option B
turned f None = None
turned f (Some a) = Some (f a)
