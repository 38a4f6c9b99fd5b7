-- What the slots of a row do to the lent files, to memory and to the lists of due writes, from a place on.
use Rattle.std.specs.Prelude.{◌≡◌, ℕ, ◌+◌, List}
use Rattle.model.specs.declared.Status.{Status}
use Rattle.model.specs.Domains.{Domain}
use Rattle.model.specs.Plain.{nought}
use Rattle.model.specs.Issues.{Slot}
use Rattle.engine_laws.specs.Parts.{statuses, waitings, memories}
use Rattle.engine_laws.specs.Dues.{Pending, Registers}
use Rattle.engine_writes.specs.declared.waiting.Waiting.{Waiting}
use Rattle.engine_writes.specs.Files.{value_file, waiting_file}

module _ {V : Type 0} (dom : Domain V) (values : List V) (p : ℕ) where
  -- The results of these slots begin to wait: the entries, and the lists for the next cycle.
  pub record Waited (memory : List V) (c file : ℕ) (slots : List Slot) (waiting : List (Waiting V)) (due : ℕ → List ℕ) (waiting' : List (Waiting V)) (due' : ℕ → List ℕ) : Type 0 where
    pub entries : waiting_file (nought dom) waiting' ≡ waitings dom (value_file (nought dom) values) memory p c slots (waiting_file (nought dom) waiting)
    pub registers : Registers due file → Registers due' file
    pub lists : (status : ℕ → Status) → Pending file (c + 1) status (waiting_file (nought dom) waiting) due →
        Pending file (c + 1) (statuses slots status) (waiting_file (nought dom) waiting') due'

  -- The stores of these slots write; what a slot would load does not matter to that.
  abbrev pub Stored : List Slot → List V → List V → Type 0
  Stored slots memory memory' = (cells : List V) → memory' ≡ memories dom (value_file (nought dom) values) cells p slots memory

  -- The same, for a row with some slots left to do.
  pub record WaitedSoFar (memory : List V) (c file : ℕ) (slots left : List Slot) (waiting : List (Waiting V)) (due : ℕ → List ℕ) (waiting' : List (Waiting V)) (due' : ℕ → List ℕ) : Type 0 where
    pub entries : waitings dom (value_file (nought dom) values) memory p c slots (waiting_file (nought dom) waiting) ≡
        waitings dom (value_file (nought dom) values) memory p c left (waiting_file (nought dom) waiting')
    pub registers : Registers due file → Registers due' file
    pub lists : (status : ℕ → Status) → Pending file (c + 1) status (waiting_file (nought dom) waiting) due →
        (now : ℕ → Status) × (Pending file (c + 1) now (waiting_file (nought dom) waiting') due' × (statuses slots status ≡ statuses left now))

  abbrev pub StoredSoFar : List Slot → List Slot → List V → List V → Type 0
  StoredSoFar slots left memory memory' =
      (cells : List V) → memories dom (value_file (nought dom) values) cells p slots memory ≡ memories dom (value_file (nought dom) values) cells p left memory'
