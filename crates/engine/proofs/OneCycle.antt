-- A cycle of the program is a cycle of the machine.
use Rattle.std.proofs.Common.{◌≡◌, ℕ, ◌+◌, ◌-◌, ◌/◌, ◌%◌, List, length, get_or, replicate, Ok, Err, Option, sym, refl, ap, ◌∙◌, subst, arith}
use mathlib.Core.Path.{fun_ext}
use lib.ListN.{length-replicate}
use Rattle.model.specs.declared.Status.{Status}
use Rattle.model.specs.declared.Status.TheVariants.{Never}
use Rattle.model.specs.declared.Timing.{Timing}
use Rattle.model.specs.Domains.{Domain}
use Rattle.model.specs.Plain.{nought}
use Rattle.model.specs.Issues.{Slot, Form}
use Rattle.model.specs.Driving.{Machine, Examination, passed, failed, land, examine, settled, issue_all, cycle, finished}
use Rattle.model.specs.Codes.{CodeSlot, CodeRows, slot_in, form_of, gathered}
use Rattle.engine_laws.specs.Parts.{statuses, takens}
use Rattle.engine_laws.specs.Tracks.{Tracks}
use Rattle.engine_laws.specs.Rows.{slots_from, Examined}
use Rattle.engine_laws.specs.Dues.{Pending, Registers}
use Rattle.engine_laws.proofs.Apart.{gathered_map, in_parts, issued_in_parts}
use Rattle.engine_laws.proofs.Machines.{machine_same, examined_alike}
use Rattle.engine_slots.specs.declared.slot.Denial.{Denial}
use Rattle.engine.specs.declared.tables.Tables.{Tables}
use Rattle.engine_writes.specs.declared.waiting.Waiting.{Waiting}
use Rattle.engine_writes.specs.Files.{value_file, waiting_file, Done, LandsAll}
use Rattle.engine_slots.specs.Boards.{taken_in}
use Rattle.engine_writes.specs.Lists.{lists_of}
use Rattle.engine_slots.specs.Rows.{slot_at}
use Rattle.engine_writes.specs.Steps.{Waited, Stored}
use Rattle.engine.specs.Runs.{Left, Stands, Cycled}

-- The slots of a row, from its places in the code.
pub row_slots : (resolve : ℕ → ℕ → ℕ) (timings : List Timing) (rows : CodeRows) (issued : ℕ → ℕ → Option CodeSlot) (k c p r first end : ℕ) → c / k ≡ p → c % k ≡ r →
    rows p r ≡ gathered (issued p) first (end - first) → form_of resolve timings k rows c ≡ slots_from (slot_at resolve timings issued p) end first
row_slots resolve timings rows issued k c p r first end pass row is = rw (pass, row, is) (gathered_map (slot_in resolve timings p) (issued p) first (end - first))

-- What is due lands, and the lists are right for the next cycle.
pub landings : {V : Type 0} (dom : Domain V) (c file entries : ℕ) (m : Machine V) (memory values : List V) (waiting : List (Waiting V)) (t : Tables) →
    Stands dom file c m memory values waiting t → entries ≡ file → (status' : List Status) (values' : List V) (lists' : ℕ → List ℕ) →
    LandsAll c waiting t.board.statuses.status values entries (lists_of t.dues) status' values' lists' →
    ((r : ℕ) → Done c waiting t.board.statuses.status values status' values' (nought dom) r) ×
    Pending file (c + 1) (λ r. get_or status' r Never) (waiting_file (nought dom) waiting) lists'
landings dom c file entries m memory values waiting t stands same status' values' lists' lands =
    subst (λ n. LandsAll c waiting t.board.statuses.status values n (lists_of t.dues) status' values' lists') same lands (nought dom)
    (λ r waits. stands.pending r (sym (stands.follows.statuses r) ∙ waits))

module _ {V : Type 0} (dom : Domain V) (units : ℕ → ℕ) (k trips c file : ℕ) (form : Form) (slots : List Slot) (is : form c ≡ slots) (m : Machine V)
    (memory values : List V) (waiting : List (Waiting V)) (t : Tables) (stands : Stands dom file c m memory values waiting t)
    (status' : List Status) (values' : List V) (done : (r : ℕ) → Done c waiting t.board.statuses.status values status' values' (nought dom) r) where
  abbrev seen : Machine V
  seen = record {
    memory = memory;
    values = value_file (nought dom) values';
    waiting = waiting_file (nought dom) waiting;
    status = λ r. get_or status' r Never;
    taken = m.taken;
  }

  landed_values : (r : ℕ) → (land c m).values r ≡ value_file (nought dom) values' r
  unfolding land
  landed_values r = rw (stands.left.waiting, stands.left.values, sym (stands.follows.statuses r)) (sym (done r).1)

  landed_status : (r : ℕ) → (land c m).status r ≡ get_or status' r Never
  unfolding land
  landed_status r = rw (stands.left.waiting, sym (stands.follows.statuses r)) (sym (done r).0)

  landed : land c m ≡ seen
  unfolding land
  landed = machine_same (land c m) seen stands.left.memory (fun_ext landed_values) stands.left.waiting (fun_ext landed_status) refl

  tracks_seen : Tracks c status' (taken_in t.board.units) seen.status seen.taken
  tracks_seen = record { statuses = λ r. refl; units = stands.follows.units; beyond = stands.follows.beyond }

  abbrev bare : Machine ℕ
  bare = record {
    memory = replicate (length memory) 0;
    values = λ _. 0;
    waiting = λ _. record { due = 0; value = 0 };
    status = seen.status;
    taken = seen.taken;
  }

  module _ (p : ℕ) (pass : c / k ≡ p) (status'' : List Status) (taken'' : ℕ → ℕ → ℕ) (e : Examination)
      (examined : Examined units trips (length memory) p c slots status' (taken_in t.board.units) status'' taken'' e) where
    told : examine units k trips c 0 slots seen ≡ e
    told =
        examined_alike units k trips c slots 0 seen bare refl refl (sym (length-replicate (length memory) 0)) ∙
        (examined k bare pass (length-replicate (length memory) 0) tracks_seen).0

    cycled : cycle dom units k trips c (form c) m ≡ settled c e seen (issue_all dom k c slots seen seen)
    unfolding cycle
    cycled =
        ap (λ x. cycle dom units k trips c x m) is ∙
        ap (λ s. settled c (examine units k trips c 0 slots s) s (issue_all dom k c slots s s)) landed ∙
        ap (λ x. settled c x seen (issue_all dom k c slots seen seen)) told

    tracks_after : e ≡ passed → Tracks c status'' taken'' (statuses slots seen.status) (takens c slots seen.taken)
    tracks_after is = (examined k bare pass (length-replicate (length memory) 0) tracks_seen).1 is

  pub denied : (p : ℕ) → c / k ≡ p → (status'' : List Status) (taken'' : ℕ → ℕ → ℕ) (d : Denial) (t' : Tables) →
      Examined units trips (length memory) p c slots status' (taken_in t.board.units) status'' taken'' (failed d.question d.slot) →
      Cycled dom units trips file k c form m memory values' waiting t' (Err d)
  denied p pass status'' taken'' d t' examined = (
    seen,
    (
      cycled p pass status'' taken'' (failed d.question d.slot) examined,
      (record { memory = refl; values = refl; waiting = refl }, λ none. let z : ◌≡◌ {A = ℕ} 0 1 = cc in absurd (omega arith)),
    ),
  )

  pub admitted : (p : ℕ) → c / k ≡ p → (status'' : List Status) (taken'' : ℕ → ℕ → ℕ) (memory'' : List V) (waiting'' : List (Waiting V)) (lists' : ℕ → List ℕ) (t' : Tables) →
      Examined units trips (length memory) p c slots status' (taken_in t.board.units) status'' taken'' passed →
      Pending file (c + 1) (λ r. get_or status' r Never) (waiting_file (nought dom) waiting) lists' →
      Registers lists' file →
      Waited dom values' p memory c file slots waiting lists' waiting'' (lists_of t'.dues) →
      Stored dom values' p slots memory memory'' →
      ((s : ℕ → Status) (x : ℕ → ℕ → ℕ) → Tracks c status'' taken'' s x → Tracks (c + 1) t'.board.statuses.status (taken_in t'.board.units) s x) →
      Cycled dom units trips file k c form m memory'' values' waiting'' t' (Ok tt)
  admitted p pass status'' taken'' memory'' waiting'' lists' t' examined pending registers waited stored next =
      let now = in_parts dom k c seen slots seen in
      let left : Left dom now memory'' values' waiting'' = record {
        memory = rw pass (sym (stored memory));
        values = refl;
        waiting = rw pass (sym waited.entries);
      } in (
        now,
        (
          cycled p pass status'' taken'' passed examined ∙ ap finished (issued_in_parts dom k c seen slots seen),
          (
            left,
            λ none. record {
              left = left;
              follows = next (statuses slots seen.status) (takens c slots seen.taken) (tracks_after p pass status'' taken'' passed examined refl);
              pending = waited.lists seen.status pending;
              registers = waited.registers registers;
            },
          ),
        ),
      )
