-- What stands, as the definitions have it.
use Rattle.std.specs.Prelude.{List, [], map, Some, None, vec_items, Option}
use Rattle.model.specs.MachineText as texts
use Rattle.model.specs.Listing as listings
use Rattle.bounds.specs.Answers.{evidence}
use Rattle.texts.specs.declared.machine.Machine.{Machine as OwnMachine}
use Rattle.texts.specs.Records.{machine_seen}
use Rattle.dependence.specs.Loops.{loop_seen}
use Rattle.schedule.specs.declared.Scheduled.{Scheduled}
use Rattle.schedule.specs.Answers.{schedule_of}
use Rattle.listing.specs.declared.listing.Listing.{Listing as OwnListing}
use Rattle.listing.specs.Views.{slot_seen}
use Rattle.guarantee.specs.Calls as calls
use Rattle.guarantee.specs.Calls.{Planned, nothing, with_machine, with_loop, with_plan, with_listing}
use Rattle.standing.specs.declared.plan.Body.{Body}
use Rattle.standing.specs.declared.plan.Plan.{Plan}
use Rattle.standing.specs.declared.standing.Standing.{Standing}
use Rattle.standing.specs.declared.standing.Standing.TheVariants.{Nothing, Machine, Loop, Plan as PlanStands, Listing}

abbrev pub planned_seen : Scheduled → Planned
planned_seen p = record {
  minimum = p.minimum.value;
  evidence = evidence p.minimum.witness;
  schedule = schedule_of p;
  steps = p.steps;
  stages = p.choice.stages;
  turns = p.choice.turns;
}

abbrev pub body_seen : Body → calls.Body
body_seen b = record { machine = machine_seen b.machine; ops = loop_seen b.source }

abbrev pub plan_seen : Plan → calls.PlannedBody Planned
plan_seen p = record { machine = machine_seen p.body.machine; ops = loop_seen p.body.source; plan = planned_seen p.scheduled }

abbrev pub standing_seen : Standing → calls.Standing Planned
standing_seen Nothing = nothing
standing_seen (Machine m) = with_machine (machine_seen m)
standing_seen (Loop b) = with_loop (machine_seen b.machine) (loop_seen b.source)
standing_seen (PlanStands p) = with_plan (machine_seen p.body.machine) (loop_seen p.body.source) (planned_seen p.scheduled)
standing_seen (Listing p trips) = with_listing (machine_seen p.body.machine) (loop_seen p.body.source) (planned_seen p.scheduled) trips

-- the slots of the listing that stands
abbrev pub slots_held : Standing → OwnListing → List listings.Slot
slots_held Nothing l = []
slots_held (Machine m) l = []
slots_held (Loop b) l = []
slots_held (PlanStands p) l = []
slots_held (Listing p trips) l = map slot_seen (vec_items l.rows.slots)

-- what stands of each kind, if it does
abbrev pub machine_known : Option OwnMachine → Option texts.Machine
machine_known None = None
machine_known (Some m) = Some (machine_seen m)

abbrev pub body_known : Option Body → Option calls.Body
body_known None = None
body_known (Some b) = Some (body_seen b)

abbrev pub plan_known : Option Plan → Option (calls.PlannedBody Planned)
plan_known None = None
plan_known (Some p) = Some (plan_seen p)
