use Rattle.std.proofs.Common.{refl, arith}
use Rattle.std.proofs.lemmas.Bool.Decides.{nat_tests}
use Rattle.model.specs.Loop.{op}
use Rattle.model.specs.Plain.{operand_value, evaluate, result, perform, written, remembered, iteration, iterations}
use Rattle.model.specs.Issues.{issues_in, iteration_in, slots}
use Rattle.model.specs.Driving.{land, reserved, examine, issue, issue_all, cycle, run}
use Rattle.sharpness.proofs.nine_stages.Goals as goal
use Rattle.sharpness.proofs.Stages.{nine_stages}

pub returns : goal.returns
unfolding op operand_value evaluate result perform written remembered iteration iterations issues_in iteration_in slots land reserved examine issue issue_all cycle run
returns c = nine_stages _ (omega arith) (omega arith) (λ u r h. grind (arith, nat_tests)) refl (omega arith) refl refl
