use Rattle.std.proofs.Common.{◌≡◌, ◌≤◌}
use Rattle.oz_semantics.specs.Runs.{run}
use Rattle.oz_machine.specs.declared.course.Due.TheVariants.{Nobody}
use Rattle.oz_machine.specs.Answers.{IsAfterTurns}
use Rattle.oz_machine.specs.Courses.{config_of, Keeps}
use Rattle.oz_machine.specs.Asleep.{Sleeps}
use Rattle.oz_machine.specs.Quiet.{IsHeadAnswer}
use Rattle.oz_machine.proofs.runs.run_turns.Given as goal

abbrev pub invariant-turns : goal.invariant-turns
invariant-turns l = record {
  within : l.left ≤ l.fuel;
  kept : Keeps l.kernel.statements l.kept l.course;
  same : run l.kernel l.space (config_of l.kernel.statements l.course) l.left ≡ run l.kernel l.space (config_of l.kernel.statements l.fn.course) l.fuel;
  after : IsAfterTurns l.kernel (config_of l.kernel.statements l.fn.course) (config_of l.kernel.statements l.course);
  asleep : Sleeps l.kernel.statements l.sleeping l.course;
  due : l.course.due ≡ Nobody;
  answered : IsHeadAnswer l.kernel.statements l.course.levels l.course.queue l.answered;
}

abbrev pub decreases-turns : goal.decreases-turns
decreases-turns l = l.left
