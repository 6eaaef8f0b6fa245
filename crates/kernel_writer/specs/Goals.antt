-- The goal of the translation that a goal of the code stands for.
use Rattle.oz_language.specs.Translation.{Goal, statement, value}
use Rattle.kernel_writer.specs.declared.goals.Goal.{Goal as Sort}
use Rattle.kernel_writer.specs.declared.goals.Goal.TheVariants as goal

abbrev pub goal_of : Sort → Goal
goal_of goal.Statement = statement
goal_of (goal.Value x) = value x
