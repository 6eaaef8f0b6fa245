-- What is open counts for no more where an operand ends an expression before it.
use Rattle.std.proofs.Common.{◌≤◌, ◌+◌, List, [], ◌∷◌, arith}
use Rattle.oz_language.specs.Refusals.{Open, depth_of, innermost, at_operand}

operand_lighter : (o : Open) → (at_operand o).weight + (at_operand o).operators ≤ o.weight + o.operators
operand_lighter o = grind arith

pub operand_no_deeper : (os : List Open) → depth_of (innermost at_operand os) ≤ depth_of os
operand_no_deeper [] = omega arith
operand_no_deeper (o ∷ os) = let lighter = operand_lighter o in omega (arith, lighter)
