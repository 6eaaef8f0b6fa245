use Rattle.std.proofs.Common.{◌≡◌, ◌+◌, ◌++◌, drop}
use Rattle.oz_replies.specs.Replies.{leaf_lines}
use Rattle.reply_text.proofs.reply.add_leaf_lines.Given as goal

-- what was written so far, and then the lines of the other leaves
abbrev pub invariant-loop-leaf : goal.invariant-loop-leaf
invariant-loop-leaf l = record {
  number : l.number ≡ l.leaf-index + 1;
  lines : l.out.items ++ leaf_lines l.number (drop l.leaf-index l.leaves) ≡ l.initial.out.items ++ leaf_lines 1 l.leaves;
}
