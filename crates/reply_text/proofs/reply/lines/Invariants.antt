use Rattle.std.proofs.Common.{◌≡◌, ◌++◌, drop}
use Rattle.std.specs.List.{flat_map}
use Rattle.oz_replies.specs.Replies.{line}
use Rattle.reply_text.proofs.reply.lines.Given as goal

-- the lines so far, and then those of the other texts
abbrev pub invariant-texts : goal.invariant-texts
invariant-texts l = l.lines.items ++ flat_map line (drop l.place l.texts) ≡ flat_map line l.texts
