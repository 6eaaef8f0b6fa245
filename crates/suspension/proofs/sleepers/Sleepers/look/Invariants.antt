use Rattle.std.proofs.Common.{◌≡◌, ◌&&◌, false, take, Contains}
use Rattle.oz_base.specs.declared.names.Ident.{Ident}
use Rattle.oz_semantics.specs.Store.{same}
use Rattle.suspension.specs.Changes.{is_key}
use Rattle.suspension.proofs.sleepers.Sleepers.look.Given as goal

-- none that was passed is a key that is equal
abbrev pub invariant-keys : goal.invariant-keys
invariant-keys l = (k : Ident) → Contains (take l.place l.self.variables) k → (is_key l.self k && same l.store l.variable k) ≡ false
