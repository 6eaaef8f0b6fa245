use Rattle.std.proofs.Common.{◌≡◌, false, take, Contains}
use Rattle.oz_base.specs.declared.names.Ident.{Ident}
use Rattle.oz_semantics.specs.Store.{same}
use Rattle.watching.proofs.keys.Keys.any_equal.Given as goal

-- none that was passed is equal
abbrev pub invariant-keys : goal.invariant-keys
invariant-keys l = (k : Ident) → Contains (take l.place l.self.variables) k → same l.store k l.root ≡ false
