-- What propagators wait for.
use Rattle.std.specs.Prelude.{◌&&◌, Bool, List}
use Rattle.std.specs.List.{list_any}
use Rattle.oz_base.specs.declared.names.Ident.{Ident}
use Rattle.oz_semantics.specs.Store.{View}
use Rattle.oz_semantics.specs.Propagation.{is_undecided}
use Rattle.oz_semantics.specs.Spaces.{is_held}
use Rattle.oz_semantics.specs.declared.configuration.Propagator.{Propagator}

-- a propagator is undecided, and one of its variables is equal to one of these
abbrev pub undecided_waits : View → List Ident → Propagator → Bool
undecided_waits view held p = is_undecided view p && list_any (is_held view held) p.variables
