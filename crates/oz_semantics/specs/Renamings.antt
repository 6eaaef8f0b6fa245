-- Renaming what is in spaces, each kind of name by itself (Schulte 4).
use Rattle.std.specs.Prelude.{ℕ, List, map}
use Rattle.oz_base.specs.declared.names.Ident.{Ident}
use Rattle.environments.specs.Environments.{renamed}
use Rattle.oz_semantics.specs.declared.value.Value.{Value}
use Rattle.oz_semantics.specs.declared.value.Value.TheVariants as value
use Rattle.oz_semantics.specs.declared.value.Tell.{Tell}
use Rattle.oz_semantics.specs.declared.value.Tell.TheVariants.{Equal, Is, Within}
use Rattle.oz_semantics.specs.declared.configuration.Code.{Code}
use Rattle.oz_semantics.specs.declared.configuration.Code.TheVariants as code
use Rattle.oz_semantics.specs.declared.configuration.Frame.{Frame}
use Rattle.oz_semantics.specs.declared.configuration.Thread.{Thread}
use Rattle.oz_semantics.specs.declared.configuration.Trigger.{Trigger}
use Rattle.oz_semantics.specs.declared.configuration.Propagator.{Propagator}
use Rattle.oz_semantics.specs.declared.configuration.Status.{Status}
use Rattle.oz_semantics.specs.declared.configuration.Status.TheVariants as status
use Rattle.oz_semantics.specs.declared.configuration.Layer.{Layer}

-- where the names of each kind go
pub record Renaming : Type 0 where
  pub variable : Ident → Ident
  pub procedure : Ident → Ident
  pub name : Ident → Ident
  pub cell : Ident → Ident
  pub port : Ident → Ident
  pub space : List ℕ → List ℕ

abbrev pub renamed_value : Renaming → Value → Value
renamed_value r (value.Constant c) = value.Constant c
renamed_value r (value.Name n) = value.Name (r.name n)
renamed_value r (value.Record w) = value.Record (record w { fields = map r.variable w.fields })
renamed_value r (value.Procedure p) = value.Procedure (record p { name = r.procedure p.name; environment = renamed r.variable p.environment })
renamed_value r (value.Builtin b) = value.Builtin b
renamed_value r (value.Cell c) = value.Cell (r.cell c)
renamed_value r (value.Port p) = value.Port (r.port p)
renamed_value r (value.Space s) = value.Space (r.space s)

abbrev pub renamed_tell : Renaming → Tell → Tell
renamed_tell r (Equal x y) = Equal (r.variable x) (r.variable y)
renamed_tell r (Is x v) = Is (r.variable x) (renamed_value r v)
renamed_tell r (Within x is) = Within (r.variable x) is

abbrev pub renamed_code : Renaming → Code → Code
renamed_code r (code.Statement n) = code.Statement n
renamed_code r (code.Call p x) = code.Call (r.variable p) (r.variable x)
renamed_code r (code.Bind x n) = code.Bind (r.variable x) n
renamed_code r (code.Mark exception handler) = code.Mark exception handler

abbrev pub renamed_frame : Renaming → Frame → Frame
renamed_frame r f = record { code = renamed_code r f.code; environment = renamed r.variable f.environment }

abbrev pub renamed_thread : Renaming → Thread → Thread
renamed_thread r t = record t { frames = map (renamed_frame r) t.frames }

abbrev pub renamed_trigger : Renaming → Trigger → Trigger
renamed_trigger r t = record { procedure = r.variable t.procedure; variable = r.variable t.variable }

abbrev pub renamed_propagator : Renaming → Propagator → Propagator
renamed_propagator r p = record p { variables = map r.variable p.variables }

abbrev pub renamed_status : Renaming → Status → Status
renamed_status r status.Open = status.Open
renamed_status r status.Failed = status.Failed
renamed_status r (status.Raised x) = status.Raised (r.variable x)
renamed_status r status.Merged = status.Merged

-- a layer under the new names; what is in it keeps its numbers
abbrev pub renamed_layer : Renaming → Layer → Layer
renamed_layer r l =
    record l {
      space = r.space l.space;
      status = renamed_status r l.status;
      tells = map (renamed_tell r) l.tells;
      threads = map (renamed_thread r) l.threads;
      triggers = map (renamed_trigger r) l.triggers;
      propagators = map (renamed_propagator r) l.propagators;
      cells = map r.variable l.cells;
      ports = map r.variable l.ports;
    }
