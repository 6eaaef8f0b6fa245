-- Terms as they are read, node by node.
use Rattle.std.specs.Prelude.{◌++◌, Option, Some, None, option_map}
use Rattle.oz_semantics.specs.Terms.{Node, leaf, branch, Term}
use Rattle.oz_semantics.specs.declared.value.Value.{Value}
use Rattle.oz_semantics.specs.declared.value.Value.TheVariants as value

-- the node of a value, without its fields
abbrev pub node_in : Value → Option Node
node_in (value.Constant c) = Some (leaf c)
node_in (value.Record r) = Some (branch r.label r.features)
node_in (value.Name n) = None
node_in (value.Procedure p) = None
node_in (value.Builtin b) = None
node_in (value.Cell c) = None
node_in (value.Port p) = None
node_in (value.Space s) = None

-- these nodes, and then those that are read
abbrev pub behind_all : Term → Option Term → Option Term
behind_all nodes rest = option_map (λ more. nodes ++ more) rest
