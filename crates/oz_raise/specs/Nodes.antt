-- The terms that the code makes, as those of the definitions.
use Rattle.std.specs.Prelude.{List, map}
use Rattle.oz_semantics.specs.Terms.{Node, leaf, branch, Term}
use Rattle.oz_raise.specs.declared.node.Node as nodes
use Rattle.oz_raise.specs.declared.node.Node.TheVariants.{Leaf, Branch}

abbrev pub node_of : nodes.Node → Node
node_of (Leaf constant) = leaf constant
node_of (Branch label features) = branch label features

abbrev pub term_of : List nodes.Node → Term
term_of nodes = map node_of nodes
