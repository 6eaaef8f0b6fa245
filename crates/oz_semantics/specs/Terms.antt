-- Finite terms of integers, literals and records (CTM 2.3), as they are told to a space, and read from what it sees.
use Rattle.std.specs.Prelude.{ℕ, zero, suc, ◌+◌, pos, List, [], ◌∷◌, ◌++◌, length, map, Option, Some, None, option_map}
use Rattle.std.specs.List.{range_with_len}
use Rattle.oz_base.specs.declared.names.Ident.{Ident}
use Rattle.oz_semantics.specs.Names.{named}
use Rattle.oz_semantics.specs.Store.{View, value_of}
use Rattle.oz_language.specs.Wording.{given_atom, nil_word, bar_word}
use Rattle.oz_language.specs.declared.token.Literal.{Literal}
use Rattle.oz_language.specs.declared.token.Literal.TheVariants.{Atom}
use Rattle.oz_language.specs.declared.kernel.Constant.{Constant}
use Rattle.oz_language.specs.declared.kernel.Constant.TheVariants as constant
use Rattle.oz_semantics.specs.declared.value.Value.{Value}
use Rattle.oz_semantics.specs.declared.value.Value.TheVariants as value
use Rattle.oz_semantics.specs.declared.value.Tell.{Tell}
use Rattle.oz_semantics.specs.declared.value.Tell.TheVariants.{Is}

-- a node of a term, without its fields
pub data Node : Type 0 where
  leaf : Constant → Node
  branch : Literal → List Constant → Node

-- A term as the list of its nodes level by level: the fields of each node come behind those of the nodes before it.
abbrev pub Term : Type 0
Term = List Node

abbrev pub just_constant : Constant → Term
just_constant c = leaf c ∷ []

abbrev pub just_atom : List ℕ → Term
just_atom text = just_constant (constant.Literal (given_atom text))

-- a node with the features 1 to n
abbrev pub tuple_node : Literal → ℕ → Node
tuple_node label n = branch label (map (λ i. constant.Int (pos i)) (range_with_len 1 n))

-- l(T), by its one field
abbrev pub around : List ℕ → Term → Term
around label t = tuple_node (given_atom label) 1 ∷ t

-- the list of these
abbrev pub list_term : List Constant → Term
list_term [] = just_constant (constant.Literal (Atom nil_word))
list_term (c ∷ cs) = tuple_node (Atom bar_word) 2 ∷ leaf c ∷ list_term cs

-- Told

abbrev pub width : Node → ℕ
width (leaf c) = 0
width (branch l fs) = length fs

-- the value of a node whose fields are the variables of the space from number n on
abbrev pub node_value : List ℕ → ℕ → Node → Value
node_value space n (leaf c) = value.Constant c
node_value space n (branch l fs) = value.Record (record { label = l; features = fs; fields = map (named space) (range_with_len n (length fs)) })

-- the nodes are the variables from number k on, and their fields those from n on
abbrev pub level_tells : List ℕ → ℕ → ℕ → Term → List Tell
level_tells space k n [] = []
level_tells space k n (node ∷ nodes) = Is (named space k) (node_value space n node) ∷ level_tells space (k + 1) (n + width node) nodes

-- x is this term, by variables of the space from number n on, one for each node but the first
abbrev pub term_tells : List ℕ → ℕ → Ident → Term → List Tell
term_tells space n x [] = []
term_tells space n x (node ∷ nodes) = Is x (node_value space n node) ∷ level_tells space n (n + width node) nodes

abbrev pub nodes_inside : Term → ℕ
nodes_inside [] = 0
nodes_inside (node ∷ nodes) = length nodes

-- Read

abbrev pub with_node : Node → Option Term → Option Term
with_node node rest = option_map (λ nodes. node ∷ nodes) rest

-- a value, and then what follows with its fields
abbrev pub read_value : (List Ident → Option Term) → Option Value → Option Term
read_value next (Some (value.Constant c)) = with_node (leaf c) (next [])
read_value next (Some (value.Record r)) = with_node (branch r.label r.features) (next r.fields)
read_value next (Some (value.Name n)) = None
read_value next (Some (value.Procedure p)) = None
read_value next (Some (value.Builtin b)) = None
read_value next (Some (value.Cell c)) = None
read_value next (Some (value.Port p)) = None
read_value next (Some (value.Space s)) = None
read_value next None = None

-- the terms of these variables, level by level, where they have at most so many nodes and nothing else than such values; a term that
-- comes back to itself has more nodes than any number
unfoldable pub read_terms : View → ℕ → List Ident → Option Term
read_terms view n [] = Some []
read_terms view zero (x ∷ xs) = None
read_terms view (suc n) (x ∷ xs) = read_value (λ fields. read_terms view n (xs ++ fields)) (value_of view x)

-- the term of x, where it has at most so many nodes
abbrev pub read_term : View → ℕ → Ident → Option Term
read_term view n x = read_terms view n (x ∷ [])
