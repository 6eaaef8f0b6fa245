-- Reading a term, node by node.
use Rattle.std.proofs.Common.{◌≡◌, ℕ, zero, suc, ◌+◌, ◌-◌, ◌<◌, ◌≤◌, List, [], ◌∷◌, ◌++◌, drop, length, get_or, Option, Some, None, refl, sym, ap, ◌∙◌, append_assoc, arith}
use Rattle.std.proofs.lemmas.List.{append-nil, drop_more, drop_all, drop-append-le, map_push}
use Rattle.oz_base.specs.declared.names.Ident.{Ident}
use Rattle.environments.specs.Environments.{nowhere}
use Rattle.oz_semantics.specs.Values.{fields_of}
use Rattle.oz_semantics.specs.Store.{View, value_of}
use Rattle.oz_semantics.specs.Terms.{Node, Term, with_node, read_value, read_terms}
use Rattle.oz_semantics.specs.declared.value.Value.{Value}
use Rattle.oz_semantics.specs.declared.value.Value.TheVariants as value
use Rattle.oz_raise.specs.declared.node.Node as nodes
use Rattle.oz_raise.specs.Nodes.{node_of, term_of}
use Rattle.operations.specs.Reading.{node_in, behind_all}

-- a node, if there is one, and what follows
abbrev node_then : Option Node → Option Term → Option Term
node_then None rest = None
node_then (Some node) rest = with_node node rest

node_read : (next : List Ident → Option Term) (v : Value) → read_value next (Some v) ≡ node_then (node_in v) (next (fields_of v))
node_read next (value.Constant c) = refl
node_read next (value.Record r) = refl
node_read next (value.Name n) = refl
node_read next (value.Procedure p) = refl
node_read next (value.Builtin b) = refl
node_read next (value.Cell c) = refl
node_read next (value.Port p) = refl
node_read next (value.Space s) = refl

-- what is read of the first of some variables
first_read : (view : View) (n : ℕ) (x : Ident) (xs : List Ident) → read_terms view (suc n) (x ∷ xs) ≡ read_value (λ fields. read_terms view n (xs ++ fields)) (value_of view x)
unfolding read_terms
first_read view n x xs = refl

pub none_left : (view : View) (n : ℕ) → read_terms view n [] ≡ Some []
unfolding read_terms
none_left view n = refl

pub too_many : (view : View) (x : Ident) (xs : List Ident) → read_terms view zero (x ∷ xs) ≡ None
unfolding read_terms
too_many view x xs = refl

regrouped : (nodes : Term) (node : Node) (rest : Option Term) → behind_all nodes (with_node node rest) ≡ behind_all (nodes ++ node ∷ []) rest
regrouped nodes node None = refl
regrouped nodes node (Some more) = ap (λ ns. Some ns) (sym (append_assoc nodes (node ∷ []) more))

-- Where the first of the variables has a value

read_of : (view : View) (n : ℕ) (x : Ident) (xs : List Ident) (v : Value) → value_of view x ≡ Some v
    → read_terms view (suc n) (x ∷ xs) ≡ node_then (node_in v) (read_terms view n (xs ++ fields_of v))
read_of view n x xs v e =
    first_read view n x xs ∙ ap (read_value (λ fields. read_terms view n (xs ++ fields))) e ∙ node_read (λ fields. read_terms view n (xs ++ fields)) v

pub read_node : (view : View) (n : ℕ) (x : Ident) (xs : List Ident) (v : Value) (node : Node) (nodes : Term) → value_of view x ≡ Some v → node_in v ≡ Some node
    → behind_all nodes (read_terms view (suc n) (x ∷ xs)) ≡ behind_all (nodes ++ node ∷ []) (read_terms view n (xs ++ fields_of v))
read_node view n x xs v node nodes e k =
    ap (behind_all nodes) (read_of view n x xs v e ∙ ap (λ o. node_then o (read_terms view n (xs ++ fields_of v))) k) ∙ regrouped nodes node (read_terms view n (xs ++ fields_of v))

pub read_no_node : (view : View) (n : ℕ) (x : Ident) (xs : List Ident) (v : Value) (nodes : Term) → value_of view x ≡ Some v → node_in v ≡ None
    → behind_all nodes (read_terms view (suc n) (x ∷ xs)) ≡ None
read_no_node view n x xs v nodes e k = ap (behind_all nodes) (read_of view n x xs v e ∙ ap (λ o. node_then o (read_terms view n (xs ++ fields_of v))) k)

pub read_no_value : (view : View) (n : ℕ) (x : Ident) (xs : List Ident) (nodes : Term) → value_of view x ≡ None → behind_all nodes (read_terms view (suc n) (x ∷ xs)) ≡ None
read_no_value view n x xs nodes e = ap (behind_all nodes) (first_read view n x xs ∙ ap (read_value (λ fields. read_terms view n (xs ++ fields))) e)

-- Place by place

at_place : (xs : List Ident) (i : ℕ) (x : Ident) → i < length xs → x ≡ get_or xs i x → drop i xs ≡ x ∷ drop (i + 1) xs
at_place xs i x h here = drop_more xs i x h ∙ ap (λ y. y ∷ drop (i + 1) xs) (sym here)

left_by : (n i : ℕ) → i < n → n - i ≡ suc (n - (i + 1))
left_by n i h = omega arith

abbrev pub read_from : View → ℕ → ℕ → Term → List Ident → Option Term
read_from view n i nodes xs = behind_all nodes (read_terms view (n - i) (drop i xs))

-- the variable at a place, where it is within the limit
here_read : (view : View) (n i : ℕ) (nodes : Term) (xs : List Ident) (x : Ident) → i < n → i < length xs → x ≡ get_or xs i x
    → read_from view n i nodes xs ≡ behind_all nodes (read_terms view (suc (n - (i + 1))) (x ∷ drop (i + 1) xs))
here_read view n i nodes xs x k h here =
    ap (λ m. behind_all nodes (read_terms view m (drop i xs))) (left_by n i k) ∙ ap (λ ys. behind_all nodes (read_terms view (suc (n - (i + 1))) ys)) (at_place xs i x h here)

pub place_read : (view : View) (n i : ℕ) (nodes : Term) (xs : List Ident) (x : Ident) (whole : Option Term) (v : Value) (node : Node) → i < n → i < length xs → x ≡ get_or xs i x
    → read_from view n i nodes xs ≡ whole → value_of view x ≡ Some v → node_in v ≡ Some node
    → behind_all (nodes ++ node ∷ []) (read_terms view (n - (i + 1)) (drop (i + 1) xs ++ fields_of v)) ≡ whole
place_read view n i nodes xs x whole v node k h here so e m =
    sym (read_node view (n - (i + 1)) x (drop (i + 1) xs) v node nodes e m) ∙ sym (here_read view n i nodes xs x k h here) ∙ so

pub place_no_value : (view : View) (n i : ℕ) (nodes : Term) (xs : List Ident) (x : Ident) (whole : Option Term) → i < n → i < length xs → x ≡ get_or xs i x
    → read_from view n i nodes xs ≡ whole → value_of view x ≡ None → None ≡ whole
place_no_value view n i nodes xs x whole k h here so e = sym (read_no_value view (n - (i + 1)) x (drop (i + 1) xs) nodes e) ∙ sym (here_read view n i nodes xs x k h here) ∙ so

pub place_no_node : (view : View) (n i : ℕ) (nodes : Term) (xs : List Ident) (x : Ident) (whole : Option Term) (v : Value) → i < n → i < length xs → x ≡ get_or xs i x
    → read_from view n i nodes xs ≡ whole → value_of view x ≡ Some v → node_in v ≡ None → None ≡ whole
place_no_node view n i nodes xs x whole v k h here so e m =
    sym (read_no_node view (n - (i + 1)) x (drop (i + 1) xs) v nodes e m) ∙ sym (here_read view n i nodes xs x k h here) ∙ so

-- no variable is left
pub all_read : (view : View) (n i : ℕ) (nodes : Term) (xs : List Ident) (whole : Option Term) → length xs ≤ i → read_from view n i nodes xs ≡ whole → Some nodes ≡ whole
all_read view n i nodes xs whole h so =
    ap (λ ns. Some ns) (sym (append-nil nodes)) ∙ ap (behind_all nodes) (sym (none_left view (n - i))) ∙ ap (λ ys. behind_all nodes (read_terms view (n - i) ys)) (sym (drop_all i xs h)) ∙ so

-- one is left, and the limit is reached
pub limit_reached : (view : View) (n i : ℕ) (nodes : Term) (xs : List Ident) (whole : Option Term) → i ≡ n → n < length xs → read_from view n i nodes xs ≡ whole → None ≡ whole
limit_reached view n i nodes xs whole e h so =
    let within : i < length xs = omega (arith, e, h) in
    let none : zero ≡ n - i = omega (arith, e) in
    ap (behind_all nodes) (sym (too_many view (get_or xs i nowhere) (drop (i + 1) xs)))
    ∙ ap (λ ys. behind_all nodes (read_terms view zero ys)) (sym (drop_more xs i nowhere within))
    ∙ ap (λ m. behind_all nodes (read_terms view m (drop i xs))) none ∙ so

-- one node more, and its fields behind what is left
pub read_more : (view : View) (n i : ℕ) (nodes : Term) (xs : List Ident) (x : Ident) (whole : Option Term) (v : Value) (node : Node) → i < n → i < length xs → x ≡ get_or xs i x
    → read_from view n i nodes xs ≡ whole → value_of view x ≡ Some v → node_in v ≡ Some node → (ns : Term) (ys : List Ident) → ns ≡ nodes ++ node ∷ [] → ys ≡ xs ++ fields_of v
    → read_from view n (i + 1) ns ys ≡ whole
read_more view n i nodes xs x whole v node k h here so e m ns ys a b =
    let past : i + 1 ≤ length xs = omega (arith, h) in
    ap (λ t. read_from view n (i + 1) t ys) a ∙ ap (λ zs. read_from view n (i + 1) (nodes ++ node ∷ []) zs) b
    ∙ ap (λ zs. behind_all (nodes ++ node ∷ []) (read_terms view (n - (i + 1)) zs)) (drop-append-le (i + 1) xs (fields_of v) past)
    ∙ place_read view n i nodes xs x whole v node k h here so e m

-- the nodes that are pushed, as those of the definition
pub pushed_nodes : (old new : List nodes.Node) (n : nodes.Node) → new ≡ old ++ n ∷ [] → term_of new ≡ term_of old ++ node_of n ∷ []
pushed_nodes old new n e = ap term_of e ∙ map_push node_of old n
