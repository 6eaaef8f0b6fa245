-- The nodes of a record's fields.
use Rattle.std.proofs.Common.{◌≡◌, ◌∙◌, ℕ, pos, Bool, true, false, List, [], ◌∷◌, ◌++◌, map, append_assoc, refl, ap, sym}
use Rattle.std.proofs.lemmas.List.{append-nil}
use Rattle.std.specs.Prelude.{if◌then◌else◌}
use Rattle.std.specs.List.{flat_map, zip}
use Rattle.oz_language.specs.Arities.{feature_lt, placed_field, in_arity_order}
use Rattle.oz_language.specs.Kernels.{Pattern, pieces, pieces_each}
use Rattle.oz_language.specs.Kernels as k
use Rattle.oz_language.specs.Translation.{labelled_or_literal, side_by_side, nil_constant, list_pattern, chain_pattern}
use Rattle.oz_language.specs.declared.token.Literal.{Literal}
use Rattle.oz_language.specs.declared.kernel.Constant.{Constant}
use Rattle.oz_language.specs.declared.kernel.Constant.TheVariants as constant
use Rattle.oz_language.specs.declared.kernel.Piece.{Piece}
use Rattle.oz_language.specs.declared.kernel.Piece.TheVariants as piece
use Rattle.kernel_patterns.specs.Nodes.{nodes_of, record_nodes, cell_node, cells_nodes, list_nodes, chain_nodes, codes_nodes}

pub flat_fields : (fs : List (Constant × List Piece)) →
    flat_map (λ (field : List Piece). field) (map (λ (f : Constant × List Piece). f.1) fs) ≡ flat_map (λ (f : Constant × List Piece). f.1) fs
flat_fields [] = refl
flat_fields (f ∷ fs) = ap (λ xs. f.1 ++ xs) (flat_fields fs)

-- Fields keep their features where what they have is changed

abbrev changed : {A B : Type 0} → (A → B) → List (Constant × A) → List (Constant × B)
changed h = map (λ f. (f.0, h f.1))

zip_changed : {A B : Type 0} (h : A → B) (ks : List Constant) (xs : List A) → zip ks (map h xs) ≡ changed h (zip ks xs)
zip_changed h [] xs = refl
zip_changed h (k ∷ ks) [] = refl
zip_changed h (k ∷ ks) (x ∷ xs) = ap (λ fs. (k, h x) ∷ fs) (zip_changed h ks xs)

placed_changed : {A B : Type 0} (h : A → B) (words : List (List ℕ)) (f : Constant × A) (gs : List (Constant × A)) →
    placed_field words (f.0, h f.1) (changed h gs) ≡ changed h (placed_field words f gs)
placed_changed h words f [] = refl
placed_changed h words f (g ∷ gs) = go (feature_lt words g.0 f.0) (placed_changed h words f gs)
  where
    go : (b : Bool) → placed_field words (f.0, h f.1) (changed h gs) ≡ changed h (placed_field words f gs) →
        (if b then (g.0, h g.1) ∷ placed_field words (f.0, h f.1) (changed h gs) else (f.0, h f.1) ∷ (g.0, h g.1) ∷ changed h gs)
        ≡ changed h (if b then g ∷ placed_field words f gs else f ∷ g ∷ gs)
    go true more = ap (λ fs. (g.0, h g.1) ∷ fs) more
    go false more = refl

order_changed : {A B : Type 0} (h : A → B) (words : List (List ℕ)) (fs : List (Constant × A)) →
    in_arity_order words (changed h fs) ≡ changed h (in_arity_order words fs)
order_changed h words [] = refl
order_changed h words (f ∷ fs) = ap (placed_field words (f.0, h f.1)) (order_changed h words fs) ∙ placed_changed h words f (in_arity_order words fs)

-- The nodes of patterns

features_kept : (fs : List (Constant × Pattern)) → map (λ (g : Constant × List Piece). g.0) (changed pieces fs) ≡ map (λ (g : Constant × Pattern). g.0) fs
features_kept [] = refl
features_kept (f ∷ fs) = ap (λ ks. f.0 ∷ ks) (features_kept fs)

beside_nodes : (fs : List (Constant × Pattern)) →
    flat_map (λ (g : Constant × List Piece). g.1) (changed pieces fs) ≡ pieces_each (side_by_side (map (λ (g : Constant × Pattern). g.1) fs))
beside_nodes [] = refl
beside_nodes (f ∷ fs) = ap (λ ps. pieces f.1 ++ ps) (beside_nodes fs)

labelled_nodes : (l : Literal) (fs : List (Constant × Pattern)) → record_nodes l (changed pieces fs) ≡ pieces (labelled_or_literal l fs)
labelled_nodes l [] = refl
labelled_nodes l (f ∷ fs) = ap (λ ks. piece.Record l ks ∷ flat_map (λ (g : Constant × List Piece). g.1) (changed pieces (f ∷ fs))) (features_kept (f ∷ fs))
    ∙ ap (λ ps. piece.Record l (map (λ (g : Constant × Pattern). g.0) (f ∷ fs)) ∷ ps) (beside_nodes (f ∷ fs))

-- the nodes of the fields, put in order, are those of the fields' patterns in order
pub ordered_nodes : (words : List (List ℕ)) (l : Literal) (ks : List Constant) (ps : List Pattern) →
    record_nodes l (in_arity_order words (zip ks (nodes_of ps))) ≡ pieces (labelled_or_literal l (in_arity_order words (zip ks ps)))
ordered_nodes words l ks ps =
    ap (λ fs. record_nodes l (in_arity_order words fs)) (zip_changed pieces ks ps)
    ∙ ap (record_nodes l) (order_changed pieces words (zip ks ps))
    ∙ labelled_nodes l (in_arity_order words (zip ks ps))

-- the nodes of the fields of a tuple, which are in order already
pub tuple_nodes : (l : Literal) (ks : List Constant) (ps : List Pattern) → record_nodes l (zip ks (nodes_of ps)) ≡ pieces (labelled_or_literal l (zip ks ps))
tuple_nodes l ks ps = ap (record_nodes l) (zip_changed pieces ks ps) ∙ labelled_nodes l (zip ks ps)

-- Cells

pub cells_more : (ps : List (List Piece)) (p : List Piece) → cells_nodes (ps ++ p ∷ []) ≡ cells_nodes ps ++ cell_node ∷ p
cells_more [] p = ap (λ q. cell_node ∷ q) (append-nil p)
cells_more (q ∷ ps) p = ap (λ r. cell_node ∷ q ++ r) (cells_more ps p) ∙ ap (λ r. cell_node ∷ r) (sym (append_assoc q (cells_nodes ps) _))

-- the nodes of a cell's pattern
cell_pieces : (p q : List Piece) → p ++ (q ++ []) ≡ p ++ q
cell_pieces p q = ap (λ r. p ++ r) (append-nil q)

pub list_nodes_of : (ps : List Pattern) → list_nodes (nodes_of ps) ≡ pieces (list_pattern ps)
list_nodes_of [] = refl
list_nodes_of (p ∷ ps) =
    ap (λ r. cell_node ∷ r) (append_assoc (pieces p) (cells_nodes (nodes_of ps)) _ ∙ ap (λ r. pieces p ++ r) (list_nodes_of ps) ∙ sym (cell_pieces (pieces p) (pieces (list_pattern ps))))

pub chain_nodes_of : (ps : List Pattern) → chain_nodes (nodes_of ps) ≡ pieces (chain_pattern ps)
chain_nodes_of [] = refl
chain_nodes_of (p ∷ []) = refl
chain_nodes_of (p ∷ q ∷ ps) =
    ap (λ r. cell_node ∷ pieces p ++ r) (chain_nodes_of (q ∷ ps)) ∙ ap (λ r. cell_node ∷ r) (sym (cell_pieces (pieces p) (pieces (chain_pattern (q ∷ ps)))))

pub chain_last : (ps : List (List Piece)) (p : List Piece) → chain_nodes (ps ++ p ∷ []) ≡ cells_nodes ps ++ p
chain_last [] p = refl
chain_last (q ∷ []) p = ap (λ r. cell_node ∷ r) (sym (append_assoc q [] p ∙ refl))
chain_last (q ∷ r ∷ ps) p = ap (λ s. cell_node ∷ q ++ s) (chain_last (r ∷ ps) p) ∙ ap (λ s. cell_node ∷ s) (sym (append_assoc q (cells_nodes (r ∷ ps)) p))

-- Strings

pub codes_more : (cs : List ℕ) (c : ℕ) → codes_nodes (cs ++ c ∷ []) ≡ codes_nodes cs ++ codes_nodes (c ∷ [])
codes_more [] c = refl
codes_more (d ∷ cs) c = ap (λ r. cell_node ∷ piece.Constant (constant.Int (pos d)) ∷ r) (codes_more cs c)

pub string_nodes : (cs : List ℕ) → codes_nodes cs ++ piece.Constant nil_constant ∷ [] ≡ pieces (list_pattern (map (λ (c : ℕ). k.constant (constant.Int (pos c))) cs))
string_nodes [] = refl
string_nodes (c ∷ cs) =
    ap (λ r. cell_node ∷ piece.Constant (constant.Int (pos c)) ∷ r) (string_nodes cs ∙ sym (append-nil _))
