-- Equal variables have the same value, and so the same tree, of which there is one.
use Rattle.std.proofs.Common.{◌≡◌, ◌∙◌, List, refl, sym, ap, subst}
use Rattle.oz_base.specs.declared.names.Ident.{Ident}
use Rattle.oz_semantics.specs.Store.{Same}
use Rattle.oz_semantics.specs.declared.value.Record.{Record}
use Rattle.oz_semantics.specs.declared.value.Tell.{Tell}
use Rattle.oz_laws.proofs.StoreLaws.{value_row}
use Rattle.text_laws.specs.Terms.{Term, Terms, simple, compound, beside}
use Rattle.print_law.specs.Trees.{IsTree, AreTrees, of_constant, of_record, no_trees, tree_beside}
use Rattle.print_law.specs.Laws.{OneTree}

module _ (view : List Tell) where
  pub tree_same : {x y : Ident} {t : Term} → Same view x y → IsTree view x t → IsTree view y t
  tree_same {x} {y} s (of_constant e) = of_constant (sym (value_row view x y s) ∙ e)
  tree_same {x} {y} s (of_record e hs) = of_record (sym (value_row view x y s) ∙ e) hs

  record_one : (r s : Record) (ts us : Terms) → r ≡ s → ts ≡ us → compound r.label r.features ts ≡ compound s.label s.features us
  record_one r s ts us e f = ap (λ (q : Record). compound q.label q.features ts) e ∙ ap (compound s.label s.features) f

  mutual
    one_tree : {x : Ident} {t u : Term} → IsTree view x t → IsTree view x u → t ≡ u
    one_tree (of_constant {c = c} e) (of_constant {c = d} f) = let k : c ≡ d = cc in ap simple k
    one_tree (of_constant e) (of_record f hs) = absurd (cc)
    one_tree (of_record e hs) (of_constant f) = absurd (cc)
    one_tree (of_record {r = r} {ts = ts} e hs) (of_record {r = s} {ts = us} f ks) =
        let k : r ≡ s = cc in
        record_one r s ts us k (one_row hs (subst (λ (q : Record). AreTrees view q.fields us) (sym k) ks))

    one_row : {xs : List Ident} {ts us : Terms} → AreTrees view xs ts → AreTrees view xs us → ts ≡ us
    one_row no_trees no_trees = refl
    one_row (tree_beside {ts = ts} h hs) (tree_beside {t = u} k ks) = ap (λ t. beside t ts) (one_tree h k) ∙ ap (beside u) (one_row hs ks)

pub only_tree : OneTree
only_tree view x t u h k = one_tree view h k
