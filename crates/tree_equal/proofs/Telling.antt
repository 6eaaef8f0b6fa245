-- What a copy of the store answers to an equation.
use Rattle.std.proofs.Common.{◌≡◌, ◌∙◌, true, false, List, [], ◌∷◌, ◌++◌, filter, sym, ap, ap₂, subst}
use Rattle.oz_base.specs.declared.names.Ident.{Ident}
use Rattle.oz_laws.specs.Touched.{Touches}
use Rattle.oz_semantics.specs.Entailment as entailment
use Rattle.oz_semantics.specs.Entailment.{equated, equality}
use Rattle.oz_semantics.specs.Store.{is_consistent}
use Rattle.oz_semantics.specs.declared.value.Tell.{Tell}
use Rattle.oz_semantics.specs.declared.value.Tell.TheVariants.{Equal}
use Rattle.term_store.specs.Classes.{Table, IsPartition}
use Rattle.term_store.specs.Telling.{Notes, IsTold}
use Rattle.tree_equal.specs.Answers.{IsEquality, unless}
use Rattle.tree_equal.specs.Grown.{awaits}
use Rattle.tree_equal.proofs.Affecting.{contradicted}
use Rattle.tree_equal.proofs.Touching.{found}

module _ (ts old new tells : List Tell) (x y : Ident) (before after : List Ident) (view : old ≡ ts) (told : tells ≡ Equal x y ∷ []) where
  whole : old ++ tells ≡ equated ts x y
  whole = ap₂ (λ us vs. us ++ vs) view told

  pub clashes : IsTold old tells new before after false → equality ts x y ≡ entailment.Contradicted
  clashes h = contradicted ts x y (sym (ap is_consistent whole) ∙ h.1)

  -- none was noted before
  noted : (n : Notes old tells before after) → before ≡ [] → n.more ≡ after
  noted n none = sym (n.noted ∙ ap (λ xs. xs ++ n.more) none)

  touches : Notes old tells before after → before ≡ [] → Touches ts (Equal x y ∷ []) after
  touches n none = subst (λ us. Touches us (Equal x y ∷ []) after) view (subst (λ us. Touches old us after) told (subst (Touches old tells) (noted n none) n.touches))

  pub waits : (t : Table) (ws : List Ident) → before ≡ [] → IsTold old tells new before after true → IsPartition new t → ws ≡ filter (awaits ts t after) after → IsEquality ts (equality ts x y) (unless ws)
  waits t ws none h part is =
      subst (λ us. IsEquality ts (equality ts x y) (unless us)) (sym is)
      (found ts x y t after (subst (λ us. IsPartition us t) (h.0 ∙ whole) part) (touches h.2 none) (sym (ap is_consistent whole) ∙ h.1))
