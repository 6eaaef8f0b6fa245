-- What is in another space than the one that is renamed, and not below it, keeps its name.
use Rattle.std.proofs.Common.{◌≡◌, ◌∙◌, ℕ, ◌+◌, Bool, true, false, cond, not, ◌&&◌, nat_eq, List, [], ◌∷◌, ◌++◌, length, take, drop, refl, sym, ap}
use Rattle.std.specs.List.{starts_with}
use Rattle.std.specs.Cmp.{nat_eq_equiv}
use Rattle.std.specs.Cmp.Lexicographic.{pointwise}
use Rattle.oz_base.specs.Lists.{list_eq}
use Rattle.oz_base.specs.ListLaws.{list_eq-decides}
use Rattle.oz_base.specs.declared.names.Ident.{Ident}
use Rattle.renamings.specs.Spaces.{merged, raised_child}
use Rattle.renamings.specs.Given.{given_of}
use Rattle.renamings.specs.Renames.{ident_by, subject, merged_ident}
use Rattle.renamings.specs.declared.given.Kind.{Kind}
use Rattle.renamings.specs.declared.given.GivenOut.{GivenOut}
use Rattle.renamings.specs.declared.renaming.Renaming.{Renaming}
use Rattle.renamings.specs.declared.renaming.Renaming.TheVariants.{Move, Merge}

begins_itself : (xs : List ℕ) → starts_with nat_eq xs xs ≡ true
begins_itself [] = refl
begins_itself (x ∷ xs) = ap (λ b. b && pointwise nat_eq xs (take (length xs) xs)) (nat_eq_equiv.refl x) ∙ begins_itself xs

-- a name that does not begin with another is not that one
apart : (xs ys : List ℕ) (b : Bool) → list_eq xs ys ≡ b → starts_with nat_eq xs ys ≡ false → b ≡ false
apart xs ys true e h =
    let same : xs ≡ ys = (list_eq-decides xs ys).0 e in
    sym (begins_itself ys) ∙ ap (λ zs. starts_with nat_eq zs ys) (sym same) ∙ h
apart xs ys false e h = refl

kept_merged : (child parent : List ℕ) (given : GivenOut) (by : ℕ) (x : Ident) → starts_with nat_eq x.space child ≡ false → merged_ident child parent given by x ≡ x
kept_merged child parent given by x h =
    let here : Bool → Ident = λ b. cond b (record { space = parent; number = x.number + by }) (record x { space = merged child parent given.children x.space }) in
    let below : Bool → Ident = λ b. record x { space = cond (b && not (list_eq child x.space)) (raised_child parent given.children (drop (length child) x.space)) x.space } in
    ap here (apart x.space child (list_eq x.space child) refl h) ∙ ap below h

outside : (b : Bool) → not b ≡ true → b ≡ false
outside true e = sym e
outside false e = refl

pub kept : (r : Renaming) (x : Ident) (kind : Kind) → starts_with nat_eq x.space (subject r) ≡ false → ident_by kind r x ≡ x
kept (Move from to) x kind h =
    let go : Bool → Ident = λ b. record x { space = cond b (to ++ drop (length from) x.space) x.space } in ap go h
kept (Merge child parent given) x kind h = kept_merged child parent given (given_of kind given) x h

pub kept_outside : (r : Renaming) (x : Ident) (b : Bool) → b ≡ not (starts_with nat_eq x.space (subject r)) → b ≡ true → (kind : Kind) → ident_by kind r x ≡ x
kept_outside r x b is e kind = kept r x kind (outside (starts_with nat_eq x.space (subject r)) (sym is ∙ e))
