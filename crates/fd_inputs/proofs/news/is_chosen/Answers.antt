use Rattle.std.proofs.Common.{◌≡◌, ◌∙◌, Bool, true, false, not, ◌&&◌, ◌||◌, List, [], ◌∷◌, Option, Some, None, is_some, option_copied, refl, sym, ap}
use Rattle.std.specs.Borrow.{Bor}
use Rattle.std.specs.List.{list_any}
use Rattle.ident_map.specs.Entries.{entry}
use Rattle.oz_base.specs.declared.names.Ident.{Ident}
use Rattle.oz_base.specs.declared.interval.Interval.{Interval}
use Rattle.oz_semantics.specs.Store.{View, same, told_value, is_news}
use Rattle.oz_semantics.specs.declared.value.Tell.TheVariants.{Within}
use Rattle.fd_inputs.specs.News.{is_chosen}
use Rattle.fd_inputs.proofs.MarkLaws.{marked_is}
use Rattle.fd_inputs.proofs.news.is_chosen.Goals as goal

copied_some : {A : Type 0} (o : Option (Bor A)) → is_some o ≡ is_some (option_copied o)
copied_some None = refl
copied_some (Some a) = refl

chosen_is : (view : View) (i : Interval) (ones : List Ident) (x : Ident) (news given marked : Bool) → news ≡ is_news view (Within x (i ∷ [])) → news ≡ true → given ≡ is_some (told_value view x) → given ≡ false
    → marked ≡ list_any (same view x) ones → not marked ≡ is_chosen view i ones x
chosen_is view i ones x news given marked e n f g m =
    ap not m
    ∙ ap (λ b. b || not (list_any (same view x) ones)) (sym g ∙ f)
    ∙ ap (λ b. b && (is_some (told_value view x) || not (list_any (same view x) ones))) (sym n ∙ e)

pub returns : goal.returns
returns c =
    chosen_is c.args.store.now c.args.interval c.args.chosen.now.variables.items c.args.x.now c.in_ok-is_news.field-0 c.is_some.result c.is_marked.result c.in_ok-is_news.ensures c.if-not-branch.false
    (c.is_some.ensures ∙ copied_some c.told_value.result ∙ ap (λ o. is_some o) c.told_value.ensures) c.if-is_some.false
    (c.is_marked.ensures
    ∙ ap (λ r. is_some (entry c.args.chosen.now.marks r)) c.root.ensures.root
    ∙ marked_is c.args.store.now c.args.classes.now c.args.chosen.now.variables.items c.args.chosen.now.marks c.requires.classes c.requires.marks c.args.x.now)
