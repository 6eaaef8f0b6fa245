use Rattle.std.proofs.Common.{◌≡◌, ◌∙◌, ◌∷◌, ◌++◌, [], length, refl, sym, ap, subst, rules}
use Rattle.std.specs.Prelude.{option_copied}
use Rattle.std.specs.List.{zip}
use Rattle.oz_semantics.specs.Values.{fields_of}
use Rattle.term_store.specs.Closing.{Going}
use Rattle.term_store.specs.Logs.{told_in}
use Rattle.term_store.specs.Places.{value_at}
use Rattle.term_store.proofs.TellingLaws.{again_differs, again_going, again_valued, value_known, again_told}
use Rattle.term_store.proofs.store.Store.tell_again.Goals as goal

pub returns-then-not-is_like-clause-told : goal.returns-then-not-is_like-clause-told
returns-then-not-is_like-clause-told c = (refl, again_differs c.args.self.now c.args.variable.now c.args.value.now c.in-Some.first.now c.args.place c.requires (ap (λ ts. value_at ts c.args.place) (sym c.self.view_is) ∙ sym c.value.ensures ∙ ap (λ o. option_copied o) c.in-Some.is) c.self.inside.classes (subst (λ ts. Going ts c.self.inside.classes []) c.self.view_is c.self.invariant) (sym c.is_like.ensures ∙ c.if-not-is_like.true))

pub close-requires-clause-going : goal.close-requires-clause-going
close-requires-clause-going c = again_going c.args.self.now c.args.variable.now c.args.value.now c.in-Some.first.now c.args.place c.requires (ap (λ ts. value_at ts c.args.place) (sym c.self.view_is) ∙ sym c.value.ensures ∙ ap (λ o. option_copied o) c.in-Some.is) (sym c.is_like.ensures ∙ c.if-not-is_like.false) c.in_ok-tell.tell c.in_ok-tell.ensures c.in_ok-pending.pending.items (c.in_ok-pending.ensures ∙ ap (λ xs. zip xs (c.fields_of-2.result.now)) c.fields_of.ensures ∙ ap (zip (fields_of c.in-Some.first.now)) c.fields_of-2.ensures)

pub close-requires-clause-valued : goal.close-requires-clause-valued
close-requires-clause-valued c = again_valued c.args.self.now c.args.variable.now c.args.value.now c.in-Some.first.now c.args.place c.requires (ap (λ ts. value_at ts c.args.place) (sym c.self.view_is) ∙ sym c.value.ensures ∙ ap (λ o. option_copied o) c.in-Some.is) c.self.inside.classes (subst (λ ts. Going ts c.self.inside.classes []) c.self.view_is c.self.invariant) c.in_ok-tell.tell c.in_ok-tell.ensures

pub close-requires-clause-known : goal.close-requires-clause-known
close-requires-clause-known c = value_known c.args.self.now c.args.variable.now c.args.value.now c.in_ok-tell.tell c.in_ok-tell.ensures

pub invariant_of-self-then-is_empty : goal.invariant_of-self-then-is_empty
invariant_of-self-then-is_empty c =
    let told =
    let none : length c.in_ok-pending.pending.items ≡ 0 = search rules in
    again_told c.args.self.now c.args.variable.now c.args.value.now c.in-Some.first.now c.args.place c.requires (ap (λ ts. value_at ts c.args.place) (sym c.self.view_is) ∙ sym c.value.ensures ∙ ap (λ o. option_copied o) c.in-Some.is) c.self.inside.classes (subst (λ ts. Going ts c.self.inside.classes []) c.self.view_is c.self.invariant) (sym c.is_like.ensures ∙ c.if-not-is_like.false) c.in_ok-tell.tell c.in_ok-tell.ensures
    c.in_ok-pending.pending.items (c.in_ok-pending.ensures ∙ ap (λ xs. zip xs (c.fields_of-2.result.now)) c.fields_of.ensures ∙ ap (zip (fields_of c.in-Some.first.now)) c.fields_of-2.ensures) none (told_in c.push.new.self) c.args.touched.now.items (c.in_ok-push.ensures.ok ∙ ap (λ ts. ts ++ c.in_ok-tell.tell ∷ []) c.self.view_is) in
    told.0

pub returns-then-is_empty-clause-told : goal.returns-then-is_empty-clause-told
returns-then-is_empty-clause-told c =
    let told =
    let none : length c.in_ok-pending.pending.items ≡ 0 = search rules in
    again_told c.args.self.now c.args.variable.now c.args.value.now c.in-Some.first.now c.args.place c.requires (ap (λ ts. value_at ts c.args.place) (sym c.self.view_is) ∙ sym c.value.ensures ∙ ap (λ o. option_copied o) c.in-Some.is) c.self.inside.classes (subst (λ ts. Going ts c.self.inside.classes []) c.self.view_is c.self.invariant) (sym c.is_like.ensures ∙ c.if-not-is_like.false) c.in_ok-tell.tell c.in_ok-tell.ensures
    c.in_ok-pending.pending.items (c.in_ok-pending.ensures ∙ ap (λ xs. zip xs (c.fields_of-2.result.now)) c.fields_of.ensures ∙ ap (zip (fields_of c.in-Some.first.now)) c.fields_of-2.ensures) none (told_in c.push.new.self) c.args.touched.now.items (c.in_ok-push.ensures.ok ∙ ap (λ ts. ts ++ c.in_ok-tell.tell ∷ []) c.self.view_is) in
    told.1
