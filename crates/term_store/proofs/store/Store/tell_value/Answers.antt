use Rattle.std.proofs.Common.{◌∙◌, ◌∷◌, ◌++◌, [], ℕ, Option, Some, length, refl, sym, ap, ap₂, subst}
use Rattle.std.specs.Prelude.{option_copied}
use Rattle.oz_domains.specs.Domains.{IntSet}
use Rattle.term_store.specs.Classes.{first_in, domain_in}
use Rattle.term_store.specs.Closing.{Going}
use Rattle.term_store.specs.Logs.{told_in}
use Rattle.term_store.specs.declared.cell.Kept.{Kept}
use Rattle.term_store.proofs.AnswerLaws.{place_at}
use Rattle.term_store.proofs.TellingLaws.{value_outside, value_told_in}
use Rattle.term_store.proofs.store.Store.tell_value.Goals as goal

abbrev kept_with : ℕ → Option IntSet → Kept
kept_with place domain = record { first = Some place; domain = domain }

pub tell_again-requires : goal.tell_again-requires
tell_again-requires c =
    sym (place_at c.args.self.now c.self.inside.classes (subst (λ ts. Going ts c.self.inside.classes []) c.self.view_is c.self.invariant) c.args.variable.now)
    ∙ ap (first_in c.self.inside.classes) (sym c.find-found.ensures.root)
    ∙ sym c.find-found.ensures.first
    ∙ c.in-Some.is

pub returns-then-not-has_value-clause-told : goal.returns-then-not-has_value-clause-told
returns-then-not-has_value-clause-told c = (
  refl,
  value_outside c.args.self.now c.self.inside.classes (subst (λ ts. Going ts c.self.inside.classes []) c.self.view_is c.self.invariant) c.args.variable.now c.find-found.result.root.now c.find-found.ensures.root c.args.value.now
      (option_copied c.find-found.result.domain) c.find-found.ensures.domain (sym c.has_value.ensures ∙ c.if-not-has_value.true),
)

pub invariant_of-self-2 : goal.invariant_of-self-2
invariant_of-self-2 c =
    let told = value_told_in c.args.self.now c.self.inside.classes c.add_marked.new.classes (subst (λ ts. Going ts c.self.inside.classes []) c.self.view_is c.self.invariant) c.args.variable.now c.args.value.now
    c.in_ok-root.root (c.in_ok-root.ensures ∙ c.find-found.ensures.root) (ap (first_in c.self.inside.classes) c.in_ok-root.ensures ∙ sym c.find-found.ensures.first ∙ c.in_default.is)
    (option_copied c.find-found.result.domain) (c.find-found.ensures.domain ∙ ap (domain_in c.self.inside.classes) (sym c.in_ok-root.ensures)) (sym c.has_value.ensures ∙ c.if-not-has_value.false)
    (kept_with c.len.result c.in_ok-domain_copy.field-0) (ap₂ kept_with (c.len.ensures ∙ ap length c.self.view_is) c.in_ok-domain_copy.ensures) c.in_ok-add_marked.ensures.ok
    c.in_ok-tell.tell c.in_ok-tell.ensures (told_in c.add_marked.new.log) (c.in_ok-add_marked.ensures.told ∙ ap (λ ts. ts ++ c.in_ok-tell.tell ∷ []) c.self.view_is)
    c.in_ok-copied.field-0 c.in_ok-copied.ensures c.args.touched.now.items c.push.new.self.items c.in_ok-push.ensures.items in
    told.0

pub returns-clause-told : goal.returns-clause-told
returns-clause-told c =
    let told = value_told_in c.args.self.now c.self.inside.classes c.add_marked.new.classes (subst (λ ts. Going ts c.self.inside.classes []) c.self.view_is c.self.invariant) c.args.variable.now c.args.value.now
    c.in_ok-root.root (c.in_ok-root.ensures ∙ c.find-found.ensures.root) (ap (first_in c.self.inside.classes) c.in_ok-root.ensures ∙ sym c.find-found.ensures.first ∙ c.in_default.is)
    (option_copied c.find-found.result.domain) (c.find-found.ensures.domain ∙ ap (domain_in c.self.inside.classes) (sym c.in_ok-root.ensures)) (sym c.has_value.ensures ∙ c.if-not-has_value.false)
    (kept_with c.len.result c.in_ok-domain_copy.field-0) (ap₂ kept_with (c.len.ensures ∙ ap length c.self.view_is) c.in_ok-domain_copy.ensures) c.in_ok-add_marked.ensures.ok
    c.in_ok-tell.tell c.in_ok-tell.ensures (told_in c.add_marked.new.log) (c.in_ok-add_marked.ensures.told ∙ ap (λ ts. ts ++ c.in_ok-tell.tell ∷ []) c.self.view_is)
    c.in_ok-copied.field-0 c.in_ok-copied.ensures c.args.touched.now.items c.push.new.self.items c.in_ok-push.ensures.items in
    told.1
