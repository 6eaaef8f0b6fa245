use Rattle.std.proofs.Common.{◌∙◌, ◌∷◌, ◌++◌, [], Some, refl, sym, ap, subst}
use Rattle.std.specs.Prelude.{option_copied}
use Rattle.oz_domains.specs.Domains.{IntSet}
use Rattle.term_store.specs.Bounds.{Keeps}
use Rattle.term_store.specs.Classes.{first_in, domain_in}
use Rattle.term_store.specs.Closing.{Going}
use Rattle.term_store.specs.Logs.{told_in}
use Rattle.term_store.proofs.TellingLaws.{domain_told_in, domain_refused}
use Rattle.term_store.proofs.store.Store.tell_domain.Goals as goal

pub returns-in_default-clause-told : goal.returns-in_default-clause-told
returns-in_default-clause-told c =
    let f = c.find-found.result in (
      refl,
      domain_refused c.args.self.now c.self.inside.classes (subst (λ ts. Going ts c.self.inside.classes []) c.self.view_is c.self.invariant) c.args.variable.now c.args.intervals.now
          f.root.now c.find-found.ensures.root f.first c.find-found.ensures.first (option_copied f.domain) (Some c.args.domain) c.find-found.ensures.domain
          (ap (λ (s : IntSet). Some s) (sym c.requires)) c.in_ok-kept.kept c.in_default.is
          (subst (λ ts. Keeps ts f.first (option_copied f.domain) (Some c.args.domain) c.in_ok-kept.kept) c.self.view_is c.in_ok-kept.ensures),
    )

pub invariant_of-self-2 : goal.invariant_of-self-2
invariant_of-self-2 c =
    let f = c.find-found.result in
    let told =
    domain_told_in c.args.self.now c.self.inside.classes c.add_marked.new.classes (subst (λ ts. Going ts c.self.inside.classes []) c.self.view_is c.self.invariant) c.args.variable.now c.args.intervals.now
    c.in_ok-root.root (c.in_ok-root.ensures ∙ c.find-found.ensures.root)
    f.first (c.find-found.ensures.first ∙ ap (first_in c.self.inside.classes) (sym c.in_ok-root.ensures))
    (option_copied f.domain) (Some c.args.domain) (c.find-found.ensures.domain ∙ ap (domain_in c.self.inside.classes) (sym c.in_ok-root.ensures))
    (ap (λ (s : IntSet). Some s) (sym c.requires))
    c.in-Some.kept
    (subst (λ ts. Keeps ts f.first (option_copied f.domain) (Some c.args.domain) (Some c.in-Some.kept)) c.self.view_is
    (subst (Keeps (told_in c.self.inside.log) f.first (option_copied f.domain) (Some c.args.domain)) c.in-Some.is c.in_ok-kept.ensures))
    c.in_ok-add_marked.ensures.ok c.in_ok-tell.tell c.in_ok-tell.ensures (told_in c.add_marked.new.log) (c.in_ok-add_marked.ensures.told ∙ ap (λ ts. ts ++ c.in_ok-tell.tell ∷ []) c.self.view_is)
    c.in_ok-copied.field-0 c.in_ok-copied.ensures c.args.touched.now.items c.push.new.self.items c.in_ok-push.ensures.items in
    told.0

pub returns-clause-told : goal.returns-clause-told
returns-clause-told c =
    let f = c.find-found.result in
    let told =
    domain_told_in c.args.self.now c.self.inside.classes c.add_marked.new.classes (subst (λ ts. Going ts c.self.inside.classes []) c.self.view_is c.self.invariant) c.args.variable.now c.args.intervals.now
    c.in_ok-root.root (c.in_ok-root.ensures ∙ c.find-found.ensures.root)
    f.first (c.find-found.ensures.first ∙ ap (first_in c.self.inside.classes) (sym c.in_ok-root.ensures))
    (option_copied f.domain) (Some c.args.domain) (c.find-found.ensures.domain ∙ ap (domain_in c.self.inside.classes) (sym c.in_ok-root.ensures))
    (ap (λ (s : IntSet). Some s) (sym c.requires))
    c.in-Some.kept
    (subst (λ ts. Keeps ts f.first (option_copied f.domain) (Some c.args.domain) (Some c.in-Some.kept)) c.self.view_is
    (subst (Keeps (told_in c.self.inside.log) f.first (option_copied f.domain) (Some c.args.domain)) c.in-Some.is c.in_ok-kept.ensures))
    c.in_ok-add_marked.ensures.ok c.in_ok-tell.tell c.in_ok-tell.ensures (told_in c.add_marked.new.log) (c.in_ok-add_marked.ensures.told ∙ ap (λ ts. ts ++ c.in_ok-tell.tell ∷ []) c.self.view_is)
    c.in_ok-copied.field-0 c.in_ok-copied.ensures c.args.touched.now.items c.push.new.self.items c.in_ok-push.ensures.items in
    told.1
