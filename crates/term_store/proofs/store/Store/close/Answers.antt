use Rattle.std.proofs.Common.{◌∙◌, ◌∷◌, ◌++◌, [], refl, ap, subst}
use Rattle.term_store.specs.Closing.{Going}
use Rattle.term_store.specs.Logs.{told_in}
use Rattle.term_store.proofs.TellingLaws.{closed_true, closed_false}
use Rattle.term_store.proofs.store.Store.close.Goals as goal

pub returns-then-not-branch-clause-told : goal.returns-then-not-branch-clause-told
returns-then-not-branch-clause-told c =
    let s = c.args.self.now in
    let e = c.in_ok-push.ensures.ok ∙ ap (λ ts. ts ++ c.args.tell ∷ []) c.in_ok-copy.ensures ∙ ap (λ ts. ts ++ c.args.tell ∷ []) c.self.view_is in (
      refl,
      closed_false s (told_in c.push.new.self) c.args.tell c.self.inside.classes c.in_ok-copied.field-0 c.settle.new.self.classes c.new.result.items c.settle.new.self.touched.items e c.in_ok-copied.ensures c.new.ensures.items
          c.in_ok-settle.field-0 c.if-not-branch.true c.in_ok-settle.ensures.settles,
    )

pub returns-clause-told : goal.returns-clause-told
returns-clause-told c =
    let s = c.args.self.now in
    let e = c.in_ok-push.ensures.ok ∙ ap (λ ts. ts ++ c.args.tell ∷ []) c.in_ok-copy.ensures ∙ ap (λ ts. ts ++ c.args.tell ∷ []) c.self.view_is in
    closed_true s (told_in c.push.new.self) c.args.tell c.self.inside.classes c.in_ok-copied.field-0 c.settle.new.self.classes c.new.result.items c.settle.new.self.touched.items e c.in_ok-copied.ensures c.new.ensures.items
    (subst (λ ts. Going ts c.self.inside.classes []) c.self.view_is c.self.invariant) c.requires.valued c.requires.known c.in_ok-settle.field-0 c.if-not-branch.false c.in_ok-settle.ensures.settles
    (told_in c.settle.new.self.log) c.args.touched.now.items c.append.new.self.items (ap told_in c.in_ok-settle.ensures.log) c.in_ok-append.ensures.items
