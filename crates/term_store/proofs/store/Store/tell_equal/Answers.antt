use Rattle.std.proofs.Common.{◌∙◌, ◌∷◌, ◌++◌, [], sym, ap, subst}
use Rattle.oz_base.specs.IdentLaws.{ident_eq-equal}
use Rattle.term_store.specs.Closing.{Going}
use Rattle.term_store.specs.Logs.{told_in}
use Rattle.term_store.proofs.ClassLaws.{other_than}
use Rattle.term_store.proofs.AnswerLaws.{likewise_going}
use Rattle.term_store.proofs.TellingLaws.{known_told, equation_told, equation_going}
use Rattle.term_store.proofs.store.Store.tell_equal.Goals as goal

pub invariant_of-self-then-same_ident : goal.invariant_of-self-then-same_ident
invariant_of-self-then-same_ident c =
    let told =
    known_told c.args.self.now c.args.left.now c.args.right.now c.in_ok-equation.field-0 c.in_ok-equation.ensures (told_in c.push.new.self) (c.in_ok-push.ensures.ok ∙ ap (λ ts. ts ++ c.in_ok-equation.field-0 ∷ []) c.self.view_is)
    c.self.inside.classes (subst (λ ts. Going ts c.self.inside.classes []) c.self.view_is c.self.invariant) (sym c.find-one.ensures.root ∙ ident_eq-equal c.find-one.result.root.now c.find-other.result.root.now (sym c.same_ident.ensures ∙ c.if-same_ident.true) ∙ c.find-other.ensures.root) c.args.touched.now.items in
    told.0

pub returns-then-same_ident-clause-told : goal.returns-then-same_ident-clause-told
returns-then-same_ident-clause-told c =
    let told =
    known_told c.args.self.now c.args.left.now c.args.right.now c.in_ok-equation.field-0 c.in_ok-equation.ensures (told_in c.push.new.self) (c.in_ok-push.ensures.ok ∙ ap (λ ts. ts ++ c.in_ok-equation.field-0 ∷ []) c.self.view_is)
    c.self.inside.classes (subst (λ ts. Going ts c.self.inside.classes []) c.self.view_is c.self.invariant) (sym c.find-one.ensures.root ∙ ident_eq-equal c.find-one.result.root.now c.find-other.result.root.now (sym c.same_ident.ensures ∙ c.if-same_ident.true) ∙ c.find-other.ensures.root) c.args.touched.now.items in
    told.1

pub close-requires-clause-going : goal.close-requires-clause-going
close-requires-clause-going c = equation_going c.args.self.now c.args.left.now c.args.right.now c.in_ok-equation-2.field-0 c.in_ok-equation-2.ensures c.in_ok-pending.pending.items c.in_ok-pending.ensures

pub invariant_of-self-in_err-add_united : goal.invariant_of-self-in_err-add_united
invariant_of-self-in_err-add_united c =
    subst (λ ts. Going ts c.add_united.new.classes []) (sym c.in_err-add_united.ensures.kept)
    (likewise_going (told_in c.self.inside.log) c.self.inside.classes c.add_united.new.classes c.self.invariant c.in_err-add_united.ensures.err)

pub invariant_of-self-2 : goal.invariant_of-self-2
invariant_of-self-2 c =
    let told =
    equation_told c.args.self.now c.args.left.now c.args.right.now c.in_ok-tell.tell c.in_ok-tell.ensures (told_in c.add_united.new.log) (c.in_ok-add_united.ensures.told ∙ ap (λ ts. ts ++ c.in_ok-tell.tell ∷ []) c.self.view_is)
    c.self.inside.classes c.add_united.new.classes (subst (λ ts. Going ts c.self.inside.classes []) c.self.view_is c.self.invariant) c.in_ok-a.a.root c.in_ok-b.b.root (c.in_ok-a.ensures.root ∙ c.find-one.ensures.root) (c.in_ok-b.ensures.root ∙ c.find-other.ensures.root) (λ e. other_than c.find-one.result.root.now c.find-other.result.root.now (sym c.same_ident.ensures ∙ c.if-same_ident.false) (sym c.in_ok-a.ensures.root ∙ e ∙ c.in_ok-b.ensures.root)) c.in_ok-add_united.ensures.ok
    c.args.touched.now.items c.note_two.new.touched.items c.in_ok-note_two.ensures in
    told.0

pub returns-clause-told : goal.returns-clause-told
returns-clause-told c =
    let told =
    equation_told c.args.self.now c.args.left.now c.args.right.now c.in_ok-tell.tell c.in_ok-tell.ensures (told_in c.add_united.new.log) (c.in_ok-add_united.ensures.told ∙ ap (λ ts. ts ++ c.in_ok-tell.tell ∷ []) c.self.view_is)
    c.self.inside.classes c.add_united.new.classes (subst (λ ts. Going ts c.self.inside.classes []) c.self.view_is c.self.invariant) c.in_ok-a.a.root c.in_ok-b.b.root (c.in_ok-a.ensures.root ∙ c.find-one.ensures.root) (c.in_ok-b.ensures.root ∙ c.find-other.ensures.root) (λ e. other_than c.find-one.result.root.now c.find-other.result.root.now (sym c.same_ident.ensures ∙ c.if-same_ident.false) (sym c.in_ok-a.ensures.root ∙ e ∙ c.in_ok-b.ensures.root)) c.in_ok-add_united.ensures.ok
    c.args.touched.now.items c.note_two.new.touched.items c.in_ok-note_two.ensures in
    told.1
