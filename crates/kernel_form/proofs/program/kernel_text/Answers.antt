use Rattle.std.proofs.Common.{◌≡◌, ◌∙◌, List, ◌∷◌, [], map, slice_get, Some, ap, sym}
use Rattle.std.proofs.lemmas.Option.{slice_get-get_or}
use Rattle.oz_language.specs.declared.kernel.Statement.{Statement}
use Rattle.oz_language.specs.Kernels.{Stmts, numbered}
use Rattle.oz_language.specs.KernelTexts.{kernel_text}
use Rattle.kernel_form.specs.Whole.{AreWhole}
use Rattle.kernel_form.specs.declared.entries.Entry.TheVariants.{Lines}
use Rattle.kernel_form.specs.Entries.{left_of, lined}
use Rattle.kernel_form.proofs.Leading.{started, begun}
use Rattle.kernel_form.proofs.Translating.{translated_text}
use Rattle.kernel_form.proofs.program.kernel_text.Goals as goal

pub statements-init : goal.statements-init
statements-init c ss whole same =
    let pushed = c.in_ok-push.ensures.ok ∙ ap (λ es. Lines c.as_slice.result ∷ es) c.new-pending.ensures in
    started c.args.kernel.now ss c.push.new.self c.new-out.result.items whole same (ap (map left_of) pushed ∙ ap (λ ns. lined ns ∷ []) c.as_slice.ensures) c.new-out.ensures.items

pub statements-preserved : goal.statements-preserved
statements-preserved c ss whole same =
    let k = c.args.kernel.now in
    let next = c.in_ok-number.ensures in
    let leads = c.statements.invariant ss whole same in
    let follows = rw c.in-Some.is at (next k.statements (kernel_text k.words ss) leads) in
    let looked = c.in-Some-get.ensures.lookup in
    let statement = c.in-Some-get.statement.now in
    let here = ap (λ (xs : List Statement). slice_get xs c.in-Some.number) (sym c.as_slice-statements.ensures)
    ∙ slice_get-get_or c.as_slice-statements.result.now c.in-Some.number statement looked.3.0 ∙ ap Some (sym looked.1) in
    begun k.words k.statements c.in-Some.number (map left_of c.next_statement.new.pending) (map left_of c.push_bodies.new.pending) statement c.next_statement.new.out.items c.add_head.new.out.items
    (kernel_text k.words ss) here c.in_ok-push_bodies.ensures c.in_ok-add_head.ensures follows

pub returns-in_default : goal.returns-in_default
returns-in_default c =
    let k = c.args.kernel.now in
    let text = c.from_vec.result in
    let next = c.in_ok-number.ensures in
    let law : (ss : Stmts) → AreWhole ss → k ≡ numbered k.words ss → text ≡ kernel_text k.words ss =
    λ ss whole same. c.from_vec.ensures ∙ (rw c.in_default.is at (next k.statements (kernel_text k.words ss) (c.statements.invariant ss whole same))) in
    record { numbered = law; translated = λ p same. translated_text k p text same law }
