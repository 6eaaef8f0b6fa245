use Rattle.std.proofs.Common.{◌∙◌, List, ap, sym}
use Rattle.oz_base.specs.declared.names.Ident.{Ident}
use Rattle.oz_semantics.specs.Answers as answers
use Rattle.oz_semantics.specs.Steps.{after_answer, told, raised, raised_kind, without_top}
use Rattle.oz_semantics.specs.declared.value.Tell.{Tell}
use Rattle.builtins.specs.Answers.{act_of, edit_of}
use Rattle.oz_machine.specs.Courses.{config_of, stepping}
use Rattle.oz_machine.proofs.DoingLaws.{ok_turn}
use Rattle.oz_machine.proofs.PendLaws.{pending_sleeps}
use Rattle.oz_machine.proofs.turn.make_step.Goals as goal

pub returns-in-Rests-clause-turn : goal.returns-in-Rests-clause-turn
returns-in-Rests-clause-turn c = λ a h.
    let k = c.args.kernel.now in
    let id = c.args.id.now in
    let now = c.args.course.now in
    let rests = rw c.in-Rests.is at h in
    ap (after_answer k id (without_top id now.levels) (stepping now)) rests.1
    ∙ c.rest.ensures.turn k.statements id c.requires.head

pub returns-in-Operates-clause-turn : goal.returns-in-Operates-clause-turn
returns-in-Operates-clause-turn c = λ a h.
    let k = c.args.kernel.now in
    let id = c.args.id.now in
    let now = c.args.course.now in
    let operates = rw c.in-Operates.is at h in
    ap (after_answer k id (without_top id now.levels) (stepping now)) operates
    ∙ c.rest-in-Operates.ensures.turn k.statements id c.requires.head

pub returns-in-Edits-clause-turn : goal.returns-in-Edits-clause-turn
returns-in-Edits-clause-turn c = λ a h.
    let k = c.args.kernel.now in
    let id = c.args.id.now in
    let now = c.args.course.now in
    let edits = rw c.in-Edits.is at h in
    let edit = answers.Edits (edit_of c.in-Edits.edit) in
    ok_turn c.make_edit.result (after_answer k id (without_top id now.levels) (stepping now) a) (after_answer k id (without_top id now.levels) (stepping now) edit) (config_of k.statements c.make_edit.new.course)
    (ap (after_answer k id (without_top id now.levels) (stepping now)) edits) c.make_edit.ensures.turn

pub returns-in-Acts-clause-turn : goal.returns-in-Acts-clause-turn
returns-in-Acts-clause-turn c = λ a h.
    let k = c.args.kernel.now in
    let id = c.args.id.now in
    let now = c.args.course.now in
    let acts = rw c.in-Acts.is at h in
    let act = answers.Acts (act_of c.in-Acts.what) in
    ok_turn c.make_act.result (after_answer k id (without_top id now.levels) (stepping now) a) (after_answer k id (without_top id now.levels) (stepping now) act) (config_of k.statements c.make_act.new.course)
    (ap (after_answer k id (without_top id now.levels) (stepping now)) acts) c.make_act.ensures.turn

pub returns-in-Widens-clause-turn : goal.returns-in-Widens-clause-turn
returns-in-Widens-clause-turn c = λ a h.
    let k = c.args.kernel.now in
    let id = c.args.id.now in
    let now = c.args.course.now in
    let widens = rw c.in-Widens.is at h in
    ok_turn c.widen.result (after_answer k id (without_top id now.levels) (stepping now) a) (told k.statements id c.as_slice.result.now (λ layers. layers) now.levels (stepping now)) (config_of k.statements c.widen.new.course)
    (ap (after_answer k id (without_top id now.levels) (stepping now)) widens ∙ ap (λ (ts : List Tell). told k.statements id ts (λ layers. layers) now.levels (stepping now)) (sym c.as_slice.ensures)) (c.widen.ensures.turn k.statements)

pub returns-in-RaisesKind-clause-turn : goal.returns-in-RaisesKind-clause-turn
returns-in-RaisesKind-clause-turn c = λ a h.
    let k = c.args.kernel.now in
    let id = c.args.id.now in
    let now = c.args.course.now in
    let raises = rw c.in-RaisesKind.is at h in
    ok_turn c.raise_kind.result (after_answer k id (without_top id now.levels) (stepping now) a) (raised_kind k.statements id c.in-RaisesKind.kind (without_top id now.levels) (stepping now)) (config_of k.statements c.raise_kind.new.course)
    (ap (after_answer k id (without_top id now.levels) (stepping now)) raises) (c.raise_kind.ensures.turn k.statements)

pub returns-in_ok-copied-in-RaisesTerm-clause-turn : goal.returns-in_ok-copied-in-RaisesTerm-clause-turn
returns-in_ok-copied-in-RaisesTerm-clause-turn c = λ a h.
    let k = c.args.kernel.now in
    let id = c.args.id.now in
    let now = c.args.course.now in
    let raises = rw c.in-RaisesTerm.is at h in
    let copy = c.in_ok-copied-in-RaisesTerm.field-0 in
    ok_turn c.raise.result (after_answer k id (without_top id now.levels) (stepping now) a) (raised k.statements id copy (without_top id now.levels) (stepping now)) (config_of k.statements c.raise.new.course)
    (ap (after_answer k id (without_top id now.levels) (stepping now)) (raises ∙ ap (λ (x : Ident). answers.RaisesTerm x) (sym c.in_ok-copied-in-RaisesTerm.ensures))) c.raise.ensures.turn

pub returns-in-Rests-clause-asleep : goal.returns-in-Rests-clause-asleep
returns-in-Rests-clause-asleep c = pending_sleeps c.args.kernel.now.statements c.args.sleeping.now c.args.course.now c.rest.new.course c.requires.asleep

pub returns-in-Operates-clause-asleep : goal.returns-in-Operates-clause-asleep
returns-in-Operates-clause-asleep c = pending_sleeps c.args.kernel.now.statements c.args.sleeping.now c.args.course.now c.rest-in-Operates.new.course c.requires.asleep

pub returns-in-Edits-clause-asleep : goal.returns-in-Edits-clause-asleep
returns-in-Edits-clause-asleep c = pending_sleeps c.args.kernel.now.statements c.args.sleeping.now c.args.course.now c.make_edit.new.course c.requires.asleep

pub returns-in-Widens-clause-asleep : goal.returns-in-Widens-clause-asleep
returns-in-Widens-clause-asleep c = pending_sleeps c.args.kernel.now.statements c.args.sleeping.now c.args.course.now c.widen.new.course c.requires.asleep

pub returns-in-RaisesKind-clause-asleep : goal.returns-in-RaisesKind-clause-asleep
returns-in-RaisesKind-clause-asleep c = pending_sleeps c.args.kernel.now.statements c.args.sleeping.now c.args.course.now c.raise_kind.new.course c.requires.asleep

pub returns-in_ok-copied-in-RaisesTerm-clause-asleep : goal.returns-in_ok-copied-in-RaisesTerm-clause-asleep
returns-in_ok-copied-in-RaisesTerm-clause-asleep c = pending_sleeps c.args.kernel.now.statements c.args.sleeping.now c.args.course.now c.raise.new.course c.requires.asleep

pub returns-in_err-copied-in-RaisesTerm-clause-asleep : goal.returns-in_err-copied-in-RaisesTerm-clause-asleep
returns-in_err-copied-in-RaisesTerm-clause-asleep c = pending_sleeps c.args.kernel.now.statements c.args.sleeping.now c.args.course.now c.args.course.now c.requires.asleep

pub returns-in-Acts-clause-asleep : goal.returns-in-Acts-clause-asleep
returns-in-Acts-clause-asleep c = c.make_act.ensures.asleep
