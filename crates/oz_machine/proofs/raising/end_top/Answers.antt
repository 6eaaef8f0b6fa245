use Rattle.std.proofs.Common.{◌≡◌, ◌∙◌, [], drop, ap, sym}
use Rattle.oz_semantics.specs.Configurations.{in_layer, with_frames, without_terminated}
use Rattle.oz_semantics.specs.Settling.{without_inconsistent}
use Rattle.oz_semantics.specs.declared.configuration.Layer.{Layer}
use Rattle.oz_semantics.specs.declared.outcome.Stepped.TheVariants.{TopEnded}
use Rattle.settle_laws.proofs.EditLaws.{are_quiet, edits_join}
use Rattle.settle_laws.proofs.SettleLaws.{quiet_settles}
use Rattle.oz_machine.specs.declared.course.Due.TheVariants.{Nobody}
use Rattle.oz_machine.proofs.DoingLaws.{course_view}
use Rattle.oz_machine.proofs.raising.end_top.Goals as goal

pub returns-clause-turn : goal.returns-clause-turn
returns-clause-turn c = λ statements before h.
    let s = c.args.id.now.space in
    let old = c.args.course.now in
    let clear : Layer → Layer = with_frames c.args.id.now.number (λ frames. []) in
    let quiet = are_quiet.frames c.args.id.now.number (λ frames. []) in
    let one = quiet_settles clear s before old.levels quiet h in
    let two = quiet_settles without_terminated s (in_layer s clear before) (in_layer s clear old.levels) are_quiet.terminated one in
    let joined = edits_join s without_terminated clear before quiet.space in
    let ended = c.leave_to_none.ensures in
    let left : c.leave_to_none.new.course.levels ≡ without_inconsistent (in_layer s (λ l. without_terminated (clear l)) before) =
    ended.levels ∙ c.drop_terminated.ensures ∙ ap (in_layer s without_terminated) c.clear.ensures ∙ two.left ∙ ap without_inconsistent joined in
    let seen = course_view statements c.leave_to_none.new.course (without_inconsistent (in_layer s (λ l. without_terminated (clear l)) before)) Nobody (drop 1 old.queue) old.shown left ended.due ended.queue ended.shown in
    rw c.requires (ap (λ d. (TopEnded c.args.exception 1, d)) (sym seen))
