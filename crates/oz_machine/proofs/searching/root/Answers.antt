use Rattle.std.proofs.Common.{List, sym, subst}
use Rattle.oz_semantics.specs.declared.configuration.Layer.{Layer}
use Rattle.settle_laws.proofs.SettleLaws.{nothing_fails}
use Rattle.oz_machine.specs.Asleep.{Sleeps}
use Rattle.oz_machine.specs.Courses.{config_of}
use Rattle.oz_acts.proofs.PlaceLaws.{place_seen}
use Rattle.oz_machine.proofs.SearchLaws.{root_by}
use Rattle.oz_machine.proofs.searching.root.Goals as goal

pub create-requires : goal.create-requires
create-requires c = place_seen c.settle_only.new.course.levels c.top-top.result c.place.result c.place.ensures c.if-is_none.ensures

pub returns-clause-root : goal.returns-clause-root
returns-clause-root c =
    let st = c.args.statements.now in
    let settled = c.settle_only.new.course in
    let nobody = c.in_ok-settle_only.ensures.due in
    let made = c.create.new.self in
    root_by st c.args.procedure c.top-top.result c.args.course.now settled made (config_of st c.follow_edit.new.course) c.settle_only.ensures.same nobody c.top-top.ensures c.in_ok-space.ensures.ok
    (c.follow_edit.ensures.follows st c.top-top.result settled.levels made (nothing_fails c.top-top.result made c.consistent.ensures))

pub returns-in_err-space-clause-asleep : goal.returns-in_err-space-clause-asleep
returns-in_err-space-clause-asleep c =
    let settled = c.settle_only.new.course in
    subst (λ (ls : List Layer). Sleeps c.args.statements.now c.settle_only.new.sleeping (record settled { levels = ls })) (sym c.in_err-space.ensures.err) c.settle_only.ensures.asleep

pub returns-clause-asleep : goal.returns-clause-asleep
returns-clause-asleep c = c.follow_edit.ensures.asleep c.args.statements.now c.settle_only.new.sleeping
