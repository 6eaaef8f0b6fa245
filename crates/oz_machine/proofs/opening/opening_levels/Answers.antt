use Rattle.std.proofs.Common.{◌∙◌, ap, subst}
use Rattle.oz_semantics.specs.Configurations.{frames_of}
use Rattle.space_core.specs.Levels.{IsToldTo}
use Rattle.oz_machine.proofs.OpeningLaws.{opened}
use Rattle.oz_machine.proofs.opening.opening_levels.Goals as goal

pub returns : goal.returns
returns c =
    let told =
    subst (IsToldTo c.top-top.result c.as_slice.result.now c.give_out.new.self c.tell.new.self) c.if-not-branch.false c.in_ok-tell.ensures.told in
    opened c.args.kernel.now c.in_ok-environment.environment c.in_ok-frames.frames.items c.top-top.result c.fd_number.result c.as_slice.result.now
    c.in_ok-levels.levels c.give_out.new.self c.tell.new.self c.spawn.new.self c.top-top.ensures c.fd_number.ensures
    (c.as_slice.ensures.value ∙ c.in_ok-opening_tells.ensures) c.in_ok-environment.ensures
    (c.in_ok-frames.ensures ∙ ap (frames_of c.in_ok-environment.environment) c.as_slice-2.ensures) c.in_ok-levels.ensures
    c.in_ok-give_out.ensures.ok told c.in_ok-spawn.ensures.ok
