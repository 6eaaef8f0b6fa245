use Rattle.std.proofs.Common.{◌≡◌, ◌∙◌, true, sym, ap, subst}
use Rattle.oz_semantics.specs.Configurations.{layer_of}
use Rattle.oz_semantics.specs.Effects.{act_effect}
use Rattle.builtins.specs.Answers.{act_of}
use Rattle.builtins.specs.declared.answer.Act.TheVariants as act
use Rattle.builtins.specs.declared.answer.Declaration.{Declaration}
use Rattle.oz_acts.specs.Doings.{IsDone}
use Rattle.oz_acts.proofs.acts.act.Goals as goal

pub returns-in-Passes-clause-ok : goal.returns-in-Passes-clause-ok
returns-in-Passes-clause-ok c =
    let id = c.args.id.now in
    let old = c.args.levels.now in
    let new = c.take_off.new.levels in
    subst (λ a. IsDone id (act_effect (layer_of old id.space) (act_of a)) old new true) (sym c.in-Passes.is) c.take_off.ensures

pub returns-in_ok-declare-in-Declares-clause-ok : goal.returns-in_ok-declare-in-Declares-clause-ok
returns-in_ok-declare-in-Declares-clause-ok c =
    let id = c.args.id.now in
    let old = c.args.levels.now in
    let new = c.declare.new.levels in
    let l = layer_of old id.space in
    let same : act_of (act.Declares c.get.result.now) ≡ act_of c.args.act.now =
    ap (λ (d : Declaration). act_of (act.Declares d)) c.get.ensures ∙ ap act_of (sym c.in-Declares.is) in
    subst (λ a. IsDone id (act_effect l a) old new true) same c.in_ok-declare-in-Declares.ensures.ok
