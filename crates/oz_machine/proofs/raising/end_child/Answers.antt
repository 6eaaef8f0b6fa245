use Rattle.std.proofs.Common.{◌≡◌, ◌∙◌, Bool, ap, subst, if◌then◌else◌}
use Rattle.oz_semantics.specs.Configurations.{view, ending, failed, raised_by}
use Rattle.oz_semantics.specs.Exceptions.{is_failure}
use Rattle.oz_semantics.specs.Steps.{ended_by}
use Rattle.oz_semantics.specs.declared.configuration.Layer.{Layer}
use Rattle.settle_laws.specs.Settles.{Settles}
use Rattle.settle_laws.proofs.SettleLaws.{keeps_view, ends_same, nothing_fails}
use Rattle.oz_machine.proofs.raising.end_child.Goals as goal

pub returns-clause-turn : goal.returns-clause-turn
returns-clause-turn c = λ statements before h.
    let id = c.args.id.now in
    let s = id.space in
    let x = c.args.exception in
    let old = c.args.course.now.levels in
    let sees : view old s ≡ view before s = keeps_view s before old h in
    let fails : c.fails-fails.result ≡ is_failure (view before s) x = c.fails-fails.ensures c.requires.there ∙ ap (λ ts. is_failure ts x) sees in
    let how : (Layer → Layer) = λ l. if c.fails-fails.result then failed l else raised_by x l in
    let as_defined : ending s how before ≡ ending s (ended_by (view before s) x) before = ap (λ (b : Bool). ending s (λ l. if b then failed l else raised_by x l) before) fails in
    let ended : c.end_levels.new.levels ≡ ending s (ended_by (view before s) x) before = c.end_levels.ensures ∙ ends_same s how before old h ∙ as_defined in
    let none = nothing_fails s c.end_levels.new.levels c.consistent.ensures in
    let left : Settles s (ending s (ended_by (view before s) x) before) c.end_levels.new.levels = subst (λ ls. Settles s ls c.end_levels.new.levels) ended none in
    rw c.requires.child (c.follow.ensures.turn statements id (ending s (ended_by (view before s) x) before) c.requires.head left)
