use Rattle.std.proofs.Common.{◌∙◌, Some, ap}
use Rattle.std.proofs.lemmas.Result.{IfOk-weaker}
use Rattle.oz_domains.specs.Domains.{IntSet}
use Rattle.term_store.proofs.CutLaws.{meet_empty, meet_same, meet_changed, meet_left}
use Rattle.term_store.proofs.class_domain.intersection.Goals as goal

pub returns-in-Empty : goal.returns-in-Empty
returns-in-Empty c =
    ap (λ (s : IntSet). Some s)
    (meet_empty c.args.one.now c.args.other.now c.in_ok-domain.domain c.meet.new.self c.domain-2.result.now c.in_ok-cut.cut (c.in_ok-domain.ensures ∙ c.domain.ensures.domain) c.domain-2.ensures.domain c.in_ok-cut.ensures.kept c.in-Empty.is)

pub returns-in-Same : goal.returns-in-Same
returns-in-Same c =
    IfOk-weaker c.shared.result _ _
    (meet_left c.args.one.now c.args.other.now c.meet.new.self
    (meet_same c.args.one.now c.args.other.now c.in_ok-domain.domain c.meet.new.self c.domain-2.result.now c.in_ok-cut.cut (c.in_ok-domain.ensures ∙ c.domain.ensures.domain) c.domain-2.ensures.domain c.in_ok-cut.ensures.kept c.in-Same.is)
    c.min.ensures.domain)
    c.shared.ensures

pub returns-in-Changed : goal.returns-in-Changed
returns-in-Changed c =
    IfOk-weaker c.shared-in-Changed.result _ _
    (meet_left c.args.one.now c.args.other.now c.meet.new.self
    (meet_changed c.args.one.now c.args.other.now c.in_ok-domain.domain c.meet.new.self c.domain-2.result.now c.in_ok-cut.cut (c.in_ok-domain.ensures ∙ c.domain.ensures.domain) c.domain-2.ensures.domain c.in_ok-cut.ensures.kept c.in-Changed.is)
    c.min.ensures.domain)
    c.shared-in-Changed.ensures
