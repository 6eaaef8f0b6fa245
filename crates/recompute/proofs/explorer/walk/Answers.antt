use Rattle.std.proofs.Common.{sym, ap, ◌∙◌}
use Rattle.recompute.specs.Ways.{met_on, answer_of}
use Rattle.recompute.proofs.explorer.walk.Goals as goal

pub returns-in-Some-clause-solved : goal.returns-in-Some-clause-solved
returns-in-Some-clause-solved g c = (rw c.in-Some.is at c.in_ok-stopped.ensures.goes c.go_back-rest.result.now) ∙ ap answer_of c.go_back-rest.ensures.rest

pub path-init : goal.path-init
path-init g c = record {
  way = c.begin.ensures.way;
  begun = c.in_ok-stopped.ensures.begun c.in_default.is;
  met = sym (rw c.in_default.is at c.in_ok-stopped.ensures.goes c.go_back-rest.result.now) ∙ c.go_back-rest.ensures.rest;
}

pub returns-in-Some-2-clause-solved : goal.returns-in-Some-2-clause-solved
returns-in-Some-2-clause-solved g c =
    let x = c.args.source.now in
    (rw c.in-Some-2.is at c.in_ok-stopped-2.ensures.goes c.in-Some-split_first.further.now)
    ∙ ap answer_of (ap (met_on g.T.Kind.SearchKind.search (g.T.Source.maker x) (g.T.Source.origin x) c.args.fuel c.path.way.items) (sym c.in-Some-split_first.ensures.cases.0) ∙ c.path.invariant.met)

pub path-preserved : goal.path-preserved
path-preserved g c = let x = c.args.source.now in record {
  way = c.go_down.ensures.way;
  begun = c.go_down.ensures.begun;
  met =
      sym (rw c.in_default-2.is at c.in_ok-stopped-2.ensures.goes c.in-Some-split_first.further.now)
      ∙ ap (met_on g.T.Kind.SearchKind.search (g.T.Source.maker x) (g.T.Source.origin x) c.args.fuel c.path.way.items) (sym c.in-Some-split_first.ensures.cases.0)
      ∙ c.path.invariant.met;
}

pub returns-in_err-report-clause-way : goal.returns-in_err-report-clause-way
returns-in_err-report-clause-way g c = let x = c.args.source.now in c.last_report.ensures.way (g.T.Source.maker x) (g.T.Source.origin x) c.path.invariant.way

pub returns-clause-way : goal.returns-clause-way
returns-clause-way g c = let x = c.args.source.now in c.last_report.ensures.way (g.T.Source.maker x) (g.T.Source.origin x) c.path.invariant.way
