use Rattle.std.proofs.Common.{◌≡◌, ◌∙◌, ap, sym}
use Rattle.oz_language.specs.Grammar.{Phrase, of_list, rec, binary, select, connected, relate, head, proc, fun, local, choose, arm, cases, cases_or, clause, attempt, body}
use Rattle.oz_language.specs.Refusals.{faults, faults_each, feature_faults, name_faults, variables_in, parameters_in, with_names, declaring}
use Rattle.oz_syntax.specs.declared.phrase.Phrase.TheOpen.{Phrase-F}
use Rattle.oz_syntax.specs.declared.phrase.Phrase.TheFolds.{fold-roll-Phrase}
use Rattle.oz_syntax.specs.View.{view, views, view_step}
use Rattle.oz_scope.proofs.Keeping.{two_kept, three_kept, each_step}
use Rattle.oz_scope.proofs.Naming.{faults_head}
use Rattle.oz_scope.proofs.checker.Checker.+phrases.Goals as goal

pub parts-returns-in_ok-phrase-in-Binary-clause-found : goal.parts-returns-in_ok-phrase-in-Binary-clause-found
unfolding Rattle.oz_syntax.specs.declared.phrase.Phrase.TheViews.roll-Phrase denote.Hole.Carrier.roll
parts-returns-in_ok-phrase-in-Binary-clause-found t c =
    let seen : view c.args.phrase.now ≡ binary c.in-Binary.operator (view c.deref-in-Binary.result.now) (view c.deref-in-Binary-2.result.now) =
    rw (c.deref-in-Binary.ensures, c.deref-in-Binary-2.ensures) (ap view c.in-Binary.is ∙ fold-roll-Phrase Phrase view_step (Phrase-F.Binary c.in-Binary.operator c.in-Binary.left c.in-Binary.right)) in
    rw seen
    (two_kept c.phrase-in-Binary-2.result (faults c.args.self.now.scope (view c.deref-in-Binary.result.now)) (faults c.args.self.now.scope (view c.deref-in-Binary-2.result.now))
    c.args.self.now.found c.phrase-in-Binary.new.self.found c.phrase-in-Binary-2.new.self.found
    c.in_ok-phrase-in-Binary.ensures.found (rw c.in_ok-phrase-in-Binary.ensures.scope at c.phrase-in-Binary-2.ensures.found))

pub parts-returns-in_ok-phrase-in-Select-clause-found : goal.parts-returns-in_ok-phrase-in-Select-clause-found
unfolding Rattle.oz_syntax.specs.declared.phrase.Phrase.TheViews.roll-Phrase denote.Hole.Carrier.roll
parts-returns-in_ok-phrase-in-Select-clause-found t c =
    let seen : view c.args.phrase.now ≡ select (view c.deref-in-Select.result.now) (view c.deref-in-Select-2.result.now) =
    rw (c.deref-in-Select.ensures, c.deref-in-Select-2.ensures) (ap view c.in-Select.is ∙ fold-roll-Phrase Phrase view_step (Phrase-F.Select c.in-Select.record c.in-Select.feature)) in
    rw seen
    (two_kept c.phrase-in-Select-2.result (faults c.args.self.now.scope (view c.deref-in-Select.result.now)) (faults c.args.self.now.scope (view c.deref-in-Select-2.result.now))
    c.args.self.now.found c.phrase-in-Select.new.self.found c.phrase-in-Select-2.new.self.found
    c.in_ok-phrase-in-Select.ensures.found (rw c.in_ok-phrase-in-Select.ensures.scope at c.phrase-in-Select-2.ensures.found))

pub parts-returns-in_ok-phrase-in-Connected-clause-found : goal.parts-returns-in_ok-phrase-in-Connected-clause-found
unfolding Rattle.oz_syntax.specs.declared.phrase.Phrase.TheViews.roll-Phrase denote.Hole.Carrier.roll
parts-returns-in_ok-phrase-in-Connected-clause-found t c =
    let seen : view c.args.phrase.now ≡ connected c.in-Connected.connective (view c.deref-in-Connected.result.now) (view c.deref-in-Connected-2.result.now) =
    rw (c.deref-in-Connected.ensures, c.deref-in-Connected-2.ensures) (ap view c.in-Connected.is ∙ fold-roll-Phrase Phrase view_step (Phrase-F.Connected c.in-Connected.connective c.in-Connected.left c.in-Connected.right)) in
    rw seen
    (two_kept c.phrase-in-Connected-2.result (faults c.args.self.now.scope (view c.deref-in-Connected.result.now)) (faults c.args.self.now.scope (view c.deref-in-Connected-2.result.now))
    c.args.self.now.found c.phrase-in-Connected.new.self.found c.phrase-in-Connected-2.new.self.found
    c.in_ok-phrase-in-Connected.ensures.found (rw c.in_ok-phrase-in-Connected.ensures.scope at c.phrase-in-Connected-2.ensures.found))

pub parts-returns-in_ok-phrase-in-Relate-clause-found : goal.parts-returns-in_ok-phrase-in-Relate-clause-found
unfolding Rattle.oz_syntax.specs.declared.phrase.Phrase.TheViews.roll-Phrase denote.Hole.Carrier.roll
parts-returns-in_ok-phrase-in-Relate-clause-found t c =
    let seen : view c.args.phrase.now ≡ relate c.in-Relate.comparison (view c.deref-in-Relate.result.now) (view c.deref-in-Relate-2.result.now) =
    rw (c.deref-in-Relate.ensures, c.deref-in-Relate-2.ensures) (ap view c.in-Relate.is ∙ fold-roll-Phrase Phrase view_step (Phrase-F.Relate c.in-Relate.comparison c.in-Relate.left c.in-Relate.right)) in
    rw seen
    (two_kept c.phrase-in-Relate-2.result (faults c.args.self.now.scope (view c.deref-in-Relate.result.now)) (faults c.args.self.now.scope (view c.deref-in-Relate-2.result.now))
    c.args.self.now.found c.phrase-in-Relate.new.self.found c.phrase-in-Relate-2.new.self.found
    c.in_ok-phrase-in-Relate.ensures.found (rw c.in_ok-phrase-in-Relate.ensures.scope at c.phrase-in-Relate-2.ensures.found))

pub parts-returns-in_ok-phrase-in-Arm-clause-found : goal.parts-returns-in_ok-phrase-in-Arm-clause-found
unfolding Rattle.oz_syntax.specs.declared.phrase.Phrase.TheViews.roll-Phrase denote.Hole.Carrier.roll
parts-returns-in_ok-phrase-in-Arm-clause-found t c =
    let seen : view c.args.phrase.now ≡ arm (view c.deref-in-Arm.result.now) (view c.deref-in-Arm-2.result.now) =
    rw (c.deref-in-Arm.ensures, c.deref-in-Arm-2.ensures) (ap view c.in-Arm.is ∙ fold-roll-Phrase Phrase view_step (Phrase-F.Arm c.in-Arm.condition c.in-Arm.body)) in
    rw seen
    (two_kept c.phrase-in-Arm-2.result (faults c.args.self.now.scope (view c.deref-in-Arm.result.now)) (faults c.args.self.now.scope (view c.deref-in-Arm-2.result.now))
    c.args.self.now.found c.phrase-in-Arm.new.self.found c.phrase-in-Arm-2.new.self.found
    c.in_ok-phrase-in-Arm.ensures.found (rw c.in_ok-phrase-in-Arm.ensures.scope at c.phrase-in-Arm-2.ensures.found))

pub parts-returns-in_ok-phrase-in-Case-clause-found : goal.parts-returns-in_ok-phrase-in-Case-clause-found
unfolding Rattle.oz_syntax.specs.declared.phrase.Phrase.TheViews.roll-Phrase denote.Hole.Carrier.roll
parts-returns-in_ok-phrase-in-Case-clause-found t c =
    let seen : view c.args.phrase.now ≡ cases c.in-Case.at (view c.deref-in-Case.result.now) (of_list (views c.deref-in-Case-2.result.now)) =
    rw (c.deref-in-Case.ensures, c.deref-in-Case-2.ensures.value) (ap view c.in-Case.is ∙ fold-roll-Phrase Phrase view_step (Phrase-F.Case c.in-Case.at c.in-Case.subject c.in-Case.clauses)) in
    rw seen
    (two_kept c.each-in-Case.result (faults c.args.self.now.scope (view c.deref-in-Case.result.now)) (faults_each c.args.self.now.scope (of_list (views c.deref-in-Case-2.result.now)))
    c.args.self.now.found c.phrase-in-Case.new.self.found c.each-in-Case.new.self.found
    c.in_ok-phrase-in-Case.ensures.found (rw c.in_ok-phrase-in-Case.ensures.scope at c.each-in-Case.ensures.found))

pub parts-returns-in_ok-phrase-in-Try-clause-found : goal.parts-returns-in_ok-phrase-in-Try-clause-found
unfolding Rattle.oz_syntax.specs.declared.phrase.Phrase.TheViews.roll-Phrase denote.Hole.Carrier.roll
parts-returns-in_ok-phrase-in-Try-clause-found t c =
    let seen : view c.args.phrase.now ≡ attempt (view c.deref-in-Try.result.now) (of_list (views c.deref-in-Try-2.result.now)) =
    rw (c.deref-in-Try.ensures, c.deref-in-Try-2.ensures.value) (ap view c.in-Try.is ∙ fold-roll-Phrase Phrase view_step (Phrase-F.Try c.in-Try.body c.in-Try.clauses)) in
    rw seen
    (two_kept c.each-in-Try.result (faults c.args.self.now.scope (view c.deref-in-Try.result.now)) (faults_each c.args.self.now.scope (of_list (views c.deref-in-Try-2.result.now)))
    c.args.self.now.found c.phrase-in-Try.new.self.found c.each-in-Try.new.self.found
    c.in_ok-phrase-in-Try.ensures.found (rw c.in_ok-phrase-in-Try.ensures.scope at c.each-in-Try.ensures.found))

pub parts-returns-in_ok-each-in-IfElse-clause-found : goal.parts-returns-in_ok-each-in-IfElse-clause-found
unfolding Rattle.oz_syntax.specs.declared.phrase.Phrase.TheViews.roll-Phrase denote.Hole.Carrier.roll
parts-returns-in_ok-each-in-IfElse-clause-found t c =
    let seen : view c.args.phrase.now ≡ choose c.in-IfElse.at (of_list (views c.deref-in-IfElse.result.now)) (view c.deref-in-IfElse-2.result.now) =
    rw (c.deref-in-IfElse.ensures.value, c.deref-in-IfElse-2.ensures) (ap view c.in-IfElse.is ∙ fold-roll-Phrase Phrase view_step (Phrase-F.IfElse c.in-IfElse.at c.in-IfElse.arms c.in-IfElse.otherwise)) in
    rw seen
    (two_kept c.phrase-in-IfElse.result (faults_each c.args.self.now.scope (of_list (views c.deref-in-IfElse.result.now))) (faults c.args.self.now.scope (view c.deref-in-IfElse-2.result.now))
    c.args.self.now.found c.each-in-IfElse.new.self.found c.phrase-in-IfElse.new.self.found
    c.in_ok-each-in-IfElse.ensures.found (rw c.in_ok-each-in-IfElse.ensures.scope at c.phrase-in-IfElse.ensures.found))

pub parts-returns-in_ok-declarations-in-Local-clause-found : goal.parts-returns-in_ok-declarations-in-Local-clause-found
unfolding Rattle.oz_syntax.specs.declared.phrase.Phrase.TheViews.roll-Phrase denote.Hole.Carrier.roll
parts-returns-in_ok-declarations-in-Local-clause-found t c =
    let seen : view c.args.phrase.now ≡ local c.in-Local.at (of_list (views c.deref-in-Local.result.now)) (view c.deref-in-Local-2.result.now) =
    rw (c.deref-in-Local.ensures.value, c.deref-in-Local-2.ensures) (ap view c.in-Local.is ∙ fold-roll-Phrase Phrase view_step (Phrase-F.Local c.in-Local.at c.in-Local.declarations c.in-Local.body)) in
    rw seen
    (two_kept c.phrase-in-Local.result (faults_each (declaring (of_list (views c.deref-in-Local.result.now)) c.args.self.now.scope) (of_list (views c.deref-in-Local.result.now))) (faults (declaring (of_list (views c.deref-in-Local.result.now)) c.args.self.now.scope) (view c.deref-in-Local-2.result.now))
    c.args.self.now.found c.declarations.new.self.found c.phrase-in-Local.new.self.found
    c.in_ok-declarations-in-Local.ensures.found (rw c.in_ok-declarations-in-Local.ensures.scope at c.phrase-in-Local.ensures.found))

pub parts-returns-in_ok-declarations-in-Body-clause-found : goal.parts-returns-in_ok-declarations-in-Body-clause-found
unfolding Rattle.oz_syntax.specs.declared.phrase.Phrase.TheViews.roll-Phrase denote.Hole.Carrier.roll
parts-returns-in_ok-declarations-in-Body-clause-found t c =
    let seen : view c.args.phrase.now ≡ body (of_list (views c.deref-in-Body.result.now)) (of_list (views c.deref-in-Body-2.result.now)) =
    rw (c.deref-in-Body.ensures.value, c.deref-in-Body-2.ensures.value) (ap view c.in-Body.is ∙ fold-roll-Phrase Phrase view_step (Phrase-F.Body c.in-Body.declarations c.in-Body.phrases)) in
    rw seen
    (two_kept c.each-in-Body.result (faults_each (declaring (of_list (views c.deref-in-Body.result.now)) c.args.self.now.scope) (of_list (views c.deref-in-Body.result.now))) (faults_each (declaring (of_list (views c.deref-in-Body.result.now)) c.args.self.now.scope) (of_list (views c.deref-in-Body-2.result.now)))
    c.args.self.now.found c.declarations-in-Body.new.self.found c.each-in-Body.new.self.found
    c.in_ok-declarations-in-Body.ensures.found (rw c.in_ok-declarations-in-Body.ensures.scope at c.each-in-Body.ensures.found))

pub parts-returns-in_ok-features-in-Record-clause-found : goal.parts-returns-in_ok-features-in-Record-clause-found
unfolding Rattle.oz_syntax.specs.declared.phrase.Phrase.TheViews.roll-Phrase denote.Hole.Carrier.roll
parts-returns-in_ok-features-in-Record-clause-found t c =
    let seen : view c.args.phrase.now ≡ rec c.in-Record.label c.in-Record.at (of_list (views c.deref.result.now)) =
    rw c.deref.ensures.value (ap view c.in-Record.is ∙ fold-roll-Phrase Phrase view_step (Phrase-F.Record c.in-Record.label c.in-Record.at c.in-Record.fields)) in
    let again : c.deref-in-Record.result.now ≡ c.deref.result.now = c.deref-in-Record.ensures.value ∙ sym c.deref.ensures.value in
    rw seen
    (two_kept c.each.result (feature_faults (of_list (views c.deref.result.now))) (faults_each c.args.self.now.scope (of_list (views c.deref.result.now)))
    c.args.self.now.found c.features.new.self.found c.each.new.self.found
    c.in_ok-features-in-Record.ensures.found (rw (c.in_ok-features-in-Record.ensures.scope, again) at c.each.ensures.found))

pub parts-returns-in-Head-clause-found : goal.parts-returns-in-Head-clause-found
unfolding Rattle.oz_syntax.specs.declared.phrase.Phrase.TheViews.roll-Phrase denote.Hole.Carrier.roll
parts-returns-in-Head-clause-found t c =
    let seen : view c.args.phrase.now ≡ head c.in-Head.at (of_list (views c.deref-in-Head.result.now)) =
    rw c.deref-in-Head.ensures.value (ap view c.in-Head.is ∙ fold-roll-Phrase Phrase view_step (Phrase-F.Head c.in-Head.at c.in-Head.names)) in
    rw (seen, faults_head c.args.self.now.scope c.in-Head.at (of_list (views c.deref-in-Head.result.now))) c.head.ensures.found

pub parts-returns-in_ok-enter_parameters-in-Proc-clause-found : goal.parts-returns-in_ok-enter_parameters-in-Proc-clause-found
unfolding Rattle.oz_syntax.specs.declared.phrase.Phrase.TheViews.roll-Phrase denote.Hole.Carrier.roll
parts-returns-in_ok-enter_parameters-in-Proc-clause-found t c =
    let seen : view c.args.phrase.now ≡ proc c.in-Proc.at (view c.deref-in-Proc.result.now) (view c.deref-in-Proc-3.result.now) =
    rw (c.deref-in-Proc.ensures, c.deref-in-Proc-3.ensures) (ap view c.in-Proc.is ∙ fold-roll-Phrase Phrase view_step (Phrase-F.Proc c.in-Proc.at c.in-Proc.head c.in-Proc.body)) in
    let again : c.deref-in-Proc-2.result.now ≡ c.deref-in-Proc.result.now = c.deref-in-Proc-2.ensures ∙ sym c.deref-in-Proc.ensures in
    rw seen
    (two_kept c.phrase-in-Proc-2.result (faults c.args.self.now.scope (view c.deref-in-Proc.result.now)) (faults (with_names (parameters_in (view c.deref-in-Proc.result.now)) c.args.self.now.scope) (view c.deref-in-Proc-3.result.now))
    c.args.self.now.found c.enter_parameters.new.self.found c.phrase-in-Proc-2.new.self.found
    (c.in_ok-enter_parameters-in-Proc.ensures.found ∙ c.in_ok-phrase-in-Proc.ensures.found)
    (rw (c.in_ok-enter_parameters-in-Proc.ensures.scope, c.in_ok-phrase-in-Proc.ensures.scope, again) at c.phrase-in-Proc-2.ensures.found))

pub parts-returns-in_ok-enter_parameters-in-Fun-clause-found : goal.parts-returns-in_ok-enter_parameters-in-Fun-clause-found
unfolding Rattle.oz_syntax.specs.declared.phrase.Phrase.TheViews.roll-Phrase denote.Hole.Carrier.roll
parts-returns-in_ok-enter_parameters-in-Fun-clause-found t c =
    let seen : view c.args.phrase.now ≡ fun c.in-Fun.at c.in-Fun.lazy (view c.deref-in-Fun.result.now) (view c.deref-in-Fun-3.result.now) =
    rw (c.deref-in-Fun.ensures, c.deref-in-Fun-3.ensures) (ap view c.in-Fun.is ∙ fold-roll-Phrase Phrase view_step (Phrase-F.Fun c.in-Fun.at c.in-Fun.lazy c.in-Fun.head c.in-Fun.body)) in
    let again : c.deref-in-Fun-2.result.now ≡ c.deref-in-Fun.result.now = c.deref-in-Fun-2.ensures ∙ sym c.deref-in-Fun.ensures in
    rw seen
    (two_kept c.phrase-in-Fun-2.result (faults c.args.self.now.scope (view c.deref-in-Fun.result.now)) (faults (with_names (parameters_in (view c.deref-in-Fun.result.now)) c.args.self.now.scope) (view c.deref-in-Fun-3.result.now))
    c.args.self.now.found c.enter_parameters-in-Fun.new.self.found c.phrase-in-Fun-2.new.self.found
    (c.in_ok-enter_parameters-in-Fun.ensures.found ∙ c.in_ok-phrase-in-Fun.ensures.found)
    (rw (c.in_ok-enter_parameters-in-Fun.ensures.scope, c.in_ok-phrase-in-Fun.ensures.scope, again) at c.phrase-in-Fun-2.ensures.found))

pub parts-returns-in_ok-each-in-CaseElse-clause-found : goal.parts-returns-in_ok-each-in-CaseElse-clause-found
unfolding Rattle.oz_syntax.specs.declared.phrase.Phrase.TheViews.roll-Phrase denote.Hole.Carrier.roll
parts-returns-in_ok-each-in-CaseElse-clause-found t c =
    let seen : view c.args.phrase.now ≡ cases_or c.in-CaseElse.at (view c.deref-in-CaseElse.result.now) (of_list (views c.deref-in-CaseElse-2.result.now)) (view c.deref-in-CaseElse-3.result.now) =
    rw (c.deref-in-CaseElse.ensures, c.deref-in-CaseElse-2.ensures.value, c.deref-in-CaseElse-3.ensures) (ap view c.in-CaseElse.is ∙ fold-roll-Phrase Phrase view_step (Phrase-F.CaseElse c.in-CaseElse.at c.in-CaseElse.subject c.in-CaseElse.clauses c.in-CaseElse.otherwise)) in
    rw seen
    (three_kept c.phrase-in-CaseElse-2.result (faults c.args.self.now.scope (view c.deref-in-CaseElse.result.now)) (faults_each c.args.self.now.scope (of_list (views c.deref-in-CaseElse-2.result.now))) (faults c.args.self.now.scope (view c.deref-in-CaseElse-3.result.now))
    c.args.self.now.found c.phrase-in-CaseElse.new.self.found c.each-in-CaseElse.new.self.found c.phrase-in-CaseElse-2.new.self.found
    c.in_ok-phrase-in-CaseElse.ensures.found (rw c.in_ok-phrase-in-CaseElse.ensures.scope at c.in_ok-each-in-CaseElse.ensures.found)
    (rw (c.in_ok-each-in-CaseElse.ensures.scope, c.in_ok-phrase-in-CaseElse.ensures.scope) at c.phrase-in-CaseElse-2.ensures.found))

pub parts-returns-in_ok-phrase-in-Clause-clause-found : goal.parts-returns-in_ok-phrase-in-Clause-clause-found
unfolding Rattle.oz_syntax.specs.declared.phrase.Phrase.TheViews.roll-Phrase denote.Hole.Carrier.roll
parts-returns-in_ok-phrase-in-Clause-clause-found t c =
    let seen : view c.args.phrase.now ≡ clause (view c.deref-in-Clause.result.now) (view c.deref-in-Clause-3.result.now) =
    rw (c.deref-in-Clause.ensures, c.deref-in-Clause-3.ensures) (ap view c.in-Clause.is ∙ fold-roll-Phrase Phrase view_step (Phrase-F.Clause c.in-Clause.pattern c.in-Clause.body)) in
    let again : c.deref-in-Clause-2.result.now ≡ c.deref-in-Clause.result.now = c.deref-in-Clause-2.ensures ∙ sym c.deref-in-Clause.ensures in
    rw seen
    (three_kept c.phrase-in-Clause-2.result (name_faults (variables_in (view c.deref-in-Clause.result.now))) (faults (with_names (variables_in (view c.deref-in-Clause.result.now)) c.args.self.now.scope) (view c.deref-in-Clause.result.now)) (faults (with_names (variables_in (view c.deref-in-Clause.result.now)) c.args.self.now.scope) (view c.deref-in-Clause-3.result.now))
    c.args.self.now.found c.pattern.new.self.found c.phrase-in-Clause.new.self.found c.phrase-in-Clause-2.new.self.found
    c.in_ok-pattern-in-Clause.ensures.found (rw (c.in_ok-pattern-in-Clause.ensures.scope, again) at c.in_ok-phrase-in-Clause.ensures.found)
    (rw (c.in_ok-phrase-in-Clause.ensures.scope, c.in_ok-pattern-in-Clause.ensures.scope) at c.phrase-in-Clause-2.ensures.found))

pub each-phrases-preserved : goal.each-phrases-preserved
each-phrases-preserved t c = (
  each_step c.args.self.now.scope c.args.phrases.now c.phrases.phrase-index c.phrase-item.result c.phrases.self.found c.phrase.new.self.found c.phrases-test.true c.phrase-item.is
      (rw c.phrases.invariant.1 at c.in_ok-phrase.ensures.found)
      ∙ c.phrases.invariant.0,
  c.in_ok-phrase.ensures.scope ∙ c.phrases.invariant.1,
)
