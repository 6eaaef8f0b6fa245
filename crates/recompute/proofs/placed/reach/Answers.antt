use Rattle.std.proofs.Common.{◌≡◌, [], ◌∷◌, ◌++◌, ℕ, List, Some, None, length, sym, ap, subst, ◌∙◌}
use Rattle.recompute.specs.Origins.{Origin, met_by}
use Rattle.recompute.specs.Places.{StandsAt}
use Rattle.recompute.specs.Ways.{answer_of, Opens, MakesNode}
use Rattle.recompute.specs.declared.explorer.Solved.TheVariants.{NotANode, OutOfFuel}
use Rattle.recompute.proofs.PlaceLaws.{child_refused, child_short, child_stands, stands_solved}
use Rattle.recompute.proofs.placed.reach.Goals as goal

pub solved-requires : goal.solved-requires
solved-requires g c =
    let at = c.requires.machine.2 in
    let opens = rw c.in-Some.is at at.opens in
    opens.1 ∙ at.stands.0 ∙ sym (ap (λ (x : g.row.T.Denot). (g.T.Source.origin x).kernel) c.requires.start)

pub returns-in_default : goal.returns-in_default
returns-in_default g c =
    let k = g.T.Kind.SearchKind.search in
    let start = g.S.Start.start in
    let m = g.T.Source.maker start in
    let o = g.T.Source.origin start in
    let goes = c.requires.machine.1 in
    let at = c.requires.machine.2 in
    let opens : Opens k m at.node c.args.branch None = rw c.in_default.is at at.opens in
    subst (λ (p : List g.row.T-Kind-Branch.Denot). c.without_choice.result.solved ≡ answer_of (met_by k m o o.budget p)) (sym goes)
    (c.without_choice.ensures ∙ ap (λ (n : ℕ). NotANode n) (c.len-at.ensures ∙ ap length goes) ∙ child_refused k m o c.args.branch c.requires.machine.0 at.node at.stands opens)

pub found_node-requires : goal.found_node-requires
found_node-requires g c =
    let k = g.T.Kind.SearchKind.search in
    let start = g.S.Start.start in
    let m = g.T.Source.maker start in
    let o = g.T.Source.origin start in
    let at = c.requires.machine.2 in
    let opens : Opens k m at.node c.args.branch (Some c.in-Some.machine) = rw c.in-Some.is at at.opens in
    let made : MakesNode m c.args.branch c.budget.result c.in-Some.machine (Some c.in-Some-2.node) =
    subst (λ (x : g.row.T.Denot). MakesNode (g.T.Source.maker x) c.args.branch c.budget.result c.in-Some.machine (Some c.in-Some-2.node)) c.requires.start (rw c.in-Some-2.is at c.in_ok-solved.ensures) in
    let fuel : c.budget.result ≡ o.budget = c.budget.ensures.budget ∙ ap (λ (q : Origin). q.budget) (c.frozen.ensures ∙ ap g.T.Source.origin c.requires.start) in
    subst (λ (p : List g.row.T-Kind-Branch.Denot). StandsAt k m o p c.in-Some-2.node) (sym c.requires.machine.1)
    (child_stands k m (g.met.T.Source.makes start) o c.budget.result c.args.branch c.requires.machine.0 at.node c.in-Some-2.node c.in-Some.machine fuel at.stands opens made)

pub returns-in-None : goal.returns-in-None
returns-in-None g c =
    let k = g.T.Kind.SearchKind.search in
    let start = g.S.Start.start in
    let m = g.T.Source.maker start in
    let o = g.T.Source.origin start in
    let goes = c.requires.machine.1 in
    let at = c.requires.machine.2 in
    let opens : Opens k m at.node c.args.branch (Some c.in-Some.machine) = rw c.in-Some.is at at.opens in
    let made : MakesNode m c.args.branch c.budget.result c.in-Some.machine None =
    subst (λ (x : g.row.T.Denot). MakesNode (g.T.Source.maker x) c.args.branch c.budget.result c.in-Some.machine None) c.requires.start (rw c.in-None.is at c.in_ok-solved.ensures) in
    let fuel : c.budget.result ≡ o.budget = c.budget.ensures.budget ∙ ap (λ (q : Origin). q.budget) (c.frozen.ensures ∙ ap g.T.Source.origin c.requires.start) in
    let short = child_short k m (g.met.T.Source.makes start) o c.budget.result c.args.branch c.requires.machine.0 at.node c.in-Some.machine fuel at.stands opens made in
    subst (λ (p : List g.row.T-Kind-Branch.Denot). c.without_choice-in-None.result.solved ≡ answer_of (met_by k m o o.budget p)) (sym goes)
    (c.without_choice-in-None.ensures ∙ ap (λ (n : ℕ). OutOfFuel n) (c.len-at.ensures ∙ ap length goes) ∙ short)

pub returns-in-Some-2 : goal.returns-in-Some-2
returns-in-Some-2 g c =
    let k = g.T.Kind.SearchKind.search in
    let start = g.S.Start.start in
    let m = g.T.Source.maker start in
    let o = g.T.Source.origin start in
    let goes = c.requires.machine.1 in
    let at = c.requires.machine.2 in
    let opens : Opens k m at.node c.args.branch (Some c.in-Some.machine) = rw c.in-Some.is at at.opens in
    let made : MakesNode m c.args.branch c.budget.result c.in-Some.machine (Some c.in-Some-2.node) =
    subst (λ (x : g.row.T.Denot). MakesNode (g.T.Source.maker x) c.args.branch c.budget.result c.in-Some.machine (Some c.in-Some-2.node)) c.requires.start (rw c.in-Some-2.is at c.in_ok-solved.ensures) in
    let fuel : c.budget.result ≡ o.budget = c.budget.ensures.budget ∙ ap (λ (q : Origin). q.budget) (c.frozen.ensures ∙ ap g.T.Source.origin c.requires.start) in
    let stands = child_stands k m (g.met.T.Source.makes start) o c.budget.result c.args.branch c.requires.machine.0 at.node c.in-Some-2.node c.in-Some.machine fuel at.stands opens made in
    subst (λ (p : List g.row.T-Kind-Branch.Denot). c.found_node.result.solved ≡ answer_of (met_by k m o o.budget p)) (sym goes)
    (c.found_node.ensures ∙ stands_solved k m o (c.requires.machine.0 ++ c.args.branch ∷ []) c.in-Some-2.node stands)
