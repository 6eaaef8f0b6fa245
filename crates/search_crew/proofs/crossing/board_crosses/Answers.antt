use denote.Param.{param, copied}
use Rattle.search_crew.proofs.BoardLaws.{board_send}
use Rattle.search_crew.proofs.crossing.board_crosses.Goals as goal

pub returns : goal.returns
returns g c =
    board_send (param 0 g.row.T) (param 1 g.row.S) (param 2 g.row.T-Kind) (copied 3 g.row.T-Kind-Branch) (param 4 g.row.T-Kind-Leaf) (copied 5 g.row.T-Kind-SoFar)
    (record { origin = g.T.Source.origin; maker = g.T.Source.maker }) (record { within = g.T.Tree.within }) g.T.Kind.SearchKind g.S.Start
    c.machine_crosses.ensures.send c.machine_crosses.ensures.sync
    c.type_bounds.send-T-Kind-Branch c.type_bounds.sync-T-Kind-Branch c.type_bounds.send-T-Kind-Leaf c.type_bounds.sync-T-Kind-Leaf
