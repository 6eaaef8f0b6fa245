-- That threads may share a board, since machines may cross, and what the search says of branches and leaves.
use denote.RattleType.{RattleType}
use denote.Param.SendFields.{declared_send, declared_sync, variants_send, variants_sync, as_row_send, as_row_sync}
use denote.Struct.Field.{row_field}
use denote.Param.Send.{IsSend, IsSync, sendable, view_send, view_sync}
use Rattle.std.proofs.Crossing.{Vec-send, Vec-sync, Arc-send}
use Rattle.pool_state.specs.contracts.path.Path as path
use Rattle.pool_state.specs.declared.kind.SearchKind as search_kind
use Rattle.node_pool.specs.declared.tree.Tree as searched
use Rattle.oz_search.specs.contracts.tree.Kind as kind
use Rattle.oz_search.specs.contracts.tree.Report as report
use Rattle.oz_machine.specs.contracts.machine.Machine as machine
use Rattle.recompute.specs.declared.source.Source as source
use Rattle.recompute.specs.declared.placed.Start as start
use Rattle.recompute.specs.contracts.waypoint.Waypoint as waypoint
use Rattle.recompute.specs.contracts.placed.Placed as placed
use Rattle.recompute.specs.contracts.placed.Choice as choice
use Rattle.recompute.specs.contracts.board.Entry as entry
use Rattle.recompute.specs.contracts.board.Board as board

-- ---- a node with its machine

module _ (B L : RattleType) where
  report_send : IsSend L → IsSend (report.the_row L)
  report_send l = declared_send (report.the_type L) (variants_send (kind.enum L) ((search sendable, tt), ((as_row_send (row_field L) l, tt), tt)), (search sendable, tt))

  report_sync : IsSync L → IsSync (report.the_row L)
  report_sync l = declared_sync (report.the_type L) (variants_sync (kind.enum L) ((search sendable, tt), ((as_row_sync (row_field L) l, tt), tt)), (search sendable, tt))

  waypoint_send : IsSend machine.the_row → IsSend B → IsSend L → IsSend (waypoint.the_row B L)
  waypoint_send m b l = declared_send (waypoint.the_type B L) (as_row_send (row_field B) b, (m, (report_send l, tt)))

  waypoint_sync : IsSync machine.the_row → IsSync B → IsSync L → IsSync (waypoint.the_row B L)
  waypoint_sync m b l = declared_sync (waypoint.the_type B L) (as_row_sync (row_field B) b, (m, (report_sync l, tt)))

-- ---- a path, and the board

module _ (T S K B L F : RattleType) (its_source : source.Ghosts T.Denot K.Denot B.Denot L.Denot F.Denot) (its_tree : searched.Ghosts T.Denot K.Denot B.Denot L.Denot F.Denot)
    (its_kind : search_kind.Ghosts K.Denot B.Denot L.Denot F.Denot) (its : start.Ghosts S.Denot T.Denot) where
  path_send : IsSend B → IsSend (path.the_row K B L F its_kind)
  path_send b = view_send _ _ _ _ _ (declared_send (path.TheInside.the_type K B L F its_kind) (Vec-send B b, tt))

  path_sync : IsSync B → IsSync (path.the_row K B L F its_kind)
  path_sync b = view_sync _ _ _ _ _ (declared_sync (path.TheInside.the_type K B L F its_kind) (Vec-sync B b, tt))

  abbrev placed_row : RattleType
  placed_row = placed.the_row T S K B L F its_source its_tree its_kind its

  abbrev choice_row : RattleType
  choice_row = choice.the_row T S K B L F its_source its_tree its_kind its

  abbrev entry_row : RattleType
  entry_row = entry.the_row T S K B L F its_source its_tree its_kind its

  placed_send : IsSend machine.the_row → IsSend B → IsSend L → IsSend placed_row
  placed_send m b l = view_send _ _ _ _ _ (declared_send (placed.TheInside.the_type T S K B L F its_source its_tree its_kind its) (path_send b, (waypoint_send B L m b l, (search sendable depth 20, tt))))

  placed_sync : IsSync machine.the_row → IsSync B → IsSync L → IsSync placed_row
  placed_sync m b l = view_sync _ _ _ _ _ (declared_sync (placed.TheInside.the_type T S K B L F its_source its_tree its_kind its) (path_sync b, (waypoint_sync B L m b l, (search sendable depth 20, tt))))

  -- where machines, branches and leaves may cross
  pub board_send : IsSend machine.the_row → IsSync machine.the_row → IsSend B → IsSync B → IsSend L → IsSync L → IsSend (board.the_row T S K B L F its_source its_tree its_kind its)
  board_send m n b c l o =
      let shared : IsSend choice_row =
      view_send _ _ _ _ _ (declared_send (choice.TheInside.the_type T S K B L F its_source its_tree its_kind its) (Arc-send placed_row (placed_send m b l) (placed_sync n c o), tt)) in
      declared_send (board.the_type T S K B L F its_source its_tree its_kind its)
      (Vec-send entry_row (declared_send (entry.the_type T S K B L F its_source its_tree its_kind its) (shared, (search sendable, tt))), tt)
