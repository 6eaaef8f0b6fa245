use Rattle.edit_laws.proofs.ViewLaws as views
use Rattle.edit_laws.proofs.CopySights as copies
use Rattle.edit_laws.proofs.MergeSights as takes
use Rattle.edit_laws.proofs.ToldSights as told
use Rattle.edit_laws.proofs.OutsideLaws as outside
use Rattle.edit_laws.proofs.edit_sight_law.Goals as goal

pub returns : goal.returns
returns c = record {
  parts = views.view_parts;
  from = views.from_parts;
  last = views.tell_last;
  injection = views.injection_unseen;
  copy_unseen = copies.copy_unseen;
  copy_seen = copies.copy_seen;
  copy_renamed = copies.copy_renamed;
  copy_named = outside.copy_named;
  clone_unseen = told.clone_unseen;
  clone_beside = told.clone_beside;
  clone_seen = told.clone_seen;
  clone_below = told.clone_below;
  taken_unseen = takes.taken_unseen;
  taken_away = takes.taken_away;
  taken_seen = takes.taken_seen;
  merge_unseen = told.merge_unseen;
  merge_beside = told.merge_beside;
  merge_seen = told.merge_seen;
  merge_below = told.merge_below;
  merge_renamed = told.merge_renamed;
  merge_named = outside.merge_named;
}
