use Rattle.edit_laws.proofs.CopySights.{copied_layer, copied_other}
use Rattle.edit_laws.proofs.MergeSights.{taken_layer, taken_gone, taken_child, taken_parent, taken_other}
use Rattle.edit_laws.proofs.edit_layer_law.Goals as goal

pub returns : goal.returns
returns c = record {
  copied = copied_layer;
  copied_other = copied_other;
  taken = taken_layer;
  gone = taken_gone;
  child = taken_child;
  parent = taken_parent;
  taken_other = taken_other;
}
