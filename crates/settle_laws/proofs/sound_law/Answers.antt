use Rattle.settle_laws.proofs.SoundLaws.{sound_nothing, sound_top, sound_settles, quiet_stays_sound, left_tree, left_sound, settled_sound, created_sound, committed_sound, committed_settles, followed_left, followed_settles}
use Rattle.settle_laws.proofs.TreeSteps.{step_tree, step_sound, turn_tree, turn_sound}
use Rattle.settle_laws.proofs.sound_law.Goals as goal

pub returns : goal.returns
returns c =
    record {
      nothing = sound_nothing;
      top = sound_top;
      settles = sound_settles;
      quiet = quiet_stays_sound;
      tree = left_tree;
      left = left_sound;
      settled = settled_sound;
      step_tree = step_tree;
      step = step_sound;
      turn_tree = turn_tree;
      turn = turn_sound;
      created = created_sound;
      committed = committed_sound;
      committed_settles = committed_settles;
      followed = followed_left;
      followed_settles = followed_settles;
    }
