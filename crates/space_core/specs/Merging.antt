-- A space that becomes a part of its parent.
use Rattle.std.specs.Prelude.{ℕ, ◌≡◌, ◌+◌, ◌-◌, true, [], ◌++◌, map, drop}
use Rattle.oz_semantics.specs.Configurations.{with_frames}
use Rattle.oz_semantics.specs.Renamings as meant
use Rattle.oz_semantics.specs.Renamings.{renamed_thread, renamed_layer}
use Rattle.oz_semantics.specs.Edits.{joined, merged_away}
use Rattle.oz_semantics.specs.declared.configuration.Thread.{Thread}
use Rattle.oz_semantics.specs.declared.configuration.Layer.{Layer}
use Rattle.space_core.specs.Shown.{shown}
use Rattle.space_core.specs.Threads.{Running}
use Rattle.space_core.specs.declared.level.Level.{Level}

-- a thread's number, behind those that were given out
abbrev pub raised_by : ℕ → Thread → Thread
raised_by by t = record t { number = t.number + by }

-- the threads of another space come to these, under other names and with greater numbers
abbrev pub with_joined : meant.Renaming → Running → Running → Running
with_joined r other own =
    record {
      list = own.list ++ map (raised_by (own.next - 1)) (map (renamed_thread r) other.list);
      next = own.next + (other.next - 1);
    }

-- the statement on top of a thread's stack was taken off, and all that is in another space came to what is in the thread's
abbrev pub joining_by : meant.Renaming → Layer → ℕ → Layer → Layer
joining_by r other number l = joined (renamed_layer r other) (with_frames number (λ stack. drop 1 stack) l)

-- of the space its name is left, and nothing is kept of what it sees
pub record IsMergedAway (old new : Level) : Type 0 where
  pub shows : shown new ≡ merged_away (shown old)
  pub store : new.constraints.store ≡ []
  pub touched : new.touched ≡ []
  pub bare : new.bare ≡ true
