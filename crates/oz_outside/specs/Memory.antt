-- Sources and sinks in memory, as their callers see them.
use Rattle.std.specs.Prelude.{ℕ, List}

-- a source: the bytes that are left, the most that one call hands over, the numbers of the calls that fail
-- (from 1), and how many calls were made and how many of them failed
pub record Supply : Type 0 where
  pub left : List ℕ
  pub chunk : ℕ
  pub fails : List ℕ
  pub calls : ℕ
  pub faults : ℕ

-- a sink: the bytes written so far, the most that it has room for, the most that one call takes, the numbers of
-- the calls that fail (from 1), and how many calls were made and how many of them failed
pub record Store : Type 0 where
  pub written : List ℕ
  pub room : ℕ
  pub chunk : ℕ
  pub fails : List ℕ
  pub calls : ℕ
  pub faults : ℕ
