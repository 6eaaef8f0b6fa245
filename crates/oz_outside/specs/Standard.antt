-- What a clause reads of a source or a sink over std.
use Rattle.std.specs.Prelude.{ℕ}
use Rattle.oz_outside.specs.declared.standard.StdSource.{StdSource}
use Rattle.oz_outside.specs.declared.standard.StdSink.{StdSink}

-- the reader that a source passes on
abbrev pub source_reader : {R : Type 0} → StdSource R → R
source_reader s = s.reader

-- how many reads failed
abbrev pub source_faults : {R : Type 0} → StdSource R → ℕ
source_faults s = s.faults

-- the writer that a sink passes on
abbrev pub sink_writer : {W : Type 0} → StdSink W → W
sink_writer s = s.writer

-- how many writes failed
abbrev pub sink_faults : {W : Type 0} → StdSink W → ℕ
sink_faults s = s.faults
