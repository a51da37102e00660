-- What contracts see of a source over a reader, and of a sink over a writer
use Rattle.std.specs.Prelude.{ℕ}
use Rattle.paraid_io.specs.declared.stdio.StdSource.{StdSource}
use Rattle.paraid_io.specs.declared.stdio.StdSink.{StdSink}

-- the reader that a source is over
abbrev pub reader_of : {R : Type 0} → StdSource R → R
reader_of s = s.reader

-- how many calls of a source over a reader have failed
abbrev pub read_faults : {R : Type 0} → StdSource R → ℕ
read_faults s = s.faults

-- the writer that a sink is over
abbrev pub writer_of : {W : Type 0} → StdSink W → W
writer_of s = s.writer

-- how many calls of a sink over a writer have failed
abbrev pub write_faults : {W : Type 0} → StdSink W → ℕ
write_faults s = s.faults
