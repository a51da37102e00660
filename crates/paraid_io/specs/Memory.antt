-- What contracts see of the sources and the sink in memory. Each tells all that it has.
use Rattle.std.specs.Prelude.{ℕ, List, drop}
use Rattle.paraid_io.specs.declared.memory.MemSource.{MemSource}
use Rattle.paraid_io.specs.declared.memory.SureSource.{SureSource}
use Rattle.paraid_io.specs.declared.memory.MemSink.{MemSink}

-- the bytes that are left, of a source that never fails
abbrev pub left_in_sure : SureSource → List ℕ
left_in_sure s = drop s.at s.bytes.items

-- the bytes that are left
abbrev pub left_in : MemSource → List ℕ
left_in s = left_in_sure s.source

-- how many calls have failed
abbrev pub faults_in : MemSource → ℕ
faults_in s = s.plan.faults

-- how many calls were made
abbrev pub calls_in : MemSource → ℕ
calls_in s = s.plan.calls

-- the numbers of the calls that fail
abbrev pub fails_in : MemSource → List ℕ
fails_in s = s.plan.fails.items

-- the bytes that were written
abbrev pub written_to : MemSink → List ℕ
written_to s = s.bytes.items

-- how many calls have failed
abbrev pub faults_of : MemSink → ℕ
faults_of s = s.plan.faults

-- how many calls were made
abbrev pub calls_to : MemSink → ℕ
calls_to s = s.plan.calls

-- the numbers of the calls that fail
abbrev pub fails_of : MemSink → List ℕ
fails_of s = s.plan.fails.items

-- how many bytes it takes in all
abbrev pub capacity_of : MemSink → ℕ
capacity_of s = s.capacity
