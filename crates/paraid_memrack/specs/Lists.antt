-- What a list of calls beside a rack tells.
use Rattle.std.specs.Prelude.{List, Option}
use Rattle.paraid_rack.specs.declared.call.Call.{Call}
use Rattle.paraid_rack.specs.Trail.{Trail}
use Rattle.paraid_memrack.specs.declared.list.CallList.{CallList}
use Rattle.paraid_memrack.specs.Tells.{told_by}

-- the calls that are noted
abbrev pub noted_calls : CallList → List Call
noted_calls l = l.calls.items

-- the start and the calls that are noted, where it tells
abbrev pub noted_in : CallList → Option Trail
noted_in l = told_by l.tells l.start.items l.calls.items
