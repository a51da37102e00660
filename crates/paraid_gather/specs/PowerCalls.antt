-- The calls that turn a disk on or off, or put one into its slot.
use Rattle.std.specs.Prelude.{◌≡◌, List, [], ◌∷◌, ◌++◌}
use Rattle.paraid_rack.specs.declared.call.Call.{Call}
use Rattle.paraid_rack.specs.declared.call.Call.TheVariants.{Read, Write, Sync, Park, SpinUp, Attach}
use Rattle.paraid_rack.specs.Disks.{Disks}

-- such a call alone, and no call for another
abbrev pub power_call_of : Call → List Call
power_call_of (Read d p done) = []
power_call_of (Write d p b done) = []
power_call_of (Sync d done) = []
power_call_of (Park d done) = Park d done ∷ []
power_call_of (SpinUp d done) = SpinUp d done ∷ []
power_call_of (Attach d size done) = Attach d size done ∷ []

-- the parks, spin-ups and attaches among these calls
abbrev pub power_calls : List Call → List Call
power_calls [] = []
power_calls (c ∷ cs) = power_call_of c ++ power_calls cs

-- calls with the same parks, spin-ups and attaches as those
abbrev pub PowersAs : List Call → Disks → List Call → Type 0
PowersAs those s calls = power_calls calls ≡ power_calls those
