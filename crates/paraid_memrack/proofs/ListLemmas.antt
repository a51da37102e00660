-- What a list of calls beside a rack tells.
use Rattle.std.proofs.Common.{◌≡◌, Bool, true, false, List, map, Option, Some, refl, ◌∙◌, ap}
use Rattle.paraid_rack.specs.declared.call.Call.{Call}
use Rattle.paraid_rack.specs.Told.{GrowsByCall}
use Rattle.paraid_rack.specs.Trail.{Beginning, Trail}
use Rattle.paraid_memrack.specs.declared.log.Start.{Start}
use Rattle.paraid_memrack.specs.Tells.{told_by, beginning_of}
use Rattle.paraid_memrack.proofs.NoteLemmas.{none_some}

-- the same start and the same calls tell the same
pub told_alike : (tells : Bool) (start start' : List Start) (calls calls' : List Call) → map beginning_of start' ≡ map beginning_of start → calls' ≡ calls → told_by tells start' calls' ≡ told_by tells start calls
unfolding told_by
told_alike true start start' calls calls' begun same =
    ap (λ (b : List Beginning). Some (record { start = b; calls = calls' })) begun ∙ ap (λ (l : List Call). Some (record { start = map beginning_of start; calls = l })) same
told_alike false start start' calls calls' begun same = refl

-- where nothing is told from now on, no call more is told
pub tells_no_more : (told : Option Trail) (start : List Start) (calls : List Call) (c : Call) → GrowsByCall told (told_by false start calls) c
unfolding told_by
tells_no_more told start calls c t is = absurd (none_some is)
