-- From what a client of a mounted array was served to what `nbd` does.
use Rattle.std.proofs.Common.{◌≡◌, ℕ, Option, sym, subst}
use Rattle.paraid_rack.specs.Slots.{Slot}
use Rattle.paraid_rack.specs.Trail.{Trail}
use Rattle.paraid_record.specs.declared.meta.Setup.{Setup}
use Rattle.paraid_session.specs.Faults.{HaveNotFallen}
use Rattle.paraid_session.proofs.FaultLemmas.{rose_later}
use Rattle.paraid_serve.specs.Calls.{IsNotDouble}
use Rattle.paraid_serve.specs.Causes.{Shown}
use Rattle.paraid_serve.specs.Streams.{streams_of}
use Rattle.paraid_serve.specs.Stretch.{span_of}
use Rattle.paraid_serve.specs.Uses.{RackUse, SinkUse, SourceUse}
use Rattle.paraid_service.specs.ClientCauses.{ClientCauses}
use Rattle.paraid_service.specs.Clients.{ClientHeadline, LosesTwo}
use Rattle.paraid_commands.specs.Clients.{ServesNbd}
use Rattle.paraid_commands.specs.Ends.{ServiceStart, shown_served}
use Rattle.paraid_commands.proofs.EndLemmas.{over_span}

-- no count fell in the mount
lost_since : (old first now : ℕ → Slot) → HaveNotFallen old first → LosesTwo first now → LosesTwo old now
lost_since old first now later l = record {
  two = l.two;
  lost = record { apart = l.lost.apart; second = rose_later (old l.two.second).faults (first l.two.second).faults (now l.two.second).faults (later l.two.second) l.lost.second };
}

pub nbd_over : (rack : RackUse) (source : SourceUse) (sink : SinkUse) (status : ℕ) (service : ServiceStart) (slots : ℕ) (setup : Setup) (first now : ℕ → Slot) (final : Option Trail)
    → slots ≡ rack.slots → setup ≡ service.array.meta.setup → rack.after ≡ final → rack.new ≡ now → HaveNotFallen rack.old first → (status ≡ 0 → IsNotDouble setup now) → (status ≡ 5 → LosesTwo first now)
    → (begun seen : Shown) → begun ≡ shown_served service.array → seen.slot ≡ rack.new → ClientCauses begun seen (streams_of source sink) status
    → ClientHeadline (span_of slots setup service.told final) service.began (streams_of source sink) status → ServesNbd rack source sink status service
nbd_over rack source sink status service slots setup first now final e same told slot_is later present two begun seen begins ends causes h = record {
  seen = seen;
  causes = subst (λ (y : Shown). ClientCauses y seen (streams_of source sink) status) begins causes;
  last = ends;
  headline = over_span rack service slots setup final e same told (λ span. ClientHeadline span service.began (streams_of source sink) status) h;
  present = λ zero. subst (λ (y : Setup). IsNotDouble y rack.new) same (subst (IsNotDouble setup) (sym slot_is) (present zero));
  two = λ five. subst (λ (y : ℕ → Slot). LosesTwo rack.old y) (sym slot_is) (lost_since rack.old first now later (two five));
}
