-- From what a mounted array does to what the program does.
use Rattle.std.proofs.Common.{◌≡◌, ℕ, ◌⊎◌, List, length, Option, Some, None, inl, inr, ap, sym, subst}
use Rattle.paraid_recover.specs.declared.mount_fault.MountFault.{MountFault}
use Rattle.paraid_recover.specs.declared.mount_fault.MountFault.TheVariants.{NotFormatted, BadLog, BadMeta, Size, Power, Two as TwoDown, Worn, NoMemory}
use Rattle.paraid_rack.specs.Slots.{Slot}
use Rattle.paraid_rack.specs.Trail.{Trail, moments}
use Rattle.paraid_rack.specs.Told.{Extends}
use Rattle.paraid_record.specs.declared.meta.Setup.{Setup}
use Rattle.paraid_session.specs.Faults.{HaveNotFallen}
use Rattle.paraid_serve.specs.Ending.{EndsWithLine}
use Rattle.paraid_serve.specs.Calls.{IsNotDouble}
use Rattle.paraid_serve.specs.Causes.{Shown}
use Rattle.paraid_serve.specs.Lost.{NamesTwoLost, TellsWear}
use Rattle.paraid_serve.specs.Output.{Headline, IsServedStatus}
use Rattle.paraid_serve.specs.Streams.{streams_of}
use Rattle.paraid_serve.specs.Stretch.{Span, span_of}
use Rattle.paraid_serve.specs.Uses.{RackUse, SinkUse, SourceUse}
use Rattle.paraid_serve.proofs.HaltLemmas.{names_since}
use Rattle.paraid_commands.specs.Statuses.{gen_statuses, run_statuses}
use Rattle.paraid_serve.specs.Statuses.{IsOneOf}
use Rattle.paraid_commands.specs.Generating.{GenHeadline, IsGenStatus}
use Rattle.paraid_commands.specs.MountFaults.{mount_fault_status}
use Rattle.paraid_commands.specs.Showing.{BeganAt}
use Rattle.paraid_commands.specs.Spares.{ServesSpares}
use Rattle.paraid_sparing.specs.Output.{SparedHeadline}
use Rattle.paraid_sparing.specs.Sparing.{Supply}
use Rattle.paraid_commands.specs.Ends.{BeginsAt, IsEndOver, ServedArray, ServesGenerated, ServesLines, ServiceStart, served_span, shown_served}

-- the moment at which a record ends, or the first one where none is told
abbrev pub end_moment : Option Trail → ℕ
end_moment None = 0
end_moment (Some t) = moments t

pub began_at_end : (before : Option Trail) → BeganAt before (end_moment before)
began_at_end before t is = ap end_moment is

-- a service whose mount began at the end of this record
abbrev pub service_from : Option Trail → ServedArray → Option Trail → ServiceStart
service_from before array told = record { array = array; began = end_moment before; told = told }

pub begins_at_end : (before middle final after : Option Trail) → Extends before middle → after ≡ final → Extends middle final → BeginsAt before middle after (end_moment before)
begins_at_end before middle final after grows same later = record {
  calls = λ t tells. let r = grows t tells in (r.from, r.calls, r.was, r.is, ap end_moment r.was);
  grows = subst (λ (o : Option Trail). Extends middle o) (sym same) later;
}

-- The slots that an array hands back are those that it had, and no count fell in its mount.
pub end_over : (setup : Setup) (rack : RackUse) (sink : SinkUse) (status : ℕ) (first now : ℕ → Slot) → rack.new ≡ now → HaveNotFallen rack.old first → (status ≡ 0 → IsNotDouble setup now)
    → (status ≡ 5 → NamesTwoLost first now sink.written_before sink.written) → (status ≡ 12 → TellsWear sink.written_before sink.written) → IsEndOver setup rack sink status
end_over setup rack sink status first now same later present two worn = record {
  present = λ zero. subst (IsNotDouble setup) (sym same) (present zero);
  two = λ five. subst (λ (z : ℕ → Slot). NamesTwoLost rack.old z sink.written_before sink.written) (sym same) (names_since rack.old first now sink.written_before sink.written later (two five));
  worn = worn;
}

-- What holds over the session of an array holds over that of its service.
pub over_span : (rack : RackUse) (service : ServiceStart) (slots : ℕ) (setup : Setup) (final : Option Trail) → slots ≡ rack.slots → setup ≡ service.array.meta.setup → rack.after ≡ final
    → (P : Span → Type 0) → P (span_of slots setup service.told final) → P (served_span rack service)
over_span rack service slots setup final e same f P h =
    subst (λ (z : Setup). P (span_of rack.slots z service.told rack.after)) same
    (subst (λ (k : ℕ). P (span_of k setup service.told rack.after)) e (subst (λ (t : Option Trail). P (span_of slots setup service.told t)) (sym f) h))

module _ (rack : RackUse) (sink : SinkUse) (status : ℕ) (service : ServiceStart) (slots : ℕ) (setup : Setup) (final : Option Trail) (e : slots ≡ rack.slots) (same : setup ≡ service.array.meta.setup) (f : rack.after ≡ final) (end : IsEndOver setup rack sink status) (first seen : Shown) (begins : first ≡ shown_served service.array) (ends : seen.slot ≡ rack.new) where
  pub headline_over : (source : SourceUse) → Headline first seen (span_of slots setup service.told final) service.began (streams_of source sink) status → ServesLines rack source sink status service
  headline_over source h = record {
    seen = seen;
    last = ends;
    headline = subst (λ (y : Shown). Headline y seen (served_span rack service) service.began (streams_of source sink) status) begins
        (over_span rack service slots setup final e same f (λ span. Headline first seen span service.began (streams_of source sink) status) h);
    end = subst (λ (z : Setup). IsEndOver z rack sink status) same end;
  }

  pub spared_over : (source : SourceUse) (supply : Supply) → SparedHeadline first seen (span_of slots setup service.told final) supply service.began (streams_of source sink) status → ServesSpares rack source sink supply status service
  spared_over source supply h = record {
    seen = seen;
    last = ends;
    headline = subst (λ (y : Shown). SparedHeadline y seen (served_span rack service) supply service.began (streams_of source sink) status) begins
        (over_span rack service slots setup final e same f (λ span. SparedHeadline first seen span supply service.began (streams_of source sink) status) h);
    end = subst (λ (z : Setup). IsEndOver z rack sink status) same end;
  }

  pub generated_over : (number count : ℕ) → GenHeadline first seen (span_of slots setup service.told final) service.began (record { number = number; count = count; sink = sink }) status → ServesGenerated rack (record { number = number; count = count; sink = sink }) status service
  generated_over number count h = record {
    seen = seen;
    last = ends;
    headline = subst (λ (y : Shown). GenHeadline y seen (served_span rack service) service.began (record { number = number; count = count; sink = sink }) status) begins
        (over_span rack service slots setup final e same f (λ span. GenHeadline first seen span service.began (record { number = number; count = count; sink = sink }) status) h);
    end = subst (λ (z : Setup). IsEndOver z rack sink status) same end;
  }

-- the statuses of a run are those of a session, and those of a mount that is refused
pub run_status : (status : ℕ) → IsServedStatus status → IsOneOf run_statuses status
run_status status (inl z) = inl z
run_status status (inr (inl z)) = inr (inl z)
run_status status (inr (inr (inl z))) = inr (inr (inl z))
run_status status (inr (inr (inr (inl z)))) = inr (inr (inr (inl z)))
run_status status (inr (inr (inr (inr (inl z))))) = inr (inr (inr (inr (inr (inr (inl z))))))
run_status status (inr (inr (inr (inr (inr z))))) = inr (inr (inr (inr (inr (inr (inr z))))))

pub generate_status : (status : ℕ) → IsGenStatus status → IsOneOf gen_statuses status
generate_status status (inl z) = inl z
generate_status status (inr (inl z)) = inr (inl z)
generate_status status (inr (inr (inl z))) = inr (inr (inl z))
generate_status status (inr (inr (inr z))) = inr (inr (inr (inr (inr z))))

-- the statuses of a mount that is refused, or 4 where the sink has failed
abbrev pub IsRefusedStatus : ℕ → Type 0
IsRefusedStatus status = (status ≡ 4) ⊎ (status ≡ 5) ⊎ (status ≡ 6) ⊎ (status ≡ 7) ⊎ (status ≡ 12)

fault_status : (fault : MountFault) (status : ℕ) → status ≡ mount_fault_status fault → IsRefusedStatus status
fault_status NotFormatted status is = inr (inr (inl is))
fault_status (BadLog disk) status is = inr (inr (inl is))
fault_status (BadMeta disk) status is = inr (inr (inl is))
fault_status (Size disk found needed) status is = inr (inr (inl is))
fault_status (Power disk) status is = inr (inr (inl is))
fault_status (TwoDown two) status is = inr (inl is)
fault_status (Worn count) status is = inr (inr (inr (inr is)))
fault_status NoMemory status is = inr (inr (inr (inl is)))

refused_so : (fault : MountFault) (status n m : ℕ) → (status ≡ 4) ⊎ ((n ≡ m) × (status ≡ mount_fault_status fault)) → IsRefusedStatus status
refused_so fault status n m (inl four) = inl four
refused_so fault status n m (inr all) = fault_status fault status all.1

pub refused_status : (fault : MountFault) (before after : Option (List ℕ)) (line : List ℕ) (status : ℕ) → EndsWithLine before after line (mount_fault_status fault) status → IsRefusedStatus status
refused_status fault before after line status end = refused_so fault status end.count (length line) end.whole

run_refused : (status : ℕ) → IsRefusedStatus status → IsOneOf run_statuses status
run_refused status (inl z) = inr (inr (inl z))
run_refused status (inr (inl z)) = inr (inr (inr (inl z)))
run_refused status (inr (inr (inl z))) = inr (inr (inr (inr (inl z))))
run_refused status (inr (inr (inr (inl z)))) = inr (inr (inr (inr (inr (inl z)))))
run_refused status (inr (inr (inr (inr z)))) = inr (inr (inr (inr (inr (inr (inr z))))))

generate_refused : (status : ℕ) → IsRefusedStatus status → IsOneOf gen_statuses status
generate_refused status (inl z) = inr (inl z)
generate_refused status (inr (inl z)) = inr (inr (inl z))
generate_refused status (inr (inr (inl z))) = inr (inr (inr (inl z)))
generate_refused status (inr (inr (inr (inl z)))) = inr (inr (inr (inr (inl z))))
generate_refused status (inr (inr (inr (inr z)))) = inr (inr (inr (inr (inr z))))

pub run_is_refused : (fault : MountFault) (before after : Option (List ℕ)) (line : List ℕ) (status : ℕ) → EndsWithLine before after line (mount_fault_status fault) status → IsOneOf run_statuses status
run_is_refused fault before after line status end = run_refused status (refused_status fault before after line status end)

pub generate_is_refused : (fault : MountFault) (before after : Option (List ℕ)) (line : List ℕ) (status : ℕ) → EndsWithLine before after line (mount_fault_status fault) status → IsOneOf gen_statuses status
generate_is_refused fault before after line status end = generate_refused status (refused_status fault before after line status end)
