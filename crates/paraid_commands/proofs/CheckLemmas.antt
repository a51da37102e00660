-- A check of a mounted array, as a flush of a session.
use Rattle.std.proofs.Common.{◌≡◌, ℕ, ◌+◌, ◌⊎◌, Bool, true, false, List, [], ◌∷◌, length, Option, Some, IsSome, refl, sym, ◌∙◌, inl, inr, subst, arith, if◌then◌else◌}
use Rattle.std.specs.Prelude.{◌==◌}
use Rattle.paraid_base.specs.declared.event.Answer.{Answer}
use Rattle.paraid_base.specs.declared.event.Answer.TheVariants.{Flushed, Halted}
use Rattle.paraid_base.specs.declared.event.Event.TheVariants.{Flush}
use Rattle.paraid_base.specs.declared.fault.Halt.{Halt}
use Rattle.paraid_base.specs.declared.fault.Halt.TheVariants.{Two as HaltTwo, Worn}
use Rattle.paraid_base.proofs.ToldLemmas.{GrowsByBytes-none}
use Rattle.paraid_recover.specs.Calls.{OnlyReads}
use Rattle.paraid_recover.specs.declared.mount_fault.MountFault.{MountFault}
use Rattle.paraid_rack.specs.Slots.{Slot}
use Rattle.paraid_rack.specs.Told.{Ran}
use Rattle.paraid_rack.specs.Trail.{Trail, now}
use Rattle.paraid_record.specs.declared.meta.Setup.{Setup}
use Rattle.paraid_scrub.specs.Counts.{no_faults}
use Rattle.paraid_scrub.specs.declared.kind.CheckReport.{CheckReport}
use Rattle.paraid_session.specs.Mount.{IsMountedFromEach}
use Rattle.paraid_session.specs.Turn.{GoesOn, IsMark, Point}
use Rattle.paraid_serve.specs.Ending.{EndsWithLine, halt_line, status_of_halt}
use Rattle.paraid_serve.specs.Calls.{IsNotDouble}
use Rattle.paraid_serve.specs.Causes.{Shown}
use Rattle.paraid_serve.specs.Stretch.{span_of}
use Rattle.paraid_serve.specs.Uses.{RackUse, SinkUse}
use Rattle.paraid_serve.specs.Lost.{HaltsByTwoLost, HaltsByWear, NamesTwoLost, TellsWear}
use Rattle.paraid_serve.proofs.ExitLemmas.{stretch_leaves}
use Rattle.paraid_session.proofs.MountLemmas.{IsMountedFromEach-follows}
use Rattle.paraid_serve.proofs.HaltLemmas.{names_two, tells_wear}
use Rattle.paraid_serve.proofs.StretchLemmas.{stretch_more, stretch_none}
use Rattle.paraid_commands.specs.Statuses.{check_statuses, checked_statuses}
use Rattle.paraid_serve.specs.Statuses.{IsOneOf}
use Rattle.paraid_commands.specs.MountFaults.{mount_fault_status}
use Rattle.paraid_commands.specs.CheckCauses.{HasCheckCauses}
use Rattle.paraid_commands.specs.Counts.{check_line, check_status}
use Rattle.paraid_commands.specs.Ends.{ChecksArray, ChecksFromPoint, CountsArray, IsEndOver, ServiceStart, TellsCounts, shown_served}
use Rattle.paraid_commands.specs.Ends.TellsCounts.{counted, halted}
use Rattle.paraid_commands.proofs.EndLemmas.{IsRefusedStatus, over_span, refused_status}

-- what is told of the flush is a stretch of a session, and what it leaves
module _ (slots : ℕ) (setup : Setup) (start final : Option Trail) (stood : Point → Type 0) (answer : Answer) (p : Point) (mark : IsMark slots setup p) (here : (t : Trail) → start ≡ Some t → p.disks ≡ now t) where
  pub checks_from : IsSome start → IsSome final → Ran start final (GoesOn slots setup p Flush answer stood) → ChecksFromPoint (span_of slots setup start final) answer p
  checks_from was is goes =
      let none = stretch_none slots setup start p was in
      let more = stretch_more none final Flush answer (λ q. q ≡ p) stood refl (λ q e. subst (λ (z : Point). Ran start final (GoesOn slots setup z Flush answer stood)) (sym e) goes) is in
      record {
        flush = record { all = more.all; before = []; last = record { event = Flush; answer = answer; calls = more.calls }; split = more.turns; answered = refl };
        left = stretch_leaves (span_of slots setup start final) p (Flush ∷ []) more.all mark (here more.all.from more.all.was);
      }

module _ (slots : ℕ) (setup : Setup) (began : ℕ) (start final : Option Trail) (stood stood_then : Point → Type 0) (kept : SinkUse) (status : ℕ) (Q : CheckReport → Type 0) (was : IsSome final → IsSome start) (mounted : IsMountedFromEach slots setup began start stood) where
  pub tells_counts : (report : CheckReport) → EndsWithLine kept.written_before kept.written (check_line report) (check_status report) status
      → ((p : Point) → stood p → Ran start final (GoesOn slots setup p Flush (Flushed (length p.history)) stood_then)) → (IsSome final → (p : Point) → stood p → report ≡ no_faults) → Q report
      → TellsCounts (span_of slots setup start final) began kept status Q
  tells_counts report end goes sound counts = counted report end counts (λ is. IsMountedFromEach-follows slots setup began start stood _
      (λ p mark here at. (sound is p at, checks_from slots setup start final stood_then (Flushed (length p.history)) p mark here (was is) is (goes p at))) mounted)

  pub tells_halt : (halt : Halt) → EndsWithLine kept.written_before kept.written (halt_line halt) (status_of_halt halt) status
      → ((p : Point) → stood p → Ran start final (GoesOn slots setup p Flush (Halted halt) stood_then)) → TellsCounts (span_of slots setup start final) began kept status Q
  tells_halt halt end goes = halted halt end (λ is. IsMountedFromEach-follows slots setup began start stood _
      (λ p mark here at. checks_from slots setup start final stood_then (Halted halt) p mark here (was is) is (goes p at)) mounted)

-- the statuses of a check
counted_so : (b : Bool) (status n m : ℕ) → (status ≡ 4) ⊎ ((n ≡ m) × (status ≡ (if b then 0 else 13))) → IsOneOf checked_statuses status
counted_so true status n m (inl four) = inr (inl four)
counted_so true status n m (inr all) = inl all.1
counted_so false status n m (inl four) = inr (inl four)
counted_so false status n m (inr all) = inr (inr (inr (inr all.1)))

pub counted_status : (report : CheckReport) (before after : Option (List ℕ)) (line : List ℕ) (status : ℕ) → EndsWithLine before after line (check_status report) status → IsOneOf checked_statuses status
counted_status report before after line status end = counted_so (report.rows + report.stripes + report.fill + report.units + report.mirrors == 0) status end.count (length line) end.whole

halted_so : (halt : Halt) (status n m : ℕ) → (status ≡ 4) ⊎ ((n ≡ m) × (status ≡ status_of_halt halt)) → IsOneOf checked_statuses status
halted_so halt status n m (inl four) = inr (inl four)
halted_so (HaltTwo two) status n m (inr all) = inr (inr (inl all.1))
halted_so (Worn count) status n m (inr all) = inr (inr (inr (inl all.1)))

pub halted_status : (halt : Halt) (before after : Option (List ℕ)) (line : List ℕ) (status : ℕ) → EndsWithLine before after line (status_of_halt halt) status → IsOneOf checked_statuses status
halted_status halt before after line status end = halted_so halt status end.count (length line) end.whole

no_halt : (b : Bool) (status n m : ℕ) → (status ≡ 4) ⊎ ((n ≡ m) × (status ≡ (if b then 0 else 13))) → (status ≡ 5) ⊎ (status ≡ 12) → ⊥
no_halt b status n m (inl four) (inl five) = omega (arith, four, five)
no_halt b status n m (inl four) (inr twelve) = omega (arith, four, twelve)
no_halt true status n m (inr all) (inl five) = omega (arith, all.1, five)
no_halt true status n m (inr all) (inr twelve) = omega (arith, all.1, twelve)
no_halt false status n m (inr all) (inl five) = omega (arith, all.1, five)
no_halt false status n m (inr all) (inr twelve) = omega (arith, all.1, twelve)

-- counts are told neither at 5 nor at 12
pub counts_no_halt : {A : Type 0} (report : CheckReport) (before after : Option (List ℕ)) (line : List ℕ) (status : ℕ) → EndsWithLine before after line (check_status report) status → (status ≡ 5) ⊎ (status ≡ 12) → A
counts_no_halt report before after line status end is = absurd (no_halt (report.rows + report.stripes + report.fill + report.units + report.mirrors == 0) status end.count (length line) end.whole is)

not_whole : (halt : Halt) (status n m : ℕ) → (status ≡ 4) ⊎ ((n ≡ m) × (status ≡ status_of_halt halt)) → (status ≡ 0) ⊎ (status ≡ 13) → ⊥
not_whole halt status n m (inl four) (inl zero) = omega (arith, four, zero)
not_whole halt status n m (inl four) (inr found) = omega (arith, four, found)
not_whole (HaltTwo two) status n m (inr all) (inl zero) = let e = all.1 in omega (arith, e, zero)
not_whole (HaltTwo two) status n m (inr all) (inr found) = let e = all.1 in omega (arith, e, found)
not_whole (Worn count) status n m (inr all) (inl zero) = let e = all.1 in omega (arith, e, zero)
not_whole (Worn count) status n m (inr all) (inr found) = let e = all.1 in omega (arith, e, found)

-- a halt is not told at 0 or at 13
pub halt_not_whole : {A : Type 0} (halt : Halt) (before after : Option (List ℕ)) (line : List ℕ) (status : ℕ) → EndsWithLine before after line (status_of_halt halt) status → (status ≡ 0) ⊎ (status ≡ 13) → A
halt_not_whole halt before after line status end is = absurd (not_whole halt status end.count (length line) end.whole is)

-- at 5 two disks are named, of which the second has failed
pub halt_names_two : (down : Option ℕ) (old slot : ℕ → Slot) (halt : Halt) (told : Option Halt) (before after : Option (List ℕ)) (status : ℕ) → told ≡ Some halt → HaltsByTwoLost down Flush old slot told
    → EndsWithLine before after (halt_line halt) (status_of_halt halt) status → status ≡ 5 → NamesTwoLost old slot before after
halt_names_two down old slot halt told before after status is by end = names_two old slot halt before before after [] status
    (λ two same. let lost = by two (is ∙ same) in record { apart = lost.apart; second = lost.second }) (GrowsByBytes-none before) end

-- at 12 the halt tells wear
pub halt_tells_wear : (halt : Halt) (told : Option Halt) (before after : Option (List ℕ)) (status : ℕ) → told ≡ Some halt → HaltsByWear told
    → EndsWithLine before after (halt_line halt) (status_of_halt halt) status → status ≡ 12 → TellsWear before after
halt_tells_wear halt told before after status is by end = tells_wear halt before before after [] status (λ count same. by count (is ∙ same)) (GrowsByBytes-none before) end

pub check_status_of : (status : ℕ) → IsOneOf checked_statuses status → IsOneOf check_statuses status
check_status_of status (inl z) = inl z
check_status_of status (inr (inl z)) = inr (inl z)
check_status_of status (inr (inr (inl z))) = inr (inr (inl z))
check_status_of status (inr (inr (inr (inl z)))) = inr (inr (inr (inr (inr (inl z)))))
check_status_of status (inr (inr (inr (inr z)))) = inr (inr (inr (inr (inr (inr z)))))

check_refused : (status : ℕ) → IsRefusedStatus status → IsOneOf check_statuses status
check_refused status (inl z) = inr (inl z)
check_refused status (inr (inl z)) = inr (inr (inl z))
check_refused status (inr (inr (inl z))) = inr (inr (inr (inl z)))
check_refused status (inr (inr (inr (inl z)))) = inr (inr (inr (inr (inl z))))
check_refused status (inr (inr (inr (inr z)))) = inr (inr (inr (inr (inr (inl z)))))

pub check_is_refused : (fault : MountFault) (before after : Option (List ℕ)) (line : List ℕ) (status : ℕ) → EndsWithLine before after line (mount_fault_status fault) status → IsOneOf check_statuses status
check_is_refused fault before after line status end = check_refused status (refused_status fault before after line status end)

-- over the rack that is handed back
pub checks_over : (rack : RackUse) (sink : SinkUse) (status : ℕ) (service : ServiceStart) (slots : ℕ) (setup : Setup) (now : ℕ → Slot) (final : Option Trail) → slots ≡ rack.slots → setup ≡ service.array.meta.setup
    → rack.after ≡ final → rack.new ≡ now → IsEndOver setup rack sink status → (status ≡ 13 → IsNotDouble setup now)
    → (first seen : Shown) → first ≡ shown_served service.array → seen.slot ≡ rack.new → HasCheckCauses first seen sink.written_before sink.written status
    → TellsCounts (span_of slots setup service.told final) service.began sink status (CountsArray service.array now service.told final) → OnlyReads service.told final → ChecksArray rack sink status service
checks_over rack sink status service slots setup now final e tied f same end found first seen begins ends causes told reads = record {
  reads = subst (OnlyReads service.told) (sym f) reads;
  seen = seen;
  last = ends;
  causes = subst (λ (y : Shown). HasCheckCauses y seen sink.written_before sink.written status) begins causes;
  told = over_span rack service slots setup final e tied f (λ span. TellsCounts span service.began sink status (CountsArray service.array rack.new service.told span.now))
      (subst (λ (z : ℕ → Slot). TellsCounts (span_of slots setup service.told final) service.began sink status (CountsArray service.array z service.told final)) (sym same) told);
  end = subst (λ (z : Setup). IsEndOver z rack sink status) tied end;
  found = λ is. subst (λ (z : Setup). IsNotDouble z rack.new) tied (subst (IsNotDouble setup) (sym same) (found is));
}
