-- From what a command that mounts has done to how it ends, on a rack that held a history.
use Rattle.paraid_record.specs.declared.meta.Meta.{Meta}
use Rattle.std.proofs.Common.{Bool, ◌≡◌, ℕ, ◌⊎◌, List, [], ◌∷◌, ◌++◌, length, Option, Some, inl, inr, refl, sym, ap, ◌∙◌, subst, arith, append_assoc}
use Rattle.std.proofs.lemmas.List.{append-nil, take_all}
use Rattle.paraid_base.specs.declared.event.Answer.TheVariants.{Flushed, Halted}
use Rattle.paraid_base.specs.declared.event.Event.{Event}
use Rattle.paraid_base.specs.declared.event.Event.TheVariants.{Flush}
use Rattle.paraid_base.specs.declared.fault.Halt.{Halt}
use Rattle.paraid_base.specs.History.{History}
use Rattle.paraid_base.specs.Told.{GrowsByBytes, HasRisen}
use Rattle.paraid_serve.specs.Ending.{EndsWithLine, end_line, halt_line, status_of_halt}
use Rattle.paraid_io.specs.Lines.{lines_of}
use Rattle.paraid_image.specs.RunStart.{IsRunStart}
use Rattle.paraid_image.specs.Sides.{LogState}
use Rattle.paraid_image.specs.Standing.{Stands}
use Rattle.paraid_recover.specs.declared.mount_fault.MountFault.{MountFault}
use Rattle.paraid_recover.specs.declared.mount_fault.MountFault.TheVariants.{NotFormatted, BadLog, BadMeta, Size, Power, Two as TwoDown, Worn, NoMemory}
use Rattle.paraid_rack.specs.declared.call.Call.{Call}
use Rattle.paraid_rack.specs.Disks.{Disks}
use Rattle.paraid_rack.specs.Slots.{Slot}
use Rattle.paraid_serve.specs.Uses.{RackUse, SinkUse, SourceUse}
use Rattle.paraid_rack.specs.Trail.{Trail, extend, moments, now}
use Rattle.paraid_rack.proofs.TrailsLemmas.{extend-extend}
use Rattle.paraid_record.specs.declared.meta.Setup.{Setup}
use Rattle.paraid_recover.specs.Examined.{IsRefused}
use Rattle.paraid_recover.specs.Examined.IsRefused.{as_heard, by_loss, by_slots}
use Rattle.paraid_recover.specs.HeardSides.{IsOneLost}
use Rattle.paraid_recover.specs.HeardSides.IsOneLost.{none as none_lost}
use Rattle.paraid_recover.specs.Mount.{IsCauseOfRefusal, IsUnstarted}
use Rattle.paraid_recover.specs.Mount.IsCauseOfRefusal.{examined, no_memory as for_memory, two_down, witnessed}
use Rattle.paraid_scrub.specs.Counts.{no_faults}
use Rattle.paraid_scrub.specs.declared.kind.CheckReport.{CheckReport}
use Rattle.paraid_session.specs.Mount.{FromRunStart, IsBegun, IsCauseOutsideDisks, IsMountRefused, IsMounted, IsMountedFromEach, IsRefusedFromEach, IsWornOut, start_watch}
use Rattle.paraid_session.specs.Mount.Refusal.{worn as wear}
use Rattle.paraid_session.specs.Turn.{Point}
use Rattle.paraid_session.specs.Watch.{Watch, watch, watch_all}
use Rattle.paraid_serve.specs.Output.{FollowsFromPoint, OutputText, WritesOutput, begins_with}
use Rattle.paraid_serve.specs.Output.OutputText.{done as text_done, halted as text_halted, source as text_source, too_long as text_long}
use Rattle.paraid_serve.specs.Output.WritesOutput.{answers as wrote_answers, at_first_line as wrote_first, last_line as wrote_last, whole as wrote_whole}
use Rattle.paraid_serve.specs.Stretch.{EndsStretch, Turn, events_in, replies, turn_calls, turn_with}
use Rattle.paraid_serve.proofs.CauseLemmas.{HaltsAt, MeetsHalt, ends_at_cause}
use Rattle.paraid_serve.proofs.CauseLemmas.HaltsAt.{lost, worn_out}
use Rattle.paraid_serve.proofs.StretchLemmas.{some_is}
use Rattle.paraid_commands.specs.Generating.{GenFollows, GenOutput, GenWrote, first_lines}
use Rattle.paraid_commands.specs.GenEvents.{generated_events}
use Rattle.paraid_machine.specs.Machine.{block_count}
use Rattle.paraid_commands.specs.Generating.GenOutput.{done as gen_done, halted as gen_halted}
use Rattle.paraid_commands.specs.Generating.GenWrote.{whole as gen_whole, last_line as gen_last, before_flush as gen_before, first_line as gen_first}
use Rattle.paraid_recover.specs.StartRefusals.{refusal_by_fault}
use Rattle.paraid_recover.proofs.MountedLemmas.{refused_extends}
use Rattle.paraid_recover.proofs.ToldLemmas.{began_calls, began_disks, same_trail}
use Rattle.paraid_commands.specs.MountFaults.{mount_fault_status}
use Rattle.paraid_commands.specs.Showing.{BeganAt, ShowOutcome, Shows}
use Rattle.paraid_commands.specs.Showing.ShowOutcome.{refused as not_shown, shown}
use Rattle.paraid_commands.specs.States.{status_lines}
use Rattle.paraid_commands.specs.Complete.{Completes, HeldHistory, Hinders, HindersRun, IsRunWhole, TellsLast, down_after_calls}
use Rattle.paraid_commands.specs.Complete.Completes.{hindered, no_memory, whole}
use Rattle.paraid_commands.specs.Complete.Hinders.{double, sink_failed, two, two_in_mount, worn, worn_before}
use Rattle.paraid_commands.specs.Complete.HindersRun.{other, source_failed, too_long}
use Rattle.paraid_commands.specs.Counts.{check_line, check_status}
use Rattle.paraid_commands.specs.Ends.{BeginsAt, ChecksArray, ChecksFromPoint, IsEndOver, IsServed, MountsAndThen, ServesGenerated, ServesLines, ServiceStart, TellsCounts, served_span}
use Rattle.paraid_commands.specs.Ends.MountsAndThen.{mounted, refused}
use Rattle.paraid_commands.specs.Ends.TellsCounts.{counted as told_counts, halted as told_halt}

-- the disks that are down in a watch
down_is : (w : Watch) (cs : List Call) → (watch_all cs w).down ≡ down_after_calls w.down cs
down_is w [] = refl
down_is w (c ∷ cs) = down_is (watch c w) cs

calls_split : (before rest : List Turn) (t : Turn) → turn_calls (before ++ t ∷ rest) ≡ turn_calls before ++ (t.calls ++ turn_calls rest)
calls_split [] rest t = refl
calls_split (b ∷ before) rest t = ap (λ (l : List Call). b.calls ++ l) (calls_split before rest t) ∙ sym (append_assoc b.calls (turn_calls before) (t.calls ++ turn_calls rest))

-- a line that was told whole
pub told_whole : (kept : SinkUse) (line : List ℕ) (code status : ℕ) (e : EndsWithLine kept.written_before kept.written line code status) → e.count ≡ length line → TellsLast kept line
told_whole kept line code status e all = record {
  text = [];
  grows = subst (λ (x : List ℕ). GrowsByBytes kept.written_before kept.written x) (take_all e.count line (omega (arith, all))) e.grows;
}

-- what the reads of the log disks find refuses none for want of memory
lost_without_memory : (slots : ℕ) (old new : ℕ → Slot) (after : Option Trail) → IsRefused slots old new after NoMemory → IsOneLost old new
lost_without_memory slots old new after (by_slots why same) = none_lost same
lost_without_memory slots old new after (by_loss readable pair both is) = absurd (let z : NoMemory ≡ TwoDown pair = is in cc)
lost_without_memory slots old new after (as_heard readable away logs heard why) = away

-- only reads are made where there is no memory
unstarted : (slots : ℕ) (old new : ℕ → Slot) (before after : Option Trail) → IsCauseOfRefusal slots old new before after NoMemory → IsUnstarted old new before after
unstarted slots old new before after (for_memory is it) = it
unstarted slots old new before after (examined is only) = record { lost = lost_without_memory slots old new after is; only = only }
unstarted slots old new before after (witnessed read mid x said pair calls exam low is refuses) = absurd (let z : NoMemory ≡ TwoDown pair = is in cc)
unstarted slots old new before after (two_down read x then pair it agrees exam is beside gone ends) = absurd (let z : NoMemory ≡ TwoDown pair = is in cc)

module _ {rack : RackUse} (h : HeldHistory rack) where
  -- what holds from each entry holds from this one
  from_entry : (P : Disks → ℕ → LogState → History → ℕ → Option ℕ → List Call → Type 0) (told : Option Trail) (t : Trail) (cs : List Call) (began : ℕ) → told ≡ Some t → t ≡ extend h.first cs → began ≡ moments h.first
      → FromRunStart rack.slots began told P → P (now h.first) h.side h.said h.history h.low h.down cs
  from_entry P told t cs began tells is at each =
      let d = began_disks t h.first cs began is at in
      let c = began_calls t h.first cs began is at in
      let there = each t tells h.history h.low h.down h.side h.said (subst (λ (s : Disks). IsRunStart rack.slots s h.history h.low h.down) (sym d) h.held) (subst (λ (s : Disks). Stands s h.side h.said) (sym d) h.stands) in
      subst (λ (s : Disks). P s h.side h.said h.history h.low h.down cs) d (subst (P _ h.side h.said h.history h.low h.down) c there)

  module _ (kept : SinkUse) (status : ℕ) (Whole Hindered : Type 0) (hinder : Hinders h kept status → Hindered) (sunk : status ≡ 4 → HasRisen kept.faults_before kept.faults) where
    abbrev Comes : Type 0
    Comes = Completes Whole (IsUnstarted rack.old rack.new rack.before rack.after) Hindered status

    sunk_comes : status ≡ 4 → Comes
    sunk_comes four = hindered (hinder (sink_failed four (sunk four)))

    module _ (calls : List Call) (split : h.last ≡ extend h.first calls) where
      by_kind : (fault : MountFault) → IsCauseOfRefusal rack.slots rack.old rack.new rack.before rack.after fault → status ≡ mount_fault_status fault
          → ((many : ℕ) → refusal_by_fault fault ≡ wear many → IsWornOut (now h.first) calls many) → IsCauseOutsideDisks (refusal_by_fault fault) → Comes
      by_kind NotFormatted cause is many outside = absurd outside
      by_kind (BadLog disk) cause is many outside = absurd outside
      by_kind (BadMeta disk) cause is many outside = absurd outside
      by_kind (Size disk found needed) cause is many outside = absurd outside
      by_kind (Power disk) cause is many outside = absurd outside
      by_kind (TwoDown pair) cause is many outside = absurd outside
      by_kind (Worn number) cause is many outside = hindered (hinder (worn_before is calls split number (many number refl)))
      by_kind NoMemory cause is many outside = no_memory is (unstarted rack.slots rack.old rack.new rack.before rack.after cause)

      by_fault : (fault : MountFault) → IsCauseOfRefusal rack.slots rack.old rack.new rack.before rack.after fault → status ≡ mount_fault_status fault
          → IsMountRefused rack.slots (now h.first) h.side h.said h.history h.low h.down calls (refusal_by_fault fault) → Comes
      by_fault fault cause is m = elim m.ends [
        | inl both ↦ hindered (hinder (two_in_mount fault is cause calls split (sym (down_is (start_watch (now h.first) h.down m.mounting.base) calls) ∙ both)))
        | inr kept ↦ by_kind fault cause is m.worn_out kept.2
      ]

    -- A mount that is refused.
    pub refused_comes : (fault : MountFault) → IsCauseOfRefusal rack.slots rack.old rack.new rack.before rack.after fault → ((began : ℕ) → BeganAt rack.before began → IsRefusedFromEach rack.slots began rack.after (refusal_by_fault fault))
        → (n m : ℕ) → (status ≡ 4) ⊎ ((n ≡ m) × (status ≡ mount_fault_status fault)) → Comes
    refused_comes fault cause each n m (inl four) = sunk_comes four
    refused_comes fault cause each n m (inr all) =
        let g = refused_extends rack.slots rack.old rack.new rack.before rack.after fault cause h.last h.at_last in
        let from : g.from ≡ h.first = same_trail rack.before g.from h.first g.was h.at_first in
        let split : h.last ≡ extend h.first g.calls = g.is ∙ ap (λ (u : Trail). extend u g.calls) from in
        by_fault g.calls split fault cause all.1
        (from_entry (λ s x said hist lo down calls. IsMountRefused rack.slots s x said hist lo down calls (refusal_by_fault fault)) rack.after h.last g.calls (moments h.first) h.at_last split refl
        (each (moments h.first) (λ t is. ap moments (same_trail rack.before h.first t h.at_first is))))

    module _ (service : ServiceStart) (stood : IsServed rack service) (begins : BeginsAt rack.before service.told rack.after service.began) (over : IsEndOver service.array.meta.setup rack kept status) where
      -- A mount that is served: two disks were down as it ended, or a session began.
      pub from_point : (P : Point → Type 0) → IsMountedFromEach rack.slots service.array.meta.setup service.began service.told P
          → ((base : ℕ → ℕ) (t : Trail) (cs : List Call) (p : Point) → service.told ≡ Some t → t ≡ extend h.first cs → IsBegun rack.slots (now h.first) h.said h.history h.low h.down base cs p
          → h.said.meta.setup ≡ service.array.meta.setup → P p → Comes) → Comes
      from_point P each go =
          let later = begins.grows h.last h.at_last in
          let t = later.from in
          let b = begins.calls t later.was in
          let from : b.0 ≡ h.first = same_trail rack.before b.0 h.first b.2 h.at_first in
          let split : t ≡ extend h.first b.1 = b.3 ∙ ap (λ (u : Trail). extend u b.1) from in
          let all : h.last ≡ extend h.first (b.1 ++ later.calls) = later.is ∙ ap (λ (u : Trail). extend u later.calls) split ∙ extend-extend h.first b.1 later.calls in
          let m = from_entry (λ s x said hist lo down calls. IsMounted rack.slots s x said hist lo down calls (λ p. (said.meta.setup ≡ service.array.meta.setup) × P p)) service.told t b.1 service.began later.was split (b.4 ∙ ap moments from) each in
          elim m.ends [
            | inl both ↦ hindered (hinder (double b.1 later.calls all (sym (down_is (start_watch (now h.first) h.down m.mounting.base) b.1) ∙ both) service (later.was ∙ ap Some split) stood over))
            | inr begun ↦ go m.mounting.base t b.1 begun.0 later.was split begun.1 begun.2.0 begun.2.1
          ]

      module _ (base : ℕ → ℕ) (t : Trail) (cs : List Call) (p : Point) (here : service.told ≡ Some t) (split : t ≡ extend h.first cs) (starts : IsBegun rack.slots (now h.first) h.said h.history h.low h.down base cs p)
          (same : h.said.meta.setup ≡ service.array.meta.setup) where
        -- the calls of the command, where a session of these turns followed
        session_calls : (events : List Event) (halt : Halt) (e : EndsStretch (served_span rack service) p events (Halted halt)) (m : MeetsHalt rack.slots h.said.meta.setup p e.all.turns halt)
            → h.last ≡ extend h.first (cs ++ (turn_calls m.before ++ m.turn.calls))
        session_calls events halt e m =
            same_trail rack.after h.last e.all.to h.at_last e.all.is
            ∙ e.all.calls
            ∙ ap (λ (u : Trail). extend u (turn_calls e.all.turns)) (same_trail service.told e.all.from t e.all.was here ∙ split)
            ∙ extend-extend h.first cs (turn_calls e.all.turns)
            ∙ ap (λ (l : List Call). extend h.first (cs ++ l)) (ap turn_calls m.split ∙ calls_split m.before m.rest m.turn ∙ ap (λ (l : List Call). turn_calls m.before ++ l) (ap (λ (l : List Call). m.turn.calls ++ l) m.silent ∙ append-nil m.turn.calls))

        at_cause : (turns : List Turn) (halt : Halt) (m : MeetsHalt rack.slots h.said.meta.setup p turns halt) → h.last ≡ extend h.first (cs ++ (turn_calls m.before ++ m.turn.calls))
            → status ≡ status_of_halt halt → HaltsAt rack.slots h.said.meta.setup m.from m.turn m.to halt → Comes
        at_cause turns halt m calls is (lost pair told l) = hindered (hinder (two (is ∙ ap status_of_halt told) pair
            (record { base = base; mount = cs; begun = p; begins = starts; turns = m.before; from = m.from; went = m.went; turn = m.turn; to = m.to; here = l; calls = calls })))
        at_cause turns halt m calls is (worn_out many told l) = hindered (hinder (worn (is ∙ ap status_of_halt told) many
            (record { base = base; mount = cs; begun = p; begins = starts; turns = m.before; from = m.from; went = m.went; turn = m.turn; to = m.to; here = l; calls = calls })))

        -- A session that ends in a halt.
        pub halted_comes : (events : List Event) (halt : Halt) → EndsStretch (served_span rack service) p events (Halted halt) → status ≡ status_of_halt halt → Comes
        halted_comes events halt e is =
            let m = subst (λ (u : Setup). MeetsHalt rack.slots u p e.all.turns halt) (sym same) (ends_at_cause rack.slots service.array.meta.setup service.told rack.after p events halt e starts.going) in
            at_cause e.all.turns halt m (session_calls events halt e m) is m.cause

module _ {rack : RackUse} (h : HeldHistory rack) (kept : SinkUse) (status : ℕ) (sunk : status ≡ 4 → HasRisen kept.faults_before kept.faults) where
  -- A run.
  module _ (given : SourceUse) (heard : status ≡ 3 → HasRisen given.faults_before given.faults) where
    abbrev RunComes : Type 0
    RunComes = Completes (IsRunWhole given kept) (IsUnstarted rack.old rack.new rack.before rack.after) (HindersRun h given kept status) status

    module _ (service : ServiceStart) (stood : IsServed rack service) (begins : BeginsAt rack.before service.told rack.after service.began) (served : ServesLines rack given kept status service) where
      run_text : (base : ℕ → ℕ) (t : Trail) (cs : List Call) (p : Point) → service.told ≡ Some t → t ≡ extend h.first cs → IsBegun rack.slots (now h.first) h.said h.history h.low h.down base cs p → h.said.meta.setup ≡ service.array.meta.setup
          → (code : ℕ) (front last : List ℕ) → OutputText (served_span rack service) p served.headline.bytes code front last → status ≡ code → GrowsByBytes kept.written_before kept.written (front ++ last) → RunComes
      run_text base t cs p here split starts same code front last (text_done writes e) is grows =
          whole is ((served.headline.all (inl is)).1, writes, record { text = begins_with p ++ replies e.before; grows = grows })
      run_text base t cs p here split starts same code front last (text_halted halt e) is grows =
          halted_comes h kept status (IsRunWhole given kept) (HindersRun h given kept status) other sunk service stood begins served.end
          base t cs p here split starts same (events_in (lines_of served.headline.bytes) ++ Flush ∷ []) halt e is
      run_text base t cs p here split starts same code front last (text_source c) is grows = hindered (source_failed is (heard is))
      run_text base t cs p here split starts same code front last (text_long ten c) is grows = hindered (too_long is served.headline.bytes served.headline.given ten)

      run_wrote : (base : ℕ → ℕ) (t : Trail) (cs : List Call) (p : Point) → service.told ≡ Some t → t ≡ extend h.first cs → IsBegun rack.slots (now h.first) h.said h.history h.low h.down base cs p → h.said.meta.setup ≡ service.array.meta.setup
          → WritesOutput (served_span rack service) p served.headline.bytes status served.headline.text → RunComes
      run_wrote base t cs p here split starts same (wrote_whole front last out is) =
          run_text base t cs p here split starts same status front last out refl (subst (λ (x : List ℕ). GrowsByBytes kept.written_before kept.written x) is served.headline.grows)
      run_wrote base t cs p here split starts same (wrote_last four code front last count out is) = hindered (other (sink_failed four (sunk four)))
      run_wrote base t cs p here split starts same (wrote_first four none c rest is) = hindered (other (sink_failed four (sunk four)))
      run_wrote base t cs p here split starts same (wrote_answers four part c is) = hindered (other (sink_failed four (sunk four)))

    pub run_comes : {U : Type 0} → MountsAndThen rack kept status U (ServesLines rack given kept status) → RunComes
    run_comes (refused fault back end unheard) =
        refused_comes h kept status (IsRunWhole given kept) (HindersRun h given kept status) other sunk fault back.cause back.refused end.count _ end.whole
    run_comes (mounted service stood begins served) =
        from_point h kept status (IsRunWhole given kept) (HindersRun h given kept status) other sunk service stood begins served.end
        (FollowsFromPoint (served_span rack service) served.headline.bytes status served.headline.text) (served.headline.said (some_is rack.after h.last h.at_last))
        (λ base t cs p here split starts same f. run_wrote service stood begins served base t cs p here split starts same f.wrote)

  -- Generated lines.
  module _ (number lines : ℕ) where
    abbrev GenComes : Type 0
    GenComes = Completes ((writes : ℕ) × TellsLast kept (end_line writes)) (IsUnstarted rack.old rack.new rack.before rack.after) (Hinders h kept status) status

    module _ (service : ServiceStart) (stood : IsServed rack service) (begins : BeginsAt rack.before service.told rack.after service.began) (served : ServesGenerated rack (record { number = number; count = lines; sink = kept }) status service) where
      gen_text : (base : ℕ → ℕ) (t : Trail) (cs : List Call) (p : Point) → service.told ≡ Some t → t ≡ extend h.first cs → IsBegun rack.slots (now h.first) h.said h.history h.low h.down base cs p → h.said.meta.setup ≡ service.array.meta.setup
          → (code : ℕ) (text : List ℕ) → GenOutput (served_span rack service) p number lines code text → status ≡ code → GrowsByBytes kept.written_before kept.written text → GenComes
      gen_text base t cs p here split starts same code text (gen_done writes e) is grows = whole is (writes, record { text = first_lines p lines e.lines.turns e.lines.end; grows = grows })
      gen_text base t cs p here split starts same code text (gen_halted halt e) is grows =
          halted_comes h kept status ((writes : ℕ) × TellsLast kept (end_line writes)) (Hinders h kept status) (λ z. z) sunk service stood begins served.end
          base t cs p here split starts same (generated_events number (block_count service.array.meta.setup) lines ++ Flush ∷ []) halt
          (record { all = e.all; before = e.lines.turns; last = turn_with Flush (Halted halt) e.calls; split = e.turns; answered = refl }) is

      gen_wrote : (base : ℕ → ℕ) (t : Trail) (cs : List Call) (p : Point) → service.told ≡ Some t → t ≡ extend h.first cs → IsBegun rack.slots (now h.first) h.said h.history h.low h.down base cs p → h.said.meta.setup ≡ service.array.meta.setup
          → GenWrote (served_span rack service) p number lines status served.headline.text → GenComes
      gen_wrote base t cs p here split starts same (gen_whole out) = gen_text base t cs p here split starts same status served.headline.text out refl served.headline.grows
      gen_wrote base t cs p here split starts same (gen_last four code full rest out front) = hindered (sink_failed four (sunk four))
      gen_wrote base t cs p here split starts same (gen_before four c rest front) = hindered (sink_failed four (sunk four))
      gen_wrote base t cs p here split starts same (gen_first four same_told rest front) = hindered (sink_failed four (sunk four))

    pub gen_comes : {U : Type 0} → MountsAndThen rack kept status U (ServesGenerated rack (record { number = number; count = lines; sink = kept }) status) → GenComes
    gen_comes (refused fault back end unheard) =
        refused_comes h kept status ((writes : ℕ) × TellsLast kept (end_line writes)) (Hinders h kept status) (λ z. z) sunk fault back.cause back.refused end.count _ end.whole
    gen_comes (mounted service stood begins served) =
        from_point h kept status ((writes : ℕ) × TellsLast kept (end_line writes)) (Hinders h kept status) (λ z. z) sunk service stood begins served.end
        (GenFollows (served_span rack service) number lines status served.headline.text) (served.headline.said (some_is rack.after h.last h.at_last))
        (λ base t cs p here split starts same f. gen_wrote service stood begins served base t cs p here split starts same f.wrote)

  -- A check.
  abbrev CheckComes : Type 0
  CheckComes = Completes (TellsLast kept (check_line no_faults)) (IsUnstarted rack.old rack.new rack.before rack.after) (Hinders h kept status) status

  module _ (service : ServiceStart) (stood : IsServed rack service) (begins : BeginsAt rack.before service.told rack.after service.began) (over : IsEndOver service.array.meta.setup rack kept status) where
    check_from : (P : Point → Type 0) → IsMountedFromEach rack.slots service.array.meta.setup service.began service.told P
        → ((base : ℕ → ℕ) (t : Trail) (cs : List Call) (p : Point) → service.told ≡ Some t → t ≡ extend h.first cs → IsBegun rack.slots (now h.first) h.said h.history h.low h.down base cs p
        → h.said.meta.setup ≡ service.array.meta.setup → P p → CheckComes) → CheckComes
    check_from = from_point h kept status (TellsLast kept (check_line no_faults)) (Hinders h kept status) (λ z. z) sunk service stood begins over

    counted_by : (report : CheckReport) (e : EndsWithLine kept.written_before kept.written (check_line report) (check_status report) status) → (status ≡ 4) ⊎ ((e.count ≡ length (check_line report)) × (status ≡ check_status report))
        → IsMountedFromEach rack.slots service.array.meta.setup service.began service.told (λ p. (report ≡ no_faults) × ChecksFromPoint (served_span rack service) (Flushed (length p.history)) p) → CheckComes
    counted_by report e (inl four) each = hindered (sink_failed four (sunk four))
    counted_by report e (inr all) each = check_from (λ p. (report ≡ no_faults) × ChecksFromPoint (served_span rack service) (Flushed (length p.history)) p) each
        (λ base t cs p here split starts same f. whole (all.1 ∙ ap check_status f.0)
        (subst (λ (r : CheckReport). TellsLast kept (check_line r)) f.0 (told_whole kept (check_line report) (check_status report) status e all.0)))

    halted_so : (halt : Halt) (e : EndsWithLine kept.written_before kept.written (halt_line halt) (status_of_halt halt) status) → (status ≡ 4) ⊎ ((e.count ≡ length (halt_line halt)) × (status ≡ status_of_halt halt))
        → IsMountedFromEach rack.slots service.array.meta.setup service.began service.told (ChecksFromPoint (served_span rack service) (Halted halt)) → CheckComes
    halted_so halt e (inl four) each = hindered (sink_failed four (sunk four))
    halted_so halt e (inr all) each = check_from (ChecksFromPoint (served_span rack service) (Halted halt)) each
        (λ base t cs p here split starts same f. halted_comes h kept status (TellsLast kept (check_line no_faults)) (Hinders h kept status) (λ z. z) sunk service stood begins over
        base t cs p here split starts same (Flush ∷ []) halt f.flush all.1)

    check_told : {Q : CheckReport → Type 0} → TellsCounts (served_span rack service) service.began kept status Q → CheckComes
    check_told (told_counts report e counts each) = counted_by report e e.whole (each (some_is rack.after h.last h.at_last))
    check_told (told_halt halt e each) = halted_so halt e e.whole (each (some_is rack.after h.last h.at_last))

  pub check_comes : {U : Type 0} → MountsAndThen rack kept status U (ChecksArray rack kept status) → CheckComes
  check_comes (refused fault back end unheard) =
      refused_comes h kept status (TellsLast kept (check_line no_faults)) (Hinders h kept status) (λ z. z) sunk fault back.cause back.refused end.count _ end.whole
  check_comes (mounted service stood begins checked) = check_told service stood begins checked.end checked.told

  -- The state.
  abbrev StatusComes : Type 0
  StatusComes = Completes ((meta : Meta) × (dirty : ℕ → ℕ → Bool) × TellsLast kept (status_lines meta dirty)) (IsUnstarted rack.old rack.new rack.before rack.after) (Hinders h kept status) status

  status_by : (code : ℕ) (lines : List ℕ) → ShowOutcome rack code lines → (e : EndsWithLine kept.written_before kept.written lines code status) → (status ≡ 4) ⊎ ((e.count ≡ length lines) × (status ≡ code)) → StatusComes
  status_by code lines outcome e (inl four) = hindered (sink_failed four (sunk four))
  status_by code lines (shown meta dirty served) e (inr all) = whole all.1 (meta, dirty, told_whole kept _ _ status e all.0)
  status_by code lines (not_shown fault cause each) e (inr all) =
      refused_comes h kept status ((meta : Meta) × (dirty : ℕ → ℕ → Bool) × TellsLast kept (status_lines meta dirty)) (Hinders h kept status) (λ z. z) sunk fault cause each e.count _ (inr all)

  pub status_comes : Shows rack kept status → StatusComes
  status_comes s = status_by s.code s.lines s.outcome s.ends s.ends.whole
