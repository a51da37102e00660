-- The whole text of a session of volumes.
use Rattle.std.proofs.Common.{◌≤◌, ◌<◌, ◌≡◌, ◌≢◌, ◌⊎◌, ◌^◌, ℕ, [], ◌∷◌, List, ◌++◌, ◌∙◌, length, take, IsSome, refl, sym, ap, subst, inl, inr, arith}
use Rattle.std.specs.Prelude.{Option, Some, None, codes, is_some, if◌then◌else◌}
use Rattle.std.proofs.lemmas.List.{append-nil, take_all}
use Rattle.paraid_base.specs.declared.event.Answer.{Answer}
use Rattle.paraid_base.specs.declared.event.Answer.TheVariants.{Flushed, Halted}
use Rattle.paraid_base.specs.declared.event.Event.TheVariants.{Flush}
use Rattle.paraid_base.specs.declared.fault.Halt.{Halt}
use Rattle.paraid_base.specs.declared.fault.Halt.TheVariants.{Two as HaltTwo, Worn}
use Rattle.paraid_base.specs.BlockAnswers.{Answers}
use Rattle.paraid_base.specs.History.{History}
use Rattle.paraid_base.specs.Told.{AtEnd, GrowsByBytes, HasRisen, stream_most}
use Rattle.paraid_base.proofs.ToldLemmas.{Gives-none, GrowsByBytes-then, HasRisen-later, HasRisen-sooner}
use Rattle.paraid_blocks.specs.declared.blocks.Blocks.{Ghosts as BlocksGhosts}
use Rattle.paraid_device.specs.declared.device.Device.{Device}
use Rattle.paraid_device.specs.Devices.{HasAnswered, StandsFor, array_of, halt_of_device, span_between}
use Rattle.paraid_device.specs.Laws.{answered_none, array_halt}
use Rattle.paraid_image.specs.Rest.{AreSynced}
use Rattle.paraid_io.specs.Lines.{lines_of}
use Rattle.paraid_machine.specs.Machine.{block_count}
use Rattle.paraid_rack.specs.Slots.{Slot}
use Rattle.paraid_rack.specs.Trail.{Trail, now as disks_now}
use Rattle.paraid_record.specs.declared.meta.Setup.{Setup}
use Rattle.paraid_serve.specs.declared.serves.Serves.{Ghosts}
use Rattle.paraid_serve.specs.Causes.{HasCause, Shown, Shows}
use Rattle.paraid_serve.specs.Ending.{EndsWithLine, end_line, halt_line, mount_line, status_of_halt}
use Rattle.paraid_serve.specs.Lost.{HaltsBySecondLoss, HaltsByWear, NamesTwoLost, TellsWear}
use Rattle.paraid_serve.specs.Output.{IsServedStatus, IsWholeStatus, begins_with, first_line as line_shown}
use Rattle.paraid_serve.specs.Streams.{Streams, streams_of}
use Rattle.paraid_serve.specs.Stretch.{Span, span_of}
use Rattle.paraid_serve.specs.Uses.{SinkUse}
use Rattle.paraid_serve.proofs.ExitLemmas.{stretch_leaves}
use Rattle.paraid_serve.proofs.GrowsLemmas.{told_then}
use Rattle.paraid_serve.proofs.HaltLemmas.{names_two, tells_wear}
use Rattle.paraid_serve.proofs.StatusLemmas.{cut_at, ends_there, halt_served, other, served}
use Rattle.paraid_serve.proofs.StretchLemmas.{stretch_none}
use Rattle.paraid_session.specs.Turn.{IsMark, Point}
use Rattle.paraid_session.specs.Mount.{IsMountedFromEach}
use Rattle.paraid_session.proofs.MountLemmas.{IsMountedFromEach-follows}
use Rattle.paraid_volume.specs.Device.{entries_in}
use Rattle.paraid_volume.specs.Lives.{VolLog}
use Rattle.paraid_volume.proofs.LivesLemmas.{left_by}
use Rattle.paraid_service.specs.declared.run.LinesEnd.{LinesEnd}
use Rattle.paraid_service.specs.declared.run.LinesEnd.TheVariants.{Done, Source, TooLong, Sink}
use Rattle.paraid_service.specs.declared.shelf.Shelf.{Shelf}
use Rattle.paraid_service.specs.LineEnds.{ServesVolumeLines}
use Rattle.paraid_service.specs.LineRuns.{KeepsLines, SaysLines}
use Rattle.paraid_service.specs.LineRuns.KeepsLines.{halting as keeps_halting, later as keeps_later, none_yet as keeps_none, one_more as keeps_more}
use Rattle.paraid_service.specs.LinesEnds.{EndsSession, HasFlushed, device_kept}
use Rattle.paraid_service.specs.LinesEnds.EndsSession.{at_sink, at_source, halted, kept, too_long}
use Rattle.paraid_service.specs.Shelves.{device_in, table_in}
use Rattle.paraid_volume_lines.specs.Grammar.{VolLine}
use Rattle.paraid_service.specs.VolumeLines.{Held}
use Rattle.paraid_service.specs.VolumeSessions.{AnswersFromPoint, AreOfHalt, AnswersLines, FlushesLast, FollowsForVolumes, HasEvent, IsLifeOf, LeavesHeld, VolumesHeadline, VolumesRun, VolumesText, WritesVolumes, life_start}
use Rattle.paraid_service.specs.VolumeForms.{AreFirstReads, FormsLines, HasVolumesForm, IsReplyToLine, VolumesForm}
use Rattle.paraid_service.specs.VolumeForms.FormsLines.{halting as forms_halting, later as forms_later, none_yet as forms_none, one_more as forms_more}
use Rattle.paraid_service.specs.VolumeForms.VolumesForm.{done as form_done, halted as form_halted, source as form_source, too_long as form_too_long}
use Rattle.paraid_service.specs.VolumeForms.HasVolumesForm.{answers as form_answers, at_first_line as form_first, last_line as form_last_line, whole as form_whole}
use Rattle.paraid_service.specs.VolumeSessions.IsLifeOf.{lives, waits}
use Rattle.paraid_service.specs.VolumeSessions.VolumesText.{done as done_text, halted as halted_text, source as source_text, too_long as too_long_text}
use Rattle.paraid_service.specs.VolumeSessions.WritesVolumes.{answers, first_line, last_line, whole}
use Rattle.paraid_service.proofs.EndLemmas.{synced_after}
use Rattle.paraid_service.proofs.FlushLemmas.{within_low}
use Rattle.paraid_service.proofs.FormLemmas.{form_caused, form_kinds}
use Rattle.paraid_service.proofs.PointLemmas.{flush_low, turns_history}
use Rattle.paraid_service.proofs.RunLemmas.{life_on}

-- What was said of lines, with the events that were kept and what a stop leaves of them.
pub record SaysKept {B : Type 0} (b : BlocksGhosts B) (start : B) (h : History) (lines : List (List ℕ)) (front reply : List ℕ) (device : B) (halt : Option Halt) : Type 0 where
  pub events : Answers
  pub kept : b.kept start device events
  pub answers : AnswersLines (b.block_count start) h lines front reply events halt
  pub leaves : halt ≡ None → (low : ℕ) → ((n : ℕ) → HasEvent events (Flush, Flushed n) → n ≤ low) → LeavesHeld (b.block_count start) (life_start answers.first h) low (h ++ entries_in events) answers.last answers.log

leaves_of : (count : ℕ) (h : History) (first : Held) (made : Answers) (s : Held) (log : VolLog) → IsLifeOf count h first made s log → (low : ℕ) → ((n : ℕ) → HasEvent made (Flush, Flushed n) → n ≤ low) → LeavesHeld count (life_start first h) low (h ++ entries_in made) s log
leaves_of count h first made _ _ (lives s log life flushes) low each = record {
  left = left_by count (life_start first h) (h ++ entries_in made) s log life;
  flushed = within_low low log made flushes each;
}
leaves_of count h first made _ _ (waits bare none) low each = tt

none_came : (begun : Option Halt) (cut : Option VolLine) → AreOfHalt begun cut []
none_came begun (Some asked) = tt
none_came (Some halt) None = tt
none_came None None = refl

pub answers_of : {B : Type 0} (b : BlocksGhosts B) (start : B) (h : History) (lines : List (List ℕ)) (front reply : List ℕ) (shelf : Shelf B b) (halt : Option Halt) → SaysLines b start h lines front reply shelf halt → SaysKept b start h lines front reply (device_in shelf) halt
answers_of b start h lines front reply shelf None y =
    let l = life_on b start h y.first shelf y.last y.log (y.on refl) in
    record {
      events = l.events;
      kept = l.kept;
      answers = record { first = y.first; begun = y.begun; begins = y.begins; log = y.log; last = y.last; cut = y.cut; steps = y.steps; before = l.events; rest = []; parts = sym (append-nil l.events); came = none_came y.begun y.cut; life = l.life };
      leaves = λ none. leaves_of (b.block_count start) h y.first l.events y.last y.log l.life;
    }
answers_of b start h lines front reply shelf (Some own) y =
    let l = y.broken own refl in
    record {
      events = l.before ++ l.rest;
      kept = l.all;
      answers = record { first = y.first; begun = y.begun; begins = y.begins; log = y.log; last = y.last; cut = y.cut; steps = y.steps; before = l.before; rest = l.rest; parts = refl; came = l.came; life = l.life };
      leaves = λ none. absurd (let no : Some own ≡ None = none in cc);
    }

-- a last line, written whole or in part
with_last : {span : Span} {p : Point} {bytes : List ℕ} {before after : Option (List ℕ)} (said line : List ℕ) (code status : ℕ) → (e : EndsWithLine before after line code status) → VolumesText span p bytes code said line
    → WritesVolumes span p bytes status (said ++ take e.count line)
with_last {span} {p} {bytes} {before} {after} said line code status e t = elim e.within [
  | inl short ↦ last_line (cut_at before after line code status e short) code said line e.count t short refl
  | inr all ↦
      let full : take e.count line ≡ line = take_all e.count line (let n = all.0 in omega (arith, n)) in
      whole said line (subst (λ (s : ℕ). VolumesText span p bytes s said line) (sym all.1) t) (ap (λ (x : List ℕ). said ++ x) full)
]

abbrev device_stands : {A : Type 0} (g : Ghosts A) → Device A g → History → Type 0
device_stands g device = StandsFor (g.stands (array_of device))

-- the same of its form
form_last : {old new : Shown} {bytes : List ℕ} {made : Answers} {before after : Option (List ℕ)} (said line : List ℕ) (code status : ℕ) → (e : EndsWithLine before after line code status) → VolumesForm old new bytes made code said line
    → HasVolumesForm old new bytes made status (said ++ take e.count line)
form_last {old} {new} {bytes} {made} {before} {after} said line code status e t = elim e.within [
  | inl short ↦ form_last_line (cut_at before after line code status e short) code said line e.count t short refl
  | inr all ↦
      let full : take e.count line ≡ line = take_all e.count line (let n = all.0 in omega (arith, n)) in
      form_whole said line (subst (λ (s : ℕ). VolumesForm old new bytes made s said line) (sym all.1) t) (ap (λ (x : List ℕ). said ++ x) full)
]

-- ---- the whole text, from what was answered

module _ (span : Span) (mid : Option Trail) (p : Point) (bytes : List ℕ) (front reply told : List ℕ) (same : told ≡ front ++ reply) where
  done_at : (lines : List (List ℕ)) (met : Option Halt) (writes : ℕ) (a : AnswersFromPoint (record span { now = mid }) p lines front reply met) → lines ≡ lines_of bytes → met ≡ None → writes ≡ length a.all.end.history → FlushesLast (record span { start = mid }) a.all.end (Flushed writes)
      → VolumesText span p bytes 0 (begins_with p ++ told) (end_line writes)
  done_at lines met writes a all none number flush =
      subst (λ (l : List (List ℕ)). (a : AnswersFromPoint (record span { now = mid }) p l front reply met) → writes ≡ length a.all.end.history → FlushesLast (record span { start = mid }) a.all.end (Flushed writes) → VolumesText span p bytes 0 (begins_with p ++ told) (end_line writes)) (sym all)
      (subst (λ (o : Option Halt). (a : AnswersFromPoint (record span { now = mid }) p (lines_of bytes) front reply o) → writes ≡ length a.all.end.history → FlushesLast (record span { start = mid }) a.all.end (Flushed writes) → VolumesText span p bytes 0 (begins_with p ++ told) (end_line writes)) (sym none)
      (λ a n f.
      subst (λ (x : List ℕ). VolumesText span p bytes 0 (begins_with p ++ x) (end_line writes)) (sym same)
      (subst (λ (k : ℕ). VolumesText span p bytes 0 (begins_with p ++ (front ++ reply)) (end_line k)) (sym n) (done_text mid front reply a (subst (λ (k : ℕ). FlushesLast (record span { start = mid }) a.all.end (Flushed k)) n f)))))
      a number flush

  halted_at : (lines : List (List ℕ)) (met : Option Halt) (own : Halt) (a : AnswersFromPoint (record span { now = mid }) p lines front reply met) → lines ≡ lines_of bytes → (met ≡ None) ⊎ (met ≡ Some own) → FlushesLast (record span { start = mid }) a.all.end (Halted own)
      → VolumesText span p bytes (status_of_halt own) (begins_with p ++ told) (halt_line own)
  halted_at lines met own a all why flush =
      subst (λ (l : List (List ℕ)). (a : AnswersFromPoint (record span { now = mid }) p l front reply met) → FlushesLast (record span { start = mid }) a.all.end (Halted own) → VolumesText span p bytes (status_of_halt own) (begins_with p ++ told) (halt_line own)) (sym all)
      (λ a f. subst (λ (x : List ℕ). VolumesText span p bytes (status_of_halt own) (begins_with p ++ x) (halt_line own)) (sym same) (halted_text mid own met front reply a why f))
      a flush

-- the halt of a device before its last flush
not_halted : (old new met : Option Halt) → old ≡ met → (IsSome old → new ≡ old) → new ≡ None → met ≡ None
not_halted None new met same again none = sym same
not_halted (Some own) new met same again none = absurd (let no : Some own ≡ None = sym (again refl) ∙ none in cc)

met_by : (old new met : Option Halt) (own : Halt) → old ≡ met → (IsSome old → new ≡ old) → new ≡ Some own → (met ≡ None) ⊎ (met ≡ Some own)
met_by None new met own same again is = inl (sym same)
met_by (Some other) new met own same again is = inr (sym same ∙ sym (again refl) ∙ is)

-- the same of what is seen of it
met_seen : (seen met : Option Halt) (own : Halt) → seen ≡ met → (met ≡ None) ⊎ (met ≡ Some own) → (seen ≡ None) ⊎ (seen ≡ Some own)
met_seen seen met own same (inl none) = inl (same ∙ none)
met_seen seen met own same (inr is) = inr (same ∙ is)

-- ---- its status

halt_status_is : (halt : Halt) → (status_of_halt halt ≡ 5) ⊎ (status_of_halt halt ≡ 12)
halt_status_is (HaltTwo two) = inl refl
halt_status_is (Worn count) = inr refl

no_halt_code : (halt : Halt) (n : ℕ) → n ≢ 5 → n ≢ 12 → n ≢ status_of_halt halt
no_halt_code halt n five twelve is = elim (halt_status_is halt) [ inl e ↦ five (is ∙ e) | inr e ↦ twelve (is ∙ e) ]

no_whole_status : {before after : Option (List ℕ)} {line : List ℕ} (code status : ℕ) → EndsWithLine before after line code status → 0 ≢ code → 5 ≢ code → 12 ≢ code → IsWholeStatus status → ⊥
no_whole_status code status e zero five twelve it = elim it [
  | inl is ↦ other _ _ _ _ _ e 0 (λ no. omega (arith, no)) zero is
  | inr (inl is) ↦ other _ _ _ _ _ e 5 (λ no. omega (arith, no)) five is
  | inr (inr is) ↦ other _ _ _ _ _ e 12 (λ no. omega (arith, no)) twelve is
]

four_not_whole : IsWholeStatus 4 → ⊥
four_not_whole it = elim it [ inl is ↦ omega (arith, is) | inr (inl is) ↦ omega (arith, is) | inr (inr is) ↦ omega (arith, is) ]

-- the first line is that of what is seen of the array
pub mount_shown : {A : Type 0} (g : Ghosts A) (a : A) (writes gear : ℕ) → writes ≡ (g.shown a).meta.writes → gear ≡ (g.shown a).gear → Shows (g.shown a) (g.setup a) (g.slot a) (g.halted a) → g.halted a ≡ None → mount_line writes gear ≡ line_shown (g.shown a)
mount_shown g a writes gear is at shows none = let here = at ∙ shows.gear (shows.halt ∙ none) in rw (is, here) refl

pub grew_as : {before after : Option (List ℕ)} {text other : List ℕ} → text ≡ other → GrowsByBytes before after text → GrowsByBytes before after other
grew_as {before} {after} is grew = subst (λ (w : List ℕ). GrowsByBytes before after w) is grew

module _ {A : Type 0} (g : Ghosts A) where
  abbrev device_ghosts : BlocksGhosts (Device A g)
  device_ghosts = record {
    block_count = λ d. block_count (g.setup (array_of d));
    halts = λ d. if is_some (halt_of_device d) then 1 else 0;
    halted = halt_of_device;
    tells = λ d. is_some (g.told (array_of d));
    stands = device_stands g;
    kept = device_kept g;
  }

  -- what is seen of its array
  abbrev seen_of : Device A g → Shown
  seen_of d = g.shown (array_of d)

  -- why the last flush is answered so
  flush_cause : (mid last : Device A g) (answer : Answer) (halt : Option Halt) → HasFlushed g mid last answer halt → HasCause (seen_of mid) Flush answer (seen_of last)
  flush_cause mid last answer halt f =
      let c = (f.kept mid [] (answered_none g (array_of mid))).causes in
      subst (λ (x : Shown). HasCause (seen_of mid) Flush answer x) (sym c.2) c.1

  module _ (shows : (x : A) → Shows (g.shown x) (g.setup x) (g.slot x) (g.halted x)) where
    seen_halt : (d : Device A g) (halt : Option Halt) → halt_of_device d ≡ halt → (seen_of d).halt ≡ halt
    seen_halt d halt is = (shows (array_of d)).halt ∙ array_halt d ∙ is

    -- the answers to lines, by what is seen of the array
    lines_form : (first : Device A g) {shelf : Shelf (Device A g) device_ghosts} {lines : List (List ℕ)} {front reply : List ℕ} → KeepsLines device_ghosts first lines front reply shelf
        → (made : Answers) × FormsLines (seen_of first) lines front reply made (seen_of (device_in shelf)) (table_in shelf)
    lines_form first (keeps_none shelf reads) =
        let m = reads.grows first [] (answered_none g (array_of first)) in
        let here = subst (λ (z : Setup). AreFirstReads (block_count z) (halt_of_device (device_in shelf)) m.0 (table_in shelf)) (sym (shows (array_of first)).setup) m.2 in
        let is = subst (λ (x : Option Halt). AreFirstReads (block_count (seen_of first).setup) x m.0 (table_in shelf)) (sym (seen_halt (device_in shelf) (halt_of_device (device_in shelf)) refl)) here in
        (m.0, forms_none m.0 (seen_of (device_in shelf)) (table_in shelf) is m.1.causes)
    lines_form first (keeps_more lines line front reply said asked old new before was ask replies going) =
        let b = lines_form first before in
        let m = replies.grows (device_in old) [] (answered_none g (array_of (device_in old))) in
        let is = subst (λ (z : Setup). IsReplyToLine (block_count z) (table_in old) asked said m.0 (table_in new)) (sym (shows (array_of first)).setup) m.2 in
        (b.0 ++ m.0, forms_more lines line front reply said asked b.0 m.0 (seen_of (device_in old)) (seen_of (device_in new)) (table_in old) (table_in new) b.1 (seen_halt (device_in old) None was) ask is m.1.causes (seen_halt (device_in new) None going))
    lines_form first (keeps_halting lines line front reply asked own old new before was ask not_bad not_list keeps is) =
        let b = lines_form first before in
        let m = keeps.grows (device_in old) [] (answered_none g (array_of (device_in old))) in
        (b.0 ++ m.more, forms_halting lines line front reply asked own b.0 m.more (seen_of (device_in old)) (seen_of (device_in new)) (table_in old) (table_in new) b.1 (seen_halt (device_in old) None was) ask not_bad not_list m.all m.kept.causes (seen_halt (device_in new) (Some own) is))
    lines_form first (keeps_later lines line front reply asked own shelf before is ask) =
        let b = lines_form first before in
        (b.0, forms_later lines line front reply asked own b.0 (seen_of (device_in shelf)) (table_in shelf) b.1 (seen_halt (device_in shelf) (Some own) is) ask)

  module _ (agrees : (x : A) (q : Point) → g.stands x q → q.halt ≡ g.halted x) (shows : (x : A) → Shows (g.shown x) (g.setup x) (g.slot x) (g.halted x)) (first : Device A g) where
    abbrev span_to : Option Trail → Span
    span_to final = span_of (g.slots (array_of first)) (g.setup (array_of first)) (g.told (array_of first)) final

    abbrev Text : Option Trail → Point → List ℕ → ℕ → List ℕ → List ℕ → Type 0
    Text final p bytes code said last = VolumesText (span_to final) p bytes code said last

    abbrev Run : Option Trail → Shown → Streams → ℕ → Type 0
    Run final now streams status = VolumesRun (seen_of first) now (span_to final) (g.stands (array_of first)) streams status

    -- the line of the array as it is first
    abbrev opening : List ℕ
    opening = line_shown (seen_of first)

    -- lines that a device answered, from a point at which its array stood
    point_answers : (mid : Device A g) (p : Point) (lines : List (List ℕ)) (front reply : List ℕ) (halt : Option Halt) → (at : g.stands (array_of first) p) (is : IsSome (g.told (array_of mid))) → halt_of_device mid ≡ halt
        → (x : SaysKept device_ghosts first p.history lines front reply mid halt) → (a : AnswersFromPoint (span_to (g.told (array_of mid))) p lines front reply halt) × g.stands (array_of mid) a.all.end
    point_answers mid p lines front reply halt at is same x =
        let k = x.kept.leads is p at in
        let halted : k.all.end.halt ≡ halt = agrees (array_of mid) k.all.end k.stands ∙ array_halt mid ∙ same in
        let written : k.all.end.history ≡ p.history ++ entries_in x.events =
        turns_history (g.slots (array_of first)) (g.setup (array_of first)) p k.all.end k.all.turns k.all.went ∙ ap (λ (e : Answers). p.history ++ entries_in e) k.answered in (
          record {
            events = x.events;
            answers = x.answers;
            asked = k.asked;
            all = k.all;
            answered = k.answered;
            kinds = x.kept.kinds;
            halted = halted;
            written = written;
            stops = λ none. subst (λ (w : History). LeavesHeld (block_count (g.setup (array_of first))) (life_start x.answers.first p.history) k.all.end.low w x.answers.last x.answers.log) (sym written)
                (x.leaves none k.all.end.low (flush_low (g.slots (array_of first)) (g.setup (array_of first)) p k.all.end k.all.turns x.events k.all.went k.answered (halted ∙ none)));
          },
          k.stands,
        )

    -- the flush behind them
    flush_behind : (mid last : Device A g) (q : Point) (answer : Answer) (halt : Option Halt) → g.slots (array_of mid) ≡ g.slots (array_of first) → g.setup (array_of mid) ≡ g.setup (array_of first) → g.stands (array_of mid) q → IsSome (g.told (array_of last))
        → HasFlushed g mid last answer halt → FlushesLast (span_of (g.slots (array_of first)) (g.setup (array_of first)) (g.told (array_of mid)) (g.told (array_of last))) q answer
    flush_behind mid last q answer halt slots setup stands is f =
        let k = (f.kept mid [] (answered_none g (array_of mid))).leads is q stands in
        subst (λ (n : ℕ). FlushesLast (span_of n (g.setup (array_of first)) (g.told (array_of mid)) (g.told (array_of last))) q answer) slots
        (subst (λ (z : Setup). FlushesLast (span_of (g.slots (array_of mid)) z (g.told (array_of mid)) (g.told (array_of last))) q answer) setup (record { asked = k.asked; all = k.all; answered = k.answered }))

    module _ (going : halt_of_device first ≡ None) (x : Streams) {begun written : Option (List ℕ)} (shelf : Shelf (Device A g) device_ghosts) (halt : Option Halt)
        (grew : GrowsByBytes x.sink.written_before begun opening) (mounted : (p : Point) → g.stands (array_of first) p → opening ≡ begins_with p) where
      module _ (end : LinesEnd) (s : ServesVolumeLines device_ghosts first x.source.left_before x.source.left begun written shelf halt end) where
        -- the events that were kept, whatever is told
        answered_mid : (e : Answers) × HasAnswered g (array_of first) (array_of (device_in shelf)) e
        answered_mid = let k = s.runs.keeps.grows first [] (answered_none g (array_of first)) in (k.0, k.1)

        form_mid : (made : Answers) × FormsLines (seen_of first) s.lines s.front s.reply made (seen_of (device_in shelf)) (table_in shelf)
        form_mid = lines_form shows first (s.runs.form going)

        says_mid : IsSome (g.told (array_of (device_in shelf))) → (p : Point) → g.stands (array_of first) p → SaysKept device_ghosts first p.history s.lines s.front s.reply (device_in shelf) halt
        says_mid is p at = answers_of device_ghosts first p.history s.lines s.front s.reply shelf halt (s.runs.says p.history (record { point = p; at = at; is = refl }) is)

        answers_mid : (is : IsSome (g.told (array_of (device_in shelf)))) (p : Point) → g.stands (array_of first) p
            → (a : AnswersFromPoint (span_to (g.told (array_of (device_in shelf)))) p s.lines s.front s.reply halt) × g.stands (array_of (device_in shelf)) a.all.end
        answers_mid is p at = point_answers (device_in shelf) p s.lines s.front s.reply halt at is (s.runs.halted going) (says_mid is p at)

        -- a last line behind the answers
        ends_line : (final : Option Trail) (now : Shown) (made : Answers) (line : List ℕ) (code status : ℕ) (e : EndsWithLine written x.sink.written line code status) → (status ≡ 10 → length s.bytes ≡ stream_most) → (IsWholeStatus status → (length s.bytes < stream_most) × AtEnd x.source.left)
            → VolumesForm (seen_of first) now s.bytes made code (opening ++ s.told) line → (IsSome final → (p : Point) → g.stands (array_of first) p → Text final p s.bytes code (begins_with p ++ s.told) line) → Run final now x status
        ends_line final now made line code status e full all form text = record {
          bytes = s.bytes;
          text = (opening ++ s.told) ++ take e.count line;
          given = s.given;
          grows = GrowsByBytes-then x.sink.written_before written x.sink.written (opening ++ s.told) (take e.count line) (GrowsByBytes-then x.sink.written_before begun written (opening) s.told grew s.grows) e.grows;
          full = full;
          all = all;
          events = made;
          form = form_last (opening ++ s.told) line code status e form;
          wrote = λ is p at. subst (λ (x : List ℕ). WritesVolumes (span_to final) p s.bytes status ((x ++ s.told) ++ take e.count line)) (sym (mounted p at))
              (with_last (begins_with p ++ s.told) line code status e (text is p at));
        }

      -- all lines were answered, and the flush with a number
      ran_kept : (last : Device A g) (writes status : ℕ) → ServesVolumeLines device_ghosts first x.source.left_before x.source.left begun written shelf halt Done → HasFlushed g (device_in shelf) last (Flushed writes) None
          → EndsWithLine written x.sink.written (end_line writes) 0 status → Run (g.told (array_of last)) (seen_of last) x status
      ran_kept last writes status s f e =
          let mid = device_in shelf in
          let before = answered_mid Done s in
          let none : halt ≡ None = not_halted (halt_of_device mid) (halt_of_device last) halt (s.runs.halted going) f.again f.halted in
          let made = (form_mid Done s).0 in
          let form = subst (λ (l : List (List ℕ)). FormsLines (seen_of first) l s.front s.reply made (seen_of mid) (table_in shelf)) s.ends.0 (form_mid Done s).1 in
          ends_line Done s (g.told (array_of last)) (seen_of last) (made ++ (Flush, Flushed writes) ∷ []) (end_line writes) 0 status e (λ ten. absurd (other _ _ _ _ _ e 10 (λ no. omega arith) (λ no. omega arith) ten)) (λ whole. (s.ends.2, s.ends.3)) (subst (λ (w : List ℕ). VolumesForm (seen_of first) (seen_of last) s.bytes (made ++ (Flush, Flushed writes) ∷ []) 0 (opening ++ w) (end_line writes)) (sym s.ends.1)
          (form_done s.front s.reply made (seen_of mid) (table_in shelf) writes form (seen_halt shows mid None (s.runs.halted going ∙ none)) (flush_cause mid last (Flushed writes) None f))) (λ is p at.
          let here = told_then (g.told (array_of mid)) (g.told (array_of last)) (f.kept mid [] (answered_none g (array_of mid))).grows is in
          let y = answers_mid Done s here p at in
          let number : writes ≡ length y.0.all.end.history = f.number y.0.all.end.history (record { point = y.0.all.end; at = y.1; is = refl }) is writes refl in
          let behind = flush_behind mid last y.0.all.end (Flushed writes) None before.1.same_slots before.1.same_setup y.1 is f in
          done_at (span_to (g.told (array_of last))) (g.told (array_of mid)) p s.bytes s.front s.reply s.told s.ends.1 s.lines halt writes y.0 s.ends.0 none number behind)

      -- all lines were answered, and the flush by a halt
      ran_halted : (last : Device A g) (own : Halt) (status : ℕ) → ServesVolumeLines device_ghosts first x.source.left_before x.source.left begun written shelf halt Done → HasFlushed g (device_in shelf) last (Halted own) (Some own)
          → EndsWithLine written x.sink.written (halt_line own) (status_of_halt own) status → Run (g.told (array_of last)) (seen_of last) x status
      ran_halted last own status s f e =
          let mid = device_in shelf in
          let before = answered_mid Done s in
          let met = met_by (halt_of_device mid) (halt_of_device last) halt own (s.runs.halted going) f.again f.halted in
          let made = (form_mid Done s).0 in
          let form = subst (λ (l : List (List ℕ)). FormsLines (seen_of first) l s.front s.reply made (seen_of mid) (table_in shelf)) s.ends.0 (form_mid Done s).1 in
          ends_line Done s (g.told (array_of last)) (seen_of last) (made ++ (Flush, Halted own) ∷ []) (halt_line own) (status_of_halt own) status e (λ ten. absurd (other _ _ _ _ _ e 10 (λ no. omega (arith, no)) (no_halt_code own 10 (λ no. omega (arith, no)) (λ no. omega (arith, no))) ten)) (λ whole. (s.ends.2, s.ends.3)) (subst (λ (w : List ℕ). VolumesForm (seen_of first) (seen_of last) s.bytes (made ++ (Flush, Halted own) ∷ []) (status_of_halt own) (opening ++ w) (halt_line own)) (sym s.ends.1)
          (form_halted s.front s.reply made (seen_of mid) (table_in shelf) own form (met_seen (seen_of mid).halt halt own (seen_halt shows mid halt (s.runs.halted going)) met) (flush_cause mid last (Halted own) (Some own) f))) (λ is p at.
          let here = told_then (g.told (array_of mid)) (g.told (array_of last)) (f.kept mid [] (answered_none g (array_of mid))).grows is in
          let y = answers_mid Done s here p at in
          halted_at (span_to (g.told (array_of last))) (g.told (array_of mid)) p s.bytes s.front s.reply s.told s.ends.1 s.lines halt own y.0 s.ends.0
          met (flush_behind mid last y.0.all.end (Halted own) (Some own) before.1.same_slots before.1.same_setup y.1 is f))

      pub ran : (last : Device A g) (end : LinesEnd) (status : ℕ) → ServesVolumeLines device_ghosts first x.source.left_before x.source.left begun written shelf halt end → EndsSession g (device_in shelf) last written x.sink.written end status → Run (g.told (array_of last)) (seen_of last) x status
      ran last Done status s (kept writes status' f e) = ran_kept last writes status s f e
      ran last Done status s (halted own status' f e) = ran_halted last own status s f e
      ran last Source status s (at_source status' same e) =
          subst (λ (d : Device A g). Run (g.told (array_of d)) (seen_of d) x status) (sym same)
          (ends_line Source s (g.told (array_of (device_in shelf))) (seen_of (device_in shelf)) (form_mid Source s).0 (codes "source\n") 3 status e (λ ten. absurd (other _ _ _ _ _ e 10 (λ no. omega (arith, no)) (λ no. omega (arith, no)) ten))
          (λ whole. absurd (no_whole_status 3 status e (λ no. omega (arith, no)) (λ no. omega (arith, no)) (λ no. omega (arith, no)) whole)) (subst (λ (w : List ℕ). VolumesForm (seen_of first) (seen_of (device_in shelf)) s.bytes (form_mid Source s).0 3 (opening ++ w) (codes "source\n")) (sym s.ends.1)
          (form_source s.front s.reply (form_mid Source s).0 (table_in shelf) (subst (λ (l : List (List ℕ)). FormsLines (seen_of first) l s.front s.reply (form_mid Source s).0 (seen_of (device_in shelf)) (table_in shelf)) s.ends.0 (form_mid Source s).1))) (λ is p at.
          let y = answers_mid Source s is p at in
          subst (λ (w : List ℕ). Text (g.told (array_of (device_in shelf))) p s.bytes 3 (begins_with p ++ w) (codes "source\n")) (sym s.ends.1)
          (source_text halt s.front s.reply (subst (λ (l : List (List ℕ)). AnswersFromPoint (span_to (g.told (array_of (device_in shelf)))) p l s.front s.reply halt) s.ends.0 y.0))))
      ran last TooLong status s (too_long status' same e) =
          subst (λ (d : Device A g). Run (g.told (array_of d)) (seen_of d) x status) (sym same)
          (ends_line TooLong s (g.told (array_of (device_in shelf))) (seen_of (device_in shelf)) (form_mid TooLong s).0 (codes "toolong\n") 10 status e (λ ten. s.ends.2)
          (λ whole. absurd (no_whole_status 10 status e (λ no. omega (arith, no)) (λ no. omega (arith, no)) (λ no. omega (arith, no)) whole)) (subst (λ (w : List ℕ). VolumesForm (seen_of first) (seen_of (device_in shelf)) s.bytes (form_mid TooLong s).0 10 (opening ++ w) (codes "toolong\n")) (sym s.ends.1)
          (form_too_long s.front s.reply (form_mid TooLong s).0 (table_in shelf) s.ends.2 (subst (λ (l : List (List ℕ)). FormsLines (seen_of first) l s.front s.reply (form_mid TooLong s).0 (seen_of (device_in shelf)) (table_in shelf)) s.ends.0 (form_mid TooLong s).1))) (λ is p at.
          let y = answers_mid TooLong s is p at in
          subst (λ (w : List ℕ). Text (g.told (array_of (device_in shelf))) p s.bytes 10 (begins_with p ++ w) (codes "toolong\n")) (sym s.ends.1)
          (too_long_text s.ends.2 halt s.front s.reply (subst (λ (l : List (List ℕ)). AnswersFromPoint (span_to (g.told (array_of (device_in shelf)))) p l s.front s.reply halt) s.ends.0 y.0))))
      ran last Sink status s (at_sink same after) =
          subst (λ (d : Device A g). Run (g.told (array_of d)) (seen_of d) x 4) (sym same) (record {
            bytes = s.bytes;
            text = opening ++ s.told;
            given = s.given;
            grows = subst (λ (w : Option (List ℕ)). GrowsByBytes x.sink.written_before w (opening ++ s.told)) (sym after) (GrowsByBytes-then x.sink.written_before begun written (opening) s.told grew s.grows);
            full = λ ten. absurd (omega (arith, ten));
            all = λ whole. absurd (four_not_whole whole);
            events = (form_mid Sink s).0;
            form = form_answers refl s.ends.before s.ends.more s.ends.line s.front s.reply s.ends.count (table_in shelf) s.ends.split (subst (λ (l : List (List ℕ)). FormsLines (seen_of first) l s.front s.reply (form_mid Sink s).0 (seen_of (device_in shelf)) (table_in shelf)) s.ends.are (form_mid Sink s).1) s.ends.short (ap (λ (w : List ℕ). opening ++ w) s.ends.cut);
            wrote = λ is p at.
                answers refl s.ends.before s.ends.more s.ends.line s.front s.reply s.ends.count halt s.ends.split (subst (λ (l : List (List ℕ)). AnswersFromPoint (span_to (g.told (array_of (device_in shelf)))) p l s.front s.reply halt) s.ends.are (answers_mid Sink s is p at).0) s.ends.short
                (ap (λ (w : List ℕ). w ++ s.told) (mounted p at) ∙ ap (λ (w : List ℕ). begins_with p ++ w) s.ends.cut);
          })

      -- what the array did in all
      pub all_answered : (last : Device A g) (end : LinesEnd) (status : ℕ) → ServesVolumeLines device_ghosts first x.source.left_before x.source.left begun written shelf halt end → EndsSession g (device_in shelf) last written x.sink.written end status
          → (e : Answers) × HasAnswered g (array_of first) (array_of last) e
      all_answered last Done status s (kept writes status' f e) = let k = answered_mid Done s in (_, f.kept first k.0 k.1)
      all_answered last Done status s (halted own status' f e) = let k = answered_mid Done s in (_, f.kept first k.0 k.1)
      all_answered last Source status s (at_source status' same e) = let k = answered_mid Source s in (k.0, subst (λ (d : Device A g). HasAnswered g (array_of first) (array_of d) k.0) (sym same) k.1)
      all_answered last TooLong status s (too_long status' same e) = let k = answered_mid TooLong s in (k.0, subst (λ (d : Device A g). HasAnswered g (array_of first) (array_of d) k.0) (sym same) k.1)
      all_answered last Sink status s (at_sink same after) = let k = answered_mid Sink s in (k.0, subst (λ (d : Device A g). HasAnswered g (array_of first) (array_of d) k.0) (sym same) k.1)

  -- the first line could not be written
  pub ran_none : (a : A) (left : Option (List ℕ)) (count : ℕ) (sink : SinkUse) (n : ℕ) → n < length (line_shown (g.shown a)) → GrowsByBytes sink.written_before sink.written (take n (line_shown (g.shown a))) → ((p : Point) → g.stands a p → line_shown (g.shown a) ≡ begins_with p)
      → VolumesRun (g.shown a) (g.shown a) (span_between g a a) (g.stands a) (streams_of (record { left_before = left; left = left; faults_before = count; faults = count }) sink) 4
  ran_none a left count sink n short grew mounted = record {
    bytes = [];
    text = take n (line_shown (g.shown a));
    given = Gives-none left;
    grows = grew;
    full = λ ten. absurd (omega (arith, ten));
    all = λ whole. absurd (four_not_whole whole);
    events = [];
    form = form_first refl refl refl refl n short refl;
    wrote = λ is p at. first_line refl n refl (stretch_none (g.slots a) (g.setup a) (g.told a) p is) (subst (λ (x : List ℕ). n < length x) (mounted p at) short) (ap (take n) (mounted p at));
  }
      -- what a device answered, told of its arrays

pub answered_at : {A : Type 0} (g : Ghosts A) (first last : Device A g) (a b : A) (events : Answers) → array_of first ≡ a → b ≡ array_of last → HasAnswered g (array_of first) (array_of last) events → HasAnswered g a b events
answered_at {A} g first last a b events e f k = subst (λ (z : A). HasAnswered g a z events) (sym f) (subst (λ (z : A). HasAnswered g z (array_of last) events) e k)

-- ---- the last flush

flushed_same : (n m : ℕ) → Flushed n ≡ Flushed m → n ≡ m
flushed_same n m e = cc

halted_flushed : (own : Halt) (n : ℕ) → Halted own ≡ Flushed n → ⊥
halted_flushed own n e = cc

module _ {A : Type 0} (g : Ghosts A) (old new : Device A g) where
  pub flush_kept : (writes : ℕ) → ((first : Device A g) (events : Answers) → device_kept g first old events → device_kept g first new (events ++ (Flush, Flushed writes) ∷ [])) → halt_of_device new ≡ None → (IsSome (halt_of_device old) → halt_of_device new ≡ halt_of_device old)
      → ((h : History) → StandsFor (g.stands (array_of old)) h → IsSome (g.told (array_of new)) → writes ≡ length h) → HasFlushed g old new (Flushed writes) None
  flush_kept writes grown none again number = record { kept = grown; halted = none; again = again; number = λ h at is n e. sym (flushed_same writes n e) ∙ number h at is }

  pub flush_halted : (own : Halt) → ((first : Device A g) (events : Answers) → device_kept g first old events → device_kept g first new (events ++ (Flush, Halted own) ∷ [])) → halt_of_device new ≡ Some own → (IsSome (halt_of_device old) → halt_of_device new ≡ halt_of_device old)
      → HasFlushed g old new (Halted own) (Some own)
  flush_halted own grown some again = record { kept = grown; halted = some; again = again; number = λ h at is n e. absurd (halted_flushed own n e) }

-- ---- from the first point of a session on

module _ {A : Type 0} (g : Ghosts A) (agrees : (x : A) (q : Point) → g.stands x q → q.halt ≡ g.halted x) (a b : A) (events : Answers) (all : HasAnswered g a b events) (status : ℕ) (going : status ≡ 0 → g.halted b ≡ None)
    {streams : Streams} (r : VolumesRun (g.shown a) (g.shown b) (span_between g a b) (g.stands a) streams status) where
  -- after an end with 0 no block is loose
  synced_at : IsSome (g.told b) → (p : Point) → g.stands a p → IsMark (g.slots a) (g.setup a) p → ((t : Trail) → g.told a ≡ Some t → p.disks ≡ disks_now t) → status ≡ 0 → (u : Trail) → g.told b ≡ Some u → AreSynced (disks_now u)
  synced_at is p at mark here zero = synced_after g a b p at is agrees mark here events all (going zero)

  pub headline_of : (began : ℕ) → IsMountedFromEach (g.slots a) (g.setup a) began (g.told a) (g.stands a) → VolumesHeadline (g.shown a) (g.shown b) (span_between g a b) began streams status
  headline_of began mounted = record {
    bytes = r.bytes;
    text = r.text;
    given = r.given;
    grows = r.grows;
    full = r.full;
    all = r.all;
    events = r.events;
    causes = form_caused r.form;
    kinds = form_kinds r.form;
    form = r.form;
    said = λ is. IsMountedFromEach-follows (g.slots a) (g.setup a) began (g.told a) (g.stands a) (FollowsForVolumes (span_between g a b) r.bytes status r.text)
        (λ p mark here at. record { wrote = r.wrote is p at; left = λ mid asked c. stretch_leaves (record (span_between g a b) { now = mid }) p asked c mark (here c.from c.was); synced = synced_at is p at mark here }) mounted;
  }

-- ---- why it ended so

module _ {A : Type 0} (g : Ghosts A) {old new : Device A g} {before after : Option (List ℕ)} where
  pub ends_served : (end : LinesEnd) (status : ℕ) → EndsSession g old new before after end status → IsServedStatus status
  ends_served Done status (kept writes status' f e) = served _ _ _ _ _ e (inl refl)
  ends_served Done status (halted own status' f e) = served _ _ _ _ _ e (halt_served own)
  ends_served Source status (at_source status' same e) = served _ _ _ _ _ e (inr (inl refl))
  ends_served TooLong status (too_long status' same e) = served _ _ _ _ _ e (inr (inr (inr (inr (inl refl)))))
  ends_served Sink status (at_sink same w) = inr (inr (inl refl))

  pub ends_three : (end : LinesEnd) (status : ℕ) → EndsSession g old new before after end status → status ≡ 3 → end ≡ Source
  ends_three Done status (kept writes status' f e) is = absurd (other _ _ _ _ _ e 3 (λ no. omega (arith, no)) (λ no. omega (arith, no)) is)
  ends_three Done status (halted own status' f e) is = absurd (other _ _ _ _ _ e 3 (λ no. omega (arith, no)) (no_halt_code own 3 (λ no. omega (arith, no)) (λ no. omega (arith, no))) is)
  ends_three Source status (at_source status' same e) is = refl
  ends_three TooLong status (too_long status' same e) is = absurd (other _ _ _ _ _ e 3 (λ no. omega (arith, no)) (λ no. omega (arith, no)) is)
  ends_three Sink status (at_sink same w) is = absurd (omega (arith, is))

  -- a fault of the source ends with 3, or with 4 by the last line
  pub not_at_source : (end : LinesEnd) (status : ℕ) → EndsSession g old new before after end status → status ≢ 3 → status ≢ 4 → end ≢ Source
  not_at_source Done status ends not nor is = cc
  not_at_source Source status (at_source status' same e) not nor is = ends_there _ _ _ _ _ e nor not
  not_at_source TooLong status ends not nor is = cc
  not_at_source Sink status ends not nor is = cc

  -- one of the sink ends with 4
  pub not_at_sink : (end : LinesEnd) (status : ℕ) → EndsSession g old new before after end status → status ≢ 4 → end ≢ Sink
  not_at_sink Done status ends not is = cc
  not_at_sink Source status ends not is = cc
  not_at_sink TooLong status ends not is = cc
  not_at_sink Sink status (at_sink same w) not is = not refl

  pub ends_going : (end : LinesEnd) (status : ℕ) → EndsSession g old new before after end status → status ≡ 0 → g.halted (array_of new) ≡ None
  ends_going Done status (kept writes status' f e) is = array_halt new ∙ f.halted
  ends_going Done status (halted own status' f e) is = absurd (other _ _ _ _ _ e 0 (λ no. omega (arith, no)) (no_halt_code own 0 (λ no. omega (arith, no)) (λ no. omega (arith, no))) is)
  ends_going Source status (at_source status' same e) is = absurd (other _ _ _ _ _ e 0 (λ no. omega (arith, no)) (λ no. omega (arith, no)) is)
  ends_going TooLong status (too_long status' same e) is = absurd (other _ _ _ _ _ e 0 (λ no. omega (arith, no)) (λ no. omega (arith, no)) is)
  ends_going Sink status (at_sink same w) is = absurd (omega (arith, is))

  module _ (written_before : Option (List ℕ)) (text : List ℕ) (grew : GrowsByBytes written_before before text) where
    pub ends_two : (start : ℕ → Slot) → HaltsBySecondLoss start (g.slot (array_of new)) (g.halted (array_of new)) → (end : LinesEnd) (status : ℕ) → EndsSession g old new before after end status → status ≡ 5 → NamesTwoLost start (g.slot (array_of new)) written_before after
    ends_two start lost Done status (kept writes status' f e) is = absurd (other _ _ _ _ _ e 5 (λ no. omega (arith, no)) (λ no. omega (arith, no)) is)
    ends_two start lost Done status (halted own status' f e) is = names_two start (g.slot (array_of new)) own written_before before after text status (subst (λ (o : Option Halt). HaltsBySecondLoss start (g.slot (array_of new)) o) (array_halt new ∙ f.halted) lost) grew e is
    ends_two start lost Source status (at_source status' same e) is = absurd (other _ _ _ _ _ e 5 (λ no. omega (arith, no)) (λ no. omega (arith, no)) is)
    ends_two start lost TooLong status (too_long status' same e) is = absurd (other _ _ _ _ _ e 5 (λ no. omega (arith, no)) (λ no. omega (arith, no)) is)
    ends_two start lost Sink status (at_sink same w) is = absurd (omega (arith, is))

    pub ends_worn : HaltsByWear (g.halted (array_of new)) → (end : LinesEnd) (status : ℕ) → EndsSession g old new before after end status → status ≡ 12 → TellsWear written_before after
    ends_worn worn Done status (kept writes status' f e) is = absurd (other _ _ _ _ _ e 12 (λ no. omega (arith, no)) (λ no. omega (arith, no)) is)
    ends_worn worn Done status (halted own status' f e) is = tells_wear own written_before before after text status (subst HaltsByWear (array_halt new ∙ f.halted) worn) grew e is
    ends_worn worn Source status (at_source status' same e) is = absurd (other _ _ _ _ _ e 12 (λ no. omega (arith, no)) (λ no. omega (arith, no)) is)
    ends_worn worn TooLong status (too_long status' same e) is = absurd (other _ _ _ _ _ e 12 (λ no. omega (arith, no)) (λ no. omega (arith, no)) is)
    ends_worn worn Sink status (at_sink same w) is = absurd (omega (arith, is))

-- a fault of the sink, in the lines or in the last one
pub sink_cause : (end : LinesEnd) (first began ended last status : ℕ) → first ≤ began → began ≤ ended → ended ≤ last → (end ≡ Sink → HasRisen began ended) → (status ≡ 4 → end ≢ Sink → HasRisen ended last) → status ≡ 4 → HasRisen first last
sink_cause Sink first began ended last status a b c run line four = HasRisen-sooner first began last a (HasRisen-later began ended last (run refl) c)
sink_cause Done first began ended last status a b c run line four = HasRisen-sooner first ended last (omega (arith, a, b)) (line four (λ no. cc))
sink_cause Source first began ended last status a b c run line four = HasRisen-sooner first ended last (omega (arith, a, b)) (line four (λ no. cc))
sink_cause TooLong first began ended last status a b c run line four = HasRisen-sooner first ended last (omega (arith, a, b)) (line four (λ no. cc))
