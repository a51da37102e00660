-- Lines, whether there are volumes or not.
use Rattle.std.proofs.Common.{◌≡◌, ℕ, ◌+◌, ◌<◌, ◌≤◌, [], ◌∷◌, List, ◌++◌, ◌∙◌, length, length-append, refl, sym, ap, subst, arith, inl, inr}
use Rattle.std.specs.Prelude.{Option, Some, None, Err, IsTrue, codes}
use Rattle.std.proofs.lemmas.List.{append-nil, append_assoc, length_push}
use Rattle.paraid_base.specs.declared.block.Block.{Block}
use Rattle.paraid_base.specs.declared.fault.Halt.{Halt}
use Rattle.paraid_base.specs.declared.event.Answer.TheVariants.{Flushed as FlushedAnswer}
use Rattle.paraid_base.specs.declared.event.Event.TheVariants.{Flush as FlushEvent}
use Rattle.paraid_base.specs.BlockAnswers.{Answers}
use Rattle.paraid_base.specs.History.{History, after_all}
use Rattle.paraid_blocks.specs.declared.blocks.Blocks.{Ghosts}
use Rattle.paraid_volume.specs.declared.fault.VolFault.{VolFault}
use Rattle.paraid_volume.specs.declared.fault.VolFault.TheVariants.{Halt as VolHalt, Small, NotVolumes, Already, NoVolume, NoBlock, Exists, NoExtents, Names, Space}
use Rattle.paraid_volume.specs.declared.volumes.Volumes.{Volumes}
use Rattle.paraid_volume.specs.Device.{DeviceGoesOn, DeviceHolds, IsReadEvent, IsReadOrWrite, KeepsMore, SinceHistory, entries_in}
use Rattle.paraid_volume.specs.Faults.{IsAdoptFault, IsInitFault, vol_halt_in}
use Rattle.paraid_volume.specs.Lives.{BeginsLife, HasLived, Life, VolLog, flush as FlushCall, flushed}
use Rattle.paraid_volume.specs.Lives.Life.{begun, next}
use Rattle.paraid_volume_lines.specs.Asked.{line_with}
use Rattle.paraid_volume_lines.specs.declared.asked.VolAsked.{VolAsked}
use Rattle.paraid_volume_lines.specs.declared.asked.VolAsked.TheVariants.{Init as AskInit, Create as AskCreate, Delete as AskDelete, Read as AskRead, Write as AskWrite, Flush as AskFlush, List as AskList, Bad as AskBad}
use Rattle.paraid_volume.specs.States.{VolumeState}
use Rattle.paraid_volume.specs.Tables.{IsVolumeTable, extent_count, extent_size}
use Rattle.paraid_volume.specs.Values.{VolumesStandFor, device_of, halted_of, volume_table}
use Rattle.paraid_volume.proofs.DeviceLemmas.{DeviceGoesOn-none, KeepsMore-none, entries_in-append}
use Rattle.paraid_volume.proofs.OneCallLemmas.{lived_flush}
use Rattle.paraid_volume_lines.specs.Grammar.{VolLine, bad, flush, init, list}
use Rattle.paraid_volume_lines.specs.Texts.{begun_text, fault_text}
use Rattle.paraid_service.specs.declared.shelf.Shelf.TheVariants.{Bare, Held as HeldShelf}
use Rattle.paraid_service.specs.LineSteps.{KeepsFlush, ServesHeld, KeepsReply}
use Rattle.paraid_service.specs.Shelves.{OnHeld, OnShelf, OpensShelf, ServesShelf, StepsShelf}
use Rattle.paraid_service.specs.VolumeLines.{Held, IsEventOf, LineStep}
use Rattle.paraid_service.specs.VolumeLines.LineStep.{begins, calls}
use Rattle.paraid_service.specs.VolumeLines.IsCallOf.{flushes}
use Rattle.paraid_base.specs.Xor.{zero_block}
use Rattle.paraid_volume.specs.TableCalls.{AreOfInit, AreRefusedReads, AreTableReads, KeepsThen, table_reads}
use Rattle.paraid_service.specs.VolumeForms.{AreFirstReads, AreTabled, IsReplyToLine}
use Rattle.paraid_service.specs.VolumeForms.AreFirstReads.{cut, gave, gave_none, too_small}
use Rattle.paraid_service.specs.VolumeForms.IsReplyToLine.{begun as begun_reply, is_found}
use Rattle.paraid_service.specs.VolumeSessions.{AreFlushesKept, life_start}
use Rattle.paraid_service.proofs.FlushLemmas.{flush_kept, flush_or_not, flushes_append, flushes_later, no_flush}
use Rattle.paraid_service.proofs.HeldLemmas.{fault_halts}

module _ {B : Type 0} (g : Ghosts B) where
  -- ---- where there are volumes

  -- a step of a life, with the events that it kept
  other_steps : (old new : Volumes B g) (line : VolLine) (text : List ℕ) (halt : Option Halt) (l : ServesHeld g old new line text halt) → halt ≡ None → (line ≡ flush → ⊥) → (first : B) (h : History) (was : Held) (s : VolumeState) (log : VolLog)
      → OnHeld g first (g.block_count (device_of old)) h was old s log → IsTrue (g.tells (device_of new)) → StepsShelf (OnShelf g first (g.block_count (device_of old)) h was (HeldShelf new)) (g.block_count (device_of old)) (Some s) line l.said log
  other_steps old new line text halt l none not first h was s log on tells =
      let a = l.step none (Some (first, on.writes, on.events)) (life_start was h) log (record {
        writes = on.writes;
        state = s;
        stands = ((on.stands.0, [], subst (g.kept first (device_of old)) (sym (append-nil on.events)) on.kept, sym (append-nil on.writes)), on.stands.1);
        life = on.life;
      }) tells in
      let holds = a.all.stands.0 in
      let events : Answers = on.events ++ holds.1 in
      record {
        more = a.more;
        last = Some a.all.state;
        step = a.step;
        on = record {
          events = events;
          kept = holds.2;
          writes = a.all.writes;
          are = holds.3 ∙ ap (λ (x : History). x ++ entries_in holds.1) on.are ∙ append_assoc h (entries_in on.events) (entries_in holds.1) ∙ ap (λ (x : History). h ++ x) (sym (entries_in-append on.events holds.1));
          stands = (holds.0, a.all.stands.1);
          life = a.all.life;
          flushes = flushes_append log a.more events (flushes_later log on.events holds.1 on.flushes) (no_flush (g.block_count (device_of old)) (Some s) (Some a.all.state) line l.said a.more events a.step not);
        };
      }

  -- a flush, which is kept
  flush_steps : (old new : Volumes B g) (said : List ℕ) → KeepsFlush g old new → said ≡ codes "flushed" → (first : B) (h : History) (was : Held) (s : VolumeState) (log : VolLog)
      → OnHeld g first (g.block_count (device_of old)) h was old s log → IsTrue (g.tells (device_of new)) → StepsShelf (OnShelf g first (g.block_count (device_of old)) h was (HeldShelf new)) (g.block_count (device_of old)) (Some s) flush said log
  flush_steps old new said k is first h was s log on tells =
      let m = lived_flush (λ w. VolumesStandFor g.stands old w × (w ≡ on.writes)) (λ w. VolumesStandFor g.stands new w × (w ≡ on.writes)) (g.block_count (device_of old)) (life_start was h) log
      (record { writes = on.writes; state = s; stands = (on.stands, refl); life = on.life }) k.number (λ w holds. (k.counts w holds.0 tells, (k.stands w holds.0 tells, holds.1))) in
      let more : VolLog = (FlushCall, flushed k.number) ∷ [] in
      let kept : Answers = (FlushEvent, FlushedAnswer k.number) ∷ [] in
      record {
        more = more;
        last = Some m.all.state;
        step = subst (λ (x : List ℕ). LineStep (g.block_count (device_of old)) (Some s) flush x more (Some m.all.state)) (sym is) (calls s m.all.state flush FlushCall (flushed k.number) refl flushes m.step);
        on = record {
          events = on.events ++ kept;
          kept = k.kept first on.events on.kept;
          writes = m.all.writes;
          are = m.all.stands.1 ∙ on.are ∙ ap (λ (x : History). h ++ x) (sym (entries_in-append on.events kept ∙ append-nil (entries_in on.events)));
          stands = m.all.stands.0;
          life = m.all.life;
          flushes = flushes_append log more (on.events ++ kept) (flushes_later log on.events kept on.flushes) (flush_kept k.number on.events);
        };
      }

  held_steps : (old new : Volumes B g) (line : VolLine) (text : List ℕ) (halt : Option Halt) (l : ServesHeld g old new line text halt) → halt ≡ None → (first : B) (h : History) (was s : Held) (log : VolLog)
      → OnShelf g first (g.block_count (device_of old)) h was (HeldShelf old) s log → IsTrue (g.tells (device_of new)) → StepsShelf (OnShelf g first (g.block_count (device_of old)) h was (HeldShelf new)) (g.block_count (device_of old)) s line l.said log
  held_steps old new line text halt l none first h was (Some s) log on tells = elim (flush_or_not line) [
    | inl is ↦
        let f = l.flushes none is in
        subst (λ (x : VolLine). StepsShelf (OnShelf g first (g.block_count (device_of old)) h was (HeldShelf new)) (g.block_count (device_of old)) (Some s) x l.said log) (sym is) (flush_steps old new l.said f.0 f.1 first h was s log on tells)
    | inr not ↦ other_steps old new line text halt l none not first h was s log on tells
  ]
  held_steps old new line text halt l none first h was None log on tells = absurd on

  pub on_held : (old new : Volumes B g) (line : VolLine) (text : List ℕ) (halt : Option Halt) → ServesHeld g old new line text halt → ServesShelf g (HeldShelf old) (HeldShelf new) line text halt
  on_held old new line text halt l = record {
    going = λ none. l.halted ∙ none;
    went = l.went;
    keeps = l.keeps;
    said = l.said;
    printed = l.printed;
    reply = l.reply;
    halted = λ going. new.halted ∙ l.halted;
    step = held_steps old new line text halt l;
    halts = l.halts;
  }

  -- ---- where there is no table

  bare_steps : (blocks : B) (line : VolLine) (said : List ℕ) → LineStep (g.block_count blocks) None line said [] None → (first : B) (h : History) (was s : Held) (log : VolLog)
      → OnShelf g first (g.block_count blocks) h was (Bare blocks) s log → StepsShelf (OnShelf g first (g.block_count blocks) h was (Bare blocks)) (g.block_count blocks) s line said log
  bare_steps blocks line said step first h was (Some s) log on = absurd on
  bare_steps blocks line said step first h was None log on = record { more = []; last = None; step = step; on = record { none = append-nil log ∙ on.none; bare = on.bare; holds = on.holds; no_table = on.no_table } }

  -- a line that leaves the device
  pub on_bare : (blocks : B) (line : VolLine) (said text : List ℕ) → text ≡ said ++ codes "\n" → IsReplyToLine (g.block_count blocks) None line said [] None → LineStep (g.block_count blocks) None line said [] None → ServesShelf g (Bare blocks) (Bare blocks) line text None
  on_bare blocks line said text printed reply step = record {
    going = λ none. tt;
    went = DeviceGoesOn-none g.block_count g.halts g.halted g.tells blocks;
    keeps = KeepsMore-none g.kept g.tells (IsEventOf line) blocks;
    said = said;
    printed = printed;
    reply = λ none. record { grows = λ first events k. ([], subst (g.kept first blocks) (sym (append-nil events)) k, reply) };
    halted = λ going. going;
    step = λ none first h was s log on tells. bare_steps blocks line said step first h was s log on;
    halts = λ own e. absurd (let no : None ≡ Some own = e in cc);
  }

  begin_steps : (blocks : B) (volumes : Volumes B g) → 7 ≤ g.block_count blocks
      → ((from : SinceHistory B) (h : History) → DeviceHolds g.stands g.kept from blocks h → IsTrue (g.tells (device_of volumes)) → BeginsLife (VolumesStandFor (DeviceHolds g.stands g.kept from) volumes) (g.block_count blocks) (length h + 1))
      → (first : B) (h : History) (was s : Held) (log : VolLog) → OnShelf g first (g.block_count blocks) h was (Bare blocks) s log → IsTrue (g.tells (device_of volumes))
      → StepsShelf (OnShelf g first (g.block_count blocks) h was (HeldShelf volumes)) (g.block_count blocks) s init (begun_text (extent_count (g.block_count blocks)) (extent_size (g.block_count blocks))) log
  begin_steps blocks volumes large lived first h was (Some s) log on tells = absurd on
  begin_steps blocks volumes large lived first h was None log on tells =
      let b = lived (Some (first, h, [])) h on.holds tells in
      let l = b.lived in
      let holds = l.stands.0 in
      let none : log ++ [] ≡ [] = append-nil log ∙ on.none in
      record {
        more = [];
        last = Some l.state;
        step = subst (λ (z : VolumeState). LineStep (g.block_count blocks) None init (begun_text (extent_count (g.block_count blocks)) (extent_size (g.block_count blocks))) [] (Some z)) (sym b.none) (begins refl large);
        on = record {
          events = holds.1;
          kept = holds.2;
          writes = l.writes;
          are = holds.3;
          stands = (holds.0, l.stands.1);
          life = subst (λ (w : Held). Life (g.block_count blocks) (life_start w h) l.writes l.state (log ++ [])) (sym on.bare) (subst (λ (x : VolLog). Life (g.block_count blocks) (length h + 1) l.writes l.state x) (sym none) l.life);
          flushes = subst (λ (x : VolLog). AreFlushesKept x holds.1) (sym none) tt;
        };
      }

  pub on_begun : (blocks : B) (volumes : Volumes B g) (text : List ℕ) → 7 ≤ g.block_count blocks → halted_of volumes ≡ None → DeviceGoesOn g.block_count g.halts g.halted g.tells blocks (device_of volumes) → KeepsMore g.kept g.tells IsReadOrWrite blocks (device_of volumes)
      → ((k : ℕ) → 1 ≤ k → volume_table volumes k ≡ zero_block) → KeepsThen g.kept (AreOfInit (g.block_count blocks) (volume_table volumes)) blocks (device_of volumes)
      → text ≡ begun_text (extent_count (g.block_count blocks)) (extent_size (g.block_count blocks)) ++ codes "\n"
      → ((from : SinceHistory B) (h : History) → DeviceHolds g.stands g.kept from blocks h → IsTrue (g.tells (device_of volumes)) → BeginsLife (VolumesStandFor (DeviceHolds g.stands g.kept from) volumes) (g.block_count blocks) (length h + 1))
      → ServesShelf g (Bare blocks) (HeldShelf volumes) init text None
  on_begun blocks volumes text large going went keeps empty made printed lived = record {
    going = λ none. going;
    went = went;
    keeps = keeps;
    said = begun_text (extent_count (g.block_count blocks)) (extent_size (g.block_count blocks));
    printed = printed;
    reply = λ none. record {
      grows = λ first events k. (made.made, made.grows first events k, begun_reply (volume_table volumes) made.made (subst (λ (n : ℕ). AreTabled n (Some (volume_table volumes))) went.size (volumes.large, volumes.valid)) empty made.all);
    };
    halted = λ none. volumes.halted ∙ going;
    step = λ none first h was s log on tells. begin_steps blocks volumes large lived first h was s log on tells;
    halts = λ own e. absurd (let no : None ≡ Some own = e in cc);
  }

  -- a device that was refused though it is large enough, and has not halted, holds a table
  no_refusal : (blocks : B) (fault : VolFault) (halted : Option Halt) (table : Type 0) → 7 ≤ g.block_count blocks → vol_halt_in {A = Unit {0}} (Err fault) ≡ None → IsInitFault (g.block_count blocks) halted table fault → table
  no_refusal blocks (VolHalt halt) halted table large none f = absurd (let no : Some halt ≡ None = none in cc)
  no_refusal blocks (Small n) halted table large none f = let small = f.1 in let no : ⊥ = omega (arith, small, large) in absurd no
  no_refusal blocks NotVolumes halted table large none f = absurd f
  no_refusal blocks Already halted table large none f = f.2
  no_refusal blocks (NoVolume id) halted table large none f = absurd f
  no_refusal blocks (NoBlock block) halted table large none f = absurd f
  no_refusal blocks (Exists id) halted table large none f = absurd f
  no_refusal blocks NoExtents halted table large none f = absurd f
  no_refusal blocks Names halted table large none f = absurd f
  no_refusal blocks (Space free) halted table large none f = absurd f

  init_halts : (count : ℕ) (fault : VolFault) (halted : Option Halt) (table : Type 0) → 7 ≤ count → IsInitFault count halted table fault → halted ≡ vol_halt_in {A = Unit {0}} (Err fault)
  init_halts count (VolHalt halt) halted table large f = f.1
  init_halts count (Small n) halted table large f = let small = f.1 in let no : ⊥ = omega (arith, small, large) in absurd no
  init_halts count NotVolumes halted table large f = absurd f
  init_halts count Already halted table large f = f.1
  init_halts count (NoVolume id) halted table large f = absurd f
  init_halts count (NoBlock block) halted table large f = absurd f
  init_halts count (Exists id) halted table large f = absurd f
  init_halts count NoExtents halted table large f = absurd f
  init_halts count Names halted table large f = absurd f
  init_halts count (Space free) halted table large f = absurd f

  init_reply : (blocks now : B) (fault : VolFault) (halted : Option Halt) (table : Type 0) → 7 ≤ g.block_count blocks → vol_halt_in {A = Unit {0}} (Err fault) ≡ None → IsInitFault (g.block_count blocks) halted table fault
      → (fault ≡ Already → KeepsThen g.kept (AreTableReads (g.block_count blocks)) blocks now) → KeepsReply g.kept (λ made. IsReplyToLine (g.block_count blocks) None init (fault_text fault) made None) blocks now
  init_reply blocks now (VolHalt halt) halted table large none is found = absurd (let no : Some halt ≡ None = none in cc)
  init_reply blocks now (Small n) halted table large none is found = let small = is.1 in let no : ⊥ = omega (arith, small, large) in absurd no
  init_reply blocks now NotVolumes halted table large none is found = absurd is
  init_reply blocks now Already halted table large none is found = let made = found refl in record { grows = λ first events k. (made.made, made.grows first events k, is_found made.made large made.all) }
  init_reply blocks now (NoVolume id) halted table large none is found = absurd is
  init_reply blocks now (NoBlock block) halted table large none is found = absurd is
  init_reply blocks now (Exists id) halted table large none is found = absurd is
  init_reply blocks now NoExtents halted table large none is found = absurd is
  init_reply blocks now Names halted table large none is found = absurd is
  init_reply blocks now (Space free) halted table large none is found = absurd is

  refused_steps : (blocks now : B) (fault : VolFault) → 7 ≤ g.block_count blocks
      → IsInitFault (g.block_count blocks) (g.halted now) ((h : History) → g.stands blocks h → IsTrue (g.tells now) → IsVolumeTable (g.block_count blocks) (after_all h)) fault
      → vol_halt_in {A = Unit {0}} (Err fault) ≡ None → (first : B) (h : History) (was s : Held) (log : VolLog) → OnShelf g first (g.block_count blocks) h was (Bare blocks) s log → IsTrue (g.tells now)
      → StepsShelf (OnShelf g first (g.block_count blocks) h was (Bare now)) (g.block_count blocks) s init (fault_text fault) log
  refused_steps blocks now fault large f none first h was (Some s) log on tells = absurd on
  refused_steps blocks now fault large f none first h was None log on tells = absurd (on.no_table large (no_refusal blocks fault (g.halted now) _ large none f h on.holds.0 tells))

  pub on_refused : (blocks now : B) (fault : VolFault) (text : List ℕ) → 7 ≤ g.block_count blocks → DeviceGoesOn g.block_count g.halts g.halted g.tells blocks now → KeepsMore g.kept g.tells IsReadOrWrite blocks now
      → (fault ≡ Already → KeepsThen g.kept (AreTableReads (g.block_count blocks)) blocks now) → text ≡ fault_text fault ++ codes "\n"
      → IsInitFault (g.block_count blocks) (g.halted now) ((h : History) → g.stands blocks h → IsTrue (g.tells now) → IsVolumeTable (g.block_count blocks) (after_all h)) fault
      → ServesShelf g (Bare blocks) (Bare now) init text (vol_halt_in {A = Unit {0}} (Err fault))
  on_refused blocks now fault text large went keeps found printed f = record {
    going = λ none. tt;
    went = went;
    keeps = keeps;
    said = fault_text fault;
    printed = printed;
    reply = λ none. init_reply blocks now fault (g.halted now) _ large none f found;
    halted = λ going. init_halts (g.block_count blocks) fault (g.halted now) _ large f;
    step = refused_steps blocks now fault large f;
    halts = λ own e. (fault_halts (Unit {0}) fault own e, (λ no. let x : init ≡ bad = no in cc), (λ no. let x : init ≡ list = no in cc));
  }

  -- ---- at first

  pub open_small : (blocks : B) → g.block_count blocks < 7 → OpensShelf g blocks (Bare blocks) None
  open_small blocks small = record {
    going = λ none. tt;
    went = DeviceGoesOn-none g.block_count g.halts g.halted g.tells blocks;
    keeps = KeepsMore-none g.kept g.tells IsReadEvent blocks;
    reads = record { grows = λ first events k. ([], subst (g.kept first blocks) (sym (append-nil events)) k, too_small small) };
    halted = λ going. going;
    first = λ none first h holds tells. (None, record { none = refl; bare = refl; holds = holds; no_table = λ large. let no : ⊥ = omega (arith, small, large) in absurd no });
  }

  no_write : (h w more : History) → w ≡ h ++ more → length w ≡ length h → w ≡ h
  no_write h w [] is long = is ∙ append-nil h
  no_write h w (entry ∷ more) is long = absurd (let both = ap length is ∙ length-append h (entry ∷ more) in let no : ⊥ = omega (arith, both, long) in no)

  -- a life of no call
  life_starts : (count start : ℕ) (w : History) (s : VolumeState) (log : VolLog) → Life count start w s log → length log ≡ 0 → length w ≡ start
  life_starts count start w s log (begun h t e shows) none = e
  life_starts count start w s log (next h more t u before call answer life step during shows number) none = absurd (let long = length_push before (call, answer) in let no : ⊥ = omega (arith, long, none) in no)

  pub open_held : (blocks : B) (volumes : Volumes B g) → halted_of volumes ≡ None → DeviceGoesOn g.block_count g.halts g.halted g.tells blocks (device_of volumes) → KeepsMore g.kept g.tells IsReadEvent blocks (device_of volumes)
      → ((first : B) (events : Answers) → g.kept first blocks events → g.kept first (device_of volumes) (events ++ table_reads (volume_table volumes) 6))
      → ((from : SinceHistory B) (h : History) → DeviceHolds g.stands g.kept from blocks h → IsTrue (g.tells (device_of volumes)) → HasLived (VolumesStandFor (DeviceHolds g.stands g.kept from) volumes) (g.block_count blocks) (length h) [])
      → OpensShelf g blocks (HeldShelf volumes) None
  open_held blocks volumes going went keeps reads lived = record {
    going = λ none. going;
    went = went;
    keeps = keeps;
    reads = record {
      grows = λ first events k. (table_reads (volume_table volumes) 6, reads first events k, gave (volume_table volumes) (subst (λ (n : ℕ). AreTabled n (Some (volume_table volumes))) went.size (volumes.large, volumes.valid)));
    };
    halted = λ none. volumes.halted ∙ going;
    first = λ none first h holds tells.
        let l = lived (Some (first, h, [])) h holds tells in
        let now = l.stands.0 in (
          Some l.state,
          (
            record { events = now.1; kept = now.2; writes = l.writes; are = now.3; stands = (now.0, l.stands.1); life = l.life; flushes = tt },
            no_write h l.writes (entries_in now.1) now.3 (life_starts (g.block_count blocks) (length h) l.writes l.state [] l.life refl),
          ),
        );
  }

  found_none : (blocks : B) (fault : VolFault) (halted : Option Halt) (without : Type 0) → 7 ≤ g.block_count blocks → vol_halt_in {A = Unit {0}} (Err fault) ≡ None → IsAdoptFault (g.block_count blocks) halted without fault → (halted ≡ None) × without
  found_none blocks (VolHalt halt) halted without large none f = absurd (let no : Some halt ≡ None = none in cc)
  found_none blocks (Small n) halted without large none f = let small = f.1 in let no : ⊥ = omega (arith, small, large) in absurd no
  found_none blocks NotVolumes halted without large none f = (f.1, f.2)
  found_none blocks Already halted without large none f = absurd f
  found_none blocks (NoVolume id) halted without large none f = absurd f
  found_none blocks (NoBlock block) halted without large none f = absurd f
  found_none blocks (Exists id) halted without large none f = absurd f
  found_none blocks NoExtents halted without large none f = absurd f
  found_none blocks Names halted without large none f = absurd f
  found_none blocks (Space free) halted without large none f = absurd f

  adopt_halts : (count : ℕ) (fault : VolFault) (halted : Option Halt) (without : Type 0) → 7 ≤ count → IsAdoptFault count halted without fault → halted ≡ vol_halt_in {A = Unit {0}} (Err fault)
  adopt_halts count (VolHalt halt) halted without large f = f.1
  adopt_halts count (Small n) halted without large f = let small = f.1 in let no : ⊥ = omega (arith, small, large) in absurd no
  adopt_halts count NotVolumes halted without large f = f.1
  adopt_halts count Already halted without large f = absurd f
  adopt_halts count (NoVolume id) halted without large f = absurd f
  adopt_halts count (NoBlock block) halted without large f = absurd f
  adopt_halts count (Exists id) halted without large f = absurd f
  adopt_halts count NoExtents halted without large f = absurd f
  adopt_halts count Names halted without large f = absurd f
  adopt_halts count (Space free) halted without large f = absurd f

  first_reads : (count : ℕ) (fault : VolFault) (halted : Option Halt) (without : Type 0) → 7 ≤ count → IsAdoptFault count halted without fault → (made : Answers) → AreRefusedReads count fault made → AreFirstReads count (vol_halt_in {A = Unit {0}} (Err fault)) made None
  first_reads count (VolHalt halt) halted without large f made all = cut halt made large all
  first_reads count (Small n) halted without large f made all = let small = f.1 in let no : ⊥ = omega (arith, small, large) in absurd no
  first_reads count NotVolumes halted without large f made all = gave_none made large all
  first_reads count Already halted without large f made all = absurd f
  first_reads count (NoVolume id) halted without large f made all = absurd f
  first_reads count (NoBlock block) halted without large f made all = absurd f
  first_reads count (Exists id) halted without large f made all = absurd f
  first_reads count NoExtents halted without large f made all = absurd f
  first_reads count Names halted without large f made all = absurd f
  first_reads count (Space free) halted without large f made all = absurd f

  pub open_bare : (blocks now : B) (fault : VolFault) → 7 ≤ g.block_count blocks → DeviceGoesOn g.block_count g.halts g.halted g.tells blocks now → KeepsMore g.kept g.tells IsReadEvent blocks now
      → KeepsThen g.kept (AreRefusedReads (g.block_count blocks) fault) blocks now → IsAdoptFault (g.block_count blocks) (g.halted now) ((h : History) → g.stands blocks h → IsTrue (g.tells now) → IsVolumeTable (g.block_count blocks) (after_all h) → ⊥) fault
      → (g.halted now ≡ None → (from : SinceHistory B) (h : History) → DeviceHolds g.stands g.kept from blocks h → IsTrue (g.tells now) → DeviceHolds g.stands g.kept from now h)
      → OpensShelf g blocks (Bare now) (vol_halt_in {A = Unit {0}} (Err fault))
  open_bare blocks now fault large went keeps reads f stands = record {
    going = λ none. tt;
    went = went;
    keeps = keeps;
    reads = record { grows = λ first events k. (reads.made, reads.grows first events k, first_reads (g.block_count blocks) fault (g.halted now) _ large f reads.made reads.all) };
    halted = λ going. adopt_halts (g.block_count blocks) fault (g.halted now) _ large f;
    first = λ none first h holds tells.
        let found = found_none blocks fault (g.halted now) _ large none f in
        (None, record { none = refl; bare = refl; holds = stands found.0 (Some (first, h, [])) h holds tells; no_table = λ many. found.1 h holds.0 tells });
  }

-- ---- a line where there is no table

pub other_line : (asked : VolAsked) (bytes : Block) → (asked ≡ AskInit → ⊥) → (asked ≡ AskBad → ⊥) → (line_with asked bytes ≡ init → ⊥) × (line_with asked bytes ≡ bad → ⊥)
other_line AskInit bytes not_init not_bad = absurd (not_init refl)
other_line (AskCreate name extents) bytes not_init not_bad = ((λ e. cc), (λ e. cc))
other_line (AskDelete name) bytes not_init not_bad = ((λ e. cc), (λ e. cc))
other_line (AskRead name block) bytes not_init not_bad = ((λ e. cc), (λ e. cc))
other_line (AskWrite name block) bytes not_init not_bad = ((λ e. cc), (λ e. cc))
other_line AskFlush bytes not_init not_bad = ((λ e. cc), (λ e. cc))
other_line AskList bytes not_init not_bad = ((λ e. cc), (λ e. cc))
other_line AskBad bytes not_init not_bad = absurd (not_bad refl)
