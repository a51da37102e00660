-- Disks that are taken out and replaced, and what is refused, as events of a session.
use Rattle.std.proofs.Common.{◌≡◌, ◌≢◌, ℕ, ◌+◌, ◌<◌, ◌≤◌, ◌⊎◌, true, false, List, [], length, Option, Some, None, refl, sym, ap, ◌∙◌, inl, inr, subst, arith, min}
use Rattle.std.proofs.lemmas.List.{append-nil}
use Rattle.paraid_base.specs.declared.event.Answer.{Answer}
use Rattle.paraid_base.specs.declared.event.Answer.TheVariants.{Failed, NoDisk, NoFresh, NotOut, Out as IsOut, Replaced}
use Rattle.paraid_base.specs.declared.event.Event.{Event}
use Rattle.paraid_base.specs.declared.event.Event.TheVariants.{Fail, Replace}
use Rattle.paraid_base.specs.declared.fault.Two.{Two}
use Rattle.paraid_base.specs.declared.state.Out.TheVariants.{Fresh, Gone, No}
use Rattle.paraid_base.specs.History.{History}
use Rattle.paraid_base.specs.Log.{worn_at}
use Rattle.paraid_rack.specs.declared.call.Call.{Call}
use Rattle.paraid_rack.proofs.TrailsLemmas.{Ran-none}
use Rattle.paraid_rack.specs.Slots.{Agrees, Slot}
use Rattle.paraid_rack.specs.Told.{CrashTriple, Ran}
use Rattle.paraid_rack.specs.Trail.{Trail, now}
use Rattle.paraid_record.specs.declared.meta.Meta.{Meta}
use Rattle.paraid_record.specs.declared.meta.Setup.{Setup}
use Rattle.paraid_image.specs.Mark.{meta_after_loss}
use Rattle.paraid_image.specs.Out.{named_out, or_else}
use Rattle.paraid_image.specs.Power.{PowerState}
use Rattle.paraid_txn.specs.Stores.{named_of, store_rack}
use Rattle.paraid_core.specs.declared.staged.Core.{Core}
use Rattle.paraid_core.specs.Calls.{CommitsWhole, MakesTransferCalls}
use Rattle.paraid_core.specs.CoreInvariant.{AreCopiesSynced}
use Rattle.paraid_core.specs.Cores.{CanCoreServe, CoreStandsFor, IsCoreHeld, IsCoreHeldSinceCommit, IsCoreReady, core_down, core_rack}
use Rattle.paraid_core.specs.Lost.{CoreMarksLost, CoreTellsLosses}
use Rattle.paraid_core.proofs.CallLemmas.{keeps_held}
use Rattle.paraid_core.proofs.LostMarkLemmas.{marks_none}
use Rattle.paraid_core.proofs.WriteLemmas.{all_kept}
use Rattle.paraid_machine.specs.Energy.{energy_of}
use Rattle.paraid_session.specs.Turn.{GoesOn, Point, point_wear}
use Rattle.paraid_event.specs.Counts.{CountsFlushed}
use Rattle.paraid_event.specs.Lost.{TellsTwo}
use Rattle.paraid_event.specs.Parts.{LosesInEvent, ServesEvent}
use Rattle.paraid_event.specs.Parts.BringsMeta.{nothing as nothing_brought}
use Rattle.paraid_event.specs.Replacements.{LosesReplaced, ReplacesDisk}
use Rattle.paraid_event.specs.Service.{Service, service_of}
use Rattle.paraid_event.specs.Stands.{ServiceStandsFor, StandsAt}
use Rattle.paraid_event.proofs.FailLemmas.{failed_told}
use Rattle.paraid_event.proofs.GivenLemmas.{commit_loses, commit_serves}
use Rattle.paraid_event.proofs.HinderedLemmas.{fail_hindered}
use Rattle.paraid_event.proofs.QuietLemmas.{fail_no_disk, fail_out, replace_no_disk, replace_not_out}
use Rattle.paraid_event.proofs.ReplacementToldLemmas.{loses_told, replaces_told}
use Rattle.paraid_event.proofs.SlotsLemmas.{marked_by_slots}
use Rattle.paraid_event.proofs.TakenLemmas.{marked_lost, staged_lost}
use Rattle.paraid_event.proofs.TickStepLemmas.{no_name}
use Rattle.paraid_rebuild.proofs.ReplacementEventLemmas.{gone_fresh, marked_told, same_service, still_told}
use Rattle.paraid_upkeep.specs.Turns.{CanMarkTaken, CoreCommits, CoreCommitsTaken, CoreGoesOn, CoreHalts, CoreLosesCommit, CoreLosesTaken, with_taken}

capped : (u z : ℕ) → z ≡ 0 → u ≤ 18446744073709551615 → u ≡ min (u + z) 18446744073709551615
capped u z none fits = grind (arith)

-- An event that uses no energy goes on by a law that leaves it.
module _ {R : Type 0} {g : _} (count : R → ℕ) (told : R → Option Trail) (a b : Core R g) (event : Event) (answer : Answer) where
  pub goes_same : ((setup : Setup) (s : PowerState) → energy_of setup s answer ≡ 0)
      → ((setup : Setup) (p : Point) (samples : List ℕ) (served energy : ℕ) → StandsAt (told (core_rack a)) (service_of count a samples served energy) setup p → point_wear p < worn_at
      → Ran (told (core_rack a)) (told (core_rack b)) (GoesOn (count (core_rack a)) setup p event answer (StandsAt (told (core_rack b)) (service_of count b samples served energy) setup)))
      → CoreGoesOn count told a b event answer
  goes_same none law setup p samples served energy at fit =
      subst (λ (x : ℕ). Ran (told (core_rack a)) (told (core_rack b)) (GoesOn (count (core_rack a)) setup p event answer (StandsAt (told (core_rack b)) (service_of count b samples served x) setup)))
      (capped energy (energy_of setup p.state answer) (none setup p.state) at.fits) (law setup p samples served energy at fit)

-- What is refused makes no call.
module _ {R : Type 0} {g : _} (count : R → ℕ) (told : R → Option Trail) (a : Core R g) where
  pub fail_missing : (d : ℕ) → a.meta.setup.geometry.disks ≤ d → CoreGoesOn count told a a (Fail d) (NoDisk d)
  fail_missing d past = goes_same count told a a (Fail d) (NoDisk d) (λ setup s. refl)
      (λ setup p samples served energy at fit. fail_no_disk (told (core_rack a)) (service_of count a samples served energy) setup p at fit d (subst (λ (z : Setup). z.geometry.disks ≤ d) at.same_setup past))

  pub fail_beside : (d e : ℕ) → d < a.meta.setup.geometry.disks → named_out a.meta.out ≡ Some e → CoreGoesOn count told a a (Fail d) (IsOut e)
  fail_beside d e low out = goes_same count told a a (Fail d) (IsOut e) (λ setup s. refl)
      (λ setup p samples served energy at fit. fail_out (told (core_rack a)) (service_of count a samples served energy) setup p at fit d e (subst (λ (z : Setup). d < z.geometry.disks) at.same_setup low) (ap named_out at.state.out ∙ out))

  pub replace_missing : (d : ℕ) → a.meta.setup.geometry.disks ≤ d → CoreGoesOn count told a a (Replace d) (NoDisk d)
  replace_missing d past = goes_same count told a a (Replace d) (NoDisk d) (λ setup s. refl)
      (λ setup p samples served energy at fit. replace_no_disk (told (core_rack a)) (service_of count a samples served energy) setup p at fit d (subst (λ (z : Setup). z.geometry.disks ≤ d) at.same_setup past))

  pub replace_there : (d : ℕ) → d < a.meta.setup.geometry.disks → named_out a.meta.out ≢ Some d → CoreGoesOn count told a a (Replace d) (NotOut d)
  replace_there d low not = goes_same count told a a (Replace d) (NotOut d) (λ setup s. refl)
      (λ setup p samples served energy at fit. replace_not_out (told (core_rack a)) (service_of count a samples served energy) setup p at fit d (subst (λ (z : Setup). d < z.geometry.disks) at.same_setup low)
      (λ is. not (ap named_out (sym at.state.out) ∙ is)))

-- the disk that is down is named by the last commit or by the meta
out_by : {R : Type 0} {g : _} (a : Core R g) (d : ℕ) → core_down a ≡ Some d → (named_of a.store ≡ Some d) ⊎ (named_out a.meta.out ≡ Some d)
out_by a d is = by (named_of a.store) is
  where
    by : (o : Option ℕ) → or_else o (named_out a.meta.out) ≡ Some d → (o ≡ Some d) ⊎ (named_out a.meta.out ≡ Some d)
    by None e = inr e
    by (Some x) e = inl e

-- it is the one that the meta names
down_named : {R : Type 0} {g : _} (a : Core R g) → ((d : ℕ) → named_of a.store ≡ Some d → named_out a.meta.out ≡ Some d) → core_down a ≡ named_out a.meta.out
down_named a stays = by (named_of a.store) refl
  where
    by : (o : Option ℕ) → named_of a.store ≡ o → core_down a ≡ named_out a.meta.out
    by None e = ap (λ (o : Option ℕ). or_else o (named_out a.meta.out)) e
    by (Some x) e = ap (λ (o : Option ℕ). or_else o (named_out a.meta.out)) e ∙ sym (stays x e)

module _ {R : Type 0} {g : _} (count : R → ℕ) (slot : R → ℕ → Slot) (told : R → Option Trail) (agrees : (x : R) (t : Trail) → told x ≡ Some t → Agrees (now t) (slot x)) where
  -- a commit in an event
  module _ (a b : Core R g) (calls : MakesTransferCalls told a b) (whole : CommitsWhole count told a b) where
    pub commits : ((h : History) (lo : ℕ) → Ran (told (core_rack a)) (told (core_rack b)) (CrashTriple (IsCoreHeld count a h lo) (CoreStandsFor count a h lo) (CoreStandsFor count b h (length h))))
        → CoreMarksLost slot a b → IsCoreReady count slot b → b.meta.setup ≡ a.meta.setup → CoreCommits count told a b
    commits stands marks ready same setup p samples served energy at =
        commit_serves (told (core_rack a)) (told (core_rack b)) (service_of count a samples served energy) (service_of count b samples served energy) p.history p.low p.history (length p.history) (core_down a) (out_by a) calls (stands p.history p.low) (whole p.history p.low)
        (marked_by_slots (told (core_rack a)) (told (core_rack b)) (service_of count a samples served energy) b.meta setup p at (slot (core_rack a)) (slot (core_rack b)) _ calls (agrees (core_rack a)) (agrees (core_rack b)) marks
        (λ d low gone. ready.absent d (subst (λ (z : Setup). d < z.geometry.disks) (sym same) low) gone))

    -- two disks are lost in it
    pub commit_lost : ((h : History) (lo : ℕ) → Ran (told (core_rack a)) (told (core_rack b)) (CrashTriple (IsCoreHeld count a h lo) (CoreStandsFor count a h lo) (IsCoreHeld count a h lo)))
        → CanCoreServe slot a → (two : Two) → CoreTellsLosses told (core_down a) a b two → CoreLosesCommit count told a b two
    commit_lost moments serves two tells h lo samples served energy =
        let k = service_of count a samples served energy in
        commit_loses (told (core_rack a)) (told (core_rack b)) k k h lo h lo (core_down a) (out_by a) (TellsTwo k two) calls (moments h lo) (whole h lo)
        (subst (λ (o : Option ℕ). CoreTellsLosses told o a b two) (down_named a serves.stays) tells)

  -- where nothing is staged, all writes are kept with no call
  pub commits_none : (a : Core R g) → IsCoreReady count slot a → length a.batch ≡ 0 → CoreCommits count told a a
  commits_none a ready none setup p samples served energy at t tells =
      let k = service_of count a samples served energy in
      let marked = marked_by_slots (told (core_rack a)) (told (core_rack a)) k a.meta setup p at (slot (core_rack a)) (slot (core_rack a)) (λ _ _. Unit {0})
      (Ran-none (λ _ _. Unit {0}) (λ _. tt) (told (core_rack a))) (agrees (core_rack a)) (agrees (core_rack a))
      (marks_none a.meta a.meta (slot (core_rack a)) (slot (core_rack a)) a.meta.epoch a.meta.writes (λ d. refl) refl) ready.absent in
      record {
        from = t;
        was = tells;
        calls = [];
        is = ap (λ (l : List Call). record { start = t.start; calls = l }) (sym (append-nil t.calls));
        holds = λ z. (
          record {
            out = named_of a.store;
            is_out = λ d e. inl e;
            held = keeps_held k.slots k.named a.meta a.dirty a.batch a.copied p.history p.low (now t) z;
            brings = nothing_brought tt;
          },
          record {
            keeps = (all_kept k.slots k.named a.meta a.dirty a.batch a.copied p.history p.low (now t) none z).0;
            marks = marked t tells;
          },
        );
      }

  -- The mark that a disk is gone, and the commit of it.
  module _ (a b : Core R g) (d : ℕ) (store : b.store ≡ a.store) (meta : b.meta ≡ meta_after_loss a.meta d) (table : b.dirty ≡ a.dirty) (batch : b.batch ≡ a.batch) (copied : b.copied ≡ a.copied) where
    with_mark : (samples : List ℕ) (served energy : ℕ) → service_of count b samples served energy ≡ with_taken (service_of count a samples served energy) d
    with_mark samples served energy = same_service count a b samples served energy (meta_after_loss a.meta d) (ap (λ (z : _). count (store_rack z)) store) (ap named_of store) meta table batch copied

    same_told : told (core_rack b) ≡ told (core_rack a)
    same_told = ap (λ (z : _). told (store_rack z)) store

    pub can_mark : ((h : History) (lo : ℕ) → Ran (told (core_rack a)) (told (core_rack b)) (CrashTriple (IsCoreHeldSinceCommit count a h lo) (CoreStandsFor count a h lo) (CoreStandsFor count b h lo))) → CanMarkTaken count told a d
    can_mark stands h lo samples served energy t tells z =
        subst (λ (k : Service). ServiceStandsFor k h lo (now t)) (with_mark samples served energy)
        (still_told (IsCoreHeldSinceCommit count a h lo) (CoreStandsFor count a h lo) (CoreStandsFor count b h lo) (told (core_rack a)) (told (core_rack b)) same_told (stands h lo) t tells z)

    module _ (c : Core R g) (calls : MakesTransferCalls told b c) (whole : CommitsWhole count told b c) where
      pub commits_taken : ((h : History) (lo : ℕ) → Ran (told (core_rack b)) (told (core_rack c)) (CrashTriple (IsCoreHeld count b h lo) (CoreStandsFor count b h lo) (CoreStandsFor count c h (length h))))
          → CoreMarksLost slot b c → IsCoreReady count slot c → c.meta.setup ≡ b.meta.setup → CoreCommitsTaken count told a c d
      commits_taken stands marks ready same h lo samples served energy =
          let k_then = service_of count c samples served energy in
          subst (λ (z : Option Trail). Ran z (told (core_rack c)) (ServesEvent (with_taken (service_of count a samples served energy) d) k_then h lo h (length h))) same_told
          (subst (λ (k : Service). Ran (told (core_rack b)) (told (core_rack c)) (ServesEvent k k_then h lo h (length h))) (with_mark samples served energy)
          (commit_serves (told (core_rack b)) (told (core_rack c)) (service_of count b samples served energy) k_then h lo h (length h) (core_down b) (out_by b) calls (stands h lo) (whole h lo)
          (marked_told (told (core_rack c)) (slot (core_rack b)) (slot (core_rack c)) (agrees (core_rack c)) b.meta c.meta marks
          (λ x low absent. ready.absent x (subst (λ (z : Setup). x < z.geometry.disks) (sym same) low) absent)
          (gone_fresh (slot (core_rack b)) (slot (core_rack c)) b.meta c.meta marks d (ap (λ (m : Meta). m.out) meta)))))

      pub taken_lost : ((h : History) (lo : ℕ) → Ran (told (core_rack b)) (told (core_rack c)) (CrashTriple (IsCoreHeld count b h lo) (CoreStandsFor count b h lo) (IsCoreHeld count b h lo)))
          → CanCoreServe slot b → (two : Two) → CoreTellsLosses told (core_down b) b c two → CoreLosesTaken count told a c d two
      taken_lost moments serves two tells h lo samples served energy =
          subst (λ (z : Option Trail). Ran z (told (core_rack c)) (λ s cs. LosesInEvent (with_taken (service_of count a samples served energy) d) h lo s cs × TellsTwo (with_taken (service_of count a samples served energy) d) two s cs)) same_told
          (subst (λ (k : Service). Ran (told (core_rack b)) (told (core_rack c)) (λ s cs. LosesInEvent k h lo s cs × TellsTwo k two s cs)) (with_mark samples served energy)
          (commit_lost b c calls whole moments serves two tells h lo samples served energy))

-- A disk of the array that is taken out, where none is out.
module _ {R : Type 0} {g : _} (count : R → ℕ) (told : R → Option Trail) (a : Core R g) (d : ℕ) (below : d < a.meta.setup.geometry.disks) (none : named_out a.meta.out ≡ None) where
  module _ (setup : Setup) (p : Point) (samples : List ℕ) (served energy : ℕ) (at : StandsAt (told (core_rack a)) (service_of count a samples served energy) setup p) where
    is_below : d < setup.geometry.disks
    is_below = subst (λ (z : Setup). d < z.geometry.disks) at.same_setup below

    no_out : p.state.out ≡ No
    no_out = at.state.out ∙ no_name a.meta.out none

    short : p.low ≤ length p.history
    short = let l = at.stands.keeps.copies.low in let m = at.stands.keeps.copies.high in omega (arith, l, m)

  -- all that is staged is committed, and then the mark
  module _ (m b : Core R g) (first : CoreCommits count told a m) (mark : CanMarkTaken count told m d) (alone : (e : ℕ) → named_out m.meta.out ≡ Some e → e ≡ d) (slots : count (core_rack m) ≡ count (core_rack a)) where
    pub taken_turn : CoreCommitsTaken count told m b d → b.meta.epoch ≡ m.meta.epoch + 1 → count (core_rack b) ≡ count (core_rack a) → b.dirty ≡ a.dirty → AreCopiesSynced b.meta.setup.geometry.disks b.copied
        → CoreGoesOn count told a b (Fail d) (Failed d)
    taken_turn second epoch slots_then table copies = goes_same count told a b (Fail d) (Failed d) (λ setup s. refl)
        (λ setup p samples served energy at fit.
        let k = service_of count a samples served energy in
        let k1 = service_of count m samples served energy in
        let k3 = service_of count b samples served energy in
        failed_told (told (core_rack a)) k k1 (with_taken k1 d) k3 setup p at d
        (record { alone = alone; mark = refl; epoch = epoch; slots = slots; slots_then = slots_then; table = table; copies_synced = copies; samples = refl; served = refl; energy = refl })
        (is_below setup p samples served energy at) (no_out setup p samples served energy at) (length p.history) (length p.history) (short setup p samples served energy at) (short setup p samples served energy at) fit (told (core_rack m)) (told (core_rack b))
        (first setup p samples served energy at) (λ t tells z. mark p.history p.low samples served energy t tells z) (second p.history p.low samples served energy))

    pub marked_halts : (two : Two) → CoreLosesTaken count told m b d two → CoreHalts count told a b (Fail d) two
    marked_halts two second setup p samples served energy at fit =
        let k = service_of count a samples served energy in
        let k1 = service_of count m samples served energy in
        marked_lost (told (core_rack a)) k setup p at d (is_below setup p samples served energy at) (no_out setup p samples served energy at) two fit k1 (with_taken k1 d)
        (record { alone = alone; mark = refl; slots = slots }) (told (core_rack m)) (told (core_rack b))
        (first setup p samples served energy at) (λ t tells z. mark p.history (length p.history) samples served energy t tells z) (second p.history (length p.history) samples served energy)

  pub staged_halts : (b : Core R g) (two : Two) → CoreLosesCommit count told a b two → CoreHalts count told a b (Fail d) two
  staged_halts b two loses setup p samples served energy at fit =
      staged_lost (told (core_rack a)) (service_of count a samples served energy) setup p at d (is_below setup p samples served energy at) (no_out setup p samples served energy at) two fit (told (core_rack b)) (loses p.history p.low samples served energy)

  -- another one is lost with what was staged
  pub beside_turn : (b : Core R g) (e : ℕ) → d ≢ e → named_out b.meta.out ≡ Some e → CoreCommits count told a b → count (core_rack b) ≡ count (core_rack a) → b.dirty ≡ a.dirty → AreCopiesSynced b.meta.setup.geometry.disks b.copied → b.batch ≡ []
      → CoreGoesOn count told a b (Fail d) (IsOut e)
  beside_turn b e apart named first slots table copies nothing = goes_same count told a b (Fail d) (IsOut e) (λ setup s. refl)
      (λ setup p samples served energy at fit.
      let k = service_of count a samples served energy in
      let k_then = service_of count b samples served energy in
      let counts : CountsFlushed k k_then = record { slots = slots; copies_synced = copies; samples = refl; served = refl; energy = refl; table = table; nothing_staged = nothing } in
      fail_hindered (told (core_rack a)) (told (core_rack b)) k k_then setup p at e (length p.history) fit (no_out setup p samples served energy at) named counts (short setup p samples served energy at) d (is_below setup p samples served energy at) apart
      (first setup p samples served energy at))

-- A disk of the array that is out, and is replaced.
module _ {R : Type 0} {g : _} (count : R → ℕ) (told : R → Option Trail) (a b : Core R g) (d : ℕ) (below : d < a.meta.setup.geometry.disks) (out : named_out a.meta.out ≡ Some d) where
  abbrev Replaces : Type 0
  Replaces = (samples : List ℕ) (served energy : ℕ) (h : History) (lo : ℕ) → ReplacesDisk (told (core_rack a)) (told (core_rack b)) (service_of count a samples served energy) (service_of count b samples served energy) h lo d

  pub replaced_turn : Replaces → b.meta.out ≡ Fresh d 0 → CoreGoesOn count told a b (Replace d) (Replaced d)
  replaced_turn replaces there = goes_same count told a b (Replace d) (Replaced d) (λ setup s. refl)
      (λ setup p samples served energy at fit. replaces_told (told (core_rack a)) (service_of count a samples served energy) setup p at d (subst (λ (z : Setup). d < z.geometry.disks) at.same_setup below) (ap named_out at.state.out ∙ out) fit true
      (service_of count b samples served energy) (told (core_rack b)) (replaces samples served energy p.history p.low) there)

  pub unreplaced_turn : Replaces → b.meta.out ≡ Gone d → CoreGoesOn count told a b (Replace d) (NoFresh d)
  unreplaced_turn replaces gone = goes_same count told a b (Replace d) (NoFresh d) (λ setup s. refl)
      (λ setup p samples served energy at fit. replaces_told (told (core_rack a)) (service_of count a samples served energy) setup p at d (subst (λ (z : Setup). d < z.geometry.disks) at.same_setup below) (ap named_out at.state.out ∙ out) fit false
      (service_of count b samples served energy) (told (core_rack b)) (replaces samples served energy p.history p.low) gone)

  pub replaced_halts : (two : Two) → ((samples : List ℕ) (served energy : ℕ) (h : History) (lo : ℕ) → LosesReplaced (told (core_rack a)) (told (core_rack b)) (service_of count a samples served energy) h lo d two)
      → CoreHalts count told a b (Replace d) two
  replaced_halts two loses setup p samples served energy at fit =
      loses_told (told (core_rack a)) (service_of count a samples served energy) setup p at d (subst (λ (z : Setup). d < z.geometry.disks) at.same_setup below) (ap named_out at.state.out ∙ out) fit two (told (core_rack b))
      (loses samples served energy p.history p.low)
