-- A disk that is replaced: its mark, a commit of that, the attach of a fresh one, and a commit that it is there.
use Rattle.std.proofs.Common.{◌≡◌, ◌≢◌, ℕ, ◌+◌, ◌<◌, ◌≤◌, Bool, true, false, List, [], ◌∷◌, ◌++◌, length, Option, Some, None, refl, sym, ap, ◌∙◌, inl, inr, subst, arith, if◌then◌else◌}
use Rattle.std.specs.Prelude.{slice_index}
use Rattle.std.proofs.lemmas.Bool.{false≢true}
use Rattle.paraid_base.specs.declared.event.Answer.TheVariants.{NoFresh}
use Rattle.paraid_base.specs.declared.event.Event.TheVariants.{Replace}
use Rattle.paraid_base.specs.declared.fault.Halt.TheVariants.{Two as HaltTwo}
use Rattle.paraid_base.specs.declared.fault.Two.{Two}
use Rattle.paraid_base.specs.declared.state.Out.{Out}
use Rattle.paraid_base.specs.declared.state.Out.TheVariants.{No, Gone, Fresh}
use Rattle.paraid_base.specs.declared.state.Phase.{Phase}
use Rattle.paraid_base.specs.declared.state.Phase.TheVariants.{Steady, Down as PhaseDown, Up}
use Rattle.paraid_base.specs.History.{History}
use Rattle.paraid_base.specs.Log.{worn_at}
use Rattle.paraid_base.specs.Regions.{disk_size}
use Rattle.paraid_base.specs.States.{gone_out, has_out, named_out, phase_beside, rising_to}
use Rattle.paraid_dirty.specs.Table.{is_dirty}
use Rattle.paraid_rack.specs.declared.call.Call.{Call}
use Rattle.paraid_rack.specs.declared.call.Call.TheVariants.{Attach}
use Rattle.paraid_rack.specs.declared.call.Power.{Power}
use Rattle.paraid_rack.specs.declared.call.Power.TheVariants.{Spinning}
use Rattle.paraid_rack.specs.Disks.{Disks, is_present, step}
use Rattle.paraid_rack.specs.Trail.{Trail, now, run}
use Rattle.paraid_record.specs.declared.meta.Meta.{Meta}
use Rattle.paraid_record.specs.declared.meta.Setup.{Setup}
use Rattle.paraid_image.specs.Calls.{is_attach}
use Rattle.paraid_image.specs.Mark.{meta_after_loss}
use Rattle.paraid_image.specs.Power.{PowerState, out_after, power_by_gear}
use Rattle.paraid_image.specs.Out.{first_absent}
use Rattle.paraid_image.specs.Spins.{made_spin_ups}
use Rattle.paraid_core.specs.CoreInvariant.{IsHeldWithOneMissing}
use Rattle.paraid_core.specs.Fills.{IsShiftCommitted}
use Rattle.paraid_core.specs.Replaced.{KeepsCommitted}
use Rattle.paraid_machine.specs.Machine.{with_fresh_disk, without_fresh_disk}
use Rattle.paraid_moves.specs.MoveMetas.{meta_with_out}
use Rattle.paraid_machine.specs.Moves.{after_loss, without_spin_ups}
use Rattle.paraid_session.specs.Turn.{GoesOn, LosesSecondDisk, Point, bounds_at, point_wear}
use Rattle.paraid_session.specs.Watch.{Bounds, Each, HoldsWhileServing, IsAllowed, IsServing, Watch, attach_count, fails_on, first_lost, only, watch, watch_all}
use Rattle.paraid_session.proofs.LayerLemmas.{absent_failed, fails_first, first_fails}
use Rattle.paraid_recover.proofs.BaseLemmas.{each_append}
use Rattle.paraid_recover.proofs.DownLemmas.{watched_disks}
use Rattle.paraid_event.proofs.ApartLemmas.{gone_not_fresh, no_one}
use Rattle.paraid_event.specs.Lost.{TellsTwo}
use Rattle.paraid_event.specs.Marks.{ArePoweredByGear, IsMarkedBy, ShowsMeta}
use Rattle.paraid_event.specs.Parts.{AreEventCalls, EndsEvent, committed_meta}
use Rattle.paraid_event.specs.Replacements.{CommitsAll, MarksReplaced, with_fresh}
use Rattle.paraid_session.specs.Ups.{spin_up_count}
use Rattle.paraid_event.proofs.UpLemmas.{up_append}
use Rattle.paraid_event.proofs.UsedLemmas.{part_ups}
use Rattle.paraid_event.specs.Service.{IsStateOf, Service}
use Rattle.paraid_event.specs.Stands.{IsMidway, ServiceStandsFor, StandsAt, StandsIn}
use Rattle.paraid_event.proofs.AttachingLemmas.{attach_each, attach_only, attach_powered, attach_rests, attach_spins, attach_stands, each_end, fails_beside, forgotten}
use Rattle.paraid_event.proofs.BeginLemmas.{first_append}
use Rattle.paraid_event.proofs.EndLemmas.{IsOnly, failed_absent, only_serving}
use Rattle.paraid_event.proofs.FailLemmas.{watch_append}
use Rattle.paraid_image.proofs.LostLemmas.{ends_later}
use Rattle.paraid_event.proofs.MarksLemmas.{gone_is_named, kept_fill, kept_out, kept_phase, lost_fill, lost_out, lost_phase, marked_setup, same_gear, same_ticks, still_named}
use Rattle.paraid_event.proofs.PartLemmas.{IsSettled, part_attaches, part_calls, part_committed, part_each, part_epoch, part_failed, part_marks, part_only, part_powered, part_stands, part_state}
use Rattle.paraid_event.proofs.TurnLemmas.{absent_named, fresh_there, out_low, state_after}
use Rattle.paraid_event.proofs.PreludeLemmas.{same_base}
use Rattle.paraid_event.proofs.ReplacementTurnLemmas.{answer_of, loss_of, loses_second, replaced_turn, starts, state_of}

rising_beside : (phase : Phase) → rising_to (phase_beside true phase) ≡ rising_to phase
rising_beside Steady = refl
rising_beside (PhaseDown to) = refl
rising_beside (Up to) = refl

has_named : (o : Out) (d : ℕ) → named_out o ≡ Some d → has_out o ≡ true
has_named No d is = absurd (no_one is)
has_named (Gone e) d is = refl
has_named (Fresh e u) d is = refl

attach_after : (cs ds : List Call) → attach_count cs ≡ 0 → attach_count (cs ++ ds) ≡ attach_count ds
attach_after [] ds none = refl
attach_after (c ∷ cs) ds none = by (is_attach c) none (λ rest. attach_after cs ds rest)
  where
    by : (t : Bool) → (if t then attach_count cs + 1 else attach_count cs) ≡ 0 → (attach_count cs ≡ 0 → attach_count (cs ++ ds) ≡ attach_count ds)
        → (if t then attach_count (cs ++ ds) + 1 else attach_count (cs ++ ds)) ≡ attach_count ds
    by true z f = absurd (omega (arith, z))
    by false z f = f z

abbrev pub out_of : ℕ → Bool → Out
out_of d true = Fresh d 0
out_of d false = Gone d

-- the spin-ups that are recorded of other disks are as they were
replaced_used : (m : Meta) (spins : List ℕ) (d : ℕ) (p : ℕ → Power) (e : ℕ) → slice_index spins e ≡ slice_index m.spins e → made_spin_ups (record (meta_after_loss m d) { spins = spins }) p e ≡ made_spin_ups m p e
replaced_used m spins d p e is = rw (rising_beside m.phase, is) refl

replaced_gear : (m : Meta) (d e : ℕ) → power_by_gear m.gear (phase_beside true m.phase) e ≡ power_by_gear m.gear m.phase e
replaced_gear m d e = rw (rising_beside m.phase) refl

-- the disk is marked, in the middle of an event
replaced_midway : (k j : Service) (h : History) (lo : ℕ) (base : Meta) (v : Watch) (d : ℕ) (spins : List ℕ) → IsMidway k h lo base v → named_out k.meta.out ≡ Some d → ((e : ℕ) → e ≢ d → slice_index spins e ≡ slice_index k.meta.spins e)
    → j ≡ record k { meta = record (meta_after_loss k.meta d) { spins = spins } } → ServiceStandsFor j h lo v.disks → IsMidway j h lo base v
replaced_midway k j h lo base v d spins at named others is keeps = subst (λ (z : Service). IsMidway z h lo base v) (sym is) (record {
  stands = record {
    keeps = keeps_then;
    is_base = same_base k (record k { meta = record (meta_after_loss k.meta d) { spins = spins } }) h h lo lo v.disks at.stands.keeps keeps_then ∙ at.stands.is_base;
    absent_down = at.stands.absent_down;
    named_down = λ e e_named. at.stands.named_down e (named ∙ e_named);
    stays = λ e e_named. sym named ∙ at.stands.stays e e_named;
    recorded = at.stands.recorded;
    recorded_next = λ e low here not.
        let apart : e ≢ d = (λ same_disk. not (ap (λ (x : ℕ). Some x) (sym same_disk))) in
        let before = at.stands.recorded_next e low here (λ e_gone. not (sym named ∙ gone_is_named k.meta.out e e_gone)) in
        let used = replaced_used k.meta spins d v.disks.power e (others e apart) in
        omega (arith, before, used);
    awaited = λ e waits. sym named ∙ gone_is_named k.meta.out e (at.stands.awaited e waits);
    ticks = at.stands.ticks;
  };
  named = λ e low gone. sym named ∙ at.named e low gone;
  low = λ e e_named. at.low e (named ∙ e_named);
  fresh = λ e u e_fresh. absurd (gone_not_fresh e_fresh);
})
  where
    keeps_then : ServiceStandsFor (record k { meta = record (meta_after_loss k.meta d) { spins = spins } }) h lo v.disks
    keeps_then = subst (λ (z : Service). ServiceStandsFor z h lo v.disks) is keeps

-- a meta with a disk that is out, and that of a later commit of it
committed_shift : (base m : Meta) (d : ℕ) → base.out ≡ Gone d → m.out ≡ Gone d → base.gear ≡ m.gear → base.phase ≡ m.phase → base.fill ≡ m.fill → IsShiftCommitted base m
committed_shift base m d gone m_gone gear phase fill = record {
  gear = gear;
  rises = ap rising_to phase;
  fresh = λ e u is. absurd (gone_not_fresh (sym gone ∙ is));
  phase = λ is. phase;
  fill = λ is. fill;
  rebuilt = λ e u is. absurd (gone_not_fresh (sym m_gone ∙ is));
}

module _ (told : Option Trail) (k : Service) (setup : Setup) (p : Point) (at : StandsAt told k setup p) (d : ℕ) (below : d < setup.geometry.disks) (is_out : named_out p.state.out ≡ Some d) (fit : point_wear p < worn_at) where
  abbrev b : Bounds
  b = bounds_at setup p p.state

  abbrev w0 : Watch
  w0 = record { disks = p.disks; down = only d; spun = p.spun; awaited = p.awaited }

  abbrev Held : Watch → List Call → Type 0
  Held = Each (HoldsWhileServing k.slots p.history p.low b) (IsAllowed setup (Some d))

  named0 : named_out k.meta.out ≡ Some d
  named0 = ap named_out (sym at.state.out) ∙ is_out

  mid0 : IsMidway k p.history p.low p.meta w0
  mid0 = record {
    stands = subst (StandsIn k p.history p.low p.meta) (starts told k setup p at d below is_out fit) at.stands;
    named = absent_named told k setup p at;
    low = out_low told k setup p at;
    fresh = fresh_there told k setup p at;
  }

  phase0 : phase_beside true k.meta.phase ≡ k.meta.phase
  phase0 = ap (λ (t : Bool). phase_beside t k.meta.phase) (sym (has_named k.meta.out d named0)) ∙ ap (phase_beside (has_out k.meta.out)) (sym at.shown.phase)
      ∙ again (has_out k.meta.out) p.meta.phase ∙ at.shown.phase
    where
      again : (t : Bool) (x : Phase) → phase_beside t (phase_beside t x) ≡ phase_beside t x
      again t Steady = refl
      again true (PhaseDown to) = refl
      again false (PhaseDown to) = refl
      again t (Up to) = refl

  fill0 : ◌≡◌ {A = ℕ} k.meta.fill 0
  fill0 = sym at.shown.fill ∙ ap (λ (t : Bool). if t then 0 else p.meta.fill) (has_named k.meta.out d named0)

  short : p.low ≤ length p.history
  short = let l = at.stands.keeps.copies.low in let m = at.stands.keeps.copies.high in omega (arith, l, m)

  -- The disk is marked.
  module _ (k1 : Service) (marks : MarksReplaced k k1 d) (keeps1 : ServiceStandsFor k1 p.history p.low p.disks) where
    meta1 : k1.meta ≡ record (meta_after_loss k.meta d) { spins = k1.meta.spins }
    meta1 = ap (λ (z : Service). z.meta) marks.mark

    mid1 : IsMidway k1 p.history p.low p.meta w0
    mid1 = replaced_midway k k1 p.history p.low p.meta w0 d k1.meta.spins mid0 named0 marks.others marks.mark keeps1

    out1 : k1.meta.out ≡ Gone d
    out1 = ap (λ (m : Meta). m.out) meta1

    setup1 : k1.meta.setup ≡ setup
    setup1 = ap (λ (m : Meta). m.setup) meta1 ∙ at.same_setup

    phase1 : k1.meta.phase ≡ k.meta.phase
    phase1 = ap (λ (m : Meta). m.phase) meta1 ∙ phase0

    fill1 : ◌≡◌ {A = ℕ} k1.meta.fill 0
    fill1 = ap (λ (m : Meta). m.fill) meta1

    ticks1 : k1.meta.ticks ≤ b.ticks
    ticks1 = let e = at.state.ticks in let f = ap (λ (m : Meta). m.ticks) meta1 in omega (arith, e, f)

    slots1 : k1.slots ≡ k.slots
    slots1 = ap (λ (z : Service). z.slots) marks.mark

    settled_gone : (m : Meta) (o : Out) → m.out ≡ o → has_out o ≡ true → phase_beside true m.phase ≡ m.phase → ◌≡◌ {A = ℕ} m.fill 0 → IsSettled m
    settled_gone m o is has phase fill = record {
      phase = ap (λ (x : Out). phase_beside (has_out x) m.phase) is ∙ ap (λ (t : Bool). phase_beside t m.phase) has ∙ phase;
      fill = ap (λ (x : Out). if has_out x then 0 else m.fill) is ∙ ap (λ (t : Bool). if t then 0 else m.fill) has ∙ sym fill;
    }

    settled1 : IsSettled k1.meta
    settled1 = settled_gone k1.meta (Gone d) out1 refl (ap (phase_beside true) phase1 ∙ phase0 ∙ sym phase1) fill1

    powered1 : ArePoweredByGear p.disks.power k1.meta
    powered1 = subst (ArePoweredByGear p.disks.power) (sym meta1) (record {
      by_gear = λ e low not. at.powered.by_gear e low (λ e_named. not (sym named0 ∙ e_named)) ∙ sym (replaced_gear k.meta d e);
      fresh = λ e u is. absurd (gone_not_fresh is);
    })

    state1 : IsStateOf k1 (without_fresh_disk p.state d)
    state1 = record {
      gear = at.state.gear ∙ sym (ap (λ (m : Meta). m.gear) meta1);
      phase = at.state.phase ∙ sym phase1;
      fill = at.state.fill ∙ fill0 ∙ sym fill1;
      out = sym out1;
      spins = sym (forgotten d k1.meta.spins k.meta.spins marks.as_many marks.cleared marks.others ∙ ap (without_spin_ups d) (sym at.state.spins));
      ticks = at.state.ticks ∙ sym (ap (λ (m : Meta). m.ticks) meta1);
      dirty = λ r e low. at.state.dirty r e (subst (λ (m : Meta). r < m.setup.geometry.rows) meta1 low) ∙ ap (λ (t : List (List Bool)). is_dirty t r e) (sym (ap (λ (z : Service). z.table) marks.mark));
      samples = at.state.samples ∙ sym (ap (λ (z : Service). z.samples) marks.mark);
      served = at.state.served ∙ sym (ap (λ (z : Service). z.served) marks.mark);
    }

    marked_each : (cs : List Call) → AreEventCalls k1 p.history p.low p.meta p.disks cs → Held w0 cs
    marked_each cs part = subst (λ (n : ℕ). Each (HoldsWhileServing n p.history p.low b) (IsAllowed setup (Some d)) w0 cs) slots1
        (part_each k1 p.history p.low p.meta w0 mid1 cs part b setup1 ticks1 (omega arith) (Some d))

    -- a second disk is lost in the commit of the mark
    pub marked_lost : (two : Two) (cs : List Call) → AreEventCalls k1 p.history p.low p.meta p.disks cs → TellsTwo k1 two p.disks cs
        → LosesSecondDisk k.slots setup p (Replace d) two cs (record p { disks = run p.disks cs; halt = Some (HaltTwo two) })
    marked_lost two cs part tells = loses_second told k setup p at d below is_out fit two cs first_is tells.ends tells.apart (marked_each cs part)
        (let a = part_attaches k1 p.history p.low p.meta w0 mid1 cs part in omega (arith, a))
      where
        first_is : two.first ≡ d
        first_is = elim tells.first [
          | inl was ↦ let z : Some two.first ≡ Some d = sym was ∙ ap named_out out1 in cc
          | inr none ↦ absurd (no_one (sym none.0 ∙ ap named_out out1))
        ]

    -- and the mark is committed
    module _ (cs : List Call) (part : AreEventCalls k1 p.history p.low p.meta p.disks cs) (k2 : Service) (ends : EndsEvent k1 k2 p.history (length p.history) p.disks cs) (commits : CommitsAll k1 k2) where
      abbrev v1 : Watch
      v1 = watch_all cs w0

      marks2 : IsMarkedBy v1.disks.power k1.meta k2.meta
      marks2 = part_marks k1 p.history p.low p.meta w0 mid1 cs part k2 p.history (length p.history) ends

      by_lost2 : (A : Type 0) → (marks2.lost ≡ None → A) → ((x : ℕ) → marks2.lost ≡ Some x → A) → A
      by_lost2 A none some = go marks2.lost refl
        where
          go : (o : Option ℕ) → marks2.lost ≡ o → A
          go None e = none e
          go (Some x) e = some x e

      named2 : named_out k2.meta.out ≡ Some d
      named2 = still_named v1.disks.power k1.meta k2.meta marks2 d (ap named_out out1)

      pub out2 : k2.meta.out ≡ Gone d
      out2 = by_lost2 _ (λ none. kept_out v1.disks.power k1.meta k2.meta marks2 none ∙ out1)
          (λ x some. lost_out v1.disks.power k1.meta k2.meta marks2 x some ∙ ap Gone (sym (marks2.alone x d some (ap named_out out1))))

      phase2 : k2.meta.phase ≡ k1.meta.phase
      phase2 = by_lost2 _ (λ none. kept_phase v1.disks.power k1.meta k2.meta marks2 none)
          (λ x some. lost_phase v1.disks.power k1.meta k2.meta marks2 x some ∙ ap (phase_beside true) phase1 ∙ phase0 ∙ sym phase1)

      fill2 : ◌≡◌ {A = ℕ} k2.meta.fill 0
      fill2 = by_lost2 _ (λ none. kept_fill v1.disks.power k1.meta k2.meta marks2 none ∙ fill1) (λ x some. lost_fill v1.disks.power k1.meta k2.meta marks2 x some)

      setup2 : k2.meta.setup ≡ setup
      setup2 = marked_setup v1.disks.power k1.meta k2.meta marks2 ∙ setup1

      slots2 : k2.slots ≡ k.slots
      slots2 = commits.counts.slots ∙ slots1

      only1 : IsOnly (Some d) v1.down
      only1 = part_only k1 p.history p.low p.meta w0 mid1 cs part k2 p.history (length p.history) ends (Some d) refl (λ e e_named. sym named2 ∙ e_named)

      serving1 : IsServing v1.down
      serving1 = only_serving (Some d) v1.down only1

      mid2 : IsMidway k2 p.history p.low ends.keeps.base v1
      mid2 = part_stands k1 p.history p.low p.meta w0 mid1 cs part k2 p.history (length p.history) ends p.low short serving1

      base2 : ends.keeps.base ≡ committed_meta k1
      base2 = part_epoch k1 p.history p.low p.meta w0 mid1 cs part k2 p.history (length p.history) ends serving1 commits.epoch

      shown2 : ShowsMeta v1.disks.power ends.keeps.base k2.meta
      shown2 = subst (λ (m : Meta). ShowsMeta v1.disks.power m k2.meta) (sym base2)
          (part_committed k1 p.history p.low p.meta w0 mid1 cs part k2 p.history (length p.history) ends settled1)

      powered2 : ArePoweredByGear v1.disks.power k2.meta
      powered2 = part_powered k1 p.history p.low p.meta w0 mid1 cs part k2 p.history (length p.history) ends powered1

      -- no call of it failed
      none_lost : first_lost cs ≡ None
      none_lost = by (first_lost cs) refl
        where
          by : (o : Option ℕ) → first_lost cs ≡ o → first_lost cs ≡ None
          by None is = is
          by (Some e) is =
              let fails = first_fails cs e is in
              absurd (fails_beside k1.meta.setup.geometry.disks (gone_out k1.meta.out) p.disks cs e (part_calls k1 p.history p.low p.meta w0 mid1 cs part) fails
              (ap gone_out out1 ∙ sym named2 ∙ part_failed k1 p.history p.low p.meta w0 mid1 cs part k2 p.history (length p.history) ends e fails))

      counted2 : IsStateOf (record k2 { table = k1.table; samples = k1.samples; served = k1.served }) (without_fresh_disk p.state d)
      counted2 = subst (λ (o : Option ℕ). IsStateOf (record k2 { table = k1.table; samples = k1.samples; served = k1.served }) (state_after (without_fresh_disk p.state d) o)) none_lost
          (part_state k1 p.history p.low p.meta w0 mid1 cs part k2 p.history (length p.history) ends (without_fresh_disk p.state d) state1 settled1)

      state2 : IsStateOf k2 (without_fresh_disk p.state d)
      state2 = record {
        gear = counted2.gear;
        phase = counted2.phase;
        fill = counted2.fill;
        out = counted2.out;
        spins = counted2.spins;
        ticks = counted2.ticks;
        dirty = λ r e low. counted2.dirty r e low ∙ ap (λ (t : List (List Bool)). is_dirty t r e) (sym commits.counts.table);
        samples = counted2.samples ∙ sym commits.counts.samples;
        served = counted2.served ∙ sym commits.counts.served;
      }

      base_out : ends.keeps.base.out ≡ Gone d
      base_out = ap (λ (m : Meta). m.out) base2 ∙ out1

      shift2 : IsShiftCommitted ends.keeps.base k2.meta
      shift2 = committed_shift ends.keeps.base k2.meta d base_out out2
          (ap (λ (m : Meta). m.gear) base2 ∙ sym (same_gear v1.disks.power k1.meta k2.meta marks2))
          (ap (λ (m : Meta). m.phase) base2 ∙ sym phase2) (ap (λ (m : Meta). m.fill) base2 ∙ fill1 ∙ sym fill2)

      ticks2 : k2.meta.ticks ≤ b.ticks
      ticks2 = let e = same_ticks v1.disks.power k1.meta k2.meta marks2 in let f = ticks1 in omega (arith, e, f)

      epoch2 : ends.keeps.base.epoch ≤ p.meta.epoch + 1
      epoch2 =
          let e = ap (λ (m : Meta). m.epoch) base2 in
          let f = ap (λ (m : Meta). m.epoch) meta1 in
          let g = at.stands.keeps.epoch in
          let i = ap (λ (m : Meta). m.epoch) at.stands.is_base in
          omega (arith, e, f, g, i)

      each1 : Held w0 cs
      each1 = marked_each cs part

      pub rests2 : KeepsCommitted k2.slots k2.named k2.meta k2.table k2.copied p.history p.low (Gone d) v1.disks
      rests2 = attach_rests k2 p.history p.low ends.keeps.base v1 mid2 d out2 base_out commits.nothing_staged shift2 only1 true

      abbrev attach : Bool → Call
      attach done = Attach d (disk_size k2.meta.setup.geometry) done

      -- a disk is attached
      module _ (done : Bool) (held : IsHeldWithOneMissing k2.slots k2.meta.setup.geometry.disks k2.named p.history p.low (step (attach done) v1.disks)) where
        attached_each : Held v1 (attach done ∷ [])
        attached_each = subst (λ (n : ℕ). Each (HoldsWhileServing n p.history p.low b) (IsAllowed setup (Some d)) v1 (attach done ∷ [])) slots2
            (attach_each k2 p.history p.low ends.keeps.base v1 mid2 d out2 base_out commits.nothing_staged shift2 only1 done b setup2
            (let l = mid2.stands.ticks in let t = ticks2 in omega (arith, l, t)) (let e = epoch2 in omega (arith, e))
            (subst (λ (n : ℕ). HoldsWhileServing n p.history p.low b v1) (sym slots2) (each_end (HoldsWhileServing k.slots p.history p.low b) (IsAllowed setup (Some d)) w0 cs each1)) held)

        attached_only : IsOnly (Some d) (watch (attach done) v1).down
        attached_only = attach_only k2 p.history p.low ends.keeps.base v1 mid2 d out2 base_out commits.nothing_staged shift2 only1 done

      -- none could be had
      module _ (held : IsHeldWithOneMissing k2.slots k2.meta.setup.geometry.disks k2.named p.history p.low (step (attach false) v1.disks)) (keeps : ServiceStandsFor k2 p.history p.low (step (attach false) v1.disks)) where
        abbrev f2 : Watch
        f2 = watch (attach false) v1

        same_again : k2 ≡ record k2 { meta = meta_with_out k2.meta (Gone d) }
        same_again = ap (λ (o : Out). record k2 { meta = meta_with_out k2.meta o }) out2

        failed_mid : IsMidway k2 p.history p.low ends.keeps.base f2
        failed_mid = attach_stands k2 p.history p.low ends.keeps.base v1 mid2 d out2 base_out commits.nothing_staged shift2 only1 false k2 (Gone d) same_again refl
            (λ e u is. absurd (gone_not_fresh is)) keeps

        failed_powered : ArePoweredByGear f2.disks.power k2.meta
        failed_powered = attach_powered k2 p.history p.low ends.keeps.base v1 mid2 d out2 base_out commits.nothing_staged shift2 only1 false k2 (Gone d) same_again refl
            (λ e u is. absurd (gone_not_fresh is)) (λ e u is. absurd (gone_not_fresh is)) powered2

        failed_shown : ShowsMeta f2.disks.power ends.keeps.base k2.meta
        failed_shown = record {
          gear = shown2.gear;
          out = ap (λ (o : Out). out_after o f2.disks.power (first_absent f2.disks.power ends.keeps.base.setup.geometry.disks)) base_out ∙ sym out2;
          phase = shown2.phase;
          fill = shown2.fill;
          spins = shown2.spins;
        }

        pub failed_turn : (told_then : Option Trail) → ((t : Trail) → told_then ≡ Some t → now t ≡ f2.disks) → GoesOn k.slots setup p (Replace d) (NoFresh d) (StandsAt told_then k2 setup) p.disks (cs ++ (attach false ∷ []))
        failed_turn told_then tells = replaced_turn told k setup p at d below is_out fit false k2 ends.keeps.base (cs ++ (attach false ∷ [])) f2 (watch_append cs (attach false ∷ []) w0) failed_mid (attached_only false held)
            commits.copies_synced setup2 failed_shown failed_powered state2 (commits.energy ∙ ap (λ (z : Service). z.energy) marks.mark) slots2
            (each_append (HoldsWhileServing k.slots p.history p.low b) (IsAllowed setup (Some d)) w0 cs (attach false ∷ []) each1 (attached_each false held))
            (let a = attach_after cs (attach false ∷ []) (part_attaches k1 p.history p.low p.meta w0 mid1 cs part) in omega (arith, a))
            (λ e. let a = up_append e cs (attach false ∷ []) in let x = part_ups k1 p.history p.low p.meta w0 mid1 cs part e in let z : spin_up_count e (attach false ∷ []) ≡ 0 = refl in omega (arith, a, x, z))
            (first_append cs (attach false ∷ []) none_lost)
            (ap (λ (m : Meta). m.ticks) base2 ∙ sym (same_ticks v1.disks.power k1.meta k2.meta marks2)) (inl base_out) told_then tells

      -- a fresh disk is there
      module _ (held : IsHeldWithOneMissing k2.slots k2.meta.setup.geometry.disks k2.named p.history p.low (step (attach true) v1.disks)) (keeps : ServiceStandsFor (with_fresh k2 d) p.history p.low (step (attach true) v1.disks)) where
        abbrev v2 : Watch
        v2 = watch (attach true) v1

        abbrev k3 : Service
        k3 = with_fresh k2 d

        spins3 : (e u : ℕ) → Fresh d 0 ≡ Fresh e u → v2.disks.power e ≡ Spinning
        spins3 = attach_spins k2 p.history p.low ends.keeps.base v1 mid2 d out2 base_out commits.nothing_staged shift2 only1 true refl

        pub mid3 : IsMidway k3 p.history p.low ends.keeps.base v2
        mid3 = attach_stands k2 p.history p.low ends.keeps.base v1 mid2 d out2 base_out commits.nothing_staged shift2 only1 true k3 (Fresh d 0) refl refl
            (λ e u is. ap is_present (spins3 e u is)) keeps

        powered3 : ArePoweredByGear v2.disks.power k3.meta
        powered3 = attach_powered k2 p.history p.low ends.keeps.base v1 mid2 d out2 base_out commits.nothing_staged shift2 only1 true k3 (Fresh d 0) refl refl
            (λ e u is. ap is_present (spins3 e u is)) spins3 powered2

        only3 : IsOnly (Some d) v2.down
        only3 = attached_only true held

        settled3 : IsSettled k3.meta
        settled3 = settled_gone k3.meta (Fresh d 0) refl refl (ap (phase_beside true) (phase2 ∙ phase1) ∙ phase0 ∙ sym (phase2 ∙ phase1)) fill2

        state3 : IsStateOf k3 (with_fresh_disk p.state d)
        state3 = record {
          gear = state2.gear;
          phase = state2.phase;
          fill = state2.fill;
          out = refl;
          spins = state2.spins;
          ticks = state2.ticks;
          dirty = state2.dirty;
          samples = state2.samples;
          served = state2.served;
        }

        fresh_each : (ds : List Call) → AreEventCalls k3 p.history p.low ends.keeps.base v2.disks ds → Held v1 (attach true ∷ ds)
        fresh_each ds part3 = each_append (HoldsWhileServing k.slots p.history p.low b) (IsAllowed setup (Some d)) v1 (attach true ∷ []) ds (attached_each true held)
            (subst (λ (n : ℕ). Each (HoldsWhileServing n p.history p.low b) (IsAllowed setup (Some d)) v2 ds) slots2
            (part_each k3 p.history p.low ends.keeps.base v2 mid3 ds part3 b setup2 ticks2 (let e = epoch2 in omega (arith, e)) (Some d)))

        all_each : (ds : List Call) → AreEventCalls k3 p.history p.low ends.keeps.base v2.disks ds → Held w0 (cs ++ (attach true ∷ ds))
        all_each ds part3 = each_append (HoldsWhileServing k.slots p.history p.low b) (IsAllowed setup (Some d)) w0 cs (attach true ∷ ds) each1 (fresh_each ds part3)

        all_once : (ds : List Call) → AreEventCalls k3 p.history p.low ends.keeps.base v2.disks ds → attach_count (cs ++ (attach true ∷ ds)) ≡ 1
        all_once ds part3 =
            let a = attach_after cs (attach true ∷ ds) (part_attaches k1 p.history p.low p.meta w0 mid1 cs part) in
            let c = part_attaches k3 p.history p.low ends.keeps.base v2 mid3 ds part3 in
            omega (arith, a, c)

        all_up : (ds : List Call) → AreEventCalls k3 p.history p.low ends.keeps.base v2.disks ds → (e : ℕ) → spin_up_count e (cs ++ (attach true ∷ ds)) ≡ 0
        all_up ds part3 e =
            let a = up_append e cs (attach true ∷ ds) in
            let x = part_ups k1 p.history p.low p.meta w0 mid1 cs part e in
            let y = part_ups k3 p.history p.low ends.keeps.base v2 mid3 ds part3 e in
            let z : spin_up_count e (attach true ∷ ds) ≡ 0 + spin_up_count e ds = refl in
            omega (arith, a, x, y, z)

        -- a second disk is lost in the commit of the fresh one
        pub fresh_lost : (two : Two) (ds : List Call) → AreEventCalls k3 p.history p.low ends.keeps.base v2.disks ds → TellsTwo k3 two v2.disks ds
            → LosesSecondDisk k.slots setup p (Replace d) two (cs ++ (attach true ∷ ds)) (record p { disks = run p.disks (cs ++ (attach true ∷ ds)); halt = Some (HaltTwo two) })
        fresh_lost two ds part3 tells = loses_second told k setup p at d below is_out fit two (cs ++ (attach true ∷ ds)) first_is (ends_later two cs (attach true ∷ ds) alone (ends_later two (attach true ∷ []) ds (λ e fails. absurd (false≢true fails)) tells.ends)) tells.apart
            (all_each ds part3) (let one = all_once ds part3 in omega (arith, one))
          where
            first_is : two.first ≡ d
            first_is = elim tells.first [
              | inl was ↦ let z : Some d ≡ Some two.first = was in cc
              | inr none ↦ let z : Some d ≡ None = none.0 in cc
            ]

            alone : (e : ℕ) → fails_on e cs ≡ true → e ≡ two.first
            alone e fails = let z : Some d ≡ Some e = sym named2 ∙ part_failed k1 p.history p.low p.meta w0 mid1 cs part k2 p.history (length p.history) ends e fails in let first = first_is in cc

        -- that it is there is committed
        module _ (ds : List Call) (part3 : AreEventCalls k3 p.history p.low ends.keeps.base v2.disks ds) (k4 : Service) (ends3 : EndsEvent k3 k4 p.history (length p.history) v2.disks ds) (commits3 : CommitsAll k3 k4) where
          abbrev v4 : Watch
          v4 = watch_all ds v2

          abbrev all : List Call
          all = cs ++ (attach true ∷ ds)

          marks4 : IsMarkedBy v4.disks.power k3.meta k4.meta
          marks4 = part_marks k3 p.history p.low ends.keeps.base v2 mid3 ds part3 k4 p.history (length p.history) ends3

          named4 : named_out k4.meta.out ≡ Some d
          named4 = still_named v4.disks.power k3.meta k4.meta marks4 d refl

          failed4 : (e : ℕ) → fails_on e ds ≡ true → d ≡ e
          failed4 e fails = let z : Some d ≡ Some e = sym named4 ∙ part_failed k3 p.history p.low ends.keeps.base v2 mid3 ds part3 k4 p.history (length p.history) ends3 e fails in cc

          only4 : IsOnly (Some d) v4.down
          only4 = part_only k3 p.history p.low ends.keeps.base v2 mid3 ds part3 k4 p.history (length p.history) ends3 (Some d) only3 (λ e e_named. sym named4 ∙ e_named)

          serving4 : IsServing v4.down
          serving4 = only_serving (Some d) v4.down only4

          mid4 : IsMidway k4 p.history p.low ends3.keeps.base v4
          mid4 = part_stands k3 p.history p.low ends.keeps.base v2 mid3 ds part3 k4 p.history (length p.history) ends3 p.low short serving4

          base4 : ends3.keeps.base ≡ committed_meta k3
          base4 = part_epoch k3 p.history p.low ends.keeps.base v2 mid3 ds part3 k4 p.history (length p.history) ends3 serving4 commits3.epoch

          shown4 : ShowsMeta v4.disks.power ends3.keeps.base k4.meta
          shown4 = subst (λ (m : Meta). ShowsMeta v4.disks.power m k4.meta) (sym base4)
              (part_committed k3 p.history p.low ends.keeps.base v2 mid3 ds part3 k4 p.history (length p.history) ends3 settled3)

          powered4 : ArePoweredByGear v4.disks.power k4.meta
          powered4 = part_powered k3 p.history p.low ends.keeps.base v2 mid3 ds part3 k4 p.history (length p.history) ends3 powered3

          setup4 : k4.meta.setup ≡ setup
          setup4 = marked_setup v4.disks.power k3.meta k4.meta marks4 ∙ setup2

          counted4 : IsStateOf (record k4 { table = k3.table; samples = k3.samples; served = k3.served }) (state_after (with_fresh_disk p.state d) (first_lost ds))
          counted4 = part_state k3 p.history p.low ends.keeps.base v2 mid3 ds part3 k4 p.history (length p.history) ends3 (with_fresh_disk p.state d) state3 settled3

          own4 : (s : PowerState) → IsStateOf (record k4 { table = k3.table; samples = k3.samples; served = k3.served }) s → IsStateOf k4 s
          own4 s of = record {
            gear = of.gear;
            phase = of.phase;
            fill = of.fill;
            out = of.out;
            spins = of.spins;
            ticks = of.ticks;
            dirty = λ r e low. of.dirty r e low ∙ ap (λ (t : List (List Bool)). is_dirty t r e) (sym commits3.counts.table);
            samples = of.samples ∙ sym commits3.counts.samples;
            served = of.served ∙ sym commits3.counts.served;
          }

          -- the fresh disk is there still
          loss_none : k4.meta.out ≡ Fresh d 0 → first_lost ds ≡ None
          loss_none is = by (first_lost ds) refl
            where
              by : (o : Option ℕ) → first_lost ds ≡ o → first_lost ds ≡ None
              by None none = none
              by (Some e) some =
                  let fails = first_fails ds e some in
                  let absent = failed_absent k3.meta.setup.geometry.disks (gone_out k3.meta.out) v2 ds e (part_calls k3 p.history p.low ends.keeps.base v2 mid3 ds part3) fails in
                  let there = marks4.fresh d 0 is in
                  absurd (false≢true (sym absent ∙ ap (λ (x : ℕ). is_present (v4.disks.power x)) (sym (failed4 e fails)) ∙ there))

          -- or it was lost again
          loss_some : k4.meta.out ≡ Gone d → first_lost ds ≡ Some d
          loss_some is = by marks4.lost refl
            where
              first_is : fails_on d ds ≡ true → first_lost ds ≡ Some d
              first_is fails = let it = fails_first ds d fails in it.1 ∙ ap (λ (x : ℕ). Some x) (sym (failed4 it.0 (first_fails ds it.0 it.1)))

              off : (x : ℕ) → marks4.lost ≡ Some x → is_present ((run v2.disks ds).power d) ≡ false
              off x some = subst (λ (t : Disks). is_present (t.power d) ≡ false) (watched_disks v2 ds)
                  (subst (λ (y : ℕ). is_present (v4.disks.power y) ≡ false) (sym (marks4.alone x d some refl)) (marks4.absent x some))

              by : (o : Option ℕ) → marks4.lost ≡ o → first_lost ds ≡ Some d
              by None none = let z : Fresh d 0 ≡ Gone d = sym (kept_out v4.disks.power k3.meta k4.meta marks4 none) ∙ is in cc
              by (Some x) some = elim (absent_failed v2.disks ds d (off x some)) [
                | inl before ↦ absurd (false≢true (sym before ∙ ap is_present (spins3 d 0 refl)))
                | inr fails ↦ first_is fails
              ]

          state_came : k4.meta.out ≡ Fresh d 0 → IsStateOf k4 (with_fresh_disk p.state d)
          state_came is = own4 (with_fresh_disk p.state d) (subst (λ (o : Option ℕ). IsStateOf (record k4 { table = k3.table; samples = k3.samples; served = k3.served }) (state_after (with_fresh_disk p.state d) o)) (loss_none is) counted4)

          same_lost : after_loss (with_fresh_disk p.state d) d ≡ without_fresh_disk p.state d
          same_lost = ap (λ (x : Phase). record p.state { phase = x; fill = 0; out = Gone d; spins = without_spin_ups d p.state.spins }) (ap (phase_beside true) at.state.phase ∙ phase0 ∙ sym at.state.phase)
              ∙ ap (λ (x : ℕ). record p.state { fill = x; out = Gone d; spins = without_spin_ups d p.state.spins }) (sym (at.state.fill ∙ fill0))

          state_lost : k4.meta.out ≡ Gone d → IsStateOf k4 (without_fresh_disk p.state d)
          state_lost is = own4 (without_fresh_disk p.state d) (subst (IsStateOf (record k4 { table = k3.table; samples = k3.samples; served = k3.served }))
              (ap (state_after (with_fresh_disk p.state d)) (loss_some is) ∙ same_lost) counted4)

          pub fresh_turn : (fresh_came : Bool) → k4.meta.out ≡ out_of d fresh_came → (told_then : Option Trail) → ((t : Trail) → told_then ≡ Some t → now t ≡ v4.disks)
              → GoesOn k.slots setup p (Replace d) (answer_of d fresh_came) (StandsAt told_then k4 setup) p.disks all
          fresh_turn fresh_came is told_then tells = replaced_turn told k setup p at d below is_out fit fresh_came k4 ends3.keeps.base all v4 (watch_append cs (attach true ∷ ds) w0) mid4 only4 commits3.copies_synced setup4 shown4 powered4
              (state_by fresh_came is) (commits3.energy ∙ commits.energy ∙ ap (λ (z : Service). z.energy) marks.mark) (commits3.counts.slots ∙ slots2)
              (all_each ds part3) (all_once ds part3) (all_up ds part3) (first_append cs (attach true ∷ ds) none_lost ∙ loss_by fresh_came is)
              (ap (λ (m : Meta). m.ticks) base4 ∙ sym (same_ticks v4.disks.power k3.meta k4.meta marks4)) (inr (ap (λ (m : Meta). m.out) base4)) told_then tells
            where
              state_by : (t : Bool) → k4.meta.out ≡ out_of d t → IsStateOf k4 (state_of p.state d t)
              state_by true z = state_came z
              state_by false z = state_lost z

              loss_by : (t : Bool) → k4.meta.out ≡ out_of d t → first_lost ds ≡ loss_of d t
              loss_by true z = loss_none z
              loss_by false z = loss_some z
