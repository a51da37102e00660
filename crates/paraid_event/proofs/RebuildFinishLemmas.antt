-- The parts of the tick with which a rebuild ends.
use Rattle.std.proofs.Common.{◌≡◌, ℕ, ◌+◌, ◌^◌, ◌<◌, ◌≤◌, ◌⊎◌, Bool, true, false, List, [], ◌∷◌, ◌++◌, length, Option, Some, None, refl, sym, ap, ◌∙◌, inl, inr, subst, arith}
use Rattle.paraid_base.specs.declared.event.Answer.TheVariants.{Halted}
use Rattle.paraid_base.specs.declared.event.Event.TheVariants.{Tick}
use Rattle.paraid_base.specs.declared.fault.Halt.TheVariants.{Two as HaltTwo}
use Rattle.paraid_base.specs.declared.fault.Two.{Two}
use Rattle.paraid_base.specs.declared.state.Out.TheVariants.{No, Gone, Fresh}
use Rattle.paraid_base.specs.declared.state.TickEvent.TheVariants.{Rebuilt}
use Rattle.paraid_base.specs.History.{History}
use Rattle.paraid_base.specs.Log.{worn_at}
use Rattle.paraid_base.specs.States.{gone_out, named_out, rising_to}
use Rattle.paraid_rack.specs.declared.call.Call.{Call}
use Rattle.paraid_rack.specs.declared.call.Call.TheVariants.{Park}
use Rattle.paraid_rack.specs.Disks.{Disks}
use Rattle.paraid_rack.specs.Told.{Ran}
use Rattle.paraid_rack.specs.Trail.{Trail, now, run}
use Rattle.paraid_rack.proofs.TrailsLemmas.{now-extend}
use Rattle.paraid_record.specs.declared.meta.Meta.{Meta}
use Rattle.paraid_record.specs.declared.meta.Setup.{Setup}
use Rattle.paraid_image.specs.Calls.{is_attach}
use Rattle.paraid_image.specs.Lost.{TellsLosses, fails_on, first_lost}
use Rattle.paraid_image.specs.Mark.{meta_with_lost}
use Rattle.paraid_core.specs.Calls.{IsOneCall}
use Rattle.paraid_core.proofs.CommitLemmas.{both_of}
use Rattle.paraid_machine.specs.Machine.{report}
use Rattle.paraid_machine.specs.Moves.{state_with_tick, units_to_rebuild}
use Rattle.paraid_moves.specs.MoveMetas.{meta_with_out}
use Rattle.paraid_session.specs.Turn.{GoesOn, Point, point_wear}
use Rattle.paraid_session.specs.Watch.{Bounds, HoldsWhileServing, Watch, attach_count, awaited_after, watch, watch_all}
use Rattle.paraid_session.specs.Resting.{watch_at}
use Rattle.paraid_recover.proofs.DownLemmas.{watched_disks}
use Rattle.paraid_event.proofs.ApartLemmas.{no_one}
use Rattle.paraid_event.specs.Marks.{ShowsMeta}
use Rattle.paraid_event.specs.Parts.{LosesInEvent, ServesEvent}
use Rattle.paraid_event.specs.RebuildEnds.{CommitsRejoined, CopiesRest, FinishesRebuild, IsParkCall, LosesFinishing, MarksRejoined, ParksBack, ParksInEvent, RejoinsDisk}
use Rattle.paraid_event.specs.RebuildEnds.FinishesRebuild.{committing, copying}
use Rattle.paraid_event.specs.RebuildEnds.LosesFinishing.{as_committed, as_copied}
use Rattle.paraid_event.specs.RebuildEnds.ParksBack.{fails, parks, stays}
use Rattle.paraid_event.specs.RebuildTicks.{CountsRebuild}
use Rattle.paraid_session.specs.Ups.{spin_up_count}
use Rattle.std.specs.Prelude.{slice_index}
use Rattle.paraid_event.proofs.UpLemmas.{rest_made, up_append}
use Rattle.paraid_event.specs.Service.{IsStateOf, Service}
use Rattle.paraid_event.specs.Stands.{ServiceStandsFor, StandsAt}
use Rattle.paraid_event.specs.Steps.{AreStepCalls, GoesInSteps, IsOnly, IsUnderway, LosesInSteps, ServesAndMarks, StepsInEvent, made_by}
use Rattle.paraid_event.specs.Ticks.{CountsTick, IsHaltedWith}
use Rattle.paraid_event.proofs.EndLemmas.{fails_split}
use Rattle.paraid_event.proofs.FailLemmas.{watch_append}
use Rattle.paraid_event.proofs.LastCallLemmas.{alone_named}
use Rattle.paraid_image.proofs.LostLemmas.{ends_later, failing_fails}
use Rattle.paraid_event.proofs.ParkBackLemmas.{IsEnded, ended_gone, ended_parked, ended_spinning, lost_by, park_calls}
use Rattle.paraid_event.proofs.RebuildEndLemmas.{back_state, ended_turn, failed_low}
use Rattle.paraid_event.proofs.RebuildTickLemmas.{failed_off, none_first, out1, rebuild_loses, underway1}
use Rattle.paraid_event.proofs.RejoinLemmas.{GoesBack, back_after, calls_then, rejoin_calls, rejoined}
use Rattle.paraid_event.proofs.ShownLemmas.{shown_rests}
use Rattle.paraid_event.proofs.StepLemmas.{data_steps, follow, goes_bound, lose_then, ran_both, ran_then}
use Rattle.paraid_event.proofs.StepMarkLemmas.{fresh_of}
use Rattle.paraid_event.proofs.PreludeLemmas.{some_trail}

-- the units that are left are copied, and the core stands with the disk back too
copies_goes : (j copied joined : Service) → copied.slots ≡ j.slots → (h : History) (lo : ℕ) (s : Disks) (cs : List Call) → CopiesRest j copied joined h lo s cs → (base : Meta) (w : Watch) → w.disks ≡ s → IsUnderway j h lo base w
    → GoesInSteps j copied h lo 0 (IsUnderway copied h lo) base w cs × ServiceStandsFor joined h lo (watch_all cs w).disks
copies_goes j copied joined slots h lo s cs rest base w same at =
    let here = subst (λ (u : Disks). ServesAndMarks j copied joined h lo u cs) (sym same) rest.0 at.midway.stands.keeps (subst (λ (m : Meta). ShowsMeta w.disks.power m j.meta) (sym at.midway.stands.is_base) at.shown) in (
      data_steps j copied h lo lo (omega arith) slots s cs ((λ z shows. let x = rest.0 z shows in (x.0, x.1)), rest.1) base w same at,
      subst (ServiceStandsFor joined h lo) (sym (watched_disks w cs)) here.2,
    )

-- So parts of an event go to where disk `d`, which was out, is back or lost again,
abbrev BackFrom : Service → Service → History → ℕ → ℕ → ℕ → Disks → List Call → Type 0
BackFrom k back h lo most d s cs = (base : Meta) (w : Watch) → w.disks ≡ s → IsUnderway k h lo base w → named_out k.meta.out ≡ Some d → GoesBack k back h lo most d base w cs

-- or a second one is lost in them
abbrev LosesFrom : Service → History → ℕ → ℕ → ℕ → Two → Disks → List Call → Type 0
LosesFrom k h lo most d two s cs = (base : Meta) (w : Watch) → w.disks ≡ s → IsUnderway k h lo base w → named_out k.meta.out ≡ Some d → AreStepCalls k h lo most base w cs × TellsLosses (Some d) two cs

later_losses : (d : ℕ) (two : Two) (cs ds : List Call) → ((e : ℕ) → fails_on e cs ≡ true → Some d ≡ Some e) → TellsLosses (Some d) two ds → TellsLosses (Some d) two (cs ++ ds)
later_losses d two cs ds alone tells = record {
  apart = tells.apart;
  first = elim tells.first [ inl was ↦ inl was | inr none ↦ absurd (let z : Some d ≡ None = none.0 in cc) ];
  ends = ends_later two cs ds (λ e fails. alone_named (Some d) (first_lost ds) two.first tells.first e (alone e fails)) tells.ends;
}

module _ (j copied joined : Service) (h : History) (lo d : ℕ) (there : gone_out j.meta.out ≡ None) (same : copied.meta ≡ j.meta) (slots : copied.slots ≡ j.slots) (mark : joined ≡ record copied { meta = meta_with_out copied.meta No }) where
  abbrev back_now : Service
  back_now = record copied { meta = meta_with_out copied.meta No }

  fresh_copied : named_out j.meta.out ≡ Some d → (u : ℕ) × (copied.meta.out ≡ Fresh d u)
  fresh_copied named = let it = fresh_of j.meta.out d named there in (it.0, ap (λ (m : Meta). m.out) same ∙ it.1)

  -- that it is back is committed
  rejoin_from : (back : Service) → ((e : ℕ) → named_out back.meta.out ≡ Some e → e ≡ d) → back.meta.epoch ≡ joined.meta.epoch + 1 → back.slots ≡ joined.slots
      → (s : Disks) (cs ds : List Call) → CopiesRest j copied joined h lo s cs → ServesEvent joined back h lo h (length h) (run s cs) ds → BackFrom j back h lo (0 + 1) d s (cs ++ ds)
  rejoin_from back alone epoch more_slots s cs ds rest serves base w same_disks at named =
      let goes = copies_goes j copied joined slots h lo s cs rest base w same_disks at in
      let fresh = fresh_copied named in
      let end : (watch_all cs w).disks ≡ run s cs = watched_disks w cs ∙ ap (λ (u : Disks). run u cs) same_disks in
      let keeps : ServiceStandsFor back_now h lo (watch_all cs w).disks = subst (λ (z : Service). ServiceStandsFor z h lo (watch_all cs w).disks) mark goes.1 in
      let both = subst (λ (z : Service). ServesEvent z back h lo h (length h) (watch_all cs w).disks ds) mark (subst (λ (u : Disks). ServesEvent joined back h lo h (length h) u ds) (sym end) serves) keeps in
      let le : lo ≤ length h = (let l = keeps.copies.low in let m = keeps.copies.high in omega (arith, l, m)) in
      let more : back.meta.epoch ≡ copied.meta.epoch + 1 = (let e : joined.meta.epoch ≡ copied.meta.epoch = ap (λ (z : Service). z.meta.epoch) mark in omega (arith, epoch, e)) in
      let second = rejoined copied d fresh.0 h lo goes.0.base_then (watch_all cs w) goes.0.ends fresh.1 keeps ds both.0 back (length h) le both.1 alone (more_slots ∙ ap (λ (z : Service). z.slots) mark) more in
      back_after j copied back h lo 0 1 d base w cs ds goes.0 second

  -- or a second disk is lost in that commit
  lose_from : (two : Two) (s : Disks) (cs ds : List Call) → CopiesRest j copied joined h lo s cs → LosesInEvent joined h lo (run s cs) ds × TellsLosses (Some d) two ds → LosesFrom j h lo (0 + 1) d two s (cs ++ ds)
  lose_from two s cs ds rest loses base w same_disks at named =
      let goes = copies_goes j copied joined slots h lo s cs rest base w same_disks at in
      let fresh = fresh_copied named in
      let end : (watch_all cs w).disks ≡ run s cs = watched_disks w cs ∙ ap (λ (u : Disks). run u cs) same_disks in
      let keeps : ServiceStandsFor back_now h lo (watch_all cs w).disks = subst (λ (z : Service). ServiceStandsFor z h lo (watch_all cs w).disks) mark goes.1 in
      let part = subst (λ (z : Service). LosesInEvent z h lo (watch_all cs w).disks ds) mark (subst (λ (u : Disks). LosesInEvent joined h lo u ds) (sym end) loses.0) keeps in
      let second = rejoin_calls copied d fresh.0 h lo goes.0.base_then (watch_all cs w) goes.0.ends fresh.1 keeps ds part in (
        calls_then j copied h lo 0 1 base goes.0.base_then w cs ds goes.0.leaves.slots goes.0.leaves.setup goes.0.leaves.ticks goes.0.room goes.0.calls second,
        later_losses d two cs ds (λ e fails. sym (ap named_out fresh.1) ∙ goes.0.leaves.failed e fails) loses.1,
      )

-- parts of the event before
back_before : (k j back : Service) (h : History) (lo most more d : ℕ) (s : Disks) (cs ds : List Call) → StepsInEvent k j h lo most s cs → BackFrom j back h lo more d (run s cs) ds → BackFrom k back h lo (most + more) d s (cs ++ ds)
back_before k j back h lo most more d s cs ds steps from base w same at named =
    let goes = steps base w same at in
    let second = from goes.base_then (watch_all cs w) (watched_disks w cs ∙ ap (λ (u : Disks). run u cs) same) goes.ends (goes.leaves.still d named) in
    back_after k j back h lo most more d base w cs ds goes second

lose_before : (k j : Service) (h : History) (lo most more d : ℕ) (two : Two) (named : named_out k.meta.out ≡ Some d) (s : Disks) (cs ds : List Call) → StepsInEvent k j h lo most s cs → LosesFrom j h lo more d two (run s cs) ds → LosesInSteps k h lo (most + more) two s (cs ++ ds)
lose_before k j h lo most more d two named s cs ds steps from base w same at =
    let goes = steps base w same at in
    let second = from goes.base_then (watch_all cs w) (watched_disks w cs ∙ ap (λ (u : Disks). run u cs) same) goes.ends (goes.leaves.still d named) in (
      calls_then k j h lo most more base goes.base_then w cs ds goes.leaves.slots goes.leaves.setup goes.leaves.ticks goes.room goes.calls second.0,
      subst (λ (o : Option ℕ). TellsLosses o two (cs ++ ds)) (sym named) (later_losses d two cs ds (λ e fails. sym (goes.leaves.still d named) ∙ goes.leaves.failed e fails) second.1),
    )

-- The event ends so.
record EndsIn (k k_then : Service) (h : History) (lo bound d : ℕ) (base : Meta) (w : Watch) (cs : List Call) : Type 0 where
  calls : AreStepCalls k h lo bound base w cs
  ticks : k_then.meta.ticks ≡ k.meta.ticks
  base_then : Meta
  room : base_then.epoch ≤ base.epoch + bound
  brought : base_then.ticks ≡ k_then.meta.ticks
  ended : IsEnded k k_then h lo d base_then (watch_all cs w)
  used : (e : ℕ) → e < k.meta.setup.geometry.disks → spin_up_count e cs + made_by k.meta w.disks.power e ≤ slice_index k_then.meta.spins e

abbrev EndsFrom : Service → Service → History → ℕ → ℕ → ℕ → Disks → List Call → Type 0
EndsFrom k k_then h lo bound d s cs = (base : Meta) (w : Watch) → w.disks ≡ s → IsUnderway k h lo base w → named_out k.meta.out ≡ Some d → EndsIn k k_then h lo bound d base w cs

-- with an end that is told of where the disk is back
ended_for : (k back k_then : Service) (h : History) (lo d : ℕ) (base : Meta) (w : Watch) → back.slots ≡ k.slots → back.meta.setup ≡ k.meta.setup → IsEnded back k_then h lo d base w → IsEnded k k_then h lo d base w
ended_for k back k_then h lo d base w slots setup it = record {
  slots = it.slots ∙ slots;
  setup = it.setup ∙ setup;
  midway = it.midway;
  only = it.only;
  shown = it.shown;
  powered = it.powered;
}

-- it is lost again, or spins on
ends_gone : (k back : Service) (h : History) (lo most d : ℕ) → back.meta.out ≡ Gone d → (s : Disks) (cs : List Call) → BackFrom k back h lo most d s cs → EndsFrom k back h lo most d s cs
ends_gone k back h lo most d gone s cs from base w same at named =
    let goes = from base w same at named in
    record {
      calls = goes.calls;
      ticks = goes.ticks;
      base_then = goes.base_then;
      room = goes.room;
      brought = goes.brought;
      ended = ended_for k back back h lo d goes.base_then (watch_all cs w) goes.slots goes.setup (ended_gone back h lo d goes.base_then (watch_all cs w) goes.ends gone);
      used = goes.used;
    }

ends_spinning : (k back : Service) (h : History) (lo most d : ℕ) → back.meta.out ≡ No → (d < back.meta.gear) ⊎ (d < rising_to back.meta.phase) → (s : Disks) (cs : List Call) → BackFrom k back h lo most d s cs → EndsFrom k back h lo most d s cs
ends_spinning k back h lo most d none_out under s cs from base w same at named =
    let goes = from base w same at named in
    record {
      calls = goes.calls;
      ticks = goes.ticks;
      base_then = goes.base_then;
      room = goes.room;
      brought = goes.brought;
      ended = ended_for k back back h lo d goes.base_then (watch_all cs w) goes.slots goes.setup (ended_spinning back h lo d goes.base_then (watch_all cs w) goes.ends none_out under);
      used = goes.used;
    }

parked_ticks : (d : ℕ) (done : Bool) (m : Meta) → (meta_with_lost (lost_by d done) m).ticks ≡ m.ticks
parked_ticks d true m = refl
parked_ticks d false m = refl

parked_spins : (d : ℕ) (done : Bool) (m : Meta) → (meta_with_lost (lost_by d done) m).spins ≡ m.spins
parked_spins d true m = refl
parked_spins d false m = refl

-- or it is parked, or lost in that
ends_parked : (k back k_then : Service) (h : History) (lo most d : ℕ) (done : Bool) → back.batch ≡ [] → back.meta.out ≡ No → back.meta.gear ≤ d → rising_to back.meta.phase ≤ d → k_then.slots ≡ back.slots → k_then.meta ≡ meta_with_lost (lost_by d done) back.meta
    → (s : Disks) (cs ds : List Call) → BackFrom k back h lo most d s cs → ParksInEvent back k_then h lo d done (run s cs) ds → EndsFrom k k_then h lo (most + 0) d s (cs ++ ds)
ends_parked k back k_then h lo most d done nothing none_out past_gear past_rise slots meta_is s cs ds from park base w same at named =
    let goes = from base w same at named in
    let v = watch_all cs w in
    let end : v.disks ≡ run s cs = watched_disks w cs ∙ ap (λ (u : Disks). run u cs) same in
    let shows = subst (λ (m : Meta). ShowsMeta v.disks.power m back.meta) (sym goes.ends.midway.stands.is_base) goes.ends.shown in
    let it = subst (λ (u : Disks). ParksInEvent back k_then h lo d done u ds) (sym end) park (shown_rests back h lo v.disks goes.ends.midway.stands.keeps shows nothing) in
    let held = subst (λ (es : List Call). IsParkCall back h lo d done v.disks es) it.0.is it.0 in
    let keeps = subst (λ (es : List Call). ServiceStandsFor k_then h lo (run v.disks es)) it.0.is it.1 in
    subst (λ (es : List Call). EndsIn k k_then h lo (most + 0) d base w (cs ++ es)) (sym it.0.is) (record {
      calls = calls_then k back h lo most 0 base goes.base_then w cs (Park d done ∷ []) goes.slots goes.setup goes.ticks goes.room goes.calls
          (park_calls back h lo d goes.base_then v goes.ends none_out past_gear past_rise done held.lawful held.held);
      ticks = ap (λ (m : Meta). m.ticks) meta_is ∙ parked_ticks d done back.meta ∙ goes.ticks;
      base_then = goes.base_then;
      room = let r = goes.room in omega (arith, r);
      brought = goes.brought ∙ sym (ap (λ (m : Meta). m.ticks) meta_is ∙ parked_ticks d done back.meta);
      ended = subst (IsEnded k k_then h lo d goes.base_then) (sym (watch_append cs (Park d done ∷ []) w))
          (ended_for k back k_then h lo d goes.base_then (watch_all (Park d done ∷ []) v) goes.slots goes.setup
          (ended_parked back h lo d goes.base_then v goes.ends none_out past_gear past_rise done held.lawful held.held k_then slots meta_is keeps));
      used = λ e low.
          let a = goes.used e low in
          let f = up_append e cs (Park d done ∷ []) in
          let z : spin_up_count e (Park d done ∷ []) ≡ 0 = refl in
          let l : slice_index k_then.meta.spins e ≡ slice_index back.meta.spins e = ap (λ (m : Meta). slice_index m.spins e) meta_is ∙ ap (λ (x : List ℕ). slice_index x e) (parked_spins d done back.meta) in
          omega (arith, a, f, z, l);
    })

-- where no disk is attached, the one that is awaited stays so
waits : (o : Option ℕ) (c : Call) → is_attach c ≡ false → awaited_after o c ≡ o
waits None c no_attach = refl
waits (Some d) c no_attach = rw no_attach refl

waits_all : (cs : List Call) (w : Watch) → attach_count cs ≡ 0 → (watch_all cs w).awaited ≡ w.awaited
waits_all [] w none = refl
waits_all (c ∷ cs) w none = let no = none_first (is_attach c) (attach_count cs) none in waits_all cs (watch c w) no.1 ∙ waits w.awaited c no.0

-- Where the disk is gone in the end the event goes on: these were parts of it.
ends_steps : (k k_then : Service) (h : History) (lo bound d : ℕ) → named_out k.meta.out ≡ Some d → k_then.meta.out ≡ Gone d → (s : Disks) (cs : List Call) → EndsFrom k k_then h lo bound d s cs → StepsInEvent k k_then h lo bound s cs
ends_steps k k_then h lo bound d named gone s cs from base w same at =
    let it = from base w same at named in
    let still : named_out k_then.meta.out ≡ named_out k.meta.out = ap named_out gone ∙ sym named in
    let b : Bounds = record { setup = k.meta.setup; epoch = base.epoch + bound; ticks = k.meta.ticks } in
    let each = it.calls.moments b None refl (omega arith) (omega arith) in
    let P : Watch → Type 0 = HoldsWhileServing k.slots h lo b in
    record {
      calls = it.calls;
      leaves = record {
        slots = it.ended.slots;
        setup = it.ended.setup;
        ticks = it.ticks;
        failed = λ e fails. it.ended.midway.named e (subst (λ (z : Setup). e < z.geometry.disks) (sym it.ended.setup) (failed_low P k.meta.setup None w cs e each fails))
            (failed_off P k.meta.setup None w cs e each it.calls.attaches fails);
        still = λ e is. still ∙ is;
        newly = λ e is. inl (sym still ∙ is);
        awaited = waits_all cs w it.calls.attaches;
        used = λ e low.
            let a = it.used e low in
            let r = rest_made k_then.meta (watch_all cs w).disks.power it.ended.powered e (subst (λ (z : Setup). e < z.geometry.disks) (sym it.ended.setup) low) in
            omega (arith, a, r);
      };
      base_then = it.base_then;
      room = it.room;
      carried = inr it.brought;
      ends = record {
        midway = it.ended.midway;
        only = subst (λ (o : Option ℕ). IsOnly o (watch_all cs w).down) (sym (ap named_out gone)) it.ended.only;
        shown = it.ended.shown;
        powered = it.ended.powered;
      };
    }

-- what is told of the parts up to the commit
module _ (told before mid : Option Trail) (k1 j back : Service) (h : History) (lo most d : ℕ) (steps : Ran told before (StepsInEvent k1 j h lo most)) where
  back_told : (m : Option Trail) (copied joined : Service) → RejoinsDisk before m j copied joined h lo → CommitsRejoined m mid joined back h lo d → Ran told mid (BackFrom k1 back h lo (most + (0 + 1)) d)
  back_told m copied joined rejoins commits =
      ran_both (StepsInEvent k1 j h lo most) (BackFrom j back h lo (0 + 1) d) (BackFrom k1 back h lo (most + (0 + 1)) d)
      (λ s cs ds x y. back_before k1 j back h lo most (0 + 1) d s cs ds x y) told before mid steps
      (ran_both (CopiesRest j copied joined h lo) (ServesEvent joined back h lo h (length h)) (BackFrom j back h lo (0 + 1) d)
      (λ s cs ds x y. rejoin_from j copied joined h lo d rejoins.there rejoins.same rejoins.slots rejoins.mark back commits.alone commits.epoch commits.slots s cs ds x y) before m mid rejoins.ran commits.ran)

  -- the disk is lost before it is back, or in the commit,
  pub finish_gone_steps : named_out k1.meta.out ≡ Some d → back.meta.out ≡ Gone d → FinishesRebuild before mid j back h lo d → Ran told mid (StepsInEvent k1 back h lo (most + 1))
  finish_gone_steps named gone (copying out absent ran) =
      ran_both (StepsInEvent k1 j h lo most) (StepsInEvent j back h lo 0) (StepsInEvent k1 back h lo (most + 1))
      (λ s cs ds x y. goes_bound k1 back h lo (most + 0) (most + 1) (omega arith) s (cs ++ ds) (follow k1 j back h lo most 0 s cs ds x y)) told before mid steps ran
  finish_gone_steps named gone (committing m copied joined rejoins commits) =
      ran_then (BackFrom k1 back h lo (most + (0 + 1)) d) (StepsInEvent k1 back h lo (most + 1))
      (λ s cs x. goes_bound k1 back h lo (most + (0 + 1)) (most + 1) (omega arith) s cs
      (ends_steps k1 back h lo (most + (0 + 1)) d named gone s cs (ends_gone k1 back h lo (most + (0 + 1)) d gone s cs x))) told mid (back_told m copied joined rejoins commits)

  -- or in the park
  pub park_failed_steps : (told_then : Option Trail) (k2 : Service) → named_out k1.meta.out ≡ Some d → back.meta.out ≡ No → k2.meta.out ≡ Gone d → FinishesRebuild before mid j back h lo d → ParksBack mid told_then back k2 h lo d
      → Ran told told_then (StepsInEvent k1 k2 h lo (most + 1))
  park_failed_steps told_then k2 named none_out gone finish park = by_finish finish
    where
      by_park : back.batch ≡ [] → Ran told mid (BackFrom k1 back h lo (most + (0 + 1)) d) → ParksBack mid told_then back k2 h lo d → Ran told told_then (StepsInEvent k1 k2 h lo (most + 1))
      by_park nothing from (stays under told_is is) = absurd (let z : No ≡ Gone d = sym none_out ∙ ap (λ (s : Service). s.meta.out) (sym is) ∙ gone in cc)
      by_park nothing from (parks past_gear past_rise slots meta_is ran) = absurd (let z : No ≡ Gone d = sym none_out ∙ ap (λ (m : Meta). m.out) (sym meta_is) ∙ gone in cc)
      by_park nothing from (fails past_gear past_rise slots meta_is ran) =
          ran_both (BackFrom k1 back h lo (most + (0 + 1)) d) (ParksInEvent back k2 h lo d false) (StepsInEvent k1 k2 h lo (most + 1))
          (λ s cs ds x y. goes_bound k1 k2 h lo (most + (0 + 1) + 0) (most + 1) (omega arith) s (cs ++ ds)
          (ends_steps k1 k2 h lo (most + (0 + 1) + 0) d named gone s (cs ++ ds) (ends_parked k1 back k2 h lo (most + (0 + 1)) d false nothing none_out past_gear past_rise slots meta_is s cs ds x y))) told mid told_then from ran

      by_finish : FinishesRebuild before mid j back h lo d → Ran told told_then (StepsInEvent k1 k2 h lo (most + 1))
      by_finish (copying out absent ran) = absurd (let z : No ≡ Gone d = sym none_out ∙ out in cc)
      by_finish (committing m copied joined rejoins commits) = by_park commits.nothing_staged (back_told m copied joined rejoins commits) park

  pub loses_told : named_out k1.meta.out ≡ Some d → (two : Two) → LosesFinishing before mid j h lo d two → Ran told mid (LosesInSteps k1 h lo (most + (0 + 1)) two)
  loses_told named two (as_copied loses) =
      ran_both (StepsInEvent k1 j h lo most) (LosesInSteps j h lo 0 two) (LosesInSteps k1 h lo (most + (0 + 1)) two)
      (λ s cs ds x y. loses_more s (cs ++ ds) (lose_then k1 j h lo most 0 two s cs ds x y)) told before mid steps loses
    where
      loses_more : (s : Disks) (cs : List Call) → LosesInSteps k1 h lo (most + 0) two s cs → LosesInSteps k1 h lo (most + (0 + 1)) two s cs
      loses_more s cs loses base w same at = let x = loses base w same at in (
        record { moments = λ b asked setup ticks room. x.0.moments b asked setup ticks (omega (arith, room)); attaches = x.0.attaches },
        x.1,
      )
  loses_told named two (as_committed m copied joined rejoins loses) =
      ran_both (StepsInEvent k1 j h lo most) (LosesFrom j h lo (0 + 1) d two) (LosesInSteps k1 h lo (most + (0 + 1)) two)
      (λ s cs ds x y. lose_before k1 j h lo most (0 + 1) d two named s cs ds x y) told before mid steps
      (ran_both (CopiesRest j copied joined h lo) (λ s cs. LosesInEvent joined h lo s cs × TellsLosses (Some d) two cs) (LosesFrom j h lo (0 + 1) d two)
      (λ s cs ds x y. lose_from j copied joined h lo d rejoins.there rejoins.same rejoins.slots rejoins.mark two s cs ds x y) before m mid rejoins.ran loses)

-- in one call no two disks are lost
pub one_call_loses_one : (mid told_then : Option Trail) (d : ℕ) (two : Two) → Ran mid told_then (IsOneCall (λ done. Park d done)) → Ran mid told_then (λ s cs. TellsLosses None two cs) → told_then ≡ None
one_call_loses_one mid told_then d two calls loses = by told_then refl
  where
    first_is : (done : Bool) → first_lost (Park d done ∷ []) ≡ Some two.first → d ≡ two.first
    first_is true is = absurd (no_one is)
    first_is false is = let z : Some d ≡ Some two.first = is in cc

    second_is : (done : Bool) → fails_on two.second (Park d done ∷ []) ≡ true → d ≡ two.second
    second_is done is = elim (fails_split (Park d done) [] two.second is) [
      | inl here ↦ here.1
      | inr later ↦ let z : false ≡ true = later in cc
    ]

    never : (done : Bool) (cs : List Call) → cs ≡ Park d done ∷ [] → TellsLosses None two cs → ⊥
    never done cs is tells =
        let second = second_is done (subst (λ (es : List Call). fails_on two.second es ≡ true) is (failing_fails two.second tells.ends.before cs tells.ends.ends)) in
        elim tells.first [
          | inl was ↦ absurd (no_one was)
          | inr first ↦ tells.apart (sym (first_is done (subst (λ (es : List Call). first_lost es ≡ Some two.first) is first.1)) ∙ second)
        ]

    by : (o : Option Trail) → told_then ≡ o → told_then ≡ None
    by None is = is
    by (Some t) is =
        let r = both_of (IsOneCall (λ done. Park d done)) (λ s cs. TellsLosses None two cs) mid told_then calls loses t is in
        absurd (never r.holds.0.0 r.calls r.holds.0.1 r.holds.1)

module _ (told : Option Trail) (k k1 : Service) (setup : Setup) (p : Point) (at : StandsAt told k setup p) (d rebuilt : ℕ) (is_fresh : p.state.out ≡ Fresh d rebuilt) (counts : CountsTick k k1) (fit : point_wear p < worn_at) where
  abbrev h : History
  h = p.history

  abbrev lo : ℕ
  lo = p.low

  abbrev left : ℕ
  left = units_to_rebuild setup (state_with_tick p.state) d rebuilt

  abbrev w0 : Watch
  w0 = watch_at p

  named1 : named_out k1.meta.out ≡ Some d
  named1 = ap named_out (out1 told k k1 setup p at d rebuilt is_fresh counts fit 0 (omega arith))

  -- an end that is told is a turn
  ends_turn : (bound : ℕ) → bound ≤ 2 ^ 20 → (k2 : Service) (told_then : Option Trail) → CountsRebuild k k1 k2 → left ≤ setup.rate → k2.meta.out ≡ No → IsStateOf k2 (record (state_with_tick p.state) { out = No })
      → Ran told told_then (EndsFrom k1 k2 h lo bound d) → Ran told told_then (GoesOn k.slots setup p Tick (report p.state left (Rebuilt d)).0 (StandsAt told_then k2 setup))
  ends_turn bound few k2 told_then counts2 few_left out2 state2 ran t tells =
      let r = ran t tells in
      let from : now r.from ≡ p.disks = at.disks r.from r.was in
      let it = r.holds p.meta w0 (sym from) (underway1 told k k1 setup p at d rebuilt is_fresh counts fit bound few) named1 in
      let end : now t ≡ (watch_all r.calls w0).disks = ap now r.is ∙ now-extend r.from r.calls ∙ ap (λ (s : Disks). run s r.calls) from ∙ sym (watched_disks w0 r.calls) in
      record {
        from = r.from;
        was = r.was;
        calls = r.calls;
        is = r.is;
        holds = ended_turn told k k1 setup p at d rebuilt is_fresh counts fit bound few k2 counts2 few_left r.calls it.calls it.base_then it.brought it.ended out2 state2 it.used told_then (λ u u_tells. ap now (some_trail u t (sym u_tells ∙ tells)) ∙ end);
      }

  module _ (before mid told_then : Option Trail) (j back k2 : Service) (most : ℕ) (few : most + 1 ≤ 2 ^ 20) (counts2 : CountsRebuild k k1 k2) (steps : Ran told before (StepsInEvent k1 j h lo most)) where
    abbrev up_to : ℕ
    up_to = most + (0 + 1)

    -- the disk is back, and is parked where the gear does not need it
    pub back_turn : MarksRejoined k1 k2 → left ≤ setup.rate → FinishesRebuild before mid j back h lo d → ParksBack mid told_then back k2 h lo d → Ran told told_then (GoesOn k.slots setup p Tick (report p.state left (Rebuilt d)).0 (StandsAt told_then k2 setup))
    back_turn marks few_left finish park = by_finish finish
      where
        none_out2 : k2.meta.out ≡ No
        none_out2 = ap (λ (m : Meta). m.out) marks.is

        none_out : ParksBack mid told_then back k2 h lo d → back.meta.out ≡ No
        none_out (stays under told_is is) = ap (λ (z : Service). z.meta.out) (sym is) ∙ none_out2
        none_out (parks past_gear past_rise slots meta_is ran) = ap (λ (m : Meta). m.out) (sym meta_is) ∙ none_out2
        none_out (fails past_gear past_rise slots meta_is ran) = absurd (let z : No ≡ Gone d = sym none_out2 ∙ ap (λ (m : Meta). m.out) meta_is in cc)

        turn : (bound : ℕ) → bound ≤ 2 ^ 20 → Ran told told_then (EndsFrom k1 k2 h lo bound d) → Ran told told_then (GoesOn k.slots setup p Tick (report p.state left (Rebuilt d)).0 (StandsAt told_then k2 setup))
        turn bound le ran = ends_turn bound le k2 told_then counts2 few_left none_out2 (back_state told k k1 setup p at d rebuilt is_fresh counts fit bound le k2 counts2 marks) ran

        by_park : back.batch ≡ [] → Ran told mid (BackFrom k1 back h lo up_to d) → ParksBack mid told_then back k2 h lo d → Ran told told_then (GoesOn k.slots setup p Tick (report p.state left (Rebuilt d)).0 (StandsAt told_then k2 setup))
        by_park nothing from (stays under told_is is) = turn up_to (omega (arith, few))
            (subst (λ (z : Service). Ran told told_then (EndsFrom k1 z h lo up_to d)) (sym is) (subst (λ (o : Option Trail). Ran told o (EndsFrom k1 back h lo up_to d)) (sym told_is)
            (ran_then (BackFrom k1 back h lo up_to d) (EndsFrom k1 back h lo up_to d) (λ s cs x. ends_spinning k1 back h lo up_to d (none_out park) under s cs x) told mid from)))
        by_park nothing from (parks past_gear past_rise slots meta_is ran) = turn (up_to + 0) (omega (arith, few))
            (ran_both (BackFrom k1 back h lo up_to d) (ParksInEvent back k2 h lo d true) (EndsFrom k1 k2 h lo (up_to + 0) d)
            (λ s cs ds x y. ends_parked k1 back k2 h lo up_to d true nothing (none_out park) past_gear past_rise slots meta_is s cs ds x y) told mid told_then from ran)
        by_park nothing from (fails past_gear past_rise slots meta_is ran) = absurd (let z : No ≡ Gone d = sym none_out2 ∙ ap (λ (m : Meta). m.out) meta_is in cc)

        by_finish : FinishesRebuild before mid j back h lo d → Ran told told_then (GoesOn k.slots setup p Tick (report p.state left (Rebuilt d)).0 (StandsAt told_then k2 setup))
        by_finish (copying gone absent ran) = absurd (let z : No ≡ Gone d = sym (none_out park) ∙ gone in cc)
        by_finish (committing m copied joined rejoins commits) = by_park commits.nothing_staged (back_told told before mid k1 j back h lo most d steps m copied joined rejoins commits) park

  module _ (before told_then : Option Trail) (j : Service) (most : ℕ) (few : most + 1 ≤ 2 ^ 20) (steps : Ran told before (StepsInEvent k1 j h lo most)) where
    -- a second disk is lost
    pub finish_loses_turn : (two : Two) → LosesFinishing before told_then j h lo d two → Ran told told_then (GoesOn k.slots setup p Tick (Halted (HaltTwo two)) (IsHaltedWith p (HaltTwo two) k1.energy))
    finish_loses_turn two loses = rebuild_loses told k k1 setup p at d rebuilt is_fresh counts fit (most + (0 + 1)) (omega (arith, few)) two told_then (loses_told told before told_then k1 j k1 h lo most d steps named1 two loses)
