-- What is told where a second disk is lost as a shift begins or ends.
use Rattle.std.specs.Prelude.{◌≡◌, ℕ, ◌+◌, Bool, true, false, List, [], ◌∷◌, Option, Some}
use Rattle.std.proofs.Common.{refl, sym, ◌∙◌, ap, subst, arith, inl}
use Rattle.paraid_base.specs.declared.fault.Two.{Two}
use Rattle.paraid_base.specs.declared.state.Out.TheVariants.{Gone, No}
use Rattle.paraid_base.specs.declared.state.Phase.TheVariants.{Steady, Up}
use Rattle.paraid_base.specs.History.{History}
use Rattle.paraid_base.specs.States.{named_out, rising_to}
use Rattle.paraid_rack.specs.declared.call.Call.{Call}
use Rattle.paraid_rack.specs.declared.call.Call.TheVariants.{Park, SpinUp}
use Rattle.paraid_rack.specs.declared.call.Power.{Power}
use Rattle.paraid_rack.specs.declared.call.Power.TheVariants.{Parked, Spinning}
use Rattle.paraid_rack.specs.Calls.{disk_of, is_done}
use Rattle.paraid_rack.specs.Disks.{Disks, is_present, power_after, step}
use Rattle.paraid_rack.specs.Slots.{Agrees, Slot}
use Rattle.paraid_rack.specs.Told.{CrashTriple, Ran}
use Rattle.paraid_rack.specs.Trail.{Trail, now, run}
use Rattle.paraid_rack.proofs.AtomsLemmas.{with_at_same}
use Rattle.paraid_rack.proofs.TrailsLemmas.{Ran-none, now-extend}
use Rattle.paraid_record.specs.declared.meta.Meta.{Meta}
use Rattle.paraid_image.specs.Lost.{BearsLoss, TellsLosses}
use Rattle.paraid_image.proofs.LostLemmas.{bears_done, bears_failed, bears_none, ran_bears, ran_tells}
use Rattle.paraid_moves.specs.MoveMetas.{meta_after_begin}
use Rattle.paraid_txn.specs.Stores.{named_of, store_rack}
use Rattle.paraid_core.specs.declared.staged.Core.{Core}
use Rattle.paraid_core.specs.Calls.{CommitsWhole, IsOneCall, MakesTransferCalls}
use Rattle.paraid_core.specs.Cores.{CoreStandsFor, IsCoreHeldSinceCommit, core_down}
use Rattle.paraid_core.specs.Lost.{CoreTellsLosses}
use Rattle.paraid_core.specs.Steps.{IsMarkedFrom}
use Rattle.paraid_core.proofs.OrderLemmas.{down_is_named}
use Rattle.paraid_event.specs.Lost.{TellsTwo}
use Rattle.paraid_event.specs.Parts.{LosesInEvent}
use Rattle.paraid_event.specs.Service.{Service, service_of}
use Rattle.paraid_event.specs.Stands.{ServiceStandsFor}
use Rattle.paraid_event.specs.Steps.{LosesInSteps, LosesPowered, MarksInMemory, ServesMarked, StepsInEvent, StepsToMark}
use Rattle.paraid_event.proofs.GivenLemmas.{commit_loses}
use Rattle.paraid_event.proofs.GivenStepLemmas.{powers_lost_shown}
use Rattle.paraid_event.proofs.ShiftMarkLemmas.{up_mark}
use Rattle.paraid_event.proofs.StepLemmas.{ran_both, ran_end, ran_three}
use Rattle.paraid_event.proofs.StepMarkLemmas.{again_steps, commit_loses_steps, mark_steps, powered_loses}
use Rattle.paraid_shift.specs.Losing.{CoreBearsLoss, LosesMark, LosesUp}
use Rattle.paraid_event.specs.CoreServing.{IsHeldFromRest}
use Rattle.paraid_shift.specs.Steps.{CommitsMark, CoreLosesInSteps, CoreStepsToMark, EndsLosing, MakesPowerCalls, OpensUp}
use Rattle.paraid_shift.proofs.PowersLemmas.{mark_service}
use Rattle.paraid_event.proofs.CoreServingLemmas.{marked_named}
use Rattle.paraid_shift.proofs.StepsLemmas.{core_steps_none, mark_stands}

-- One disk is spun up or parked.

same_disk : (x d : ℕ) → Some x ≡ Some d → x ≡ d
same_disk x d is = cc

left_there : (power : Power) → is_present power ≡ true → (done : Bool) → is_present (power_after done power) ≡ done
left_there power there true = there
left_there power there false = refl

spun_there : (d : ℕ) (s : Disks) (done : Bool) → is_present ((step (SpinUp d done) s).power d) ≡ done
unfolding step
spun_there d s done = ap is_present (with_at_same s.power d (power_after done Spinning) d refl) ∙ left_there Spinning refl done

parked_there : (d : ℕ) (s : Disks) (done : Bool) → is_present ((step (Park d done) s).power d) ≡ done
unfolding step
parked_there d s done = ap is_present (with_at_same s.power d (power_after done Parked) d refl) ∙ left_there Parked refl done

-- The call on a disk, which is there after it if the call was done, and is named out if it failed.
module _ (call : Bool → Call) (d : ℕ) (done_is : (done : Bool) → is_done (call done) ≡ done) (disk_is : (done : Bool) → disk_of (call done) ≡ d) (there : (s : Disks) (done : Bool) → is_present ((step (call done) s).power d) ≡ done) where
  call_bears : (m n : Meta) (ok done : Bool) → IsMarkedFrom m n → (ok ≡ true → n ≡ m) → (ok ≡ false → n.out ≡ Gone d) → done ≡ ok → BearsLoss (named_out m.out) (named_out n.out) (call done ∷ [])
  call_bears m n ok true marked same gone is =
      subst (λ (o : Option ℕ). BearsLoss (named_out m.out) o (call true ∷ [])) (ap (λ (z : Meta). named_out z.out) (sym (same (sym is)))) (bears_done (named_out m.out) (call true) (done_is true))
  call_bears m n ok false marked same gone is =
      let now_out : named_out n.out ≡ Some d = ap named_out (gone (sym is)) in
      bears_failed (named_out m.out) (named_out n.out) (call false) (done_is false) (now_out ∙ ap Some (sym (disk_is false)))
      (λ x was. same_disk x d (sym (marked_named m n marked x was) ∙ now_out) ∙ sym (disk_is false))

  turn_bears : (old new : Option Trail) (slot : ℕ → Slot) (m n : Meta) (ok : Bool) → ((t : Trail) → new ≡ Some t → Agrees (now t) slot) → is_present (slot d).power ≡ ok → IsMarkedFrom m n → (ok ≡ true → n ≡ m) → (ok ≡ false → n.out ≡ Gone d)
      → Ran old new (IsOneCall call) → Ran old new (λ s cs. BearsLoss (named_out m.out) (named_out n.out) cs)
  turn_bears old new slot m n ok agrees here marked same gone ran t tells =
      let r = ran t tells in
      let one = r.holds in
      let end : now t ≡ step (call one.0) (now r.from) = ap now r.is ∙ now-extend r.from r.calls ∙ ap (run (now r.from)) one.1 in
      let is : one.0 ≡ ok = sym (there (now r.from) one.0) ∙ ap (λ (s : Disks). is_present (s.power d)) (sym end) ∙ ap is_present ((agrees t tells).power d) ∙ here in
      record {
        from = r.from;
        was = r.was;
        calls = r.calls;
        is = r.is;
        holds = subst (BearsLoss (named_out m.out) (named_out n.out)) (sym one.1) (call_bears m n ok one.0 marked same gone is);
      }

module _ (d : ℕ) (old new : Option Trail) (slot : ℕ → Slot) (m n : Meta) (ok : Bool) (agrees : (t : Trail) → new ≡ Some t → Agrees (now t) slot) (here : is_present (slot d).power ≡ ok) (marked : IsMarkedFrom m n) (same : ok ≡ true → n ≡ m) (gone : ok ≡ false → n.out ≡ Gone d) where
  pub spun_bears : Ran old new (IsOneCall (λ done. SpinUp d done)) → Ran old new (λ s cs. BearsLoss (named_out m.out) (named_out n.out) cs)
  spun_bears ran = turn_bears (λ done. SpinUp d done) d (λ done. refl) (λ done. refl) (λ s done. spun_there d s done) old new slot m n ok agrees here marked same gone ran

  pub parked_bears : Ran old new (IsOneCall (λ done. Park d done)) → Ran old new (λ s cs. BearsLoss (named_out m.out) (named_out n.out) cs)
  parked_bears ran = turn_bears (λ done. Park d done) d (λ done. refl) (λ done. refl) (λ s done. parked_there d s done) old new slot m n ok agrees here marked same gone ran

module _ {R : Type 0} {g : _} (count : R → ℕ) (slot : R → ℕ → Slot) (told : R → Option Trail) where
  -- Disks are spun up or parked one after the other.

  pub core_bears_none : (a : Core R g) → CoreBearsLoss told a a
  core_bears_none a = Ran-none (λ s cs. BearsLoss (named_out a.meta.out) (named_out a.meta.out) cs) (λ s. bears_none (named_out a.meta.out)) (told (store_rack a.store))

  pub core_bears_then : (a b c : Core R g) → CoreBearsLoss told a b → CoreBearsLoss told b c → CoreBearsLoss told a c
  core_bears_then a b c first second = ran_bears (named_out a.meta.out) (named_out b.meta.out) (named_out c.meta.out) (told (store_rack a.store)) (told (store_rack b.store)) (told (store_rack c.store)) first second

  pub core_tells_after : (a b c : Core R g) (two : Two) → CoreBearsLoss told a b → CoreTellsLosses told (named_out b.meta.out) b c two → CoreTellsLosses told (named_out a.meta.out) a c two
  core_tells_after a b c two first second = ran_tells (named_out a.meta.out) (named_out b.meta.out) two (told (store_rack a.store)) (told (store_rack b.store)) (told (store_rack c.store)) first second

  -- what is told of them where a second one is lost
  pub powers_are_lost : (b n : Core R g) (two : Two) → b.batch ≡ [] → MakesPowerCalls told b n → IsHeldFromRest count told b n → CoreTellsLosses told (named_out b.meta.out) b n two
      → (h : History) (lo : ℕ) (samples : List ℕ) (served energy : ℕ) → Ran (told (store_rack b.store)) (told (store_rack n.store)) (λ s cs. LosesPowered (service_of count b samples served energy) h lo s cs × TellsTwo (service_of count b samples served energy) two s cs)
  powers_are_lost b n two nothing calls held tells h lo samples served energy =
      let k = service_of count b samples served energy in
      powers_lost_shown (told (store_rack b.store)) (told (store_rack n.store)) k h lo (named_of b.store) (λ d is. inl is) (TellsTwo k two) nothing calls (held h lo) tells

  -- Commits.

  -- what is told of one in which a second disk is lost
  pub commit_is_lost : (b n : Core R g) (two : Two) → MakesTransferCalls told b n → CommitsWhole count told b n
      → ((h : History) (lo : ℕ) → Ran (told (store_rack b.store)) (told (store_rack n.store)) (CrashTriple (IsCoreHeldSinceCommit count b h lo) (CoreStandsFor count b h lo) (IsCoreHeldSinceCommit count b h lo)))
      → ((d : ℕ) → named_of b.store ≡ Some d → named_out b.meta.out ≡ Some d) → CoreTellsLosses told (core_down b) b n two
      → (h : History) (lo : ℕ) (samples : List ℕ) (served energy : ℕ) → Ran (told (store_rack b.store)) (told (store_rack n.store)) (λ s cs. LosesInEvent (service_of count b samples served energy) h lo s cs × TellsTwo (service_of count b samples served energy) two s cs)
  commit_is_lost b n two calls whole held stays tells h lo samples served energy =
      let k = service_of count b samples served energy in
      commit_loses (told (store_rack b.store)) (told (store_rack n.store)) k k h lo h lo (named_of b.store) (λ d is. inl is) (TellsTwo k two) calls (held h lo) (whole h lo)
      (subst (λ (o : Option ℕ). Ran (told (store_rack b.store)) (told (store_rack n.store)) (λ s cs. TellsLosses o two cs)) (down_is_named (named_of b.store) (named_out b.meta.out) stays) tells)

  -- of one that is to bring marks, after parts of an event
  pub marks_lost : (a b n : Core R g) (powers : Meta) (most : ℕ) (two : Two) → CoreStepsToMark count told a b powers most
      → ((h : History) (lo : ℕ) (samples : List ℕ) (served energy : ℕ) → Ran (told (store_rack b.store)) (told (store_rack n.store)) (λ s cs. LosesInEvent (service_of count b samples served energy) h lo s cs × TellsTwo (service_of count b samples served energy) two s cs))
      → CoreLosesInSteps count told a n (most + 1) two
  marks_lost a b n powers most two first second h lo samples served energy =
      let k = service_of count a samples served energy in
      let j = service_of count b samples served energy in
      ran_both (StepsToMark k j powers h lo most) (λ s cs. LosesInEvent j h lo s cs × TellsTwo j two s cs) (LosesInSteps k h lo (most + 1) two)
      (λ s cs ds x y. commit_loses_steps k j powers h lo most s cs ds x two y) (told (store_rack a.store)) (told (store_rack b.store)) (told (store_rack n.store))
      (first h lo samples served energy) (second h lo samples served energy)

  -- and as it is seen from before the marks
  pub mark_is_lost : (a b n : Core R g) (m : Meta) (two : Two) → b.store ≡ a.store → b.meta ≡ m → b.dirty ≡ a.dirty → b.batch ≡ a.batch → b.copied ≡ a.copied
      → ((h : History) (lo : ℕ) → Ran (told (store_rack a.store)) (told (store_rack b.store)) (CrashTriple (IsCoreHeldSinceCommit count a h lo) (CoreStandsFor count a h lo) (CoreStandsFor count b h lo)))
      → ((h : History) (lo : ℕ) (samples : List ℕ) (served energy : ℕ) → Ran (told (store_rack b.store)) (told (store_rack n.store)) (λ s cs. LosesInEvent (service_of count b samples served energy) h lo s cs × TellsTwo (service_of count b samples served energy) two s cs))
      → LosesMark count told a n m two
  mark_is_lost a b n m two store meta table batch copied marks lost =
      let same : told (store_rack b.store) ≡ told (store_rack a.store) = ap (λ (z : _). told (store_rack z)) store in
      record {
        stands = λ h lo samples served energy t tells holds.
            subst (λ (j : Service). ServiceStandsFor j h lo (now t)) (mark_service count a b m store meta table batch copied samples served energy)
            (mark_stands (IsCoreHeldSinceCommit count a h lo) (CoreStandsFor count a h lo) (CoreStandsFor count b h lo) (told (store_rack a.store)) (told (store_rack b.store)) same (marks h lo) t (same ∙ tells) holds);
        loses = λ h lo samples served energy.
            let j = record (service_of count a samples served energy) { meta = m } in
            subst (λ (z : Option Trail). Ran z (told (store_rack n.store)) (λ s cs. LosesInEvent j h lo s cs × TellsTwo j two s cs)) same
            (subst (λ (i : Service). Ran (told (store_rack b.store)) (told (store_rack n.store)) (λ s cs. LosesInEvent i h lo s cs × TellsTwo i two s cs))
            (mark_service count a b m store meta table batch copied samples served energy) (lost h lo samples served energy));
      }

  -- A shift up begins.

  -- a second disk is lost in its commit
  pub up_lost : (a n : Core R g) (to : ℕ) (two : Two) → a.meta.out ≡ No → LosesUp count told a n to two → CoreLosesInSteps count told a n 1 two
  up_lost a n to two whole lost h lo samples served energy =
      let k = service_of count a samples served energy in
      let j = record k { meta = meta_after_begin a.meta (Up to) lost.spins } in
      ran_both (StepsToMark k j a.meta h lo 0) (λ s cs. LosesInEvent j h lo s cs × TellsTwo j two s cs) (LosesInSteps k h lo 1 two)
      (λ s cs ds x y. commit_loses_steps k j a.meta h lo 0 s cs ds x two y) (told (store_rack a.store)) (told (store_rack a.store)) (told (store_rack n.store))
      (ran_end k j h lo (StepsInEvent k k h lo 0) (StepsToMark k j a.meta h lo 0) (λ s cs there x. mark_steps k k j (up_mark k j refl refl to lost.spins whole refl lost.raised lost.others) h lo 0 s cs there x) (told (store_rack a.store)) (told (store_rack a.store))
      (λ t tells holds. lost.loses.stands h lo samples served energy t tells holds) (core_steps_none count slot told a h lo samples served energy))
      (lost.loses.loses h lo samples served energy)

  -- or as the disks come up
  pub rise_lost : (a b n : Core R g) (to : ℕ) (two : Two) → a.meta.out ≡ No → OpensUp count told a b to → count (store_rack b.store) ≡ count (store_rack a.store) → b.meta.epoch ≡ a.meta.epoch + 1
      → ((h : History) (lo : ℕ) (samples : List ℕ) (served energy : ℕ) → Ran (told (store_rack b.store)) (told (store_rack n.store)) (λ s cs. LosesPowered (service_of count b samples served energy) h lo s cs × TellsTwo (service_of count b samples served energy) two s cs))
      → CoreLosesInSteps count told a n 1 two
  rise_lost a b n to two whole up slots more lost h lo samples served energy =
      let k = service_of count a samples served energy in
      let j = record k { meta = meta_after_begin a.meta (Up to) up.spins } in
      let opened = service_of count b samples served energy in
      ran_three (StepsToMark k j a.meta h lo 0) (ServesMarked j opened h lo lo) (λ s cs. LosesPowered opened h lo s cs × TellsTwo opened two s cs) (LosesInSteps k h lo 1 two)
      (λ s cs ds es x y z. powered_loses k j a.meta h lo 0 s cs ds x opened lo (omega arith) slots more whole (λ d from low. let one = up.raised d from low in omega (arith, one)) y two es z)
      (told (store_rack a.store)) (told (store_rack a.store)) (told (store_rack b.store)) (told (store_rack n.store))
      (ran_end k j h lo (StepsInEvent k k h lo 0) (StepsToMark k j a.meta h lo 0) (λ s cs there x. mark_steps k k j (up_mark k j refl refl to up.spins whole refl up.raised up.others) h lo 0 s cs there x) (told (store_rack a.store)) (told (store_rack a.store))
      (λ t tells holds. up.opens.stands h lo samples served energy t tells holds) (core_steps_none count slot told a h lo samples served energy))
      (up.opens.serves h lo samples served energy) (lost h lo samples served energy)

  -- A shift ends: its last marks wait.
  module _ (a : Core R g) (m : Meta) (mark : (samples : List ℕ) (served energy : ℕ) → MarksInMemory (service_of count a samples served energy) (record (service_of count a samples served energy) { meta = m })) where
    -- a second disk is lost in the commit of the gear
    pub flip_lost : (n : Core R g) (two : Two) → LosesMark count told a n m two → EndsLosing count told a n two
    flip_lost n two lost before k h lo most samples served energy first =
        let i = service_of count a samples served energy in
        let j = record i { meta = m } in
        ran_both (StepsToMark k j a.meta h lo most) (λ s cs. LosesInEvent j h lo s cs × TellsTwo j two s cs) (LosesInSteps k h lo (most + 1) two)
        (λ s cs ds x y. commit_loses_steps k j a.meta h lo most s cs ds x two y) before (told (store_rack a.store)) (told (store_rack n.store))
        (ran_end i j h lo (StepsToMark k i a.meta h lo most) (StepsToMark k j a.meta h lo most) (λ s cs there x. again_steps k i j a.meta (mark samples served energy) h lo most s cs there x) before (told (store_rack a.store))
        (λ t tells holds. lost.stands h lo samples served energy t tells holds) first) (lost.loses h lo samples served energy)

    -- or as disks are parked
    pub park_lost : (b n : Core R g) (two : Two) → count (store_rack b.store) ≡ count (store_rack a.store) → b.meta.epoch ≡ m.epoch + 1 → m.out ≡ No → m.phase ≡ Steady → CommitsMark count told a b m
        → ((h : History) (lo : ℕ) (samples : List ℕ) (served energy : ℕ) → Ran (told (store_rack b.store)) (told (store_rack n.store)) (λ s cs. LosesPowered (service_of count b samples served energy) h lo s cs × TellsTwo (service_of count b samples served energy) two s cs))
        → EndsLosing count told a n two
    park_lost b n two slots more whole steady opens lost before k h lo most samples served energy first =
        let i = service_of count a samples served energy in
        let j = record i { meta = m } in
        let opened = service_of count b samples served energy in
        ran_three (StepsToMark k j a.meta h lo most) (ServesMarked j opened h lo lo) (λ s cs. LosesPowered opened h lo s cs × TellsTwo opened two s cs) (LosesInSteps k h lo (most + 1) two)
        (λ s cs ds es x y z. powered_loses k j a.meta h lo most s cs ds x opened lo (omega arith) slots more whole (λ d low high. absurd (let none = ap rising_to steady in omega (arith, none, high))) y two es z)
        before (told (store_rack a.store)) (told (store_rack b.store)) (told (store_rack n.store))
        (ran_end i j h lo (StepsToMark k i a.meta h lo most) (StepsToMark k j a.meta h lo most) (λ s cs there x. again_steps k i j a.meta (mark samples served energy) h lo most s cs there x) before (told (store_rack a.store))
        (λ t tells holds. opens.stands h lo samples served energy t tells holds) first) (opens.serves h lo samples served energy) (lost h lo samples served energy)
