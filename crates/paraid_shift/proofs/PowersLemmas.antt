-- Disks that are parked as a shift ends, as a part of an event.
use Rattle.paraid_core.specs.Calls.{IsOneCall}
use Rattle.paraid_session.specs.Watch.{Watch, down_from_out, fails_on, nobody}
use Rattle.paraid_recover.proofs.DownLemmas.{watched_disks}
use Rattle.paraid_event.proofs.PowerLemmas.{power_below, power_failed}
use Rattle.paraid_event.proofs.ServingLemmas.{spins_once, spins_then}
use Rattle.paraid_event.specs.Powering.{ArePowerCalls, SpinsWhileServing}
use Rattle.std.specs.Prelude.{◌≡◌, ◌≢◌, ℕ, ◌+◌, ◌<◌, ◌≤◌, ◌⊎◌, ◌||◌, nat_lt, if◌then◌else◌, true, false, Bool, List, [], Option, Some, None, ◌++◌}
use Rattle.std.proofs.Common.{refl, sym, ◌∙◌, ap, subst, arith, inl, inr}
use Rattle.std.proofs.lemmas.Bool.{cases_Bool, cases_lt}
use Rattle.std.proofs.lemmas.Bool.Decides.{nat_tests}
use Rattle.paraid_base.specs.declared.state.Out.TheVariants.{Fresh, Gone, No}
use Rattle.paraid_base.specs.declared.state.Phase.{Phase}
use Rattle.paraid_base.specs.declared.state.Phase.TheVariants.{Down, Steady, Up}
use Rattle.paraid_base.specs.History.{History}
use Rattle.paraid_base.specs.States.{named_out, phase_beside, phase_to, rising_to}
use Rattle.paraid_rack.specs.declared.call.Power.{Power}
use Rattle.paraid_rack.specs.declared.call.Power.TheVariants.{Parked, Spinning}
use Rattle.paraid_rack.specs.declared.call.Call.{Call}
use Rattle.paraid_rack.specs.declared.call.Call.TheVariants.{Attach, Park, Read, SpinUp, Sync, Write}
use Rattle.paraid_rack.specs.Disks.{Disks, is_present}
use Rattle.paraid_rack.specs.Slots.{Agrees, Slot}
use Rattle.paraid_rack.specs.Told.{CrashTriple, Ran}
use Rattle.paraid_rack.specs.Trail.{Trail, now, run, extend}
use Rattle.paraid_rack.proofs.TrailsLemmas.{now-extend, Ran-none, extend-extend}
use Rattle.paraid_record.specs.declared.meta.Meta.{Meta}
use Rattle.paraid_record.specs.declared.meta.Setup.{Setup}
use Rattle.paraid_image.specs.Mark.{meta_after_loss, meta_with_lost}
use Rattle.paraid_image.specs.Power.{power_by_gear}
use Rattle.paraid_image.specs.Sides.{Batch}
use Rattle.paraid_recover.specs.Powers.{IsPowerCall}
use Rattle.paraid_txn.specs.Stores.{named_of, store_rack}
use Rattle.paraid_txn.specs.Uses.{EachCall}
use Rattle.paraid_core.specs.declared.staged.Core.{Core}
use Rattle.paraid_core.specs.CoreInvariant.{HoldsBetweenCalls}
use Rattle.paraid_core.specs.Cores.{IsCoreHeldSinceCommit, IsCoreReady}
use Rattle.paraid_core.specs.Steps.{IsMarkedFrom, OnlyPowersDisks}
use Rattle.paraid_core.proofs.CommitLemmas.{both_of}
use Rattle.paraid_core.proofs.KindLemmas.{calls_milder, calls_are, calls_then, one_is_each}
use Rattle.paraid_core.proofs.StepLemmas.{marked_from_setup}
use Rattle.paraid_event.specs.Marks.{ArePoweredByGear, IsMarkedBy}
use Rattle.paraid_event.specs.Service.{Service, service_of}
use Rattle.paraid_event.specs.Steps.{MarksInMemory, PowersFrom, ServesMarked, StepsInEvent, StepsToMark}
use Rattle.paraid_event.proofs.StepLemmas.{ran_end, ran_three}
use Rattle.paraid_event.proofs.StepMarkLemmas.{again_steps, powered_steps}
use Rattle.paraid_record.specs.Range.{IsInRange, IsPhaseInRange}
use Rattle.paraid_event.proofs.ShiftMarkLemmas.{up_powers}
use Rattle.paraid_event.proofs.ShownLemmas.{shown_rests}
use Rattle.paraid_event.specs.CoreServing.{RestsInShift, StaysAtRest}
use Rattle.paraid_shift.specs.Steps.{CommitsMark, MakesPowerCalls, MarksPowered}
use Rattle.paraid_event.proofs.CoreServingLemmas.{marked_gear, marked_named}

-- nothing was called
pub powered_none : (slot : ℕ → Slot) (m : Meta) → MarksPowered slot m m
powered_none slot m = record {
  lost = None;
  is = refl;
  disk = λ d is. let z : None ≡ Some d = is in absurd cc;
  alone = λ d x is k. let z : None ≡ Some d = is in absurd cc;
  absent = λ d is. let z : None ≡ Some d = is in absurd cc;
}

pub powered_same : (slot : ℕ → Slot) (m n : Meta) → n ≡ m → MarksPowered slot m n
powered_same slot m n same = subst (MarksPowered slot m) (sym same) (powered_none slot m)

-- a park of a disk that the gear does not need
pub park_is : (m : Meta) (d : ℕ) (done : Bool) → m.phase ≡ Steady → d < m.setup.geometry.disks → m.gear ≤ d → named_out m.out ≢ Some d → IsPowerCall m (Park d done)
park_is m d done steady low past not = (low, past, (let rises = ap rising_to steady in omega (arith, rises)), not)

-- a spin-up of a disk that comes up
pub spin_is : (m : Meta) (d : ℕ) (done : Bool) → d < m.setup.geometry.disks → m.gear ≤ d → d < rising_to m.phase → named_out m.out ≢ Some d → IsPowerCall m (SpinUp d done)
spin_is m d done low past rises not = (low, past, rises, not)

-- one disk, which failed
pub powered_lost : (slot : ℕ → Slot) (m n : Meta) (disk : ℕ) → IsMarkedFrom m n → disk < m.setup.geometry.disks → named_out m.out ≢ Some disk → n.out ≡ Gone disk → is_present (slot disk).power ≡ false → MarksPowered slot m n
powered_lost slot m n disk marked low not gone away = by marked.lost refl
  where
    by : (o : Option ℕ) → marked.lost ≡ o → MarksPowered slot m n
    by None e =
        let same : n ≡ m = marked.is ∙ ap (λ (o : Option ℕ). meta_with_lost o m) e in
        absurd (not (ap (λ (z : Meta). named_out z.out) (sym same) ∙ ap named_out gone))
    by (Some d) e =
        let is : n ≡ meta_after_loss m d = marked.is ∙ ap (λ (o : Option ℕ). meta_with_lost o m) e in
        let both : Some d ≡ Some disk = ap (λ (z : Meta). named_out z.out) (sym is) ∙ ap named_out gone in
        let here : d ≡ disk = cc in
        record {
          lost = Some d;
          is = is;
          disk = λ x k. let z : Some d ≡ Some x = k in let at : d ≡ x = cc in subst (λ (y : ℕ). y < m.setup.geometry.disks) (sym here ∙ at) low;
          alone = λ x y k named. let z : Some d ≡ Some x = k in let at : d ≡ x = cc in marked.alone d y e named ∙ at;
          absent = λ x k. let z : Some d ≡ Some x = k in let at : d ≡ x = cc in subst (λ (y : ℕ). is_present (slot y).power ≡ false) (sym here ∙ at) away;
        }

lost_twice : (p : Phase) → phase_beside true (phase_beside true p) ≡ phase_beside true p
lost_twice Steady = refl
lost_twice (Down to) = refl
lost_twice (Up to) = refl

-- one after the other
pub powered_then : (a b : ℕ → Slot) (m n o : Meta) → MarksPowered a m n → OnlyPowersDisks a b → n.setup ≡ m.setup → MarksPowered b n o → MarksPowered b m o
powered_then a b m n o first turned setup second = by first.lost second.lost refl refl
  where
    away : (d : ℕ) → is_present (a d).power ≡ false → is_present (b d).power ≡ false
    away d gone = elim (cases_Bool (is_present (b d).power)) [
      | inl here ↦ (let z : true ≡ false = sym (turned.there d here) ∙ gone in absurd cc)
      | inr not ↦ not
    ]

    by : (p q : Option ℕ) → first.lost ≡ p → second.lost ≡ q → MarksPowered b m o
    by None q ep eq =
        let same : n ≡ m = first.is ∙ ap (λ (x : Option ℕ). meta_with_lost x m) ep in
        record {
          lost = second.lost;
          is = second.is ∙ ap (meta_with_lost second.lost) same;
          disk = λ d is. subst (λ (z : Setup). d < z.geometry.disks) setup (second.disk d is);
          alone = λ d x is k. second.alone d x is (ap (λ (z : Meta). named_out z.out) same ∙ k);
          absent = second.absent;
        }
    by (Some d) None ep eq = record {
      lost = first.lost;
      is = second.is ∙ ap (λ (x : Option ℕ). meta_with_lost x n) eq ∙ first.is;
      disk = first.disk;
      alone = first.alone;
      absent = λ x is. away x (first.absent x is);
    }
    by (Some d) (Some e) ep eq =
        let mid : n ≡ meta_after_loss m d = first.is ∙ ap (λ (x : Option ℕ). meta_with_lost x m) ep in
        let same : d ≡ e = second.alone e d eq (ap (λ (z : Meta). named_out z.out) mid) in
        record {
          lost = first.lost;
          is = second.is ∙ ap (λ (x : Option ℕ). meta_with_lost x n) eq ∙ ap (λ (z : Meta). meta_after_loss z e) mid
              ∙ ap (λ (p : Phase). record m { out = Gone e; phase = p; fill = 0 }) (lost_twice m.phase) ∙ ap (λ (x : ℕ). meta_after_loss m x) (sym same) ∙ sym (ap (λ (x : Option ℕ). meta_with_lost x m) ep);
          disk = first.disk;
          alone = first.alone;
          absent = λ x is. away x (first.absent x is);
        }

pub rises_same : (m n : Meta) → IsMarkedFrom m n → rising_to n.phase ≡ rising_to m.phase
rises_same m n marked = ap (λ (z : Meta). rising_to z.phase) marked.is ∙ by marked.lost m.phase
  where
    kept : (p : Phase) → rising_to (phase_beside true p) ≡ rising_to p
    kept Steady = refl
    kept (Down to) = refl
    kept (Up to) = refl

    by : (o : Option ℕ) (p : Phase) → rising_to (meta_with_lost o m).phase ≡ rising_to m.phase
    by None p = refl
    by (Some d) p = kept m.phase

-- a call by a later meta is one by the first
power_call : (m n : Meta) → IsMarkedFrom m n → (c : Call) → IsPowerCall n c → IsPowerCall m c
power_call m n marked (Read d p done) is = absurd is
power_call m n marked (Write d p b done) is = absurd is
power_call m n marked (Sync d done) is = absurd is
power_call m n marked (Park d done) is = (
  subst (λ (z : Setup). d < z.geometry.disks) (marked_from_setup m n marked) is.0,
  (let g = marked_gear m n marked in let low = is.1 in omega (arith, g, low)),
  (let r = rises_same m n marked in let low = is.2 in omega (arith, r, low)),
  λ k. is.3 (marked_named m n marked d k),
)
power_call m n marked (SpinUp d done) is = (
  subst (λ (z : Setup). d < z.geometry.disks) (marked_from_setup m n marked) is.0,
  (let g = marked_gear m n marked in let low = is.1 in omega (arith, g, low)),
  (let r = rises_same m n marked in let high = is.2 in omega (arith, r, high)),
  λ k. is.3 (marked_named m n marked d k),
)
power_call m n marked (Attach d size done) is = absurd is

pub power_calls_after : (m n : Meta) → IsMarkedFrom m n → (old new : Option Trail) → Ran old new (EachCall (IsPowerCall n)) → Ran old new (EachCall (IsPowerCall m))
power_calls_after m n marked old new ran = calls_milder (IsPowerCall n) (IsPowerCall m) (power_call m n marked) old new ran

-- no call
pub power_calls_none : (m : Meta) (told : Option Trail) → Ran told told (ArePowerCalls m)
power_calls_none m told = Ran-none (ArePowerCalls m) (λ s. (tt, tt)) told

-- one call
pub power_calls_one : (call : Bool → Call) (m : Meta) → ((done : Bool) → IsPowerCall m (call done)) → (old new : Option Trail) → Ran old new (IsOneCall call) → Ran old new (ArePowerCalls m)
power_calls_one call m is old new ran =
    let Spins : Disks → List Call → Type 0 = (λ s cs. SpinsWhileServing (down_from_out (named_out m.out)) cs) in
    both_of (EachCall (IsPowerCall m)) Spins old new (one_is_each call (IsPowerCall m) is old new ran)
    (calls_are (IsOneCall call) Spins (λ s cs one. subst (SpinsWhileServing (down_from_out (named_out m.out))) (sym one.1) (spins_once (named_out m.out) (call one.0))) old new ran)

-- One part after another: a disk that fails in the first is absent after it, so it is the one that is out then.
module _ {R : Type 0} {g : _} (count : R → ℕ) (slot : R → ℕ → Slot) (told : R → Option Trail) (a b c : Core R g) (agrees : (t : Trail) → told (store_rack b.store) ≡ Some t → Agrees (now t) (slot (store_rack b.store))) (ready : IsCoreReady count slot b) (marked : IsMarkedFrom a.meta b.meta)
    (first : MakesPowerCalls told a b) (second : MakesPowerCalls told b c) where
  abbrev SpinsServing : Disks → List Call → Type 0
  SpinsServing s cs = SpinsWhileServing (down_from_out (named_out a.meta.out)) cs

  failed_out : (from there : Trail) (cs : List Call) (e : ℕ) → told (store_rack b.store) ≡ Some there → now there ≡ run (now from) cs → EachCall (IsPowerCall a.meta) (now from) cs → fails_on e cs ≡ true → named_out b.meta.out ≡ Some e
  failed_out from there cs e tells is each failed =
      let w : Watch = record { disks = now from; down = nobody; spun = λ d. 0; awaited = None } in
      let gone : is_present ((now there).power e) ≡ false = ap (λ (s : Disks). is_present (s.power e)) (is ∙ sym (watched_disks w cs)) ∙ power_failed a.meta w cs e each failed in
      ready.absent e (subst (λ (z : Setup). e < z.geometry.disks) (sym (marked_from_setup a.meta b.meta marked)) (power_below a.meta (now from) cs e each failed))
      (sym (ap is_present ((agrees there tells).power e)) ∙ gone)

  spins_both : Ran (told (store_rack a.store)) (told (store_rack c.store)) SpinsServing
  spins_both t tells =
      let y = second t tells in
      let x = first y.from y.was in
      let from : now y.from ≡ run (now x.from) x.calls = ap now x.is ∙ now-extend x.from x.calls in
      record {
        from = x.from;
        was = x.was;
        calls = x.calls ++ y.calls;
        is = y.is ∙ ap (λ (u : Trail). extend u y.calls) x.is ∙ extend-extend x.from x.calls y.calls;
        holds = spins_then (named_out a.meta.out) (named_out b.meta.out) (now x.from) x.calls y.calls (λ d named. marked_named a.meta b.meta marked d named)
            (λ e failed. failed_out x.from y.from x.calls e y.was from x.holds.0 failed) x.holds.1 y.holds.1;
      }

  pub power_calls_then : MakesPowerCalls told a c
  power_calls_then =
      both_of (EachCall (IsPowerCall a.meta)) SpinsServing (told (store_rack a.store)) (told (store_rack c.store))
      (calls_then (IsPowerCall a.meta) (told (store_rack a.store)) (told (store_rack b.store)) (told (store_rack c.store))
      (calls_are (ArePowerCalls a.meta) (EachCall (IsPowerCall a.meta)) (λ s cs x. x.0) (told (store_rack a.store)) (told (store_rack b.store)) first)
      (power_calls_after a.meta b.meta marked (told (store_rack b.store)) (told (store_rack c.store))
      (calls_are (ArePowerCalls b.meta) (EachCall (IsPowerCall b.meta)) (λ s cs x. x.0) (told (store_rack b.store)) (told (store_rack c.store)) second)))
      spins_both

-- the disks that the new gear needs, and those past the old one, are powered as before
pub flipped_powers : (m : Meta) (hi d : ℕ) → hi ≡ m.gear → 0 < phase_to m.phase → (d < phase_to m.phase) ⊎ (hi ≤ d) → ((to : ℕ) → m.phase ≡ Down to → to < m.gear) → ((to : ℕ) → m.phase ≡ Up to → m.gear < to)
    → power_by_gear m.gear m.phase d ≡ power_by_gear (phase_to m.phase) Steady d
flipped_powers m hi d is shifts place down up = by m.phase refl
  where
    lower : (a b : ℕ) → b < a → (d < b) ⊎ (a ≤ d) → (nat_lt d a || nat_lt d 0) ≡ (nat_lt d b || nat_lt d 0)
    lower a b less (inl low) = grind (arith, nat_tests)
    lower a b less (inr past) = grind (arith, nat_tests)

    by : (p : Phase) → m.phase ≡ p → power_by_gear m.gear m.phase d ≡ power_by_gear (phase_to m.phase) Steady d
    by Steady e = absurd (let z = ap phase_to e in omega (arith, z, shifts))
    by (Down to) e =
        ap (power_by_gear_of m.gear) e
        ∙ ap (λ (t : Bool). if t then Spinning else Parked) (lower m.gear to (down to e) (elim place [ inl low ↦ inl (let z = ap phase_to e in omega (arith, z, low)) | inr past ↦ inr (omega (arith, past, is)) ]))
        ∙ ap (λ (p : Phase). power_by_gear (phase_to p) Steady d) (sym e)
      where
        power_by_gear_of : ℕ → Phase → Power
        power_by_gear_of a p = power_by_gear a p d
    by (Up to) e = up_powers m to d e (let less = up to e in omega (arith, less)) ∙ ap (λ (p : Phase). power_by_gear (phase_to p) Steady d) (sym e)

none_of_parked : (to d : ℕ) → to ≤ d → Parked ≡ power_by_gear to Steady d
none_of_parked to d past = ap (λ (t : Bool). if t then Spinning else Parked) (by to d past)
  where
    by : (a b : ℕ) → a ≤ b → false ≡ (nat_lt b a || nat_lt b 0)
    by a b le = grind (arith, nat_tests)

pub not_fresh : (m n : Meta) → IsMarkedFrom m n → m.out ≡ No → (d u : ℕ) → n.out ≡ Fresh d u → ⊥
not_fresh m n marked whole d u fresh = by marked.lost refl
  where
    by : (o : Option ℕ) → marked.lost ≡ o → ⊥
    by None e = let z : No ≡ Fresh d u = sym whole ∙ sym (ap (λ (x : Meta). x.out) (marked.is ∙ ap (λ (o : Option ℕ). meta_with_lost o m) e)) ∙ fresh in absurd cc
    by (Some x) e = let z : Gone x ≡ Fresh d u = sym (ap (λ (y : Meta). y.out) (marked.is ∙ ap (λ (o : Option ℕ). meta_with_lost o m) e)) ∙ fresh in absurd cc

module _ {R : Type 0} {g : _} (count : R → ℕ) (slot : R → ℕ → Slot) (told : R → Option Trail) (b n : Core R g) (agrees : (t : Trail) → told (store_rack b.store) ≡ Some t → Agrees (now t) (slot (store_rack b.store)))
    (agrees_then : (t : Trail) → told (store_rack n.store) ≡ Some t → Agrees (now t) (slot (store_rack n.store))) (ready : IsCoreReady count slot n) (marked : IsMarkedFrom b.meta n.meta) (lost : MarksPowered (slot (store_rack n.store)) b.meta n.meta)
    (not_rebuilt : (d u : ℕ) → n.meta.out ≡ Fresh d u → ⊥) where
  told_marks : (t : Trail) → told (store_rack n.store) ≡ Some t → IsMarkedBy (now t).power b.meta n.meta
  told_marks t tells = record {
    lost = lost.lost;
    is = lost.is ∙ sym (ap (λ (z : Meta). record (meta_with_lost lost.lost b.meta) { epoch = z.epoch; writes = z.writes }) lost.is);
    disk = lost.disk;
    alone = lost.alone;
    absent = λ d is. ap is_present ((agrees_then t tells).power d) ∙ lost.absent d is;
    named = λ d low gone. ready.absent d (subst (λ (z : Setup). d < z.geometry.disks) (sym (marked_from_setup b.meta n.meta marked)) low) (ap is_present (sym ((agrees_then t tells).power d)) ∙ gone);
    fresh = λ d u is. absurd (not_rebuilt d u is);
  }

  -- Disks are parked from where the disks are powered by another meta.
  pub parks_are_powers : (powers : Meta) (hi : ℕ) → b.batch ≡ [] → n.batch ≡ [] → n.meta.phase ≡ Steady → MakesPowerCalls told b n → StaysAtRest count told b n
      → ((d : ℕ) → b.meta.gear ≤ d → d < hi → named_out n.meta.out ≢ Some d → (slot (store_rack n.store) d).power ≡ Parked)
      → ((d : ℕ) → (d < b.meta.gear) ⊎ (hi ≤ d) → slot (store_rack n.store) d ≡ slot (store_rack b.store) d)
      → ((d : ℕ) → (d < b.meta.gear) ⊎ (hi ≤ d) → power_by_gear powers.gear powers.phase d ≡ power_by_gear b.meta.gear Steady d)
      → (h : History) (lo : ℕ) (samples : List ℕ) (served energy : ℕ) → Ran (told (store_rack b.store)) (told (store_rack n.store)) (PowersFrom powers (service_of count b samples served energy) (service_of count n samples served energy) h lo)
  parks_are_powers powers hi nothing nothing_then steady calls rests parked others same h lo samples served energy t tells =
      let k = service_of count b samples served energy in
      let r = both_of (ArePowerCalls b.meta) (CrashTriple (IsCoreHeldSinceCommit count b h lo) (RestsInShift count b h lo) (RestsInShift count n h lo)) (told (store_rack b.store)) (told (store_rack n.store)) calls (rests h lo) t tells in
      let end : now t ≡ run (now r.from) r.calls = ap now r.is ∙ now-extend r.from r.calls in
      record {
        from = r.from;
        was = r.was;
        calls = r.calls;
        is = r.is;
        holds = λ z shows powered.
            let both = r.holds.1.goes (shown_rests k h lo (now r.from) z shows nothing) in (
              record { out = named_of b.store; is_out = λ d is. inl is; held = both.0; calls = r.holds.0.0; serving = r.holds.0.1 },
              record {
                keeps = subst (λ (x : Batch). HoldsBetweenCalls (count (store_rack n.store)) (named_of n.store) n.meta n.dirty x n.copied h lo (run (now r.from) r.calls)) (sym nothing_then) both.1.keeps;
                marks = subst (λ (s : Disks). IsMarkedBy s.power b.meta n.meta) end (told_marks t tells);
                powered = subst (λ (s : Disks). ArePoweredByGear s.power n.meta) end (record {
                  by_gear = λ d low not. (agrees_then t tells).power d ∙ at r.from r.was powered d (subst (λ (x : Setup). d < x.geometry.disks) (marked_from_setup b.meta n.meta marked) low) not ∙ by_new d;
                  fresh = λ d u is. absurd (not_rebuilt d u is);
                });
              },
            );
      }
    where
      by_new : (d : ℕ) → power_by_gear b.meta.gear Steady d ≡ power_by_gear n.meta.gear n.meta.phase d
      by_new d = ap (λ (x : ℕ). power_by_gear x Steady d) (sym (marked_gear b.meta n.meta marked)) ∙ ap (λ (p : Phase). power_by_gear n.meta.gear p d) (sym steady)

      at : (from : Trail) → told (store_rack b.store) ≡ Some from → ((d : ℕ) → d < b.meta.setup.geometry.disks → (named_out b.meta.out ≡ Some d → ⊥) → (now from).power d ≡ power_by_gear powers.gear powers.phase d) → (d : ℕ) → d < b.meta.setup.geometry.disks
          → named_out n.meta.out ≢ Some d → (slot (store_rack n.store) d).power ≡ power_by_gear b.meta.gear Steady d
      at from was powered d low not = elim (cases_lt d b.meta.gear) [
        | inl under ↦ still (inl under)
        | inr past ↦ elim (cases_lt d hi) [
          | inl within ↦ parked d past within not ∙ none_of_parked b.meta.gear d past
          | inr beyond ↦ still (inr beyond)
        ]
      ]
        where
          still : (d < b.meta.gear) ⊎ (hi ≤ d) → (slot (store_rack n.store) d).power ≡ power_by_gear b.meta.gear Steady d
          still place =
              ap (λ (x : Slot). x.power) (others d place) ∙ sym ((agrees from was).power d) ∙ powered d low (λ k. not (marked_named b.meta n.meta marked d k)) ∙ same d place

  -- Disks are powered by a meta from where they are powered by another one.
  pub turns_are_powers : (powers : Meta) (hi : ℕ) → b.batch ≡ [] → n.batch ≡ [] → MakesPowerCalls told b n → StaysAtRest count told b n
      → ((d : ℕ) → b.meta.gear ≤ d → d < hi → named_out n.meta.out ≢ Some d → (slot (store_rack n.store) d).power ≡ power_by_gear n.meta.gear n.meta.phase d)
      → ((d : ℕ) → (d < b.meta.gear) ⊎ (hi ≤ d) → slot (store_rack n.store) d ≡ slot (store_rack b.store) d)
      → ((d : ℕ) → (d < b.meta.gear) ⊎ (hi ≤ d) → power_by_gear powers.gear powers.phase d ≡ power_by_gear n.meta.gear n.meta.phase d)
      → (h : History) (lo : ℕ) (samples : List ℕ) (served energy : ℕ) → Ran (told (store_rack b.store)) (told (store_rack n.store)) (PowersFrom powers (service_of count b samples served energy) (service_of count n samples served energy) h lo)
  turns_are_powers powers hi nothing nothing_then calls rests inside others same h lo samples served energy t tells =
      let k = service_of count b samples served energy in
      let r = both_of (ArePowerCalls b.meta) (CrashTriple (IsCoreHeldSinceCommit count b h lo) (RestsInShift count b h lo) (RestsInShift count n h lo)) (told (store_rack b.store)) (told (store_rack n.store)) calls (rests h lo) t tells in
      let end : now t ≡ run (now r.from) r.calls = ap now r.is ∙ now-extend r.from r.calls in
      record {
        from = r.from;
        was = r.was;
        calls = r.calls;
        is = r.is;
        holds = λ z shows powered.
            let both = r.holds.1.goes (shown_rests k h lo (now r.from) z shows nothing) in (
              record { out = named_of b.store; is_out = λ d is. inl is; held = both.0; calls = r.holds.0.0; serving = r.holds.0.1 },
              record {
                keeps = subst (λ (x : Batch). HoldsBetweenCalls (count (store_rack n.store)) (named_of n.store) n.meta n.dirty x n.copied h lo (run (now r.from) r.calls)) (sym nothing_then) both.1.keeps;
                marks = subst (λ (s : Disks). IsMarkedBy s.power b.meta n.meta) end (told_marks t tells);
                powered = subst (λ (s : Disks). ArePoweredByGear s.power n.meta) end (record {
                  by_gear = λ d low not. (agrees_then t tells).power d ∙ at r.from r.was powered d (subst (λ (x : Setup). d < x.geometry.disks) (marked_from_setup b.meta n.meta marked) low) not;
                  fresh = λ d u is. absurd (not_rebuilt d u is);
                });
              },
            );
      }
    where
      at : (from : Trail) → told (store_rack b.store) ≡ Some from → ((d : ℕ) → d < b.meta.setup.geometry.disks → (named_out b.meta.out ≡ Some d → ⊥) → (now from).power d ≡ power_by_gear powers.gear powers.phase d) → (d : ℕ) → d < b.meta.setup.geometry.disks
          → named_out n.meta.out ≢ Some d → (slot (store_rack n.store) d).power ≡ power_by_gear n.meta.gear n.meta.phase d
      at from was powered d low not = elim (cases_lt d b.meta.gear) [
        | inl under ↦ still (inl under)
        | inr past ↦ elim (cases_lt d hi) [
          | inl within ↦ inside d past within not
          | inr beyond ↦ still (inr beyond)
        ]
      ]
        where
          still : (d < b.meta.gear) ⊎ (hi ≤ d) → (slot (store_rack n.store) d).power ≡ power_by_gear n.meta.gear n.meta.phase d
          still place =
              ap (λ (x : Slot). x.power) (others d place) ∙ sym ((agrees from was).power d) ∙ powered d low (λ k. not (marked_named b.meta n.meta marked d k)) ∙ same d place

-- the service of a core in which the meta is marked
pub mark_service : {R : Type 0} {g : _} (count : R → ℕ) (a b : Core R g) (m : Meta) → b.store ≡ a.store → b.meta ≡ m → b.dirty ≡ a.dirty → b.batch ≡ a.batch → b.copied ≡ a.copied → (samples : List ℕ) (served energy : ℕ)
    → service_of count b samples served energy ≡ record (service_of count a samples served energy) { meta = m }
mark_service count a b m store meta table batch copied samples served energy = λ i. record {
  slots = count (store_rack (store i));
  named = named_of (store i);
  meta = meta i;
  table = table i;
  batch = batch i;
  copied = copied i;
  samples = samples;
  served = served;
  energy = energy;
}

pub phase_down : (m : Meta) → IsInRange m → (to : ℕ) → m.phase ≡ Down to → to < m.gear
phase_down m range to is = (subst (IsPhaseInRange m.setup.geometry m.gear) is range.phase).below

pub phase_up : (m : Meta) → IsInRange m → (to : ℕ) → m.phase ≡ Up to → m.gear < to
phase_up m range to is = (subst (IsPhaseInRange m.setup.geometry m.gear) is range.phase).below

-- a shift ends: its last marks, the commit of the gear and the parks
pub flip_steps : {R : Type 0} {g : _} (count : R → ℕ) (told : R → Option Trail) (a b n : Core R g) (m : Meta) (k : Service) (before : Option Trail) (h : History) (lo most : ℕ) (samples : List ℕ) (served energy : ℕ)
    → MarksInMemory (service_of count a samples served energy) (record (service_of count a samples served energy) { meta = m }) → count (store_rack b.store) ≡ count (store_rack a.store) → count (store_rack n.store) ≡ count (store_rack b.store)
    → b.meta.epoch ≡ m.epoch + 1 → m.out ≡ No → m.phase ≡ Steady → CommitsMark count told a b m
    → Ran before (told (store_rack a.store)) (StepsToMark k (service_of count a samples served energy) a.meta h lo most)
    → Ran (told (store_rack b.store)) (told (store_rack n.store)) (PowersFrom a.meta (service_of count b samples served energy) (service_of count n samples served energy) h lo)
    → Ran before (told (store_rack n.store)) (StepsInEvent k (service_of count n samples served energy) h lo (most + 1))
flip_steps count told a b n m k before h lo most samples served energy mark slots same_slots more whole steady opens first third =
    let i = service_of count a samples served energy in
    let j = record (service_of count a samples served energy) { meta = m } in
    let opened = service_of count b samples served energy in
    let k_then = service_of count n samples served energy in
    ran_three (StepsToMark k j a.meta h lo most) (ServesMarked j opened h lo lo) (PowersFrom a.meta opened k_then h lo) (StepsInEvent k k_then h lo (most + 1))
    (λ s cs ds es x y z. powered_steps k j a.meta h lo most s cs ds x opened lo (omega arith) slots more whole (λ d low high. absurd (let none = ap rising_to steady in omega (arith, none, high))) y k_then es same_slots z)
    before (told (store_rack a.store)) (told (store_rack b.store)) (told (store_rack n.store))
    (ran_end i j h lo (StepsToMark k i a.meta h lo most) (StepsToMark k j a.meta h lo most) (λ s cs to x. again_steps k i j a.meta mark h lo most s cs to x) before (told (store_rack a.store))
    (λ t tells holds. opens.stands h lo samples served energy t tells holds) first)
    (opens.serves h lo samples served energy) third

-- a disk that comes up spins by the phase
pub rising_spins : (gear d : ℕ) (p : Phase) → d < rising_to p → Spinning ≡ power_by_gear gear p d
rising_spins gear d p low = ap (λ (t : Bool). if t then Spinning else Parked) (by (rising_to p) low)
  where
    by : (r : ℕ) → d < r → true ≡ (nat_lt d gear || nat_lt d r)
    by r less = grind (arith, nat_tests)

-- the others are powered as they were
pub rising_same : (gear d : ℕ) (p : Phase) → gear ≤ rising_to p → (d < gear) ⊎ (rising_to p ≤ d) → power_by_gear gear Steady d ≡ power_by_gear gear p d
rising_same gear d p le place = ap (λ (t : Bool). if t then Spinning else Parked) (by (rising_to p) le place)
  where
    by : (r : ℕ) → gear ≤ r → (d < gear) ⊎ (r ≤ d) → (nat_lt d gear || nat_lt d 0) ≡ (nat_lt d gear || nat_lt d r)
    by r le (inl low) = grind (arith, nat_tests)
    by r le (inr past) = grind (arith, nat_tests)
