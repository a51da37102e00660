-- A disk is parked, done or failed.
use Rattle.std.specs.Prelude.{◌≡◌, ◌≢◌, ℕ, ◌*◌, ◌<◌, ◌≤◌, ◌&&◌, nat_lt, Bool, true, List, [], ◌∷◌, Option, Some, length, if◌then◌else◌}
use Rattle.std.proofs.Common.{sym, ◌∙◌, ap, subst, arith, inl, inr}
use Rattle.std.proofs.lemmas.Bool.{cases_Bool, cases_eq, false≢true}
use Rattle.std.proofs.lemmas.List.Elements.{All-nil}
use Rattle.paraid_base.specs.declared.state.Out.TheVariants.{Fresh}
use Rattle.paraid_base.specs.History.{History}
use Rattle.paraid_base.specs.Log.{log_least}
use Rattle.paraid_base.specs.Regions.{disk_size, map_count}
use Rattle.paraid_base.specs.States.{rising_to}
use Rattle.paraid_base.specs.Xor.{zero_block}
use Rattle.paraid_dirty.specs.Table.{is_dirty}
use Rattle.paraid_rack.specs.declared.call.Call.TheVariants.{Park}
use Rattle.paraid_rack.specs.declared.call.Power.{Power}
use Rattle.paraid_rack.specs.declared.call.Power.TheVariants.{Parked, Spinning}
use Rattle.paraid_rack.specs.Slots.{Agrees, Slot}
use Rattle.paraid_rack.specs.Told.{CrashTriple, GrowsByCall, Ran}
use Rattle.paraid_rack.specs.Trail.{Trail, now}
use Rattle.paraid_rack.specs.Disks.{Disks, IsPresent, is_present, step, with_at}
use Rattle.paraid_record.specs.declared.meta.Meta.{Meta}
use Rattle.paraid_image.specs.Content.{view_by}
use Rattle.paraid_image.specs.Out.{named_out, out_disk}
use Rattle.paraid_record.specs.declared.targets.Target.{Target}
use Rattle.paraid_image.specs.Sides.{Batch, is_open, stored_block, targets}
use Rattle.paraid_txn.specs.Commit.{gone_out}
use Rattle.paraid_txn.specs.Losses.{CanWrite}
use Rattle.paraid_txn.specs.Ready.{AreTargetsReady}
use Rattle.paraid_txn.specs.Stores.{named_of, store_rack}
use Rattle.paraid_image.specs.Sound.{AreDisks, ContentOk}
use Rattle.paraid_image.specs.Spot.{map_bit, map_disk}
use Rattle.paraid_image.specs.Standing.{Contents, contents}
use Rattle.paraid_moves.specs.Copying.{HoldsWithCopies}
use Rattle.paraid_moves.proofs.BetweenLemmas.{copies_parked}
use Rattle.paraid_moves.proofs.ParkingLemmas.{IsTurnedTo, content_turned, disks_parked, out_turned, parked_turned}
use Rattle.paraid_core.specs.declared.staged.Core.{Core}
use Rattle.paraid_core.specs.CoreInvariant.{AreSlotsReady, CanServe, HoldsBetweenCalls}
use Rattle.paraid_core.specs.Cores.{IsCoreHeldSinceCommit}
use Rattle.paraid_core.specs.Fills.{Filled, KeepsFilled}
use Rattle.paraid_core.proofs.BorneLemmas.{borne_turned}
use Rattle.paraid_core.proofs.CallLemmas.{failed_held, keeps_held}
use Rattle.paraid_core.proofs.SettleLemmas.{self_at}

module _ (slots : ℕ) (named : Option ℕ) (m : Meta) (table : List (List Bool)) (copied : List Bool) (h : History) (lo : ℕ) (s : Disks) (d : ℕ)
    (here : IsPresent s d) (past_logs : 2 ≤ d) (past_gear : m.gear ≤ d) (past_rise : rising_to m.phase ≤ d) (not_out : named_out m.out ≢ Some d)
    (kf : KeepsFilled slots named m table copied h lo m.fill s) where
  abbrev k : HoldsBetweenCalls slots named m table [] copied h lo s
  k = kf.keeps

  abbrev power : ℕ → Power
  power = with_at s.power d Parked

  abbrev u : Disks
  u = record s { power = power }

  step_is : step (Park d true) s ≡ u
  unfolding step
  step_is = λ i. record { power = power; size = self_at s.size d i; block = s.block; loose = s.loose }

  turned : IsTurnedTo s u
  turned = subst (IsTurnedTo s) step_is (parked_turned s d here)

  there : (x : ℕ) → is_present (power x) ≡ is_present (s.power x)
  there = turned.present

  not_fresh : (n : ℕ) → m.out ≢ Fresh d n
  not_fresh n is = not_out (ap named_out is)

  contents_parked : contents u [] ≡ contents s []
  unfolding contents
  contents_parked = λ i. λ x q. (ap (λ (b : Bool). if nat_lt q log_least then zero_block else (if b && nat_lt q (s.size x) then s.block x q else zero_block)) (there x)) i

  stored_parked : (x q : ℕ) → stored_block u x q ≡ stored_block s x q
  unfolding stored_block
  stored_parked x q = ap (λ (b : Bool). if b && nat_lt q (s.size x) then s.block x q else zero_block) (there x)

  disks_then : AreDisks slots power s.size m (out_disk s.power m)
  disks_then = disks_parked slots s.power s.size m (out_disk s.power m) d past_logs past_gear past_rise not_fresh here k.staged.kept.disks

  staged_then : ContentOk slots power s.size (view_by m power (contents u [])) h (length h)
  staged_then =
      subst (λ (f : Contents). ContentOk slots power s.size (view_by m power f) h (length h)) (sym contents_parked)
      (content_turned slots s.power power s.size m (contents s []) h (length h) there disks_then k.staged)

  dirty_then : (r e : ℕ) → r < 512 * map_count m.setup.geometry → is_dirty table r e ≡ (view_by m power (contents u [])).dirty r e
  dirty_then r e l =
      k.dirty r e l ∙ ap (λ (o : Option ℕ). map_bit m.setup.geometry (contents s [] (map_disk o)) r e) (sym (out_turned s.power power m there))
      ∙ ap (λ (f : Contents). (view_by m power f).dirty r e) (sym contents_parked)

  keeps_parked : HoldsBetweenCalls slots named m table [] copied h lo u
  keeps_parked = record {
    base = k.base;
    held = k.held;
    copies = subst (HoldsWithCopies slots k.base k.held h lo) step_is
        (copies_parked slots k.base k.held h lo s d here past_logs (subst (λ (z : ℕ). z ≤ d) (sym kf.shift.gear) past_gear) (subst (λ (z : ℕ). z ≤ d) (sym kf.shift.rises) past_rise)
        (λ n is. not_out (kf.shift.fresh d n is)) k.copies);
    synced = λ x p present synced. k.synced x p (sym (there x) ∙ present) synced;
    named_by = k.named_by;
    borne = borne_turned named s k.borne u turned;
    epoch = k.epoch;
    next = record {
      epoch = k.next.epoch;
      setup = k.next.setup;
      out = k.next.out;
      comes_in = λ x l present was not. k.next.comes_in x l (sym (there x) ∙ present) was not;
      fresh_closed = λ x n fresh l. ap is_open (stored_parked x 0) ∙ k.next.fresh_closed x n (record { is = fresh.is; present = sym (there x) ∙ fresh.present }) l;
    };
    writes = k.writes;
    brought = k.brought;
    staged = staged_then;
    dirty = dirty_then;
  }

  filled_parked : KeepsFilled slots named m table copied h lo m.fill u
  unfolding keeps_parked
  filled_parked = record { keeps = keeps_parked; shift = kf.shift; filled = λ t from l. absurd (omega arith) }

  pub park_keeps : (done : Bool) → done ≡ true → KeepsFilled slots named m table copied h lo m.fill (step (Park d done) s)
  park_keeps done is = subst (λ (b : Bool). KeepsFilled slots named m table copied h lo m.fill (step (Park d b) s)) (sym is) (subst (KeepsFilled slots named m table copied h lo m.fill) (sym step_is) filled_parked)

-- the slots after it
module _ (count : ℕ) (slot then_slot : ℕ → Slot) (last array : ℕ) (named : Option ℕ) (m : Meta) (rows : ℕ) (batch : Batch) (d : ℕ) (others : (x : ℕ) → x ≢ d → then_slot x ≡ slot x)
    (past_gear : m.gear ≤ d) (past_rise : rising_to m.phase ≤ d) (not_out : named_out m.out ≢ Some d) where
  low_other : (x : ℕ) → x < d → then_slot x ≡ slot x
  low_other x l = others x (λ is. absurd (omega arith))

  pub parked_ready : (then_slot d).power ≡ Parked → batch ≡ [] → AreSlotsReady count slot last array named m rows batch → AreSlotsReady count then_slot last array named m rows batch
  parked_ready parked nothing ready = record {
    in_range = ready.in_range;
    array_is = ready.array_is;
    epoch_is = ready.epoch_is;
    enough = ready.enough;
    rows_are = ready.rows_are;
    absent = λ x l gone. elim (cases_eq x d) [
      | inl is ↦ absurd (false≢true (sym gone ∙ ap (λ (e : ℕ). is_present (then_slot e).power) is ∙ ap is_present parked))
      | inr apart ↦ ready.absent x l (ap (λ (s : Slot). is_present s.power) (sym (others x apart)) ∙ gone)
    ];
    one = ready.one;
    spins = λ x l not. ap (λ (s : Slot). s.power) (low_other x (omega arith)) ∙ ready.spins x l not;
    large = λ x l not. subst (λ (s : Slot). disk_size m.setup.geometry ≤ s.size) (sym (low_other x (omega arith))) (ready.large x l not);
    fresh_spins = λ x u is here. fresh_power x u is ∙ ready.fresh_spins x u is (ap is_present (sym (fresh_power x u is)) ∙ here);
    fresh_large = λ x u is here. subst (λ (s : Slot). disk_size m.setup.geometry ≤ s.size) (sym (fresh_slot x u is)) (ready.fresh_large x u is (ap is_present (sym (fresh_power x u is)) ∙ here));
    each = ready.each;
    can = subst (λ (b : Batch). AreTargetsReady (gone_out m.out) count then_slot (targets b)) (sym nothing) (All-nil (λ (t : Target). (t.disk < count) × (gone_out m.out ≢ Some t.disk → CanWrite then_slot t.disk t.place)));
    apart = ready.apart;
  }
    where
      fresh_slot : (x u : ℕ) → m.out ≡ Fresh x u → then_slot x ≡ slot x
      fresh_slot x u is = others x (λ same. not_out (ap named_out is ∙ ap Some same))

      fresh_power : (x u : ℕ) → m.out ≡ Fresh x u → (then_slot x).power ≡ (slot x).power
      fresh_power x u is = ap (λ (s : Slot). s.power) (fresh_slot x u is)

  pub parked_serves : CanServe slot named m → CanServe then_slot named m
  parked_serves serve = record {
    spins = λ x l not. ap (λ (s : Slot). s.power) (low_other x (omega arith)) ∙ serve.spins x l not;
    large = λ x l not. subst (λ (s : Slot). disk_size m.setup.geometry ≤ s.size) (sym (low_other x (omega arith))) (serve.large x l not);
    stays = serve.stays;
  }

-- where the record is told
module _ {R : Type 0} {g : _} (count : R → ℕ) (slot : R → ℕ → Slot) (told : R → Option Trail) (old : Core R g) (told_then : Option Trail) (d : ℕ) (ok : Bool)
    (grows : GrowsByCall (told (store_rack old.store)) told_then (Park d ok)) (agrees : (t : Trail) → told (store_rack old.store) ≡ Some t → Agrees (now t) (slot (store_rack old.store)))
    (spinning : (slot (store_rack old.store) d).power ≡ Spinning) (below : d < old.meta.setup.geometry.disks) (past_logs : 2 ≤ d) (past_gear : old.meta.gear ≤ d) (past_rise : rising_to old.meta.phase ≤ d)
    (not_out : named_out old.meta.out ≢ Some d) where
  abbrev was : Meta
  was = old.meta

  abbrev slots_was : ℕ
  slots_was = count (store_rack old.store)

  abbrev name : Option ℕ
  name = named_of old.store

  here_at : (s : Disks) → Agrees s (slot (store_rack old.store)) → IsPresent s d
  here_at s a = ap is_present (a.power d ∙ spinning)

  pub park_held : (h : History) (lo : ℕ) → Ran (told (store_rack old.store)) told_then (CrashTriple (IsCoreHeldSinceCommit count old h lo) (Filled count old h lo was.fill) (IsCoreHeldSinceCommit count old h lo))
  park_held h lo t tells =
      let r = grows t tells in
      let s = now r.0 in
      record {
        from = r.0;
        was = r.1;
        calls = Park d ok ∷ [];
        is = r.2;
        holds = record {
          goes = λ kf.
              let p_then : IsCoreHeldSinceCommit count old h lo (step (Park d ok) s) = elim (cases_Bool ok) [
                | inr failed ↦ failed_held slots_was name was old.dirty [] old.copied h lo s (Park d ok) failed below kf.keeps
                | inl done ↦
                    let next = park_keeps slots_was name was old.dirty old.copied h lo s d (here_at s (agrees r.0 r.1)) past_logs past_gear past_rise not_out kf ok done in
                    keeps_held slots_was name was old.dirty [] old.copied h lo (step (Park d ok) s) next.keeps
              ] in
              ((keeps_held slots_was name was old.dirty [] old.copied h lo s kf.keeps, p_then), p_then);
        };
      }

  pub park_done : ok ≡ true → (slots_then : ℕ) (named_then : Option ℕ) → slots_then ≡ slots_was → named_then ≡ name → (h : History) (lo : ℕ)
      → Ran (told (store_rack old.store)) told_then (CrashTriple (IsCoreHeldSinceCommit count old h lo) (Filled count old h lo was.fill) (KeepsFilled slots_then named_then was old.dirty old.copied h lo was.fill))
  park_done done slots_then named_then es en h lo t tells =
      let r = grows t tells in
      let s = now r.0 in
      record {
        from = r.0;
        was = r.1;
        calls = Park d ok ∷ [];
        is = r.2;
        holds = record {
          goes = λ kf.
              let next = park_keeps slots_was name was old.dirty old.copied h lo s d (here_at s (agrees r.0 r.1)) past_logs past_gear past_rise not_out kf ok done in (
                (keeps_held slots_was name was old.dirty [] old.copied h lo s kf.keeps, keeps_held slots_was name was old.dirty [] old.copied h lo (step (Park d ok) s) next.keeps),
                subst (λ (z : ℕ). KeepsFilled z named_then was old.dirty old.copied h lo was.fill (step (Park d ok) s)) (sym es)
                    (subst (λ (z : Option ℕ). KeepsFilled slots_was z was old.dirty old.copied h lo was.fill (step (Park d ok) s)) (sym en) next),
              );
        };
      }
