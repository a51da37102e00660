-- What the calls by which a disk is replaced are in an event of a session.
use Rattle.std.specs.Prelude.{length}
use Rattle.std.proofs.Common.{◌≡◌, ℕ, ◌+◌, ◌<◌, Bool, true, false, List, [], ◌∷◌, Option, Some, None, refl, sym, ap, ◌∙◌, inl, subst, arith}
use Rattle.paraid_base.specs.declared.state.Out.TheVariants.{Fresh, Gone}
use Rattle.paraid_base.specs.History.{History}
use Rattle.paraid_base.specs.Regions.{disk_size}
use Rattle.paraid_base.specs.States.{gone_out, named_out}
use Rattle.paraid_rack.specs.declared.call.Call.{Call}
use Rattle.paraid_rack.specs.declared.call.Call.TheVariants.{Attach}
use Rattle.paraid_rack.specs.declared.call.Power.TheVariants.{Spinning}
use Rattle.paraid_rack.specs.Disks.{Disks, is_present, power_after, step}
use Rattle.paraid_rack.specs.Slots.{Agrees, Slot}
use Rattle.paraid_rack.specs.Told.{CrashTriple, Ran, Through}
use Rattle.paraid_rack.specs.Trail.{Trail, now, run}
use Rattle.paraid_rack.proofs.AtomsLemmas.{with_at_same}
use Rattle.paraid_rack.proofs.TrailsLemmas.{Ran-none, now-extend}
use Rattle.paraid_record.specs.declared.meta.Meta.{Meta}
use Rattle.paraid_core.specs.Calls.{IsOneCall, IsTransferCall}
use Rattle.paraid_core.specs.declared.staged.Core.{Core}
use Rattle.paraid_core.specs.CoreInvariant.{AreCopiesSynced, IsHeldWithOneMissing}
use Rattle.paraid_image.specs.Mark.{meta_with_lost}
use Rattle.paraid_core.specs.Lost.{MarksLost}
use Rattle.paraid_core.specs.Replaced.{KeepsCommitted}
use Rattle.paraid_core.proofs.CommitLemmas.{both_of}
use Rattle.paraid_event.proofs.CoreServingLemmas.{copies_kept}
use Rattle.paraid_txn.specs.Commit.{IsOldOrNew}
use Rattle.paraid_txn.specs.Stores.{named_of, store_rack}
use Rattle.paraid_txn.specs.Uses.{EachCall}
use Rattle.paraid_event.specs.Marks.{IsMarkedBy}
use Rattle.paraid_event.specs.Parts.{ServesEvent, committed_meta}
use Rattle.paraid_event.specs.Replacements.{AttachesInEvent, CommitsAll}
use Rattle.paraid_event.specs.Service.{Service, service_of}
use Rattle.paraid_event.specs.Stands.{ServiceStandsFor}
use Rattle.paraid_event.specs.Steps.{StepsInEvent}
use Rattle.paraid_event.proofs.GivenLemmas.{commit_serves}
use Rattle.paraid_event.proofs.StepLemmas.{goes_bound, no_steps, part_steps, ran_then}

some_trail : (a b : Trail) → Some a ≡ Some b → a ≡ b
some_trail a b e = cc

-- what holds after a call that left the record as it was holds where it began
pub still_told : (P A B : Disks → Type 0) (told told_then : Option Trail) → told_then ≡ told → Ran told told_then (CrashTriple P A B) → (t : Trail) → told ≡ Some t → A (now t) → B (now t)
still_told P A B told told_then same ran t tells a =
    let r = ran t (same ∙ tells) in
    let one : r.from ≡ t = some_trail r.from t (sym r.was ∙ tells) in
    subst B (sym (ap now r.is ∙ now-extend r.from r.calls)) (r.holds.goes (subst A (sym (ap now one)) a)).1

-- the meta is marked by the disks that are told
pub marked_told : (told_then : Option Trail) (slot slot_then : ℕ → Slot) → ((t : Trail) → told_then ≡ Some t → Agrees (now t) slot_then) → (m m_then : Meta) → MarksLost slot slot_then m m_then
    → ((d : ℕ) → d < m.setup.geometry.disks → is_present (slot_then d).power ≡ false → named_out m_then.out ≡ Some d) → ((d u : ℕ) → m_then.out ≡ Fresh d u → is_present (slot_then d).power ≡ true)
    → (t : Trail) → told_then ≡ Some t → IsMarkedBy (now t).power m m_then
marked_told told_then slot slot_then agrees m m_then marks named fresh t tells =
    let power = (agrees t tells).power in
    record {
      lost = marks.lost;
      is = marks.is;
      disk = marks.disk;
      alone = marks.alone;
      absent = λ d lost. ap is_present (power d ∙ (marks.failed d lost).absent);
      named = λ d low gone. named d low (ap is_present (sym (power d)) ∙ gone);
      fresh = λ d u is. ap is_present (power d) ∙ fresh d u is;
    }

out_by : (slot slot_then : ℕ → Slot) (m m_then : Meta) (marks : MarksLost slot slot_then m m_then) (o : Option ℕ) → marks.lost ≡ o → m_then.out ≡ (meta_with_lost o m).out
out_by slot slot_then m m_then marks o is = ap (λ (z : Meta). z.out) marks.is ∙ ap (λ (l : Option ℕ). (meta_with_lost l m).out) is

-- a disk that is gone does not come back by a commit
pub gone_fresh : (slot slot_then : ℕ → Slot) (m m_then : Meta) → MarksLost slot slot_then m m_then → (disk : ℕ) → m.out ≡ Gone disk → (d u : ℕ) → m_then.out ≡ Fresh d u → is_present (slot_then d).power ≡ true
gone_fresh slot slot_then m m_then marks disk gone d u is = by marks.lost refl
  where
    by : (o : Option ℕ) → marks.lost ≡ o → is_present (slot_then d).power ≡ true
    by None none = let z : Gone disk ≡ Fresh d u = sym gone ∙ sym (out_by slot slot_then m m_then marks None none) ∙ is in cc
    by (Some x) some = let z : Gone x ≡ Fresh d u = sym (out_by slot slot_then m m_then marks (Some x) some) ∙ is in cc

-- one that is there stays there, unless it is lost
pub fresh_stays : (slot slot_then : ℕ → Slot) (m m_then : Meta) → MarksLost slot slot_then m m_then → ((d u : ℕ) → m.out ≡ Fresh d u → is_present (slot d).power ≡ true) → (d u : ℕ) → m_then.out ≡ Fresh d u → is_present (slot_then d).power ≡ true
fresh_stays slot slot_then m m_then marks there d u is = by marks.lost refl
  where
    by : (o : Option ℕ) → marks.lost ≡ o → is_present (slot_then d).power ≡ true
    by None none = ap is_present (marks.others d (λ e. let z : None ≡ Some d = sym none ∙ e in cc)).power ∙ there d u (sym (out_by slot slot_then m m_then marks None none) ∙ is)
    by (Some x) some = let z : Gone x ≡ Fresh d u = sym (out_by slot slot_then m m_then marks (Some x) some) ∙ is in cc

-- a fresh disk that was attached is there
pub fresh_there : (slot : ℕ → Slot) (disk x u : ℕ) → is_present (slot disk).power ≡ true → Fresh disk 0 ≡ Fresh x u → is_present (slot x).power ≡ true
fresh_there slot disk x u there is = let one : disk ≡ x = (let z : Fresh disk 0 ≡ Fresh x u = is in cc) in subst (λ (y : ℕ). is_present (slot y).power ≡ true) one there

module _ (told told_then : Option Trail) (k k_then : Service) (h : History) (lo : ℕ) where
  abbrev P : Disks → Type 0
  P = IsHeldWithOneMissing k.slots k.meta.setup.geometry.disks k.named h lo

  -- a commit
  pub commit_told : Ran told told_then (EachCall (IsTransferCall k.meta.setup.geometry.disks (gone_out k.meta.out))) → Ran told told_then (CrashTriple P (ServiceStandsFor k h lo) (ServiceStandsFor k_then h (length h)))
      → Ran told told_then (λ s cs. (z : ServiceStandsFor k h lo s) → Through (IsOldOrNew s z.base (committed_meta k) k.batch) s cs) → ((t : Trail) → told_then ≡ Some t → IsMarkedBy (now t).power k.meta k_then.meta)
      → Ran told told_then (ServesEvent k k_then h lo h (length h))
  commit_told calls stands whole marked = commit_serves told told_then k k_then h lo h (length h) k.named (λ d is. inl is) calls stands whole marked

  -- an attach, of which it is known whether it was done
  module _ (d : ℕ) (done : Bool) (slot_then : ℕ → Slot) (agrees : (t : Trail) → told_then ≡ Some t → Agrees (now t) slot_then) (power : is_present (slot_then d).power ≡ done) where
    abbrev size : ℕ
    size = disk_size k.meta.setup.geometry

    power_of : (s : Disks) (made : Bool) → is_present ((step (Attach d size made) s).power d) ≡ made
    unfolding step
    power_of s true = ap is_present (with_at_same s.power d (power_after true Spinning) d refl)
    power_of s false = ap is_present (with_at_same s.power d (power_after false Spinning) d refl)

    pub attach_told : Ran told told_then (IsOneCall (λ (made : Bool). Attach d size made)) → Ran told told_then (CrashTriple P (KeepsCommitted k.slots k.named k.meta k.table k.copied h lo (Gone d)) (ServiceStandsFor k_then h lo)) → Ran told told_then (AttachesInEvent k k_then h lo d done)
    attach_told calls stands t tells =
        let r = both_of (IsOneCall (λ (made : Bool). Attach d size made)) (CrashTriple P (KeepsCommitted k.slots k.named k.meta k.table k.copied h lo (Gone d)) (ServiceStandsFor k_then h lo)) told told_then calls stands t tells in
        let made = r.holds.0.0 in
        let is : r.calls ≡ Attach d size made ∷ [] = r.holds.0.1 in
        let end : now t ≡ step (Attach d size made) (now r.from) = ap now r.is ∙ now-extend r.from r.calls ∙ ap (run (now r.from)) is in
        let same_done : made ≡ done = sym (power_of (now r.from) made) ∙ ap (λ (s : Disks). is_present (s.power d)) (sym end) ∙ ap is_present ((agrees t tells).power d) ∙ power in
        record {
          from = r.from;
          was = r.was;
          calls = r.calls;
          is = r.is;
          holds = λ kept. let both = r.holds.1.goes kept in (record { is = is ∙ ap (λ (b : Bool). Attach d size b ∷ []) same_done; held = both.0 }, both.1);
        }

-- What an array in service knows of a core that is as another one but for its meta.
module _ {R : Type 0} {g : _} (count : R → ℕ) (a b : Core R g) (samples : List ℕ) (served energy : ℕ) where
  pub same_service : (m : Meta) → count (store_rack b.store) ≡ count (store_rack a.store) → named_of b.store ≡ named_of a.store → b.meta ≡ m → b.dirty ≡ a.dirty → b.batch ≡ a.batch → b.copied ≡ a.copied
      → service_of count b samples served energy ≡ record (service_of count a samples served energy) { meta = m }
  same_service m slots named meta table batch copied = λ i. record {
    slots = slots i;
    named = named i;
    meta = meta i;
    table = table i;
    batch = batch i;
    copied = copied i;
    samples = samples;
    served = served;
    energy = energy;
  }

  -- a commit leaves the counts
  pub commits_all : AreCopiesSynced a.meta.setup.geometry.disks a.copied → count (store_rack b.store) ≡ count (store_rack a.store) → b.meta.setup ≡ a.meta.setup → b.meta.epoch ≡ a.meta.epoch + 1 → b.batch ≡ [] → b.dirty ≡ a.dirty → b.copied ≡ a.copied
      → CommitsAll (service_of count a samples served energy) (service_of count b samples served energy)
  commits_all synced slots setup epoch nothing table copied = record {
    epoch = epoch;
    nothing_staged = nothing;
    counts = record { slots = slots; table = table; samples = refl; served = refl };
    energy = refl;
    copies_synced = copies_kept a b setup copied synced;
  }

-- a commit is a part of an event with one commit
pub commit_step : (k k_then : Service) (h : History) (lo : ℕ) → k_then.slots ≡ k.slots → (s : Disks) (cs : List Call) → ServesEvent k k_then h lo h (length h) s cs → StepsInEvent k k_then h lo 1 s cs
commit_step k k_then h lo slots s cs serves base w is at =
    let low = at.midway.stands.keeps.copies.low in
    let high = at.midway.stands.keeps.copies.high in
    part_steps k k_then h lo (length h) (omega (arith, low, high)) slots s cs (λ z shown. serves z) base w is at

pub commit_steps : (told told_then : Option Trail) (k k_then : Service) (h : History) (lo : ℕ) → k_then.slots ≡ k.slots → Ran told told_then (ServesEvent k k_then h lo h (length h)) → Ran told told_then (StepsInEvent k k_then h lo 1)
commit_steps told told_then k k_then h lo slots ran = ran_then (ServesEvent k k_then h lo h (length h)) (StepsInEvent k k_then h lo 1) (λ s cs serves. commit_step k k_then h lo slots s cs serves) told told_then ran

-- and so is no call at all
pub none_steps : (told : Option Trail) (k : Service) (h : History) (lo most : ℕ) → Ran told told (StepsInEvent k k h lo most)
none_steps told k h lo most = Ran-none (StepsInEvent k k h lo most) (λ s. goes_bound k k h lo 0 most (omega arith) s [] (no_steps k h lo s)) told

-- A disk that is being rebuilt is the one that the last commit names out.
pub named_there : (slot : ℕ → Slot) (m : Meta) (disk u : ℕ) → m.out ≡ Fresh disk u → is_present (slot disk).power ≡ true → (x y : ℕ) → m.out ≡ Fresh x y → is_present (slot x).power ≡ true
named_there slot m disk u is there x y other = let one : disk ≡ x = (let z : Fresh disk u ≡ Fresh x y = sym is ∙ other in cc) in subst (λ (e : ℕ). is_present (slot e).power ≡ true) one there
