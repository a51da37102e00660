-- What an array keeps at any time, as its events are asked to.
use Rattle.std.specs.Prelude.{◌≡◌, ℕ, ◌<◌, Bool, true, false, List, [], length, Option, Some, None}
use Rattle.std.proofs.Common.{refl, sym, ap, ◌∙◌, subst}
use Rattle.paraid_rack.specs.Slots.{Slot}
use Rattle.paraid_rack.specs.Trail.{Trail}
use Rattle.paraid_record.specs.declared.meta.Setup.{Setup}
use Rattle.paraid_image.specs.Out.{named_out}
use Rattle.paraid_image.specs.Sides.{Batch}
use Rattle.paraid_txn.specs.Stores.{store_rack}
use Rattle.paraid_core.specs.declared.staged.Core.{Core}
use Rattle.paraid_core.specs.CoreInvariant.{AreCopiesSynced}
use Rattle.paraid_core.specs.Steps.{AreUnsyncedCopied}
use Rattle.paraid_serve.specs.Causes.{Shown, Shows}
use Rattle.paraid_base.specs.declared.fault.Halt.{Halt}
use Rattle.paraid_serve.specs.Calls.{IsAbsentOut, IsNotDouble}
use Rattle.paraid_session.specs.Powers.{AreSlotsSynced, FitsSlots}
use Rattle.paraid_session.specs.Turn.{Point}
use Rattle.paraid_array.specs.declared.array.Array.{Array}
use Rattle.paraid_array.specs.declared.ended.HaltedAt.{HaltedAt}
use Rattle.paraid_array.specs.Arrays.{ArrayStandsAt, HasNothingStaged, dirty_of_array, samples_of_array, served_of_array, shown_of_array, slot_of_array}
use Rattle.paraid_array.specs.Lasting.{IsArrayServing, gear_of_end, halt_of_end}

-- a point at which it stands tells its halt
pub halt_at : {R : Type 0} {g : _}
    (count : R → ℕ) (told : R → Option Trail) (a : Array R g) (p : Point)
    → ArrayStandsAt count told a p → p.halt ≡ halt_of_end a.ended
halt_at count told a p at = by a.ended refl
  where
    by : (o : Option HaltedAt) → a.ended ≡ o → p.halt ≡ halt_of_end a.ended
    by None e = (at.serves e).stands.going ∙ sym (ap halt_of_end e)
    by (Some ended) e = (at.halted ended e).halt ∙ sym (ap halt_of_end e)

-- what has not ended has no halt
pub going_end : (o : Option HaltedAt) → halt_of_end o ≡ None → o ≡ None
going_end None e = refl
going_end (Some ended) e = let z : Some ended.halt ≡ None = e in cc

-- while it has not halted it tells this gear
pub gear_going : (o : Option HaltedAt) (now : ℕ) → halt_of_end o ≡ None → gear_of_end o now ≡ now
gear_going None now e = refl
gear_going (Some ended) now e = let z : Some ended.halt ≡ None = e in absurd cc

-- each disk that is there and not gone is synced: only copies could be unsynced, and they are
-- synced
pub all_synced : {R : Type 0} {g : _} (slot : R → ℕ → Slot) (core : Core R g)
    → AreCopiesSynced core.meta.setup.geometry.disks core.copied
    → AreUnsyncedCopied slot core → AreSlotsSynced core.meta (slot (store_rack core.store))
all_synced slot
    core copies unsynced d low not there = by (slot (store_rack core.store) d).unsynced refl
  where
    by : (b : Bool) → (slot (store_rack core.store) d).unsynced ≡ b
        → (slot (store_rack core.store) d).unsynced ≡ false
    by false e = e
    by true e = e ∙ sym (unsynced d low not there e) ∙ copies d low

-- what is seen of it has its setup, its slots, its halt and its gear; until a halt the slots fit
-- its meta, and its disks are synced
pub shown_as : {R : Type 0} {g : _} (slot : R → ℕ → Slot) (a : Array R g)
    → (halt_of_end a.ended ≡ None → FitsSlots (slot_of_array slot a) a.core.meta)
    → (halt_of_end a.ended ≡ None → AreSlotsSynced a.core.meta (slot_of_array slot a))
    → Shows (shown_of_array slot a) a.setup (slot_of_array slot a) (halt_of_end a.ended)
shown_as slot a fits synced = record {
  setup = refl;
  slot = refl;
  halt = refl;
  gear = gear_going a.ended a.core.meta.gear;
  fits = fits;
  synced = synced;
}

-- what is seen of it with another setup, energy, halt, samples, number of requests, gear and number
-- of targets that are staged
abbrev shown_but : {R : Type 0} {g : _}
    → (R → ℕ → Slot) → Array R g → Setup → ℕ → Option Halt → List ℕ → ℕ → ℕ → ℕ → Shown
shown_but slot a z n h l k gear staged = record {
  setup = z;
  meta = a.core.meta;
  dirty = dirty_of_array a;
  staged = staged;
  slot = slot_of_array slot a;
  gear = gear;
  energy = n;
  samples = l;
  served = k;
  halt = h;
}

-- what is seen of an array as it begins: its own setup, nothing staged, no energy used, no sample,
-- no request and no halt
pub begins_as : {R : Type 0} {g : _} (slot : R → ℕ → Slot) (a : Array R g)
    → a.setup ≡ a.core.meta.setup
    → a.ledger.total ≡ 0 → halt_of_end a.ended ≡ None → samples_of_array a ≡ []
    → served_of_array a ≡ 0 → HasNothingStaged a → shown_of_array slot a ≡ record {
      setup = a.core.meta.setup;
      meta = a.core.meta;
      dirty = dirty_of_array a;
      staged = 0;
      slot = slot_of_array slot a;
      gear = a.core.meta.gear;
      energy = 0;
      samples = [];
      served = 0;
      halt = None;
    }
begins_as slot a setup energy going samples served nothing =
    ap (λ (x : Setup). shown_but slot a x a.ledger.total (halt_of_end a.ended) (samples_of_array a)
    (served_of_array a) (gear_of_end a.ended a.core.meta.gear) (length a.core.batch)) setup
    ∙ ap (λ (x : ℕ). shown_but slot a a.core.meta.setup x (halt_of_end a.ended) (samples_of_array a)
    (served_of_array a) (gear_of_end a.ended a.core.meta.gear) (length a.core.batch)) energy
    ∙ ap (λ (x : Option Halt). shown_but slot a a.core.meta.setup 0 x (samples_of_array a)
    (served_of_array a) (gear_of_end a.ended a.core.meta.gear) (length a.core.batch)) going
    ∙ ap (λ (x : List ℕ). shown_but slot a a.core.meta.setup 0 None x
    (served_of_array a) (gear_of_end a.ended a.core.meta.gear) (length a.core.batch)) samples
    ∙ ap (λ (x : ℕ). shown_but slot a a.core.meta.setup 0 None
    [] x (gear_of_end a.ended a.core.meta.gear) (length a.core.batch)) served
    ∙ ap (λ (x : ℕ). shown_but slot a a.core.meta.setup 0 None [] 0 x (length a.core.batch))
    (gear_going a.ended a.core.meta.gear going)
    ∙ ap (λ (x : Batch). shown_but slot a a.core.meta.setup 0 None [] 0 a.core.meta.gear (length x))
    nothing

-- a disk of one that serves is absent only where it is out
pub absent_out : {R : Type 0} {g : _}
    (count : R → ℕ) (slot : R → ℕ → Slot) (core : Core R g) (lengths : List ℕ) (setup : Setup)
    (slots : ℕ) → IsArrayServing count slot core lengths setup slots
    → IsAbsentOut setup (named_out core.meta.out) (slot (store_rack core.store))
absent_out count slot core lengths setup slots q x low away = q.serving.ready.absent x
    (subst (λ (z : Setup). x < z.geometry.disks) (sym q.same_setup) low) away

-- an array that serves has at most one absent disk
pub not_double : {R : Type 0} {g : _}
    (count : R → ℕ) (slot : R → ℕ → Slot) (core : Core R g) (lengths : List ℕ) (setup : Setup)
    (slots : ℕ) → IsArrayServing count slot core lengths setup slots
    → IsNotDouble setup (slot (store_rack core.store))
not_double count slot core lengths setup slots q d e d_low e_low d_away e_away =
    let z : Some d ≡ Some e = sym (out d d_low d_away) ∙ out e e_low e_away in cc
  where
    out : IsAbsentOut setup (named_out core.meta.out) (slot (store_rack core.store))
    out = absent_out count slot core lengths setup slots q
