-- A disk that is lost leaves the shift the one of the last commit.
use Rattle.std.specs.Prelude.{◌≡◌, ℕ, ◌<◌, Bool, true, false, List, [], ◌∷◌, Option, Some}
use Rattle.std.proofs.Common.{refl, sym, ◌∙◌, ap, subst, arith}
use Rattle.paraid_base.specs.declared.state.Out.TheVariants.{Fresh, Gone, No}
use Rattle.paraid_base.specs.declared.state.Phase.{Phase}
use Rattle.paraid_base.specs.declared.state.Phase.TheVariants.{Steady, Down, Up}
use Rattle.paraid_base.specs.History.{History}
use Rattle.paraid_base.specs.States.{phase_beside, rising_to}
use Rattle.paraid_rack.specs.declared.call.Call.{Call}
use Rattle.paraid_rack.specs.Disks.{Disks, is_present, step}
use Rattle.paraid_rack.specs.Slots.{Agrees, Slot}
use Rattle.paraid_rack.specs.Told.{CrashTriple, GrowsByCall, Ran}
use Rattle.paraid_rack.specs.Trail.{Trail, now}
use Rattle.paraid_record.specs.declared.meta.Meta.{Meta}
use Rattle.paraid_record.specs.declared.meta.Setup.{Setup}
use Rattle.paraid_record.specs.Range.{IsInRange}
use Rattle.paraid_image.specs.Calls.{disk_of, is_done}
use Rattle.paraid_image.specs.Mark.{meta_after_loss}
use Rattle.paraid_image.specs.Out.{named_out}
use Rattle.paraid_txn.specs.Stores.{named_of, store_rack}
use Rattle.paraid_core.specs.declared.staged.Core.{Core}
use Rattle.paraid_core.specs.CoreInvariant.{IsHeldWithOneMissing}
use Rattle.paraid_core.specs.Cores.{IsCoreHeldSinceCommit}
use Rattle.paraid_core.specs.Fills.{Filled, IsShiftCommitted, KeepsFilled}
use Rattle.paraid_core.proofs.CallLemmas.{keeps_held}
use Rattle.paraid_core.proofs.LostDiskLemmas.{failed_base, keeps_failed}

rises_still : (p : Phase) → rising_to p ≡ rising_to (phase_beside true p)
rises_still Steady = refl
rises_still (Down to) = refl
rises_still (Up to) = refl

-- a call on a disk of the array fails, and no other disk is out
module _ (slots : ℕ) (named : Option ℕ) (m : Meta) (table : List (List Bool)) (copied : List Bool) (h : History) (lo : ℕ) (s : Disks) (c : Call)
    (in_range : IsInRange m) (low : disk_of c < m.setup.geometry.disks) (failed : is_done c ≡ false)
    (absent : (x : ℕ) → x < m.setup.geometry.disks → is_present (s.power x) ≡ false → named_out m.out ≡ Some x) (alone : (x : ℕ) → named_out m.out ≡ Some x → x ≡ disk_of c)
    (stays : (x : ℕ) → named ≡ Some x → named_out m.out ≡ Some x) (kf : KeepsFilled slots named m table copied h lo m.fill s) where
  pub filled_failed : KeepsFilled slots named (meta_after_loss m (disk_of c)) table copied h lo (meta_after_loss m (disk_of c)).fill (step c s)
  filled_failed = record {
    keeps = keeps_failed slots named m table [] copied h lo s c in_range low failed absent alone stays kf.keeps;
    shift = subst (λ (b : Meta). IsShiftCommitted b (meta_after_loss m (disk_of c))) (sym (failed_base slots named m table [] copied h lo s c in_range low failed absent alone stays kf.keeps)) (record {
      gear = kf.shift.gear;
      rises = kf.shift.rises ∙ rises_still m.phase;
      fresh = λ x u is. ap Some (sym (alone x (kf.shift.fresh x u is)));
      phase = λ whole. let z : Gone (disk_of c) ≡ No = whole in absurd cc;
      fill = λ whole. let z : Gone (disk_of c) ≡ No = whole in absurd cc;
      rebuilt = λ x u is. let z : Gone (disk_of c) ≡ Fresh x u = is in absurd cc;
    });
    filled = λ t from l. absurd (omega arith);
  }

-- where the record is told
module _ {R : Type 0} {g : _} (count : R → ℕ) (slot : R → ℕ → Slot) (told : R → Option Trail) (old : Core R g) (told_then : Option Trail) (c : Call)
    (grows : GrowsByCall (told (store_rack old.store)) told_then c) (agrees : (t : Trail) → told (store_rack old.store) ≡ Some t → Agrees (now t) (slot (store_rack old.store)))
    (m_then : Meta) (slots_then : ℕ) (named_then : Option ℕ) (slots_same : slots_then ≡ count (store_rack old.store)) (named_same : named_then ≡ named_of old.store) (setup : m_then.setup ≡ old.meta.setup) where
  abbrev was : Meta
  was = old.meta

  abbrev slots_was : ℕ
  slots_was = count (store_rack old.store)

  abbrev name : Option ℕ
  name = named_of old.store

  pub call_filled : ((h : History) (lo : ℕ) (s : Disks) → Agrees s (slot (store_rack old.store)) → Filled count old h lo was.fill s → KeepsFilled slots_was name m_then old.dirty old.copied h lo m_then.fill (step c s))
      → (h : History) (lo : ℕ) → Ran (told (store_rack old.store)) told_then (CrashTriple (IsCoreHeldSinceCommit count old h lo) (Filled count old h lo was.fill) (KeepsFilled slots_then named_then m_then old.dirty old.copied h lo m_then.fill))
  call_filled go h lo t tells =
      let r = grows t tells in
      record {
        from = r.0;
        was = r.1;
        calls = c ∷ [];
        is = r.2;
        holds = record {
          goes = λ kf.
              let then = go h lo (now r.0) (agrees r.0 r.1) kf in (
                (keeps_held slots_was name was old.dirty [] old.copied h lo (now r.0) kf.keeps, held_now (step c (now r.0)) then),
                subst (λ (z : Option ℕ). KeepsFilled slots_then z m_then old.dirty old.copied h lo m_then.fill (step c (now r.0))) (sym named_same)
                    (subst (λ (z : ℕ). KeepsFilled z name m_then old.dirty old.copied h lo m_then.fill (step c (now r.0))) (sym slots_same) then),
              );
        };
      }
    where
      held_now : (s : Disks) → KeepsFilled slots_was name m_then old.dirty old.copied h lo m_then.fill s → IsCoreHeldSinceCommit count old h lo s
      held_now s kf = subst (λ (z : Setup). IsHeldWithOneMissing slots_was z.geometry.disks name h lo s) setup (keeps_held slots_was name m_then old.dirty [] old.copied h lo s kf.keeps)
