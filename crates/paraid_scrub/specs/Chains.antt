-- How reads of a core follow one another.
use Rattle.std.specs.Prelude.{◌≡◌, ℕ, ◌<◌, Option, Some, IsSome}
use Rattle.std.proofs.Common.{refl, sym, ◌∙◌, ap, subst, inl}
use Rattle.paraid_base.specs.declared.fault.Two.{Two}
use Rattle.paraid_rack.specs.Disks.{is_present}
use Rattle.paraid_rack.specs.Slots.{Agrees, Slot}
use Rattle.paraid_rack.specs.Trail.{Trail, now}
use Rattle.paraid_record.specs.declared.meta.Meta.{Meta}
use Rattle.paraid_image.specs.Mark.{meta_after_loss}
use Rattle.paraid_image.specs.Out.{named_out}
use Rattle.paraid_image.specs.Spot.{View}
use Rattle.paraid_txn.specs.Stores.{store_rack}
use Rattle.paraid_view.specs.Reads.{AreArrayReads}
use Rattle.paraid_view.proofs.ReadLemmas.{ran_none, told_before}
use Rattle.paraid_view.proofs.TwoLemmas.{spared_then}
use Rattle.paraid_core.specs.declared.staged.Core.{Core}
use Rattle.paraid_core.specs.Calls.{IsDataCall}
use Rattle.paraid_core.proofs.KindLemmas.{calls_none, calls_then, data_same, reads_then}
use Rattle.paraid_core.proofs.LostMarkLemmas.{lost_after, marks_none, marks_then}
use Rattle.paraid_core.proofs.OrderLemmas.{core_tells_then, data_bears}
use Rattle.paraid_core.proofs.StepLemmas.{dry_both, held_then, leaves_none, leaves_then, stands_none, stands_then, two_then}
use Rattle.paraid_txn.specs.Commit.{gone_out}
use Rattle.paraid_scrub.specs.Cores.{CanBeChecked, HasLooked, LooksOn, LooksTill, LooksTillLost, LooksTillTwo, ShowsView}
use Rattle.paraid_scrub.specs.declared.ending.Ending.{Ending}
use Rattle.paraid_scrub.specs.declared.ending.Ending.TheVariants.{Lost, Two as LostTwo}

module _ {R : Type 0} {g : _} (count : R → ℕ) (slot : R → ℕ → Slot) (told : R → Option Trail) where
  -- no read
  pub looks_none : (a : Core R g) → CanBeChecked count slot a → LooksOn count slot told a a
  looks_none a can = record {
    began = can.ready;
    looked = record {
      leaves = leaves_none count slot told a can.ready can.serves.stays;
      copied = refl;
      synced = λ d here wet. inl wet;
      calls = calls_none (IsDataCall a.meta.setup.geometry.disks (gone_out a.meta.out))
          (told (store_rack a.store));
      reads = ran_none (told (store_rack a.store)) a.meta.setup.geometry.disks;
      marks = marks_none a.meta a.meta (slot (store_rack a.store))
          (slot (store_rack a.store)) a.meta.epoch a.meta.writes (λ d. refl) refl;
      stands = stands_none count slot told a;
    };
    same = refl;
  }

  module _ (a b c : Core R g) (p : LooksOn count slot told a b) where
    abbrev sa : ℕ → Slot
    sa = slot (store_rack a.store)

    abbrev sb : ℕ → Slot
    sb = slot (store_rack b.store)

    abbrev sc : ℕ → Slot
    sc = slot (store_rack c.store)

    abbrev disks_same : b.meta.setup.geometry.disks ≡ a.meta.setup.geometry.disks
    disks_same = ap (λ (z : Meta). z.setup.geometry.disks) p.same

    pub looked_then : HasLooked count slot told b c → HasLooked count slot told a c
    looked_then q = record {
      leaves = leaves_then count slot told a b p.looked.leaves c q.leaves;
      copied = q.copied ∙ p.looked.copied;
      synced = dry_both sa sb sc p.looked.synced q.synced q.leaves.spared;
      calls = calls_then (IsDataCall a.meta.setup.geometry.disks (gone_out a.meta.out))
          (told (store_rack a.store)) (told (store_rack b.store))
          (told (store_rack c.store)) p.looked.calls (data_same b.meta a.meta p.same
          (told (store_rack b.store)) (told (store_rack c.store)) q.calls);
      reads = reads_then a.meta.setup.geometry.disks b.meta.setup.geometry.disks disks_same
          (told (store_rack a.store))
          (told (store_rack b.store)) (told (store_rack c.store)) p.looked.reads q.reads;
      marks = marks_then sa
          sb sc a.meta b.meta c.meta p.looked.marks q.marks p.looked.leaves.spared q.leaves.spared;
      stands = stands_then count slot told a b p.looked.leaves c p.looked.stands q.stands;
    }

    pub looks_then : LooksOn count slot told b c → LooksOn count slot told a c
    looks_then q = record { began = p.began; looked = looked_then q.looked; same = q.same ∙ p.same }

    looks_till_lost : LooksTillLost count slot told b c → LooksTillLost count slot told a c
    looks_till_lost q = record {
      looked = looked_then q.looked;
      loses = record {
        disk = q.loses.disk;
        low = subst (λ (z : Meta). q.loses.disk < z.setup.geometry.disks) p.same q.loses.low;
        failed = lost_after sa sb sc q.loses.disk p.looked.leaves.spared q.loses.failed;
        gone = q.loses.gone ∙ ap (λ (z : Meta). meta_after_loss z q.loses.disk) p.same;
      };
      there = ap is_present (sym (p.looked.leaves.spared.power q.loses.disk q.there)) ∙ q.there;
    }

    module _ (agrees : (rack : R) (t : Trail)
        → told rack ≡ Some t → Agrees (now t) (slot rack)) where
      looks_till_two : (two : Two)
          → LooksTillTwo count slot told b c two → LooksTillTwo count slot told a c two
      looks_till_two two q = record {
        slots = q.slots ∙ p.looked.leaves.slots;
        copied = q.copied ∙ p.looked.copied;
        spared = spared_then sa sb sc p.looked.leaves.spared q.spared;
        synced = dry_both sa sb sc p.looked.synced q.synced q.spared;
        down = two_then count slot told a b p.looked.leaves c q.spared two q.down;
        tells = core_tells_then slot told agrees a b p.began.absent p.looked.marks c two
            (data_bears slot told agrees a b p.began.absent p.looked.marks p.looked.calls) q.tells;
        calls = calls_then (IsDataCall a.meta.setup.geometry.disks (gone_out a.meta.out))
            (told (store_rack a.store)) (told (store_rack b.store))
            (told (store_rack c.store)) p.looked.calls (data_same b.meta a.meta p.same
            (told (store_rack b.store)) (told (store_rack c.store)) q.calls);
        reads = reads_then a.meta.setup.geometry.disks b.meta.setup.geometry.disks disks_same
            (told (store_rack a.store))
            (told (store_rack b.store)) (told (store_rack c.store)) p.looked.reads q.reads;
        held = held_then count slot told a b p.looked.leaves c p.looked.stands q.held;
      }

      pub looks_till_then : (ending : Ending)
          → LooksTill count slot told b c ending → LooksTill count slot told a c ending
      looks_till_then Lost q = looks_till_lost q
      looks_till_then (LostTwo two) q = looks_till_two two q

  -- what is told after reads was told before them
  pub looks_told : (a b : Core R g) → LooksOn count slot told a b
      → IsSome (told (store_rack b.store)) → IsSome (told (store_rack a.store))
  looks_told a b p some = told_before (told (store_rack a.store))
      (told (store_rack b.store)) (AreArrayReads a.meta.setup.geometry.disks) p.looked.reads some

  -- the same, however they end
  pub looks_till_told : (a b : Core R g) (ending : Ending) → LooksTill count slot told a b ending
      → IsSome (told (store_rack b.store)) → IsSome (told (store_rack a.store))
  looks_till_told a b Lost p some = told_before (told (store_rack a.store))
      (told (store_rack b.store)) (AreArrayReads a.meta.setup.geometry.disks) p.looked.reads some
  looks_till_told a b (LostTwo two) p some = told_before (told (store_rack a.store))
      (told (store_rack b.store)) (AreArrayReads a.meta.setup.geometry.disks) p.reads some

-- a view that is shown is by the core's meta
pub view_agrees : {R : Type 0} {g : _} (told : R → Option Trail) (core : Core R g) (v : View)
    → ShowsView told core v → (v.meta ≡ core.meta) × (v.out ≡ named_out core.meta.out)
view_agrees told core v shows = (shows.meta, shows.out)
