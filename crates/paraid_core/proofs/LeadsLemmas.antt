-- A read leads a plan on.
use Rattle.std.specs.Prelude.{◌≡◌, ◌≢◌, ℕ, ◌<◌, ◌≤◌, Option, Some, None}
use Rattle.std.proofs.Common.{refl, sym, ◌∙◌, ap, subst}
use Rattle.paraid_base.specs.Regions.{disk_size}
use Rattle.paraid_rack.specs.Slots.{Slot}
use Rattle.paraid_rack.specs.Told.{Ran}
use Rattle.paraid_rack.specs.Trail.{Trail}
use Rattle.paraid_record.specs.declared.meta.Meta.{Meta}
use Rattle.paraid_image.specs.Lost.{EndsByLoss}
use Rattle.paraid_image.specs.Out.{named_out}
use Rattle.paraid_txn.specs.declared.store.Store.{Store}
use Rattle.paraid_txn.specs.Stores.{disks_of, store_rack}
use Rattle.paraid_view.specs.Reads.{AreLeft, AreOffDisk, CanRead, HaveRead}
use Rattle.paraid_core.specs.declared.staged.Core.{Core}
use Rattle.paraid_core.specs.Plans.{LeadsTo, ServesPlan}

module _ {R : Type 0} {g : _} (count : R → ℕ) (slot : R → ℕ → Slot) (told : R → Option Trail) (a : Core R g) (whole : a.failed ≡ None) (store : Store R g) (lost : Option ℕ)
    (read : HaveRead count slot told (disks_of a.store) lost a.store store) (off : Ran (told (store_rack a.store)) (told (store_rack store)) (AreOffDisk (named_out a.meta.out)))
    (below : (e : ℕ) → lost ≡ Some e → (e < disks_of a.store) × (named_out a.meta.out ≢ Some e)) where
  pub leads_read : (failed : Option ℕ) → failed ≡ lost → LeadsTo count slot told a (record a { store = store; failed = failed })
  leads_read failed is = record {
    slots = read.slots;
    same = read.same;
    meta = refl;
    batch = refl;
    copied = refl;
    rows = refl;
    undone_same = refl;
    logged = λ are. are;
    calls = read.calls;
    off = off;
    left = λ none. subst (λ (f : Option ℕ). AreLeft f (slot (store_rack a.store)) (slot (store_rack store))) (sym is) read.left;
    ends = λ none. subst (λ (f : Option ℕ). Ran (told (store_rack a.store)) (told (store_rack store)) (λ s cs. EndsByLoss f cs)) (sym is) read.ends;
    over = λ e k. let z : None ≡ Some e = sym whole ∙ k in cc;
    still = λ e k. let z : None ≡ Some e = sym whole ∙ k in cc;
    below = λ e none k. below e (sym is ∙ k);
  }

-- after reads in which no disk was lost cells can be read still
pub read_can : {R : Type 0} {g : _} (count : R → ℕ) (slot : R → ℕ → Slot) (told : R → Option Trail) (old new : Store R g) (m : Meta) (out : Option ℕ) (n : ℕ) → HaveRead count slot told n None old new
    → CanRead (count (store_rack old)) (slot (store_rack old)) m out → CanRead (count (store_rack new)) (slot (store_rack new)) m out
read_can count slot told old new m out n read can = record {
  enough = subst (λ (n : ℕ). m.setup.geometry.disks ≤ n) (sym read.slots) can.enough;
  spins = λ d on not. ap (λ (s : Slot). s.power) (same d) ∙ can.spins d on not;
  large = λ d on not. subst (λ (s : Slot). disk_size m.setup.geometry ≤ s.size) (sym (same d)) (can.large d on not);
}
  where
    same : (d : ℕ) → slot (store_rack new) d ≡ slot (store_rack old) d
    same d = read.left.others d (λ is. let z : None ≡ Some d = is in cc)

pub read_serves : {R : Type 0} {g : _} (count : R → ℕ) (slot : R → ℕ → Slot) (told : R → Option Trail) (a : Core R g) (store : Store R g) (m : Meta) → HaveRead count slot told (disks_of a.store) None a.store store → ServesPlan count slot a m
    → ServesPlan count slot (record a { store = store }) m
read_serves count slot told a store m read serves = record {
  array = serves.array ∙ sym read.same.disks;
  rows = serves.rows;
  ready = read_can count slot told a.store store m (named_out m.out) (disks_of a.store) read serves.ready;
  out = serves.out;
  whole = serves.whole;
}
