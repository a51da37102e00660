-- Which disk was lost, in one call and in two.
use Rattle.std.specs.Prelude.{◌≡◌, ◌≢◌, ℕ, ◌<◌, true, Option, Some, None, Bool, false}
use Rattle.std.proofs.Common.{refl, sym, ◌∙◌, ap, subst, inl, inr}
use Rattle.std.proofs.lemmas.Bool.{cases_eq}
use Rattle.paraid_base.specs.declared.state.Phase.{Phase}
use Rattle.paraid_base.specs.declared.state.Phase.TheVariants.{Down, Steady, Up}
use Rattle.paraid_base.specs.States.{phase_beside}
use Rattle.paraid_base.proofs.ToldLemmas.{HasRisen-later, HasRisen-sooner}
use Rattle.paraid_rack.specs.Slots.{ChangesOneSlot, Slot}
use Rattle.paraid_record.specs.declared.meta.Meta.{Meta}
use Rattle.paraid_image.specs.Mark.{meta_after_loss, meta_with_lost}
use Rattle.paraid_image.specs.Out.{named_out}
use Rattle.paraid_txn.specs.Losses.{IsLostNow, IsWell, OnlyLosesSlots}
use Rattle.paraid_view.specs.Reads.{AreLeft}
use Rattle.paraid_core.specs.CoreInvariant.{lost_in}
use Rattle.paraid_core.specs.Lost.{LosesDisk, MarksLost}
use Rattle.paraid_core.proofs.AfterLemmas.{lost_in_is}
use Rattle.paraid_core.proofs.ReadyLemmas.{some_is}

-- with other counts
pub counts_of : (lost : Option ℕ) (m z : Meta) (e w : ℕ) → z ≡ meta_with_lost lost (record m { epoch = e; writes = w }) → z ≡ record (meta_with_lost lost m) { epoch = z.epoch; writes = z.writes }
counts_of None m z e w is = subst (λ (y : Meta). y ≡ record m { epoch = y.epoch; writes = y.writes }) (sym is) refl
counts_of (Some d) m z e w is = subst (λ (y : Meta). y ≡ record (meta_after_loss m d) { epoch = y.epoch; writes = y.writes }) (sym is) refl

well_same : (s t : Slot) → t ≡ s → IsWell s t
well_same s t is = record { faults = ap (λ (x : Slot). x.faults) is; power = ap (λ (x : Slot). x.power) is; size = ap (λ (x : Slot). x.size) is }

well_then : (a b c : Slot) → IsWell a b → IsWell b c → IsWell a c
well_then a b c p q = record { faults = q.faults ∙ p.faults; power = q.power ∙ p.power; size = q.size ∙ p.size }

-- reads in which this disk, or none, has failed
pub marks_read : (m m_then : Meta) (lost : Option ℕ) (old new : ℕ → Slot) (e w : ℕ) → AreLeft lost old new → m_then ≡ meta_with_lost (lost_in m lost) (record m { epoch = e; writes = w }) → ((d : ℕ) → lost ≡ Some d → d < m.setup.geometry.disks)
    → ((d x : ℕ) → lost ≡ Some d → named_out m.out ≡ Some x → x ≡ d) → MarksLost old new m m_then
marks_read m m_then lost old new e w left is low alone = record {
  lost = lost;
  is = counts_of lost m m_then e w (is ∙ ap (λ (o : Option ℕ). meta_with_lost o (record m { epoch = e; writes = w })) (lost_in_is m lost low));
  disk = low;
  alone = alone;
  failed = left.failed;
  others = λ d not. well_same (old d) (new d) (left.others d not);
}

-- nothing has changed
pub marks_none : (m m_then : Meta) (old new : ℕ → Slot) (e w : ℕ) → ((d : ℕ) → new d ≡ old d) → m_then ≡ record m { epoch = e; writes = w } → MarksLost old new m m_then
marks_none m m_then old new e w same is = record {
  lost = None;
  is = counts_of None m m_then e w is;
  disk = λ d k. let z : None ≡ Some d = k in cc;
  alone = λ d x k. let z : None ≡ Some d = k in cc;
  failed = λ d k. let z : None ≡ Some d = k in cc;
  others = λ d not. well_same (old d) (new d) (same d);
}

-- a commit in which this disk, or none, has failed
pub marks_commit : (m m_then : Meta) (lost : Option ℕ) (old new : ℕ → Slot) (e : ℕ) → ((d : ℕ) → lost ≢ Some d → IsWell (old d) (new d)) → ((d : ℕ) → lost ≡ Some d → IsLostNow old new d) → m_then ≡ meta_with_lost lost (record m { epoch = e })
    → ((d : ℕ) → lost ≡ Some d → d < m.setup.geometry.disks) → ((d x : ℕ) → lost ≡ Some d → named_out m.out ≡ Some x → x ≡ d) → MarksLost old new m m_then
marks_commit m m_then lost old new e well now is low alone = record {
  lost = lost;
  is = counts_of lost m m_then e m.writes is;
  disk = low;
  alone = alone;
  failed = now;
  others = well;
}

-- one call, done or failed
pub marks_done : (m : Meta) (old new : ℕ → Slot) (d : ℕ) (leaves : Slot) (dirt done : Bool) → ChangesOneSlot old new d leaves dirt done → IsWell (old d) leaves → done ≡ true → MarksLost old new m m
marks_done m old new d leaves dirt done touched well is = record {
  lost = None;
  is = counts_of None m m m.epoch m.writes refl;
  disk = λ x k. let z : None ≡ Some x = k in cc;
  alone = λ x y k. let z : None ≡ Some x = k in cc;
  failed = λ x k. let z : None ≡ Some x = k in cc;
  others = λ x not. elim (cases_eq x d) [
    | inl here ↦ subst (λ (y : ℕ). IsWell (old y) (new y)) (sym here) (well_then (old d) leaves (new d) well (well_same leaves (new d) (touched.done is)))
    | inr apart ↦ well_same (old x) (new x) (touched.others x apart)
  ];
}

pub marks_failed : (m m_then : Meta) (old new : ℕ → Slot) (d : ℕ) (leaves : Slot) (dirt done : Bool) → ChangesOneSlot old new d leaves dirt done → done ≡ false → m_then ≡ meta_after_loss m d → d < m.setup.geometry.disks
    → ((x : ℕ) → named_out m.out ≡ Some x → x ≡ d) → MarksLost old new m m_then
marks_failed m m_then old new d leaves dirt done touched failed is low alone = record {
  lost = Some d;
  is = counts_of (Some d) m m_then m.epoch m.writes is;
  disk = λ x k. subst (λ (y : ℕ). y < m.setup.geometry.disks) (some_is d x k) low;
  alone = λ x y k named. alone y named ∙ some_is d x k;
  failed = λ x k. subst (IsLostNow old new) (some_is d x k) (record { risen = touched.risen failed; absent = touched.absent failed });
  others = λ x not. well_same (old x) (new x) (touched.others x (λ here. not (ap Some (sym here))));
}

phase_twice : (p : Phase) → phase_beside true (phase_beside true p) ≡ phase_beside true p
phase_twice Steady = refl
phase_twice (Down to) = refl
phase_twice (Up to) = refl

lost_twice : (m : Meta) (d : ℕ) (e w : ℕ) → meta_after_loss (record (meta_after_loss m d) { epoch = e; writes = w }) d ≡ record (meta_after_loss m d) { epoch = e; writes = w }
lost_twice m d e w = ap (λ (p : Phase). record (meta_after_loss m d) { epoch = e; writes = w; phase = p }) (phase_twice m.phase)

-- one call after the other
module _ (a b c : ℕ → Slot) (m k z : Meta) (first : MarksLost a b m k) (second : MarksLost b c k z) (spared : OnlyLosesSlots a b) (later : OnlyLosesSlots b c) where
  abbrev Both : Type 0
  Both = MarksLost a c m z

  setup_by : (o : Option ℕ) → first.lost ≡ o → k.setup ≡ m.setup
  setup_by None is = ap (λ (y : Meta). y.setup) (first.is ∙ ap (λ (o : Option ℕ). record (meta_with_lost o m) { epoch = k.epoch; writes = k.writes }) is)
  setup_by (Some d) is = ap (λ (y : Meta). y.setup) (first.is ∙ ap (λ (o : Option ℕ). record (meta_with_lost o m) { epoch = k.epoch; writes = k.writes }) is)

  -- a disk that was lost in the first call stays so
  lost_still : (d : ℕ) → IsLostNow a b d → IsWell (b d) (c d) → IsLostNow a c d
  lost_still d lost well = record {
    risen = HasRisen-later (a d).faults (b d).faults (c d).faults lost.risen (later.no_fall d);
    absent = well.power ∙ lost.absent;
  }

  lost_again : (d : ℕ) → IsLostNow a b d → IsLostNow b c d → IsLostNow a c d
  lost_again d lost again = record {
    risen = HasRisen-later (a d).faults (b d).faults (c d).faults lost.risen (later.no_fall d);
    absent = again.absent;
  }

  lost_late : (d : ℕ) → IsLostNow b c d → IsLostNow a c d
  lost_late d lost = record {
    risen = HasRisen-sooner (a d).faults (b d).faults (c d).faults (spared.no_fall d) lost.risen;
    absent = lost.absent;
  }

  by : (p q : Option ℕ) → first.lost ≡ p → second.lost ≡ q → Both
  by None None p q =
      let one : k ≡ record m { epoch = k.epoch; writes = k.writes } = first.is ∙ ap (λ (o : Option ℕ). record (meta_with_lost o m) { epoch = k.epoch; writes = k.writes }) p in
      let two : z ≡ record k { epoch = z.epoch; writes = z.writes } = second.is ∙ ap (λ (o : Option ℕ). record (meta_with_lost o k) { epoch = z.epoch; writes = z.writes }) q in
      record {
        lost = None;
        is = two ∙ ap (λ (y : Meta). record y { epoch = z.epoch; writes = z.writes }) one;
        disk = λ d is. let n : None ≡ Some d = is in cc;
        alone = λ d x is. let n : None ≡ Some d = is in cc;
        failed = λ d is. let n : None ≡ Some d = is in cc;
        others = λ d not. well_then (a d) (b d) (c d) (first.others d (λ is. let n : None ≡ Some d = sym p ∙ is in cc)) (second.others d (λ is. let n : None ≡ Some d = sym q ∙ is in cc));
      }
  by (Some e) None p q =
      let one : k ≡ record (meta_after_loss m e) { epoch = k.epoch; writes = k.writes } = first.is ∙ ap (λ (o : Option ℕ). record (meta_with_lost o m) { epoch = k.epoch; writes = k.writes }) p in
      let two : z ≡ record k { epoch = z.epoch; writes = z.writes } = second.is ∙ ap (λ (o : Option ℕ). record (meta_with_lost o k) { epoch = z.epoch; writes = z.writes }) q in
      record {
        lost = Some e;
        is = two ∙ ap (λ (y : Meta). record y { epoch = z.epoch; writes = z.writes }) one;
        disk = λ d is. first.disk d (p ∙ is);
        alone = λ d x is. first.alone d x (p ∙ is);
        failed = λ d is. lost_still d (first.failed d (p ∙ is)) (second.others d (λ k. let n : None ≡ Some d = sym q ∙ k in cc));
        others = λ d not. well_then (a d) (b d) (c d) (first.others d (λ is. not (sym p ∙ is))) (second.others d (λ is. let n : None ≡ Some d = sym q ∙ is in cc));
      }
  by None (Some e) p q =
      let one : k ≡ record m { epoch = k.epoch; writes = k.writes } = first.is ∙ ap (λ (o : Option ℕ). record (meta_with_lost o m) { epoch = k.epoch; writes = k.writes }) p in
      let two : z ≡ record (meta_after_loss k e) { epoch = z.epoch; writes = z.writes } = second.is ∙ ap (λ (o : Option ℕ). record (meta_with_lost o k) { epoch = z.epoch; writes = z.writes }) q in
      record {
        lost = Some e;
        is = two ∙ ap (λ (y : Meta). record (meta_after_loss y e) { epoch = z.epoch; writes = z.writes }) one;
        disk = λ d is. subst (λ (y : _). d < y.geometry.disks) (setup_by None p) (second.disk d (q ∙ is));
        alone = λ d x is named. second.alone d x (q ∙ is) (ap (λ (y : Meta). named_out y.out) one ∙ named);
        failed = λ d is. lost_late d (second.failed d (q ∙ is));
        others = λ d not. well_then (a d) (b d) (c d) (first.others d (λ is. let n : None ≡ Some d = sym p ∙ is in cc)) (second.others d (λ is. not (sym q ∙ is)));
      }
  by (Some e) (Some f) p q =
      let one : k ≡ record (meta_after_loss m e) { epoch = k.epoch; writes = k.writes } = first.is ∙ ap (λ (o : Option ℕ). record (meta_with_lost o m) { epoch = k.epoch; writes = k.writes }) p in
      let two : z ≡ record (meta_after_loss k f) { epoch = z.epoch; writes = z.writes } = second.is ∙ ap (λ (o : Option ℕ). record (meta_with_lost o k) { epoch = z.epoch; writes = z.writes }) q in
      let same : e ≡ f = second.alone f e q (ap (λ (y : Meta). named_out y.out) one) in
      record {
        lost = Some e;
        is =
            two ∙ ap (λ (x : ℕ). record (meta_after_loss k x) { epoch = z.epoch; writes = z.writes }) (sym same)
            ∙ ap (λ (y : Meta). record (meta_after_loss y e) { epoch = z.epoch; writes = z.writes }) one
            ∙ ap (λ (y : Meta). record y { epoch = z.epoch; writes = z.writes }) (lost_twice m e k.epoch k.writes);
        disk = λ d is. first.disk d (p ∙ is);
        alone = λ d x is. first.alone d x (p ∙ is);
        failed = λ d is. lost_again d (first.failed d (p ∙ is)) (second.failed d (q ∙ ap Some (sym same) ∙ is));
        others = λ d not. well_then (a d) (b d) (c d) (first.others d (λ is. not (sym p ∙ is))) (second.others d (λ is. not (ap Some same ∙ sym q ∙ is)));
      }

  pub marks_then : Both
  marks_then = by first.lost second.lost refl refl

-- a disk that failed in the second of two calls
pub lost_after : (a b c : ℕ → Slot) (d : ℕ) → OnlyLosesSlots a b → IsLostNow b c d → IsLostNow a c d
lost_after a b c d spared lost = record {
  risen = HasRisen-sooner (a d).faults (b d).faults (c d).faults (spared.no_fall d) lost.risen;
  absent = lost.absent;
}

pub loses_after : (a b c : ℕ → Slot) (m z : Meta) → OnlyLosesSlots a b → LosesDisk b c m z → LosesDisk a c m z
loses_after a b c m z spared loses = record {
  disk = loses.disk;
  low = loses.low;
  failed = lost_after a b c loses.disk spared loses.failed;
  gone = loses.gone;
}

-- reads in which this disk has failed
pub loses_read : (m z : Meta) (d : ℕ) (old new : ℕ → Slot) → AreLeft (Some d) old new → z ≡ meta_with_lost (lost_in m (Some d)) m → d < m.setup.geometry.disks → LosesDisk old new m z
loses_read m z d old new left is low = record {
  disk = d;
  low = low;
  failed = left.failed d refl;
  gone = is ∙ ap (λ (o : Option ℕ). meta_with_lost o m) (lost_in_is m (Some d) (λ e k. subst (λ (y : ℕ). y < m.setup.geometry.disks) (some_is d e k) low));
}
