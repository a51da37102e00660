-- How one step of a plan follows the other.
use Rattle.std.specs.Prelude.{[], ◌≡◌, ◌≢◌, ℕ, ◌<◌, Option, Some, None, IsSome}
use Rattle.std.proofs.Common.{refl, sym, ◌∙◌, ap, subst}
use Rattle.paraid_rack.specs.Slots.{Slot}
use Rattle.paraid_rack.specs.Told.{Ran}
use Rattle.paraid_rack.specs.Trail.{Trail}
use Rattle.paraid_record.specs.declared.meta.Meta.{Meta}
use Rattle.paraid_image.specs.Lost.{EndsByLoss}
use Rattle.paraid_image.specs.Out.{named_out}
use Rattle.paraid_image.proofs.LostLemmas.{ran_ends}
use Rattle.paraid_rack.proofs.TrailsLemmas.{Ran-none}
use Rattle.paraid_txn.specs.Stores.{disks_of, store_rack}
use Rattle.paraid_view.specs.Reads.{AreLeft, AreArrayReads, AreOffDisk}
use Rattle.paraid_view.proofs.ReadLemmas.{left_none, left_then, off_none, off_then, ran_none, ran_then, told_before}
use Rattle.paraid_core.specs.declared.staged.Core.{Core}
use Rattle.paraid_core.specs.Plans.{LeadsTo}

module _ {R : Type 0} {g : _} (count : R → ℕ) (slot : R → ℕ → Slot) (told : R → Option Trail) where
  -- a core leads to itself (a fact)
  pub leads_stays : (a : Core R g) → LeadsTo count slot told a a
  leads_stays a = record {
    slots = refl;
    same = record { disks = refl; epoch = refl; named = refl };
    meta = refl;
    batch = refl;
    copied = refl;
    rows = refl;
    undone_same = refl;
    logged = λ are. are;
    calls = ran_none (told (store_rack a.store)) (disks_of a.store);
    off = off_none (named_out a.meta.out) (told (store_rack a.store));
    left = λ none.
        subst (λ (f : Option ℕ). AreLeft f (slot (store_rack a.store)) (slot (store_rack a.store)))
        (sym none) (left_none (slot (store_rack a.store)));
    ends = λ none. Ran-none (λ s cs. EndsByLoss a.failed cs) (λ s.
        subst (λ (f : Option ℕ). EndsByLoss f []) (sym none) refl) (told (store_rack a.store));
    over = λ e is. (is, refl);
    still = λ e is. refl;
    below = λ e none is. let z : None ≡ Some e = sym none ∙ is in cc;
  }

  module _ (a b c : Core R g)
      (p : LeadsTo count slot told a b) (q : LeadsTo count slot told b c) where
    abbrev sa : ℕ → Slot
    sa = slot (store_rack a.store)

    abbrev sc : ℕ → Slot
    sc = slot (store_rack c.store)

    left_by : (f : Option ℕ) → b.failed ≡ f → a.failed ≡ None → AreLeft c.failed sa sc
    left_by None is none = left_then c.failed sa (slot (store_rack b.store)) sc (subst
        (λ (f : Option ℕ). AreLeft f sa (slot (store_rack b.store))) is (p.left none)) (q.left is)
    left_by (Some e) is none =
        let o = q.over e is in
        subst (λ (s : ℕ → Slot). AreLeft c.failed sa s) (sym o.1) (subst (λ (f : Option ℕ).
        AreLeft f sa (slot (store_rack b.store))) (is ∙ sym o.0) (p.left none))

    ends_by : (f : Option ℕ) → b.failed ≡ f → a.failed ≡ None → Ran
        (told (store_rack a.store)) (told (store_rack c.store)) (λ s cs. EndsByLoss c.failed cs)
    ends_by None is none = ran_ends c.failed (told (store_rack a.store)) (told (store_rack b.store))
        (told (store_rack c.store)) (subst (λ (f : Option ℕ). Ran (told (store_rack a.store))
        (told (store_rack b.store)) (λ s cs. EndsByLoss f cs)) is (p.ends none)) (q.ends is)
    ends_by (Some e) is none = subst (λ (f : Option ℕ).
        Ran (told (store_rack a.store)) (told (store_rack c.store)) (λ s cs. EndsByLoss f cs))
        (is ∙ sym (q.over e is).0) (subst (λ (t : Option Trail). Ran (told (store_rack a.store)) t
        (λ s cs. EndsByLoss b.failed cs)) (sym (q.still e is)) (p.ends none))

    below_by : (f : Option ℕ) → b.failed ≡ f → (e : ℕ) → a.failed ≡ None
        → c.failed ≡ Some e → (e < disks_of a.store) × (named_out a.meta.out ≢ Some e)
    below_by None is e none at =
        let k = q.below e is at in (
          subst (λ (n : ℕ). e < n) p.same.disks k.0,
          subst (λ (m : Meta). named_out m.out ≢ Some e) p.meta k.1,
        )
    below_by (Some x) is e none at =
        let o = q.over x is in
        let z : Some x ≡ Some e = sym o.0 ∙ at in
        let y : x ≡ e = cc in
        p.below e none (is ∙ ap Some y)

    pub leads_then : LeadsTo count slot told a c
    leads_then = record {
      slots = q.slots ∙ p.slots;
      same = record {
        disks = q.same.disks ∙ p.same.disks;
        epoch = q.same.epoch ∙ p.same.epoch;
        named = q.same.named ∙ p.same.named;
      };
      meta = q.meta ∙ p.meta;
      batch = q.batch ∙ p.batch;
      copied = q.copied ∙ p.copied;
      rows = q.rows ∙ p.rows;
      undone_same = q.undone_same ∙ p.undone_same;
      logged = λ are. q.logged (p.logged are);
      calls = ran_then
          (told (store_rack a.store)) (told (store_rack b.store)) (told (store_rack c.store))
          (disks_of a.store) p.calls (subst (λ (n : ℕ). Ran (told (store_rack b.store))
          (told (store_rack c.store)) (AreArrayReads n)) p.same.disks q.calls);
      off = off_then (named_out a.meta.out) (told (store_rack a.store)) (told (store_rack b.store))
          (told (store_rack c.store)) p.off (subst (λ (m : Meta). Ran (told (store_rack b.store))
          (told (store_rack c.store)) (AreOffDisk (named_out m.out))) p.meta q.off);
      left = left_by b.failed refl;
      ends = ends_by b.failed refl;
      over = λ e is. let o = p.over e is in let k = q.over e o.0 in (k.0, k.1 ∙ o.1);
      still = λ e is. q.still e (p.over e is).0 ∙ p.still e is;
      below = below_by b.failed refl;
    }

  -- where a core tells its record, one that leads to it told it too (a fact)
  pub leads_told : (a b : Core R g) → LeadsTo count slot told a b
      → IsSome (told (store_rack b.store)) → IsSome (told (store_rack a.store))
  leads_told a b p some = told_before (told (store_rack a.store))
      (told (store_rack b.store)) (AreArrayReads (disks_of a.store)) p.calls some
