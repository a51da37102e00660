-- A commit, and a count after it.
use Rattle.std.proofs.Common.{◌≡◌, ℕ, ◌+◌, ◌<◌, Bool, true, false, List, [], Option, Some, None, refl, sym, ap, ◌∙◌, subst, inl, inr, arith}
use Rattle.std.specs.Prelude.{IsSome}
use Rattle.std.proofs.lemmas.Bool.{false≢true}
use Rattle.std.proofs.lemmas.List.{append-nil}
use Rattle.paraid_base.specs.declared.fault.Two.{Two}
use Rattle.paraid_base.specs.declared.state.Out.{Out}
use Rattle.paraid_base.specs.declared.state.Out.TheVariants.{Fresh, Gone, No}
use Rattle.paraid_base.specs.States.{gone_out, rebuilt_count}
use Rattle.paraid_base.specs.Told.{HasRisen}
use Rattle.paraid_rack.specs.declared.call.Call.{Call}
use Rattle.paraid_rack.specs.declared.call.Power.TheVariants.{Spinning}
use Rattle.paraid_rack.specs.Disks.{is_present}
use Rattle.paraid_rack.specs.Slots.{Slot}
use Rattle.paraid_rack.specs.Told.{Ran}
use Rattle.paraid_rack.specs.Trail.{Trail, now}
use Rattle.paraid_record.specs.declared.meta.Meta.{Meta}
use Rattle.paraid_image.specs.Out.{named_out}
use Rattle.paraid_image.specs.Spot.{View}
use Rattle.paraid_image.specs.Mark.{meta_with_lost}
use Rattle.paraid_txn.specs.Losses.{IsGoneSince, OnlyLosesSlots}
use Rattle.paraid_txn.specs.Stores.{named_of}
use Rattle.paraid_core.specs.declared.staged.Core.{Core}
use Rattle.paraid_core.specs.Calls.{MakesTransferCalls}
use Rattle.paraid_core.specs.Cores.{CanCoreServe, core_down, core_rack}
use Rattle.paraid_core.specs.Lost.{CoreMarksLost, CoreTellsLosses, MakesReads, MarksLost}
use Rattle.paraid_core.specs.Units.{IsRebuilding}
use Rattle.paraid_core.proofs.OrderLemmas.{down_is_named}
use Rattle.paraid_core.proofs.ReadyLemmas.{some_is}
use Rattle.paraid_scrub.specs.Cores.{HasMapBits, core_view, table_view}
use Rattle.paraid_scrub.specs.Counts.{AreCounts, CountBelow, CountsByView, IsOff, no_faults, part, total}
use Rattle.paraid_scrub.specs.Counts.CountBelow.{none as none_counted}
use Rattle.paraid_scrub.specs.declared.kind.CheckReport.{CheckReport}
use Rattle.paraid_scrub.specs.declared.kind.Kind.TheVariants.{Row, Stripe, Fill, Unit as RebuiltUnit, Mirror}
use Rattle.paraid_session.proofs.FaultLemmas.{rose_later}
use Rattle.paraid_view.specs.Reads.{AreArrayReads}
use Rattle.paraid_array.specs.Checked.{CountsCommitted}

-- a disk that is being rebuilt after a call was so before it, and spins
module _ (old new : ℕ → Slot) (m z : Meta) (marks : MarksLost old new m z) where
  pub spins_then : ((d : ℕ) → IsRebuilding m d → (old d).power ≡ Spinning) → (d : ℕ) → IsRebuilding z d → (new d).power ≡ Spinning
  spins_then spins d fresh = by marks.lost refl
    where
      out_by : (o : Option ℕ) → marks.lost ≡ o → z.out ≡ (meta_with_lost o m).out
      out_by o is = ap (λ (y : Meta). y.out) marks.is ∙ ap (λ (l : Option ℕ). (meta_with_lost l m).out) is

      by : (o : Option ℕ) → marks.lost ≡ o → (new d).power ≡ Spinning
      by None none = (marks.others d (λ e. let y : None ≡ Some d = sym none ∙ e in cc)).power ∙ spins d (subst (λ (o : Out). o ≡ Fresh d (rebuilt_count o)) (out_by None none) fresh)
      by (Some x) some = let y : Some x ≡ None = sym (ap gone_out (out_by (Some x) some)) ∙ ap gone_out fresh in cc

module _ {R : Type 0} {g : _} (slot : R → ℕ → Slot) (core : Core R g) (serves : CanCoreServe slot core) where
  pub down_named : core_down core ≡ named_out core.meta.out
  down_named = down_is_named (named_of core.store) (named_out core.meta.out) serves.stays

  -- it is told beside the disk that the meta names out
  pub tells_named : (told : R → Option Trail) (new : Core R g) (two : Two) → CoreTellsLosses told (core_down core) core new two → CoreTellsLosses told (named_out core.meta.out) core new two
  tells_named told new two tells = subst (λ (o : Option ℕ). CoreTellsLosses told o core new two) down_named tells

  -- what a later call calls out by the last commit was down before it
  pub was_down : (named : Option ℕ) → named ≡ named_out core.meta.out → (d : ℕ) → named ≡ Some d → core_down core ≡ Some d
  was_down named same d is = down_named ∙ sym same ∙ is

-- of none nothing is false
none_of : (P : ℕ → Type 0) (from size : ℕ) → CountBelow P (part 0 from size) 0
none_of P from size = let none_seen : part 0 from size ≡ 0 = grind (arith) in subst (λ (k : ℕ). CountBelow P k 0) (sym none_seen) none_counted

nothing_seen : (v : View) → AreCounts v 0 no_faults
nothing_seen v = record {
  rows = none_of (IsOff v Row) 0 (total v.meta v.out Row);
  stripes = none_of (IsOff v Stripe) (total v.meta v.out Row) (total v.meta v.out Stripe);
  fill = none_of (IsOff v Fill) (total v.meta v.out Row + total v.meta v.out Stripe) (total v.meta v.out Fill);
  units = none_of (IsOff v RebuiltUnit) (total v.meta v.out Row + total v.meta v.out Stripe + total v.meta v.out Fill) (total v.meta v.out RebuiltUnit);
  mirrors = none_of (IsOff v Mirror) (total v.meta v.out Row + total v.meta v.out Stripe + total v.meta v.out Fill + total v.meta v.out RebuiltUnit) (total v.meta v.out Mirror);
}

-- a disk that was there has failed in a commit after which another one is out
module _ (old new : ℕ → Slot) (m z : Meta) (marks : MarksLost old new m z) (absent : (d : ℕ) → d < m.setup.geometry.disks → is_present (old d).power ≡ false → named_out m.out ≡ Some d)
    (spins : (d : ℕ) → IsRebuilding m d → (old d).power ≡ Spinning) (apart : z.out ≡ m.out → ⊥) where
  out_by : (o : Option ℕ) → marks.lost ≡ o → z.out ≡ (meta_with_lost o m).out
  out_by o is = ap (λ (y : Meta). y.out) marks.is ∙ ap (λ (l : Option ℕ). (meta_with_lost l m).out) is

  -- the one that was lost was not out, or was there
  not_away : (x : ℕ) → z.out ≡ Gone x → (o : Out) → m.out ≡ o → named_out o ≡ Some x → is_present (old x).power ≡ false → ⊥
  not_away x gone No is named away = let y : None ≡ Some x = named in cc
  not_away x gone (Gone y) is named away = apart (gone ∙ ap Gone (sym (some_is y x named)) ∙ sym is)
  not_away x gone (Fresh y u) is named away =
      let fresh : m.out ≡ Fresh x u = is ∙ ap (λ (n : ℕ). Fresh n u) (some_is y x named) in
      false≢true (sym away ∙ ap is_present (spins x (fresh ∙ ap (Fresh x) (sym (ap rebuilt_count fresh)))))

  was_there : (x : ℕ) → marks.lost ≡ Some x → (b : Bool) → is_present (old x).power ≡ b → is_present (old x).power ≡ true
  was_there x some true here = here
  was_there x some false away = absurd (not_away x (out_by (Some x) some) m.out refl (absent x (marks.disk x some) away) away)

  out_failed : (d : ℕ) × IsGoneSince old new d × HasRisen (old d).faults (new d).faults
  out_failed = by marks.lost refl
    where
      by : (o : Option ℕ) → marks.lost ≡ o → (d : ℕ) × IsGoneSince old new d × HasRisen (old d).faults (new d).faults
      by None is = absurd (apart (out_by None is))
      by (Some x) is = let failed = marks.failed x is in (x, record { there = was_there x is (is_present (old x).power) refl; absent = failed.absent }, failed.risen)

no_reads : (told : Option Trail) (n : ℕ) → Ran told told (AreArrayReads n)
no_reads told n t tells = record {
  from = t;
  was = tells;
  calls = [];
  is = ap (λ (l : List Call). record { start = t.start; calls = l }) (sym (append-nil t.calls));
  holds = tt;
}

module _ {R : Type 0} {g : _} (slot : R → ℕ → Slot) (told : R → Option Trail) (old kept : Core R g) (nothing : kept.batch ≡ []) (table : kept.dirty ≡ old.dirty) (marks : CoreMarksLost slot old kept) (calls : MakesTransferCalls told old kept) where
  -- a disk was lost in the commit, and nothing was counted
  pub counts_none : ((d : ℕ) → d < old.meta.setup.geometry.disks → is_present (slot (core_rack old) d).power ≡ false → named_out old.meta.out ≡ Some d) → ((d : ℕ) → IsRebuilding old.meta d → (slot (core_rack old) d).power ≡ Spinning)
      → (kept.meta.out ≡ old.meta.out → ⊥) → CountsCommitted slot told old kept no_faults
  counts_none absent spins apart = record {
    kept = kept;
    nothing = nothing;
    table = table;
    marks = marks;
    calls = calls;
    reads = no_reads (told (core_rack kept)) kept.meta.setup.geometry.disks;
    by_table = λ t tells some. none_by (table_view kept (now t));
    counts = λ t tells some bits. none_by (core_view kept (now t));
  }
    where
      none_by : (v : View) → CountsByView v (slot (core_rack old)) (slot (core_rack kept)) no_faults
      none_by v = record {
        seen = 0;
        counts = nothing_seen v;
        all = inr (out_failed (slot (core_rack old)) (slot (core_rack kept)) old.meta kept.meta marks absent spins apart);
      }

  -- all was counted after it, or a disk was lost in that
  pub counts_all : (new : Core R g) (report : CheckReport) → OnlyLosesSlots (slot (core_rack old)) (slot (core_rack kept)) → MakesReads told kept new
      → ((t : Trail) → told (core_rack kept) ≡ Some t → IsSome (told (core_rack new)) → CountsByView (table_view kept (now t)) (slot (core_rack kept)) (slot (core_rack new)) report)
      → ((t : Trail) → told (core_rack kept) ≡ Some t → IsSome (told (core_rack new)) → HasMapBits kept (core_view kept (now t)) → CountsByView (core_view kept (now t)) (slot (core_rack kept)) (slot (core_rack new)) report)
      → CountsCommitted slot told old new report
  counts_all new report spared reads by_table by_map = record {
    kept = kept;
    nothing = nothing;
    table = table;
    marks = marks;
    calls = calls;
    reads = reads;
    by_table = λ t tells some. since (table_view kept (now t)) (by_table t tells some);
    counts = λ t tells some bits. since (core_view kept (now t)) (by_map t tells some bits);
  }
    where
      since : (v : View) → CountsByView v (slot (core_rack kept)) (slot (core_rack new)) report → CountsByView v (slot (core_rack old)) (slot (core_rack new)) report
      since v it = record {
        seen = it.seen;
        counts = it.counts;
        all = elim it.all [
          | inl all ↦ inl all
          | inr failed ↦ inr (failed.0, record { there = ap is_present (sym (spared.power failed.0 failed.1.there)) ∙ failed.1.there; absent = failed.1.absent }, rose_later (slot (core_rack old) failed.0).faults (slot (core_rack kept) failed.0).faults (slot (core_rack new) failed.0).faults (inl (spared.no_fall failed.0)) failed.2)
        ];
      }
