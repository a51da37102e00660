-- A disk that is lost leaves what a core stands for.
use Rattle.paraid_image.specs.Mark.{meta_after_loss}
use Rattle.std.specs.Prelude.{◌≡◌, ◌≢◌, ℕ, ◌+◌, ◌*◌, ◌<◌, ◌⊎◌, ◌&&◌, nat_lt, Bool, false, List, Option, Some, None, length, if◌then◌else◌}
use Rattle.std.proofs.Common.{refl, sym, ◌∙◌, ap, subst, arith, inl, inr}
use Rattle.std.proofs.lemmas.Bool.{cases_eq, false≢true}
use Rattle.paraid_base.specs.declared.block.Block.{Block}
use Rattle.paraid_base.specs.declared.state.Out.TheVariants.{Fresh, Gone}
use Rattle.paraid_base.specs.History.{History}
use Rattle.paraid_base.specs.Log.{log_least}
use Rattle.paraid_base.specs.Regions.{map_count}
use Rattle.paraid_base.specs.Xor.{zero_block}
use Rattle.paraid_dirty.specs.Table.{is_dirty}
use Rattle.paraid_rack.specs.declared.call.Call.{Call}
use Rattle.paraid_rack.specs.declared.call.Call.TheVariants.{Read}
use Rattle.paraid_rack.specs.declared.call.Power.{Power}
use Rattle.paraid_rack.specs.declared.call.Power.TheVariants.{Absent, Parked}
use Rattle.paraid_rack.specs.Disks.{Disks, IsPresent, is_present, lose, step}
use Rattle.paraid_rack.proofs.AtomsLemmas.{with_at_other, with_at_same}
use Rattle.paraid_record.specs.declared.meta.Meta.{Meta}
use Rattle.paraid_record.specs.Range.{IsInRange}
use Rattle.paraid_txn.specs.Commit.{IsNext}
use Rattle.paraid_image.specs.Calls.{disk_of, is_done}
use Rattle.paraid_image.specs.Content.{view_by}
use Rattle.paraid_image.specs.LostDisk.{IsLoss}
use Rattle.paraid_image.specs.Out.{IsMissing, first_absent, named_out, or_else, out_disk}
use Rattle.paraid_image.specs.Sides.{Batch}
use Rattle.paraid_image.specs.Sound.{ContentOk}
use Rattle.paraid_image.specs.Standing.{contents, overlaid_block}
use Rattle.paraid_image.proofs.OutLemmas.{first_absent_finds, first_absent_is}
use Rattle.paraid_image.proofs.FailedCallLemmas.{failed_is_loss}
use Rattle.paraid_image.proofs.ViewLemmas.{dirty_without}
use Rattle.paraid_moves.specs.Copying.{HoldsWithCopies, without_disk}
use Rattle.paraid_moves.proofs.RangeLemmas.{out_in_range}
use Rattle.paraid_moves.proofs.RunLemmas.{copies_lost}
use Rattle.paraid_plan.specs.LossMark.{IsLostDisk}
use Rattle.paraid_plan.proofs.LostLemmas.{lost_keeps}
use Rattle.paraid_core.specs.CoreInvariant.{HoldsBetweenCalls, is_copied}
use Rattle.paraid_core.proofs.BorneLemmas.{borne_failed}
use Rattle.paraid_core.proofs.MomentLemmas.{base_in_range}

pub lost_in_range : (m : Meta) (d : ℕ) → IsInRange m → d < m.setup.geometry.disks → IsInRange (meta_after_loss m d)
lost_in_range m d range low = out_in_range m d m.spins range low range.eight (λ e. omega arith)

-- where no disk is out, none is absent and none is named
pub none_named : (power : ℕ → Power) (m : Meta) → out_disk power m ≡ None → named_out m.out ≡ None
none_named power m none = by (named_out m.out) refl none
  where
    by : (o : Option ℕ) → named_out m.out ≡ o → or_else o (first_absent power m.setup.geometry.disks) ≡ None → o ≡ None
    by None is h = refl
    by (Some d) is h = cc

pub none_absent : (power : ℕ → Power) (m : Meta) → out_disk power m ≡ None → (d : ℕ) → d < m.setup.geometry.disks → is_present (power d) ≡ false → ⊥
none_absent power m none d low gone =
    let found = first_absent_finds power m.setup.geometry.disks d low gone in
    let z : or_else (named_out m.out) (first_absent power m.setup.geometry.disks) ≡ None = none in
    let y : first_absent power m.setup.geometry.disks ≡ None = ap (λ (o : Option ℕ). or_else o (first_absent power m.setup.geometry.disks)) (sym (none_named power m none)) ∙ z in
    let x : None ≡ Some found.0 = sym y ∙ found.1 in cc

-- where each absent disk is named, the out disk is the one that is named
pub out_all : (power : ℕ → Power) (m : Meta) → ((d : ℕ) → d < m.setup.geometry.disks → is_present (power d) ≡ false → named_out m.out ≡ Some d) → out_disk power m ≡ named_out m.out
out_all power m absent = by (named_out m.out) (first_absent power m.setup.geometry.disks) refl refl
  where
    by : (o f : Option ℕ) → named_out m.out ≡ o → first_absent power m.setup.geometry.disks ≡ f → or_else o f ≡ o
    by (Some d) f is at = refl
    by None None is at = refl
    by None (Some u) is at =
        let k = first_absent_is power m.setup.geometry.disks u at in
        let z : None ≡ Some u = sym is ∙ absent u k.0 k.1 in cc

-- A call on a disk of the array fails, and no other disk is out.
module _ (slots : ℕ) (named : Option ℕ) (m : Meta) (table : List (List Bool)) (batch : Batch) (copied : List Bool) (h : History) (lo : ℕ) (s : Disks) (c : Call)
    (in_range : IsInRange m) (low : disk_of c < m.setup.geometry.disks) (failed : is_done c ≡ false)
    (absent : (x : ℕ) → x < m.setup.geometry.disks → is_present (s.power x) ≡ false → named_out m.out ≡ Some x) (alone : (x : ℕ) → named_out m.out ≡ Some x → x ≡ disk_of c)
    (stays : (x : ℕ) → named ≡ Some x → named_out m.out ≡ Some x) (k : HoldsBetweenCalls slots named m table batch copied h lo s) where
  abbrev d : ℕ
  d = disk_of c

  abbrev t : Disks
  t = step c s

  lost : IsLoss s t d
  lost = failed_is_loss s c failed

  gone : t.power d ≡ Absent
  gone = lost.power d ∙ with_at_same s.power d Absent d refl

  power_other : (x : ℕ) → x ≢ d → t.power x ≡ s.power x
  power_other x apart = lost.power x ∙ with_at_other s.power d Absent x apart

  size_other : (x : ℕ) → x ≢ d → t.size x ≡ s.size x
  size_other x apart = lost.size x ∙ with_at_other s.size d 0 x apart

  contents_other : (x q : ℕ) → x ≢ d → contents t batch x q ≡ contents s batch x q
  unfolding contents
  contents_other x q apart =
      ap (λ (w : Power). if nat_lt q log_least then zero_block else (if is_present w && nat_lt q (t.size x) then overlaid_block batch x q (t.block x q) else zero_block)) (power_other x apart)
      ∙ ap (λ (z : ℕ). if nat_lt q log_least then zero_block else (if is_present (s.power x) && nat_lt q z then overlaid_block batch x q (t.block x q) else zero_block)) (size_other x apart)
      ∙ ap (λ (b : Block). if nat_lt q log_least then zero_block else (if is_present (s.power x) && nat_lt q (s.size x) then overlaid_block batch x q b else zero_block)) (lost.block x q apart)

  shape : m.setup ≡ k.base.setup
  shape = k.next.setup

  low_base : d < k.base.setup.geometry.disks
  low_base = subst (λ (z : _). d < z.geometry.disks) shape low

  named_is : (x : ℕ) → named_out k.base.out ≡ Some x → x ≡ d
  named_is x is = alone x (stays x (sym k.named_by ∙ is))

  missing_is : (x : ℕ) → IsMissing s.power k.base x → x ≡ d
  missing_is x missing = elim missing.is [
    | inl away ↦ alone x (absent x (subst (λ (z : _). x < z.geometry.disks) (sym shape) missing.disk) away)
    | inr is ↦ named_is x is
  ]

  copies_after : HoldsWithCopies slots k.base (without_disk k.held d) h lo t
  copies_after =
      copies_lost slots k.base k.held h lo s c failed (base_in_range slots k.base k.held h lo s k.copies) (record { copies = k.copies; disk = low_base; others = missing_is })

  not_here : (x : ℕ) → x ≡ d → IsPresent t x → ⊥
  not_here x is here = false≢true (sym (ap is_present (ap t.power is ∙ gone)) ∙ here)

  synced_after : (x p : ℕ) → IsPresent t x → (x < m.setup.geometry.disks → is_copied copied x ≡ false) → t.loose x p ≡ false
  synced_after x p here copies_synced = elim (cases_eq x d) [
    | inl is ↦ absurd (not_here x is here)
    | inr apart ↦ lost.loose x p apart ∙ k.synced x p (ap is_present (sym (power_other x apart)) ∙ here) copies_synced
  ]

  next_after : IsNext t k.base (record (meta_after_loss m d) { epoch = m.epoch + 1 })
  next_after = record {
    epoch = ap (λ (z : ℕ). z + 1) k.epoch;
    setup = shape;
    out = λ x e p q. some_only x p ∙ sym (named_is e q);
    comes_in = λ x l here was not. absurd (not_here x (named_is x was) here);
    fresh_closed = λ x u fresh l. let z : Gone d ≡ Fresh x u = fresh.is in cc;
  }
    where
      some_only : (x : ℕ) → Some d ≡ Some x → x ≡ d
      some_only x is = cc

  out_was : out_disk s.power m ≡ named_out m.out
  out_was = out_all s.power m absent

  loss : IsLostDisk m s.power t.power s.size t.size (contents s batch) (contents t batch) d
  loss = record {
    alone = alone;
    powers = power_other;
    sizes = size_other;
    blocks = λ e p apart. contents_other e p apart;
    log_disk = λ l parked. let z : Absent ≡ Parked = sym gone ∙ parked in cc;
  }

  staged_after : ContentOk slots t.power t.size (view_by (meta_after_loss m d) t.power (contents t batch)) h (length h)
  staged_after =
      let both = lost_keeps slots s.power t.power s.size t.size m (contents s batch) (contents t batch) d in_range (lost_in_range m d in_range low) out_was k.staged.kept loss in
      record { kept = both.0; blocks = λ b l. both.1 b l ∙ k.staged.blocks b l }

  was_out : (out_disk s.power m ≡ None) ⊎ (out_disk s.power m ≡ Some d)
  was_out = by (named_out m.out) refl
    where
      by : (o : Option ℕ) → named_out m.out ≡ o → (out_disk s.power m ≡ None) ⊎ (out_disk s.power m ≡ Some d)
      by None at = inl (out_was ∙ at)
      by (Some x) at = inr (out_was ∙ at ∙ ap Some (alone x at))

  dirty_after : (r e : ℕ) → r < 512 * map_count m.setup.geometry → is_dirty table r e ≡ (view_by (meta_after_loss m d) t.power (contents t batch)).dirty r e
  dirty_after r e l = k.dirty r e l ∙ sym (dirty_without m.setup.geometry (out_disk s.power m) (contents s batch) (contents t batch) d was_out
      (λ x q apart. contents_other x q apart)
      (λ j lj none. k.staged.kept.map.mirrored j lj (λ o. let z : None ≡ Some 0 = sym none ∙ o in cc) (λ o. let z : None ≡ Some 1 = sym none ∙ o in cc)) r e l)

  pub keeps_failed : HoldsBetweenCalls slots named (meta_after_loss m d) table batch copied h lo t
  keeps_failed = record {
    base = k.base;
    held = without_disk k.held d;
    copies = copies_after;
    synced = synced_after;
    named_by = k.named_by;
    borne = borne_failed named s k.borne c failed;
    epoch = k.epoch;
    next = next_after;
    writes = k.writes;
    brought = k.brought;
    staged = staged_after;
    dirty = dirty_after;
  }

  pub failed_base : keeps_failed.base ≡ k.base
  unfolding keeps_failed
  failed_base = refl

-- a disk is lost where none was out
pub keeps_lost : (slots : ℕ) (named : Option ℕ) (m : Meta) (table : List (List Bool)) (batch : Batch) (copied : List Bool) (h : History) (lo : ℕ) (s : Disks) (d : ℕ)
    → IsInRange m → d < m.setup.geometry.disks → out_disk s.power m ≡ None → ((x : ℕ) → named ≡ Some x → named_out m.out ≡ Some x)
    → HoldsBetweenCalls slots named m table batch copied h lo s → HoldsBetweenCalls slots named (meta_after_loss m d) table batch copied h lo (lose d s)
unfolding step
keeps_lost slots named m table batch copied h lo s d in_range low none stays k =
    keeps_failed slots named m table batch copied h lo s (Read d 0 false) in_range low refl (λ x l away. absurd (none_absent s.power m none x l away))
    (λ x is. let z : None ≡ Some x = sym (none_named s.power m none) ∙ is in cc) stays k
