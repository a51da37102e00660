-- What holds of the slots once a disk was lost.
use Rattle.paraid_image.specs.Mark.{meta_after_loss}
use Rattle.std.specs.Prelude.{◌≡◌, ◌≢◌, ℕ, ◌<◌, ◌≤◌, Option, Some, None}
use Rattle.std.proofs.Common.{sym, ◌∙◌, ap, subst, arith, inl, inr}
use Rattle.std.proofs.lemmas.Bool.{cases_eq}
use Rattle.paraid_base.specs.declared.state.Out.{Out}
use Rattle.paraid_base.specs.declared.state.Out.TheVariants.{Fresh, Gone, No}
use Rattle.paraid_base.specs.Regions.{disk_size}
use Rattle.paraid_rack.specs.declared.call.Power.TheVariants.{Absent}
use Rattle.paraid_rack.specs.Disks.{is_present}
use Rattle.paraid_rack.specs.Slots.{Slot}
use Rattle.paraid_record.specs.declared.meta.Meta.{Meta}
use Rattle.paraid_record.specs.declared.targets.Target.{Target}
use Rattle.paraid_record.specs.Targets.{IsTargetInRange}
use Rattle.paraid_txn.specs.Commit.{gone_out}
use Rattle.paraid_txn.specs.Losses.{CanWrite}
use Rattle.paraid_image.specs.Out.{named_out}
use Rattle.paraid_image.specs.Sides.{Batch}
use Rattle.paraid_image.specs.Spot.{rising_to}
use Rattle.paraid_base.proofs.StatesLemmas.{rising_to-beside}
use Rattle.paraid_view.specs.Reads.{AreLeft}
use Rattle.paraid_core.specs.CoreInvariant.{CanServe, AreSlotsReady}
use Rattle.paraid_core.proofs.LostDiskLemmas.{lost_in_range}

-- no disk of the array has changed but this one, which is absent, or none
pub record IsLostOnly (n : ℕ) (lost : Option ℕ) (old new : ℕ → Slot) : Type 0 where
  pub power : (d : ℕ) → d < n → lost ≢ Some d → (new d).power ≡ (old d).power
  pub size : (d : ℕ) → d < n → lost ≢ Some d → (new d).size ≡ (old d).size
  pub gone : (d : ℕ) → lost ≡ Some d → (new d).power ≡ Absent

pub left_lost_only : (n : ℕ) (lost : Option ℕ) (old new : ℕ → Slot) → AreLeft lost old new → IsLostOnly n lost old new
left_lost_only n lost old new left = record {
  power = λ d l not. ap (λ (s : Slot). s.power) (left.others d not);
  size = λ d l not. ap (λ (s : Slot). s.size) (left.others d not);
  gone = λ d is. (left.failed d is).absent;
}

gone_named : (o : Out) (x : ℕ) → gone_out o ≡ Some x → named_out o ≡ Some x
gone_named No x is = is
gone_named (Gone d) x is = is
gone_named (Fresh d u) x is = let z : None ≡ Some x = is in cc

none_some : (d : ℕ) → (None ≡ Some d) → ⊥
none_some d is = cc

pub some_is : (d e : ℕ) → Some d ≡ Some e → d ≡ e
some_is d e is = cc

-- where disk 2 is not named out, a witness can be written
module _ (count : ℕ) (slot : ℕ → Slot) (last array : ℕ) (named : Option ℕ) (m : Meta) (rows : ℕ) (batch : Batch) (ready : AreSlotsReady count slot last array named m rows batch) where
  low_two : 2 < m.gear
  low_two = let g = m.setup.geometry.gears_low m.gear ready.in_range.gear in omega arith

  pub can_write_witness : named_out m.out ≢ Some 2 → CanWrite slot 2 1
  can_write_witness not = record {
    spins = λ here. ready.spins 2 low_two not;
    within = λ here. let large = ready.large 2 low_two not in omega arith;
  }

  -- so it is where a log disk comes in again
  pub can_take_back : (x : ℕ) → x < 2 → named ≡ Some x → named_out m.out ≢ Some x → CanWrite slot 2 1
  can_take_back x low was not = can_write_witness (λ is. let same = ready.one x 2 was is in absurd (omega arith))

  -- and where one is named out
  pub can_bear : (x : ℕ) → x < 2 → named_out m.out ≡ Some x → CanWrite slot 2 1
  can_bear x low names = can_write_witness (λ is. let same = some_is x 2 (sym names ∙ is) in absurd (omega arith))

module _ (count : ℕ) (slot new : ℕ → Slot) (last array : ℕ) (named : Option ℕ) (m : Meta) (rows : ℕ) (batch : Batch) (ready : AreSlotsReady count slot last array named m rows batch)
    (in_array : (t : Target) → IsTargetInRange m.setup.geometry t → t.disk < m.setup.geometry.disks) where
  abbrev n : ℕ
  n = m.setup.geometry.disks

  module _ (lost : Option ℕ) (only : IsLostOnly n lost slot new) (d : ℕ) (is : lost ≡ Some d) (low : d < n) (alone : (x : ℕ) → named_out m.out ≡ Some x → x ≡ d) (known : (x : ℕ) → named ≡ Some x → x ≡ d)
      (below : m.gear ≤ n) where
    not_lost : (e : ℕ) → e ≢ d → lost ≢ Some e
    not_lost e apart k = apart (some_is e d (sym k ∙ is))

    not_named : (e : ℕ) → e ≢ d → named_out m.out ≢ Some e
    not_named e apart k = apart (alone e k)

    apart_of : (e : ℕ) → Some d ≢ Some e → e ≢ d
    apart_of e not k = not (ap Some (sym k))

    can_write : (t : Target) → IsTargetInRange m.setup.geometry t × ((t.disk < count) × (gone_out m.out ≢ Some t.disk → CanWrite slot t.disk t.place))
        → (t.disk < count) × (gone_out (Gone d) ≢ Some t.disk → CanWrite new t.disk t.place)
    can_write t both = (
      both.1.0,
      λ not.
          let apart = apart_of t.disk not in
          let can = both.1.1 (λ k. not_named t.disk apart (gone_named m.out t.disk k)) in
          let power = only.power t.disk (in_array t both.0) (not_lost t.disk apart) in
          let size = only.size t.disk (in_array t both.0) (not_lost t.disk apart) in
          record {
            spins = λ here. power ∙ can.spins (ap is_present (sym power) ∙ here);
            within = λ here. subst (λ (z : ℕ). t.place < z) (sym size) (can.within (ap is_present (sym power) ∙ here));
          },
    )

    pub ready_lost : AreSlotsReady count new last array named (meta_after_loss m d) rows batch
    ready_lost = record {
      in_range = lost_in_range m d ready.in_range low;
      array_is = ready.array_is;
      epoch_is = ready.epoch_is;
      enough = ready.enough;
      rows_are = ready.rows_are;
      absent = λ e le gone. elim (cases_eq e d) [
        | inl same ↦ ap Some (sym same)
        | inr apart ↦ absurd (not_named e apart (ready.absent e le (ap is_present (sym (only.power e le (not_lost e apart))) ∙ gone)))
      ];
      one = λ x e was now. known x was ∙ some_is d e now;
      spins = λ e le not. only.power e (omega arith) (not_lost e (apart_of e not)) ∙ ready.spins e le (not_named e (apart_of e not));
      large = λ e le not. subst (λ (z : ℕ). disk_size m.setup.geometry ≤ z) (sym (only.size e (omega arith) (not_lost e (apart_of e not)))) (ready.large e le (not_named e (apart_of e not)));
      fresh_spins = λ e u k here. let z : Gone d ≡ Fresh e u = k in cc;
      fresh_large = λ e u k here. let z : Gone d ≡ Fresh e u = k in cc;
      each = ready.each;
      can = λ k t l. can_write _ (ready.each k t l, ready.can k t l);
      apart = ready.apart;
    }

    pub serve_lost : CanServe slot named m → rising_to m.phase ≤ n → CanServe new named (meta_after_loss m d)
    serve_lost serve rise = record {
      spins = λ e le not.
          let same = rising_to-beside m.phase in
          only.power e (omega arith) (not_lost e (apart_of e not)) ∙ serve.spins e (omega arith) (not_named e (apart_of e not));
      large = λ e le not.
          let same = rising_to-beside m.phase in
          subst (λ (z : ℕ). disk_size m.setup.geometry ≤ z) (sym (only.size e (omega arith) (not_lost e (apart_of e not)))) (serve.large e (omega arith) (not_named e (apart_of e not)));
      stays = λ x was. ap Some (sym (known x was));
    }

  module _ (only : IsLostOnly n None slot new) (below : m.gear ≤ n) where
    can_same : (t : Target) → IsTargetInRange m.setup.geometry t × ((t.disk < count) × (gone_out m.out ≢ Some t.disk → CanWrite slot t.disk t.place))
        → (t.disk < count) × (gone_out m.out ≢ Some t.disk → CanWrite new t.disk t.place)
    can_same t both = (
      both.1.0,
      λ not.
          let can = both.1.1 not in
          let power = only.power t.disk (in_array t both.0) (none_some t.disk) in
          let size = only.size t.disk (in_array t both.0) (none_some t.disk) in
          record {
            spins = λ here. power ∙ can.spins (ap is_present (sym power) ∙ here);
            within = λ here. subst (λ (z : ℕ). t.place < z) (sym size) (can.within (ap is_present (sym power) ∙ here));
          },
    )

    pub ready_same : ((d u : ℕ) → m.out ≡ Fresh d u → d < n) → AreSlotsReady count new last array named m rows batch
    ready_same fresh = record {
      in_range = ready.in_range;
      array_is = ready.array_is;
      epoch_is = ready.epoch_is;
      enough = ready.enough;
      rows_are = ready.rows_are;
      absent = λ e le gone. ready.absent e le (ap is_present (sym (only.power e le (none_some e))) ∙ gone);
      one = ready.one;
      spins = λ e le not. only.power e (omega arith) (none_some e) ∙ ready.spins e le not;
      large = λ e le not. subst (λ (z : ℕ). disk_size m.setup.geometry ≤ z) (sym (only.size e (omega arith) (none_some e))) (ready.large e le not);
      fresh_spins = λ e u k here. let same = only.power e (fresh e u k) (none_some e) in same ∙ ready.fresh_spins e u k (ap is_present (sym same) ∙ here);
      fresh_large = λ e u k here.
          let same = only.power e (fresh e u k) (none_some e) in
          subst (λ (z : ℕ). disk_size m.setup.geometry ≤ z) (sym (only.size e (fresh e u k) (none_some e))) (ready.fresh_large e u k (ap is_present (sym same) ∙ here));
      each = ready.each;
      can = λ k t l. can_same _ (ready.each k t l, ready.can k t l);
      apart = ready.apart;
    }

    pub serve_same : CanServe slot named m → rising_to m.phase ≤ n → CanServe new named m
    serve_same serve rise = record {
      spins = λ e le not. only.power e (omega arith) (none_some e) ∙ serve.spins e le not;
      large = λ e le not. subst (λ (z : ℕ). disk_size m.setup.geometry ≤ z) (sym (only.size e (omega arith) (none_some e))) (serve.large e le not);
      stays = serve.stays;
    }
