-- Units that are copied, by the calls of the rack and the slots.
use Rattle.std.proofs.Common.{◌≡◌, ℕ, Bool, true, List, Option, Some, None, refl, sym, ap, ◌∙◌, subst}
use Rattle.std.proofs.lemmas.Bool.{false≢true}
use Rattle.paraid_rack.specs.declared.call.Power.{Power}
use Rattle.paraid_rack.specs.declared.call.Power.TheVariants.{Absent, Parked, Spinning}
use Rattle.paraid_rack.specs.Disks.{is_present}
use Rattle.paraid_rack.specs.Slots.{Slot}
use Rattle.paraid_rack.specs.Told.{Ran}
use Rattle.paraid_rack.specs.Trail.{Trail}
use Rattle.paraid_record.specs.declared.meta.Meta.{Meta}
use Rattle.paraid_record.specs.declared.meta.Setup.{Setup}
use Rattle.paraid_core.specs.Calls.{IsCopySync, IsDataCall}
use Rattle.paraid_core.specs.Lost.{MarksLost}
use Rattle.paraid_core.proofs.KindLemmas.{calls_milder, calls_then, sync_data}
use Rattle.paraid_image.specs.Out.{named_out}
use Rattle.paraid_image.specs.Mark.{meta_with_lost}
use Rattle.paraid_txn.specs.Commit.{gone_out}
use Rattle.paraid_txn.specs.Losses.{OnlyLosesSlots}
use Rattle.paraid_txn.specs.Uses.{EachCall}

-- calls between two commits, and more of them under the same meta
pub data_then : (m k : Meta) → k ≡ m → (old mid new : Option Trail) → Ran old mid (EachCall (IsDataCall m.setup.geometry.disks (gone_out m.out))) → Ran mid new (EachCall (IsDataCall k.setup.geometry.disks (gone_out k.out)))
    → Ran old new (EachCall (IsDataCall m.setup.geometry.disks (gone_out m.out)))
data_then m k same old mid new one two = calls_then (IsDataCall m.setup.geometry.disks (gone_out m.out)) old mid new one
    (subst (λ (z : Meta). Ran mid new (EachCall (IsDataCall z.setup.geometry.disks (gone_out z.out)))) same two)

-- and the syncs of copies, where no disk was gone
pub data_settled : (m k : Meta) (copied : List Bool) → k.setup ≡ m.setup → gone_out m.out ≡ None → (old mid new : Option Trail) → Ran old mid (EachCall (IsDataCall m.setup.geometry.disks (gone_out m.out))) → Ran mid new (EachCall (IsCopySync k.setup.geometry.disks copied))
    → Ran old new (EachCall (IsDataCall m.setup.geometry.disks (gone_out m.out)))
data_settled m k copied setup back old mid new one two = calls_then (IsDataCall m.setup.geometry.disks (gone_out m.out)) old mid new one
    (subst (λ (z : Setup). Ran mid new (EachCall (IsDataCall z.geometry.disks (gone_out m.out)))) setup
    (calls_milder (IsCopySync k.setup.geometry.disks copied) (IsDataCall k.setup.geometry.disks (gone_out m.out)) (λ c is. sync_data k.setup.geometry.disks copied (gone_out m.out) (λ d is_copy named. let z : None ≡ Some d = sym back ∙ named in cc) c is) mid new two))

-- a disk that is absent stays so
pub stays_away : (old new : ℕ → Slot) → OnlyLosesSlots old new → (d : ℕ) → (old d).power ≡ Absent → (new d).power ≡ Absent
stays_away old new spared d away = by (new d).power refl
  where
    there : (p : Power) → (new d).power ≡ p → is_present p ≡ true → ⊥
    there p is here = false≢true (sym (ap is_present (spared.power d (ap is_present is ∙ here) ∙ away)) ∙ ap is_present is ∙ here)

    by : (p : Power) → (new d).power ≡ p → (new d).power ≡ Absent
    by Absent is = is
    by Parked is = absurd (there Parked is refl)
    by Spinning is = absurd (there Spinning is refl)

-- one that is marked as gone then is absent
pub gone_away : (a b : ℕ → Slot) (m n : Meta) (disk : ℕ) → named_out m.out ≡ Some disk → gone_out m.out ≡ None → MarksLost a b m n → (gone_out n.out ≡ None → ⊥) → (b disk).power ≡ Absent
gone_away a b m n disk named back marks gone = by marks.lost refl
  where
    by : (o : Option ℕ) → marks.lost ≡ o → (b disk).power ≡ Absent
    by None e = absurd (gone (ap (λ (z : Meta). gone_out z.out) marks.is ∙ ap (λ (o : Option ℕ). gone_out (meta_with_lost o m).out) e ∙ back))
    by (Some d) e = subst (λ (x : ℕ). (b x).power ≡ Absent) (sym (marks.alone d disk e named)) (marks.failed d e).absent
