-- Calls of a core in a shift, one after the other, by what each leaves and tells.
use Rattle.std.specs.Prelude.{◌≡◌, ℕ, ◌+◌, ◌<◌, ◌≤◌, [], ◌∷◌, length, ◌⊎◌, false, List, Option, Some, None}
use Rattle.std.proofs.Common.{refl, sym, ◌∙◌, ap, subst, arith}
use Rattle.paraid_base.specs.declared.state.Out.TheVariants.{No}
use Rattle.paraid_txn.specs.Commit.{gone_out}
use Rattle.paraid_rack.specs.Slots.{Slot}
use Rattle.paraid_rack.specs.Disks.{is_present}
use Rattle.paraid_rack.specs.Told.{Ran}
use Rattle.paraid_rack.specs.Trail.{Trail}
use Rattle.paraid_record.specs.declared.meta.Meta.{Meta}
use Rattle.paraid_image.specs.Out.{named_out}
use Rattle.paraid_txn.specs.declared.store.Store.{Store}
use Rattle.paraid_txn.specs.Losses.{OnlyLosesSlots}
use Rattle.paraid_txn.specs.Stores.{IsSameStore, named_of, store_rack}
use Rattle.paraid_txn.specs.Uses.{EachCall}
use Rattle.paraid_core.specs.declared.staged.Core.{Core}
use Rattle.paraid_core.specs.Calls.{IsDataCall, MakesDataCalls}
use Rattle.paraid_core.specs.Lost.{CoreMarksLost, MarksLost}
use Rattle.paraid_core.specs.Steps.{IsMarkedFrom, IsNamedOrAbsent, IsStillOut}
use Rattle.paraid_core.proofs.ChainLemmas.{marked_epoch}
use Rattle.paraid_core.proofs.StepLemmas.{runs_none}
use Rattle.paraid_shift.specs.Outcomes.{CommitsInEvent, MarksGroup, PowersDisks, ServesOn}
use Rattle.paraid_event.specs.CoreServing.{IsCoreServing, LeavesArray, RestsInShift}
use Rattle.paraid_shift.proofs.FitsLemmas.{fits_committed, fits_marked}
use Rattle.paraid_shift.proofs.LossLemmas.{core_bears_none, core_bears_then}
use Rattle.paraid_shift.proofs.PowersLemmas.{powered_none, powered_then}
use Rattle.paraid_event.proofs.CoreServingLemmas.{array_marked, chain, leaves_array_none, leaves_array_then, marked_none, marked_then, none_known}

pub staged_none : {A : Type 0} (batch : List A) (count : ℕ) → count ≡ length batch → count ≡ 0 → batch ≡ []
staged_none [] count is none = refl
staged_none (x ∷ xs) count is none = absurd (omega arith)

-- where no disk is out the last commit names none
pub none_named : (o : Option ℕ) (m : Meta) → IsStillOut o m → m.out ≡ No → o ≡ None
none_named None m still whole = refl
none_named (Some d) m still whole = none_known m whole d (still d refl)

pub le_then : (a b c : ℕ) → a ≤ b → b ≤ c → a ≤ c
le_then a b c first second = omega arith

-- no count of faults falls in either of two calls
pub no_fall_then : {R : Type 0} {g : _} (slot : R → ℕ → Slot) (a b c : Core R g) → ((d : ℕ) → (slot (store_rack a.store) d).faults ≤ (slot (store_rack b.store) d).faults)
    → ((d : ℕ) → (slot (store_rack b.store) d).faults ≤ (slot (store_rack c.store) d).faults) → (d : ℕ) → (slot (store_rack a.store) d).faults ≤ (slot (store_rack c.store) d).faults
no_fall_then slot a b c first second d = le_then (slot (store_rack a.store) d).faults (slot (store_rack b.store) d).faults (slot (store_rack c.store) d).faults (first d) (second d)

marked_low : (a b : Meta) (n : ℕ) → IsMarkedFrom a b → b.epoch ≤ a.epoch + n
marked_low a b n marked = let same = ap (λ (m : Meta). m.epoch) marked.is ∙ marked_epoch marked.lost a in omega arith

marked_later : (a b : Meta) → IsMarkedFrom a b → a.epoch ≤ b.epoch
marked_later a b marked = let same = ap (λ (m : Meta). m.epoch) marked.is ∙ marked_epoch marked.lost a in omega arith

pub marked_below : (a b : Meta) (top : ℕ) → IsMarkedFrom a b → a.epoch < top → b.epoch < top
marked_below a b top marked low = let same = ap (λ (m : Meta). m.epoch) marked.is ∙ marked_epoch marked.lost a in omega arith

next_low : (a b : ℕ) → b ≡ a + 1 → b ≤ a + 1
next_low a b is = omega arith

next_later : (a b : ℕ) → b ≡ a + 1 → a ≤ b
next_later a b is = omega arith

both_low : (a b c n m bound : ℕ) → n + m ≤ bound → b ≤ a + n → c ≤ b + m → c ≤ a + bound
both_low a b c n m bound le first second = omega arith

module _ {R : Type 0} {g : _} (count : R → ℕ) (slot : R → ℕ → Slot) where
  pub serves_none : (a : Core R g) (n : ℕ) → IsCoreServing count slot a → ServesOn count slot a a n
  serves_none a n serving = record { serving = serving; leaves = leaves_array_none count slot a; absent = λ q. q; fits = λ f. f; later = le_self a.meta.epoch; epoch = le_more a.meta.epoch n }
    where
      le_self : (e : ℕ) → e ≤ e
      le_self e = omega arith

      le_more : (e n : ℕ) → e ≤ e + n
      le_more e n = omega arith

  pub serves_then : (a b c : Core R g) (n m bound : ℕ) → n + m ≤ bound → ServesOn count slot a b n → ServesOn count slot b c m → ServesOn count slot a c bound
  serves_then a b c n m bound le first second = record {
    serving = second.serving;
    leaves = leaves_array_then count slot a b c first.leaves second.leaves;
    absent = λ q. second.absent (first.absent q);
    fits = λ f. second.fits (first.fits f);
    later = le_then a.meta.epoch b.meta.epoch c.meta.epoch first.later second.later;
    epoch = both_low a.meta.epoch b.meta.epoch c.meta.epoch n m bound le first.epoch second.epoch;
  }

  pub serves_within : (a b : Core R g) (n bound : ℕ) → n ≤ bound → ServesOn count slot a b n → ServesOn count slot a b bound
  serves_within a b n bound le on = record { serving = on.serving; leaves = on.leaves; absent = on.absent; fits = on.fits; later = on.later; epoch = more a.meta.epoch b.meta.epoch le on.epoch }
    where
      more : (e f : ℕ) → n ≤ bound → f ≤ e + n → f ≤ e + bound
      more e f le low = omega arith

  module _ (told : R → Option Trail) where
    -- a commit is one
    pub serves_committed : (a b : Core R g) → OnlyLosesSlots (slot (store_rack a.store)) (slot (store_rack b.store)) → CommitsInEvent count slot told a b → ServesOn count slot a b 1
    serves_committed a b spared k = record { serving = k.serving; leaves = k.leaves; absent = λ q. k.absent; fits = fits_committed (slot (store_rack a.store)) (slot (store_rack b.store)) a.meta b.meta (a.meta.epoch + 1) spared k.meta k.serving.ready.absent; later = next_later a.meta.epoch b.meta.epoch k.epoch; epoch = next_low a.meta.epoch b.meta.epoch k.epoch }

    pub serves_group : (a b : Core R g) (most units n : ℕ) → OnlyLosesSlots (slot (store_rack a.store)) (slot (store_rack b.store)) → MarksGroup count slot told a b most units → ServesOn count slot a b n
    serves_group a b most units n spared k = record { serving = k.serving; leaves = k.leaves; absent = k.absent; fits = fits_marked (slot (store_rack a.store)) (slot (store_rack b.store)) a.meta b.meta spared k.meta k.serving.ready.absent; later = marked_later a.meta b.meta k.meta; epoch = marked_low a.meta b.meta n k.meta }

    -- disks were powered one after the other
    pub powers_none : (a : Core R g) → PowersDisks count slot told a a
    powers_none a = record {
      leaves = leaves_array_none count slot a;
      absent = λ q. q;
      meta = marked_none a.meta;
      lost = powered_none (slot (store_rack a.store)) a.meta;
      bears = core_bears_none count slot told a;
      rests = λ h lo. runs_none count slot told a (RestsInShift count a h lo) h lo (λ s kf. kf.keeps);
    }

    pub powers_then : (a b c : Core R g) → IsSameStore a.store b.store → PowersDisks count slot told a b → PowersDisks count slot told b c → PowersDisks count slot told a c
    powers_then a b c store first second = record {
      leaves = leaves_array_then count slot a b c first.leaves second.leaves;
      absent = λ q. second.absent (first.absent q);
      meta = marked_then a.meta b.meta c.meta first.meta second.meta;
      lost = powered_then (slot (store_rack b.store)) (slot (store_rack c.store)) a.meta b.meta c.meta first.lost second.leaves.turned first.leaves.setup second.lost;
      bears = core_bears_then count slot told a b c first.bears second.bears;
      rests = λ h lo.
          chain count told a b first.leaves.slots first.leaves.setup store.named (RestsInShift count a h lo) (RestsInShift count b h lo) (RestsInShift count c h lo) h lo _ (first.rests h lo) (second.rests h lo);
    }

-- marks: no call is made, and the meta is as it was
module _ {R : Type 0} {g : _} (a b c : Core R g) (store : c.store ≡ b.store) (meta : c.meta ≡ b.meta) where
  pub leaves_marked : (count : R → ℕ) (slot : R → ℕ → Slot) → LeavesArray count slot a b → LeavesArray count slot a c
  leaves_marked count slot l =
      leaves_array_then count slot a b c l (array_marked count slot b c store (ap (λ (m : Meta). m.setup) meta) (ap (λ (m : Meta). m.out) meta) (ap (λ (m : Meta). m.version) meta) (ap (λ (m : Meta). m.writes) meta))

  pub named_marked : (slot : R → ℕ → Slot) → IsNamedOrAbsent slot b → IsNamedOrAbsent slot c
  named_marked slot was d is = subst (λ (z : Store R g). (named_of z ≡ Some d) ⊎ (is_present (slot (store_rack z) d).power ≡ false)) (sym store) (was d (sym (ap (λ (m : Meta). named_out m.out) meta) ∙ is))

  pub lost_marked : (slot : R → ℕ → Slot) → CoreMarksLost slot a b → CoreMarksLost slot a c
  lost_marked slot marks =
      subst (λ (m : Meta). MarksLost (slot (store_rack a.store)) (slot (store_rack c.store)) a.meta m) (sym meta)
      (subst (λ (z : Store R g). MarksLost (slot (store_rack a.store)) (slot (store_rack z)) a.meta b.meta) (sym store) marks)

  pub calls_marked : (told : R → Option Trail) → MakesDataCalls told a b → MakesDataCalls told a c
  calls_marked told calls = subst (λ (z : Store R g). Ran (told (store_rack a.store)) (told (store_rack z)) (EachCall (IsDataCall a.meta.setup.geometry.disks (gone_out a.meta.out)))) (sym store) calls

  pub spared_marked : (slot : R → ℕ → Slot) → OnlyLosesSlots (slot (store_rack a.store)) (slot (store_rack b.store)) → OnlyLosesSlots (slot (store_rack a.store)) (slot (store_rack c.store))
  spared_marked slot spared = subst (λ (z : Store R g). OnlyLosesSlots (slot (store_rack a.store)) (slot (store_rack z))) (sym store) spared
