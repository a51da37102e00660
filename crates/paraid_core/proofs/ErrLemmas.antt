-- A call that failed has nothing to say of a success.
use Rattle.std.proofs.Common.{ℕ, sym, ◌∙◌, subst, inl, Option, Some}
use Rattle.std.specs.Prelude.{◌≡◌, ◌≢◌, ◌<◌, Bool, true, false, Result, Ok, Err, OnOk, IfOk, IsErrAnd}
use Rattle.paraid_base.specs.declared.fault.Two.{Two}
use Rattle.paraid_base.specs.Told.{HasRisen}
use Rattle.paraid_record.specs.declared.meta.Meta.{Meta}
use Rattle.paraid_image.specs.Out.{named_out, or_else}
use Rattle.paraid_image.specs.Mark.{meta_with_lost}
use Rattle.paraid_core.specs.CoreInvariant.{lost_in}
use Rattle.paraid_core.specs.Steps.{IsPutOut}
use Rattle.paraid_rack.specs.Slots.{Slot}
use Rattle.paraid_txn.specs.Losses.{AreTwoDown}
use Rattle.paraid_core.proofs.OrderLemmas.{down_is_named}
use Rattle.paraid_core.proofs.ReadyLemmas.{some_is}

pub none_done : {A E : Type 0} (P : Type 0) (r : Result A E) (e : E) → IsErrAnd r (λ x. x ≡ e) → OnOk r P
none_done P (Ok a) e is = absurd is
none_done P (Err x) e is = tt

-- what holds in any case holds of a success
pub on_ok_any : {A E P : Type 0} (r : Result A E) → P → OnOk r P
on_ok_any (Ok a) p = p
on_ok_any (Err x) p = tt

pub both_put : {A E : Type 0} (r : Result A E) (m new : Meta) (lost : Option ℕ) → OnOk r (new ≡ meta_with_lost (lost_in m lost) m) → OnOk r ((d x : ℕ) → lost ≡ Some d → named_out m.out ≡ Some x → d < m.setup.geometry.disks → x ≡ d)
    → OnOk r (IsPutOut m new lost)
both_put (Ok a) m new lost marked alone = record { marked = marked; alone = alone }
both_put (Err x) m new lost marked alone = tt

pub none_done_as : {A E : Type 0} (P : Type 0) (r : Result A E) (e : E) (a : A) → IsErrAnd r (λ x. x ≡ e) → r ≡ Ok a → P
none_done_as P (Ok b) e a is ok = absurd is
none_done_as P (Err x) e a is ok = let z : Err x ≡ Ok a = ok in cc

pub err_not_ok : {A E : Type 0} (P : Type 0) (e : E) (a : A) → Err e ≡ Ok a → P
err_not_ok P e a is = let z : Err e ≡ Ok a = is in cc

-- it was done, or it was not
pub done_not_dropped : {E : Type 0} (P : Type 0) (r : Result Bool E) → r ≡ Ok true → r ≡ Ok false → P
done_not_dropped P r done is = let z : Ok true ≡ Ok false = sym done ∙ is in cc

pub none_done_if : {A E : Type 0} (P : A → Type 0) (r : Result A E) (e : E) → IsErrAnd r (λ x. x ≡ e) → IfOk r P
none_done_if P (Ok a) e is = absurd is
none_done_if P (Err x) e is = tt

-- the disk of the call has failed beside the one that was out
pub two_lost : (named out : Option ℕ) (old new : ℕ → Slot) (disk : ℕ) (two : Two) → ((d : ℕ) → named ≡ Some d → out ≡ Some d) → HasRisen (old disk).faults (new disk).faults
    → (Some disk ≡ Some two.second) × (out ≡ Some two.first) × (two.first ≢ two.second) → AreTwoDown (or_else named out) old new two
two_lost named out old new disk two stays risen both = record {
  first = inl (down_is_named named out stays ∙ both.1);
  apart = both.2;
  second = subst (λ (e : ℕ). HasRisen (old e).faults (new e).faults) (some_is disk two.second both.0) risen;
}
