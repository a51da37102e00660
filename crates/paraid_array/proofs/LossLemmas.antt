use Rattle.std.specs.Prelude.{◌≤◌, max}
-- Two disks that are lost in an event, and what tells no wear.
use Rattle.std.proofs.Common.{◌≡◌, ℕ, ◌⊎◌, inl, inr, Option, Some, None, sym, subst, ◌∙◌}
use Rattle.paraid_base.specs.declared.event.Event.{Event}
use Rattle.paraid_base.specs.declared.event.Event.TheVariants.{Fail}
use Rattle.paraid_base.specs.declared.fault.Halt.{Halt}
use Rattle.paraid_base.specs.declared.fault.Halt.TheVariants.{Two as HaltTwo, Worn}
use Rattle.paraid_base.specs.declared.fault.Two.{Two}
use Rattle.paraid_base.specs.declared.pairs.Pairs.{Pairs}
use Rattle.paraid_base.specs.Log.{worn_at}
use Rattle.paraid_record.specs.declared.meta.Meta.{Meta}
use Rattle.paraid_image.specs.Out.{or_else}
use Rattle.paraid_rack.specs.Slots.{Slot}
use Rattle.paraid_serve.specs.Lost.{AreTwoLost, HaltsByTwoLost}
use Rattle.paraid_serve.specs.Lost.IsDownBy.{has_failed, is_taken_out, was_out}
use Rattle.paraid_trace.specs.Asked.{event_with}
use Rattle.paraid_trace.specs.declared.asked.Asked.{Asked}
use Rattle.paraid_txn.specs.Losses.{AreTwoDown, AreTwoDownBeside}
use Rattle.paraid_array.specs.declared.ended.HaltedAt.{HaltedAt}
use Rattle.paraid_array.specs.Lasting.{TellsItsWear, halt_of_end}

-- two that were lost are told so
told_lost : (down : Option ℕ) (event : Event) (old new : ℕ → Slot) (x : Two) → AreTwoLost down event old new x → HaltsByTwoLost down event old new (Some (HaltTwo x))
told_lost down event old new x lost y is =
    let same : HaltTwo x ≡ HaltTwo y = cc in
    let one : x ≡ y = cc in
    subst (AreTwoLost down event old new) one lost

-- no other halt tells two
pub none_lost : (down : Option ℕ) (event : Event) (old new : ℕ → Slot) → HaltsByTwoLost down event old new None
none_lost down event old new y is = let z : None ≡ Some (HaltTwo y) = is in absurd cc

pub worn_lost : (down : Option ℕ) (event : Event) (old new : ℕ → Slot) (count : ℕ) → HaltsByTwoLost down event old new (Some (Worn count))
worn_lost down event old new count y is = let z : Some (Worn count) ≡ Some (HaltTwo y) = is in absurd cc

-- what serves still tells no halt
pub going_lost : (down : Option ℕ) (event : Event) (old new : ℕ → Slot) (o : Option HaltedAt) → o ≡ None → HaltsByTwoLost down event old new (halt_of_end o)
going_lost down event old new o going = subst (λ (z : Option HaltedAt). HaltsByTwoLost down event old new (halt_of_end z)) (sym going) (none_lost down event old new)

-- nor wear
pub going_wear : (m : Meta) (o : Option HaltedAt) → o ≡ None → TellsItsWear m (halt_of_end o)
going_wear m o going = subst (λ (z : Option HaltedAt). TellsItsWear m (halt_of_end z)) (sym going) (λ count is. let z : None ≡ Some (Worn count) = is in absurd cc)

-- and two lost disks tell none
pub two_wear : (m : Meta) (x : Two) → TellsItsWear m (Some (HaltTwo x))
two_wear m x count is = let z : Some (HaltTwo x) ≡ Some (Worn count) = is in absurd cc

-- what is worn tells its wear
pub worn_wear : (m : Meta) (count : ℕ) → worn_at ≤ count → count ≡ max m.epoch m.writes → TellsItsWear m (Some (Worn count))
worn_wear m count many made n is =
    let z : Some (Worn count) ≡ Some (Worn n) = is in
    let same : count ≡ n = cc in
    (subst (λ (x : ℕ). worn_at ≤ x) same many, sym same ∙ made)

-- what has ended does not go on
pub ended_not_none : {A : Type 0} (ended : HaltedAt) → Some ended ≡ None → A
ended_not_none ended is = let z : Some ended ≡ None = is in absurd cc

-- the disk that is down by the last commit or the meta is out by the meta
known_out : (named out : Option ℕ) → ((d : ℕ) → named ≡ Some d → out ≡ Some d) → (x : ℕ) → or_else named out ≡ Some x → out ≡ Some x
known_out None out stays x is = is
known_out (Some d) out stays x is = stays x is

module _ (named out : Option ℕ) (stays : (d : ℕ) → named ≡ Some d → out ≡ Some d) (event : Event) (old new : ℕ → Slot) (x : Two) where
  -- the two that a call over the core has lost
  pub two_lost : AreTwoDown (or_else named out) old new x → HaltsByTwoLost out event old new (Some (HaltTwo x))
  two_lost lost = told_lost out event old new x (record {
    first = elim lost.first [ inl is ↦ was_out (known_out named out stays x.first is) | inr risen ↦ has_failed risen ];
    apart = lost.apart;
    second = lost.second;
  })

  -- and where one is taken out
  pub taken_lost : (disk : ℕ) → event ≡ Fail disk → AreTwoDownBeside (λ (d : ℕ). (or_else named out ≡ Some d) ⊎ (d ≡ disk)) old new x → HaltsByTwoLost out event old new (Some (HaltTwo x))
  taken_lost disk fails lost = told_lost out event old new x (record {
    first = elim lost.first [
      | inl either ↦ elim either [
        | inl is ↦ was_out (known_out named out stays x.first is)
        | inr one ↦ is_taken_out (subst (λ (d : ℕ). event ≡ Fail d) (sym one) fails)
      ]
      | inr risen ↦ has_failed risen
    ];
    apart = lost.apart;
    second = lost.second;
  })

-- two that are told of what was asked for
pub asked_lost : (down : Option ℕ) (a b : Asked) (pairs : Pairs) (old new : ℕ → Slot) (halt : Option Halt) → a ≡ b → HaltsByTwoLost down (event_with b pairs) old new halt → HaltsByTwoLost down (event_with a pairs) old new halt
asked_lost down a b pairs old new halt same by = subst (λ (x : Asked). HaltsByTwoLost down (event_with x pairs) old new halt) (sym same) by
