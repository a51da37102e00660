-- What a tick of a shift moves, by the machine, and how many commits a tick makes.
use Rattle.std.specs.Prelude.{◌≡◌, ◌≢◌, ℕ, ◌+◌, ◌<◌, ◌≤◌, false, List, Some}
use Rattle.std.proofs.Common.{refl, ◌∙◌, ap, subst, arith, inl, inr}
use Rattle.paraid_base.specs.declared.state.Out.TheVariants.{No}
use Rattle.paraid_base.specs.declared.state.TickEvent.TheVariants.{Flipped, Lost, Moving}
use Rattle.paraid_base.specs.States.{named_out, phase_to}
use Rattle.paraid_rack.specs.Slots.{Slot}
use Rattle.paraid_record.specs.declared.meta.Meta.{Meta}
use Rattle.paraid_record.specs.declared.meta.Setup.{Setup}
use Rattle.paraid_image.specs.Power.{PowerState}
use Rattle.paraid_machine.specs.Moves.{after_units, units_left, units_of_tick}
use Rattle.paraid_moves.specs.MoveMetas.{meta_flipped_to}
use Rattle.paraid_core.specs.declared.staged.Core.{Core}
use Rattle.paraid_core.specs.Steps.{IsMarkedFrom}
use Rattle.paraid_core.proofs.ChainLemmas.{marked_epoch}
use Rattle.paraid_event.specs.Moving.{GoesToState}
use Rattle.paraid_event.specs.Service.{IsStateOf, Service, service_of}
use Rattle.paraid_event.proofs.StateLemmas.{ends_shift}
use Rattle.paraid_shift.specs.Outcomes.{ServesOn}
use Rattle.paraid_shift.specs.Units.{AreUnitsDone, CountsMoved, MovesUpTo, TellsDone}
use Rattle.paraid_shift.proofs.UnitLemmas.{done_left}
use Rattle.paraid_upkeep.specs.Events.{CommitsAtMost, CommitsInTick}
use Rattle.paraid_upkeep.specs.TickAnswers.{CoreMoves}
use Rattle.paraid_upkeep.specs.TickTurns.{AreUnitsOfTick}
use Rattle.paraid_upkeep.proofs.CommitLemmas.{few_none, few_one, few_then, few_within}
use Rattle.paraid_upkeep.proofs.TickTurnLemmas.{marked_then}

-- some are left beside those that were moved
some_left : (left n all : ℕ) → left + n ≡ all → left ≢ 0 → n < all
some_left left n all sum not = grind (arith)

-- and none
none_left : (left n all : ℕ) → left + n ≡ all → left ≡ 0 → n ≡ all
none_left left n all sum none = omega arith

-- So many units were moved, of those that the tick was to move.
module _ {R : Type 0} {g : _} (count : R → ℕ) (a b : Core R g) (units n : ℕ) (asks : AreUnitsOfTick count a units) (moves : MovesUpTo count a b (AreUnitsDone b.meta b.dirty) units n) (few : n ≤ units) where
  module _ (samples : List ℕ) (served energy : ℕ) (s : PowerState) (of : IsStateOf (service_of count a samples served energy) s) where
    abbrev before : Service
    before = service_of count a samples served energy

    abbrev then : Service
    then = service_of count b samples served energy

    abbrev moved_state : PowerState
    moved_state = after_units a.meta.setup n s

    made : CountsMoved before then n
    made = moves.moves samples served energy

    goes : GoesToState then moved_state
    goes = made.moved.moved s of

    few_asked : n ≤ units_of_tick a.meta.setup s
    few_asked = subst (λ (x : ℕ). n ≤ x) (asks samples served energy s of) few

    module _ (still : b.meta.out ≡ No) (same : b.meta.setup ≡ a.meta.setup) where
      all_asked : TellsDone then false → n ≡ units_of_tick a.meta.setup s
      all_asked tells = elim (moves.all still) [
        | inl is ↦ is ∙ asks samples served energy s of
        | inr done ↦ absurd (tells.some refl moved_state (goes.whole still) (done_left then done moved_state (goes.whole still)))
      ]

      more_left : TellsDone then false → n < units_left a.meta.setup s
      more_left tells =
          some_left (units_left a.meta.setup moved_state) n (units_left a.meta.setup s) (made.counted s of)
          (subst (λ (z : Setup). units_left z moved_state ≢ 0) same (tells.some refl moved_state (goes.whole still)))

      all_left : AreUnitsDone b.meta b.dirty → n ≡ units_left a.meta.setup s
      all_left done =
          none_left (units_left a.meta.setup moved_state) n (units_left a.meta.setup s) (made.counted s of)
          (subst (λ (z : Setup). units_left z moved_state ≡ 0) same (done_left then done moved_state (goes.whole still)))

  -- a disk was lost
  pub lost_moves : (d : ℕ) → named_out b.meta.out ≡ Some d → CoreMoves count a b n (Lost d)
  lost_moves d named samples served energy s of = (few_asked samples served energy s of, named, (goes samples served energy s of).lost d named)

  module _ (still : b.meta.out ≡ No) (same : b.meta.setup ≡ a.meta.setup) where
    -- more are left
    pub moving_moves : ((samples : List ℕ) (served energy : ℕ) → TellsDone (service_of count b samples served energy) false) → CoreMoves count a b n Moving
    moving_moves tells samples served energy s of = (
      all_asked samples served energy s of still same (tells samples served energy),
      more_left samples served energy s of still same (tells samples served energy),
      (goes samples served energy s of).whole still,
    )

    -- none are left, and the shift has ended
    pub flipped_moves : (c : Core R g) → AreUnitsDone b.meta b.dirty → IsMarkedFrom (record (meta_flipped_to b.meta (phase_to b.meta.phase)) { epoch = b.meta.epoch + 1 }) c.meta → c.dirty ≡ b.dirty
        → CoreMoves count a c n Flipped
    flipped_moves c done marked table samples served energy s of =
        let ended =
        ends_shift (service_of count a samples served energy) (service_of count b samples served energy) (service_of count c samples served energy) n (made samples served energy s of).moved still
        marked.lost (b.meta.epoch + 1) b.meta.writes (marked_then (meta_flipped_to b.meta (phase_to b.meta.phase)) c.meta (b.meta.epoch + 1) marked) table refl refl in
        (all_left samples served energy s of still same done, few_asked samples served energy s of, ended.moved s of)

-- the epoch that a commit with these marks leaves
marks_epoch : (m n : Meta) → IsMarkedFrom m n → n.epoch ≡ m.epoch
marks_epoch m n marked = ap (λ (z : Meta). z.epoch) marked.is ∙ marked_epoch marked.lost m

room : (most units : ℕ) → most ≤ 3 → most ≤ units + 3
room most units low = omega arith

two_and_one : (units : ℕ) → units + 2 + 1 ≤ units + 3
two_and_one units = omega arith

two_within : (units : ℕ) → units + 2 ≤ units + 3
two_within units = omega arith

module _ {R : Type 0} {g : _} (count : R → ℕ) (a : Core R g) where
  -- three commits at most, whatever the tick moves
  pub few_commits : (b : Core R g) (most : ℕ) → most ≤ 3 → CommitsAtMost a b most → CommitsInTick count a b
  few_commits b most low it = record {
    later = it.later;
    few = λ samples served energy s of. (few_within a b most (units_of_tick a.meta.setup s + 3) (room most (units_of_tick a.meta.setup s) low) it).few;
  }

  pub none_commits : CommitsInTick count a a
  none_commits = few_commits a 0 (omega arith) (few_none a a 0 refl)

  -- one commit, with these marks
  pub marks_commits : (b : Core R g) (m : Meta) → IsMarkedFrom m b.meta → m.epoch ≡ a.meta.epoch + 1 → CommitsInTick count a b
  marks_commits b m marked next = few_commits b 1 (omega arith) (few_one a b (marks_epoch m b.meta marked ∙ next))

  module _ (units : ℕ) (asks : AreUnitsOfTick count a units) where
    counted : (b : Core R g) → CommitsAtMost a b (units + 3) → CommitsInTick count a b
    counted b it = record {
      later = it.later;
      few = λ samples served energy s of. subst (λ (x : ℕ). b.meta.epoch ≤ a.meta.epoch + (x + 3)) (asks samples served energy s of) it.few;
    }

    module _ (slot : R → ℕ → Slot) (b : Core R g) (on : ServesOn count slot a b (units + 2)) where
      few_made : CommitsAtMost a b (units + 2)
      few_made = record { later = on.later; few = on.epoch }

      -- the commits of the units that were moved
      pub units_commits : CommitsInTick count a b
      units_commits = counted b (few_within a b (units + 2) (units + 3) (two_within units) few_made)

      -- and then one with these marks
      pub ends_commits : (c : Core R g) (m : Meta) → IsMarkedFrom m c.meta → m.epoch ≡ b.meta.epoch + 1 → CommitsInTick count a c
      ends_commits c m marked next =
          counted c
          (few_within a c (units + 2 + 1) (units + 3) (two_and_one units) (few_then a b c (units + 2) 1 few_made (few_one b c (marks_epoch m c.meta marked ∙ next))))
