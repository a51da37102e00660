-- Events in which a second disk is lost, and events that make no call.
use Rattle.std.proofs.Common.{◌≡◌, ◌≢◌, ℕ, ◌+◌, ◌<◌, ◌≤◌, false, List, [], ◌∷◌, length, Option, Some, None, refl, sym, ap, ◌∙◌, inl, inr, subst, arith, min, zero, suc}
use Rattle.std.specs.Prelude.{slice_index_or, Contains, All}
use Rattle.paraid_base.specs.declared.block.Block.{Block}
use Rattle.paraid_base.specs.declared.event.Answer.{Answer}
use Rattle.paraid_base.specs.declared.event.Answer.TheVariants.{Value, Wrote, Halted}
use Rattle.paraid_base.specs.declared.event.Event.{Event}
use Rattle.paraid_base.specs.declared.event.Event.TheVariants.{Read, Write, Flush, Bad}
use Rattle.paraid_base.specs.declared.fault.Halt.TheVariants.{Two as HaltTwo}
use Rattle.paraid_base.specs.declared.fault.Two.{Two}
use Rattle.paraid_base.specs.declared.pairs.Pairs.{Pairs}
use Rattle.paraid_base.specs.History.{after_all}
use Rattle.paraid_base.specs.Log.{worn_at}
use Rattle.paraid_base.specs.Pairs.{pairs_of}
use Rattle.paraid_base.specs.States.{named_out}
use Rattle.paraid_rack.specs.declared.call.Call.{Call}
use Rattle.paraid_rack.specs.Disks.{Disks}
use Rattle.paraid_rack.specs.Told.{Ran}
use Rattle.paraid_rack.specs.Trail.{Trail, now, run}
use Rattle.paraid_record.specs.declared.meta.Meta.{Meta}
use Rattle.paraid_record.specs.declared.meta.Setup.{Setup}
use Rattle.paraid_image.specs.Power.{PowerState}
use Rattle.paraid_machine.specs.Machine.{block_count, blocks_named, outcomes, serve}
use Rattle.paraid_machine.specs.Moves.{all_written, block_read, with_one_served}
use Rattle.paraid_session.specs.Turn.{GoesOn, IsFirstDown, IsUnhurt, LosesSecondDisk, Point, bounds_at, bounds_of, makes_no_call, own_energy, point_wear, replaced_by, watch_of}
use Rattle.paraid_session.specs.Turn.IsFirstDown.{lost, out}
use Rattle.paraid_session.specs.Turn.IsSecondLossEnergy.{own}
use Rattle.paraid_session.specs.Turn.IsSecondLossGear.{same}
use Rattle.paraid_session.specs.Turn.IsTurn.{two as second_loss}
use Rattle.paraid_session.specs.Watch.{Bounds, Each, HoldsWhileServing, IsAllowed, Watch}
use Rattle.paraid_session.specs.Resting.{watch_at}
use Rattle.paraid_event.proofs.ApartLemmas.{flush_not_bad, read_not_bad, write_not_bad}
use Rattle.paraid_event.specs.Lost.{IsHaltedFrom, TellsTwo}
use Rattle.paraid_event.specs.Parts.{AreEventCalls, LosesInEvent}
use Rattle.paraid_event.specs.Service.{Service}
use Rattle.paraid_event.specs.Stands.{StandsAt}
use Rattle.paraid_event.proofs.EventLemmas.{all_missing_none, one_missing_none}
use Rattle.paraid_event.proofs.LastCallLemmas.{ends_event}
use Rattle.paraid_event.proofs.TurnLemmas.{each, once}

-- of one outcome its answer is the answer
pub one_outcome : (outcome : Answer × PowerState) (answer : Answer) (new : PowerState) → Contains (outcome ∷ []) (answer, new) → outcome.0 ≡ answer
one_outcome outcome answer new is = by is.0 is.1 is.2
  where
    by : (x : ℕ) → x < 1 → slice_index_or (outcome ∷ []) x (answer, new) ≡ (answer, new) → outcome.0 ≡ answer
    by zero low at = ap (λ (z : Answer × PowerState). z.0) at
    by (suc x) low at = absurd (omega arith)

pub capped_own : (u k : ℕ) → u ≡ k → k ≤ 18446744073709551615 → u ≡ min (u + 0) 18446744073709551615
capped_own u k e fits = grind (arith)

module _ (told told_then : Option Trail) (k : Service) (setup : Setup) (p : Point) (at : StandsAt told k setup p) (two : Two) where
  first_down : (event : Event) (cs : List Call) → TellsTwo k two p.disks cs → IsFirstDown k.slots setup p event cs two.first
  first_down event cs tells = elim tells.first [
    | inl was ↦ out (ap named_out at.state.out ∙ was)
    | inr none ↦ lost (ap named_out at.state.out ∙ none.0) none.1
  ]

  module _ (event : Event) (starts : watch_of p event (Halted (HaltTwo two)) ≡ watch_at p) (bounds : bounds_of setup p event ≡ bounds_at setup p p.state) (no_own : own_energy setup p.state event ≡ 0) (not_bad : event ≢ Bad)
      (busy : (answer : Answer) (new : PowerState) → IsUnhurt setup p event answer new → makes_no_call answer ≡ false) (fit : point_wear p < worn_at) where
    loses : (cs : List Call) → AreEventCalls k p.history p.low p.meta p.disks cs → TellsTwo k two p.disks cs → LosesSecondDisk k.slots setup p event two cs (record p { disks = run p.disks cs; halt = Some (HaltTwo two) })
    loses cs part tells = record {
      fit = fit;
      first = first_down event cs tells;
      apart = tells.apart;
      ends = ends_event k.slots setup p event two cs (first_down event cs tells) tells.ends;
      busy = busy;
      moments = subst (λ (z : Bounds). Each (HoldsWhileServing k.slots p.history p.low z) (IsAllowed setup (replaced_by event)) (watch_of p event (Halted (HaltTwo two))) cs) (sym bounds)
          (subst (λ (z : Watch). Each (HoldsWhileServing k.slots p.history p.low (bounds_at setup p p.state)) (IsAllowed setup (replaced_by event)) z cs) (sym starts)
          (each told k setup p at cs part (replaced_by event) (omega arith)));
      once = once told k setup p at cs part;
      disks = refl;
      history = refl;
      gear = same refl;
      energy = own (capped_own p.energy k.energy at.energy at.fits ∙ ap (λ (e : ℕ). min (p.energy + e) 18446744073709551615) (sym no_own));
      halted = refl;
    }

    pub loses_told : Ran told told_then (λ s cs. LosesInEvent k p.history p.low s cs × TellsTwo k two s cs) → Ran told told_then (GoesOn k.slots setup p event (Halted (HaltTwo two)) (IsHaltedFrom p (HaltTwo two)))
    loses_told ran t tells =
        let r = ran t tells in
        let from : now r.from ≡ p.disks = at.disks r.from r.was in
        let holds = subst (λ (s : Disks). LosesInEvent k p.history p.low s r.calls × TellsTwo k two s r.calls) from r.holds in
        let part = subst (λ (m : Meta). AreEventCalls k p.history p.low m p.disks r.calls) at.stands.is_base (holds.0 at.stands.keeps) in
        record {
          from = r.from;
          was = r.was;
          calls = r.calls;
          is = r.is;
          holds = (
            record p { disks = run p.disks r.calls; halt = Some (HaltTwo two) },
            second_loss two at.going not_bad refl (loses r.calls part holds.1),
            refl,
          );
        }

  -- requests and flushes make calls
  read_busy : (block : ℕ) → block < block_count setup → (answer : Answer) (new : PowerState) → IsUnhurt setup p (Read block) answer new → makes_no_call answer ≡ false
  unfolding outcomes
  read_busy block there answer new is =
      let among = subst (λ (o : Option ℕ). Contains (serve o None p.state (λ s. (Value block (after_all p.history block), with_one_served (block_read setup block s)))) (answer, new)) (one_missing_none setup block there) is.among in
      ap makes_no_call (sym (one_outcome _ answer new among))

  write_busy : (pairs : Pairs) → All (λ (pair : ℕ × Block). pair.0 < block_count setup) (pairs_of pairs) → (answer : Answer) (new : PowerState) → IsUnhurt setup p (Write pairs) answer new → makes_no_call answer ≡ false
  unfolding outcomes
  write_busy pairs there answer new is =
      let among = subst (λ (o : Option ℕ). Contains (serve o None p.state (λ s. (Wrote (length p.history + 1), with_one_served (all_written setup.geometry.disks (blocks_named (pairs_of pairs)) s)))) (answer, new)) (all_missing_none (block_count setup) (pairs_of pairs) there) is.among in
      ap makes_no_call (sym (one_outcome _ answer new among))

  flush_busy : (answer : Answer) (new : PowerState) → IsUnhurt setup p Flush answer new → makes_no_call answer ≡ false
  unfolding outcomes
  flush_busy answer new is = ap makes_no_call (sym (one_outcome _ answer new is.among))

  abbrev Loses : Type 0
  Loses = Ran told told_then (λ s cs. LosesInEvent k p.history p.low s cs × TellsTwo k two s cs)

  pub read_loses : (block : ℕ) → block < block_count setup → point_wear p < worn_at → Loses → Ran told told_then (GoesOn k.slots setup p (Read block) (Halted (HaltTwo two)) (IsHaltedFrom p (HaltTwo two)))
  read_loses block there fit ran = loses_told (Read block) refl refl refl (λ e. read_not_bad e) (read_busy block there) fit ran

  pub write_loses : (pairs : Pairs) → All (λ (pair : ℕ × Block). pair.0 < block_count setup) (pairs_of pairs) → point_wear p < worn_at → Loses → Ran told told_then (GoesOn k.slots setup p (Write pairs) (Halted (HaltTwo two)) (IsHaltedFrom p (HaltTwo two)))
  write_loses pairs there fit ran = loses_told (Write pairs) refl refl refl (λ e. write_not_bad e) (write_busy pairs there) fit ran

  pub flush_loses : point_wear p < worn_at → Loses → Ran told told_then (GoesOn k.slots setup p Flush (Halted (HaltTwo two)) (IsHaltedFrom p (HaltTwo two)))
  flush_loses fit ran = loses_told Flush refl refl refl (λ e. flush_not_bad e) flush_busy fit ran
