-- Events that a disk stands in the way of that is lost with what was staged.
use Rattle.std.proofs.Common.{◌≡◌, ◌≢◌, ℕ, ◌+◌, ◌<◌, ◌≤◌, Bool, true, false, List, [], ◌++◌, Option, Some, None, refl, sym, ap, ◌∙◌, inl, inr, subst, arith, min}
use Rattle.std.specs.Prelude.{◌==◌, nat_lt}
use Rattle.std.proofs.lemmas.Bool.{false≢true}
use Rattle.std.proofs.lemmas.Bool.Decides.{nat_tests}
use Rattle.std.proofs.lemmas.List.{append-nil}
use Rattle.paraid_base.specs.declared.event.Answer.TheVariants.{Out as IsOut}
use Rattle.paraid_base.specs.declared.event.Event.{Event}
use Rattle.paraid_base.specs.declared.event.Event.TheVariants.{Bad, Down as AskDown, Fail, Up as AskUp}
use Rattle.paraid_base.specs.declared.state.Out.TheVariants.{No}
use Rattle.paraid_base.specs.declared.state.Phase.TheVariants.{Steady}
use Rattle.paraid_base.specs.Gears.{next_higher, next_lower}
use Rattle.paraid_base.specs.Log.{worn_at}
use Rattle.paraid_base.specs.States.{named_out}
use Rattle.paraid_base.specs.BlockAnswers.{accepted_write}
use Rattle.paraid_dirty.specs.Table.{is_dirty}
use Rattle.paraid_rack.specs.declared.call.Call.{Call}
use Rattle.paraid_rack.specs.Disks.{Disks, is_present}
use Rattle.paraid_rack.specs.Told.{Ran}
use Rattle.paraid_rack.specs.Trail.{Trail, now, run}
use Rattle.paraid_record.specs.declared.meta.Setup.{Setup}
use Rattle.paraid_image.specs.Power.{PowerState}
use Rattle.paraid_machine.specs.Machine.{IsEventStep, outcomes}
use Rattle.paraid_machine.specs.Moves.{after_loss, first_used_up}
use Rattle.paraid_session.specs.Turn.{GoesOn, Point, bounds_at, bounds_of, point_wear, watch_of}
use Rattle.paraid_session.specs.Watch.{first_lost}
use Rattle.paraid_session.proofs.LayerLemmas.{absent_failed, fails_first}
use Rattle.paraid_session.specs.Resting.{watch_at}
use Rattle.paraid_event.proofs.ApartLemmas.{no_one}
use Rattle.paraid_event.specs.Counts.{CountsFlushed, with_counts_of}
use Rattle.paraid_event.specs.Parts.{AreEventCalls, EndsEvent, ServesEvent}
use Rattle.paraid_event.specs.Service.{IsStateOf, Service}
use Rattle.paraid_event.specs.Stands.{StandsAt}
use Rattle.paraid_event.proofs.EventLemmas.{told_turn}
use Rattle.paraid_event.proofs.MarksLemmas.{newly_named}
use Rattle.paraid_event.proofs.TurnLemmas.{absent_named, lost_named, marks, state_after, state_then, turn_by}
use Rattle.paraid_recover.proofs.DownLemmas.{watched_disks}

same_counts : (k k_then : Service) → CountsFlushed k k_then → (s : PowerState) → IsStateOf (with_counts_of k_then k) s → IsStateOf k_then s
same_counts k k_then counts s of = record {
  gear = of.gear;
  phase = of.phase;
  fill = of.fill;
  out = of.out;
  spins = of.spins;
  ticks = of.ticks;
  dirty = λ r d low. of.dirty r d low ∙ ap (λ (t : List (List Bool)). is_dirty t r d) (sym counts.table);
  samples = of.samples ∙ sym counts.samples;
  served = of.served ∙ sym counts.served;
}

capped : (e u k : ℕ) → u ≡ k → e ≡ k → k ≤ 18446744073709551615 → e ≡ min (u + 0) 18446744073709551615
capped e u k same is fits = grind (arith)

below_test : (a b : ℕ) → a < b → nat_lt a b ≡ true
below_test a b l = grind (arith, nat_tests)

apart_test : (a b : ℕ) → a ≢ b → (a == b) ≡ false
apart_test a b l = grind (arith, nat_tests)

module _ (told told_then : Option Trail) (k k_then : Service) (setup : Setup) (p : Point) (at : StandsAt told k setup p) (e lo_then : ℕ) (fit : point_wear p < worn_at) (no_out : p.state.out ≡ No) (named : named_out k_then.meta.out ≡ Some e) (counts : CountsFlushed k k_then)
    (low : p.low ≤ lo_then) where
  none_named : (d : ℕ) → named_out k.meta.out ≡ Some d → ⊥
  none_named d was = absurd (no_one (sym (ap named_out (sym at.state.out ∙ no_out)) ∙ was))

  module _ (cs : List Call) (part : AreEventCalls k p.history p.low p.meta p.disks cs) (ends : EndsEvent k k_then p.history lo_then p.disks cs) where
    -- the disk that is out now failed first
    failed_first : first_lost cs ≡ Some e
    failed_first = elim (newly_named _ k.meta k_then.meta (marks told k setup p at cs part k_then p.history lo_then ends) e named) [
      | inl was ↦ absurd (none_named e was)
      | inr gone ↦
          let off = subst (λ (s : Disks). is_present (s.power e) ≡ false) (watched_disks (watch_at p) cs) gone.1 in
          elim (absent_failed p.disks cs e off) [
            | inl before ↦ absurd (none_named e (absent_named told k setup p at e gone.0 before))
            | inr failed ↦
                let f = fails_first cs e failed in
                let also = lost_named told k setup p at cs part k_then p.history lo_then ends f.0 f.1 in
                let z : Some f.0 ≡ Some e = sym also ∙ named in
                f.1 ∙ z
          ]
    ]

    state_is : IsStateOf k_then (after_loss p.state e)
    state_is = same_counts k k_then counts (after_loss p.state e)
        (subst (λ (o : Option ℕ). IsStateOf (with_counts_of k_then k) (state_after p.state o)) failed_first (state_then told k setup p at cs part k_then p.history lo_then ends))

    hindered_turn : (event : Event) → watch_of p event (IsOut e) ≡ watch_at p → bounds_of setup p event ≡ bounds_at setup p p.state → event ≢ Bad → accepted_write event (IsOut e) ≡ []
        → IsEventStep setup p.history p.energy p.state event (Some e) (IsOut e) (after_loss p.state e)
        → ((t : Trail) → told_then ≡ Some t → now t ≡ run p.disks cs) → GoesOn k.slots setup p event (IsOut e) (StandsAt told_then k_then setup) p.disks cs
    hindered_turn event starts bounds not_bad none machine tells =
        turn_by told k setup p at cs part k_then p.history lo_then ends event (IsOut e) told_then (after_loss p.state e)
        starts bounds (λ a. refl) not_bad fit (subst (λ (o : Option ℕ). IsEventStep setup p.history p.energy p.state event o (IsOut e) (after_loss p.state e)) (sym failed_first) machine)
        state_is (sym (append-nil p.history) ∙ ap (λ (more : _). p.history ++ more) (sym none)) low
        (λ quiet no_loss. let z : Some e ≡ None = sym failed_first ∙ no_loss in cc) (λ f. absurd (false≢true f)) tells counts.slots counts.copies_synced (capped k_then.energy p.energy k.energy at.energy counts.energy at.fits) (refl, refl)

  abbrev Hinders : Event → Type 0
  Hinders event = Ran told told_then (ServesEvent k k_then p.history p.low p.history lo_then) → Ran told told_then (GoesOn k.slots setup p event (IsOut e) (StandsAt told_then k_then setup))

  pub fail_hindered : (d : ℕ) → d < setup.geometry.disks → d ≢ e → Hinders (Fail d)
  unfolding outcomes
  fail_hindered d below apart = told_turn told told_then k k_then setup p at p.history lo_then (Fail d) (IsOut e)
      (λ cs part ends tells. hindered_turn cs part ends (Fail d) refl refl (λ z. let y : Fail d ≡ Bad = z in cc) refl step tells)
    where
      step : IsEventStep setup p.history p.energy p.state (Fail d) (Some e) (IsOut e) (after_loss p.state e)
      step = record { among = rw (below_test d setup.geometry.disks below, no_out, apart_test d e apart) (0, omega arith, refl) }

  pub up_hindered : (to : ℕ) → next_higher setup.geometry p.state.gear ≡ Some to → p.state.phase ≡ Steady → Hinders AskUp
  unfolding outcomes
  up_hindered to some steady = told_turn told told_then k k_then setup p at p.history lo_then AskUp (IsOut e)
      (λ cs part ends tells. hindered_turn cs part ends AskUp refl refl (λ z. let y : AskUp ≡ Bad = z in cc) refl step tells)
    where
      step : IsEventStep setup p.history p.energy p.state AskUp (Some e) (IsOut e) (after_loss p.state e)
      step = record { among = rw (some, steady, no_out) (0, omega arith, refl) }

  pub down_hindered : (to : ℕ) → next_lower setup.geometry p.state.gear ≡ Some to → p.state.phase ≡ Steady → first_used_up setup p.state to ≡ None → Hinders AskDown
  unfolding outcomes
  down_hindered to some steady unworn = told_turn told told_then k k_then setup p at p.history lo_then AskDown (IsOut e)
      (λ cs part ends tells. hindered_turn cs part ends AskDown refl refl (λ z. let y : AskDown ≡ Bad = z in cc) refl step tells)
    where
      step : IsEventStep setup p.history p.energy p.state AskDown (Some e) (IsOut e) (after_loss p.state e)
      step = record { among = rw (some, steady, no_out, unworn) (0, omega arith, refl) }
