-- An array stands at a mark of a session.
use Rattle.std.proofs.Common.{◌≡◌, ℕ, ◌<◌, ◌≤◌, Option, Some, None, refl, sym, ap, ◌∙◌, subst, arith}
use Rattle.paraid_base.specs.History.{History}
use Rattle.paraid_base.specs.States.{named_out}
use Rattle.paraid_rack.specs.Disks.{Disks, is_present}
use Rattle.paraid_rack.specs.Trail.{Trail}
use Rattle.paraid_record.specs.declared.meta.Meta.{Meta}
use Rattle.paraid_record.specs.declared.meta.Setup.{Setup}
use Rattle.paraid_image.specs.HeldAt.{IsHeld}
use Rattle.paraid_image.specs.Looked.{IsLooked}
use Rattle.paraid_image.specs.Out.{out_disk}
use Rattle.paraid_image.specs.Rest.{AreSynced, IsAtRest}
use Rattle.paraid_image.specs.Sides.{LogState}
use Rattle.paraid_image.specs.Standing.{Stands}
use Rattle.paraid_moves.proofs.CopyCommitLemmas.{rest_from_copying}
use Rattle.paraid_moves.proofs.RunLemmas.{copies_held}
use Rattle.paraid_session.specs.Turn.{IsMark, Point, bounds_at}
use Rattle.paraid_session.specs.Watch.{IsHeldWhileServing, IsWithinBounds, down_from_out}
use Rattle.paraid_session.specs.Resting.{IsResting}
use Rattle.paraid_recover.proofs.RestLemmas.{rest_only}
use Rattle.paraid_recover.proofs.SpinsLemmas.{looked_power, same_used}
use Rattle.paraid_event.specs.Service.{Service}
use Rattle.paraid_event.specs.Stands.{StandsAt}
use Rattle.paraid_event.proofs.MarksLemmas.{gone_is_named, named_state, powers_of, state_shown}

held_beside : (slots : ℕ) (s : Disks) (h : History) (lo : ℕ) (o : Option ℕ) → IsHeld slots s h lo o → IsHeldWhileServing slots s h lo (down_from_out o)
held_beside slots s h lo None held = held
held_beside slots s h lo (Some d) held = held

module _ (told : Option Trail) (k : Service) (setup : Setup) (p : Point) (at : StandsAt told k setup p) where
  base_is : at.stands.keeps.base ≡ p.meta
  base_is = at.stands.is_base

  synced : AreSynced p.disks
  synced d q here = at.stands.keeps.synced d q here (λ low. at.copies_synced d low)

  pub rest : IsAtRest p.disks p.meta
  rest = subst (IsAtRest p.disks) base_is (rest_from_copying p.disks at.stands.keeps.base at.stands.keeps.held synced at.stands.keeps.copies.copying)

  pub out_is : named_out p.state.out ≡ out_disk p.disks.power p.meta
  out_is = ap named_out (at.state.out ∙ sym at.shown.out) ∙ named_state p.disks.power p.meta

  pub held : IsHeld k.slots p.disks p.history p.low (named_out p.state.out)
  held = subst (IsHeld k.slots p.disks p.history p.low) (sym out_is)
      (subst (λ (m : Meta). IsHeld k.slots p.disks p.history p.low (out_disk p.disks.power m)) base_is
      (copies_held k.slots at.stands.keeps.base at.stands.keeps.held p.history p.low p.disks at.stands.keeps.copies))

  pub setup_is : p.meta.setup ≡ setup
  setup_is = ap (λ (m : Meta). m.setup) (sym base_is) ∙ sym at.stands.keeps.next.setup ∙ at.same_setup

  ticks_are : p.meta.ticks ≤ p.state.ticks
  ticks_are = let l = at.stands.ticks in let e = at.state.ticks in omega (arith, l, e)

  -- It is a mark.
  pub stands_mark : IsMark k.slots setup p
  stands_mark = record {
    held = held;
    rest = rest;
    same_setup = setup_is;
    counted_ticks = ticks_are;
    shown = state_shown p.disks.power p.meta k.meta _ k p.state refl at.shown at.state;
    powers = λ d power low is. powers_of k p.state p.disks.power at.powered at.state d power (subst (λ (z : Setup). d < z.geometry.disks) (sym at.same_setup) low) is;
    borne = λ x low names. at.stands.keeps.borne x low (sym at.stands.keeps.named_by ∙ ap (λ (m : Meta). named_out m.out) base_is ∙ names);
  }

  within : (x : ℕ) (i : Disks) (said : LogState) → IsLooked p.disks i → Stands i x said → IsWithinBounds (bounds_at setup p p.state) p.spun i said.meta
  within x i said looked stands = subst (IsWithinBounds (bounds_at setup p p.state) p.spun i) (sym (rest_only p.disks p.meta rest x i said looked stands)) (record {
    same_setup = setup_is;
    in_time = omega arith;
    counted_ticks = ticks_are;
    recorded = λ d low here not.
        let power = looked_power p.disks i d looked here in
        let used = same_used p.meta i.power p.disks.power d power in
        let before = at.stands.recorded d (subst (λ (z : Setup). d < z.geometry.disks) (sym at.same_setup) low) (ap is_present (sym power) ∙ here) (λ gone. not (gone_is_named p.meta.out d gone)) in
        omega (arith, used, before);
  })

  -- At it the array rests.
  pub stands_resting : IsResting k.slots setup p
  stands_resting = record {
    mark = stands_mark;
    kept = record {
      held = held_beside k.slots p.disks p.history p.low (named_out p.state.out) held;
      within = λ serving. within;
    };
    energy = let e = at.energy in let f = at.fits in omega (arith, e, f);
  }
