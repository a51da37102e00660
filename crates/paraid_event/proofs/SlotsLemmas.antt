-- From what a core says of the slots to what the disks that are told show.
use Rattle.std.proofs.Common.{◌≡◌, ℕ, ◌<◌, true, false, List, Option, Some, None, refl, sym, ap, ◌∙◌}
use Rattle.paraid_base.specs.declared.state.Out.TheVariants.{Fresh}
use Rattle.paraid_base.specs.States.{named_out}
use Rattle.paraid_rack.specs.declared.call.Call.{Call}
use Rattle.paraid_rack.specs.Disks.{Disks, is_present}
use Rattle.paraid_rack.specs.Slots.{Agrees, Slot}
use Rattle.paraid_rack.specs.Told.{Ran}
use Rattle.paraid_rack.specs.Trail.{Trail, now}
use Rattle.paraid_record.specs.declared.meta.Meta.{Meta}
use Rattle.paraid_record.specs.declared.meta.Setup.{Setup}
use Rattle.paraid_image.specs.Mark.{meta_with_lost}
use Rattle.paraid_core.specs.Lost.{MarksLost}
use Rattle.paraid_session.specs.Turn.{Point}
use Rattle.paraid_event.proofs.ApartLemmas.{gone_not_fresh, no_one}
use Rattle.paraid_event.specs.Marks.{IsMarkedBy}
use Rattle.paraid_event.specs.Service.{Service}
use Rattle.paraid_event.specs.Stands.{StandsAt}
use Rattle.paraid_event.proofs.TurnLemmas.{fresh_there}

module _ (told told_then : Option Trail) (k : Service) (m_then : Meta) (setup : Setup) (p : Point) (at : StandsAt told k setup p) (slot slot_then : ℕ → Slot) (Q : Disks → List Call → Type 0) (ran : Ran told told_then Q)
    (agrees : (t : Trail) → told ≡ Some t → Agrees (now t) slot) (agrees_then : (t : Trail) → told_then ≡ Some t → Agrees (now t) slot_then) (marks : MarksLost slot slot_then k.meta m_then)
    (named : (d : ℕ) → d < k.meta.setup.geometry.disks → is_present (slot_then d).power ≡ false → named_out m_then.out ≡ Some d) where
  out_by : (o : Option ℕ) → marks.lost ≡ o → m_then.out ≡ (meta_with_lost o k.meta).out
  out_by o is = ap (λ (z : Meta). z.out) marks.is ∙ ap (λ (l : Option ℕ). (meta_with_lost l k.meta).out) is

  fresh_now : (t : Trail) → told_then ≡ Some t → (d u : ℕ) → m_then.out ≡ Fresh d u → is_present ((now t).power d) ≡ true
  fresh_now t tells d u is = by marks.lost refl
    where
      by : (o : Option ℕ) → marks.lost ≡ o → is_present ((now t).power d) ≡ true
      by None none =
          let r = ran t tells in
          let was = fresh_there told k setup p at d u (sym (out_by None none) ∙ is) in
          let same_power = (marks.others d (λ e. absurd (no_one (sym none ∙ e)))).power in
          ap is_present ((agrees_then t tells).power d ∙ same_power ∙ sym ((agrees r.from r.was).power d) ∙ ap (λ (s : Disks). s.power d) (at.disks r.from r.was)) ∙ was
      by (Some x) some = absurd (gone_not_fresh (sym (out_by (Some x) some) ∙ is))

  -- The meta is marked by the disks that are told.
  pub marked_by_slots : (t : Trail) → told_then ≡ Some t → IsMarkedBy (now t).power k.meta m_then
  marked_by_slots t tells = record {
    lost = marks.lost;
    is = marks.is;
    disk = marks.disk;
    alone = marks.alone;
    absent = λ d lost. ap is_present ((agrees_then t tells).power d ∙ (marks.failed d lost).absent);
    named = λ d low gone. named d low (ap is_present (sym ((agrees_then t tells).power d)) ∙ gone);
    fresh = fresh_now t tells;
  }
