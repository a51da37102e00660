-- What is held stays held while an absent disk is marked.
use Rattle.std.specs.Prelude.{◌≡◌, ℕ, ◌+◌, ◌<◌, ◌≤◌, false, [], Option, Some, length}
use Rattle.std.proofs.Common.{refl, sym, ◌∙◌, ap, subst, inl, inr}
use Rattle.paraid_base.specs.History.{History}
use Rattle.paraid_base.specs.declared.state.Out.TheVariants.{Gone, Fresh}
use Rattle.paraid_rack.specs.Alike.{IsAlike}
use Rattle.paraid_rack.specs.Disks.{Disks, is_present}
use Rattle.paraid_record.specs.declared.meta.Meta.{Meta}
use Rattle.paraid_record.specs.Range.{IsInRange}
use Rattle.paraid_recover.proofs.QuietCallsLemmas.{still_true}
use Rattle.paraid_image.specs.Rest.{IsAtRest}
use Rattle.paraid_txn.specs.Commit.{IsEitherMissing, IsNext, IsOldOrNew}
use Rattle.paraid_image.specs.Content.{view_by, view_of}
use Rattle.paraid_image.specs.HeldAt.{IsHeld, IsSoundFrom}
use Rattle.paraid_image.specs.FirstWrites.{HoldsFirstWrites}
use Rattle.paraid_image.specs.Mark.{marked_gone}
use Rattle.paraid_image.specs.Out.{named_out, out_disk}
use Rattle.paraid_image.specs.Sides.{LogState, closed_over}
use Rattle.paraid_image.specs.Sound.{ContentOk, AreWitnessesTrue}
use Rattle.paraid_image.specs.Standing.{contents}
use Rattle.paraid_image.proofs.AlikeLemmas.{contents_alike, held_alike, stands_alike}
use Rattle.paraid_moves.proofs.MoveLemmas.{fits_later}
use Rattle.paraid_recover.specs.RecoveryMark.{of_version_two}
use Rattle.paraid_txn.proofs.HeldCommitLemmas.{held_commits}
use Rattle.paraid_image.proofs.HeldLemmas.{image_of_synced}
use Rattle.paraid_image.proofs.MarkLemmas.{content_marked}
use Rattle.paraid_image.proofs.StandingLemmas.{Stands-same}

-- the disks themselves, with nothing loose on absent disks either
abbrev pub synced_disks : Disks → Disks
synced_disks s = record s { loose = λ d p. false }

module _ (slots : ℕ) (s : Disks) (m : Meta) (d epoch : ℕ) (h : History) (lo : ℕ) (was : Option ℕ) (rest : IsAtRest s m) (held : IsHeld slots s h lo was)
    (only : (e : ℕ) → named_out m.out ≡ Some e → e ≡ d) (low : d < m.setup.geometry.disks) (gone : is_present (s.power d) ≡ false) (next : epoch ≡ m.epoch + 1) (in_range_after : IsInRange (marked_gone (of_version_two m) d epoch)) where
  alike : IsAlike s (synced_disks s)
  alike = record { power = λ x. refl; size = λ x. refl; block = λ x p there. refl; loose = λ x p there. sym (rest.synced x p there.present) }

  whole : IsSoundFrom slots (synced_disks s) h lo
  whole = (held_alike slots s (synced_disks s) h lo was alike held).whole (synced_disks s) (image_of_synced (synced_disks s) (λ x p. refl))

  same : whole.sound.said ≡ closed_over m
  same = (Stands-same (synced_disks s) whole.sound.disk rest.disk whole.sound.said (closed_over m) whole.sound.log.stands
      (stands_alike s (synced_disks s) rest.disk (closed_over m) alike rest.log.stands)).1

  -- what the meta before stands for
  content : ContentOk slots s.power s.size (view_by m s.power (contents s [])) h whole.k
  content = subst (λ f. ContentOk slots s.power s.size (view_by m s.power f) h whole.k) (contents_alike s (synced_disks s) [] alike)
      (subst (λ (o : LogState). ContentOk slots s.power s.size (view_of (synced_disks s) o) h whole.k) same whole.sound.content)

  range : IsInRange m
  range = rest.log.stands.says.log.meta.in_range

  writes : m.writes ≡ whole.k
  writes = ap (λ (o : LogState). o.meta.writes) (sym same) ∙ whole.sound.log.writes

  pub is_next : IsNext s m (marked_gone (of_version_two m) d epoch)
  is_next = record {
    epoch = next;
    setup = refl;
    out = λ a b p q. let is : d ≡ a = cc in sym is ∙ sym (only b q);
    comes_in = λ x l here is not. absurd (not (ap (λ (y : ℕ). Some y) (sym (only x is))));
    fresh_closed = λ x u fresh l. let z : Gone d ≡ Fresh x u = fresh.is in cc;
  }

  -- it holds as many writes as the meta counts
  pub before_holds : HoldsFirstWrites slots s m [] h lo
  before_holds = record {
    low = subst (λ (k : ℕ). lo ≤ k) (sym writes) whole.low;
    high = subst (λ (k : ℕ). k ≤ length h) (sym writes) whole.high;
    content = subst (λ (k : ℕ). ContentOk slots s.power s.size (view_by m s.power (contents s [])) h k) (sym writes) content;
  }

  witnesses : AreWitnessesTrue s (out_disk s.power m)
  witnesses = still_true s (out_disk s.power m) (subst (λ (o : LogState). AreWitnessesTrue (synced_disks s) (out_disk s.power o.meta)) same whole.sound.witnesses)

  pub mark_held : (t : Disks) (down : Option ℕ) → ((e : ℕ) → e < m.setup.geometry.disks → is_present (t.power e) ≡ false → down ≡ Some e) → down ≡ Some d
      → IsOldOrNew s m (marked_gone (of_version_two m) d epoch) [] t → IsHeld slots t h lo down
  mark_held t down downs is moment =
      let old = before_holds in
      let new : HoldsFirstWrites slots s (marked_gone (of_version_two m) d epoch) [] h lo = record {
        low = old.low;
        high = old.high;
        content = fits_later slots s.power s.size h m.writes (marked_gone m d epoch) (marked_gone (of_version_two m) d epoch) (contents s [])
            (record { setup = refl; gear = refl; phase = refl; fill = refl; out = refl; spins = refl })
            (λ e u fresh. let z : Gone d ≡ Fresh e u = fresh.is in cc)
            (content_marked slots s.power s.size m d epoch (contents s []) h m.writes range rest.log.single low gone old.content);
      } in
      held_commits slots s m (marked_gone (of_version_two m) d epoch) [] h lo old new witnesses t down one_down moment
    where
      one_down : (e : ℕ) → IsEitherMissing t.power m (marked_gone (of_version_two m) d epoch) e → down ≡ Some e
      one_down e (inl p) = elim p.is [ inl off ↦ downs e p.disk off | inr name ↦ is ∙ ap (λ (y : ℕ). Some y) (sym (only e name)) ]
      one_down e (inr p) = elim p.is [ inl off ↦ downs e p.disk off | inr name ↦ is ∙ name ]
