-- What a core stands for after a mount: at rest under the meta that stands, and with the mark of a disk that is absent.
use Rattle.std.proofs.Common.{◌≡◌, ℕ, ◌+◌, ◌*◌, ◌<◌, ◌≤◌, Bool, false, List, [], Option, Some, None, refl, sym, ap, ◌∙◌, subst, arith, inl, length}
use Rattle.paraid_base.specs.History.{History}
use Rattle.paraid_base.specs.Regions.{map_count}
use Rattle.paraid_dirty.specs.Table.{is_dirty}
use Rattle.paraid_rack.specs.Alike.{IsAlike}
use Rattle.paraid_rack.specs.Disks.{Disks, is_present}
use Rattle.paraid_record.specs.declared.meta.Meta.{Meta}
use Rattle.paraid_record.specs.Range.{IsInRange}
use Rattle.paraid_image.specs.Content.{view_by, view_of}
use Rattle.paraid_image.specs.HeldAt.{IsHeld, IsSoundFrom}
use Rattle.paraid_image.specs.Mark.{marked_gone}
use Rattle.paraid_image.specs.Out.{named_out, out_disk}
use Rattle.paraid_image.specs.Rest.{IsAtRest}
use Rattle.paraid_image.specs.Sides.{LogState, closed_over}
use Rattle.paraid_image.specs.Sound.{AreWitnessesTrue, ContentOk}
use Rattle.paraid_image.specs.Spot.{map_bit, map_disk}
use Rattle.paraid_image.specs.Standing.{contents}
use Rattle.paraid_image.proofs.AlikeLemmas.{contents_alike, held_alike, stands_alike}
use Rattle.paraid_image.proofs.HeldLemmas.{image_of_synced}
use Rattle.paraid_image.proofs.MarkLemmas.{content_marked}
use Rattle.paraid_image.proofs.OutLemmas.{missing_is_out}
use Rattle.paraid_image.proofs.StandingLemmas.{Stands-same}
use Rattle.paraid_moves.proofs.NextLemmas.{next_gone}
use Rattle.paraid_moves.proofs.RunLemmas.{copies_at_rest}
use Rattle.paraid_core.specs.CoreInvariant.{HoldsBetweenCalls, IsWitnessBorne}
use Rattle.paraid_core.proofs.WriteLemmas.{rest_keeps}
use Rattle.paraid_recover.specs.Mounted.{with_loss}
use Rattle.paraid_recover.specs.RecoveryMark.{to_mark}
use Rattle.paraid_recover.proofs.FitLemmas.{marks}
use Rattle.paraid_recover.proofs.MarkHeldLemmas.{synced_disks}
use Rattle.paraid_recover.proofs.QuietCallsLemmas.{still_true}

-- At rest the disks hold the writes that the meta counts.
module _ (slots : ℕ) (s : Disks) (m : Meta) (h : History) (lo : ℕ) (was : Option ℕ) (rest : IsAtRest s m) (held : IsHeld slots s h lo was) where
  alike : IsAlike s (synced_disks s)
  alike = record { power = λ x. refl; size = λ x. refl; block = λ x p there. refl; loose = λ x p there. sym (rest.synced x p there.present) }

  whole : IsSoundFrom slots (synced_disks s) h lo
  whole = (held_alike slots s (synced_disks s) h lo was alike held).whole (synced_disks s) (image_of_synced (synced_disks s) (λ x p. refl))

  same : whole.sound.said ≡ closed_over m
  same = (Stands-same (synced_disks s) whole.sound.disk rest.disk whole.sound.said (closed_over m) whole.sound.log.stands
      (stands_alike s (synced_disks s) rest.disk (closed_over m) alike rest.log.stands)).1

  found : ContentOk slots s.power s.size (view_by m s.power (contents s [])) h whole.k
  found = subst (λ f. ContentOk slots s.power s.size (view_by m s.power f) h whole.k) (contents_alike s (synced_disks s) [] alike)
      (subst (λ (o : LogState). ContentOk slots s.power s.size (view_of (synced_disks s) o) h whole.k) same whole.sound.content)

  writes : m.writes ≡ whole.k
  writes = ap (λ (o : LogState). o.meta.writes) (sym same) ∙ whole.sound.log.writes

  pub content_at_rest : ContentOk slots s.power s.size (view_by m s.power (contents s [])) h m.writes
  content_at_rest = subst (λ (k : ℕ). ContentOk slots s.power s.size (view_by m s.power (contents s [])) h k) (sym writes) found

  pub witnesses_at_rest : AreWitnessesTrue s (out_disk s.power m)
  witnesses_at_rest = still_true s (out_disk s.power m) (subst (λ (o : LogState). AreWitnessesTrue (synced_disks s) (out_disk s.power o.meta)) same whole.sound.witnesses)

module _ (slots : ℕ) (s : Disks) (m : Meta) (table : List (List Bool)) (copied : List Bool) (h : History) (lo : ℕ) (rest : IsAtRest s m) (witnesses : AreWitnessesTrue s (out_disk s.power m))
    (borne : IsWitnessBorne (named_out m.out) s) (counted : m.writes ≡ length h) (low : lo ≤ length h)
    (ok : ContentOk slots s.power s.size (view_by m s.power (contents s [])) h (length h))
    (dirty : (r d : ℕ) → r < 512 * map_count m.setup.geometry → is_dirty table r d ≡ (view_by m s.power (contents s [])).dirty r d) where
  range : IsInRange m
  range = rest.log.stands.says.log.meta.in_range

  unmarked : HoldsBetweenCalls slots (named_out m.out) m table [] copied h lo s
  unmarked = rest_keeps slots m table copied h lo s rest witnesses borne counted low ok dirty

  -- with the mark of a disk that is absent
  module _ (d : ℕ) (below : d < m.setup.geometry.disks) (gone : is_present (s.power d) ≡ false) (only : (e : ℕ) → named_out m.out ≡ Some e → e ≡ d) where
    out_is : out_disk s.power m ≡ Some d
    out_is = missing_is_out s.power m d range rest.log.single (record { disk = below; is = inl gone }) gone

    marked : HoldsBetweenCalls slots (named_out m.out) (marked_gone m d m.epoch) table [] copied h lo s
    marked = record {
      base = m;
      held = contents s [];
      copies =
          copies_at_rest slots m h lo s rest witnesses
          (record {
            low = omega (arith, counted, low);
            high = omega (arith, counted);
            content = subst (λ (n : ℕ). ContentOk slots s.power s.size (view_by m s.power (contents s [])) h n) (sym counted) ok;
          });
      synced = λ x p here synced. rest.synced x p here;
      named_by = refl;
      borne = borne;
      epoch = refl;
      next = next_gone s m (record (marked_gone m d m.epoch) { epoch = m.epoch + 1 }) refl refl rest d refl only;
      writes = counted;
      brought = λ none. refl;
      staged = content_marked slots s.power s.size m d m.epoch (contents s []) h (length h) range rest.log.single below gone ok;
      dirty = λ r e l. dirty r e l ∙ ap (λ (o : Option ℕ). map_bit m.setup.geometry (contents s [] (map_disk o)) r e) out_is;
    }

  by_mark : (o : Option ℕ) → to_mark s.power m ≡ o → HoldsBetweenCalls slots (named_out m.out) (with_loss m o) table [] copied h lo s
  by_mark None is = unmarked
  by_mark (Some d) is = let it = marks s.power m d range is in marked d it.0 it.1 it.2

  -- A core that begins after a mount, with nothing staged, stands for what the disks hold.
  pub settled_keeps : HoldsBetweenCalls slots (named_out m.out) (with_loss m (to_mark s.power m)) table [] copied h lo s
  settled_keeps = by_mark (to_mark s.power m) refl
