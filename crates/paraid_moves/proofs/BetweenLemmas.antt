-- The other calls between two commits: a disk is parked, spun up, or attached.
use Rattle.std.specs.Prelude.{◌≡◌, ◌≢◌, ℕ, ◌≤◌, true, Option}
use Rattle.std.proofs.Common.{sym, subst}
use Rattle.paraid_base.specs.declared.state.Out.TheVariants.{Gone, Fresh}
use Rattle.paraid_base.specs.History.{History}
use Rattle.paraid_base.specs.Regions.{disk_size}
use Rattle.paraid_rack.specs.declared.call.Call.TheVariants.{Attach, Park, SpinUp}
use Rattle.paraid_rack.specs.declared.call.Power.{Power}
use Rattle.paraid_rack.specs.declared.call.Power.TheVariants.{Spinning, Parked}
use Rattle.paraid_rack.specs.Disks.{Disks, IsPresent, step, with_at}
use Rattle.paraid_record.specs.declared.meta.Meta.{Meta}
use Rattle.paraid_record.specs.Range.{IsInRange}
use Rattle.paraid_image.specs.Out.{out_disk}
use Rattle.paraid_image.specs.Sound.{AreDisks, ContentOk}
use Rattle.paraid_image.specs.Content.{view_by}
use Rattle.paraid_image.specs.Spot.{rising_to}
use Rattle.paraid_image.specs.Standing.{Contents}
use Rattle.paraid_moves.specs.Copying.{CanLose, HoldsWithCopies, without_disk}
use Rattle.paraid_moves.proofs.ChangedDiskLemmas.{attached_to, copying_attached, without_there}
use Rattle.paraid_moves.proofs.FailLemmas.{attaches}
use Rattle.paraid_moves.proofs.ParkingLemmas.{IsTurnedTo, content_turned, copying_turned, disks_parked, disks_spun, parked_turned, self_at, spun_turned}

module _ (slots : ℕ) (m : Meta) (f : Contents) (h : History) (lo : ℕ) where
  pub copies_turned : (s t : Disks) → IsTurnedTo s t → AreDisks slots t.power t.size m (out_disk s.power m) → HoldsWithCopies slots m f h lo s → HoldsWithCopies slots m f h lo t
  copies_turned s t turned ready c = record {
    copying = copying_turned s t m f turned c.copying;
    low = c.low;
    high = c.high;
    content = content_turned slots s.power t.power t.size m f h m.writes turned.present ready
        (subst (λ (z : ℕ → ℕ). ContentOk slots s.power z (view_by m s.power f) h m.writes) (λ u. λ x. (sym (turned.size x)) u) c.content);
  }

  -- the sizes stay where a disk is turned
  sized : (s : Disks) (d : ℕ) (p : ℕ → Power) (o : Option ℕ) → AreDisks slots p s.size m o → AreDisks slots p (with_at s.size d (s.size d)) m o
  sized s d p o ready = subst (λ (z : ℕ → ℕ). AreDisks slots p z m o) (λ u. λ x. (sym (self_at s.size d x)) u) ready

  pub copies_parked : (s : Disks) (d : ℕ) → IsPresent s d → 2 ≤ d → m.gear ≤ d → rising_to m.phase ≤ d → ((u : ℕ) → m.out ≢ Fresh d u)
      → HoldsWithCopies slots m f h lo s → HoldsWithCopies slots m f h lo (step (Park d true) s)
  unfolding step
  copies_parked s d here no_log low rises not_fresh c =
      copies_turned s (step (Park d true) s) (parked_turned s d here)
      (sized s d (with_at s.power d Parked) (out_disk s.power m) (disks_parked slots s.power s.size m (out_disk s.power m) d no_log low rises not_fresh here c.content.kept.disks)) c

  pub copies_spun : (s : Disks) (d : ℕ) → IsPresent s d → HoldsWithCopies slots m f h lo s → HoldsWithCopies slots m f h lo (step (SpinUp d true) s)
  unfolding step
  copies_spun s d here c =
      copies_turned s (step (SpinUp d true) s) (spun_turned s d here)
      (sized s d (with_at s.power d Spinning) (out_disk s.power m) (disks_spun slots s.power s.size m (out_disk s.power m) d here c.content.kept.disks)) c

  pub copies_attached : (s : Disks) (d size : ℕ) → IsInRange m → m.out ≡ Gone d → disk_size m.setup.geometry ≤ size → CanLose slots m f h lo d s
      → HoldsWithCopies slots m (without_disk f d) h lo (step (Attach d size true) s)
  copies_attached s d size range gone large can =
      let a = attached_to s d size in
      record {
        copying = copying_attached s (step (Attach d size true) s) m f d size a gone can.others can.copies.copying;
        low = can.copies.low;
        high = can.copies.high;
        content = attaches slots s.power s.size h m.writes m f d range (step (Attach d size true) s).power (step (Attach d size true) s).size (without_disk f d)
            can.disk gone a.power a.sizes a.here (subst (λ (z : ℕ). disk_size m.setup.geometry ≤ z) (sym a.large) large)
            (λ x q apart. without_there f d x q apart) can.copies.content;
      }
