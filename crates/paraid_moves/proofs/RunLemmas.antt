-- The calls that make copies, with the history held at each moment.
use Rattle.std.specs.Prelude.{◌≡◌, ℕ, ◌<◌, Bool, true, false, [], Option, Some, None}
use Rattle.std.proofs.Common.{refl, sym, ◌∙◌, ap, subst, inl, inr}
use Rattle.std.proofs.lemmas.Bool.{cases_eq}
use Rattle.paraid_base.specs.declared.block.Block.{Block}
use Rattle.paraid_base.specs.History.{History}
use Rattle.paraid_base.specs.Log.{map_block_place}
use Rattle.paraid_base.specs.Regions.{map_count}
use Rattle.paraid_rack.specs.declared.call.Call.{Call}
use Rattle.paraid_rack.specs.declared.call.Call.TheVariants.{Read, Sync, Write}
use Rattle.paraid_rack.specs.declared.call.Power.{Power}
use Rattle.paraid_rack.specs.Disks.{Disks, step, with_at}
use Rattle.paraid_rack.specs.Told.{GrowsByCall, Ran, CrashTriple}
use Rattle.paraid_rack.specs.Trail.{Trail}
use Rattle.paraid_rack.proofs.AtomsLemmas.{with_at_other, with_at_same}
use Rattle.paraid_rack.proofs.TrailsLemmas.{called}
use Rattle.paraid_record.specs.declared.meta.Meta.{Meta}
use Rattle.paraid_record.specs.Range.{IsInRange}
use Rattle.paraid_image.specs.Content.{view_by}
use Rattle.paraid_image.specs.Calls.{disk_of, is_done}
use Rattle.paraid_image.specs.FirstWrites.{HoldsFirstWrites}
use Rattle.paraid_image.specs.Out.{out_disk}
use Rattle.paraid_image.specs.Rest.{IsAtRest}
use Rattle.paraid_image.specs.Sound.{AreWitnessesTrue, ContentOk}
use Rattle.paraid_image.specs.Standing.{Contents, contents}
use Rattle.paraid_image.proofs.FailedCallLemmas.{failed_is_loss}
use Rattle.paraid_moves.specs.Copying.{CanCopy, CanLose, HoldsWithCopies, IsHeldByCopies, IsCopying, without_disk}
use Rattle.paraid_moves.proofs.ChangedDiskLemmas.{content_lost, copying_lost}
use Rattle.paraid_moves.proofs.CopyCommitLemmas.{copying_from_rest, copying_holds, copying_read, copying_sync, copying_write}

module _ (slots : ℕ) (m : Meta) (f : Contents) (h : History) (lo : ℕ) where
  pub copies_held : (s : Disks) → HoldsWithCopies slots m f h lo s → IsHeldByCopies slots m h lo s
  copies_held s c = copying_holds slots s m f h lo c.low c.high c.content c.copying

  -- a done call leaves the powers and the sizes
  self_at : {A : Type 0} (p : ℕ → A) (d : ℕ) → with_at p d (p d) ≡ p
  self_at {A} p d = λ t. λ x. (at x) t
    where
      at : (x : ℕ) → with_at p d (p d) x ≡ p x
      at x = elim (cases_eq x d) [
        | inl is ↦ with_at_same p d (p d) x is ∙ ap p (sym is)
        | inr apart ↦ with_at_other p d (p d) x apart
      ]

  -- the same history in disks of the same powers and sizes
  moved : (s t : Disks) → t.power ≡ s.power → t.size ≡ s.size → IsCopying t m f → HoldsWithCopies slots m f h lo s → HoldsWithCopies slots m f h lo t
  moved s t power size copying c = record {
    copying = copying;
    low = c.low;
    high = c.high;
    content = subst (λ (p : ℕ → Power). ContentOk slots p t.size (view_by m p f) h m.writes) (sym power)
        (subst (λ (z : ℕ → ℕ). ContentOk slots s.power z (view_by m s.power f) h m.writes) (sym size) c.content);
  }

  pub copies_write : (s : Disks) (d p : ℕ) (b : Block) → CanCopy slots m f h lo d p s → HoldsWithCopies slots m f h lo (step (Write d p b true) s)
  unfolding step
  copies_write s d p b c = moved s (step (Write d p b true) s) (self_at s.power d) (self_at s.size d) (copying_write s m f d p b c.free c.copies.copying) c.copies

  pub copies_read : (s : Disks) (d p : ℕ) → HoldsWithCopies slots m f h lo s → HoldsWithCopies slots m f h lo (step (Read d p true) s)
  unfolding step
  copies_read s d p c = moved s (step (Read d p true) s) (self_at s.power d) (self_at s.size d) (copying_read s m f d p c.copying) c

  pub copies_sync : (s : Disks) (d : ℕ) → HoldsWithCopies slots m f h lo s → HoldsWithCopies slots m f h lo (step (Sync d true) s)
  unfolding step
  copies_sync s d c = moved s (step (Sync d true) s) (self_at s.power d) (self_at s.size d) (copying_sync s m f d c.copying) c

  -- a failed one loses its disk
  pub copies_lost : (s : Disks) (c : Call) → is_done c ≡ false → IsInRange m → CanLose slots m f h lo (disk_of c) s
      → HoldsWithCopies slots m (without_disk f (disk_of c)) h lo (step c s)
  copies_lost s c failed range can =
      let loss = failed_is_loss s c failed in
      let mirrored : (x : ℕ) → x < map_count m.setup.geometry → out_disk s.power m ≡ None → f 0 (map_block_place m.setup.geometry x) ≡ f 1 (map_block_place m.setup.geometry x) =
      (λ x l none. can.copies.content.kept.map.mirrored x l
      (λ o. let z : None ≡ Some 0 = sym none ∙ o in cc) (λ o. let z : None ≡ Some 1 = sym none ∙ o in cc)) in
      record {
        copying = copying_lost s (step c s) m f (disk_of c) loss can.disk can.others can.copies.copying mirrored;
        low = can.copies.low;
        high = can.copies.high;
        content = content_lost s (step c s) m f (disk_of c) loss can.disk can.others can.copies.copying mirrored slots h m.writes range can.copies.content;
      }

  -- one copy, done
  pub copy_ran : {old new : Option Trail} {d p : ℕ} {b : Block} → GrowsByCall old new (Write d p b true)
      → Ran old new (CrashTriple (IsHeldByCopies slots m h lo) (CanCopy slots m f h lo d p) (HoldsWithCopies slots m f h lo))
  copy_ran {old} {new} {d} {p} {b} grows =
      called (IsHeldByCopies slots m h lo) (CanCopy slots m f h lo d p) (HoldsWithCopies slots m f h lo) old new (Write d p b true) grows
      (λ s c. copies_held s c.copies) (λ s c. copies_held s c) (λ s c. copies_write s d p b c)

-- or failed
pub copy_lost_ran : (slots : ℕ) (m : Meta) (f : Contents) (h : History) (lo : ℕ) {old new : Option Trail} {d p : ℕ} {b : Block} → IsInRange m → GrowsByCall old new (Write d p b false)
    → Ran old new (CrashTriple (IsHeldByCopies slots m h lo) (CanLose slots m f h lo d) (HoldsWithCopies slots m (without_disk f d) h lo))
copy_lost_ran slots m f h lo {old} {new} {d} {p} {b} range grows =
    called (IsHeldByCopies slots m h lo) (CanLose slots m f h lo d) (HoldsWithCopies slots m (without_disk f d) h lo) old new (Write d p b false) grows
    (λ s c. copies_held slots m f h lo s c.copies) (λ s c. copies_held slots m (without_disk f d) h lo s c)
    (λ s c. copies_lost slots m f h lo s (Write d p b false) refl range c)

-- the same by the answer of the call
pub copy_made : (slots : ℕ) (m : Meta) (f : Contents) (h : History) (lo : ℕ) {old new : Option Trail} {d p : ℕ} {b : Block} {done : Bool} → done ≡ true
    → GrowsByCall old new (Write d p b done) → Ran old new (CrashTriple (IsHeldByCopies slots m h lo) (CanCopy slots m f h lo d p) (HoldsWithCopies slots m f h lo))
copy_made slots m f h lo {old} {new} {d} {p} {b} is grows = copy_ran slots m f h lo (subst (λ (x : Bool). GrowsByCall old new (Write d p b x)) is grows)

pub copy_failed : (slots : ℕ) (m : Meta) (f : Contents) (h : History) (lo : ℕ) {old new : Option Trail} {d p : ℕ} {b : Block} {done : Bool} → done ≡ false → IsInRange m
    → GrowsByCall old new (Write d p b done) → Ran old new (CrashTriple (IsHeldByCopies slots m h lo) (CanLose slots m f h lo d) (HoldsWithCopies slots m (without_disk f d) h lo))
copy_failed slots m f h lo {old} {new} {d} {p} {b} is range grows = copy_lost_ran slots m f h lo range (subst (λ (x : Bool). GrowsByCall old new (Write d p b x)) is grows)

pub copies_at_rest : (slots : ℕ) (m : Meta) (h : History) (lo : ℕ) (s : Disks) → IsAtRest s m → AreWitnessesTrue s (out_disk s.power m) → HoldsFirstWrites slots s m [] h lo
    → HoldsWithCopies slots m (contents s []) h lo s
copies_at_rest slots m h lo s rest witnesses holds = record { copying = copying_from_rest s m rest witnesses; low = holds.low; high = holds.high; content = holds.content }
