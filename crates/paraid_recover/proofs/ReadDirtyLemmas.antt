-- The reads of the log disks keep the cells that are shown as dirty.
use Rattle.std.proofs.Common.{◌≡◌, ℕ, ◌*◌, ◌<◌, Bool, true, List, Option, Some, refl, sym, ap, ◌∙◌, inl, inr, subst, arith}
use Rattle.std.proofs.lemmas.Bool.{cases_Bool, false≢true}
use Rattle.paraid_base.specs.declared.geometry.Geometry.{Geometry}
use Rattle.paraid_base.specs.History.{History}
use Rattle.paraid_base.specs.Regions.{map_count, map_place_of}
use Rattle.paraid_rack.specs.declared.call.Call.{Call}
use Rattle.paraid_rack.specs.Disks.{Disks, is_present}
use Rattle.paraid_rack.specs.Trail.{run}
use Rattle.paraid_record.specs.Range.{IsInRange}
use Rattle.paraid_image.specs.Content.{view_of}
use Rattle.paraid_image.specs.Out.{IsMissing, out_disk}
use Rattle.paraid_image.specs.Power.{initial_state}
use Rattle.paraid_image.specs.RunStart.{IsRunStart}
use Rattle.paraid_image.specs.Sides.{Batch, LogState}
use Rattle.paraid_image.specs.Sound.{ContentOk}
use Rattle.paraid_image.specs.Spot.{map_disk}
use Rattle.paraid_image.specs.Standing.{Stands, contents}
use Rattle.paraid_image.proofs.OutLemmas.{out_missing, says_in_range}
use Rattle.paraid_image.proofs.StandingLemmas.{Stands-same}
use Rattle.paraid_recover.proofs.DirtyKeptLemmas.{map_by, shown_dirty}
use Rattle.paraid_recover.proofs.MapEndLemmas.{bit_same, map_disk_in, missing_out, there_by}
use Rattle.paraid_recover.specs.HeardSides.{ReadsLogs}
use Rattle.paraid_recover.proofs.BaseLemmas.{sound_now}
use Rattle.paraid_recover.proofs.SetupLemmas.{IsKept, kept_by_reads}
use Rattle.paraid_txn.specs.Uses.{EachCall}

contents_kept : (s u : Disks) (batch : Batch) (d p : ℕ) → IsKept s u d → contents u batch d p ≡ contents s batch d p
unfolding contents
contents_kept s u batch d p k = rw (k.power, k.size, k.block p) refl

module _ (slots : ℕ) (s : Disks) (h : History) (lo : ℕ) (down : Option ℕ) (start : IsRunStart slots s h lo down) (x : ℕ) (said : LogState) (stood : Stands s x said)
    (rs : List Call) (each : EachCall ReadsLogs s rs) (single : (a b : ℕ) → IsMissing (run s rs).power said.meta a → IsMissing (run s rs).power said.meta b → a ≡ b) where
  abbrev u : Disks
  u = run s rs

  abbrev g : Geometry
  g = said.meta.setup.geometry

  range : IsInRange said.meta
  range = says_in_range said.opened _ said.meta said.batch stood.says.log

  content : (k : ℕ) × ContentOk slots s.power s.size (view_of s said) h k
  content =
      let it = sound_now slots s h lo down start.synced start.held in
      let same = (Stands-same s it.sound.disk x it.sound.said said it.sound.log.stands stood).1 in
      (it.k, subst (λ (o : LogState). ContentOk slots s.power s.size (view_of s o) h it.k) same it.sound.content)

  missing_stays : (d : ℕ) → IsMissing s.power said.meta d → IsMissing u.power said.meta d
  missing_stays d missing = record {
    disk = missing.disk;
    is = elim missing.is [
      | inr name ↦ inr name
      | inl gone ↦ inl (elim (cases_Bool (is_present (u.power d))) [
        | inl here ↦ absurd (false≢true (sym gone ∙ ap is_present (sym (kept_by_reads s rs d each here).power) ∙ here))
        | inr off ↦ off
      ])
    ];
  }

  pub stays : (d : ℕ) → out_disk s.power said.meta ≡ Some d → out_disk u.power said.meta ≡ Some d
  stays d is = missing_out u.power said.meta d range single (missing_stays d (out_missing s.power said.meta d range is))

  abbrev z : ℕ
  z = map_disk (out_disk u.power said.meta)

  there : is_present (u.power z) ≡ true
  there =
      let in_map = map_disk_in (out_disk u.power said.meta) in
      let low = in_map.0 in
      let many = said.meta.setup.geometry.disks_low in
      there_by u said.meta z range single (omega arith) in_map.1

  -- the dirty cells that are shown after the reads are those before
  pub read_dirty : (r d : ℕ) → r < said.meta.setup.geometry.rows → (initial_state u said).dirty r d ≡ (initial_state s said).dirty r d
  read_dirty r d low =
      let below : r < 512 * map_count g = omega arith in
      ap (λ (f : ℕ → ℕ → Bool). f r d) (shown_dirty u said)
      ∙ bit_same g (contents u said.batch z) (contents s said.batch (map_disk (out_disk s.power said.meta))) r d
      (contents_kept s u said.batch z (map_place_of g r) (kept_by_reads s rs z each there)
      ∙ map_by slots s said.meta said.batch h content.0 content.1 (out_disk u.power said.meta) r stays below)
      ∙ sym (ap (λ (f : ℕ → ℕ → Bool). f r d) (shown_dirty s said))
