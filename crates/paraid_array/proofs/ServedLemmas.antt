-- What is counted of an array with nothing staged, by what it serves.
use Rattle.std.proofs.Common.{◌≡◌, ℕ, ◌<◌, [], Option, Some, IsSome, sym, subst}
use Rattle.paraid_dirty.specs.Table.{is_dirty}
use Rattle.paraid_image.specs.Content.{view_by}
use Rattle.paraid_image.specs.Sides.{Batch}
use Rattle.paraid_image.specs.Standing.{contents}
use Rattle.paraid_rack.specs.Slots.{Slot}
use Rattle.paraid_rack.specs.Trail.{Trail, now}
use Rattle.paraid_core.specs.Cores.{core_rack}
use Rattle.paraid_recover.specs.Map.{HasBitsOf}
use Rattle.paraid_scrub.specs.Counts.{CountsByView}
use Rattle.paraid_scrub.specs.declared.kind.CheckReport.{CheckReport}
use Rattle.paraid_array.specs.declared.array.Array.{Array}
use Rattle.paraid_array.specs.Arrays.{HasNothingStaged, dirty_of_array, meta_of_array, slot_of_array, told_of_array}
use Rattle.paraid_array.specs.Checked.{CountsDisks}

-- by the table that it serves
pub table_served : {R : Type 0} {g : _} (slot : R → ℕ → Slot) (told : R → Option Trail) (old new : Array R g) (report : CheckReport) → CountsDisks slot told old.core new.core report → HasNothingStaged old
    → (t : Trail) → told_of_array told old ≡ Some t → IsSome (told_of_array told new)
    → CountsByView (record (view_by (meta_of_array old) (now t).power (contents (now t) [])) { dirty = dirty_of_array old }) (slot_of_array slot old) (slot_of_array slot new) report
table_served slot told old new report counts nothing t tells is =
    let core = old.core in
    subst (λ (b : Batch). CountsByView (record (view_by core.meta (now t).power (contents (now t) b)) { dirty = is_dirty core.dirty }) (slot (core_rack core)) (slot (core_rack new.core)) report) nothing
    (counts.by_table nothing t tells is)

-- by the map on its disks
pub counts_served : {R : Type 0} {g : _} (slot : R → ℕ → Slot) (told : R → Option Trail) (old new : Array R g) (report : CheckReport) → CountsDisks slot told old.core new.core report → HasNothingStaged old
    → (t : Trail) → told_of_array told old ≡ Some t → IsSome (told_of_array told new) → HasBitsOf (meta_of_array old) (dirty_of_array old) (now t)
    → CountsByView (view_by (meta_of_array old) (now t).power (contents (now t) [])) (slot_of_array slot old) (slot_of_array slot new) report
counts_served slot told old new report counts nothing t tells is bits =
    let core = old.core in
    subst (λ (b : Batch). CountsByView (view_by core.meta (now t).power (contents (now t) b)) (slot (core_rack core)) (slot (core_rack new.core)) report) nothing
    (counts.by_map nothing t tells is
    (subst (λ (b : Batch). (r d : ℕ) → r < core.meta.setup.geometry.rows → is_dirty core.dirty r d ≡ (view_by core.meta (now t).power (contents (now t) b)).dirty r d) (sym nothing) bits))
