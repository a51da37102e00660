use Rattle.std.proofs.Common.{◌++◌, ◌≡◌, ℕ, ◌∙◌, Some, None, refl, sym, ap, inl, ◌<◌, ◌≤◌, Option, subst}
use Rattle.paraid_dirty.specs.Table.{is_dirty}
use Rattle.paraid_image.specs.Out.{out_disk}
use Rattle.paraid_txn.specs.Stores.{disks_of, store_rack}
use Rattle.paraid_image.proofs.ViewLemmas.{value_same}
use Rattle.paraid_rack.specs.Slots.{Slot}
use Rattle.paraid_base.specs.Regions.{disk_size}
use Rattle.paraid_image.specs.Value.{value}
use Rattle.paraid_view.proofs.ValueLemmas.{no_disk, same_disk}
use Rattle.paraid_view.specs.Reads.{CanRead, seen_by}
use Rattle.paraid_view.proofs.ReadLemmas.{off_nobody, off_same, shows_after}
use Rattle.paraid_view.proofs.TwoLemmas.{read_beside, read_on, two_beside, two_lost}
use Rattle.paraid_view.proofs.cell.read_cell.Goals as goal

pub returns-in-Ok-clause-read : goal.returns-in-Ok-clause-read
returns-in-Ok-clause-read g c =
    read_beside g.R.Rack.slot_count g.R.Rack.slot g.R.Rack.told (disks_of c.args.store.now) (disks_of c.read_value.new.store) c.in-Err.lost c.args.store.now c.read_value.new.store c.read_value-2.new.store
    c.in-Err.ensures.read.same.disks c.in-Err.ensures.read c.in-Ok.ensures.read

pub returns-in-Ok-clause-value : goal.returns-in-Ok-clause-value
returns-in-Ok-clause-value g c f shows some rows stripes =
    let m = c.args.meta.now in
    let none : out_disk (λ e. (g.R.Rack.slot (store_rack c.args.store.now) e).power) m ≡ None = sym c.out_of-out.ensures ∙ c.in_default-out.is in
    let lost : ℕ = c.in-Err.lost in
    c.in-Ok.ensures.value f (shows_after (disks_of c.args.store.now) _ _ (c.args.batch.now ++ c.args.draft.now) f c.in-Err.ensures.read.calls shows) some
    ∙ value_same m (is_dirty c.args.dirty.now) (is_dirty c.args.dirty.now) (out_disk (λ e. (g.R.Rack.slot (store_rack c.args.store.now) e).power) m) f f lost (inl none) (λ x q apart. refl) (λ r e l. refl) c.requires.in_range
    c.args.r c.args.d c.requires.row c.requires.disk rows stripes

pub returns-in-Err-read_value-clause-two : goal.returns-in-Err-read_value-clause-two
returns-in-Err-read_value-clause-two g c =
    let none : out_disk (λ e. (g.R.Rack.slot (store_rack c.args.store.now) e).power) c.args.meta.now ≡ None = sym c.out_of-out.ensures ∙ c.in_default-out.is in
    two_lost g.R.Rack.slot_count g.R.Rack.slot g.R.Rack.told (disks_of c.args.store.now) (disks_of c.read_value.new.store) c.in-Err.lost c.in-Err-read_value.second _ c.args.store.now c.read_value.new.store c.read_value-2.new.store
    none c.in-Err.ensures.read.same.disks (λ is. c.in-Err-read_value.ensures.failed (ap Some is)) c.in-Err.ensures.read c.in-Err-read_value.ensures.read

pub returns-in-Ok-clause-off : goal.returns-in-Ok-clause-off
returns-in-Ok-clause-off g c =
    let none : out_disk (λ e. (g.R.Rack.slot (store_rack c.args.store.now) e).power) c.args.meta.now ≡ None = sym c.out_of-out.ensures ∙ c.in_default-out.is in
    off_nobody _ _ _ _ none (returns-in-Ok-clause-read g c).calls

pub returns-in-Err-read_value-clause-off : goal.returns-in-Err-read_value-clause-off
returns-in-Err-read_value-clause-off g c =
    let none : out_disk (λ e. (g.R.Rack.slot (store_rack c.args.store.now) e).power) c.args.meta.now ≡ None = sym c.out_of-out.ensures ∙ c.in_default-out.is in
    off_nobody _ _ _ _ none (returns-in-Err-read_value-clause-two g c).calls

pub returns-in-Some : goal.returns-in-Some
returns-in-Some g c = record {
  read = tt;
  below = tt;
  off = off_same _ _ _ _ (sym c.out_of-out.ensures) c.read_value.ensures.off;
  one = tt;
  value = tt;
  two =
      two_beside g.R.Rack.slot_count g.R.Rack.slot g.R.Rack.told (disks_of c.args.store.now) c.in-Some.first c.in-Err.lost _ c.args.store.now c.read_value.new.store
      (sym c.out_of-out.ensures ∙ c.in-Some.is) (λ same. c.in-Err.ensures.failed (c.in-Some.is ∙ ap Some same)) c.in-Err.ensures.read;
}

pub returns-in-Err-read_value-clause-read : goal.returns-in-Err-read_value-clause-read
returns-in-Err-read_value-clause-read g c = tt

pub returns-in-Err-read_value-clause-below : goal.returns-in-Err-read_value-clause-below
returns-in-Err-read_value-clause-below g c = tt

pub returns-in-Err-read_value-clause-one : goal.returns-in-Err-read_value-clause-one
returns-in-Err-read_value-clause-one g c = tt

pub returns-in-Err-read_value-clause-value : goal.returns-in-Err-read_value-clause-value
returns-in-Err-read_value-clause-value g c = tt

pub returns-in-Ok-clause-two : goal.returns-in-Ok-clause-two
returns-in-Ok-clause-two g c = tt

pub returns-in_default : goal.returns-in_default
returns-in_default g c = record {
  read = read_on g.R.Rack.slot_count g.R.Rack.slot g.R.Rack.told (disks_of c.args.store.now) c.args.store.now c.read_value.new.store c.in_default.ensures.read;
  below = λ e is. absurd (no_disk is);
  off = off_same _ _ _ _ (sym c.out_of-out.ensures) c.read_value.ensures.off;
  one = λ e is. absurd (no_disk is);
  value = λ f shows some rows stripes. subst (λ (o : Option ℕ). c.read_value.new.into ≡ value (seen_by c.args.meta.now c.args.dirty.now o f) c.args.r c.args.d) c.out_of-out.ensures (c.in_default.ensures.value f shows some);
  two = tt;
}

pub returns-in-Ok-clause-below : goal.returns-in-Ok-clause-below
returns-in-Ok-clause-below g c = λ e is. subst (λ (k : ℕ). k < disks_of c.args.store.now) (same_disk is) c.in-Err.ensures.below

pub returns-in-Ok-clause-one : goal.returns-in-Ok-clause-one
returns-in-Ok-clause-one g c = λ e is. sym c.out_of-out.ensures ∙ c.in_default-out.is

pub read_value-requires-clause-ready : goal.read_value-requires-clause-ready
read_value-requires-clause-ready g c = subst (λ (o : Option ℕ). CanRead (g.R.Rack.slot_count (store_rack c.args.store.now)) (g.R.Rack.slot (store_rack c.args.store.now)) c.args.meta.now o) (sym c.out_of-out.ensures) c.requires.ready

pub read_value-requires-2-clause-ready : goal.read_value-requires-2-clause-ready
read_value-requires-2-clause-ready g c =
    let none : out_disk (λ e. (g.R.Rack.slot (store_rack c.args.store.now) e).power) c.args.meta.now ≡ None = sym c.out_of-out.ensures ∙ c.in_default-out.is in
    let left = c.in-Err.ensures.read.left in
    let ready = c.requires.ready in
    record {
      enough = subst (λ (n : ℕ). c.args.meta.now.setup.geometry.disks ≤ n) (sym c.in-Err.ensures.read.slots) ready.enough;
      spins = λ d on not. ap (λ (s : Slot). s.power) (left.others d not) ∙ ready.spins d on (λ is. no_disk (sym none ∙ is));
      large = λ d on not. subst (λ (s : Slot). disk_size c.args.meta.now.setup.geometry ≤ s.size) (sym (left.others d not)) (ready.large d on (λ is. no_disk (sym none ∙ is)));
    }
