use Rattle.std.specs.Prelude.{◌≡◌, ◌≢◌, ℕ, ◌<◌, Bool, true, false, [], Option, Some, None, if◌then◌else◌}
use Rattle.std.proofs.Common.{ap, arith, inl, inr, refl, subst, sym, ◌∙◌}
use Rattle.paraid_dirty.specs.Table.{is_dirty}
use Rattle.std.proofs.lemmas.Bool.{false≢true}
use Rattle.paraid_image.specs.Out.{is_out, or_else}
use Rattle.paraid_image.specs.Spot.{map_disk as map_disk_of}
use Rattle.paraid_txn.specs.Stores.{disks_of, store_out, store_rack}
use Rattle.paraid_view.proofs.ReadLemmas.{shows_after}
use Rattle.paraid_view.proofs.TwoLemmas.{read_beside, read_on, two_beside, two_lost}
use Rattle.paraid_rack.specs.Disks.{is_present}
use Rattle.paraid_rack.specs.Slots.{Slot}
use Rattle.paraid_rack.specs.Told.{Ran}
use Rattle.paraid_txn.specs.Uses.{EachCall}
use Rattle.paraid_recover.specs.Map.{ReadsMap, ReadsMapOf, ShowsMap}
use Rattle.paraid_recover.proofs.MapLemmas.{first_apart, none_is_not, some_is}
use Rattle.paraid_recover.proofs.MapEndLemmas.{map_disk_in}
use Rattle.paraid_recover.proofs.MountCallsLemmas.{calls_milder, calls_then, of_map}
use Rattle.paraid_recover.proofs.map.read_map.Given.{Over}
use Rattle.paraid_recover.proofs.map.read_map.Goals.{After-read_map_of, After-read_map_of-2}
use Rattle.paraid_recover.proofs.FitLemmas.{each_read, left_well}
use Rattle.paraid_recover.proofs.map.read_map.Goals as goal

or_none : (o : Option ℕ) → or_else o None ≡ o
or_none None = refl
or_none (Some d) = refl

pub read_map_of-requires : goal.read_map_of-requires
read_map_of-requires g c =
    let out = store_out g.R.Rack.slot c.args.store.now in
    let log = map_disk_in out in
    let is : c.map_disk-disk.result ≡ map_disk_of out = c.map_disk-disk.ensures ∙ ap map_disk_of c.out-out.ensures in
    let low : c.map_disk-disk.result < 2 = subst (λ (x : ℕ). x < 2) (sym is) log.0 in
    let ready = c.requires.ready c.map_disk-disk.result low (λ at. log.1 (at ∙ ap Some is)) in
    let logs = c.requires.logs in
    record {
      exists = (let there = c.requires.exists in omega arith);
      below = omega arith;
      spinning = ready.0;
      large = ready.1;
      rows = c.requires.rows;
      narrow = c.requires.narrow;
    }

pub read_map_of-requires-2 : goal.read_map_of-requires-2
read_map_of-requires-2 g c =
    let none : store_out g.R.Rack.slot c.args.store.now ≡ None = sym c.out-out.ensures ∙ c.in_default-out.is in
    let first : c.in-Err.lost ≡ 0 = c.in-Err.ensures.failed ∙ c.map_disk-disk.ensures ∙ ap map_disk_of c.in_default-out.is in
    let ready = c.requires.ready 1 (omega arith) (λ at. none_is_not (sym none ∙ at)) in
    let read = c.in-Err.ensures.read in
    let same = read.left.others 1 (λ at. first_apart first refl (some_is at)) in
    let logs = c.requires.logs in
    record {
      exists = (let slots = read.slots in let there = c.requires.exists in omega arith);
      below = (let disks = read.same.disks in omega arith);
      spinning = ap (λ (s : Slot). s.power) same ∙ ready.0;
      large = (let size = ap (λ (s : Slot). s.size) same in let large = ready.1 in omega arith);
      rows = c.read_map_of.ensures.rows ∙ c.requires.rows;
      narrow = c.read_map_of.ensures.narrow;
    }

-- the map is read of another disk than the one that is out
map_apart : (first : ℕ) → first ≢ map_disk_of (Some first)
map_apart first is = by (is_out (Some first) 0) refl is
  where
    by : (out : Bool) → is_out (Some first) 0 ≡ out → first ≡ (if out then 1 else 0) → ⊥
    by true out same = false≢true (subst (λ (k : ℕ). is_out (Some k) 0 ≡ true) same out)
    by false out same = false≢true (sym (subst (λ (k : ℕ). is_out (Some k) 0 ≡ false) same out))

-- the reads of the first log disk
first_calls : (g : Over) (c : After-read_map_of g)
    → Ran (g.R.Rack.told (store_rack c.args.store.now)) (g.R.Rack.told (store_rack c.read_map_of.new.store)) (EachCall (ReadsMap c.args.meta.now.setup.geometry (store_out g.R.Rack.slot c.args.store.now)))
first_calls g c =
    let out = store_out g.R.Rack.slot c.args.store.now in
    let geometry = c.args.meta.now.setup.geometry in
    let log = map_disk_in out in
    calls_milder (ReadsMapOf geometry (map_disk_of out)) (ReadsMap geometry out) _ _ (λ call reads. of_map geometry out (map_disk_of out) call log.0 log.1 reads)
    (subst (λ (x : ℕ). Ran (g.R.Rack.told (store_rack c.args.store.now)) (g.R.Rack.told (store_rack c.read_map_of.new.store)) (EachCall (ReadsMapOf geometry x)))
    (c.map_disk-disk.ensures ∙ ap map_disk_of c.out-out.ensures) c.read_map_of.ensures.calls)

-- and those of the other one, where none was out
both_calls : (g : Over) (c : After-read_map_of-2 g)
    → Ran (g.R.Rack.told (store_rack c.args.store.now)) (g.R.Rack.told (store_rack c.read_map_of-2.new.store)) (EachCall (ReadsMap c.args.meta.now.setup.geometry (store_out g.R.Rack.slot c.args.store.now)))
both_calls g c =
    let out = store_out g.R.Rack.slot c.args.store.now in
    let geometry = c.args.meta.now.setup.geometry in
    let none : out ≡ None = sym c.out-out.ensures ∙ c.in_default-out.is in
    calls_then (ReadsMap geometry out) (g.R.Rack.told (store_rack c.args.store.now)) (g.R.Rack.told (store_rack c.read_map_of.new.store)) (g.R.Rack.told (store_rack c.read_map_of-2.new.store))
    (first_calls g (goal.at.After-read_map_of-2 g c).After-read_map_of)
    (calls_milder (ReadsMapOf geometry 1) (ReadsMap geometry out) _ _
    (λ call reads. of_map geometry out 1 call (omega arith) (λ is. none_is_not (sym none ∙ is)) reads) c.read_map_of-2.ensures.calls)

pub returns-in_default : goal.returns-in_default
returns-in_default g c = record {
  rows = c.read_map_of.ensures.rows;
  narrow = c.read_map_of.ensures.narrow;
  read = read_on g.R.Rack.slot_count g.R.Rack.slot g.R.Rack.told (disks_of c.args.store.now) c.args.store.now c.read_map_of.new.store c.in_default.ensures.read;
  each = left_well _ _ _ c.in_default.ensures.read.left;
  calls = first_calls g (goal.at.returns-in_default g c).After-read_map_of;
  alone = λ e is. absurd (none_is_not is);
  two = tt;
  gone = tt;
  shows = λ f shows some.
      subst (λ (k : ℕ). ShowsMap c.args.meta.now.setup.geometry (f k) (is_dirty c.read_map_of.new.table)) (c.map_disk-disk.ensures ∙ ap map_disk_of (c.out-out.ensures ∙ sym (or_none (store_out g.R.Rack.slot c.args.store.now))))
      (c.in_default.ensures.shows f shows some);
}

pub returns-in-Ok : goal.returns-in-Ok
returns-in-Ok g c = record {
  rows = c.read_map_of-2.ensures.rows ∙ c.read_map_of.ensures.rows;
  narrow = c.read_map_of-2.ensures.narrow;
  read =
      read_beside g.R.Rack.slot_count g.R.Rack.slot g.R.Rack.told (disks_of c.args.store.now) (disks_of c.read_map_of.new.store) c.in-Err.lost c.args.store.now c.read_map_of.new.store c.read_map_of-2.new.store
      c.in-Err.ensures.read.same.disks c.in-Err.ensures.read c.in-Ok.ensures.read;
  each = each_read _ _ _ _ _ c.in-Err.ensures.read.left c.in-Ok.ensures.read.left;
  calls = both_calls g (goal.at.returns-in-Ok g c).After-read_map_of-2;
  alone = λ e is.
      let first : c.in-Err.lost ≡ 0 = c.in-Err.ensures.failed ∙ c.map_disk-disk.ensures ∙ ap map_disk_of c.in_default-out.is in
      let same = some_is is in
      let logs = c.requires.logs in
      (omega arith, sym c.out-out.ensures ∙ c.in_default-out.is);
  two = tt;
  gone = tt;
  shows = λ f shows some.
      let none : store_out g.R.Rack.slot c.args.store.now ≡ None = sym c.out-out.ensures ∙ c.in_default-out.is in
      let first : c.in-Err.lost ≡ 0 = c.in-Err.ensures.failed ∙ c.map_disk-disk.ensures ∙ ap map_disk_of c.in_default-out.is in
      let at : map_disk_of (or_else (store_out g.R.Rack.slot c.args.store.now) (Some c.in-Err.lost)) ≡ 1 =
      ap (λ (o : Option ℕ). map_disk_of (or_else o (Some c.in-Err.lost))) none ∙ ap (λ (k : ℕ). map_disk_of (Some k)) first in
      subst (λ (k : ℕ). ShowsMap c.args.meta.now.setup.geometry (f k) (is_dirty c.read_map_of-2.new.table)) (sym at)
      (c.in-Ok.ensures.shows f (shows_after (disks_of c.args.store.now) _ _ [] f c.in-Err.ensures.read.calls shows) some);
}

-- a log disk whose map is read is there
log_there : (g : Over) (c : After-read_map_of g) (x : ℕ) → x < 2 → store_out g.R.Rack.slot c.args.store.now ≢ Some x → is_present (g.R.Rack.slot (store_rack c.args.store.now) x).power ≡ true
log_there g c x low not = ap is_present (c.requires.ready x low not).0

first_there : (g : Over) (c : After-read_map_of g) (lost : ℕ) → lost ≡ c.map_disk-disk.result → is_present (g.R.Rack.slot (store_rack c.args.store.now) lost).power ≡ true
first_there g c lost is =
    let log = map_disk_in (store_out g.R.Rack.slot c.args.store.now) in
    subst (λ (x : ℕ). is_present (g.R.Rack.slot (store_rack c.args.store.now) x).power ≡ true) (sym (is ∙ c.map_disk-disk.ensures ∙ ap map_disk_of c.out-out.ensures))
    (log_there g c (map_disk_of (store_out g.R.Rack.slot c.args.store.now)) log.0 log.1)

pub returns-in-Some : goal.returns-in-Some
returns-in-Some g c = record {
  rows = c.read_map_of.ensures.rows;
  narrow = c.read_map_of.ensures.narrow;
  read = tt;
  each = left_well _ _ _ c.in-Err.ensures.read.left;
  calls = first_calls g (goal.at.returns-in-Some g c).After-read_map_of;
  alone = tt;
  two =
      two_beside g.R.Rack.slot_count g.R.Rack.slot g.R.Rack.told (disks_of c.args.store.now) c.in-Some.first c.in-Err.lost _ c.args.store.now c.read_map_of.new.store
      (sym c.out-out.ensures ∙ c.in-Some.is) (λ same. map_apart c.in-Some.first (same ∙ c.in-Err.ensures.failed ∙ c.map_disk-disk.ensures ∙ ap map_disk_of c.in-Some.is)) c.in-Err.ensures.read;
  gone =
      let at = (goal.at.returns-in-Some g c).After-read_map_of in
      record {
        first = inl (sym c.out-out.ensures ∙ c.in-Some.is);
        second = record { there = first_there g at c.in-Err.lost c.in-Err.ensures.failed; absent = (c.in-Err.ensures.read.left.failed c.in-Err.lost refl).absent };
      };
  shows = tt;
}

pub returns-in-Err-read_map_of : goal.returns-in-Err-read_map_of
returns-in-Err-read_map_of g c = record {
  rows = c.read_map_of-2.ensures.rows ∙ c.read_map_of.ensures.rows;
  narrow = c.read_map_of-2.ensures.narrow;
  read = tt;
  each = each_read _ _ _ _ _ c.in-Err.ensures.read.left c.in-Err-read_map_of.ensures.read.left;
  calls = both_calls g (goal.at.returns-in-Err-read_map_of g c).After-read_map_of-2;
  alone = tt;
  two =
      let first : c.in-Err.lost ≡ 0 = c.in-Err.ensures.failed ∙ c.map_disk-disk.ensures ∙ ap map_disk_of c.in_default-out.is in
      let second = c.in-Err-read_map_of.ensures.failed in
      let none : store_out g.R.Rack.slot c.args.store.now ≡ None = sym c.out-out.ensures ∙ c.in_default-out.is in
      two_lost g.R.Rack.slot_count g.R.Rack.slot g.R.Rack.told (disks_of c.args.store.now) (disks_of c.read_map_of.new.store) c.in-Err.lost c.in-Err-read_map_of.second _ c.args.store.now c.read_map_of.new.store c.read_map_of-2.new.store
      none c.in-Err.ensures.read.same.disks (first_apart first second) c.in-Err.ensures.read c.in-Err-read_map_of.ensures.read;
  gone =
      let at = (goal.at.returns-in-Err-read_map_of g c).After-read_map_of in
      let first : c.in-Err.lost ≡ 0 = c.in-Err.ensures.failed ∙ c.map_disk-disk.ensures ∙ ap map_disk_of c.in_default-out.is in
      let second : c.in-Err-read_map_of.second ≡ 1 = c.in-Err-read_map_of.ensures.failed in
      let none : store_out g.R.Rack.slot c.args.store.now ≡ None = sym c.out-out.ensures ∙ c.in_default-out.is in
      let slot_0 = g.R.Rack.slot (store_rack c.args.store.now) in
      record {
        first = inr (record {
          there = first_there g at c.in-Err.lost c.in-Err.ensures.failed;
          absent = ap (λ (s : Slot). s.power) (c.in-Err-read_map_of.ensures.read.left.others c.in-Err.lost (λ is. first_apart first second (sym (some_is is))))
              ∙ (c.in-Err.ensures.read.left.failed c.in-Err.lost refl).absent;
        });
        second = record {
          there = subst (λ (x : ℕ). is_present (slot_0 x).power ≡ true) (sym second) (log_there g at 1 (omega arith) (λ is. none_is_not (sym none ∙ is)));
          absent = (c.in-Err-read_map_of.ensures.read.left.failed c.in-Err-read_map_of.second refl).absent;
        };
      };
  shows = tt;
}
