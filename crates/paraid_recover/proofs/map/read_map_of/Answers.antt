use Rattle.std.specs.Prelude.{◌≡◌, ℕ, ◌+◌, ◌-◌, ◌*◌, ◌/◌, ◌%◌, ◌<◌, [], None, slice_index, is_ok}
use Rattle.std.proofs.Common.{arith, ap, inl, inr, refl, sym, ◌∙◌}
use Rattle.std.proofs.lemmas.Bool.{cases_lt}
use Rattle.paraid_base.specs.declared.block.Block.{Block}
use Rattle.paraid_dirty.specs.Bits.{bit_of}
use Rattle.paraid_dirty.specs.Table.{is_dirty}
use Rattle.paraid_rack.specs.declared.call.Call.TheVariants.{Read}
use Rattle.paraid_rack.specs.Slots.{Slot}
use Rattle.paraid_rack.specs.Told.{Ran}
use Rattle.paraid_rack.proofs.TrailsLemmas.{Ran-call, Ran-none}
use Rattle.paraid_txn.specs.Uses.{EachCall}
use Rattle.paraid_base.specs.Log.{map_block_place}
use Rattle.paraid_base.specs.Regions.{map_count, map_place_of}
use Rattle.paraid_recover.specs.Map.{ReadsMapOf}
use Rattle.paraid_recover.proofs.RaisedLemmas.{handed, none_done}
use Rattle.paraid_recover.proofs.MountCallsLemmas.{calls_then}
use Rattle.paraid_recover.proofs.map.read_map_of.Given.{Over}
use Rattle.paraid_recover.proofs.map.read_map_of.Goals.{After-read_block}
use Rattle.paraid_txn.specs.Stores.{disks_of, store_rack}
use Rattle.paraid_view.proofs.ReadLemmas.{left_same, read_failed, read_none, read_then, shows_after, told_before}
use Rattle.paraid_recover.proofs.MapLemmas.{shows_map}
use Rattle.paraid_recover.proofs.map.read_map_of.Goals as goal

pub loop-j-init : goal.loop-j-init
loop-j-init g c = record {
  rows = refl;
  narrow = c.requires.narrow;
  read = read_none g.R.Rack.slot_count g.R.Rack.slot g.R.Rack.told (disks_of c.args.store.now) c.args.store.now;
  calls = Ran-none (EachCall (ReadsMapOf c.args.geometry.now c.args.disk)) (λ s. tt) (g.R.Rack.told (store_rack c.args.store.now));
  shows = λ f shows some q d low row disk. absurd (omega arith);
}

pub read_block-requires-clause-spinning : goal.read_block-requires-clause-spinning
read_block-requires-clause-spinning g c = ap (λ (s : ℕ → Slot). (s c.args.disk).power) (left_same _ _ c.loop-j.invariant.read.left) ∙ c.requires.spinning

pub read_block-requires-clause-within : goal.read_block-requires-clause-within
read_block-requires-clause-within g c =
    let size = ap (λ (s : ℕ → Slot). (s c.args.disk).size) (left_same _ _ c.loop-j.invariant.read.left) in
    let large = c.requires.large in
    let count = c.map_blocks-j-end.ensures in
    omega arith

-- with one more read
more_calls : (g : Over) (c : After-read_block g) → c.loop-j.j < map_count c.args.geometry.now
    → Ran (g.R.Rack.told (store_rack c.args.store.now)) (g.R.Rack.told (store_rack c.read_block.new.store)) (EachCall (ReadsMapOf c.args.geometry.now c.args.disk))
more_calls g c low =
    let told_0 = g.R.Rack.told (store_rack c.args.store.now) in
    let told_1 = g.R.Rack.told (store_rack c.loop-j.store) in
    let told_2 = g.R.Rack.told (store_rack c.read_block.new.store) in
    let reads = ReadsMapOf c.args.geometry.now c.args.disk in
    let spins = ap (λ (s : ℕ → Slot). (s c.args.disk).power) (left_same _ _ c.loop-j.invariant.read.left) ∙ c.requires.spinning in
    calls_then reads told_0 told_1 told_2 c.loop-j.invariant.calls
    (Ran-call (EachCall reads) told_1 told_2 (Read c.args.disk (map_block_place c.args.geometry.now c.loop-j.j) (is_ok c.read_block.result)) c.read_block.ensures.called
    (λ s tells. ((g.met.R.Rack.agrees (store_rack c.loop-j.store) s tells).power c.args.disk ∙ spins, (refl, omega arith, omega arith), tt)))

pub loop-j-preserved : goal.loop-j-preserved
loop-j-preserved g c =
    let before = c.loop-j.invariant in
    let call = c.in_ok-read_block.ensures in
    let take = c.take_block.ensures in
    record {
      rows = take.rows ∙ before.rows;
      narrow = λ q d far. take.wide q d far ∙ before.narrow q d far;
      read = read_then g.R.Rack.slot_count g.R.Rack.slot g.R.Rack.told (disks_of c.args.store.now) (disks_of c.loop-j.store) None c.args.store.now c.loop-j.store c.read_block.new.store before.read.same.disks before.read call.read;
      calls = more_calls g (goal.at.loop-j-preserved g c).After-read_block (let count = c.map_blocks-j-end.ensures in omega arith);
      shows = λ f shows some q d low row disk. elim (cases_lt q (512 * c.loop-j.j)) [
        | inl under ↦ take.before q d under ∙ before.shows f shows (told_before _ _ _ call.read.calls some) q d under row disk
        | inr from ↦
            let i = q - 512 * c.loop-j.j in
            let is : q ≡ 512 * c.loop-j.j + i = omega arith in
            let at : q / 512 ≡ c.loop-j.j = omega arith in
            let rest : q % 512 ≡ i = omega arith in
            let size = before.rows in
            ap (λ (k : ℕ). is_dirty c.take_block.new.table k d) is
            ∙ take.here i d (omega arith) (omega arith) disk
            ∙ ap (λ (b : Block). bit_of (slice_index b.bytes i) d) (call.value f (shows_after (disks_of c.args.store.now) _ _ [] f before.read.calls shows) some)
            ∙ ap (λ (k : ℕ). bit_of (slice_index (f c.args.disk (map_block_place c.args.geometry.now k)).bytes i) d) (sym at)
            ∙ ap (λ (k : ℕ). bit_of (slice_index (f c.args.disk (map_place_of c.args.geometry.now q)).bytes k) d) (sym rest)
      ];
    }

pub returns-in_err-read_block : goal.returns-in_err-read_block
returns-in_err-read_block g c = record {
  rows = c.loop-j.invariant.rows;
  narrow = c.loop-j.invariant.narrow;
  read =
      let before = c.loop-j.invariant in
      read_failed g.R.Rack.slot_count g.R.Rack.slot g.R.Rack.told (disks_of c.args.store.now) (disks_of c.loop-j.store) _ _ c.args.store.now c.loop-j.store c.read_block.new.store before.read.same.disks
      c.from_residual.ensures.1 before.read c.in_err-read_block.ensures.read;
  failed = handed (λ e. e ≡ c.args.disk) c.from_residual.result _ c.from_residual.ensures.1 c.in_err-read_block.ensures.failed;
  calls = more_calls g (goal.at.returns-in_err-read_block g c).After-read_block (let count = c.map_blocks-j-end.ensures in omega arith);
  shows = none_done _ c.from_residual.result _ c.from_residual.ensures.1;
}

pub returns : goal.returns
returns g c = record {
  rows = c.loop-j.invariant.rows;
  narrow = c.loop-j.invariant.narrow;
  read = c.loop-j.invariant.read;
  failed = tt;
  calls = c.loop-j.invariant.calls;
  shows = λ f shows some.
      let it = c.loop-j.invariant in
      shows_map c.args.geometry.now (f c.args.disk) _ it.narrow (λ q d low disk. it.shows f shows some q d (let count = c.map_blocks-j-end.ensures in let same = c.requires.rows in omega arith) (let same = c.requires.rows in omega arith) disk);
}
