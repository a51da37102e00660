-- When calls are refused, by a table and by the state that it shows.
use Rattle.std.proofs.Common.{◌≡◌, ℕ, ◌*◌, ◌/◌, ◌%◌, ◌<◌, ◌≤◌, ◌∙◌, Option, None, sym, ap, arith, subst}
use Rattle.std.proofs.Math.Nat.{div-add-mod}
use Rattle.std.proofs.lemmas.Nat.{mod_below, mul-add-lt}
use Rattle.paraid_base.specs.declared.block.Block.{Block}
use Rattle.paraid_base.specs.declared.fault.Halt.{Halt}
use Rattle.paraid_volume.specs.declared.fault.VolFault.{VolFault}
use Rattle.paraid_volume.specs.declared.fault.VolFault.TheVariants.{Halt as VolHalt, Small, NotVolumes, Already, NoVolume, NoBlock, Exists, NoExtents, Names, Space}
use Rattle.paraid_volume.specs.declared.name.Name.{Name}
use Rattle.paraid_volume.specs.Faults.{IsPlaceFault, IsIdFault, IsCreateFault, IsLeastFree, IsNew, IsServedBlock}
use Rattle.paraid_volume.specs.Lives.{HasName, IsBlockOf, IsLeastUnnamed, IsNamedId, IsCallRefused, IsUnused, VolCall, create, delete, read, write, all_named, exists, no_extents, no_space, past_read, past_write, unnamed_delete, unnamed_read, unnamed_write}
use Rattle.paraid_volume.specs.NameValues.{IsNameOf, letter_of}
use Rattle.paraid_volume.specs.States.{IsPlace, ShowsVolumes, VolumeState}
use Rattle.paraid_volume.specs.Tables.{IsLiveId, IsSameTable, extent_count, extent_size, extents_owned, owner_in}
use Rattle.paraid_volume.proofs.ExtentLemmas.{extent_some, extents_few, same_name, same_owned}
use Rattle.paraid_volume.proofs.ShowsLemmas.{owned_past}

-- a block that lies somewhere is below the size
pub place_served : (count : ℕ) (a : ℕ → Block) (id v place : ℕ) → 7 ≤ count → IsPlace count a id v place → IsServedBlock count a id v
place_served count a id v place large at =
    let x = extent_size count in
    let past = owned_past (owner_in a) id at.extent (extent_count count) at.number.is at.below in
    let number = at.number.number in
    let more : v / extent_size count < extents_owned (owner_in a) id (extent_count count) = omega (arith, past, number) in
    let some = extent_some count large in
    let within = mul-add-lt (v / extent_size count) (extent_size count) (v % extent_size count) (extents_owned (owner_in a) id (extent_count count)) more (mod_below v (extent_size count) some) in
    let whole = div-add-mod v (extent_size count) in (at.live, omega (arith, within, whole))

-- `a` is the table in memory and `b` what the device holds
module _ (count : ℕ) (a b : ℕ → Block) (s : VolumeState) (same : IsSameTable a b) (shows : ShowsVolumes count b s) where
  pub live_named : (id : ℕ) → IsLiveId a id → IsNamedId s id
  live_named id live = record {
    low = live.low;
    high = live.high;
    named = subst (λ (n : ℕ). 0 < n) (same_name a b same id 0 ∙ sym (shows.name id 0 live.low live.high (omega arith))) live.named;
  }

  pub named_live : (id : ℕ) → IsNamedId s id → IsLiveId a id
  named_live id named = record {
    low = named.low;
    high = named.high;
    named = subst (λ (n : ℕ). 0 < n) (shows.name id 0 named.low named.high (omega arith) ∙ sym (same_name a b same id 0)) named.named;
  }

  pub has_name : (id : ℕ) (text : Name) → HasName s id (letter_of text) → IsNameOf a id text
  has_name id text has = λ k l. has.1 k l ∙ shows.name id k has.0.low has.0.high l ∙ sym (same_name a b same id k)

  pub name_has : (id : ℕ) (text : Name) → IsLiveId a id → IsNameOf a id text → HasName s id (letter_of text)
  name_has id text live named = (live_named id live, λ k l. named k l ∙ same_name a b same id k ∙ sym (shows.name id k live.low live.high l))

  pub unused : (text : Name) → IsNew a text → IsUnused s (letter_of text)
  unused text new = λ i has. new i (named_live i has.0) (has_name i text has)

  pub least_unnamed : (id : ℕ) → IsLeastFree a id → IsLeastUnnamed s id
  least_unnamed id is = record {
    low = is.low;
    high = is.high;
    free = λ named. is.free (named_live id named);
    least = λ i low l. live_named i (is.least i low l);
  }

  size_is : 7 ≤ count → (id : ℕ) → IsLiveId a id → s.size id ≡ extent_size count * extents_owned (owner_in a) id (extent_count count)
  size_is large id live =
      shows.size id live.low live.high ∙ ap (λ (n : ℕ). extent_size count * n) (sym (same_owned a b same id (extent_count count) (extents_few count large)))

  pub free_is : 7 ≤ count → s.free ≡ extents_owned (owner_in a) 0 (extent_count count)
  free_is large = shows.free ∙ sym (same_owned a b same 0 (extent_count count) (extents_few count large))

  pub block_of : 7 ≤ count → (id v : ℕ) → IsServedBlock count a id v → IsBlockOf s id v
  block_of large id v served = (live_named id served.0, subst (λ (n : ℕ). v < n) (sym (size_is large id served.0)) served.1)

  no_volume : (call : VolCall) (i id : ℕ) → i ≡ id → IsCallRefused s call (NoVolume id) → IsCallRefused s call (NoVolume i)
  no_volume call i id is refused = subst (λ (j : ℕ). IsCallRefused s call (NoVolume j)) (sym is) refused

  no_block : (call : VolCall) (w v : ℕ) → w ≡ v → IsCallRefused s call (NoBlock v) → IsCallRefused s call (NoBlock w)
  no_block call w v is refused = subst (λ (j : ℕ). IsCallRefused s call (NoBlock j)) (sym is) refused

  past : 7 ≤ count → (id v : ℕ) → IsLiveId a id → extent_size count * extents_owned (owner_in a) id (extent_count count) ≤ v → s.size id ≤ v
  past large id v live l = subst (λ (n : ℕ). n ≤ v) (sym (size_is large id live)) l

  pub read_refused : 7 ≤ count → (halted : Option Halt) → halted ≡ None → (id v : ℕ) (fault : VolFault) → IsPlaceFault count a halted id v fault → IsCallRefused s (read id v) fault
  read_refused large halted none id v (VolHalt halt) f = absurd (cc (none, f))
  read_refused large halted none id v (NoVolume i) f = no_volume (read id v) i id f.0 (unnamed_read id v (λ named. f.1 (named_live id named)))
  read_refused large halted none id v (NoBlock w) f = no_block (read id v) w v f.0 (past_read id v (live_named id f.1) (past large id v f.1 f.2))
  read_refused large halted none id v (Small blocks) f = absurd f
  read_refused large halted none id v NotVolumes f = absurd f
  read_refused large halted none id v Already f = absurd f
  read_refused large halted none id v (Exists i) f = absurd f
  read_refused large halted none id v NoExtents f = absurd f
  read_refused large halted none id v Names f = absurd f
  read_refused large halted none id v (Space n) f = absurd f

  pub write_refused : 7 ≤ count → (halted : Option Halt) → halted ≡ None → (id v : ℕ) (bytes : Block) (fault : VolFault) → IsPlaceFault count a halted id v fault
      → IsCallRefused s (write id v bytes) fault
  write_refused large halted none id v bytes (VolHalt halt) f = absurd (cc (none, f))
  write_refused large halted none id v bytes (NoVolume i) f = no_volume (write id v bytes) i id f.0 (unnamed_write id v bytes (λ named. f.1 (named_live id named)))
  write_refused large halted none id v bytes (NoBlock w) f = no_block (write id v bytes) w v f.0 (past_write id v bytes (live_named id f.1) (past large id v f.1 f.2))
  write_refused large halted none id v bytes (Small blocks) f = absurd f
  write_refused large halted none id v bytes NotVolumes f = absurd f
  write_refused large halted none id v bytes Already f = absurd f
  write_refused large halted none id v bytes (Exists i) f = absurd f
  write_refused large halted none id v bytes NoExtents f = absurd f
  write_refused large halted none id v bytes Names f = absurd f
  write_refused large halted none id v bytes (Space n) f = absurd f

  pub delete_refused : (halted : Option Halt) → halted ≡ None → (id : ℕ) (fault : VolFault) → IsIdFault a halted id fault → IsCallRefused s (delete id) fault
  delete_refused halted none id (VolHalt halt) f = absurd (cc (none, f))
  delete_refused halted none id (NoVolume i) f = no_volume (delete id) i id f.0 (unnamed_delete id (λ named. f.1 (named_live id named)))
  delete_refused halted none id (NoBlock w) f = absurd f
  delete_refused halted none id (Small blocks) f = absurd f
  delete_refused halted none id NotVolumes f = absurd f
  delete_refused halted none id Already f = absurd f
  delete_refused halted none id (Exists i) f = absurd f
  delete_refused halted none id NoExtents f = absurd f
  delete_refused halted none id Names f = absurd f
  delete_refused halted none id (Space n) f = absurd f

  pub create_refused : 7 ≤ count → (halted : Option Halt) → halted ≡ None → (text : Name) (extents : ℕ) (fault : VolFault) → IsCreateFault count a halted text extents fault
      → IsCallRefused s (create (letter_of text) extents) fault
  create_refused large halted none text extents (VolHalt halt) f = absurd (cc (none, f))
  create_refused large halted none text extents (Exists i) f = exists (letter_of text) extents i (name_has i text f.0 f.1)
  create_refused large halted none text extents NoExtents f =
      subst (λ (n : ℕ). IsCallRefused s (create (letter_of text) n) NoExtents) (sym f.1) (no_extents (letter_of text) (unused text f.0))
  create_refused large halted none text extents Names f =
      all_named (letter_of text) extents (unused text f.0) f.1 (λ id low high. live_named id (f.2 id low high))
  create_refused large halted none text extents (Space n) f =
      let free = free_is large in
      let few = f.3 in
      let is = f.2 in
      subst (λ (m : ℕ). IsCallRefused s (create (letter_of text) extents) (Space m)) (free ∙ sym is)
      (no_space (letter_of text) extents f.1.0 (unused text f.0) (least_unnamed f.1.0 f.1.1) (omega (arith, free, is, few)))
  create_refused large halted none text extents (NoVolume i) f = absurd f
  create_refused large halted none text extents (NoBlock w) f = absurd f
  create_refused large halted none text extents (Small blocks) f = absurd f
  create_refused large halted none text extents NotVolumes f = absurd f
  create_refused large halted none text extents Already f = absurd f
