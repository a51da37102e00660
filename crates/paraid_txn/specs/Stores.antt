-- What contracts see of a store.
use Rattle.std.specs.Prelude.{◌≡◌, ℕ, ◌<◌, Option, Some}
use Rattle.paraid_rack.specs.Slots.{Slot}
use Rattle.paraid_txn.specs.declared.store.Store.{Store}
use Rattle.paraid_image.specs.Out.{first_absent, or_else}

-- the rack that it owns
abbrev pub store_rack : {R : Type 0} {g : _} → Store R g → R
store_rack store = store.rack

-- the number of disks of the array
abbrev pub disks_of : {R : Type 0} {g : _} → Store R g → ℕ
disks_of store = store.disks

-- the epoch of the last commit
abbrev pub epoch_of : {R : Type 0} {g : _} → Store R g → ℕ
epoch_of store = store.epoch

-- the disk that the last meta names out
abbrev pub named_of : {R : Type 0} {g : _} → Store R g → Option ℕ
named_of store = store.named

-- the log disk against which witness is borne, as far as it knows
abbrev pub borne_of : {R : Type 0} {g : _} → Store R g → Option ℕ
borne_of store = store.borne

-- the disk that is out: the one that the last meta names, or else the least absent one
abbrev pub store_out : {R : Type 0} {g : _} → (R → ℕ → Slot) → Store R g → Option ℕ
store_out slot store =
    or_else store.named (first_absent (λ d. (slot store.rack d).power) store.disks)

-- a call on one disk leaves all but the rack and what is known of the witnesses
pub record IsSameStore {R : Type 0} {g : _} (old new : Store R g) : Type 0 where
  pub disks : new.disks ≡ old.disks
  pub epoch : new.epoch ≡ old.epoch
  pub named : new.named ≡ old.named

-- the new one knows each witness that the old one knew to be borne
abbrev pub Remembers : {R : Type 0} {g : _} → Store R g → Store R g → Type 0
Remembers old new = (x : ℕ) → x < 2 → borne_of old ≡ Some x → borne_of new ≡ Some x
