-- Values that are not the same.
use Rattle.std.proofs.Common.{◌≡◌, ℕ, Some, None}
use Rattle.paraid_base.specs.declared.event.Event.TheVariants.{Read, Write, Flush, Tick, Up, Down, Fail, Replace, State, Energy, Bad}
use Rattle.paraid_base.specs.declared.state.Out.TheVariants.{No, Gone, Fresh}

pub no_one : {A : Type 0} {x : A} → None ≡ Some x → ⊥
no_one e = cc

pub gone_not_fresh : {d e used : ℕ} → Gone d ≡ Fresh e used → ⊥
gone_not_fresh e = cc

pub none_not_gone : {d : ℕ} → No ≡ Gone d → ⊥
none_not_gone e = cc

pub none_not_fresh : {d used : ℕ} → No ≡ Fresh d used → ⊥
none_not_fresh e = cc

-- no other event is a bad one
pub read_not_bad : {block : ℕ} → Read block ≡ Bad → ⊥
read_not_bad e = cc

pub write_not_bad : {pairs : _} → Write pairs ≡ Bad → ⊥
write_not_bad e = cc

pub flush_not_bad : Flush ≡ Bad → ⊥
flush_not_bad e = cc

pub tick_not_bad : Tick ≡ Bad → ⊥
tick_not_bad e = cc

pub up_not_bad : Up ≡ Bad → ⊥
up_not_bad e = cc

pub down_not_bad : Down ≡ Bad → ⊥
down_not_bad e = cc

pub fail_not_bad : {disk : ℕ} → Fail disk ≡ Bad → ⊥
fail_not_bad e = cc

pub replace_not_bad : {disk : ℕ} → Replace disk ≡ Bad → ⊥
replace_not_bad e = cc

pub state_not_bad : State ≡ Bad → ⊥
state_not_bad e = cc

pub energy_not_bad : Energy ≡ Bad → ⊥
energy_not_bad e = cc
