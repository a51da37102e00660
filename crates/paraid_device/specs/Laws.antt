-- What a device keeps at any time.
use Rattle.std.specs.Prelude.{◌≡◌, ◌-◌, ◌<◌, ◌≤◌, ◌^◌, []}
use Rattle.std.proofs.Common.{refl, sym, arith}
use Rattle.std.proofs.lemmas.Nat.{mul-le}
use Rattle.paraid_machine.specs.Machine.{block_count}
use Rattle.paraid_record.specs.declared.meta.Setup.{Setup}
use Rattle.paraid_serve.specs.declared.serves.Serves.{Ghosts}
use Rattle.paraid_serve.proofs.GrowsLemmas.{grows_none}
use Rattle.paraid_serve.proofs.StretchLemmas.{stretch_none}
use Rattle.paraid_device.specs.declared.device.Device.{Device}
use Rattle.paraid_device.specs.Devices.{HasAnswered, array_of, halt_of_device}

-- since now it answered no event
pub answered_none : {A : Type 0} (g : Ghosts A) (a : A) → HasAnswered g a a []
answered_none g a = record {
  same_slots = refl;
  same_setup = refl;
  grows = grows_none (g.told a);
  kinds = tt;
  causes = refl;
  since = λ start s. s;
  leads = λ is p at. record {
    asked = [];
    all = stretch_none (g.slots a) (g.setup a) (g.told a) p is;
    answered = refl;
    stands = at;
  };
}

-- an array has at most 458,752 blocks
pub few_blocks : (setup : Setup) → block_count setup < 2 ^ 32
few_blocks setup =
    let disks = setup.geometry.disks_high in
    let rows = setup.geometry.rows_high in
    let less : setup.geometry.disks - 1 ≤ 7 = omega (arith, disks) in
    omega (arith, mul-le setup.geometry.rows (setup.geometry.disks - 1) 65536 7 rows less)

-- its halt is that of its array
pub array_halt : {A : Type 0} {g : _} (device : Device A g)
    → g.halted (array_of device) ≡ halt_of_device device
array_halt device = sym device.agrees
