-- The first meta of an array.
use Rattle.std.specs.Prelude.{replicate}
use Rattle.paraid_base.specs.declared.state.Out.TheVariants.{No}
use Rattle.paraid_base.specs.declared.state.Phase.TheVariants.{Steady}
use Rattle.paraid_record.specs.declared.meta.Meta.{Meta}
use Rattle.paraid_record.specs.declared.meta.Setup.{Setup}

-- no write, in the highest gear, at epoch 1
abbrev pub first_meta : Setup → Meta
first_meta setup = record {
  setup = setup;
  version = 2;
  epoch = 1;
  writes = 0;
  ticks = 0;
  gear = setup.geometry.disks;
  phase = Steady;
  fill = 0;
  out = No;
  spins = replicate 8 0;
}
