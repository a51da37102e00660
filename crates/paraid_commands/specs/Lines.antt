-- The lines that `format` tells, and their statuses.
use Rattle.std.specs.Prelude.{ℕ, List, ◌++◌, codes, decimal}
use Rattle.std.specs.Fmt.{signed_decimal}
use Rattle.paraid_base.specs.declared.geometry.GeoFault.{GeoFault}
use Rattle.paraid_base.specs.declared.geometry.GeoFault.TheVariants.{Disks, Rows, Gears}
use Rattle.paraid_config.specs.declared.fault.ConfigFault.{ConfigFault}
use Rattle.paraid_config.specs.declared.fault.ConfigFault.TheVariants.{Long, NotToml, Unknown, Missing, Kind, Range, Geometry, NoMemory}
use Rattle.paraid_config.specs.Keys.{key_name}
use Rattle.paraid_recover.specs.declared.format_fault.FormatFault.TheVariants.{AlreadyFormatted, Disk}
use Rattle.paraid_record.specs.declared.meta.Setup.{Setup}
use Rattle.paraid_commands.specs.declared.refusal.Refusal.{Refusal}
use Rattle.paraid_commands.specs.declared.refusal.Refusal.TheVariants.{Source, Config, Format}
use Rattle.paraid_serve.specs.Statuses.{status_already_formatted, status_config, status_disk, status_no_memory, status_source}
use Rattle.paraid_base.specs.Regions.{array_blocks}

-- no array has this geometry
abbrev pub geometry_line : GeoFault → List ℕ
geometry_line (Disks value) = codes "config disks " ++ decimal value ++ codes "\n"
geometry_line (Rows value) = codes "config rows " ++ decimal value ++ codes "\n"
geometry_line (Gears at) = codes "config gears " ++ decimal at ++ codes "\n"

-- why a configuration is refused
abbrev pub config_line : ConfigFault → List ℕ
config_line Long = codes "config long\n"
config_line NotToml = codes "config nottoml\n"
config_line (Unknown at) = codes "config unknown " ++ decimal at ++ codes "\n"
config_line (Missing key) = codes "config missing " ++ key_name key ++ codes "\n"
config_line (Kind key) = codes "config kind " ++ key_name key ++ codes "\n"
config_line (Range key value) =
    codes "config range " ++ key_name key ++ codes " " ++ signed_decimal value ++ codes "\n"
config_line (Geometry fault) = geometry_line fault
config_line NoMemory = codes "nomemory\n"

-- why no array was made
abbrev pub refusal_line : Refusal → List ℕ
refusal_line Source = codes "source\n"
refusal_line (Config fault) = config_line fault
refusal_line (Format (AlreadyFormatted epoch)) = codes "already " ++ decimal epoch ++ codes "\n"
refusal_line (Format (Disk disk)) = codes "disk " ++ decimal disk ++ codes "\n"

-- the status where no array was made
abbrev pub refusal_status : Refusal → ℕ
refusal_status Source = status_source
refusal_status (Config NoMemory) = status_no_memory
refusal_status (Config Long) = status_config
refusal_status (Config NotToml) = status_config
refusal_status (Config (Unknown at)) = status_config
refusal_status (Config (Missing key)) = status_config
refusal_status (Config (Kind key)) = status_config
refusal_status (Config (Range key value)) = status_config
refusal_status (Config (Geometry fault)) = status_config
refusal_status (Format (AlreadyFormatted epoch)) = status_already_formatted
refusal_status (Format (Disk disk)) = status_disk

-- the number of blocks of a new array
abbrev pub formatted_line : Setup → List ℕ
formatted_line setup =
    codes "formatted " ++ decimal (array_blocks setup.geometry) ++ codes "\n"
