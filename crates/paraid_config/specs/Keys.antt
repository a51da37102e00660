-- The keys of a configuration: their names, their order and the ranges of their numbers
use Rattle.std.specs.Prelude.{ℕ, List, [], ◌∷◌, Bool, codes}
use Rattle.std.specs.List.{list_any}
use Rattle.std.specs.Str.{bytes_eq}
use Rattle.paraid_config.specs.declared.key.Key.{Key}
use Rattle.paraid_config.specs.declared.key.Key.TheVariants.{Disks, Rows, Gears, Mode, Rate, Service, Up, Down, Windows, Ration, Burst, Period, SpinningMj, ParkedMj, SpinupMj}

-- the name of a key
abbrev pub key_name : Key → List ℕ
key_name Disks = codes "disks"
key_name Rows = codes "rows"
key_name Gears = codes "gears"
key_name Mode = codes "mode"
key_name Rate = codes "rate"
key_name Service = codes "service"
key_name Up = codes "up"
key_name Down = codes "down"
key_name Windows = codes "windows"
key_name Ration = codes "ration"
key_name Burst = codes "burst"
key_name Period = codes "period"
key_name SpinningMj = codes "spinning_mj"
key_name ParkedMj = codes "parked_mj"
key_name SpinupMj = codes "spinup_mj"

-- every key, in the order in which their values are tested
abbrev pub all_keys : List Key
all_keys = Disks ∷ Rows ∷ Gears ∷ Mode ∷ Rate ∷ Service
    ∷ Up ∷ Down ∷ Windows ∷ Ration ∷ Burst ∷ Period ∷ SpinningMj ∷ ParkedMj ∷ SpinupMj ∷ []

-- the least number that is accepted at a key, or in its list; a mode has none
abbrev pub low_of : Key → ℕ
low_of Disks = 0
low_of Rows = 0
low_of Gears = 0
low_of Mode = 0
low_of Rate = 1
low_of Service = 1
low_of Up = 1
low_of Down = 1
low_of Windows = 1
low_of Ration = 1
low_of Burst = 1
low_of Period = 1
low_of SpinningMj = 0
low_of ParkedMj = 0
low_of SpinupMj = 0

-- the greatest number that is accepted at a key, or in its list; a burst is at most the ration
-- besides
abbrev pub high_of : Key → ℕ
high_of Disks = 255
high_of Rows = 4294967295
high_of Gears = 255
high_of Mode = 0
high_of Rate = 65536
high_of Service = 1048576
high_of Up = 100
high_of Down = 100
high_of Windows = 1024
high_of Ration = 65535
high_of Burst = 65535
high_of Period = 4294967295
high_of SpinningMj = 1048576
high_of ParkedMj = 1048576
high_of SpinupMj = 1048576

-- whether a name is that of a key
unfoldable pub is_known : List ℕ → Bool
is_known name = list_any (λ key. bytes_eq name (key_name key)) all_keys
