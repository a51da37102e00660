-- The greeting, the client's flags and its options: what was taken, what was said, and how that may
-- end
use Rattle.std.specs.Prelude.{◌≡◌, ◌≢◌, ℕ, ◌<◌, ◌≤◌, nat_le, List, [], ◌++◌, length, take, codes, Option, Bool, true, false}
use Rattle.std.specs.List.{flat_map, AllByRecursion}
use Rattle.paraid_base.specs.Told.{GrowsByBytes, HasRisen}
use Rattle.paraid_nbd.specs.declared.ending.NbdEnd.{NbdEnd}
use Rattle.paraid_nbd.specs.declared.ending.NbdEnd.TheVariants.{Aborted, Protocol, Sink}
use Rattle.paraid_nbd.specs.declared.options.OptionKind.TheVariants.{Abort}
use Rattle.paraid_nbd.specs.Numbers.{number_bytes, number}
use Rattle.paraid_nbd.specs.Options.{OptionParts, option_bytes, option_number, option_kind, option_reply, begins, IsChoice, IsOption, IsPartOption, IsWrongOption}
use Rattle.paraid_nbd.specs.Taking.{Takes, Lacks, IsCut}

-- what the service says first
unfoldable pub greeting : List ℕ
greeting = codes "NBDMAGIC" ++ (number_bytes 8 0x49484156454F5054 ++ number_bytes 2 3)

-- A first part of this was written, which is not all of it, and then the sink failed.
pub record IsUnsent
    (before after : Option (List ℕ)) (out : List ℕ) (faults now : ℕ) (end : NbdEnd) : Type 0 where
  pub sent : ℕ
  pub within : sent < length out
  pub grows : GrowsByBytes before after (take sent out)
  pub cause : HasRisen faults now
  pub is : end ≡ Sink

-- the client's flags: at most the two that are known
pub record AreFlags (flags : List ℕ) (no_zeros : Bool) : Type 0 where
  pub whole : length flags ≡ 4
  pub known : number 4 flags ≤ 3
  pub zeros : no_zeros ≡ nat_le 2 (number 4 flags)

-- right flags were taken
pub record TakesFlags
    (before after : Option (List ℕ)) (old new : ℕ) (no_zeros : Bool) : Type 0 where
  pub flags : List ℕ
  pub are : AreFlags flags no_zeros
  pub takes : Takes before after old new flags

-- no right flags were taken
pub data StopsFlags
    (before after : Option (List ℕ)) (old new faults now : ℕ) (end : NbdEnd) : Type 0 where
  CutFlags : Lacks before after old new 4 faults now end
      → StopsFlags before after old new faults now end
  WrongFlags : (flags : List ℕ) → Takes before after old new flags → length flags ≡ 4
      → 3 < number 4 flags → end ≡ Protocol old → StopsFlags before after old new faults now end

-- the content of an option that chooses an export was taken
pub record TakesChoice (before after : Option (List ℕ)) (old new size : ℕ) : Type 0 where
  pub content : List ℕ
  pub range : (6 ≤ size) × (size ≤ 8192)
  pub whole : length content ≡ size
  pub choice : IsChoice content
  pub takes : Takes before after old new content

-- it was not taken, or it is wrong
pub data StopsChoice (before after : Option (List ℕ))
    (old new size place faults now : ℕ) (end : NbdEnd) : Type 0 where
  WrongSize : ((6 ≤ size) × (size ≤ 8192) → ⊥) → Takes before after old new []
      → end ≡ Protocol place → StopsChoice before after old new size place faults now end
  CutChoice : (6 ≤ size) × (size ≤ 8192) → Lacks before after old new size faults now end
      → StopsChoice before after old new size place faults now end
  NoChoice : (content : List ℕ) → (6 ≤ size) × (size ≤ 8192)
      → length content ≡ size → (IsChoice content → ⊥) → Takes before after old new content
      → end ≡ Protocol place → StopsChoice before after old new size place faults now end

-- a whole and right option was taken
pub record TakesOption (before after : Option (List ℕ)) (old new n : ℕ) : Type 0 where
  pub parts : OptionParts
  pub is : IsOption parts
  pub number_is : option_number parts.head ≡ n
  pub takes : Takes before after old new (option_bytes parts)

-- no whole and right option was taken
pub data StopsOption
    (before after : Option (List ℕ)) (old new faults now : ℕ) (end : NbdEnd) : Type 0 where
  CutOption : (rest : List ℕ) → Takes before after old new rest → IsPartOption rest
      → IsCut end after new faults now → StopsOption before after old new faults now end
  WrongOption : (rest : List ℕ) (place : ℕ)
      → Takes before after old new rest → IsWrongOption old rest place
      → end ≡ Protocol place → StopsOption before after old new faults now end

-- An option was taken and answered.
pub record AnswersOption (size : ℕ) (no_zeros : Bool) (before after : Option (List ℕ))
    (old new : ℕ) (written now_written : Option (List ℕ)) (begun : Bool) : Type 0 where
  pub parts : OptionParts
  pub is : IsOption parts
  pub stays : option_kind (option_number parts.head) ≢ Abort
  pub begun_is : begun ≡ begins (option_kind (option_number parts.head))
  pub takes : Takes before after old new (option_bytes parts)
  pub grows : GrowsByBytes written now_written (option_reply size no_zeros parts)

-- The service ends at an option.
pub data EndsOption (size : ℕ) (no_zeros : Bool)
    (before after : Option (List ℕ)) (old new : ℕ) (written now_written : Option (List ℕ))
    (faults now sink_faults sink_now : ℕ) (end : NbdEnd) : Type 0 where
  Unread : StopsOption before after old new faults now end
      → GrowsByBytes written now_written [] → EndsOption
      size no_zeros before after old new written now_written faults now sink_faults sink_now end
  Leaves : (p : OptionParts) → IsOption p
      → option_kind (option_number p.head) ≡ Abort → Takes before after old new (option_bytes p)
      → GrowsByBytes written now_written (option_reply size no_zeros p) → end ≡ Aborted → EndsOption
      size no_zeros before after old new written now_written faults now sink_faults sink_now end
  UnsentReply : (p : OptionParts) → IsOption p → Takes before after old new (option_bytes p)
      → IsUnsent written now_written (option_reply size no_zeros p) sink_faults sink_now end
      → EndsOption
      size no_zeros before after old new written now_written faults now sink_faults sink_now end

-- an option after which another one comes
pub record IsOther (p : OptionParts) : Type 0 where
  pub is : IsOption p
  pub stays : option_kind (option_number p.head) ≢ Abort
  pub waits : begins (option_kind (option_number p.head)) ≡ false

-- The flags and these options were taken and answered.
pub record IsGreeted (size : ℕ)
    (before after : Option (List ℕ)) (old new : ℕ) (written now_written : Option (List ℕ))
    (flags : List ℕ) (no_zeros : Bool) (options : List OptionParts) : Type 0 where
  pub are : AreFlags flags no_zeros
  pub each : AllByRecursion IsOther options
  pub takes : Takes before after old new (flags ++ flat_map option_bytes options)
  pub grows
      : GrowsByBytes written now_written (greeting ++ flat_map (option_reply size no_zeros) options)

-- The transmission begins: the last option asks for it.
pub record BeginsTransmission (size : ℕ) (before after : Option (List ℕ))
    (old new : ℕ) (written now_written : Option (List ℕ)) : Type 0 where
  pub flags : List ℕ
  pub no_zeros : Bool
  pub options : List OptionParts
  pub last : OptionParts
  pub are : AreFlags flags no_zeros
  pub each : AllByRecursion IsOther options
  pub last_is : IsOption last
  pub last_begins : begins (option_kind (option_number last.head)) ≡ true
  pub takes
      : Takes before after old new ((flags ++ flat_map option_bytes options) ++ option_bytes last)
  pub grows : GrowsByBytes written now_written ((greeting
      ++ flat_map (option_reply size no_zeros) options) ++ option_reply size no_zeros last)

-- The service ends before the transmission.
pub data EndsEarly (size : ℕ)
    (before after : Option (List ℕ)) (old new : ℕ) (written now_written : Option (List ℕ))
    (faults now sink_faults sink_now : ℕ) (end : NbdEnd) : Type 0 where
  Ungreeted : Takes before after old new []
      → IsUnsent written now_written greeting sink_faults sink_now end
      → EndsEarly size before after old new written now_written faults now sink_faults sink_now end
  Unflagged : StopsFlags before after old new faults now end
      → GrowsByBytes written now_written greeting
      → EndsEarly size before after old new written now_written faults now sink_faults sink_now end
  AmongOptions : (mid : Option (List ℕ)) (at : ℕ) (said : Option (List ℕ))
      (flags : List ℕ) (no_zeros : Bool) (options : List OptionParts) (low sink_low : ℕ)
      → IsGreeted size before mid old at written said flags no_zeros options
      → faults ≤ low → sink_faults ≤ sink_low
      → EndsOption size no_zeros mid after at new said now_written low now sink_low sink_now end
      → EndsEarly size before after old new written now_written faults now sink_faults sink_now end
