-- The option grammar with its replies
use Rattle.std.specs.Prelude.{◌≡◌, ◌≢◌, ℕ, ◌+◌, ◌*◌, ◌<◌, ◌≤◌, ◌==◌, if◌then◌else◌, List, [], ◌++◌, length, drop, replicate, Bool, true, false}
use Rattle.paraid_nbd.specs.declared.options.OptionKind.{OptionKind}
use Rattle.paraid_nbd.specs.declared.options.OptionKind.TheVariants.{Export, Abort, Names, Info, Go, Unknown}
use Rattle.paraid_nbd.specs.Numbers.{number_bytes, number}

-- the number before an option, its number and length, and its content
pub record OptionParts : Type 0 where
  pub magic : List ℕ
  pub head : List ℕ
  pub content : List ℕ

-- an option as it is sent
abbrev pub option_bytes : OptionParts → List ℕ
option_bytes p = p.magic ++ (p.head ++ p.content)

-- which option it is
abbrev pub option_number : List ℕ → ℕ
option_number head = number 4 head

-- how many bytes follow it
abbrev pub option_length : List ℕ → ℕ
option_length head = number 4 (drop 4 head)

-- what the option of this number asks for
abbrev pub option_kind : ℕ → OptionKind
option_kind n = if n == 1 then Export else if n == 2 then Abort
    else if n == 3 then Names else if n == 6 then Info else if n == 7 then Go else Unknown

-- it names an export and asks for information
abbrev pub chooses : OptionKind → Bool
chooses Export = false
chooses Abort = false
chooses Names = false
chooses Info = true
chooses Go = true
chooses Unknown = false

-- requests follow it
abbrev pub begins : OptionKind → Bool
begins Export = true
begins Abort = false
begins Names = false
begins Info = false
begins Go = true
begins Unknown = false

-- the number before an option
abbrev pub IsOptionMagic : List ℕ → Type 0
IsOptionMagic magic = (length magic ≡ 8) × (number 8 magic ≡ 0x49484156454F5054)

-- a name's length, the name, a count, and so many numbers of two bytes
abbrev pub IsChoice : List ℕ → Type 0
IsChoice content =
    (6 + number 4 content ≤ length content)
    × (length content ≡ 6 + number 4 content + 2 * number 2 (drop (4 + number 4 content) content))

-- the length of a choice is 6 to 8,192
abbrev pub HasRange : List ℕ → Type 0
HasRange head = chooses (option_kind (option_number head)) ≡ true
    → (6 ≤ option_length head) × (option_length head ≤ 8192)

-- a whole option that is right
pub record IsOption (p : OptionParts) : Type 0 where
  pub magic : IsOptionMagic p.magic
  pub head : length p.head ≡ 8
  pub range : HasRange p.head
  pub content : length p.content ≡ option_length p.head
  pub choice : chooses (option_kind (option_number p.head)) ≡ true → IsChoice p.content

-- less than an option, with nothing wrong in it
pub data IsPartOption (rest : List ℕ) : Type 0 where
  InMagic : length rest < 8 → IsPartOption rest
  InHead : (magic part : List ℕ)
      → rest ≡ magic ++ part → IsOptionMagic magic → length part < 8 → IsPartOption rest
  InContent : (magic head part : List ℕ) → rest ≡ magic ++ (head ++ part) → IsOptionMagic magic
      → length head ≡ 8 → HasRange head → length part < option_length head → IsPartOption rest

-- what begins at place `at` of the input is no option: the field at this place is wrong
pub data IsWrongOption (at : ℕ) (rest : List ℕ) (place : ℕ) : Type 0 where
  WrongMagic : length rest ≡ 8
      → number 8 rest ≢ 0x49484156454F5054 → place ≡ at → IsWrongOption at rest place
  WrongRange : (magic head : List ℕ) → rest ≡ magic ++ head → IsOptionMagic magic
      → length head ≡ 8 → (HasRange head → ⊥) → place ≡ at + 12 → IsWrongOption at rest place
  WrongChoice : (p : OptionParts) → rest ≡ option_bytes p → IsOptionMagic p.magic
      → length p.head ≡ 8 → HasRange p.head → length p.content ≡ option_length p.head
      → chooses (option_kind (option_number p.head)) ≡ true
      → (IsChoice p.content → ⊥) → place ≡ at + 12 → IsWrongOption at rest place

-- the head of a reply to option `n`, with the length of the content that follows
abbrev pub reply_to : ℕ → ℕ → ℕ → List ℕ
reply_to n kind size = number_bytes 8 0x0003E889045565A9
    ++ (number_bytes 4 n ++ (number_bytes 4 kind ++ number_bytes 4 size))

-- the reply that an option is done
abbrev pub ack : ℕ → List ℕ
ack n = reply_to n 1 0

-- the reply to an option of this kind and number, by a device of so many bytes
abbrev pub kind_reply : ℕ → Bool → OptionKind → ℕ → List ℕ
kind_reply size no_zeros Export n =
    number_bytes 8 size ++ (number_bytes 2 5 ++ (if no_zeros then [] else replicate 124 0))
kind_reply size no_zeros Abort n = ack n
kind_reply size no_zeros Names n = reply_to n 2 4 ++ (number_bytes 4 0 ++ ack n)
kind_reply size no_zeros Info n =
    reply_to n 3 12 ++ (number_bytes 2 0 ++ (number_bytes 8 size ++ (number_bytes 2 5 ++ ack n)))
kind_reply size no_zeros Go n =
    reply_to n 3 12 ++ (number_bytes 2 0 ++ (number_bytes 8 size ++ (number_bytes 2 5 ++ ack n)))
kind_reply size no_zeros Unknown n = reply_to n 2147483649 0

-- the reply to an option
abbrev pub option_reply : ℕ → Bool → OptionParts → List ℕ
option_reply size no_zeros p =
    kind_reply size no_zeros (option_kind (option_number p.head)) (option_number p.head)
