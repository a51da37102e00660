-- What the causes of answers say in a reader's words.
use Rattle.std.proofs.Common.{◌≡◌, ◌≢◌, ℕ, ◌<◌, ◌≤◌, true, false, Bool, List, [], ◌∷◌, Option, Some, None, refl, sym, ap, ◌∙◌, arith, if◌then◌else◌}
use Rattle.std.specs.Prelude.{nat_lt}
use Rattle.std.proofs.lemmas.Bool.Decides.{nat_tests}
use Rattle.paraid_base.specs.declared.event.Answer.{Answer}
use Rattle.paraid_base.specs.declared.event.Answer.TheVariants.{Halted, NoBlock, Value}
use Rattle.paraid_base.specs.declared.event.Event.{Event}
use Rattle.paraid_base.specs.declared.event.Event.TheVariants.{Bad, Read}
use Rattle.paraid_base.specs.declared.fault.Halt.{Halt}
use Rattle.paraid_base.specs.declared.fault.Halt.TheVariants.{Two as HaltTwo, Worn}
use Rattle.paraid_base.specs.declared.block.Block.{Block}
use Rattle.paraid_machine.specs.Machine.{block_count, first_missing}
use Rattle.paraid_serve.specs.Causes.{HasCause, HasReason, HaveCauses, Shown, missing_answer}
use Rattle.paraid_serve.specs.Causes.HasReason.{again, bad, done, quiet, two, worn}

past : (block count : ℕ) → nat_lt block count ≡ false → count ≤ block
past block count e = grind (e, arith, nat_tests)

low : (block count : ℕ) → nat_lt block count ≡ true → block < count
low block count e = grind (e, arith, nat_tests)

no_block : (block b : ℕ) → Some (NoBlock block) ≡ Some (NoBlock b) → b ≡ block
no_block block b is = let z : NoBlock block ≡ NoBlock b = cc in cc

value_missing : (o : Option ℕ) (b : ℕ) (bytes : Block) → missing_answer o ≡ Some (Value b bytes) → ⊥
value_missing None b bytes is = let z : None ≡ Some (Value b bytes) = is in cc
value_missing (Some x) b bytes is = let z : NoBlock x ≡ Value b bytes = cc in cc

-- what is missing of one block
pub missing_one : (count block b : ℕ) → missing_answer (first_missing count (block ∷ [])) ≡ Some (NoBlock b) → (b ≡ block) × (count ≤ block)
missing_one count block b is = by (nat_lt block count) refl
  where
    by : (t : Bool) → nat_lt block count ≡ t → (b ≡ block) × (count ≤ block)
    by true e = let z : None ≡ Some (NoBlock b) = sym (ap (λ (t : Bool). missing_answer (if t then None else Some block)) e) ∙ is in absurd cc
    by false e = let z : Some (NoBlock block) ≡ Some (NoBlock b) = sym (ap (λ (t : Bool). missing_answer (if t then None else Some block)) e) ∙ is in (no_block block b z, past block count e)

none_missing : (count block : ℕ) → missing_answer (first_missing count (block ∷ [])) ≡ None → block < count
none_missing count block is = by (nat_lt block count) refl
  where
    by : (t : Bool) → nat_lt block count ≡ t → block < count
    by true e = low block count e
    by false e = let z : Some (NoBlock block) ≡ None = sym (ap (λ (t : Bool). missing_answer (if t then None else Some block)) e) ∙ is in absurd cc

-- a read is answered by no block only where there is none, whatever the rack holds, and by a value only where there is one
pub read_missing : (old new : Shown) (block b : ℕ) → HasCause old (Read block) (NoBlock b) new → (b ≡ block) × (block_count old.setup ≤ block)
read_missing old new block b it = by it.reason
  where
    by : HasReason old (Read block) (NoBlock b) new → (b ≡ block) × (block_count old.setup ≤ block)
    by (again halt was good is same) = let z : NoBlock b ≡ Halted halt = is in absurd cc
    by (worn count none asked many wear is same) = let z : NoBlock b ≡ Halted (Worn count) = is in absurd cc
    by (quiet takes is same) = missing_one (block_count old.setup) block b is
    by (done takes busy does) = absurd does
    by (two pair takes asked busy is lost used) = let z : NoBlock b ≡ Halted (HaltTwo pair) = is in absurd cc
    by (bad is answer same) = let z : Read block ≡ Bad = is in absurd cc

pub read_there : (old new : Shown) (block b : ℕ) (bytes : Block) → HasCause old (Read block) (Value b bytes) new → block < block_count old.setup
read_there old new block b bytes it = by it.reason
  where
    by : HasReason old (Read block) (Value b bytes) new → block < block_count old.setup
    by (again halt was good is same) = let z : Value b bytes ≡ Halted halt = is in absurd cc
    by (worn count none asked many wear is same) = let z : Value b bytes ≡ Halted (Worn count) = is in absurd cc
    by (quiet takes is same) = absurd (value_missing (first_missing (block_count old.setup) (block ∷ [])) b bytes is)
    by (done takes busy does) = none_missing (block_count old.setup) block busy
    by (two pair takes asked busy is lost used) = let z : Value b bytes ≡ Halted (HaltTwo pair) = is in absurd cc
    by (bad is answer same) = let z : Read block ≡ Bad = is in absurd cc

-- and after a halt each event is answered by it, with nothing changed
pub halted_again : (old new : Shown) (event : Event) (answer : Answer) (halt : Halt) → event ≢ Bad → old.halt ≡ Some halt → HasCause old event answer new → (answer ≡ Halted halt) × (new ≡ old)
halted_again old new event answer halt good was it = by it.reason
  where
    gone : old.halt ≡ None → (answer ≡ Halted halt) × (new ≡ old)
    gone none = let z : Some halt ≡ None = sym was ∙ none in absurd cc

    by : HasReason old event answer new → (answer ≡ Halted halt) × (new ≡ old)
    by (again h is good is_h same) = let one : h ≡ halt = let z : Some h ≡ Some halt = sym is ∙ was in cc in (is_h ∙ ap (λ (x : Halt). Halted x) one, same)
    by (worn count none asked many wear is same) = gone none
    by (quiet takes is same) = gone takes.going
    by (done takes busy does) = gone takes.going
    by (two pair takes asked busy is lost used) = gone takes.going
    by (bad is told same) = absurd (good is)

-- the setup never changes in a run
pub same_setup : (old new : Shown) (events : List Event) (answers : List Answer) → HaveCauses old events answers new → new.setup ≡ old.setup
same_setup old new [] [] all = ap (λ (x : Shown). x.setup) all
same_setup old new [] (answer ∷ answers) all = absurd all
same_setup old new (event ∷ events) [] all = absurd all
same_setup old new (event ∷ events) (answer ∷ answers) all = same_setup all.0 new events answers all.2 ∙ all.1.setup
