use Rattle.std.specs.Prelude.{◌≡◌, ◌≢◌, ◌<◌, ◌^◌, List, Option, IsSomeAnd}
use Rattle.std.proofs.Common.{arith, ap, sym, subst, ◌∙◌}
use Rattle.std.proofs.lemmas.Bool.{false≢true}
use Rattle.paraid_base.specs.Regions.{disk_size}
use Rattle.paraid_record.specs.declared.targets.Target.{Target}
use Rattle.paraid_record.specs.declared.targets.Targets.{Targets}
use Rattle.paraid_record.specs.Targets.{AreTargets, targets_bytes, targets_of}
use Rattle.paraid_record.proofs.PartLemmas.{holds_if_none}
use Rattle.paraid_record.proofs.TargetLemmas.{All-fits, targets-parts}
use Rattle.paraid_record.proofs.targets.read_targets.Goals as goal
use Rattle.paraid_record.proofs.targets.read_targets.Goals.{else-are_in_range-via-then-are_in_range+else-is_spelling, else-are_in_range-via-else-are_in_range}

pub returns-in_err-targets-clause-value : goal.returns-in_err-targets-clause-value
returns-in_err-targets-clause-value c = λ ts range e.
    let small : disk_size c.args.geometry.now < 2 ^ 32 = let t = c.size-size.type_inv in omega (arith, c.size-size.ensures) in
    let read = c.take_targets.ensures.value ts _ range.few (All-fits _ ts range small) (c.new.ensures ∙ c.as_slice.ensures.value ∙ e ∙ targets-parts ts) in
    let P : Option Targets → Type 0 = λ o. IsSomeAnd o (λ t. targets_of t ≡ ts) in
    absurd (subst P c.in_err-targets.was read)

pub returns-then-is_spelling-clause-value : goal.returns-then-is_spelling-clause-value
returns-then-is_spelling-clause-value c = λ ts range e.
    let small : disk_size c.args.geometry.now < 2 ^ 32 = let t = c.size-size.type_inv in omega (arith, c.size-size.ensures) in
    let read = c.take_targets.ensures.value ts _ range.few (All-fits _ ts range small) (c.new.ensures ∙ c.as_slice.ensures.value ∙ e ∙ targets-parts ts) in
    let P : Option Targets → Type 0 = λ o. IsSomeAnd o (λ t. targets_of t ≡ ts) in
    subst P c.in_ok-targets.was read

pub returns-else-are_in_range-clause-value : goal.returns-else-are_in_range-clause-value
returns-else-are_in_range-clause-value c = λ ts range e.
    let small : disk_size c.args.geometry.now < 2 ^ 32 = let t = c.size-size.type_inv in omega (arith, c.size-size.ensures) in
    let read = c.take_targets.ensures.value ts _ range.few (All-fits _ ts range small) (c.new.ensures ∙ c.as_slice.ensures.value ∙ e ∙ targets-parts ts) in
    let P : Option Targets → Type 0 = λ o. IsSomeAnd o (λ t. targets_of t ≡ ts) in
    let same : targets_of c.in_ok-targets.targets ≡ ts = subst P c.in_ok-targets.was read in
    let Q : List Target → Type 0 = λ xs. AreTargets c.args.geometry.now xs in
    let holds = c.are_in_range.ensures.1 (subst Q (sym same) range) in
    elim c.else-are_in_range.branch [
      | else-are_in_range-via-then-are_in_range+else-is_spelling w ↦
          absurd (false≢true (sym w.if-is_spelling.false ∙ w.is_spelling.ensures.1 (e ∙ ap targets_bytes (sym same))))
      | else-are_in_range-via-else-are_in_range w ↦
          absurd (false≢true (sym w.if-are_in_range.false ∙ holds))
    ]

pub returns-in_err-targets-clause-none : goal.returns-in_err-targets-clause-none
returns-in_err-targets-clause-none c =
    let small : disk_size c.args.geometry.now < 2 ^ 32 = let t = c.size-size.type_inv in omega (arith, c.size-size.ensures) in
    let P : List Target → Option Targets → Type 0 = λ ts o. IsSomeAnd o (λ t. targets_of t ≡ ts) in
    let none : (ts : List Target) → AreTargets c.args.geometry.now ts → c.args.block.now.bytes ≢ targets_bytes ts = λ ts range e.
    let read = c.take_targets.ensures.value ts _ range.few (All-fits _ ts range small) (c.new.ensures ∙ c.as_slice.ensures.value ∙ e ∙ targets-parts ts) in
    absurd (subst (P ts) c.in_err-targets.was read) in
    holds_if_none _ _ none

pub returns-else-are_in_range-clause-none : goal.returns-else-are_in_range-clause-none
returns-else-are_in_range-clause-none c = λ ts range e. absurd (returns-else-are_in_range-clause-value c ts range e)
