use Rattle.std.proofs.Common.{ℕ, sym, ap, subst, ◌∙◌}
use Rattle.std.specs.List.{list_all}
use Rattle.paraid_recover.specs.Between.{RanBetween}
use Rattle.paraid_memrack.specs.Rules.{told_of}
use Rattle.paraid_commands.specs.Outcome.{BecomesEmpty}
use Rattle.tests_lives.specs.Life.{RunAnswers, is_done_or_on}
use Rattle.tests_lives.proofs.LifeLemmas.{life, of_result}
use Rattle.tests_lives.proofs.life.live.Goals as goal

pub returns : goal.returns
returns c =
    let bare = c.in_ok-bare.bare in
    let made = c.in_ok-made.made in
    let left = c.in_ok-left.left in
    let told = c.in_ok-calls.ensures in
    let slots = of_result _ c.new.result bare c.in_ok-bare.ensures.value c.new.ensures.slots in
    let new = of_result _ c.new.result bare c.in_ok-bare.ensures.value c.new.ensures.told in
    let array = c.in_ok-made.ensures.made in
    life 5 c.args.weak 5 (told_of bare) (told_of made) (told_of left.disks) c.args.lines.now left.text.items new array.0
    (subst (λ (n : ℕ). RanBetween (told_of bare) (told_of made) (BecomesEmpty n array.0)) slots array.1)
    (subst (λ (n : ℕ). RunAnswers n (told_of made) (told_of left.disks) c.args.lines.now left.text.items) (c.in_ok-made.ensures.slots ∙ slots) c.in_ok-left.ensures) told.0 told.1
    (ap (list_all (is_done_or_on c.args.weak)) told.2 ∙ sym c.fail_only_on.ensures ∙ c.if-not-fail_only_on.false)
