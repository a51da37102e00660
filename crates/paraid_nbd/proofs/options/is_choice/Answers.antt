use Rattle.std.proofs.Common.{◌≡◌, ◌+◌, ◌-◌, ℕ, List, length, take, drop, arith, ap, ◌∙◌, length-drop}
use Rattle.std.proofs.lemmas.Bool.Decides.{nat_tests}
use Rattle.std.proofs.lemmas.List.{take_all}
use Rattle.paraid_nbd.specs.Numbers.{number}
use Rattle.paraid_nbd.proofs.options.is_choice.Goals as goal

pub returns-then-name-content : goal.returns-then-name-content
unfolding number
returns-then-name-content c = (
  λ e. cc,
  λ h. absurd (omega (arith, h.0, c.read_u32-name.ensures, c.if-name-content.true, c.requires)),
)

pub returns : goal.returns
unfolding number
returns c =
    let content : List ℕ = c.args.content.now in
    let name : c.read_u32-name.result ≡ number 4 content = c.read_u32-name.ensures in
    let at : ℕ = 4 + c.read_u32-name.result in
    let rest : take (length content - at) (drop at content) ≡ drop at content = take_all (length content - at) (drop at content) (omega (arith, length-drop at content)) in
    let count : c.read_u16-count.result ≡ number 2 (drop (4 + number 4 content) content) =
    c.read_u16-count.ensures ∙ ap (number 2) rest ∙ ap (λ (n : ℕ). number 2 (drop (4 + n) content)) name in (
      λ e. (omega (arith, name, c.if-name-content.false, c.requires), grind (arith, nat_tests, e, name, count)),
      λ h. grind (arith, nat_tests, h.1, name, count),
    )
