use Rattle.std.proofs.Common.{Some, refl, sym, ap, ◌∙◌}
use Rattle.paraid_words.specs.declared.command.Command.TheVariants.{Run}
use Rattle.tests_lives.proofs.LifeLemmas.{of_result, run_answers}
use Rattle.tests_lives.proofs.life.run_trace.Goals as goal

pub returns : goal.returns
returns c =
    let lines = of_result _ c.to_vec.result c.in_ok-bytes.bytes c.in_ok-bytes.ensures.value c.to_vec.ensures.items_if_clones_equal (λ x y same. same) in
    let empty = of_result _ c.new-3.result c.in_ok-sink.sink c.in_ok-sink.ensures.value c.new-3.ensures.written in
    let text = of_result _ c.to_vec-2.result c.in_ok-text.text c.in_ok-text.ensures.value c.to_vec-2.ensures.items_if_clones_equal (λ x y same. same) in
    run_answers c.args.lines.now c.in_ok-text.text.items (c.new-source.ensures.left ∙ ap Some lines) refl empty (c.bytes.ensures ∙ ap Some (sym text)) c.paraid-status.result.status c.if-status-ne0.false
    (c.paraid-status.ensures.does Run c.in_ok-words.ensures).0
