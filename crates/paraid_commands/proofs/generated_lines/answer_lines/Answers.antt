use Rattle.std.proofs.Common.{◌≡◌, ◌+◌, ◌≤◌, arith, ap, ◌∙◌, refl, sym}
use Rattle.paraid_serve.proofs.GrowsLemmas.{grows_none, grows_then, told_then}
use Rattle.paraid_commands.specs.declared.tally.Tally.{Tally}
use Rattle.paraid_commands.specs.Tally.{tally_with_answer, tally_with_event}
use Rattle.paraid_machine.specs.Machine.{block_count}
use Rattle.paraid_commands.proofs.GenCauseLemmas.{causes_more, causes_none}
use Rattle.paraid_commands.proofs.GenLemmas.{counted_more, counted_none}
use Rattle.paraid_commands.proofs.TallyLemmas.{fits_answer, fits_event, fits_none, fits_room}
use Rattle.paraid_commands.proofs.generated_lines.answer_lines.Goals as goal

pub events-init : goal.events-init
events-init g c = rw c.new-tally.ensures (record {
  counted = λ t p s. counted_none _ _ _ p _ _ t s;
  told = grows_none _;
  slots = refl;
  setup = refl;
  halt = c.requires.halt;
  since = λ start s. s;
  causes = causes_none _ _;
  fits = fits_none;
})

pub events-preserved : goal.events-preserved
events-preserved g c =
    let i = c.events.invariant in
    let e = c.answer_event-answered.ensures in
    let new : c.count_answer.new.self ≡ tally_with_answer (tally_with_event c.events.tally c.generate-event.result) c.answer_event-answered.result =
    c.count_answer.ensures ∙ ap (λ (t : Tally). tally_with_answer t c.answer_event-answered.result) c.count_event.ensures in
    record {
      counted = λ t p s. counted_more (i.counted (told_then _ _ e.told t) p s) c.generate-event.result c.answer_event-answered.result _ _ _ _ c.blocks-blocks.result c.count_answer.new.self i.slots i.setup
          c.blocks-blocks.ensures.value c.generate-event.ensures.value new e.turn t;
      told = grows_then _ _ _ i.told e.told;
      slots = e.slots ∙ i.slots;
      setup = e.setup ∙ i.setup;
      halt = e.halt;
      since = λ start s. e.since start (i.since start s);
      causes = causes_more i.causes c.generate-event.result c.answer_event-answered.result _ c.blocks-blocks.result c.count_answer.new.self (c.blocks-blocks.ensures.value ∙ ap block_count (sym (g.met.A.Serves.shows c.args.array.now).setup)) c.generate-event.ensures.value e.cause new;
      fits = rw new (fits_answer (tally_with_event c.events.tally c.generate-event.result) c.answer_event-answered.result (c.events.i + 1) c.events.i (fits_event c.events.tally c.generate-event.result c.events.i c.events.i i.fits));
    }

pub generate-event-requires : goal.generate-event-requires
generate-event-requires g c = record { some = c.blocks-blocks.ensures.some }

pub count_event-requires : goal.count_event-requires
count_event-requires g c =
    let few : c.events.i ≤ 1000000 = omega (arith, c.events-test.true, c.requires.few) in
    record { room = fits_room c.events.tally c.events.i c.events.i c.events.invariant.fits few few }

pub answer_event-answered-requires : goal.answer_event-answered-requires
answer_event-answered-requires g c = record { halt = c.events.invariant.halt }

pub count_answer-requires : goal.count_answer-requires
count_answer-requires g c =
    let more : c.events.i + 1 ≤ 1000000 = omega (arith, c.events-test.true, c.requires.few) in
    let few : c.events.i ≤ 1000000 = omega (arith, more) in
    record { room = rw c.count_event.ensures (fits_room _ (c.events.i + 1) c.events.i (fits_event c.events.tally c.generate-event.result c.events.i c.events.i c.events.invariant.fits) more few) }

pub returns : goal.returns
returns g c = record {
  counted = λ t p s.
      let e : c.events.i ≡ c.args.lines = omega (arith, c.events-test.false, c.events.auto.i-end) in
      rw e at (c.events.invariant.counted t p s);
  causes =
      let e : c.events.i ≡ c.args.lines = omega (arith, c.events-test.false, c.events.auto.i-end) in
      rw e at c.events.invariant.causes;
  told = c.events.invariant.told;
  slots = c.events.invariant.slots;
  setup = c.events.invariant.setup;
  halt = c.events.invariant.halt;
  since = c.events.invariant.since;
}
