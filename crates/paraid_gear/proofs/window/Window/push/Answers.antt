use Rattle.std.specs.Prelude.{◌-◌, ◌<◌, [], ◌∷◌, length}
use Rattle.std.proofs.Common.{arith, ap, ◌∙◌}
use Rattle.std.proofs.lemmas.List.{length-append}
use Rattle.std.proofs.lemmas.Nat.{mul-le}
use Rattle.paraid_gear.specs.Window.{SampleWindow, sample_most}
use Rattle.paraid_gear.proofs.SumLemmas.{all_kept, few_kept, sums-more, sums-small}
use Rattle.paraid_gear.proofs.window.Window.push.Goals as goal

pub overflow_add-self : goal.overflow_add-self
overflow_add-self c =
    let keeps = c.self-2.invariant in
    let small = sums-small c.self-2.inside.ring.items c.self-2.inside.sum c.self-2.inside.squares keeps.3 (omega (arith, keeps.1, keeps.2)) in
    omega (arith, small.0, c.requires)

pub overflow_add-self-2 : goal.overflow_add-self-2
overflow_add-self-2 c =
    let keeps = c.self-2.invariant in
    let small = sums-small c.self-2.inside.ring.items c.self-2.inside.sum c.self-2.inside.squares keeps.3 (omega (arith, keeps.1, keeps.2)) in
    omega (arith, small.1, mul-le c.args.sample c.args.sample sample_most sample_most c.requires c.requires)

pub invariant_of-self : goal.invariant_of-self
invariant_of-self c =
    let items = c.self-2.inside.ring.items in
    let keeps = c.self-2.invariant in
    let span = ap (λ (w : SampleWindow). w.span) (c.self-2.view_is ∙ c.make_room.ensures) in
    let size = ap (λ (w : SampleWindow). length w.samples) (c.self-2.view_is ∙ c.make_room.ensures) in
    let few = few_kept (c.args.self.now.span - 1) c.args.self.now.samples in
    let start = ap (λ (w : SampleWindow). w.span) c.self.view_is in
    let some = c.if-self-eq0.false in
    let short : length items < c.self-2.inside.span = omega arith in
    let low : length items < 1024 = omega (arith, keeps.1) in
    rw (c.push_back.ensures.items, all_kept items c.args.sample c.self-2.inside.ring.capacity low keeps.0)
    (keeps.0, keeps.1, omega (arith, length-append items (c.args.sample ∷ [])), sums-more items c.args.sample c.self-2.inside.sum c.self-2.inside.squares keeps.3 c.requires)
