use Rattle.std.proofs.Common.{◌≡◌, ℕ, ◌<◌, length, map, ◌∙◌, ap, subst, arith}
use Rattle.std.proofs.lemmas.List.{length-map}
use Rattle.paraid_rack.specs.Trail.{Trail, disks}
use Rattle.paraid_memrack.specs.Past.{past_of, past_start, AllPastAt}
use Rattle.paraid_memrack.specs.Stop.{kept_at}
use Rattle.paraid_memrack.specs.Tells.{beginning_of}
use Rattle.paraid_memrack.proofs.ReplayLemmas.{all_past_start, all_past_more}
use Rattle.paraid_memrack.proofs.log.Log.slots_at.Goals as goal

pub loop-m-init : goal.loop-m-init
loop-m-init c =
    let slots = c.in_ok-slots.slots.items in
    let start = map beginning_of c.args.self.now.start.items in
    let same : map past_of slots ≡ map past_start start = c.in_ok-slots.ensures in
    let count : length slots ≡ length start = omega (arith, ap length same, length-map slots past_of, length-map start past_start) in
    (count ∙ length-map c.args.self.now.start.items beginning_of, all_past_start slots start same)

pub loop-m-preserved : goal.loop-m-preserved
loop-m-preserved c =
    let log = c.args.self.now in
    let t : Trail = record { start = map beginning_of log.start.items; calls = log.calls.items } in
    let m = c.loop-m.m in
    let within : m < length log.calls.items = omega (arith, c.loop-m-test.true, c.requires) in (
      c.follow.ensures.length ∙ c.loop-m.invariant.0,
      all_past_more t m c.index.result.now c.loop-m.slots.items c.follow.new.slots.items within c.index.ensures (c.in_ok-follow.ensures.slots (disks t m) (kept_at t m)) c.loop-m.invariant.1,
    )

pub returns-clause-length : goal.returns-clause-length
returns-clause-length c = c.loop-m.invariant.0

pub returns-clause-slots : goal.returns-clause-slots
returns-clause-slots c =
    let log = c.args.self.now in
    let t : Trail = record { start = map beginning_of log.start.items; calls = log.calls.items } in
    let all : c.loop-m.m ≡ c.args.moment = omega arith in
    subst (λ (m : ℕ). AllPastAt t m c.loop-m.slots.items) all c.loop-m.invariant.1
