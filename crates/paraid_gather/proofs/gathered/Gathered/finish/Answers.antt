use Rattle.std.proofs.Common.{◌≡◌, ◌≤◌, ℕ, subst, refl, sym, ap, ◌∙◌, arith}
use Rattle.paraid_rack.specs.Trail.{now}
use Rattle.paraid_rack.specs.Told.{Ran}
use Rattle.paraid_gather.specs.Finish.{WritesWhatWaits, lost_below}
use Rattle.paraid_gather.specs.Gathers.{log_of, rack_below, waiting_in}
use Rattle.paraid_gather.specs.Waiting.{none_waits, waits}
use Rattle.paraid_gather.proofs.FinishLemmas.{all_out, all_quiet, ends_gathered, out_more, out_none}
use Rattle.paraid_gather.proofs.WritesLemmas.{writes_all}
use Rattle.paraid_gather.proofs.gathered.Gathered.finish.Goals as goal

pub loop-disk-init : goal.loop-disk-init
loop-disk-init g c =
    let first = c.args.self in
    (refl, out_none (g.R.Rack.slot (rack_below first)) (waiting_in first) (g.R.Rack.told (rack_below first)) (g.L.Noted.noted (log_of first)), λ none. (refl, refl))

pub loop-disk-preserved : goal.loop-disk-preserved
loop-disk-preserved g c =
    let first = c.args.self in
    let old = c.loop-disk.gathered in
    let new = c.settle.new.self in
    let here = c.loop-disk.invariant.1 in (
      c.settle.ensures.slots ∙ c.loop-disk.invariant.0,
      out_more c.loop-disk.disk (g.R.Rack.slot (rack_below first)) (g.R.Rack.slot (rack_below old)) (g.R.Rack.slot (rack_below new)) (waiting_in first) (waiting_in old) (waiting_in new)
          (g.R.Rack.told (rack_below first)) (g.R.Rack.told (rack_below old)) (g.R.Rack.told (rack_below new)) (g.L.Noted.noted (log_of first)) (g.L.Noted.noted (log_of old)) (g.L.Noted.noted (log_of new)) here
          c.settle.ensures.slot c.settle.ensures.empty c.settle.ensures.other_slots c.settle.ensures.others c.settle.ensures.log c.settle.ensures.below,
      λ none.
          let before = c.loop-disk.invariant.2 none in
          let after = c.settle.ensures.idle (λ spins. ap waits (here.waiting c.loop-disk.disk (omega arith)) ∙ none c.loop-disk.disk (ap (λ x. x.power) (sym (here.slots c.loop-disk.disk (omega arith))) ∙ spins)) in
          (after.0 ∙ before.0, after.1 ∙ before.1),
    )

pub returns-clause-below : goal.returns-clause-below
returns-clause-below g c =
    let first = c.args.self in
    let last = c.loop-disk.gathered in
    let count = g.R.Rack.slot_count last.rack in
    let n = c.loop-disk.disk in
    let same = c.loop-disk.invariant.0 in
    let past = c.loop-disk-test.false in
    let upto = c.loop-disk.auto.disk-end in
    let end = c.slots-disk-end.ensures in
    let all : count ≤ n = omega (arith, same, past, end) in
    let at : n ≡ count = omega (arith, same, past, upto, end) in
    let here = c.loop-disk.invariant.1 in
    let slot = g.R.Rack.slot first.rack in
    let slot' = g.R.Rack.slot last.rack in
    let told = g.R.Rack.told first.rack in
    let told' = g.R.Rack.told last.rack in
    subst (λ (k : ℕ). Ran told told' (WritesWhatWaits (lost_below k slot slot') (waiting_in first) (λ _. none_waits))) at
    (writes_all told told' (lost_below n slot slot') (waiting_in first) (waiting_in last)
    (λ t tells. all_quiet count n slot slot' (waiting_in first) (waiting_in last) told told' (g.L.Noted.noted first.log) (g.L.Noted.noted last.log) all here (now t) (g.met.R.Rack.slots_hold last.rack) last.fits (g.met.R.Rack.agrees last.rack t tells))
    here.below)

pub returns-clause-gathered : goal.returns-clause-gathered
returns-clause-gathered g c below noted told_below told_noted =
    let first = c.args.self in
    let last = c.loop-disk.gathered in
    let count = g.R.Rack.slot_count last.rack in
    let same = c.loop-disk.invariant.0 in
    let past = c.loop-disk-test.false in
    let end = c.slots-disk-end.ensures in
    let all : count ≤ c.loop-disk.disk = omega (arith, same, past, end) in
    let here = c.loop-disk.invariant.1 in
    let slot = g.R.Rack.slot first.rack in
    let slot' = g.R.Rack.slot last.rack in
    let told = g.R.Rack.told first.rack in
    let told' = g.R.Rack.told last.rack in
    let log = g.L.Noted.noted first.log in
    let log' = g.L.Noted.noted last.log in
    ends_gathered c.loop-disk.disk slot slot' (waiting_in first) (waiting_in last) told told' log log' below noted told_below told_noted here.below here.log
    (all_out (g.R.Rack.slot_count first.rack) c.loop-disk.disk slot slot' (waiting_in first) (waiting_in last) told told' log log' (omega (arith, same, all)) here (g.met.R.Rack.slots_hold first.rack))
    first.stands (g.met.R.Rack.agrees first.rack) (last.stands below noted told_below told_noted)
    (all_quiet count c.loop-disk.disk slot slot' (waiting_in first) (waiting_in last) told told' log log' all here (now below) (g.met.R.Rack.slots_hold last.rack) last.fits (g.met.R.Rack.agrees last.rack below told_below))
