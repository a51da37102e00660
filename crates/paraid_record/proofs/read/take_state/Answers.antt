use Rattle.std.specs.Prelude.{◌≡◌, Some, drop}
use Rattle.std.proofs.Common.{ap, ◌∙◌}
use Rattle.paraid_record.specs.Codes.{phase_code, phase_to, out_code, fresh_code, rebuilt_count}
use Rattle.paraid_record.proofs.PartLemmas.{state_left, fill_small, fresh_code_small, gear_small, out_code_small, phase_code_small, phase_to_small, rebuilt_small, spins_small, same_some, not_some}
use Rattle.paraid_record.proofs.read.take_state.Goals as goal

pub returns-in_err-phase_of-clause-reads : goal.returns-in_err-phase_of-clause-reads
returns-in_err-phase_of-clause-reads c = λ m rest range e.
    let g = m.setup.geometry in
    let epoch = c.take_u64-epoch.ensures.reads m.epoch _ range.counters.epoch_fits (e ∙ state_left m rest) in
    let writes = c.take_u64-writes.ensures.reads m.writes _ range.counters.writes_fit epoch.1 in
    let ticks = c.take_u64-ticks.ensures.reads m.ticks _ range.counters.ticks_fit writes.1 in
    let gear = c.take_u8-gear.ensures.reads m.gear _ (gear_small g m.gear range.gear) ticks.1 in
    let code = c.take_u8-code.ensures.reads (phase_code m.phase) _ (phase_code_small m.phase) gear.1 in
    let to = c.take_u8-to.ensures.reads (phase_to m.phase) _ (phase_to_small g m.gear m.phase range.phase) code.1 in
    let known = c.phase_of.ensures m.phase code.0 to.0 in
    absurd (not_some _ m.phase known c.in_err-phase_of.was)

pub returns-clause-reads : goal.returns-clause-reads
returns-clause-reads c = λ m rest range e.
    let g = m.setup.geometry in
    let epoch = c.take_u64-epoch.ensures.reads m.epoch _ range.counters.epoch_fits (e ∙ state_left m rest) in
    let writes = c.take_u64-writes.ensures.reads m.writes _ range.counters.writes_fit epoch.1 in
    let ticks = c.take_u64-ticks.ensures.reads m.ticks _ range.counters.ticks_fit writes.1 in
    let gear = c.take_u8-gear.ensures.reads m.gear _ (gear_small g m.gear range.gear) ticks.1 in
    let code = c.take_u8-code.ensures.reads (phase_code m.phase) _ (phase_code_small m.phase) gear.1 in
    let to = c.take_u8-to.ensures.reads (phase_to m.phase) _ (phase_to_small g m.gear m.phase range.phase) code.1 in
    let disk = c.take_u8-disk.ensures.reads (out_code m.out) _ (out_code_small g m.gear m.out range.out) to.1 in
    let fresh = c.take_u8-fresh.ensures.reads (fresh_code m.out) _ (fresh_code_small m.out) disk.1 in
    let fill = c.take_u32-fill.ensures.reads m.fill _ (fill_small g m.gear m.fill m.phase range.phase range.shift.fill) (c.skip.ensures.rest ∙ ap (drop 3) fresh.1) in
    let rebuilt = c.take_u32-rebuilt.ensures.reads (rebuilt_count m.out) _ (rebuilt_small g m.gear m.out range.gear range.out) fill.1 in
    let spins = c.take_shorts.ensures.reads m.spins rest range.eight (spins_small m range) rebuilt.1 in
    let known = c.phase_of.ensures m.phase code.0 to.0 in
    let phase : c.in_ok-phase_of.field-0 ≡ m.phase = same_some _ _ _ c.in_ok-phase_of.was known in
    let out = c.out_of.ensures g m.gear m.out range.out disk.0 fresh.0 rebuilt.0 in (
      λ i. Some (record {
        setup = c.args.setup;
        version = c.args.version;
        epoch = epoch.0 i;
        writes = writes.0 i;
        ticks = ticks.0 i;
        gear = gear.0 i;
        phase = phase i;
        fill = fill.0 i;
        out = out i;
        spins = spins.0 i;
      }),
      spins.1,
    )
