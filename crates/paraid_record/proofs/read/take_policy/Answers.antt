use Rattle.std.specs.Prelude.{◌≡◌, Some}
use Rattle.std.proofs.Common.{arith, sym, ◌∙◌}
use Rattle.paraid_record.specs.Codes.{mode_code, window_count}
use Rattle.paraid_record.proofs.PartLemmas.{policy-parts, windows_small, window_count_small, mode_code_small, same_some, not_some}
use Rattle.paraid_record.proofs.read.take_policy.Goals as goal

pub returns-in_err-mode_of-clause-reads : goal.returns-in_err-mode_of-clause-reads
returns-in_err-mode_of-clause-reads c = λ s rest range same e.
    let rate = c.take_u32-rate.ensures.reads s.rate _ (omega (arith, range.rate)) (e ∙ policy-parts s rest) in
    let service = c.take_u32-service.ensures.reads s.service _ (omega (arith, range.service)) rate.1 in
    let up = c.take_u8-up.ensures.reads s.up _ (omega (arith, range.up)) service.1 in
    let down = c.take_u8-down.ensures.reads s.down _ (omega (arith, range.down)) up.1 in
    let mode = c.take_u8-mode.ensures.reads (mode_code s.mode) _ (mode_code_small s.mode) down.1 in
    let known = c.mode_of.ensures s.mode mode.0 in
    absurd (not_some _ s.mode known c.in_err-mode_of.was)

pub returns-clause-reads : goal.returns-clause-reads
returns-clause-reads c = λ s rest range same e.
    let rate = c.take_u32-rate.ensures.reads s.rate _ (omega (arith, range.rate)) (e ∙ policy-parts s rest) in
    let service = c.take_u32-service.ensures.reads s.service _ (omega (arith, range.service)) rate.1 in
    let up = c.take_u8-up.ensures.reads s.up _ (omega (arith, range.up)) service.1 in
    let down = c.take_u8-down.ensures.reads s.down _ (omega (arith, range.down)) up.1 in
    let mode = c.take_u8-mode.ensures.reads (mode_code s.mode) _ (mode_code_small s.mode) down.1 in
    let count = c.take_u8-count.ensures.reads (window_count s.windows) _ (window_count_small s.windows range.windows) mode.1 in
    let windows = c.take_shorts.ensures.reads s.windows _ range.windows.three (windows_small s.windows range.windows) count.1 in
    let ration = c.take_u16-ration.ensures.reads s.ration rest (omega (arith, range.ration)) windows.1 in
    let known = c.mode_of.ensures s.mode mode.0 in
    let found : c.in_ok-mode_of.field-0 ≡ s.mode = same_some _ _ _ c.in_ok-mode_of.was known in (
      λ i. Some (record {
        geometry = sym same i;
        mode = found i;
        rate = rate.0 i;
        service = service.0 i;
        up = up.0 i;
        down = down.0 i;
        windows = windows.0 i;
        ration = ration.0 i;
        burst = 0;
        period = 0;
        spinning_mj = 0;
        parked_mj = 0;
        spinup_mj = 0;
      }),
      ration.1,
    )
