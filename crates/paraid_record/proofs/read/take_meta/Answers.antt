use Rattle.std.specs.Prelude.{◌≡◌, ℕ, ◌++◌, Some}
use Rattle.std.proofs.Common.{ap, sym, subst, ◌∙◌}
use Rattle.paraid_record.specs.declared.meta.Meta.{Meta}
use Rattle.paraid_record.specs.declared.meta.Setup.{Setup}
use Rattle.paraid_record.specs.Codes.{burst_code, period_code}
use Rattle.paraid_record.specs.Range.{IsVersionInRange}
use Rattle.paraid_record.specs.Spelling.{big_endian}
use Rattle.paraid_record.proofs.PartLemmas.{burst_small, energy-parts, figure_small, growth-parts, period_small, same_some}
use Rattle.paraid_record.proofs.read.take_meta.Goals as goal

pub returns : goal.returns
returns c = λ m rest range e.
    let heading = c.take_heading.ensures.reads m.version _ range.version.known e in
    let version : c.in_ok-version.version ≡ m.version = same_some _ _ _ c.in_ok-version.was heading.0 in
    let geometry = c.take_geometry.ensures.reads m.setup.geometry _ heading.1 in
    let same : m.setup.geometry ≡ c.in_ok-geometry.geometry = same_some _ _ _ geometry.0 c.in_ok-geometry.was in
    let policy = c.take_policy.ensures.reads m.setup _ range.setup same geometry.1 in
    let setup : c.in_ok-setup.setup ≡ record m.setup { burst = 0; period = 0; spinning_mj = 0; parked_mj = 0; spinup_mj = 0 } =
    same_some _ _ _ c.in_ok-setup.was policy.0 in
    let state = c.take_state.ensures.reads m _ range policy.1 in
    let meta : c.in_ok-meta.meta ≡ record m { setup = c.in_ok-setup.setup; version = c.in_ok-version.version } =
    same_some _ _ _ c.in_ok-meta.was state.0 in
    let spinning = c.take_u32-meta.ensures.reads m.setup.spinning_mj _ (figure_small _ range.setup.spinning) (state.1 ∙ energy-parts m.setup _) in
    let parked = c.take_u32-meta-2.ensures.reads m.setup.parked_mj _ (figure_small _ range.setup.parked) spinning.1 in
    let spinup = c.take_u32-meta-3.ensures.reads m.setup.spinup_mj _ (figure_small _ range.setup.spinup) parked.1 in
    let known = subst (λ n. IsVersionInRange n m.setup) (sym version) range.version in
    let grown = spinup.1 ∙ growth-parts m.version m.setup rest in
    let ration : c.in_ok-meta.meta.setup.ration ≡ m.setup.ration = ap (λ (x : Meta). x.setup.ration) meta ∙ ap (λ (s : Setup). s.ration) setup in
    let burst = c.take_burst-meta.ensures.reads m.setup _ known (burst_small m.setup range.setup) (sym ration) (grown ∙ ap (λ (n : ℕ). big_endian 2 (burst_code n m.setup) ++ (big_endian 4 (period_code n m.setup) ++ rest)) (sym version)) in
    let period = c.take_period-meta.ensures.reads m.setup rest known (period_small m.setup range.setup) burst.1 in
    let filled_in : Setup → Setup = λ s. record s { burst = m.setup.burst; period = m.setup.period; spinning_mj = m.setup.spinning_mj; parked_mj = m.setup.parked_mj; spinup_mj = m.setup.spinup_mj } in
    (λ i. Some (record (meta i) { setup = record ((meta i).setup) { burst = burst.0 i; period = period.0 i; spinning_mj = spinning.0 i; parked_mj = parked.0 i; spinup_mj = spinup.0 i } }))
    ∙ (λ i. Some (record m { setup = filled_in (setup i); version = version i }))
