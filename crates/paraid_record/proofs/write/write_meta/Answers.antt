use Rattle.std.proofs.Common.{ap, ◌∙◌, [], ◌∷◌}
use Rattle.paraid_record.specs.Meta.{clock_bytes, count_bytes, energy_bytes, geometry_bytes, growth_bytes, heading_bytes, meta_bytes, policy_bytes, state_bytes}
use Rattle.paraid_record.specs.Spelling.{zero_filled}
use Rattle.paraid_record.proofs.PartLemmas.{pushed-parts}
use Rattle.paraid_record.proofs.write.write_meta.Goals as goal

pub returns : goal.returns
unfolding meta_bytes
returns c =
    let m = c.args.meta.now in
    c.finish.ensures
    ∙ ap (zero_filled 512) (rw (c.put_growth.ensures.value, c.put_energy.ensures.value, c.put_counts.ensures.value, c.put_state.ensures.value, c.put_clocks.ensures.value, c.put_policy.ensures.value, c.put_geometry.ensures.value, c.put_heading.ensures.value, c.new-pen.ensures)
    (pushed-parts [] (heading_bytes m.version ∷ geometry_bytes m.setup.geometry ∷ policy_bytes m.setup ∷ clock_bytes m ∷ state_bytes m ∷ count_bytes m
    ∷ energy_bytes m.setup ∷ growth_bytes m.version m.setup ∷ [])))
