-- The metas by which a lost disk is marked.
use Rattle.std.specs.Prelude.{ℕ, true, Option, None, Some}
use Rattle.paraid_base.specs.declared.state.Out.TheVariants.{Gone}
use Rattle.paraid_record.specs.declared.meta.Meta.{Meta}
use Rattle.paraid_image.specs.Power.{phase_beside}

-- disk `d` has gone out: a shift down has ended, and nothing is filled
abbrev pub meta_after_loss : Meta → ℕ → Meta
meta_after_loss m d = record m { phase = phase_beside true m.phase; fill = 0; out = Gone d }

-- the meta with epoch `e` that names disk `d` gone
abbrev pub marked_gone : Meta → ℕ → ℕ → Meta
marked_gone m d e = record (meta_after_loss m d) { epoch = e }

-- the meta after a disk was lost, or none
abbrev pub meta_with_lost : Option ℕ → Meta → Meta
meta_with_lost None m = m
meta_with_lost (Some d) m = meta_after_loss m d
