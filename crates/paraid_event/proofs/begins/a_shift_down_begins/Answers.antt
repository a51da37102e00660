use Rattle.paraid_event.proofs.BeginLemmas.{begun_told}
use Rattle.paraid_event.proofs.begins.a_shift_down_begins.Goals as goal

pub returns : goal.returns
returns c told mid told_then k committed begun k_then setup p to lo lo_then at fit begins some lower steady no_out unworn le le_then first marks second =
    begun_told told k committed begun setup p at to begins.marks some steady no_out unworn lo le k_then begins lower lo_then le_then fit mid told_then first marks second
