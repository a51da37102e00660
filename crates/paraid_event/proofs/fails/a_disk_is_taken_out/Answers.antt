use Rattle.paraid_event.proofs.FailLemmas.{failed_told}
use Rattle.paraid_event.proofs.fails.a_disk_is_taken_out.Goals as goal

pub returns : goal.returns
returns c told mid told_then k committed marked k_then setup p disk lo lo_then at fit takes below no_out le le_then first marks second =
    failed_told told k committed marked k_then setup p at disk takes below no_out lo lo_then le le_then fit mid told_then first marks second
