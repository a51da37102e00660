use Rattle.paraid_record.proofs.OneSpelling.{meta_bytes-cancel, targets_bytes-cancel}
use Rattle.paraid_record.proofs.laws.spellings_differ.Goals as goal

pub returns : goal.returns
returns c = record { metas = meta_bytes-cancel; targets = targets_bytes-cancel }
