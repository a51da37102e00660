use Rattle.std.proofs.Common.{sym, ◌∙◌, ap}
use Rattle.paraid_record.specs.Meta.{meta_bytes}
use Rattle.paraid_record.proofs.OneSpelling.{meta_bytes-cancel}
use Rattle.paraid_recover.proofs.alike.is_same_meta.Goals as goal

pub returns-clause-yes : goal.returns-clause-yes
returns-clause-yes c is =
    meta_bytes-cancel _ _ c.requires.first c.requires.second (sym c.write_meta.ensures ∙ c.is_same_block.ensures.yes is ∙ c.write_meta-2.ensures)

pub returns-clause-no : goal.returns-clause-no
returns-clause-no c is same =
    c.is_same_block.ensures.no is (c.write_meta.ensures ∙ ap meta_bytes same ∙ sym c.write_meta-2.ensures)
