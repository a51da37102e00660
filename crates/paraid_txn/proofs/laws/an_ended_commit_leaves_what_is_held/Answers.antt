use Rattle.paraid_txn.proofs.HeldResumeLemmas.{held_resumes}
use Rattle.paraid_txn.proofs.laws.an_ended_commit_leaves_what_is_held.Goals as goal

pub returns : goal.returns
returns c slots s t x said h lo was down broken held downs weaks images = held_resumes slots s x said h lo was broken.synced broken.log held t down downs weaks images
