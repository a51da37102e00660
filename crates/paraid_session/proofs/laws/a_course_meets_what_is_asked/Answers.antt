use Rattle.paraid_session.proofs.CourseLemmas.{course_by}
use Rattle.paraid_session.proofs.laws.a_course_meets_what_is_asked.Goals as goal

pub returns : goal.returns
returns c = course_by
