use Rattle.std.proofs.Common.{◌∙◌, sym}
use Rattle.paraid_serve.proofs.GrowsLemmas.{grows_then}
use Rattle.paraid_sparing.specs.Sparing.{used}
use Rattle.paraid_sparing.proofs.SparedCauseLemmas.{causes_alone, causes_spared}
use Rattle.paraid_sparing.proofs.ServedLemmas.{served_alone, served_spared}
use Rattle.paraid_sparing.proofs.line.answer_line.Goals as goal

pub returns-in-Some-clause-serves : goal.returns-in-Some-clause-serves
returns-in-Some-clause-serves g c p wait k stands keeps =
    let put = c.put_in.ensures in
    let then = c.answer_alone.ensures in
    served_spared _ _ wait p k _ _ _ _ _ _ then.text _ _ _ c.in-Some.disk _ _ _ _ _ put.slots put.setup keeps.left put.line
    (sym (c.due.ensures.due p wait k c.args.pairs.now stands keeps) ∙ c.in-Some.is) (put.turn p stands) then.told then.turn (λ q at. then.keeps q wait (used k) at (put.keeps wait k keeps))

pub returns-in-Some-clause-told : goal.returns-in-Some-clause-told
returns-in-Some-clause-told g c = grows_then _ _ _ c.put_in.ensures.told c.answer_alone.ensures.told

pub returns-in-Some-clause-since : goal.returns-in-Some-clause-since
returns-in-Some-clause-since g c start s = c.answer_alone.ensures.since start (c.put_in.ensures.since start s)

pub returns-in-None-clause-serves : goal.returns-in-None-clause-serves
returns-in-None-clause-serves g c p wait k stands keeps =
    let then = c.answer_alone-in-None.ensures in
    served_alone _ _ wait p k _ _ _ _ _ _ then.text _ _ c.clear.ensures.empty
    (sym (c.due.ensures.due p wait k c.args.pairs.now stands keeps) ∙ c.in-None.is) (then.turn p stands) (λ q at. then.keeps q wait k at keeps)

pub returns-in-Some-clause-causes : goal.returns-in-Some-clause-causes
returns-in-Some-clause-causes g c wait k keeps =
    let put = c.put_in.ensures in
    let then = c.answer_alone.ensures in
    causes_spared wait _ k _ _ _ _ _ _ _ (g.met.A.Serves.shows c.answer_alone.new.array).halt then.text _ c.in-Some.disk _ _ _ (g.met.A.Serves.shows c.args.array.now).halt keeps.left put.line
    (sym (c.due.ensures.shown wait k c.args.pairs.now keeps) ∙ c.in-Some.is) put.cause then.cause (then.stock wait (used k) (put.keeps wait k keeps))

pub returns-in-None-clause-causes : goal.returns-in-None-clause-causes
returns-in-None-clause-causes g c wait k keeps =
    let then = c.answer_alone-in-None.ensures in
    causes_alone wait _ k _ _ _ _ _ _ _ (g.met.A.Serves.shows c.answer_alone-in-None.new.array).halt then.text _ (g.met.A.Serves.shows c.args.array.now).halt c.clear.ensures.empty
    (sym (c.due.ensures.shown wait k c.args.pairs.now keeps) ∙ c.in-None.is) then.cause (then.stock wait k keeps)
