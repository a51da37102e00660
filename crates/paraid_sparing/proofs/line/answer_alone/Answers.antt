use Rattle.paraid_sparing.proofs.line.answer_alone.Goals as goal

pub returns-clause-keeps : goal.returns-clause-keeps
returns-clause-keeps g c q wait k stands keeps = c.follow.ensures.keeps q wait k c.answer-answered.new.beside stands keeps

pub returns-clause-stock : goal.returns-clause-stock
returns-clause-stock g c wait k keeps = c.follow.ensures.stock wait k c.answer-answered.new.beside keeps
