use Rattle.std.proofs.Common.{arith}
use Rattle.paraid_base.proofs.laws.log_lies_before_map.Goals as goal

pub returns-clause-start : goal.returns-clause-start
returns-clause-start c = omega arith

pub returns-clause-least : goal.returns-clause-least
returns-clause-least c = omega arith

pub returns-clause-most : goal.returns-clause-most
returns-clause-most c = omega arith

pub returns-clause-room : goal.returns-clause-room
returns-clause-room c = omega arith

pub returns-clause-lists : goal.returns-clause-lists
returns-clause-lists c = λ j k low. (omega arith, omega arith)

pub returns-clause-bodies : goal.returns-clause-bodies
returns-clause-bodies c = λ k low. omega arith

pub returns-clause-one_list : goal.returns-clause-one_list
returns-clause-one_list c = λ j k same. omega arith

pub returns-clause-one_body : goal.returns-clause-one_body
returns-clause-one_body c = λ j k same. omega arith

pub returns-clause-map_blocks : goal.returns-clause-map_blocks
returns-clause-map_blocks c = λ j. omega arith
