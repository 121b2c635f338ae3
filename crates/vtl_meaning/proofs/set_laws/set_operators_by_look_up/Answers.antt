use Rattle.vtl_tree.specs.Structure.{key_width}
use Rattle.vtl_meaning.specs.Joined.{structures_of}
use Rattle.vtl_meaning.specs.Operators.{left_of}
use Rattle.vtl_meaning.specs.Sets.{all_left_of}
use Rattle.vtl_meaning.proofs.SetsKept.{combined_is, first_shown, second_shown, shown_kept}
use Rattle.vtl_meaning.proofs.SetsLooks.{either_only_look, existence_look, intersected_look, reduced_look, shown_look, united_look}
use Rattle.vtl_meaning.proofs.set_laws.set_operators_by_look_up.Goals as goal

pub returns-clause-operand : goal.returns-clause-operand
returns-clause-operand c = shown_look

pub returns-clause-union : goal.returns-clause-union
returns-clause-union c = λ ds s k. united_look (key_width s) (all_left_of ds s) k

pub returns-clause-intersection : goal.returns-clause-intersection
returns-clause-intersection c = λ d es s k i h. intersected_look (key_width s) (left_of d s) (all_left_of es s) k (shown_kept d s (combined_is d.structure (structures_of es) s i) i.operands.0 h).distinct

pub returns-clause-difference : goal.returns-clause-difference
returns-clause-difference c = λ d e s k i h j. reduced_look (key_width s) (left_of d s) (left_of e s) k (first_shown d e s i h j).distinct

pub returns-clause-symmetric_difference : goal.returns-clause-symmetric_difference
returns-clause-symmetric_difference c = λ d e s k i h j. either_only_look (key_width s) (left_of d s) (left_of e s) k (first_shown d e s i h j).distinct (second_shown d e s i h j).distinct

pub returns-clause-existence : goal.returns-clause-existence
returns-clause-existence c = existence_look
