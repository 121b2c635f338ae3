use Rattle.vtl_tuples.proofs.Fills.{filled_more, led_more}
use Rattle.vtl_tuples.proofs.Folds.{crossed_each, matched_each}
use Rattle.vtl_tuples.proofs.laws.tuples_grow.Goals as goal

pub returns-clause-matching : goal.returns-clause-matching
returns-clause-matching g c = λ agree xss. matched_each agree xss

pub returns-clause-combinations : goal.returns-clause-combinations
returns-clause-combinations g c = λ xss. crossed_each xss

pub returns-clause-led : goal.returns-clause-led
returns-clause-led g c = λ find lead os o xs own. led_more find lead os o xs own

pub returns-clause-filled : goal.returns-clause-filled
returns-clause-filled g c = λ same key xss xs tells apart. filled_more same tells.is tells.self key xss xs apart
