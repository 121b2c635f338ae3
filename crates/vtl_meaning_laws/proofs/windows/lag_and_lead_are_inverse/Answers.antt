use Rattle.std.specs.Prelude.{map}
use Rattle.std.proofs.Common.{ap, arith, Ok}
use Rattle.std.proofs.lemmas.List.{length-map}
use Rattle.vtl_meaning.specs.Windows.{stand_of}
use Rattle.vtl_meaning_laws.proofs.Stands.{lag_before, lagged, lagged_none, lead_behind, led, led_none}
use Rattle.vtl_meaning_laws.proofs.windows.lag_and_lead_are_inverse.Goals as goal

pub returns-clause-lag : goal.returns-clause-lag
returns-clause-lag c = λ p xs d w at n default r q h k same apart. ap Ok (lagged d w at n default r q h same apart k)

pub returns-clause-lead : goal.returns-clause-lead
returns-clause-lead c = λ p xs d w at n default r q h k same apart. ap Ok (led d w at n default r q h same apart k)

pub returns-clause-own_lag : goal.returns-clause-own_lag
returns-clause-own_lag c = λ p xs d w at default r h k. ap Ok (lagged_none d w at default r h k)

pub returns-clause-own_lead : goal.returns-clause-own_lead
returns-clause-own_lead c = λ p xs d w at default r h k. ap Ok (led_none d w at default r h k)

pub returns-clause-before : goal.returns-clause-before
returns-clause-before c = λ p xs d w at n default r h. ap Ok (lag_before n default (stand_of d w r).place (map at (stand_of d w r).ordered) h)

pub returns-clause-behind : goal.returns-clause-behind
returns-clause-behind c = λ p xs d w at n default r h. ap Ok (lead_behind n default (stand_of d w r).place (map at (stand_of d w r).ordered) (omega (arith, h, length-map (stand_of d w r).ordered at)))
