use Rattle.vtl_top.proofs.AgreementWhole.{engine_agrees, outcome_there, outcomes_agree, run_agrees}
use Rattle.vtl_top.proofs.AgreementPrinted.{printed_are_twins}
use Rattle.vtl_top.proofs.agreement.interpreter_and_sql_agree.Goals as goal

pub returns-clause-engine : goal.returns-clause-engine
returns-clause-engine c = λ r e held other given twins is. engine_agrees r e held other twins given is

pub returns-clause-run : goal.returns-clause-run
returns-clause-run c = λ r e held other found twins is. run_agrees r e held other twins found is

pub returns-clause-outcome : goal.returns-clause-outcome
returns-clause-outcome c = λ r e held other twins. outcome_there r e held other twins

pub returns-clause-outcomes : goal.returns-clause-outcomes
returns-clause-outcomes c = λ r e held other given found twins p q. outcomes_agree r e held other twins given found p q

pub returns-clause-printed : goal.returns-clause-printed
returns-clause-printed c = printed_are_twins
