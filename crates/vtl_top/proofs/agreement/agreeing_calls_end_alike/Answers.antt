use Rattle.vtl_top.proofs.AgreementCalls.{calls_agree, files_agree, kept_is_printed, statuses_agree}
use Rattle.vtl_top.proofs.AgreementPrinted.{printed_are_twins}
use Rattle.vtl_top.proofs.agreement.agreeing_calls_end_alike.Goals as goal

pub returns-clause-status : goal.returns-clause-status
returns-clause-status g c = λ a b d f u v w x command r e held other status found runs twins first second p q calm still. statuses_agree g.F.Files g.O.Sink a b d f u v w x command r e held other runs twins first second status found p q calm still

pub returns-clause-files : goal.returns-clause-files
returns-clause-files g c = λ a b d f u v w x command r e held other runs twins first second p q. files_agree g.F.Files g.O.Sink a b d f u v w x command r e held other runs twins first second p q

pub returns-clause-kept : goal.returns-clause-kept
returns-clause-kept g c = λ s t a b d f k l u v w x command r e held other status found ends told kept runs first second p q calm still.
    calls_agree g.F.Files g.O.Sink a b d f u v w x command r e held other runs (printed_are_twins r e held other (kept_is_printed g.F.Files g.O.Sink s t k l r e held other ends told kept)) first second status found p q calm still
