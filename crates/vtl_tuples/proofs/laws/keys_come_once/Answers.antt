use Rattle.vtl_tuples.proofs.Onces.{alike, among_once, once_all, once_already, once_apart}
use Rattle.vtl_tuples.proofs.laws.keys_come_once.Goals as goal

pub returns-clause-apart : goal.returns-clause-apart
returns-clause-apart g c = λ same ks. once_apart same ks

pub returns-clause-all : goal.returns-clause-all
returns-clause-all g c = λ same ks k tells. among_once same (alike same tells) ks k

pub returns-clause-already : goal.returns-clause-already
returns-clause-already g c = λ same ks apart. once_already same ks apart

pub returns-clause-more : goal.returns-clause-more
returns-clause-more g c = λ same ks js tells. once_all same (alike same tells) ks js
