use Rattle.vtl_csv.proofs.DeterminedLemmas.{one_answer}
use Rattle.vtl_csv.proofs.input_laws.reading_is_determined.Goals as goal

pub returns : goal.returns
returns c = λ s what a b h k f g. one_answer s what a b h k f g
