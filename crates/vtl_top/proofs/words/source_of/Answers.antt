use Rattle.vtl_top.proofs.WordLemmas.{too_few_for_source}
use Rattle.vtl_top.proofs.words.source_of.Goals as goal

pub returns-in_default : goal.returns-in_default
returns-in_default c = too_few_for_source _ c.args.words.now c.in_default.len_below
