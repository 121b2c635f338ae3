use Rattle.vtl_csv.proofs.DeclarationLemmas.{cut_ends, cut_goes}
use Rattle.vtl_csv.proofs.declarations.first_part.Goals as goal

pub returns-in-empty-clause-first : goal.returns-in-empty-clause-first
returns-in-empty-clause-first c =
    cut_ends c.args.list.now c.split_at.result.0.now c.split_at.result.1.now c.first_bar.result c.first_bar.ensures.place c.split_at.ensures.front c.split_at.ensures.back c.in-empty.len_below

pub returns-in-len1-up-clause-first : goal.returns-in-len1-up-clause-first
returns-in-len1-up-clause-first c =
    cut_goes c.args.list.now c.split_at.result.0.now c.split_at.result.1.now c.first_bar.result c.first_bar.ensures.place c.split_at.ensures.front c.split_at.ensures.back c.in-len1-up.len_at_least
