use Rattle.std.proofs.Common.{◌∙◌}
use Rattle.vtl_csv.proofs.SortedCodeLemmas.{searched_texts}
use Rattle.vtl_csv.proofs.file_column.is_among.Goals as goal

pub returns : goal.returns
returns c = c.is_ok.ensures.value ∙ searched_texts c.args.codes.now c.args.text.now c.binary_search.result c.requires c.binary_search.ensures.bound c.binary_search.ensures.position
