use Rattle.std.proofs.Common.{◌≡◌, ◌∙◌, ap, List}
use Rattle.std.proofs.lemmas.Result.{IfOk-weaker}
use Rattle.vtl_tree.specs.Environment.{DataSet}
use Rattle.vtl_tree.specs.Shown.{shown}
use Rattle.vtl_sets.specs.DataSets.{data_set}
use Rattle.vtl_meaning.specs.Sets.{intersection_of}
use Rattle.vtl_combine.proofs.OperandLemmas.{first_and_others, others_combined}
use Rattle.vtl_combine.proofs.intersections.intersect_all.Goals as goal

pub intersection_table-requires : goal.intersection_table-requires
intersection_table-requires c = others_combined c.args.operands.now c.index-operands-0.result c.args.made.now c.requires c.index-operands-0.is

pub returns : goal.returns
returns c =
    let s = c.args.made.now in
    IfOk-weaker c.of.result (λ d. d ≡ data_set s c.in_ok-table.table.rows) (λ d. d ≡ data_set s (intersection_of (shown c.args.operands.now) s))
    (λ d e. e ∙ ap (data_set s) (c.in_ok-table.ensures.rows ∙ ap (λ (l : List DataSet). intersection_of l s) (first_and_others c.args.operands.now c.index-operands-0.result s c.requires c.index-operands-0.is))) c.of.ensures
