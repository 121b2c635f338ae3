use Rattle.std.proofs.Common.{subst, sym}
use Rattle.vtl_tree.specs.Environment.{DataSet}
use Rattle.vtl_meaning.specs.Made.{IsChoice}
use Rattle.vtl_interp.specs.Values.{value_view}
use Rattle.vtl_interp.proofs.combinations.choose.Goals as goal

pub choose-requires : goal.choose-requires
choose-requires c =
    subst (λ (d : DataSet). IsChoice d.structure c.data-2.result.now.structure c.data-3.result.now.structure c.args.made.now) (sym c.data.ensures)
    (subst (λ (d : DataSet). IsChoice (value_view c.args.condition).structure d.structure c.data-3.result.now.structure c.args.made.now) (sym c.data-2.ensures)
    (subst (λ (d : DataSet). IsChoice (value_view c.args.condition).structure (value_view c.args.a).structure d.structure c.args.made.now) (sym c.data-3.ensures) c.requires))
