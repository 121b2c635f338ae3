use Rattle.std.proofs.Common.{List, subst, sym, ap, ◌∙◌}
use Rattle.vtl_tree.specs.Environment.{DataSet}
use Rattle.vtl_tree.specs.Shown.{shown}
use Rattle.vtl_meaning.specs.Joined.{structures_of}
use Rattle.vtl_meaning.specs.Made.{AreCombined}
use Rattle.vtl_interp.proofs.combinations.intersect.Goals as goal

pub intersect_all-requires : goal.intersect_all-requires
intersect_all-requires c =
    subst (λ (ds : List DataSet). AreCombined (structures_of ds) c.args.made.now) (sym (ap shown c.deref.ensures.value ∙ c.in_ok-sets.ensures)) c.requires
