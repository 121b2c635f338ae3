use Rattle.std.proofs.Common.{◌≡◌, ap, subst, sym, ◌∙◌}
use Rattle.std.proofs.lemmas.Result.{IfOk-weaker}
use Rattle.vtl_rows.specs.Tables.{Listed}
use Rattle.vtl_sets.specs.DataSets.{data_set}
use Rattle.vtl_sets.specs.TableOf.{IsTableOf}
use Rattle.vtl_sets.proofs.data_set.DataSet.copy.Goals as goal

pub shared-requires : goal.shared-requires
shared-requires c = subst (λ (t : Listed). IsTableOf c.self.inside.structure t) (sym c.in_ok-share.ensures) c.self.invariant

pub returns : goal.returns
returns c =
    let s = c.self.inside.structure in
    IfOk-weaker c.shared.result (λ d. d ≡ data_set s c.in_ok-share.field-0.rows) (λ d. d ≡ c.args.self.now)
    (λ d e. e ∙ ap (λ (t : Listed). data_set s t.rows) c.in_ok-share.ensures ∙ c.self.view_is) c.shared.ensures
