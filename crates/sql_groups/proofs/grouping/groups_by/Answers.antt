use Rattle.std.proofs.Common.{◌∙◌, ap}
use Rattle.std.proofs.lemmas.Result.{IfOk-weaker}
use Rattle.vtl_rows.specs.Tables.{cells_at}
use Rattle.vtl_index.specs.Leads.{leads_of}
use Rattle.sql_groups.specs.Kept.{rows_of}
use Rattle.sql_groups.proofs.KeyLemmas.{leads_stay}
use Rattle.sql_groups.proofs.grouping.groups_by.Goals as goal

pub returns-in-Some : goal.returns-in-Some
returns-in-Some c =
    IfOk-weaker c.by.result _ _ (λ g found. found ∙ ap (leads_of (cells_at c.args.places.now)) c.in-Some.ensures.rows) c.by.ensures

pub returns-in_ok-columns-in-None : goal.returns-in_ok-columns-in-None
returns-in_ok-columns-in-None c =
    let rows = rows_of c.args.rows.now in
    let places = c.args.places.now in
    let columns = c.deref.ensures.value ∙ c.in_ok-columns-in-None.ensures in
    IfOk-weaker c.by-in-None.result _ _ (λ g found. found ∙ (λ n. leads_of (cells_at (columns n)) (c.in_ok-keys-in-None.ensures n)) ∙ leads_stay places rows) c.by-in-None.ensures
