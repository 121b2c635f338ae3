use Rattle.std.proofs.Common.{◌≡◌, ◌∙◌, IfSome, List, ap, subst, sym}
use Rattle.vtl_index.specs.declared.row_keys.NullKeys.TheVariants.{NotFound}
use Rattle.vtl_rows.specs.Tables.{Listed, listed}
use Rattle.sql_eval.specs.Origins.{rows_at}
use Rattle.sql_eval.specs.declared.resolved.Tie.{Tie}
use Rattle.sql_from.specs.KeyPartners.{AreTiedAs}
use Rattle.sql_from.specs.Held.{rows_held}
use Rattle.sql_from.specs.Keys.{asked_columns, own_columns}
use Rattle.sql_from.specs.declared.key_index.KeyIndex.{KeyIndex}
use Rattle.sql_from.proofs.KeyFound.{key_answers}
use Rattle.sql_from.proofs.key_index.KeyIndex.of.Goals as goal

pub returns-in_ok-index-in-Some-2 : goal.returns-in_ok-index-in-Some-2
returns-in_ok-index-in-Some-2 g c =
    let own = listed c.table.result.now in
    let keys = c.in-Some-2.keys.items in
    let x : KeyIndex = record { test = c.args.test; asked = c.in_ok-asked-in-Some-2.asked; index = c.in_ok-index-in-Some-2.index } in
    let asked : c.in-Some.own.now.rows ≡ rows_at (rows_held c.args.held.now) c.args.test.now.table =
    subst (λ o. IfSome o (λ t. t.now.rows ≡ rows_at (rows_held c.args.held.now) c.args.test.now.table)) c.in-Some.is c.found.ensures in
    let own_rows : rows_at (rows_held c.args.held.now) c.args.test.now.table ≡ own.rows = sym asked ∙ ap (λ (u : Listed). u.rows) (sym c.table.ensures) in
    let tied : AreTiedAs c.deref.result.now keys = subst (λ o. IfSome o (λ v. AreTiedAs c.deref.result.now v.items)) c.in-Some-2.is c.in_ok-keys.ensures in
    let indexed : x.index ≡ record { rows = own.rows; key = own_columns keys; nulls = NotFound; p = c.args.p.now } =
    c.in_ok-index-in-Some-2.ensures.value ∙ (λ i. record { rows = own.rows; key = (c.in_ok-columns-in-Some-2.ensures ∙ ap own_columns c.deref-in-Some-2.ensures.value) i; nulls = NotFound; p = c.args.p.now }) in
    key_answers c.args.p.now c.args.held.now x own keys c.requires own_rows
    (subst (λ (ts : List Tie). AreTiedAs ts keys) c.deref.ensures.value tied)
    (c.in_ok-asked-in-Some-2.ensures ∙ ap asked_columns c.deref-in-Some-2-2.ensures.value) indexed
