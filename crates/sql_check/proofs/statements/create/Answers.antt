use Rattle.std.proofs.Common.{[], ◌∷◌, IfOk, ap, subst, sym, ◌∙◌}
use Rattle.std.specs.Prelude.{zip}
use Rattle.sql_tree.specs.View.{query_tree}
use Rattle.sql_check_parts.specs.Rules.{broken, least}
use Rattle.sql_check_parts.specs.Told.{distinct_columns}
use Rattle.sql_check_parts.specs.declared.rules.SqlRule.TheVariants as rule
use Rattle.sql_check.specs.Answers.{IsSettled, given_view}
use Rattle.sql_check.proofs.Settled.{create_may, create_step}
use Rattle.sql_check.proofs.statements.create.Goals as goal

pub settle-requires : goal.settle-requires
settle-requires c n =
    let typed = c.in_ok-typed.typed in
    let taken = c.least_broken-taken.ensures ∙ ap (λ b. least (broken ((rule.MisnamedTable, b) ∷ []))) c.has.ensures in
    let columns = c.in_ok-columns.ensures ∙ ap distinct_columns (ap (λ ns. zip ns c.as_slice-2.result.now) c.as_slice.ensures ∙ ap (zip typed.names) c.as_slice-2.ensures) in
    create_may c.args.profile.now c.args.given.now.tables c.args.create.now.name (query_tree c.args.create.now.query) typed c.least_broken-taken.result c.in_ok-columns.columns c.in_ok-typed.ensures taken columns (sym c.lesser.ensures ∙ n)

pub returns : goal.returns
returns c =
    let before = given_view c.args.given.now in
    let now = given_view c.settle.new.given in
    let name = c.args.create.now.name in
    let typed = c.in_ok-typed.typed in
    let taken = c.least_broken-taken.ensures ∙ ap (λ b. least (broken ((rule.MisnamedTable, b) ∷ []))) c.has.ensures in
    let columns = c.in_ok-columns.ensures ∙ ap distinct_columns (ap (λ ns. zip ns c.as_slice-2.result.now) c.as_slice.ensures ∙ ap (zip typed.names) c.as_slice-2.ensures) in
    create_step c.args.profile.now before now name (query_tree c.args.create.now.query) typed c.least_broken-taken.result c.in_ok-columns.columns c.settle.result c.in_ok-typed.ensures taken columns
    (subst (λ f. IfOk c.settle.result (IsSettled before now name c.in_ok-columns.columns f)) c.lesser.ensures c.settle.ensures)
