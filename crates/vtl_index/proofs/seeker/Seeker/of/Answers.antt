use Rattle.std.proofs.Common.{◌∙◌, ap}
use Rattle.vtl_index.specs.RowIndex.{RowLookup}
use Rattle.vtl_index.specs.Seekers.{columns_in}
use Rattle.vtl_index.proofs.KeyForms.{columns_are, made_of_columns}
use Rattle.vtl_index.proofs.Seeking.{same_sought}
use Rattle.vtl_index.proofs.seeker.Seeker.of.Goals as goal

pub invariant_of-result : goal.invariant_of-result
invariant_of-result g c =
    let x = c.in_ok-index.index in
    let key = ap (λ (y : RowLookup). y.key) c.in_ok-index.ensures.value ∙ c.in_ok-key.ensures in (
      ap (λ (y : RowLookup). y.nulls) c.in_ok-index.ensures.value,
      made_of_columns x.key c.args.own.now key,
      made_of_columns c.in_ok-asked.asked.items c.args.asked.now c.in_ok-asked.ensures,
    )

pub returns-clause-value : goal.returns-clause-value
returns-clause-value g c =
    let x = c.in_ok-index.index in
    let key = ap (λ (y : RowLookup). y.key) c.in_ok-index.ensures.value ∙ c.in_ok-key.ensures in
    same_sought (columns_in x.key) c.args.own.now (columns_in c.in_ok-asked.asked.items) c.args.asked.now x.rows c.args.table.now.rows (columns_are x.key c.args.own.now key)
    (columns_are c.in_ok-asked.asked.items c.args.asked.now c.in_ok-asked.ensures) (ap (λ (y : RowLookup). y.rows) c.in_ok-index.ensures.value)
