use Rattle.std.proofs.Common.{◌∙◌, ap, length, subst, sym}
use Rattle.std.specs.Option.{unwrap_or}
use Rattle.vtl_index.specs.FirstRows.{FindsFirst}
use Rattle.vtl_index.specs.GroupedRows.{keys_of, lookup_of}
use Rattle.vtl_index.specs.RowKeys.{count_in, key_of}
use Rattle.vtl_index.proofs.Probes.{first_sought}
use Rattle.vtl_index.proofs.firsts.first_of.Goals as goal

pub returns : goal.returns
returns c =
    let x = lookup_of c.args.rows.now in
    let k = key_of c.args.key.now in
    let found : FindsFirst (keys_of (lookup_of c.args.rows.now)) (length c.args.rows.now.table.now.rows) (key_of c.args.key.now) c.find.result =
    subst (λ n. FindsFirst (keys_of x) n k c.find.result) c.keyed.ensures.count (subst (λ keys. FindsFirst keys (count_in c.keyed.result) k c.find.result) c.keyed.ensures.keys c.find.ensures) in
    c.unwrap_or.ensures ∙ ap (unwrap_or c.find.result) c.len-count.ensures.rows ∙ first_sought x k (sym c.is_sought.ensures ∙ c.if-not-is_sought.false) c.find.result found
