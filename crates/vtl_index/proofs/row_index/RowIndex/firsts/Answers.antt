use Rattle.std.proofs.Common.{◌≡◌, IfOk, subst}
use Rattle.vtl_index.specs.Matches.{asked_keys, firsts_by}
use Rattle.vtl_index.proofs.row_index.RowIndex.firsts.Goals as goal

pub returns : goal.returns
returns c =
    subst (λ x. IfOk c.firsts_of.result (λ v. v.items ≡ firsts_by x (asked_keys (record { index = x; at = c.args.at.now; asking = c.args.asking.now.rows })) c.args.count)) c.self.view_is c.firsts_of.ensures
