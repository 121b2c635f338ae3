use Rattle.std.proofs.Common.{◌∙◌, ap}
use Rattle.vtl_index.specs.RowIndex.{first_found}
use Rattle.vtl_index.specs.RowKeys.{hash_by, key_of}
use Rattle.vtl_index.proofs.row_index.RowIndex.first_of.Goals as goal

pub first_of-requires-clause-hash : goal.first_of-requires-clause-hash
first_of-requires-clause-hash c = c.hash-hash.ensures ∙ ap (λ hashing. hash_by hashing (key_of c.args.key.now)) c.hashing.ensures

pub returns : goal.returns
returns c = c.first_of.ensures ∙ ap (λ x. first_found x (key_of c.args.key.now)) c.self.view_is
