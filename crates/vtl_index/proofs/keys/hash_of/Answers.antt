use Rattle.std.proofs.Common.{rules}
use Rattle.vtl_index.specs.Keys.{key_hash}
use Rattle.vtl_index.proofs.keys.hash_of.Goals as goal

pub returns : goal.returns
unfolding key_hash
returns c = search rules
