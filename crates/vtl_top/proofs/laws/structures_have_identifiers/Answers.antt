use Rattle.vtl_top.proofs.DeclaredLemmas.{read_has_identifier, read_is_structure}
use Rattle.vtl_top.proofs.laws.structures_have_identifiers.Goals as goal

pub returns : goal.returns
returns c = record { structure = read_is_structure; identifier = read_has_identifier }
