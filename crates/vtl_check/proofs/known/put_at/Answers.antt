use Rattle.std.proofs.Common.{◌++◌, ◌∷◌, [], take, ap, ◌∙◌}
use Rattle.vtl_tree.specs.Structures.{has_name}
use Rattle.vtl_check.proofs.KnownLemmas.{new_at, on_ok, one_more}
use Rattle.vtl_check.proofs.known.put_at.Goals as goal

pub put-requires : goal.put-requires
put-requires c =
    let name = c.at.result.0.now in
    ap (has_name name) c.requires.before ∙ new_at c.args.structures.now.sets c.args.i name c.at.result.1.now c.requires.structures c.at.ensures.entry

pub returns : goal.returns
returns c =
    let name = c.at.result.0.now in
    on_ok c.put.result c.put.ensures (λ pushed. pushed
    ∙ ap (λ es. es ++ (name, c.in_ok-shared.shared) ∷ []) c.requires.before
    ∙ ap (λ s. take c.args.i c.args.structures.now.sets ++ (name, s) ∷ []) c.in_ok-shared.ensures
    ∙ one_more c.args.structures.now.sets c.args.i name c.at.result.1.now c.at.ensures.entry)
