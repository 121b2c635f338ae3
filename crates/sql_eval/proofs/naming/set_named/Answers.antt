use Rattle.std.proofs.Common.{◌∙◌, ◌++◌, ◌∷◌, [], ap, sym}
use Rattle.std.specs.Map.{lookup}
use Rattle.std.proofs.lemmas.Result.{on_ok_weaker}
use Rattle.vtl_text.specs.Texts.{same_text}
use Rattle.sql_tree.specs.Trees.{Text}
use Rattle.sql_eval.proofs.SetNamed.{put_behind, set_over}
use Rattle.sql_eval.proofs.naming.set_named.Goals as goal

pub returns-then-has : goal.returns-then-has
returns-then-has g c = λ q. ap (lookup (same_text q)) c.replace-before.ensures.replaced ∙ set_over c.args.name.now q c.args.item c.args.named.now (sym c.has.ensures ∙ c.if-has.true)

pub returns : goal.returns
returns g c =
    let named = c.args.named.now in
    on_ok_weaker c.put.result
    (λ e q. ap (lookup (same_text q)) (e ∙ ap (λ (n : Text). named ++ (n, c.args.item) ∷ []) c.in_ok-share.ensures)
    ∙ put_behind c.args.name.now q c.args.item named (sym c.has.ensures ∙ c.if-has.false)) c.put.ensures.put
