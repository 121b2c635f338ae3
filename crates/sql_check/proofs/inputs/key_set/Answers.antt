use Rattle.std.proofs.Common.{◌++◌, ◌∷◌, [], ap, sym, ◌∙◌}
use Rattle.std.specs.Map.{keys_of}
use Rattle.sql_check_parts.specs.Scopes.{is_among}
use Rattle.sql_check.proofs.InputColumns.{Names, name_put, name_there}
use Rattle.sql_check.proofs.inputs.key_set.Goals.{then-not-has+in_ok-share+in_ok-put, else-not-has}
use Rattle.sql_check.proofs.inputs.key_set.Goals as goal

pub loop-name-preserved : goal.loop-name-preserved
loop-name-preserved c =
    let names = c.loop-name.names in
    let key = c.args.key.now in
    let i = c.loop-name.name-index in
    let k = c.name-item.result in
    elim c.if-not-has.branch [
      | then-not-has+in_ok-share+in_ok-put w ↦ λ name.
          ap (λ (ns : Names). is_among name (keys_of ns)) (w.names-is ∙ w.in_ok-put.ensures.put ∙ ap (λ n. names ++ (n, tt) ∷ []) w.in_ok-share.ensures)
          ∙ name_put names key i k c.loop-name-test.true c.name-item.is c.loop-name.invariant name
      | else-not-has w ↦ λ name.
          ap (λ (ns : Names). is_among name (keys_of ns)) w.names-is
          ∙ name_there names key i k c.loop-name-test.true c.name-item.is (sym c.has.ensures ∙ w.if-not-has.false) c.loop-name.invariant name
    ]
