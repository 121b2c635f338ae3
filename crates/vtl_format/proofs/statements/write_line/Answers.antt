use Rattle.std.proofs.Common.{◌∷◌, ◌++◌, ◌∙◌, [], ap, append_assoc, string_bytes}
use Rattle.std.proofs.lemmas.Result.{IfOk-equal}
use Rattle.vtl_format.proofs.Lists.{pushed}
use Rattle.vtl_format.proofs.statements.write_line.Goals as goal

pub returns : goal.returns
returns c =
    let old = string_bytes c.args.out.now in
    let between = string_bytes c.push_str.new.self in
    let new = string_bytes c.push_str-2.new.self in
    let line = c.args.line.now in
    IfOk-equal c.push_str-2.result new (between ++ 10 ∷ []) (old ++ (line ++ 10 ∷ [])) (pushed c.push_str-2.result between (10 ∷ []) new c.push_str-2.ensures.bytes)
    (ap (λ l. l ++ 10 ∷ []) c.in_ok-push_str.ensures.bytes ∙ append_assoc old line (10 ∷ []))
