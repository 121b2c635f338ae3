use Rattle.std.proofs.Common.{◌≡◌, ◌++◌, IfOk, chars, ap, subst, ◌∙◌}
use Rattle.std.specs.String.{string_bytes}
use Rattle.std.proofs.lemmas.Str.{chars-append}
use Rattle.vtl_text.proofs.operators.concat.Goals as goal

pub returns : goal.returns
returns c =
    let bytes : string_bytes c.push_str-2.new.self ≡ c.args.a.now ++ c.args.b.now =
    c.in_ok-push_str-2.ensures.bytes ∙ ap (λ l. l ++ c.args.b.now) (c.in_ok-push_str.ensures.bytes ∙ ap (λ l. l ++ c.args.a.now) c.in_ok-text.ensures.bytes) in
    let whole = ap chars bytes ∙ chars-append c.args.a.now c.args.b.now c.utf8.a in
    subst (λ v. IfOk c.from_string.result (λ t. t ≡ v)) whole c.from_string.ensures
