use Rattle.std.proofs.Common.{◌≡◌, [], ◌++◌, ◌∙◌, chars, ap, subst, string_bytes, arith, take, sym}
use Rattle.std.proofs.lemmas.Str.{IsUtf8-string_bytes, chars-append, chars-nil}
use Rattle.std.proofs.lemmas.List.{take_all}
use Rattle.sql_lexer.specs.Writing.{Written, nothing}
use Rattle.sql_print.specs.Gaps.{WrittenAs}
use Rattle.sql_print.proofs.layout.lay_out.Goals as goal

pub loop-i-init : goal.loop-i-init
loop-i-init c formed = subst (Written []) (sym (ap chars c.new-out.ensures.bytes ∙ chars-nil)) nothing

pub returns : goal.returns
returns c =
    let old = string_bytes c.loop-i.out in
    let whole : take c.loop-i.i c.args.tokens.now ≡ c.args.tokens.now = take_all c.loop-i.i c.args.tokens.now (let t = c.loop-i-test.false in omega (arith, t)) in
    (chars old, ap chars c.in_ok-push_str.ensures.bytes ∙ chars-append old c.text.result.now (IsUtf8-string_bytes c.loop-i.out) ∙ ap (λ l. chars old ++ l) c.text.ensures, subst (λ kinds. WrittenAs c.args.tokens.now kinds (chars old)) whole c.loop-i.invariant)
