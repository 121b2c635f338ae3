use Rattle.std.proofs.Common.{◌++◌, ◌∙◌, ap, string_bytes}
use Rattle.vtl_lexer.specs.Pieces.{IsCutOf}
use Rattle.vtl_format.specs.Form.{lexemes_at}
use Rattle.vtl_format.specs.Layout.{depth_behind, gap_behind}
use Rattle.vtl_format.proofs.Lists.{all-front, first-written, nothing-written}
use Rattle.vtl_format.proofs.layout.write_first.Goals as goal

pub returns-in_default-clause-written : goal.returns-in_default-clause-written
returns-in_default-clause-written c = nothing-written c.args.style c.args.depth c.args.text.now (string_bytes c.args.out.now) c.args.tokens.now c.in_default.ensures.cases

pub write_range-requires : goal.write_range-requires
write_range-requires c = (all-front (IsCutOf c.args.text.now) c.args.tokens.now c.in-Some.token.now c.in-Some.rest.now c.in-Some.ensures.cases.0 c.requires.cut).0

pub returns-clause-written : goal.returns-clause-written
returns-clause-written c =
    let text = c.args.text.now in
    let token = c.in-Some.token.now in
    let rest = c.in-Some.rest.now in
    let behind = gap_behind c.args.style (depth_behind c.args.depth token.kind) token.kind (lexemes_at text rest) in
    let gap = c.in_ok-write_gap_behind.ensures text ∙ ap (λ n. string_bytes c.write_range.new.out ++ gap_behind c.args.style n token.kind (lexemes_at text rest)) c.depth_behind-next.ensures in
    rw c.depth_behind-next.ensures
    (first-written c.args.style c.args.depth text (string_bytes c.args.out.now) (string_bytes c.write_gap_behind.new.out) c.args.tokens.now token rest c.in-Some.ensures.cases.0
    (gap ∙ ap (λ l. l ++ behind) c.in_ok-write_range.ensures))
