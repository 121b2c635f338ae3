use Rattle.std.proofs.Common.{string_bytes, subst}
use Rattle.std.specs.List.{AllByRecursion, slice_range}
use Rattle.std.proofs.lemmas.Result.{IfOk-weaker}
use Rattle.vtl_lexer.specs.Pieces.{IsCutAt, IsCutOf}
use Rattle.vtl_format.specs.Form.{lexemes_at}
use Rattle.vtl_format.proofs.Lists.{comment-written, ok-always}
use Rattle.vtl_format.proofs.statements.take_part.Goals as goal

pub write_comment-requires : goal.write_comment-requires
write_comment-requires c = subst (IsCutAt c.args.text.now) c.in-Comment.is c.requires.part

pub take_token-requires-clause-token : goal.take_token-requires-clause-token
take_token-requires-clause-token c = subst (IsCutAt c.args.text.now) c.in-Token.is c.requires.part

pub returns-in-Comment-clause-held : goal.returns-in-Comment-clause-held
returns-in-Comment-clause-held c = ok-always c.write_comment.result (AllByRecursion (IsCutOf c.args.text.now) c.args.held.now.tokens.items) c.requires.held

pub returns-in-Comment-clause-written : goal.returns-in-Comment-clause-written
returns-in-Comment-clause-written c =
    let text = c.args.text.now in
    let comment = c.in-Comment.comment in
    rw c.in-Comment.is
    (IfOk-weaker c.write_comment.result _ _
    (λ done is. λ pieces. comment-written c.args.held.now.inside (lexemes_at text c.args.held.now.tokens.items) (string_bytes c.args.out.now) (string_bytes c.write_comment.new.out) (slice_range text comment.start comment.end) pieces is)
    c.write_comment.ensures)

pub returns-in-Token-clause-written : goal.returns-in-Token-clause-written
returns-in-Token-clause-written c = rw c.in-Token.is c.take_token.ensures.written
