use Rattle.std.proofs.Common.{◌++◌, ap}
use Rattle.vtl_lexer.specs.Parts.{comments_of}
use Rattle.vtl_lexer.proofs.PartLemmas.{all-taken, comment-taken, token-passed}
use Rattle.vtl_lexer.proofs.parts.comments_of.Goals as goal
use Rattle.vtl_lexer.proofs.parts.comments_of.Goals.{in-Comment+in_ok-push, in_default}

pub loop-part-init : goal.loop-part-init
loop-part-init c = ap (λ l. l ++ comments_of c.args.parts.now) c.new-comments.ensures.items

pub loop-part-preserved : goal.loop-part-preserved
loop-part-preserved c =
    let parts = c.args.parts.now in
    let i = c.loop-part.part-index in
    let so_far = c.loop-part.comments.items in
    elim c.match-part.branch [
      | in-Comment+in_ok-push w ↦
          rw (w.comments-is, w.in_ok-push.ensures.items)
          (comment-taken parts i c.part-item.result w.in-Comment.comment so_far c.loop-part-test.true c.part-item.is w.in-Comment.is c.loop-part.invariant)
      | in_default w ↦ rw w.comments-is (token-passed parts i c.part-item.result w.in_default.field-0 so_far c.loop-part-test.true c.part-item.is w.in_default.is c.loop-part.invariant)
    ]

pub returns : goal.returns
returns c = all-taken c.args.parts.now c.loop-part.part-index c.loop-part.comments.items c.loop-part-test.false c.loop-part.invariant
