-- What was taken goes on as the rest does.
use Rattle.std.proofs.Common.{◌≡◌, ◌++◌, drop}
use Rattle.vtl_lexer.specs.Parts.{comments_of}
use Rattle.vtl_lexer.proofs.parts.comments_of.Given as goal

abbrev pub invariant-loop-part : goal.invariant-loop-part
invariant-loop-part l = l.comments.items ++ comments_of (drop l.part-index l.parts) ≡ comments_of l.parts
