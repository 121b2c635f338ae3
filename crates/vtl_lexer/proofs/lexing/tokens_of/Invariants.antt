-- What was taken goes on as the rest does.
use Rattle.std.proofs.Common.{◌≡◌, ◌++◌, length}
use Rattle.std.specs.Vec.Iter.{into_iter_items, into_iter_len}
use Rattle.vtl_lexer.specs.Parts.{tokens_of}
use Rattle.vtl_lexer.proofs.lexing.tokens_of.Given as goal

abbrev pub invariant-loop-part : goal.invariant-loop-part
invariant-loop-part l = record {
  left : into_iter_len l.part-iterator ≡ length (into_iter_items l.part-iterator);
  came : l.tokens.items ++ tokens_of (into_iter_items l.part-iterator) ≡ tokens_of l.fn.parts.items;
}
