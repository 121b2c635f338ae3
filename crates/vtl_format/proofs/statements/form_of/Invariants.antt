-- What is written goes on as the rest does.
use Rattle.std.proofs.Common.{◌≡◌, ◌++◌, length, string_bytes}
use Rattle.std.specs.List.{AllByRecursion}
use Rattle.std.specs.Vec.Iter.{into_iter_items, into_iter_len}
use Rattle.vtl_lexer.specs.Pieces.{IsCutAt, IsCutOf, pieces_of}
use Rattle.vtl_format.specs.Form.{form_of_pieces, lexemes_at}
use Rattle.vtl_format.specs.Written.{written}
use Rattle.vtl_format.proofs.statements.form_of.Given as goal

abbrev pub invariant-loop-part : goal.invariant-loop-part
invariant-loop-part l = record {
  left : into_iter_len l.part-iterator ≡ length (into_iter_items l.part-iterator);
  cut : AllByRecursion (IsCutAt l.text) (into_iter_items l.part-iterator);
  held : AllByRecursion (IsCutOf l.text) l.held.tokens.items;
  so_far : string_bytes l.out ++ written l.held.inside (lexemes_at l.text l.held.tokens.items) (pieces_of l.text (into_iter_items l.part-iterator)) ≡ form_of_pieces (pieces_of l.text l.fn.parts.items);
}
