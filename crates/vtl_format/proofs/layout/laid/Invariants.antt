-- What is laid out goes on as the rest does.
use Rattle.std.proofs.Common.{◌≡◌, ◌≤◌, ◌++◌, drop, string_bytes}
use Rattle.vtl_format.specs.Form.{lexemes_at}
use Rattle.vtl_format.specs.Layout.{laid}
use Rattle.vtl_format.proofs.layout.laid.Given as goal

abbrev pub invariant-loop-i : goal.invariant-loop-i
invariant-loop-i l = record {
  room : l.depth ≤ l.i;
  so_far : string_bytes l.out ++ laid l.style l.depth (lexemes_at l.text (drop l.i l.tokens)) ≡ laid l.style 0 (lexemes_at l.text l.tokens);
}
