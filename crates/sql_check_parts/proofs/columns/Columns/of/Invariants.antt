use Rattle.std.proofs.Common.{◌≡◌, take, true}
use Rattle.std.specs.Prelude.{zip}
use Rattle.vtl_lists.specs.Apart.{all_apart}
use Rattle.vtl_text.specs.Texts.{same_text}
use Rattle.sql_check_parts.proofs.columns.Columns.of.Given as goal

abbrev pub invariant-loop-i : goal.invariant-loop-i
invariant-loop-i l = record {
  listed : l.columns ≡ take l.i (zip l.names l.kinds);
  apart : all_apart same_text (take l.i l.names) ≡ true;
}
