-- The identifiers of rules are texts that a program holds.
use Rattle.std.proofs.Common.{◌<◌, ◌^◌, ℕ, List, Option, Some, None, sym, ap, ◌∙◌}
use Rattle.std.specs.Fmt.{decimal}
use Rattle.std.specs.Option.{IfSome}
use Rattle.std.proofs.lemmas.Fmt.{IsAscii-decimal}
use Rattle.std.proofs.lemmas.Str.{IsUtf8-from_ascii, chars-IsAscii, scalars-chars}
use Rattle.vtl_cell.specs.Held.{IsHeld}
use Rattle.vtl_cell.specs.declared.cell.Cell.TheVariants as c
use Rattle.vtl_tree.specs.Checks.{rule_id}
use lib.Utf8.{scalars}

digits_held : (n : ℕ) → n < 2 ^ 64 → IsHeld (c.Text (decimal n))
digits_held n h =
    let ascii = IsAscii-decimal n h in
    ap scalars (sym (chars-IsAscii (decimal n) ascii)) ∙ scalars-chars (decimal n) (IsUtf8-from_ascii (decimal n) ascii)

pub id_held : (n : ℕ) (name : Option (List ℕ)) → n < 2 ^ 64 → IfSome name (λ text. IsHeld (c.Text text)) → IsHeld (c.Text (rule_id n name))
id_held n None h i = digits_held n h
id_held n (Some text) h i = i
