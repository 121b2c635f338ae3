-- Examples of the definitions, each by computation.
use Rattle.std.proofs.Common.{◌≡◌, false, [], ◌∷◌, refl}
use Rattle.vtl_cell.specs.declared.kind.Kind.TheVariants as k
use Rattle.sql_tree.specs.declared.statements.SqlInput.{SqlInput}
use Rattle.sql_check_parts.specs.Statements.{input_columns}

-- INPUT "a" ("b" INTEGER, "a" TEXT, "c" NUMBER) KEY ("a"): its table has "a", "b", "c"
abbrev three : SqlInput
three = record {
  name = 97 ∷ [];
  columns = record { name = 98 ∷ []; kind = k.Int; not_null = false; codes = [] } ∷ record { name = 97 ∷ []; kind = k.Text; not_null = false; codes = [] } ∷ record { name = 99 ∷ []; kind = k.Num; not_null = false; codes = [] } ∷ [];
  key = (97 ∷ []) ∷ [];
}

key_first : input_columns three ≡ (97 ∷ [], k.Text) ∷ (98 ∷ [], k.Int) ∷ (99 ∷ [], k.Num) ∷ []
key_first = refl
