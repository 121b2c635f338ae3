-- EXISTS at the keys of groups, by a look-up which is made once for a select.
use Rattle.std.specs.Prelude.{◌≡◌, ℕ, ◌==◌, not, List, length}
use Rattle.std.specs.List.{list_all}
use Rattle.vtl_cell.specs.Row.{Row}
use Rattle.vtl_decimal.specs.Settings.{Settings}
use Rattle.vtl_rows.specs.Named.{NamedTables}
use Rattle.vtl_index.specs.RowIndex.{found_rows}
use Rattle.vtl_index.specs.RowKeys.{key_at}
use Rattle.sql_eval.specs.Placed.{has_partner, is_tied}
use Rattle.sql_meaning.specs.Profiles.{IsRowOfProfile}
use Rattle.sql_eval.specs.declared.resolved.Tie.{Tie}
use Rattle.sql_from.specs.Held.{rows_held}
use Rattle.sql_from.specs.Keys.{all_paired, is_paired}
use Rattle.sql_from.specs.declared.key_index.KeyIndex.{KeyIndex}
use Rattle.sql_from.specs.declared.key_pairs.KeyPair.{KeyPair}

-- the tables that the program holds, and the settings of the keys that ask
pub record Asking : Type 0 where
  pub held : NamedTables
  pub settings : Settings

abbrev pub asking_of : NamedTables → Settings → Asking
asking_of held p = record { held = held; settings = p }

-- an equality of EXISTS is that of a pair of columns, of a row of its table and of a key
pub record IsTiedAs (tie : Tie) (k : KeyPair) : Type 0 where
  pub same : (p : Settings) (inner key : Row) → is_tied p key inner tie ≡ is_paired p inner key k

abbrev pub AreTiedAs : List Tie → List KeyPair → Type 0
AreTiedAs ties keys = (p : Settings) (inner key : Row) → list_all (is_tied p key inner) ties ≡ all_paired p inner key keys

-- the rows that are found for a key
abbrev pub found_for : KeyIndex → Row → List ℕ
found_for x key = found_rows x.index (key_at x.index.p x.asked.items key)

-- at each key of the profile a look-up finds whether EXISTS is true
abbrev pub AnswersAt : Asking → KeyIndex → Type 0
AnswersAt a x = (key : Row) → IsRowOfProfile a.settings key → has_partner a.settings (rows_held a.held) x.test.now.table x.test.now.ties.items key ≡ not (length (found_for x key) == 0)
