use Rattle.std.proofs.Common.{◌≡◌, ◌<◌, ℕ, false, get_or, map}
use Rattle.std.specs.Map.{keys_of}
use Rattle.vtl_text.specs.Texts.{same_text}
use Rattle.sql_meaning.specs.Tables.{column_entry}
use Rattle.sql_engine.proofs.orders.place_of.Given as goal

abbrev pub invariant-loop-place : goal.invariant-loop-place
invariant-loop-place l = (k : ℕ) → k < l.place → same_text l.name (get_or (keys_of (map column_entry l.columns)) k l.name) ≡ false
