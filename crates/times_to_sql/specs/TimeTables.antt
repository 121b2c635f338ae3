-- The tables of the time operators: a query over the operand's table, and where there are two, the first is in a table of its own.
use Rattle.std.specs.Prelude.{ℕ, List}
use Rattle.vtl_decimal.specs.Settings.{Settings}
use Rattle.vtl_syntax.specs.declared.word_groups.Filling.{Filling}
use Rattle.vtl_tree.specs.declared.calls.TimeOp.{TimeOp}
use Rattle.vtl_tree.specs.declared.calls.TimeOp.TheVariants as op
use Rattle.vtl_tree.specs.declared.structure.Structure.{Structure}
use Rattle.sql_tree.specs.Trees.{Text}
use Rattle.selects_to_sql.specs.Tables.{Made, Sources, and_then, by_names, over, stored, with_one, with_two}
use Rattle.times_to_sql.specs.Fills.{fill_keys_query, fill_query}
use Rattle.times_to_sql.specs.Flows.{flow_made, stock_made}
use Rattle.times_to_sql.specs.Shifts.{shift_query}

-- the identifiers of the points of filled series, in a table of their own
abbrev pub fill_keys_of : (result : Text) → Filling → Structure → List Text → ℕ → Sources
fill_keys_of r f a xs n = stored r (over (by_names xs n) (with_one (fill_keys_query f a)))

abbrev pub fill_made : Settings → (result : Text) → Filling → (a s : Structure) → Sources → Made
fill_made p r f a s os = over (and_then os (fill_keys_of r f a os.names)) (with_two (λ x keys. fill_query p a s keys x))

-- of an operand whose structure is `a` to a result whose structure is `s`
abbrev pub time_made : Settings → (result : Text) → TimeOp → (a s : Structure) → Sources → Made
time_made p r (op.Shift n) a s os = over os (with_one (shift_query p n a))
time_made p r (op.Fill f) a s os = fill_made p r f a s os
time_made p r op.FlowToStock a s os = stock_made p r a s os
time_made p r op.StockToFlow a s os = flow_made p r a s os
