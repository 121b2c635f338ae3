-- The tables of time operators, and those that the program makes.
use Rattle.std.proofs.Common.{◌≡◌, ◌≤◌, ℕ, List, [], ◌∷◌, ◌++◌, length, length-append, map, ap, sym, ◌∙◌, subst, arith, rules}
use Rattle.std.specs.Prelude.{Box}
use Rattle.std.specs.declared.alloc.Global.{Global}
use Rattle.vtl_decimal.specs.Settings.{Settings}
use Rattle.vtl_tree.specs.NodeView.{form_tree, node_tree}
use Rattle.vtl_tree.specs.Trees as nodes
use Rattle.vtl_tree.specs.Trees.{FormTree, structure_of}
use Rattle.vtl_tree.specs.declared.calls.TimeOp.{TimeOp}
use Rattle.vtl_tree.specs.declared.calls.TimeOp.TheVariants as op
use Rattle.vtl_tree.specs.declared.nodes.Node.{Node}
use Rattle.vtl_tree.specs.declared.nodes.NodeForm as forms
use Rattle.vtl_tree.specs.declared.nodes.NodeForm.{NodeForm}
use Rattle.vtl_tree.specs.declared.nodes.NodeForm.TheVariants as form
use Rattle.vtl_tree.specs.declared.structure.Structure.{Structure}
use Rattle.sql_tree.specs.Trees.{StatementTree, Text}
use Rattle.selects_to_sql.specs.Tables.{Sources, by_name, create_for, with_one, with_two}
use Rattle.joins_to_sql.proofs.JoinTables.{GivesRest}
use Rattle.times_to_sql.specs.Fills.{fill_query}
use Rattle.times_to_sql.specs.Flows.{flow_query, parts_of, previous_value, stock_query, total}
use Rattle.times_to_sql.specs.Shifts.{shift_query}
use Rattle.times_to_sql.specs.TimeTables.{fill_keys_of, time_made}
use Rattle.vtl_to_sql.specs.Tables.{made_of_form, sources_of}
use Rattle.vtl_to_sql.proofs.RuledNodes.{alone_rest, over_rest}

-- ---- behind the tables of an operand

-- there are those, and others behind them
pub time_first : (p : Settings) (r : Text) (o : TimeOp) (a s : Structure) (os : Sources) → length os.tables ≤ length (time_made p r o a s os).tables
time_first p r (op.Shift n) a s os = omega arith
time_first p r (op.Fill f) a s os = omega (arith, length-append os.tables (fill_keys_of r f a os.names os.next).tables)
time_first p r op.FlowToStock a s os = omega (arith, length-append os.tables (parts_of p r total a s os.names os.next).tables)
time_first p r op.StockToFlow a s os = omega (arith, length-append os.tables (parts_of p r previous_value a s os.names os.next).tables)

time_rest : (p : Settings) (r : Text) (o : TimeOp) (a s : Structure) (os : Sources) (x : Text) (k : ℕ) (old done : List StatementTree) → x ∷ [] ≡ os.names → k ≡ os.next → done ≡ old ++ map create_for os.tables → GivesRest (time_made p r o a s os) old done (time_made p r o a s (by_name x k))
time_rest p r (op.Shift n) a s os x k old done names next made = alone_rest (with_one (shift_query p n a)) os x k old done names next made
time_rest p r (op.Fill f) a s os x k old done names next made = over_rest (fill_keys_of r f a) (with_two (λ y keys. fill_query p a s keys y)) os x k old done names next made
time_rest p r op.FlowToStock a s os x k old done names next made = over_rest (parts_of p r total a s) (with_two (stock_query p a s)) os x k old done names next made
time_rest p r op.StockToFlow a s os x k old done names next made = over_rest (parts_of p r previous_value a s) (with_two (flow_query p a s)) os x k old done names next made

-- ---- of a form of the program

tree_of_time : (f : NodeForm) (a : Box Node Global) (o : TimeOp) → f ≡ form.Time a o → form_tree f ≡ nodes.time (node_tree a.value) o
tree_of_time f a o e = ap form_tree e ∙ search (rules, forms.the_lemmas)

-- its operand has this structure and this table
pub timed_gives : (p : Settings) (r : Text) (s b : Structure) (f : NodeForm) (a : Box Node Global) (o : TimeOp) (n : ℕ) (x : Text) (k : ℕ) (old done : List StatementTree) → f ≡ form.Time a o → b ≡ structure_of (node_tree a.value)
    → x ∷ [] ≡ (sources_of p r (node_tree a.value) n).names → k ≡ (sources_of p r (node_tree a.value) n).next → done ≡ old ++ map create_for (sources_of p r (node_tree a.value) n).tables
    → GivesRest (made_of_form p r s (form_tree f) n) old done (time_made p r o b s (by_name x k))
timed_gives p r s b f a o n x k old done is same names next made =
    subst (λ (t : FormTree). GivesRest (made_of_form p r s t n) old done (time_made p r o b s (by_name x k))) (sym (tree_of_time f a o is))
    (subst (λ (z : Structure). GivesRest (time_made p r o (structure_of (node_tree a.value)) s (sources_of p r (node_tree a.value) n)) old done (time_made p r o z s (by_name x k))) (sym same)
    (time_rest p r o (structure_of (node_tree a.value)) s (sources_of p r (node_tree a.value) n) x k old done names next made))
