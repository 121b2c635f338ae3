-- What expressions on data sets are written as in SQL, each by computation. Between tokens stands a space.
use Rattle.std.proofs.Common.{◌≡◌, ℕ, true, false, List, [], ◌∷◌, map, Option, Some, None, refl, sym, ◌∙◌, arith, append-nil, ◌<◌, ◌+◌}
use Rattle.std.specs.Prelude.{codes, pos}
use Rattle.std.specs.Fmt.{decimal}
use Rattle.grammar_forms.specs.Written.{run}
use Rattle.vtl_decimal.proofs.WritingLemmas.{decimal_last}
use Rattle.vtl_decimal.specs.Settings.{Settings}
use Rattle.vtl_decimal.specs.Written.{last_digits, shortest_digits}
use Rattle.vtl_decimal.specs.declared.settings.Rounding.TheVariants.{HalfUp}
use Rattle.vtl_cell.specs.declared.cell.Cell.TheVariants as c
use Rattle.vtl_cell.specs.declared.kind.Kind.TheVariants as k
use Rattle.vtl_cell.specs.declared.operator.AggKind.{AggKind}
use Rattle.vtl_cell.specs.declared.operator.AggKind.TheVariants as agg
use Rattle.vtl_cell.specs.declared.operator.ScalarOp.TheVariants as op
use Rattle.vtl_tree.specs.CompExp.{CompExp, aggregate, call, comp_exp, no_comp_exps}
use Rattle.vtl_tree.specs.declared.expression.AggCall.{AggCall}
use Rattle.vtl_tree.specs.declared.structure.Component.{Component}
use Rattle.vtl_tree.specs.declared.structure.Role.TheVariants as role
use Rattle.vtl_tree.specs.Structure.{columns_of}
use Rattle.vtl_tree.specs.declared.structure.Structure.{Structure}
use Rattle.vtl_tree.specs.Measures.{bool_var, made}
use Rattle.vtl_syntax.specs.declared.word_groups.BasicOut.TheVariants as basic
use Rattle.vtl_syntax.specs.declared.word_groups.CheckOut.TheVariants as out
use Rattle.vtl_syntax.specs.declared.word_groups.Filling.TheVariants as filling
use Rattle.vtl_syntax.specs.declared.word_groups.Retain.TheVariants as retain
use Rattle.vtl_tree.specs.Checks.{error_measures, ruleid}
use Rattle.vtl_tree.specs.Columns.{column_named}
use Rattle.vtl_tree.specs.Pairs.{check_measures}
use Rattle.vtl_scripts.specs.Meaning.{Statement}
use Rattle.vtl_tree.specs.Trees as nodes
use Rattle.vtl_tree.specs.Trees.{AggTree, AnalyticTree, NodeTree, PointRuleTree}
use Rattle.vtl_tree.specs.declared.calls.AnalyticOp.TheVariants as window
use Rattle.vtl_tree.specs.declared.calls.OrderKey.{OrderKey}
use Rattle.vtl_tree.specs.declared.calls.Window.{Window}
use Rattle.vtl_tree.specs.declared.specifications.AggItems.TheVariants as items
use Rattle.sql_lexer.specs.Spelling.{spelled}
use Rattle.sql_tree.specs.Printing.{written_query, written_statement}
use Rattle.sql_tree.specs.Trees.{QueryTree, StatementTree}
use Rattle.sql_tree.specs.declared.word_groups.JoinKind.TheVariants as joining
use Rattle.joins_to_sql.specs.FilteredJoins.{filtered_by}
use Rattle.joins_to_sql.specs.FullJoins.{full_query, key_structure, keys_query, once_query}
use Rattle.groups_to_sql.specs.Grouped.{aggregate_query}
use Rattle.joins_to_sql.specs.Joins.{cross_query, reference_query}
use Rattle.rules_to_sql.specs.CheckQueries.{check_query, imbalance_query}
use Rattle.rules_to_sql.specs.PointQueries.{datapoint_query}
use Rattle.selects_to_sql.specs.Queries as q
use Rattle.vtl_to_sql.specs.Sets as sets
use Rattle.groups_to_sql.specs.Turned as turned
use Rattle.vtl_to_sql.specs.Scripts.{statements_for}
use Rattle.groups_to_sql.specs.Windowed.{analytic_query}
use Rattle.times_to_sql.specs.Fills.{fill_keys_query, fill_query}
use Rattle.times_to_sql.specs.Flows.{flow_query, parts_query, stock_query}
use Rattle.times_to_sql.specs.Shifts.{shift_query}

abbrev scale_six : Settings
scale_six = record { scale = 6; rounding = HalfUp }

abbrev shown : QueryTree → List ℕ
shown x = run (λ t. 32 ∷ spelled t) (written_query x)

-- ---- structures

abbrev of_components : List Component → Structure
of_components xs = record { components = xs }

abbrev area : Component
area = made (codes "area") role.Identifier k.Text

abbrev year : Component
year = made (codes "year") role.Identifier k.Int

abbrev people : Component
people = made (codes "people") role.Measure k.Int

abbrev size : Component
size = made (codes "size") role.Measure k.Int

abbrev counted : Structure
counted = of_components (area ∷ people ∷ [])

abbrev by_year : Structure
by_year = of_components (area ∷ year ∷ people ∷ [])

-- components in another order than the columns
abbrev both : Structure
both = of_components (people ∷ area ∷ size ∷ [])

abbrev answers : Structure
answers = of_components (area ∷ made (codes "bool_var") role.Measure k.Bool ∷ [])

-- ---- expressions

abbrev table : List ℕ
table = codes "A"

abbrev other : List ℕ
other = codes "B"

abbrev number : CompExp
number = column_named (area ∷ people ∷ []) (codes "people")

abbrev doubled : CompExp
doubled = call op.Add k.Int (comp_exp number (comp_exp number no_comp_exps))

abbrev is_there : CompExp
is_there = call op.IsNull k.Bool (comp_exp number no_comp_exps)

-- ---- one operand

abbrev of_one_operand : List (QueryTree × List ℕ)
of_one_operand =
    (q.copy_query scale_six both table, codes " SELECT \"a\" . \"area\" AS \"area\" , \"a\" . \"people\" AS \"people\" , \"a\" . \"size\" AS \"size\" FROM \"A\" AS \"a\"")
    ∷ (q.filter_query scale_six is_there counted table, codes " SELECT \"a\" . \"area\" AS \"area\" , \"a\" . \"people\" AS \"people\" FROM \"A\" AS \"a\" WHERE \"a\" . \"people\" IS NULL")
    ∷ (q.calc_query scale_six (record { role = None; target = codes "size"; value = nodes.scalar doubled } ∷ []) counted both table, codes " SELECT \"a\" . \"area\" AS \"area\" , \"a\" . \"people\" AS \"people\" , \"a\" . \"people\" + \"a\" . \"people\" AS \"size\" FROM \"A\" AS \"a\"")
    ∷ (q.measures_query scale_six (record { op = op.Negate; before = []; after = [] }) both both table, codes " SELECT \"a\" . \"area\" AS \"area\" , - \"a\" . \"people\" AS \"people\" , - \"a\" . \"size\" AS \"size\" FROM \"A\" AS \"a\"")
    ∷ (q.left_query scale_six both (of_components (area ∷ size ∷ [])) table, codes " SELECT \"a\" . \"area\" AS \"area\" , \"a\" . \"size\" AS \"size\" FROM \"A\" AS \"a\"")
    ∷ (q.rename_query scale_six counted (of_components (area ∷ size ∷ [])) table, codes " SELECT \"a\" . \"area\" AS \"area\" , \"a\" . \"people\" AS \"size\" FROM \"A\" AS \"a\"")
    ∷ (q.sub_query scale_six (record { id = codes "area"; value = c.Text (codes "north") } ∷ []) by_year (of_components (year ∷ people ∷ [])) table, codes " SELECT \"a\" . \"year\" AS \"year\" , \"a\" . \"people\" AS \"people\" FROM \"A\" AS \"a\" WHERE \"a\" . \"area\" = 'north'")
    ∷ (turned.unpivot_query scale_six both (of_components (area ∷ made (codes "what") role.Identifier k.Text ∷ made (codes "amount") role.Measure k.Int ∷ [])) table, codes " SELECT \"a\" . \"area\" AS \"area\" , 'people' AS \"what\" , \"a\" . \"people\" AS \"amount\" FROM \"A\" AS \"a\" WHERE \"a\" . \"people\" IS NOT NULL UNION ALL SELECT \"a\" . \"area\" AS \"area\" , 'size' AS \"what\" , \"a\" . \"size\" AS \"amount\" FROM \"A\" AS \"a\" WHERE \"a\" . \"size\" IS NOT NULL")
    ∷ []

of_one_operand_are : map (λ e. shown e.0) of_one_operand ≡ map (λ e. e.1) of_one_operand
of_one_operand_are = refl

-- ---- `pivot`: a column for each code

abbrev what : Component
what = record { name = codes "what"; role = role.Identifier; kind = k.Text; codes = Some (codes "in" ∷ codes "out" ∷ []) }

abbrev of_two_measures : List Component
of_two_measures = made (codes "in") role.Measure k.Int ∷ made (codes "out") role.Measure k.Int ∷ []

abbrev pivoted : List (QueryTree × List ℕ)
pivoted =
    (turned.pivot_query scale_six (codes "what") (codes "people") (of_components (area ∷ what ∷ people ∷ [])) (of_components (area ∷ of_two_measures)) table, codes " SELECT \"a\" . \"area\" AS \"area\" , MAX ( CASE WHEN \"a\" . \"what\" = 'in' THEN \"a\" . \"people\" ELSE NULL END ) AS \"in\" , MAX ( CASE WHEN \"a\" . \"what\" = 'out' THEN \"a\" . \"people\" ELSE NULL END ) AS \"out\" FROM \"A\" AS \"a\" GROUP BY \"a\" . \"area\"")
    ∷ (turned.pivot_query scale_six (codes "what") (codes "people") (of_components (what ∷ people ∷ [])) (of_components of_two_measures) table, codes " SELECT MAX ( CASE WHEN \"a\" . \"what\" = 'in' THEN \"a\" . \"people\" ELSE NULL END ) AS \"in\" , MAX ( CASE WHEN \"a\" . \"what\" = 'out' THEN \"a\" . \"people\" ELSE NULL END ) AS \"out\" FROM \"A\" AS \"a\" HAVING MIN ( TRUE )")
    ∷ []

pivoted_are : map (λ e. shown e.0) pivoted ≡ map (λ e. e.1) pivoted
pivoted_are = refl

-- ---- aggregates: without grouping there is no group where there is no row

abbrev total : Component
total = made (codes "total") role.Measure k.Int

abbrev of_people : AggKind → AggCall
of_people f = record { kind = f; component = Some (codes "people") }

abbrev do_differ : CompExp
do_differ = call op.Greater k.Bool (comp_exp (aggregate (of_people agg.Max) k.Int) (comp_exp (aggregate (of_people agg.Min) k.Int) no_comp_exps))

abbrev totals : (names : List (List ℕ)) → Option CompExp → AggTree
totals names having = record { items = items.Targets (record { role = None; target = codes "total"; call = of_people agg.Sum } ∷ []); grouping = names; having = having }

abbrev aggregated : List (QueryTree × List ℕ)
aggregated =
    (aggregate_query scale_six (record { items = items.Measures agg.Max; grouping = codes "area" ∷ []; having = None }) by_year counted table, codes " SELECT \"a\" . \"area\" AS \"area\" , MAX ( \"a\" . \"people\" ) AS \"people\" FROM \"A\" AS \"a\" GROUP BY \"a\" . \"area\"")
    ∷ (aggregate_query scale_six (record { items = items.Measures agg.Count; grouping = []; having = None }) by_year (of_components (made (codes "int_var") role.Measure k.Int ∷ [])) table, codes " SELECT COUNT ( * ) AS \"int_var\" FROM \"A\" AS \"a\" HAVING MIN ( TRUE )")
    ∷ (aggregate_query scale_six (totals (codes "area" ∷ []) (Some do_differ)) by_year (of_components (area ∷ total ∷ [])) table, codes " SELECT \"a\" . \"area\" AS \"area\" , SUM ( \"a\" . \"people\" ) AS \"total\" FROM \"A\" AS \"a\" GROUP BY \"a\" . \"area\" HAVING MAX ( \"a\" . \"people\" ) > MIN ( \"a\" . \"people\" )")
    ∷ (aggregate_query scale_six (totals [] (Some do_differ)) by_year (of_components (total ∷ [])) table, codes " SELECT SUM ( \"a\" . \"people\" ) AS \"total\" FROM \"A\" AS \"a\" HAVING CASE WHEN MIN ( TRUE ) THEN MAX ( \"a\" . \"people\" ) > MIN ( \"a\" . \"people\" ) ELSE FALSE END")
    ∷ []

aggregated_are : map (λ e. shown e.0) aggregated ≡ map (λ e. e.1) aggregated
aggregated_are = refl

-- ---- analytic operators: the frame is always written, and identifiers that are not listed stand behind the keys where the order is seen

abbrev over : (partition : List (List ℕ)) → List OrderKey → Window
over partition order = record { partition = partition; order = order; frame = None }

abbrev latest_first : OrderKey
latest_first = record { component = codes "year"; falling = true }

abbrev most_first : OrderKey
most_first = record { component = codes "people"; falling = true }

abbrev place : Component
place = made (codes "place") role.Measure k.Int

-- `calc place := rank(over (order by people desc))`
abbrev ranked : AnalyticTree
ranked = nodes.of_items (record { role = None; target = codes "place"; value = nodes.analytic (record { op = window.Rank; component = None; window = over [] (most_first ∷ []) }) } ∷ [])

abbrev windowed : List (QueryTree × List ℕ)
windowed =
    (analytic_query scale_six (nodes.of_measures window.Sum (over (codes "area" ∷ []) (latest_first ∷ []))) by_year by_year table, codes " SELECT \"a\" . \"area\" AS \"area\" , \"a\" . \"year\" AS \"year\" , SUM ( \"a\" . \"people\" ) OVER ( PARTITION BY \"a\" . \"area\" ORDER BY \"a\" . \"year\" DESC ROWS BETWEEN UNBOUNDED PRECEDING AND CURRENT ROW ) AS \"people\" FROM \"A\" AS \"a\"")
    ∷ (analytic_query scale_six (nodes.of_measures window.LastValue (over (codes "area" ∷ []) [])) by_year by_year table, codes " SELECT \"a\" . \"area\" AS \"area\" , \"a\" . \"year\" AS \"year\" , LAST_VALUE ( \"a\" . \"people\" ) OVER ( PARTITION BY \"a\" . \"area\" ORDER BY \"a\" . \"year\" ROWS BETWEEN UNBOUNDED PRECEDING AND UNBOUNDED FOLLOWING ) AS \"people\" FROM \"A\" AS \"a\"")
    ∷ (analytic_query scale_six (nodes.of_measures window.RatioToReport (over (codes "area" ∷ []) [])) by_year (of_components (area ∷ year ∷ made (codes "people") role.Measure k.Num ∷ [])) table, codes " SELECT \"a\" . \"area\" AS \"area\" , \"a\" . \"year\" AS \"year\" , RATIO_TO_REPORT ( \"a\" . \"people\" ) OVER ( PARTITION BY \"a\" . \"area\" ) AS \"people\" FROM \"A\" AS \"a\"")
    ∷ (analytic_query scale_six ranked by_year (of_components (area ∷ year ∷ people ∷ place ∷ [])) table, codes " SELECT \"a\" . \"area\" AS \"area\" , \"a\" . \"year\" AS \"year\" , \"a\" . \"people\" AS \"people\" , RANK ( ) OVER ( ORDER BY \"a\" . \"people\" DESC ) AS \"place\" FROM \"A\" AS \"a\"")
    ∷ []

windowed_are : map (λ e. shown e.0) windowed ≡ map (λ e. e.1) windowed
windowed_are = refl

-- ---- two and three operands; of a pair the operand with all identifiers stands first

abbrev of_operands : List (QueryTree × List ℕ)
of_operands =
    (q.pair_query scale_six op.Subtract by_year counted by_year table other, codes " SELECT \"a\" . \"area\" AS \"area\" , \"a\" . \"year\" AS \"year\" , \"a\" . \"people\" - \"b\" . \"people\" AS \"people\" FROM \"A\" AS \"a\" INNER JOIN \"B\" AS \"b\" ON \"b\" . \"area\" = \"a\" . \"area\"")
    ∷ (q.pair_query scale_six op.Subtract counted by_year by_year table other, codes " SELECT \"a\" . \"area\" AS \"area\" , \"a\" . \"year\" AS \"year\" , \"b\" . \"people\" - \"a\" . \"people\" AS \"people\" FROM \"B\" AS \"a\" INNER JOIN \"A\" AS \"b\" ON \"b\" . \"area\" = \"a\" . \"area\"")
    ∷ (q.choose_query scale_six answers counted counted counted (codes "T") table other, codes " SELECT \"a\" . \"area\" AS \"area\" , \"b\" . \"people\" AS \"people\" FROM \"T\" AS \"a\" INNER JOIN \"A\" AS \"b\" ON \"b\" . \"area\" = \"a\" . \"area\" WHERE \"a\" . \"bool_var\" UNION ALL SELECT \"a\" . \"area\" AS \"area\" , \"b\" . \"people\" AS \"people\" FROM \"T\" AS \"a\" INNER JOIN \"B\" AS \"b\" ON \"b\" . \"area\" = \"a\" . \"area\" WHERE CASE WHEN \"a\" . \"bool_var\" THEN FALSE ELSE TRUE END")
    ∷ (sets.union_query scale_six counted counted counted table other, codes " SELECT \"a\" . \"area\" AS \"area\" , \"a\" . \"people\" AS \"people\" FROM \"A\" AS \"a\" UNION ALL SELECT \"a\" . \"area\" AS \"area\" , \"a\" . \"people\" AS \"people\" FROM \"B\" AS \"a\" WHERE NOT EXISTS ( SELECT 1 FROM \"A\" AS \"b\" WHERE \"b\" . \"area\" = \"a\" . \"area\" )")
    ∷ (sets.intersection_query scale_six counted counted counted table other, codes " SELECT \"a\" . \"area\" AS \"area\" , \"a\" . \"people\" AS \"people\" FROM \"A\" AS \"a\" WHERE EXISTS ( SELECT 1 FROM \"B\" AS \"b\" WHERE \"b\" . \"area\" = \"a\" . \"area\" )")
    ∷ (sets.difference_query scale_six counted counted counted table other, codes " SELECT \"a\" . \"area\" AS \"area\" , \"a\" . \"people\" AS \"people\" FROM \"A\" AS \"a\" WHERE NOT EXISTS ( SELECT 1 FROM \"B\" AS \"b\" WHERE \"b\" . \"area\" = \"a\" . \"area\" )")
    ∷ (sets.existence_query scale_six retain.All by_year counted (of_components (area ∷ year ∷ made (codes "bool_var") role.Measure k.Bool ∷ [])) table other, codes " SELECT \"a\" . \"area\" AS \"area\" , \"a\" . \"year\" AS \"year\" , EXISTS ( SELECT 1 FROM \"B\" AS \"b\" WHERE \"b\" . \"area\" = \"a\" . \"area\" ) AS \"bool_var\" FROM \"A\" AS \"a\"")
    ∷ []

of_operands_are : map (λ e. shown e.0) of_operands ≡ map (λ e. e.1) of_operands
of_operands_are = refl

-- ---- joins: the reference stands first, and the aliases are numbered

abbrev sized : Structure
sized = of_components (area ∷ size ∷ [])

abbrev joined_with : Structure
joined_with = of_components (area ∷ year ∷ size ∷ people ∷ [])

abbrev crossed : Structure
crossed = of_components (made (codes "x'area") role.Identifier k.Text ∷ made (codes "y'area") role.Identifier k.Text ∷ people ∷ size ∷ [])

digit : (n : ℕ) → n < 10 → decimal n ≡ (48 + n) ∷ []
digit n h = sym (append-nil (decimal n)) ∙ decimal_last n [] h

left : shown (reference_query scale_six joining.Left 1 (sized ∷ by_year ∷ []) joined_with (table ∷ other ∷ [])) ≡ codes " SELECT \"a$0\" . \"area\" AS \"area\" , \"a$0\" . \"year\" AS \"year\" , \"a$1\" . \"size\" AS \"size\" , \"a$0\" . \"people\" AS \"people\" FROM \"B\" AS \"a$0\" LEFT JOIN \"A\" AS \"a$1\" ON \"a$1\" . \"area\" = \"a$0\" . \"area\""
left = rw (digit 0 (omega arith), digit 1 (omega arith)) refl

-- with its filter, which asks of the columns that are shown
abbrev crowded : CompExp
crowded = call op.Greater k.Bool (comp_exp (column_named (columns_of joined_with) (codes "people")) (comp_exp (column_named (columns_of joined_with) (codes "size")) no_comp_exps))

filtered : shown (filtered_by scale_six (Some crowded) (reference_query scale_six joining.Left 1 (sized ∷ by_year ∷ []) joined_with (table ∷ other ∷ []))) ≡ codes " SELECT \"a$0\" . \"area\" AS \"area\" , \"a$0\" . \"year\" AS \"year\" , \"a$1\" . \"size\" AS \"size\" , \"a$0\" . \"people\" AS \"people\" FROM \"B\" AS \"a$0\" LEFT JOIN \"A\" AS \"a$1\" ON \"a$1\" . \"area\" = \"a$0\" . \"area\" WHERE \"a$0\" . \"people\" > \"a$1\" . \"size\""
filtered = rw (digit 0 (omega arith), digit 1 (omega arith)) refl

cross : shown (cross_query scale_six (counted ∷ sized ∷ []) crossed (table ∷ other ∷ [])) ≡ codes " SELECT \"a$0\" . \"area\" AS \"x'area\" , \"a$1\" . \"area\" AS \"y'area\" , \"a$0\" . \"people\" AS \"people\" , \"a$1\" . \"size\" AS \"size\" FROM \"A\" AS \"a$0\" CROSS JOIN \"B\" AS \"a$1\""
cross = rw (digit 0 (omega arith), digit 1 (omega arith)) refl

inner : shown (reference_query scale_six joining.Inner 0 (by_year ∷ counted ∷ sized ∷ []) (of_components (area ∷ year ∷ made (codes "x'people") role.Measure k.Int ∷ made (codes "y'people") role.Measure k.Int ∷ size ∷ [])) (table ∷ other ∷ codes "C" ∷ []))
    ≡ codes " SELECT \"a$0\" . \"area\" AS \"area\" , \"a$0\" . \"year\" AS \"year\" , \"a$0\" . \"people\" AS \"x'people\" , \"a$1\" . \"people\" AS \"y'people\" , \"a$2\" . \"size\" AS \"size\" FROM \"A\" AS \"a$0\" INNER JOIN \"B\" AS \"a$1\" ON \"a$1\" . \"area\" = \"a$0\" . \"area\" INNER JOIN \"C\" AS \"a$2\" ON \"a$2\" . \"area\" = \"a$0\" . \"area\""
inner = rw (digit 0 (omega arith), digit 1 (omega arith), digit 2 (omega arith)) refl

-- of a full join: the identifiers of all operands, each tuple of them once, and each operand joined with these
abbrev keys : List (QueryTree × List ℕ)
keys =
    (keys_query scale_six counted (counted ∷ sized ∷ []) (table ∷ other ∷ []), codes " SELECT \"a\" . \"area\" AS \"area\" FROM \"A\" AS \"a\" UNION ALL SELECT \"a\" . \"area\" AS \"area\" FROM \"B\" AS \"a\"")
    ∷ (once_query scale_six (key_structure counted) table, codes " SELECT \"a\" . \"area\" AS \"area\" FROM \"A\" AS \"a\" GROUP BY \"a\" . \"area\"")
    ∷ []

keys_are : map (λ e. shown e.0) keys ≡ map (λ e. e.1) keys
keys_are = refl

full : shown (full_query scale_six counted (counted ∷ sized ∷ []) both (table ∷ other ∷ []) (codes "K")) ≡ codes " SELECT \"a$0\" . \"area\" AS \"area\" , \"a$1\" . \"people\" AS \"people\" , \"a$2\" . \"size\" AS \"size\" FROM \"K\" AS \"a$0\" LEFT JOIN \"A\" AS \"a$1\" ON \"a$1\" . \"area\" = \"a$0\" . \"area\" LEFT JOIN \"B\" AS \"a$2\" ON \"a$2\" . \"area\" = \"a$0\" . \"area\""
full = rw (digit 0 (omega arith), digit 1 (omega arith), digit 2 (omega arith)) refl

-- ---- checks: of values, and by datapoint rules, each of which is a select

abbrev checked : Structure
checked = of_components (area ∷ check_measures)

abbrev shown_false : Structure
shown_false = of_components (area ∷ ruleid ∷ people ∷ error_measures)

abbrev shown_all : Structure
shown_all = of_components (area ∷ ruleid ∷ bool_var ∷ error_measures)

abbrev known : PointRuleTree
known = record { name = Some (codes "known"); antecedent = None; condition = is_there; errorcode = Some (codes "there"); errorlevel = None }

-- without a name, it goes by its number
abbrev still_known : PointRuleTree
still_known = record { name = None; antecedent = Some is_there; condition = is_there; errorcode = None; errorlevel = Some (pos 2) }

false_alone : shown (check_query scale_six (record { errorcode = Some (codes "few"); errorlevel = None; output = basic.Invalid }) answers checked table)
    ≡ codes " SELECT \"a\" . \"area\" AS \"area\" , \"a\" . \"bool_var\" AS \"bool_var\" , CASE WHEN FALSE THEN 0.0 ELSE NULL END AS \"imbalance\" , CASE WHEN NOT \"a\" . \"bool_var\" THEN 'few' ELSE NULL END AS \"errorcode\" , CASE WHEN FALSE THEN 0 ELSE NULL END AS \"errorlevel\" FROM \"A\" AS \"a\" WHERE NOT \"a\" . \"bool_var\""
unfolding shortest_digits last_digits
false_alone = rw (digit 0 (omega arith)) refl

imbalanced : shown (imbalance_query scale_six (record { errorcode = None; errorlevel = Some (pos 2); output = basic.All }) answers counted checked table other)
    ≡ codes " SELECT \"a\" . \"area\" AS \"area\" , \"a\" . \"bool_var\" AS \"bool_var\" , CASE WHEN TRUE THEN \"b\" . \"people\" ELSE 0.0 END AS \"imbalance\" , CASE WHEN FALSE THEN '' ELSE NULL END AS \"errorcode\" , CASE WHEN NOT \"a\" . \"bool_var\" THEN 2 ELSE NULL END AS \"errorlevel\" FROM \"A\" AS \"a\" LEFT JOIN \"B\" AS \"b\" ON \"b\" . \"area\" = \"a\" . \"area\""
unfolding shortest_digits last_digits
imbalanced = rw (digit 0 (omega arith), digit 2 (omega arith)) refl

rules_false : shown (datapoint_query scale_six (known ∷ still_known ∷ []) out.Invalid counted shown_false table)
    ≡ codes " SELECT \"a\" . \"area\" AS \"area\" , 'known' AS \"ruleid\" , \"a\" . \"people\" AS \"people\" , 'there' AS \"errorcode\" , CASE WHEN FALSE THEN 0 ELSE NULL END AS \"errorlevel\" FROM \"A\" AS \"a\" WHERE NOT \"a\" . \"people\" IS NULL UNION ALL SELECT \"a\" . \"area\" AS \"area\" , '2' AS \"ruleid\" , \"a\" . \"people\" AS \"people\" , CASE WHEN FALSE THEN '' ELSE NULL END AS \"errorcode\" , 2 AS \"errorlevel\" FROM \"A\" AS \"a\" WHERE NOT CASE WHEN \"a\" . \"people\" IS NULL THEN \"a\" . \"people\" IS NULL ELSE NOT \"a\" . \"people\" IS NULL END"
rules_false = rw (digit 0 (omega arith), digit 2 (omega arith)) refl

rules_all : shown (datapoint_query scale_six (known ∷ []) out.All counted shown_all table)
    ≡ codes " SELECT \"a\" . \"area\" AS \"area\" , 'known' AS \"ruleid\" , \"a\" . \"people\" IS NULL AS \"bool_var\" , CASE WHEN NOT \"a\" . \"people\" IS NULL THEN 'there' ELSE NULL END AS \"errorcode\" , CASE WHEN FALSE THEN 0 ELSE NULL END AS \"errorlevel\" FROM \"A\" AS \"a\""
rules_all = rw (digit 0 (omega arith)) refl

-- ---- time operators: the points of each frequency are apart, and `fill_time_series` has the rows of series as its keys

abbrev moment : Component
moment = made (codes "when") role.Identifier k.Period

abbrev dated : Structure
dated = of_components (area ∷ moment ∷ people ∷ [])

shifted : shown (shift_query scale_six (pos 2) dated table) ≡ codes " SELECT \"a\" . \"area\" AS \"area\" , PERIOD_SHIFT ( \"a\" . \"when\" , 2 ) AS \"when\" , \"a\" . \"people\" AS \"people\" FROM \"A\" AS \"a\""
shifted = rw (digit 2 (omega arith)) refl

filled : shown (fill_query scale_six dated dated (codes "K") table) ≡ codes " SELECT \"a$0\" . \"area\" AS \"area\" , \"a$0\" . \"when\" AS \"when\" , \"a$1\" . \"people\" AS \"people\" FROM \"K\" AS \"a$0\" LEFT JOIN \"A\" AS \"a$1\" ON \"a$1\" . \"area\" = \"a$0\" . \"area\" AND \"a$1\" . \"when\" = \"a$0\" . \"when\""
filled = rw (digit 0 (omega arith), digit 1 (omega arith)) refl

abbrev timed : List (QueryTree × List ℕ)
timed =
    (fill_keys_query filling.Single dated table, codes " SELECT \"a\" . \"area\" AS \"area\" , \"a\" . \"when\" AS \"when\" FROM SERIES \"A\" ON \"when\" BY ( \"area\" ) SINGLE AS \"a\"")
    ∷ (fill_keys_query filling.All (of_components (moment ∷ people ∷ [])) table, codes " SELECT \"a\" . \"when\" AS \"when\" FROM SERIES \"A\" ON \"when\" ALL AS \"a\"")
    ∷ (parts_query scale_six window.Sum dated dated table, codes " SELECT \"a\" . \"area\" AS \"area\" , \"a\" . \"when\" AS \"when\" , SUM ( \"a\" . \"people\" ) OVER ( PARTITION BY \"a\" . \"area\" ORDER BY \"a\" . \"when\" ROWS BETWEEN UNBOUNDED PRECEDING AND CURRENT ROW ) AS \"people\" FROM \"A\" AS \"a\" WHERE PERIOD_FREQ ( \"a\" . \"when\" ) = 'A' UNION ALL SELECT \"a\" . \"area\" AS \"area\" , \"a\" . \"when\" AS \"when\" , SUM ( \"a\" . \"people\" ) OVER ( PARTITION BY \"a\" . \"area\" ORDER BY \"a\" . \"when\" ROWS BETWEEN UNBOUNDED PRECEDING AND CURRENT ROW ) AS \"people\" FROM \"A\" AS \"a\" WHERE PERIOD_FREQ ( \"a\" . \"when\" ) = 'S' UNION ALL SELECT \"a\" . \"area\" AS \"area\" , \"a\" . \"when\" AS \"when\" , SUM ( \"a\" . \"people\" ) OVER ( PARTITION BY \"a\" . \"area\" ORDER BY \"a\" . \"when\" ROWS BETWEEN UNBOUNDED PRECEDING AND CURRENT ROW ) AS \"people\" FROM \"A\" AS \"a\" WHERE PERIOD_FREQ ( \"a\" . \"when\" ) = 'Q' UNION ALL SELECT \"a\" . \"area\" AS \"area\" , \"a\" . \"when\" AS \"when\" , SUM ( \"a\" . \"people\" ) OVER ( PARTITION BY \"a\" . \"area\" ORDER BY \"a\" . \"when\" ROWS BETWEEN UNBOUNDED PRECEDING AND CURRENT ROW ) AS \"people\" FROM \"A\" AS \"a\" WHERE PERIOD_FREQ ( \"a\" . \"when\" ) = 'M'")
    ∷ (stock_query scale_six dated dated table (codes "P"), codes " SELECT \"a\" . \"area\" AS \"area\" , \"a\" . \"when\" AS \"when\" , CASE WHEN \"a\" . \"people\" IS NULL THEN NULL ELSE \"b\" . \"people\" END AS \"people\" FROM \"A\" AS \"a\" INNER JOIN \"P\" AS \"b\" ON \"b\" . \"area\" = \"a\" . \"area\" AND \"b\" . \"when\" = \"a\" . \"when\"")
    ∷ (flow_query scale_six dated dated table (codes "P"), codes " SELECT \"a\" . \"area\" AS \"area\" , \"a\" . \"when\" AS \"when\" , \"a\" . \"people\" - \"b\" . \"people\" AS \"people\" FROM \"A\" AS \"a\" INNER JOIN \"P\" AS \"b\" ON \"b\" . \"area\" = \"a\" . \"area\" AND \"b\" . \"when\" = \"a\" . \"when\"")
    ∷ []

timed_are : map (λ e. shown e.0) timed ≡ map (λ e. e.1) timed
timed_are = refl

-- ---- data sets without identifiers, which have one point at most

abbrev alone : Structure
alone = of_components (people ∷ [])

abbrev without_identifiers : List (QueryTree × List ℕ)
without_identifiers =
    (q.pair_query scale_six op.Add alone alone alone table other, codes " SELECT \"a\" . \"people\" + \"b\" . \"people\" AS \"people\" FROM \"A\" AS \"a\" INNER JOIN \"B\" AS \"b\" ON TRUE")
    ∷ (sets.difference_query scale_six alone alone alone table other, codes " SELECT \"a\" . \"people\" AS \"people\" FROM \"A\" AS \"a\" WHERE NOT EXISTS ( SELECT 1 FROM \"B\" AS \"b\" )")
    ∷ (keys_query scale_six alone (alone ∷ []) (table ∷ []), codes " SELECT TRUE AS \"there\" FROM \"A\" AS \"a\"")
    ∷ (once_query scale_six (key_structure alone) (codes "R$1"), codes " SELECT \"a\" . \"there\" AS \"there\" FROM \"R$1\" AS \"a\" GROUP BY \"a\" . \"there\"")
    ∷ []

without_identifiers_are : map (λ e. shown e.0) without_identifiers ≡ map (λ e. e.1) without_identifiers
without_identifiers_are = refl

-- ---- a script: an input whose measure is never null, a result that is not written, and then a union of three, of which the first two are a
-- table of their own

abbrev node_named : List ℕ → NodeTree
node_named x = nodes.node counted (nodes.named x)

abbrev missing : Statement
missing = record { result = codes "M"; persistent = false; node = nodes.node counted (nodes.filter (node_named (codes "A")) is_there) }

abbrev all : Statement
all = record {
  result = codes "R";
  persistent = true;
  node = nodes.node counted (nodes.union (nodes.and_node (node_named (codes "M")) (nodes.and_node (node_named (codes "B")) (nodes.and_node (node_named (codes "C")) nodes.no_nodes))));
}

abbrev statements : List StatementTree
statements = statements_for scale_six ((codes "B", codes "people" ∷ []) ∷ []) (map (λ x. (x, counted)) (codes "A" ∷ codes "B" ∷ codes "C" ∷ [])) (missing ∷ all ∷ [])

abbrev wanted : List (List ℕ)
wanted =
    codes " INPUT \"A\" ( \"area\" TEXT , \"people\" INTEGER ) KEY ( \"area\" ) ;"
    ∷ codes " INPUT \"B\" ( \"area\" TEXT , \"people\" INTEGER NOT NULL ) KEY ( \"area\" ) ;"
    ∷ codes " INPUT \"C\" ( \"area\" TEXT , \"people\" INTEGER ) KEY ( \"area\" ) ;"
    ∷ codes " CREATE TABLE \"M\" AS SELECT \"a\" . \"area\" AS \"area\" , \"a\" . \"people\" AS \"people\" FROM \"A\" AS \"a\" WHERE \"a\" . \"people\" IS NULL ;"
    ∷ codes " CREATE TABLE \"R$1\" AS SELECT \"a\" . \"area\" AS \"area\" , \"a\" . \"people\" AS \"people\" FROM \"M\" AS \"a\" UNION ALL SELECT \"a\" . \"area\" AS \"area\" , \"a\" . \"people\" AS \"people\" FROM \"B\" AS \"a\" WHERE NOT EXISTS ( SELECT 1 FROM \"M\" AS \"b\" WHERE \"b\" . \"area\" = \"a\" . \"area\" ) ;"
    ∷ codes " CREATE TABLE \"R\" AS SELECT \"a\" . \"area\" AS \"area\" , \"a\" . \"people\" AS \"people\" FROM \"R$1\" AS \"a\" UNION ALL SELECT \"a\" . \"area\" AS \"area\" , \"a\" . \"people\" AS \"people\" FROM \"C\" AS \"a\" WHERE NOT EXISTS ( SELECT 1 FROM \"R$1\" AS \"b\" WHERE \"b\" . \"area\" = \"a\" . \"area\" ) ;"
    ∷ codes " EXPORT \"R\" ORDER BY \"area\" ;"
    ∷ []

script : map (λ s. run (λ t. 32 ∷ spelled t) (written_statement s)) statements ≡ wanted
script = rw (digit 1 (omega arith)) refl
