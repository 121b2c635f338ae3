-- The grammar: which tokens each tree is written with, one equation for each alternative, and which trees may stand where.
-- A function `.._onto` gives the tokens of its tree and then those that it is handed. Above it stands its production, as docs/LANGUAGE.md has it. Groups of words: `Words`. Which trees may stand where: `Fits`.
use Rattle.std.specs.Prelude.{ℕ, Bool, true, false, List, [], ◌∷◌, Option, None, Some}
use Rattle.vtl_lexer.specs.declared.keyword.Keyword.TheVariants as k
use Rattle.vtl_lexer.specs.declared.token.Sign.TheVariants as s
use Rattle.vtl_lexer.specs.declared.token.TokenKind.{TokenKind}
use Rattle.vtl_lexer.specs.declared.token.TokenKind.TheVariants.{Keyword as word, Sign as sign, Name as name, Integer as integer, String as string}
use Rattle.vtl_syntax.specs.Trees.{Exp, if_then, binary, in_set, unary, with_clause, member, component, constant, brackets, function, aggregate, aggregate_over, value_window, shift, rank, set_op, difference, exists_in, time, check, check_datapoint, check_hierarchy, hierarchy, join, Exps, no_exps, exp, MaybeExp, no_exp, some_exp, ClauseTree, filter, targets, keeping, rename, sub, pivot, unpivot, TargetsTree, calc, aggr, MaybeTargets, no_targets, some_targets, Calcs, no_calcs, calc_part, Parts, no_parts, join_part, PointRuleTree, point_rule, StatementTree, assignment, datapoint, hierarchical, ScriptTree}
use Rattle.vtl_syntax.specs.declared.parts.Comp.{Comp}
use Rattle.vtl_syntax.specs.declared.parts.Constant.{Constant}
use Rattle.vtl_syntax.specs.declared.parts.Constant.TheVariants as constants
use Rattle.vtl_syntax.specs.declared.parts.DataPoints.{DataPoints}
use Rattle.vtl_syntax.specs.declared.parts.ErrorPart.{ErrorPart}
use Rattle.vtl_syntax.specs.declared.parts.GroupPart.{GroupPart}
use Rattle.vtl_syntax.specs.declared.parts.Keeping.{Keeping}
use Rattle.vtl_syntax.specs.declared.parts.Keeping.TheVariants as keep
use Rattle.vtl_syntax.specs.declared.parts.Limit.{Limit}
use Rattle.vtl_syntax.specs.declared.parts.Limit.TheVariants as limit
use Rattle.vtl_syntax.specs.declared.parts.Literal.{Literal}
use Rattle.vtl_syntax.specs.declared.parts.Literal.TheVariants as literal
use Rattle.vtl_syntax.specs.declared.parts.OrderPart.{OrderPart}
use Rattle.vtl_syntax.specs.declared.parts.OverPart.{OverPart}
use Rattle.vtl_syntax.specs.declared.parts.Reference.{Reference}
use Rattle.vtl_syntax.specs.declared.parts.Reference.TheVariants as reference
use Rattle.vtl_syntax.specs.declared.parts.RenamePart.{RenamePart}
use Rattle.vtl_syntax.specs.declared.parts.SignedComp.{SignedComp}
use Rattle.vtl_syntax.specs.declared.parts.SubPart.{SubPart}
use Rattle.vtl_syntax.specs.declared.parts.TimeCall.{TimeCall}
use Rattle.vtl_syntax.specs.declared.parts.TimeCall.TheVariants as time_call
use Rattle.vtl_syntax.specs.declared.statements.HierRule.{HierRule}
use Rattle.vtl_syntax.specs.declared.word_groups.Retain.{Retain}
use Rattle.vtl_syntax.specs.declared.word_groups.TimeName.{TimeName}
use Rattle.vtl_syntax.specs.declared.word_groups.TimeName.TheVariants as time_name
use Rattle.vtl_grammar.specs.Words.{binary_op_token, unary_op_token, function_name_token, aggregate_name_token, value_window_name_token, shift_name_token, set_op_name_token, difference_name_token, join_kind_token, mode_token, basic_out_token, check_out_token, hier_input_token, hier_out_token, retain_token, time_name_token, filling_token, written_role_token, group_kind_token, direction_token, side_token, cast_kind_token, comparison_token, addition_token, assign_kind_token, comp_token, numeral_token, boolean_token, in_token}

abbrev pub Tokens : Type 0
Tokens = List TokenKind

abbrev pub comma : TokenKind
comma = sign s.Comma

abbrev pub open_bracket : TokenKind
open_bracket = sign s.OpenBracket

abbrev pub close_bracket : TokenKind
close_bracket = sign s.CloseBracket

-- ---- { "," item } and item { "," item }
abbrev pub more_onto : {A : Type 0} → (A → Tokens → Tokens) → List A → Tokens → Tokens
more_onto item [] ts = ts
more_onto item (x ∷ xs) ts = comma ∷ item x (more_onto item xs ts)

abbrev pub listed_onto : {A : Type 0} → (A → Tokens → Tokens) → List A → Tokens → Tokens
listed_onto item [] ts = ts
listed_onto item (x ∷ xs) ts = item x (more_onto item xs ts)

-- a text, digits, a name
abbrev pub string_onto : List ℕ → Tokens → Tokens
string_onto t ts = string t ∷ ts

abbrev pub integer_onto : List ℕ → Tokens → Tokens
integer_onto d ts = integer d ∷ ts

abbrev pub name_onto : List ℕ → Tokens → Tokens
name_onto n ts = name n ∷ ts

-- an optional token
abbrev pub maybe_onto : {A : Type 0} → (A → TokenKind) → Option A → Tokens → Tokens
maybe_onto token_of None ts = ts
maybe_onto token_of (Some x) ts = token_of x ∷ ts

-- an optional token behind a word
abbrev pub maybe_after_onto : {A : Type 0} → TokenKind → (A → Tokens → Tokens) → Option A → Tokens → Tokens
maybe_after_onto first item None ts = ts
maybe_after_onto first item (Some x) ts = first ∷ item x ts

-- ---- parts that hold no expression

-- comp = NAME | QUOTED_NAME
abbrev pub comp_onto : Comp → Tokens → Tokens
comp_onto c ts = comp_token c ∷ ts

-- comps = comp { "," comp }
abbrev pub comps_onto : List Comp → Tokens → Tokens
comps_onto = listed_onto comp_onto

-- constant = INTEGER | DECIMAL | STRING | "true" | "false" | "null" | "cast" "(" STRING "," cast_kind ")"
abbrev pub constant_onto : Constant → Tokens → Tokens
constant_onto (constants.Number n) ts = numeral_token n ∷ ts
constant_onto (constants.String t) ts = string t ∷ ts
constant_onto (constants.Boolean b) ts = boolean_token b ∷ ts
constant_onto constants.Null ts = word k.Null ∷ ts
constant_onto (constants.Cast t c) ts = word k.Cast ∷ open_bracket ∷ string t ∷ comma ∷ cast_kind_token c ∷ close_bracket ∷ ts

-- literal = [ "-" ] ( INTEGER | DECIMAL ) | STRING | "true" | "false" | "cast" "(" STRING "," cast_kind ")"
abbrev pub literal_onto : Literal → Tokens → Tokens
literal_onto (literal.Number true n) ts = sign s.Minus ∷ numeral_token n ∷ ts
literal_onto (literal.Number false n) ts = numeral_token n ∷ ts
literal_onto (literal.String t) ts = string t ∷ ts
literal_onto (literal.Boolean b) ts = boolean_token b ∷ ts
literal_onto (literal.Cast t c) ts = word k.Cast ∷ open_bracket ∷ string t ∷ comma ∷ cast_kind_token c ∷ close_bracket ∷ ts

-- set = "{" literal { "," literal } "}"
abbrev pub set_onto : List Literal → Tokens → Tokens
set_onto ls ts = sign s.OpenBrace ∷ listed_onto literal_onto ls (sign s.CloseBrace ∷ ts)

-- error = [ "errorcode" STRING ] [ "errorlevel" INTEGER ]
abbrev pub error_onto : ErrorPart → Tokens → Tokens
error_onto e ts =
    maybe_after_onto (word k.Errorcode) string_onto e.code
    (maybe_after_onto (word k.Errorlevel) integer_onto e.level ts)

-- group = "group" group_kind comps
abbrev pub group_onto : Option GroupPart → Tokens → Tokens
group_onto None ts = ts
group_onto (Some g) ts = word k.Group ∷ group_kind_token g.kind ∷ comps_onto g.names ts

-- order_part = comp [ direction ]
abbrev pub order_part_onto : OrderPart → Tokens → Tokens
order_part_onto o ts = comp_token o.component ∷ maybe_onto direction_token o.direction ts

-- limit = "unbounded" side | INTEGER side | "current" "data" "point"
abbrev pub limit_onto : Limit → Tokens → Tokens
limit_onto (limit.Unbounded side) ts = word k.Unbounded ∷ side_token side ∷ ts
limit_onto (limit.Points d side) ts = integer d ∷ side_token side ∷ ts
limit_onto limit.Current ts = word k.Current ∷ word k.Data ∷ word k.Point ∷ ts

-- partition = "partition" "by" comps
abbrev pub partition_onto : Option (List Comp) → Tokens → Tokens
partition_onto None ts = ts
partition_onto (Some cs) ts = word k.Partition ∷ word k.By ∷ comps_onto cs ts

-- order = "order" "by" order_part { "," order_part }
abbrev pub order_onto : Option (List OrderPart) → Tokens → Tokens
order_onto None ts = ts
order_onto (Some os) ts = word k.Order ∷ word k.By ∷ listed_onto order_part_onto os ts

-- points = "data" "points" "between" limit "and" limit
abbrev pub points_onto : Option DataPoints → Tokens → Tokens
points_onto None ts = ts
points_onto (Some p) ts =
    word k.Data ∷ word k.Points ∷ word k.Between
    ∷ limit_onto p.from (word k.And ∷ limit_onto p.to ts)

-- over = "over" "(" [ partition ] [ order ] [ points ] ")"
abbrev pub over_onto : OverPart → Tokens → Tokens
over_onto o ts = word k.Over ∷ open_bracket ∷ partition_onto o.partition (order_onto o.order (points_onto o.points (close_bracket ∷ ts)))

-- reference = comp | NAME "#" comp
abbrev pub reference_onto : Reference → Tokens → Tokens
reference_onto (reference.Component c) ts = comp_token c ∷ ts
reference_onto (reference.Member n c) ts = name n ∷ sign s.Hash ∷ comp_token c ∷ ts

-- keeping = ( "keep" | "drop" ) reference { "," reference }
abbrev pub keeping_onto : Keeping → Tokens → Tokens
keeping_onto (keep.Keep rs) ts = word k.Keep ∷ listed_onto reference_onto rs ts
keeping_onto (keep.Drop rs) ts = word k.Drop ∷ listed_onto reference_onto rs ts

abbrev pub maybe_keeping_onto : Option Keeping → Tokens → Tokens
maybe_keeping_onto None ts = ts
maybe_keeping_onto (Some kept) ts = keeping_onto kept ts

-- rename_part = reference "to" comp
abbrev pub rename_part_onto : RenamePart → Tokens → Tokens
rename_part_onto r ts = reference_onto r.from (word k.To ∷ comp_token r.to ∷ ts)

-- sub_part = comp "=" literal
abbrev pub sub_part_onto : SubPart → Tokens → Tokens
sub_part_onto p ts = comp_token p.component ∷ sign s.Equal ∷ literal_onto p.value ts

-- the [ "dataset" ] of `check_hierarchy`
abbrev pub dataset_onto : Bool → Tokens → Tokens
dataset_onto true ts = word k.Dataset ∷ ts
dataset_onto false ts = ts

-- the [ "," retain ] of `exists_in`
abbrev pub retain_onto : Option Retain → Tokens → Tokens
retain_onto None ts = ts
retain_onto (Some r) ts = comma ∷ retain_token r ∷ ts

-- which time operator is called
abbrev pub name_of_time : TimeCall → TimeName
name_of_time (time_call.Timeshift negative n) = time_name.Timeshift
name_of_time (time_call.FillTimeSeries f) = time_name.FillTimeSeries
name_of_time time_call.FlowToStock = time_name.FlowToStock
name_of_time time_call.StockToFlow = time_name.StockToFlow

-- what stands behind the operand of a time operator: the "," [ "-" ] INTEGER of `timeshift`, the [ "," filling ] of `fill_time_series`
abbrev pub time_part_onto : TimeCall → Tokens → Tokens
time_part_onto (time_call.Timeshift true n) ts = comma ∷ sign s.Minus ∷ integer n ∷ ts
time_part_onto (time_call.Timeshift false n) ts = comma ∷ integer n ∷ ts
time_part_onto (time_call.FillTimeSeries None) ts = ts
time_part_onto (time_call.FillTimeSeries (Some f)) ts = comma ∷ filling_token f ∷ ts
time_part_onto time_call.FlowToStock ts = ts
time_part_onto time_call.StockToFlow ts = ts

-- ---- expressions

abbrev mutual
  -- exp = if_then | or
  pub exp_onto : Exp → Tokens → Tokens
  -- if_then = "if" exp "then" exp "else" exp
  exp_onto (if_then c a b) ts = word k.If ∷ exp_onto c (word k.Then ∷ exp_onto a (word k.Else ∷ exp_onto b ts))
  -- or = or ( "or" | "xor" ) and | and
  -- and = and "and" compare | compare
  -- compare = compare ( "=" | "<>" | "<" | "<=" | ">" | ">=" ) add | in_set | add
  -- add = add ( "+" | "-" | "||" ) multiply | multiply
  -- multiply = multiply ( "*" | "/" ) unary | unary
  exp_onto (binary l o r) ts = exp_onto l (binary_op_token o ∷ exp_onto r ts)
  -- in_set = compare ( "in" | "not_in" ) set
  exp_onto (in_set e negated ls) ts = exp_onto e (in_token negated ∷ set_onto ls ts)
  -- unary = unary_op unary | postfix
  exp_onto (unary o e) ts = unary_op_token o ∷ exp_onto e ts
  -- postfix = with_clause | member | primary
  -- with_clause = postfix "[" clause "]"
  exp_onto (with_clause e c) ts = exp_onto e (sign s.OpenSquare ∷ clause_onto c (sign s.CloseSquare ∷ ts))
  -- member = postfix "#" comp
  exp_onto (member e c) ts = exp_onto e (sign s.Hash ∷ comp_token c ∷ ts)
  -- primary = comp | constant | brackets | function | aggregate | aggregate_over | value_window | shift | rank | set_op | difference | exists_in | time | check | check_datapoint | check_hierarchy | hierarchy | join
  exp_onto (component c) ts = comp_token c ∷ ts
  exp_onto (constant c) ts = constant_onto c ts
  -- brackets = "(" exp ")"
  exp_onto (brackets e) ts = open_bracket ∷ exp_onto e (close_bracket ∷ ts)
  -- function = function_name "(" exps ")"
  exp_onto (function f es) ts = function_name_token f ∷ open_bracket ∷ exps_onto es (close_bracket ∷ ts)
  -- aggregate = aggregate_name "(" [ exp ] [ group ] [ "having" exp ] ")"
  exp_onto (aggregate f e g h) ts = aggregate_name_token f ∷ open_bracket ∷ maybe_exp_onto e (group_onto g (maybe_exp_after_onto (word k.Having) h (close_bracket ∷ ts)))
  -- aggregate_over = aggregate_name "(" [ exp ] over ")"
  exp_onto (aggregate_over f e o) ts = aggregate_name_token f ∷ open_bracket ∷ maybe_exp_onto e (over_onto o (close_bracket ∷ ts))
  -- value_window = value_window_name "(" exp over ")"
  exp_onto (value_window f e o) ts = value_window_name_token f ∷ open_bracket ∷ exp_onto e (over_onto o (close_bracket ∷ ts))
  -- shift = shift_name "(" exp "," INTEGER [ "," literal ] over ")"
  exp_onto (shift f e n l o) ts = shift_name_token f ∷ open_bracket ∷ exp_onto e (comma ∷ integer n ∷ maybe_after_onto comma literal_onto l (over_onto o (close_bracket ∷ ts)))
  -- rank = "rank" "(" over ")"
  exp_onto (rank o) ts = word k.Rank ∷ open_bracket ∷ over_onto o (close_bracket ∷ ts)
  -- set_op = set_op_name "(" exp "," exps ")"
  exp_onto (set_op f es) ts = set_op_name_token f ∷ open_bracket ∷ exps_onto es (close_bracket ∷ ts)
  -- difference = difference_name "(" exp "," exp ")"
  exp_onto (difference f a b) ts = difference_name_token f ∷ open_bracket ∷ exp_onto a (comma ∷ exp_onto b (close_bracket ∷ ts))
  -- exists_in = "exists_in" "(" exp "," exp [ "," retain ] ")"
  exp_onto (exists_in a b r) ts = word k.ExistsIn ∷ open_bracket ∷ exp_onto a (comma ∷ exp_onto b (retain_onto r (close_bracket ∷ ts)))
  -- time = "timeshift" "(" exp "," [ "-" ] INTEGER ")" | "fill_time_series" "(" exp [ "," filling ] ")" | "flow_to_stock" "(" exp ")" | "stock_to_flow" "(" exp ")"
  exp_onto (time e call) ts = time_name_token (name_of_time call) ∷ open_bracket ∷ exp_onto e (time_part_onto call (close_bracket ∷ ts))
  -- check = "check" "(" exp error [ "imbalance" exp ] [ basic_out ] ")"
  exp_onto (check e err i o) ts = word k.Check ∷ open_bracket ∷ exp_onto e (error_onto err (maybe_exp_after_onto (word k.Imbalance) i (maybe_onto basic_out_token o (close_bracket ∷ ts))))
  -- check_datapoint = "check_datapoint" "(" exp "," NAME [ check_out ] ")"
  exp_onto (check_datapoint e n o) ts = word k.CheckDatapoint ∷ open_bracket ∷ exp_onto e (comma ∷ name n ∷ maybe_onto check_out_token o (close_bracket ∷ ts))
  -- check_hierarchy = "check_hierarchy" "(" exp "," NAME [ "rule" comp ] [ mode ] [ "dataset" ] [ check_out ] ")"
  exp_onto (check_hierarchy e n r m d o) ts =
      word k.CheckHierarchy ∷ open_bracket
      ∷ exp_onto e (comma ∷ name n ∷ maybe_after_onto (word k.Rule) comp_onto r (maybe_onto mode_token m (dataset_onto d (maybe_onto check_out_token o (close_bracket ∷ ts)))))
  -- hierarchy = "hierarchy" "(" exp "," NAME [ "rule" comp ] [ mode ] [ hier_input ] [ hier_out ] ")"
  exp_onto (hierarchy e n r m i o) ts =
      word k.Hierarchy ∷ open_bracket
      ∷ exp_onto e (comma ∷ name n ∷ maybe_after_onto (word k.Rule) comp_onto r (maybe_onto mode_token m (maybe_onto hier_input_token i (maybe_onto hier_out_token o (close_bracket ∷ ts)))))
  -- join = join_kind "(" join_part "," parts [ "using" comps ] [ "filter" exp ] [ targets ] [ keeping ] [ "rename" rename_part { "," rename_part } ] ")"
  exp_onto (join kind ps u f m kept rs) ts =
      join_kind_token kind ∷ open_bracket
      ∷ parts_onto ps (maybe_after_onto (word k.Using) comps_onto u (maybe_exp_after_onto (word k.Filter) f (maybe_targets_onto m (maybe_keeping_onto kept (maybe_after_onto (word k.Rename) (listed_onto rename_part_onto) rs (close_bracket ∷ ts))))))

  -- exps = exp { "," exp }
  pub exps_onto : Exps → Tokens → Tokens
  exps_onto no_exps ts = ts
  exps_onto (exp e es) ts = exp_onto e (more_exps_onto es ts)

  pub more_exps_onto : Exps → Tokens → Tokens
  more_exps_onto no_exps ts = ts
  more_exps_onto (exp e es) ts = comma ∷ exp_onto e (more_exps_onto es ts)

  -- [ exp ]
  pub maybe_exp_onto : MaybeExp → Tokens → Tokens
  maybe_exp_onto no_exp ts = ts
  maybe_exp_onto (some_exp e) ts = exp_onto e ts

  -- [ word exp ]
  pub maybe_exp_after_onto : TokenKind → MaybeExp → Tokens → Tokens
  maybe_exp_after_onto first no_exp ts = ts
  maybe_exp_after_onto first (some_exp e) ts = first ∷ exp_onto e ts

  -- clause = "filter" exp | targets | keeping | "rename" rename_part { "," rename_part } | "sub" sub_part { "," sub_part } | "pivot" comp "," comp | "unpivot" comp "," comp
  pub clause_onto : ClauseTree → Tokens → Tokens
  clause_onto (filter e) ts = word k.Filter ∷ exp_onto e ts
  clause_onto (targets m) ts = targets_onto m ts
  clause_onto (keeping kept) ts = keeping_onto kept ts
  clause_onto (rename rs) ts = word k.Rename ∷ listed_onto rename_part_onto rs ts
  clause_onto (sub ss) ts = word k.Sub ∷ listed_onto sub_part_onto ss ts
  clause_onto (pivot a b) ts = word k.Pivot ∷ comp_token a ∷ comma ∷ comp_token b ∷ ts
  clause_onto (unpivot a b) ts = word k.Unpivot ∷ comp_token a ∷ comma ∷ comp_token b ∷ ts

  -- targets = "calc" calcs | "aggr" calcs [ group ] [ "having" exp ]
  pub targets_onto : TargetsTree → Tokens → Tokens
  targets_onto (calc cs) ts = word k.Calc ∷ calcs_onto cs ts
  targets_onto (aggr cs g h) ts = word k.Aggr ∷ calcs_onto cs (group_onto g (maybe_exp_after_onto (word k.Having) h ts))

  pub maybe_targets_onto : MaybeTargets → Tokens → Tokens
  maybe_targets_onto no_targets ts = ts
  maybe_targets_onto (some_targets m) ts = targets_onto m ts

  -- calcs = calc_part { "," calc_part }
  -- calc_part = [ written_role ] comp ":=" exp
  pub calcs_onto : Calcs → Tokens → Tokens
  calcs_onto no_calcs ts = ts
  calcs_onto (calc_part r c e cs) ts = maybe_onto written_role_token r (comp_token c ∷ sign s.Assign ∷ exp_onto e (more_calcs_onto cs ts))

  pub more_calcs_onto : Calcs → Tokens → Tokens
  more_calcs_onto no_calcs ts = ts
  more_calcs_onto (calc_part r c e cs) ts = comma ∷ maybe_onto written_role_token r (comp_token c ∷ sign s.Assign ∷ exp_onto e (more_calcs_onto cs ts))

  -- parts = join_part { "," join_part }
  -- join_part = exp [ "as" NAME ]
  pub parts_onto : Parts → Tokens → Tokens
  parts_onto no_parts ts = ts
  parts_onto (join_part e a ps) ts = exp_onto e (maybe_after_onto (word k.As) name_onto a (more_parts_onto ps ts))

  pub more_parts_onto : Parts → Tokens → Tokens
  more_parts_onto no_parts ts = ts
  more_parts_onto (join_part e a ps) ts = comma ∷ exp_onto e (maybe_after_onto (word k.As) name_onto a (more_parts_onto ps ts))

-- ---- rules, statements, scripts

-- rule_name = NAME ":"
abbrev pub rule_name_onto : Option (List ℕ) → Tokens → Tokens
rule_name_onto None ts = ts
rule_name_onto (Some n) ts = name n ∷ sign s.Colon ∷ ts

-- when = "when" exp "then"
abbrev pub when_onto : Option Exp → Tokens → Tokens
when_onto None ts = ts
when_onto (Some e) ts = word k.When ∷ exp_onto e (word k.Then ∷ ts)

-- point_rule = [ rule_name ] [ when ] exp error
abbrev pub point_rule_onto : PointRuleTree → Tokens → Tokens
point_rule_onto (point_rule n w e err) ts = rule_name_onto n (when_onto w (exp_onto e (error_onto err ts)))

-- signed = { addition comp }
abbrev pub signed_onto : List SignedComp → Tokens → Tokens
signed_onto [] ts = ts
signed_onto (x ∷ xs) ts = addition_token x.sign ∷ comp_token x.item ∷ signed_onto xs ts

-- hier_rule = [ rule_name ] comp comparison [ addition ] comp signed error
abbrev pub hier_rule_onto : HierRule → Tokens → Tokens
hier_rule_onto r ts =
    rule_name_onto r.name
    (comp_token r.item ∷ comparison_token r.comparison ∷ maybe_onto addition_token r.sign (comp_token r.first ∷ signed_onto r.others (error_onto r.error ts)))

-- of rules that are written by `rule`
-- point_rules = point_rule { ";" point_rule } [ ";" ]
-- hier_rules = hier_rule { ";" hier_rule } [ ";" ]
abbrev pub more_rules_onto : {A : Type 0} → (A → Tokens → Tokens) → List A → Bool → Tokens → Tokens
more_rules_onto rule [] true ts = sign s.Semicolon ∷ ts
more_rules_onto rule [] false ts = ts
more_rules_onto rule (r ∷ rs) last ts = sign s.Semicolon ∷ rule r (more_rules_onto rule rs last ts)

abbrev pub rules_onto : {A : Type 0} → (A → Tokens → Tokens) → List A → Bool → Tokens → Tokens
rules_onto rule [] last ts = ts
rules_onto rule (r ∷ rs) last ts = rule r (more_rules_onto rule rs last ts)

-- statement = assignment | datapoint | hierarchical
abbrev pub statement_onto : StatementTree → Tokens → Tokens
-- assignment = NAME assign_kind exp ";"
statement_onto (assignment n kind e) ts = name n ∷ assign_kind_token kind ∷ exp_onto e (sign s.Semicolon ∷ ts)
-- datapoint = "define" "datapoint" "ruleset" NAME "(" "variable" comps ")" "is" point_rules "end" "datapoint" "ruleset" ";"
statement_onto (datapoint n vs rs last) ts =
    word k.Define ∷ word k.Datapoint ∷ word k.Ruleset ∷ name n ∷ open_bracket
    ∷ word k.Variable
    ∷ comps_onto vs
    (close_bracket ∷ word k.Is ∷ rules_onto point_rule_onto rs last (word k.End ∷ word k.Datapoint ∷ word k.Ruleset ∷ sign s.Semicolon ∷ ts))
-- hierarchical = "define" "hierarchical" "ruleset" NAME "(" "variable" "rule" comp ")" "is" hier_rules "end" "hierarchical" "ruleset" ";"
statement_onto (hierarchical n i rs last) ts =
    word k.Define ∷ word k.Hierarchical ∷ word k.Ruleset ∷ name n ∷ open_bracket
    ∷ word k.Variable ∷ word k.Rule ∷ comp_token i ∷ close_bracket ∷ word k.Is
    ∷ rules_onto hier_rule_onto rs last (word k.End ∷ word k.Hierarchical ∷ word k.Ruleset ∷ sign s.Semicolon ∷ ts)

-- script = { statement }
abbrev pub script_onto : ScriptTree → Tokens → Tokens
script_onto [] ts = ts
script_onto (x ∷ xs) ts = statement_onto x (script_onto xs ts)

-- the tokens of a script
abbrev pub tokens_of : ScriptTree → Tokens
tokens_of script = script_onto script []
