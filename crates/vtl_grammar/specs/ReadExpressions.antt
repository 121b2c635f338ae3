-- Reading expressions, one function for each function of the reader. The tree that is read is the longest of at most the depth that the budget allows.
use Rattle.std.specs.Prelude.{ℕ, zero, suc, min, Bool, true, false, ◌||◌, List, [], ◌∷◌, length, Option, None, Some, option_map, nat_eq, nat_le, if◌then◌else◌}
use Rattle.vtl_lexer.specs.declared.keyword.Keyword.{Keyword}
use Rattle.vtl_lexer.specs.declared.keyword.Keyword.TheVariants as keyword
use Rattle.vtl_lexer.specs.declared.token.Sign.TheVariants as sign
use Rattle.vtl_lexer.specs.declared.token.TokenKind.{TokenKind}
use Rattle.vtl_syntax.specs.Depth.{group_depth, over_depth}
use Rattle.vtl_syntax.specs.Trees as tree
use Rattle.vtl_syntax.specs.Trees.{Exp, ClauseTree, TargetsTree, CalcTree, PartTree, exps_of, calcs_of, parts_of, maybe_exp, maybe_targets}
use Rattle.vtl_syntax.specs.declared.parts.Comp.{Comp}
use Rattle.vtl_syntax.specs.declared.parts.Constant.TheVariants as constants
use Rattle.vtl_syntax.specs.declared.word_groups.AggregateName.{AggregateName}
use Rattle.vtl_syntax.specs.declared.word_groups.BinaryOp.{BinaryOp}
use Rattle.vtl_syntax.specs.declared.word_groups.DifferenceName.{DifferenceName}
use Rattle.vtl_syntax.specs.declared.word_groups.FunctionName.{FunctionName}
use Rattle.vtl_syntax.specs.declared.word_groups.JoinKind.{JoinKind}
use Rattle.vtl_syntax.specs.declared.word_groups.SetOpName.{SetOpName}
use Rattle.vtl_syntax.specs.declared.word_groups.ShiftName.{ShiftName}
use Rattle.vtl_syntax.specs.declared.word_groups.TimeName.{TimeName}
use Rattle.vtl_syntax.specs.declared.word_groups.ValueWindowName.{ValueWindowName}
use Rattle.vtl_syntax.specs.declared.word_groups.WrittenRole.{WrittenRole}
use Rattle.vtl_grammar.specs.Grammar.{Tokens}
use Rattle.vtl_grammar.specs.Levels.{looseness, operator_level}
use Rattle.vtl_lists.specs.Options.{◌>>=◌, given}
use Rattle.vtl_grammar.specs.Reading.{Got, Gets, Reads, got, is_keyword, is_sign, after_keyword, after_sign, word, maybe_word, got_listed, spared}
use Rattle.vtl_grammar.specs.ReadParts.{cast_part, literal_set, error_part, group_part, over_part, maybe_keeping, maybe_renames, sub_parts, two_comps, using_part, alias_part, shift_part, retain_part, time_part, ruleset_part, rule_part}
use Rattle.vtl_grammar.specs.Words.{binary_op_at, unary_op_at, mode_at, basic_out_at, check_out_at, hier_input_at, hier_out_at, written_role_at, comp_at, constant_at, in_at, form_at}
use Rattle.vtl_grammar.specs.declared.call_forms.CallForm.{CallForm}
use Rattle.vtl_grammar.specs.declared.call_forms.CallForm.TheVariants as form
use Rattle.vtl_grammar.specs.declared.levels.Level.{Level}
use Rattle.vtl_grammar.specs.declared.levels.Level.TheVariants as level

-- ---- forms: `part` reads an expression that is a part, and `n` is the budget of parts

-- [ keyword expr ]
unfoldable pub maybe_exp_after : ℕ → Gets Exp → Keyword → Gets (Option Exp)
maybe_exp_after n part k ts =
    given (after_keyword k ts) (λ after. part after >>= (λ g. Some (got (Some g.tree) g.spare g.rest))) (Some (got None n ts))

-- no operand of an aggregate begins with this token, and each optional part after it does
abbrev pub ends_operand : TokenKind → Bool
ends_operand t = is_sign sign.CloseBracket t || (is_keyword keyword.Group t || (is_keyword keyword.Having t || is_keyword keyword.Over t))

abbrev pub no_operand : Tokens → Bool
no_operand [] = true
no_operand (t ∷ ts) = ends_operand t

-- the operand of an aggregate, where there is one
unfoldable pub maybe_operand : ℕ → Gets Exp → Gets (Option Exp)
maybe_operand n part ts =
    if no_operand ts then Some (got None n ts) else (part ts >>= (λ g. Some (got (Some g.tree) g.spare g.rest)))

unfoldable pub exps : Gets Exp → Gets (List Exp)
exps part = got_listed part

-- [ written_role ] comp ":="
unfoldable pub calc_head : Reads (Option WrittenRole × Comp)
calc_head ts =
    word comp_at (maybe_word written_role_at ts).1
    >>= (λ c. after_sign sign.Assign c.1
    >>= (λ after. Some (((maybe_word written_role_at ts).0, c.0), after)))

unfoldable pub calc_part : Gets Exp → Gets CalcTree
calc_part part ts =
    calc_head ts >>= (λ h. part h.1 >>= (λ g. Some (got (record { role = h.0.0; component = h.0.1; value = g.tree }) g.spare g.rest)))

unfoldable pub calc_parts : Gets Exp → Gets (List CalcTree)
calc_parts part = got_listed (calc_part part)

unfoldable pub join_part : Gets Exp → Gets PartTree
join_part part ts =
    part ts >>= (λ g. alias_part g.rest >>= (λ a. Some (got (record { operand = g.tree; alias = a.0 }) g.spare a.1)))

unfoldable pub join_parts : Gets Exp → Gets (List PartTree)
join_parts part = got_listed (join_part part)

-- what follows "aggr"
unfoldable pub aggr_targets : ℕ → Gets Exp → Gets TargetsTree
aggr_targets n part ts =
    calc_parts part ts
    >>= (λ cs. group_part cs.rest
    >>= (λ g. maybe_exp_after n part keyword.Having g.1
    >>= (λ h. Some (got (tree.aggr (calcs_of cs.tree) g.0 (maybe_exp h.tree)) (min cs.spare h.spare) h.rest))))

-- [ "calc" calcs | "aggr" calcs [ group ] ]
unfoldable pub targets_part : ℕ → Gets Exp → Gets (Option TargetsTree)
targets_part n part ts =
    given (after_keyword keyword.Calc ts) (λ after. calc_parts part after >>= (λ cs. Some (got (Some (tree.calc (calcs_of cs.tree))) cs.spare cs.rest)))
    (given (after_keyword keyword.Aggr ts) (λ after. aggr_targets n part after >>= (λ m. Some (got (Some m.tree) m.spare m.rest)))
    (Some (got None n ts)))

-- "pivot" comp "," comp | "unpivot" comp "," comp
unfoldable pub pivot_clause : ℕ → Gets ClauseTree
pivot_clause n ts =
    given (after_keyword keyword.Pivot ts) (λ after. two_comps after >>= (λ p. Some (got (tree.pivot p.0.0 p.0.1) n p.1)))
    (after_keyword keyword.Unpivot ts >>= (λ after. two_comps after >>= (λ p. Some (got (tree.unpivot p.0.0 p.0.1) n p.1))))

-- the clauses with names and literals alone
unfoldable pub name_clause : ℕ → Gets ClauseTree
name_clause n ts =
    maybe_keeping ts
    >>= (λ k. given k.0 (λ kept. Some (got (tree.keeping kept) n k.1))
    (maybe_renames ts
    >>= (λ r. given r.0 (λ renames. Some (got (tree.rename renames) n r.1))
    (given (after_keyword keyword.Sub ts) (λ after. sub_parts after >>= (λ ss. Some (got (tree.sub ss.0) n ss.1)))
    (pivot_clause n ts)))))

-- clause
unfoldable pub clause : ℕ → Gets Exp → Gets ClauseTree
clause n part ts =
    maybe_exp_after n part keyword.Filter ts
    >>= (λ f. given f.tree (λ e. Some (got (tree.filter e) f.spare f.rest))
    (targets_part n part ts
    >>= (λ m. given m.tree (λ targets. Some (got (tree.targets targets) m.spare m.rest))
    (name_clause n ts))))

-- ---- calls: what stands between the brackets

unfoldable pub function_call : Gets Exp → FunctionName → Gets Exp
function_call part f ts = exps part ts >>= (λ es. Some (got (tree.function f (exps_of es.tree)) es.spare es.rest))

unfoldable pub set_op_call : Gets Exp → SetOpName → Gets Exp
set_op_call part f ts =
    exps part ts >>= (λ es. if nat_le 2 (length es.tree) then Some (got (tree.set_op f (exps_of es.tree)) es.spare es.rest) else None)

-- an aggregate over a window, after its operand
unfoldable pub over_call : ℕ → AggregateName → Got (Option Exp) → Option (Got Exp)
over_call n f e =
    over_part e.rest
    >>= (λ o. spared n (over_depth o.0)
    >>= (λ s. Some (got (tree.aggregate_over f (maybe_exp e.tree) o.0) (min e.spare s) o.1)))

-- an aggregate with its grouping, after its operand
unfoldable pub group_call : ℕ → Gets Exp → AggregateName → Got (Option Exp) → Option (Got Exp)
group_call n part f e =
    group_part e.rest
    >>= (λ g. spared n (group_depth g.0)
    >>= (λ s. maybe_exp_after n part keyword.Having g.1
    >>= (λ h. Some (got (tree.aggregate f (maybe_exp e.tree) g.0 (maybe_exp h.tree)) (min e.spare (min s h.spare)) h.rest))))

unfoldable pub aggregate_call : ℕ → Gets Exp → AggregateName → Gets Exp
aggregate_call n part f ts =
    maybe_operand n part ts >>= (λ e. given (after_keyword keyword.Over e.rest) (λ after. over_call n f e) (group_call n part f e))

unfoldable pub value_window_call : Gets Exp → ValueWindowName → Gets Exp
value_window_call part f ts =
    part ts >>= (λ e. over_part e.rest >>= (λ o. Some (got (tree.value_window f e.tree o.0) e.spare o.1)))

unfoldable pub shift_call : Gets Exp → ShiftName → Gets Exp
shift_call part f ts =
    part ts
    >>= (λ e. shift_part e.rest
    >>= (λ p. over_part p.1
    >>= (λ o. Some (got (tree.shift f e.tree p.0.0 p.0.1 o.0) e.spare o.1))))

unfoldable pub rank_call : ℕ → Gets Exp
rank_call n ts = over_part ts >>= (λ o. spared n (over_depth o.0) >>= (λ s. Some (got (tree.rank o.0) s o.1)))

-- expr "," expr
unfoldable pub two_exps : Gets Exp → Gets (Exp × Exp)
two_exps part ts =
    part ts
    >>= (λ a. after_sign sign.Comma a.rest
    >>= (λ after. part after
    >>= (λ b. Some (got (a.tree, b.tree) (min a.spare b.spare) b.rest))))

unfoldable pub difference_call : Gets Exp → DifferenceName → Gets Exp
difference_call part f ts = two_exps part ts >>= (λ p. Some (got (tree.difference f p.tree.0 p.tree.1) p.spare p.rest))

unfoldable pub exists_in_call : Gets Exp → Gets Exp
exists_in_call part ts =
    two_exps part ts >>= (λ p. retain_part p.rest >>= (λ r. Some (got (tree.exists_in p.tree.0 p.tree.1 r.0) p.spare r.1)))

unfoldable pub time_call : Gets Exp → TimeName → Gets Exp
time_call part f ts = part ts >>= (λ e. time_part f e.rest >>= (λ c. Some (got (tree.time e.tree c.0) e.spare c.1)))

unfoldable pub check_call : ℕ → Gets Exp → Gets Exp
check_call n part ts =
    part ts
    >>= (λ e. error_part e.rest
    >>= (λ err. maybe_exp_after n part keyword.Imbalance err.1
    >>= (λ i. let o : Option _ × Tokens = maybe_word basic_out_at i.rest in
    Some (got (tree.check e.tree err.0 (maybe_exp i.tree) o.0) (min e.spare i.spare) o.1))))

unfoldable pub check_datapoint_call : Gets Exp → Gets Exp
check_datapoint_call part ts =
    part ts
    >>= (λ e. ruleset_part e.rest
    >>= (λ n. let o : Option _ × Tokens = maybe_word check_out_at n.1 in
    Some (got (tree.check_datapoint e.tree n.0 o.0) e.spare o.1)))

-- [ "dataset" ]
abbrev pub dataset_part : Tokens → Bool × Tokens
dataset_part ts = given (after_keyword keyword.Dataset ts) (λ after. (true, after)) (false, ts)

unfoldable pub check_hierarchy_call : Gets Exp → Gets Exp
check_hierarchy_call part ts =
    part ts
    >>= (λ e. ruleset_part e.rest
    >>= (λ n. let r : Option _ × Tokens = rule_part n.1 in
    let m : Option _ × Tokens = maybe_word mode_at r.1 in
    let d : Bool × Tokens = dataset_part m.1 in
    let o : Option _ × Tokens = maybe_word check_out_at d.1 in
    Some (got (tree.check_hierarchy e.tree n.0 r.0 m.0 d.0 o.0) e.spare o.1)))

unfoldable pub hierarchy_call : Gets Exp → Gets Exp
hierarchy_call part ts =
    part ts
    >>= (λ e. ruleset_part e.rest
    >>= (λ n. let r : Option _ × Tokens = rule_part n.1 in
    let m : Option _ × Tokens = maybe_word mode_at r.1 in
    let i : Option _ × Tokens = maybe_word hier_input_at m.1 in
    let o : Option _ × Tokens = maybe_word hier_out_at i.1 in
    Some (got (tree.hierarchy e.tree n.0 r.0 m.0 i.0 o.0) e.spare o.1)))

-- the body of a join after its operands
unfoldable pub join_body : ℕ → Gets Exp → JoinKind → Got (List PartTree) → Option (Got Exp)
join_body n part k ps =
    using_part ps.rest
    >>= (λ u. maybe_exp_after n part keyword.Filter u.1
    >>= (λ f. targets_part n part f.rest
    >>= (λ m. maybe_keeping m.rest
    >>= (λ kept. maybe_renames kept.1
    >>= (λ rs. Some (got (tree.join k (parts_of ps.tree) u.0 (maybe_exp f.tree) (maybe_targets m.tree) kept.0 rs.0) (min ps.spare (min f.spare m.spare)) rs.1))))))

unfoldable pub join_call : ℕ → Gets Exp → JoinKind → Gets Exp
join_call n part k ts = join_parts part ts >>= (λ ps. if nat_le 2 (length ps.tree) then join_body n part k ps else None)

unfoldable pub cast_call : ℕ → Gets Exp
cast_call n ts = cast_part ts >>= (λ p. Some (got (tree.constant (constants.Cast p.0.0 p.0.1)) n p.1))

unfoldable pub call : ℕ → Gets Exp → CallForm → Gets Exp
call n part (form.Function f) = function_call part f
call n part (form.Aggregate f) = aggregate_call n part f
call n part (form.ValueWindow f) = value_window_call part f
call n part (form.Shift f) = shift_call part f
call n part form.Rank = rank_call n
call n part (form.SetOp f) = set_op_call part f
call n part (form.Difference f) = difference_call part f
call n part form.ExistsIn = exists_in_call part
call n part (form.Time f) = time_call part f
call n part form.Check = check_call n part
call n part form.CheckDatapoint = check_datapoint_call part
call n part form.CheckHierarchy = check_hierarchy_call part
call n part form.Hierarchy = hierarchy_call part
call n part (form.Join k) = join_call n part k
call n part form.Cast = cast_call n

-- the closing bracket after what was read
unfoldable pub closed : Got Exp → Option (Got Exp)
closed g = after_sign sign.CloseBracket g.rest >>= (λ rest. Some (got g.tree g.spare rest))

-- ---- levels

-- a name or a constant alone
abbrev pub leaf_at : TokenKind → Option Exp
leaf_at t = given (comp_at t) (λ c. Some (tree.component c)) (option_map (λ c. tree.constant c) (constant_at t))

unfoldable pub bracketed : Gets Exp → Gets Exp
bracketed part ts = part ts >>= (λ g. closed (got (tree.brackets g.tree) g.spare g.rest))

unfoldable pub formed : ℕ → Gets Exp → Gets Exp
formed n part ts =
    word form_at ts
    >>= (λ f. after_sign sign.OpenBracket f.1
    >>= (λ inner. call n part f.0 inner
    >>= (λ g. closed g)))

-- prim
unfoldable pub primary : ℕ → Gets Exp → Gets Exp
primary n part ts =
    given (word leaf_at ts) (λ p. Some (got p.0 n p.1))
    (given (after_sign sign.OpenBracket ts) (bracketed part)
    (formed n part ts))

-- the budget of what is around
abbrev pub around : {A : Type 0} → ℕ → (ℕ → Option A) → Option A
around zero f = None
around (suc s) f = f s

-- ---- what follows an operand, turn by turn

-- one more turn, or none since nothing follows; and no answer where what follows is not of the grammar
abbrev pub Step : Type 0
Step = Got Exp → Option (Option (Got Exp))

-- so many turns at most
abbrev pub in_turns : Step → ℕ → Got Exp → Option (Got Exp)
in_turns step zero g = Some g
in_turns step (suc n) g = step g >>= (λ o. given o (in_turns step n) (Some g))

abbrev pub one_more : Option (Got Exp) → Option (Option (Got Exp))
one_more g = g >>= (λ x. Some (Some x))

-- "[" clause "]" behind an operand
unfoldable pub clause_behind : ℕ → Gets Exp → Got Exp → Gets Exp
clause_behind n part g after =
    around g.spare (λ s. clause n part after >>= (λ c. after_sign sign.CloseSquare c.rest >>= (λ rest. Some (got (tree.with_clause g.tree c.tree) (min s c.spare) rest))))

-- "#" comp behind an operand
unfoldable pub member_behind : Got Exp → Gets Exp
member_behind g after = around g.spare (λ s. word comp_at after >>= (λ c. Some (got (tree.member g.tree c.0) s c.1)))

unfoldable pub postfix_step : ℕ → Gets Exp → Step
postfix_step n part g =
    given (after_sign sign.OpenSquare g.rest) (λ after. one_more (clause_behind n part g after))
    (given (after_sign sign.Hash g.rest) (λ after. one_more (member_behind g after)) (Some None))

-- post
unfoldable pub postfix : ℕ → Gets Exp → Gets Exp
postfix n part ts = primary n part ts >>= (λ g. in_turns (postfix_step n part) (length g.rest) g)

-- unary; `again` reads what may follow a sign
unfoldable pub prefixed : ℕ → Gets Exp → Gets Exp → Gets Exp
prefixed n part again ts =
    given (word unary_op_at ts) (λ o. again o.1 >>= (λ g. Some (got (tree.unary o.0 g.tree) g.spare g.rest))) (postfix n part ts)

-- the operator of a level
abbrev pub operator_at : Level → TokenKind → Option BinaryOp
operator_at l t = binary_op_at t >>= (λ o. if nat_eq (looseness (operator_level o)) (looseness l) then Some o else None)

-- `in` and `not_in`, which stand at the level of comparisons
abbrev pub membership_at : Level → TokenKind → Option Bool
membership_at level.Compare t = in_at t
membership_at _ t = None

-- an operator and its right operand behind a left one
unfoldable pub operand_behind : Gets Exp → Got Exp → BinaryOp → Gets Exp
operand_behind right g op after = around g.spare (λ s. right after >>= (λ r. Some (got (tree.binary g.tree op r.tree) (min s r.spare) r.rest)))

-- `in` or `not_in` and the literals behind an operand
unfoldable pub set_behind : Got Exp → Bool → Gets Exp
set_behind g negated after = around g.spare (λ s. literal_set after >>= (λ ls. Some (got (tree.in_set g.tree negated ls.0) s ls.1)))

unfoldable pub operand_step : Level → Gets Exp → Step
operand_step l right g =
    given (word (operator_at l) g.rest) (λ o. one_more (operand_behind right g o.0 o.1))
    (given (word (membership_at l) g.rest) (λ i. one_more (set_behind g i.0 i.1)) (Some None))

-- the operators of a level after an operand, each with a right operand
unfoldable pub chain : Level → Gets Exp → Gets Exp → Gets Exp
chain l first right ts = first ts >>= (λ g. in_turns (operand_step l right) (length g.rest) g)

-- "if" expr "then" expr "else" expr, after the "if"
unfoldable pub choice : Gets Exp → Gets Exp
choice part ts =
    part ts
    >>= (λ c. after_keyword keyword.Then c.rest
    >>= (λ yes. part yes
    >>= (λ a. after_keyword keyword.Else a.rest
    >>= (λ other. part other
    >>= (λ b. Some (got (tree.if_then c.tree a.tree b.tree) (min c.spare (min a.spare b.spare)) b.rest))))))

unfoldable pub choice_or : Gets Exp → Gets Exp → Gets Exp
choice_or part otherwise ts = given (after_keyword keyword.If ts) (choice part) (otherwise ts)

-- the chains of a budget of one more than `n`, where `inner` reads at a budget of `n`
unfoldable pub unary_at : ℕ → (Level → Gets Exp) → Gets Exp
unary_at n inner = prefixed n (inner level.Expression) (inner level.Unary)

unfoldable pub multiply_at : ℕ → (Level → Gets Exp) → Gets Exp
multiply_at n inner = chain level.Multiply (unary_at n inner) (inner level.Unary)

unfoldable pub add_at : ℕ → (Level → Gets Exp) → Gets Exp
add_at n inner = chain level.Add (multiply_at n inner) (inner level.Multiply)

unfoldable pub compare_at : ℕ → (Level → Gets Exp) → Gets Exp
compare_at n inner = chain level.Compare (add_at n inner) (inner level.Add)

unfoldable pub and_at : ℕ → (Level → Gets Exp) → Gets Exp
and_at n inner = chain level.And (compare_at n inner) (inner level.Compare)

unfoldable pub or_at : ℕ → (Level → Gets Exp) → Gets Exp
or_at n inner = chain level.Or (and_at n inner) (inner level.And)

-- what may stand at a level
unfoldable pub read_level : ℕ → (Level → Gets Exp) → Level → Gets Exp
read_level n inner level.Primary = primary n (inner level.Expression)
read_level n inner level.Postfix = postfix n (inner level.Expression)
read_level n inner level.Unary = unary_at n inner
read_level n inner level.Multiply = multiply_at n inner
read_level n inner level.Add = add_at n inner
read_level n inner level.Compare = compare_at n inner
read_level n inner level.And = and_at n inner
read_level n inner level.Or = or_at n inner
read_level n inner level.Expression = choice_or (inner level.Expression) (or_at n inner)

-- the expression at the front that may stand at the level, of at most that depth
unfoldable pub read : ℕ → Level → Gets Exp
read zero l ts = None
read (suc n) l ts = read_level n (read n) l ts
