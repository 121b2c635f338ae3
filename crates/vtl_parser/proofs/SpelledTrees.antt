-- Where all tokens of a script of the grammar are spelled, the script is written: its names are names, and its lists are filled.
use Rattle.std.proofs.Common.{ℕ, suc, ◌≤◌, true, false, Bool, List, [], ◌∷◌, Option, Some, None, IfSome, arith}
use Rattle.std.specs.List.{AllByRecursion}
use Rattle.vtl_grammar.specs.Fits.{CalcsFit, ClauseFits, ExpsFit, Fits, InGrammar, MaybeFits, MaybeTargetsFit, OptionFits, PartsFit, PointRuleFits, StatementFits, TargetsFit, calcs_count, exps_count, parts_count}
use Rattle.vtl_grammar.specs.Grammar.{Tokens, calcs_onto, clause_onto, close_bracket, comma, comp_onto, dataset_onto, error_onto, exp_onto, exps_onto, group_onto, hier_rule_onto, listed_onto, literal_onto, maybe_after_onto, maybe_exp_after_onto, maybe_exp_onto, maybe_keeping_onto, maybe_onto, maybe_targets_onto, more_calcs_onto, more_exps_onto, more_parts_onto, more_rules_onto, name_onto, over_onto, parts_onto, point_rule_onto, rename_part_onto, retain_onto, rules_onto, script_onto, set_onto, signed_onto, statement_onto, targets_onto, when_onto, time_part_onto}
use Rattle.vtl_grammar.specs.Words.{addition_token, basic_out_token, binary_op_token, check_out_token, comp_token, comparison_token, hier_input_token, hier_out_token, in_token, mode_token, written_role_token}
use Rattle.vtl_grammar.specs.Written.{IsSpelled, Written}
use Rattle.vtl_lexer.specs.declared.keyword.Keyword.TheVariants as keyword
use Rattle.vtl_lexer.specs.declared.token.Sign.TheVariants as sign
use Rattle.vtl_lexer.specs.declared.token.TokenKind.{TokenKind}
use Rattle.vtl_lexer.specs.declared.token.TokenKind.TheVariants as token
use Rattle.vtl_syntax.specs.Trees.{Exp, if_then, binary, in_set, unary, with_clause, member, component, constant, brackets, function, aggregate, aggregate_over, value_window, shift, rank, set_op, difference, exists_in, time, check, check_datapoint, check_hierarchy, hierarchy, join, Exps, no_exps, exp, MaybeExp, no_exp, some_exp, ClauseTree, filter, targets, keeping, rename, sub, pivot, unpivot, TargetsTree, calc, aggr, MaybeTargets, no_targets, some_targets, Calcs, no_calcs, calc_part, Parts, no_parts, join_part, PointRuleTree, point_rule, ScriptTree, StatementTree, assignment, datapoint, hierarchical}
use Rattle.vtl_syntax.specs.Written.{AreMoreCalcs, AreMoreExps, AreMoreParts, AreWritten, AreWrittenCalcs, AreWrittenExps, AreWrittenParts, AreWrittenTargets, HasWrittenParts, IsComponent, IsName, IsRenaming, IsWritten, IsWrittenClause, IsWrittenExp, IsWrittenHierRule, IsWrittenMaybe, IsWrittenRule, IsWrittenStep}
use Rattle.vtl_syntax.specs.declared.statements.HierRule.{HierRule}
use Rattle.vtl_parser.proofs.SpelledParts.{Spelled, Tells, after_tells, comp_tells, comp_told, constant_tells, dataset_tells, error_tells, group_tells, keeping_tells, listed_tell, literal_tells, maybe_keeping_tells, maybe_tells, name_tells, over_tells, renames_tell, retain_tells, rule_name_tells, set_tells, signed_tell, some_all, subs_tell, time_part_tells}

mutual
  pub exp_tells : (e : Exp) (ts : Tokens) → Fits e → Spelled (exp_onto e ts) → IsWrittenExp e × Spelled ts
  exp_tells (if_then c a b) ts fits h =
      let x = exp_tells c (token.Keyword keyword.Then ∷ exp_onto a (token.Keyword keyword.Else ∷ exp_onto b ts)) fits.0 h.1 in
      let y = exp_tells a (token.Keyword keyword.Else ∷ exp_onto b ts) fits.1 x.1.1 in
      let z = exp_tells b ts fits.2 y.1.1 in
      ((x.0, y.0, z.0), z.1)
  exp_tells (binary l o r) ts fits h =
      let x = exp_tells l (binary_op_token o ∷ exp_onto r ts) fits.1 h in
      let y = exp_tells r ts fits.3 x.1.1 in
      ((x.0, y.0), y.1)
  exp_tells (in_set e negated ls) ts fits h =
      let x = exp_tells e (in_token negated ∷ set_onto ls ts) fits.1 h in
      ((x.0, fits.2), (set_tells ls ts x.1.1).1)
  exp_tells (unary o e) ts fits h = exp_tells e ts fits.1 h.1
  exp_tells (with_clause e c) ts fits h =
      let x = exp_tells e (token.Sign sign.OpenSquare ∷ clause_onto c (token.Sign sign.CloseSquare ∷ ts)) fits.1 h in
      let y = clause_tells c (token.Sign sign.CloseSquare ∷ ts) fits.2 x.1.1 in
      ((x.0, y.0), y.1.1)
  exp_tells (member e c) ts fits h =
      let x = exp_tells e (token.Sign sign.Hash ∷ comp_token c ∷ ts) fits.1 h in
      ((x.0, comp_told c x.1.1.0), x.1.1.1)
  exp_tells (component c) ts fits h = comp_tells c ts h
  exp_tells (constant c) ts fits h = constant_tells c ts h
  exp_tells (brackets e) ts fits h =
      let x = exp_tells e (close_bracket ∷ ts) fits h.1 in
      (x.0, x.1.1)
  exp_tells (function f es) ts fits h =
      let x = exps_tell es (close_bracket ∷ ts) fits.0 fits.1 h.1.1 in
      (x.0, x.1.1)
  exp_tells (aggregate f e g k) ts fits h =
      let having : Tokens = maybe_exp_after_onto (token.Keyword keyword.Having) k (close_bracket ∷ ts) in
      let x = maybe_exp_tells e (group_onto g having) fits.0 h.1.1 in
      let y = group_tells g having fits.1 x.1 in
      let z = maybe_exp_after_tells (token.Keyword keyword.Having) k (close_bracket ∷ ts) fits.2 y.1 in
      ((x.0, y.0, z.0), z.1.1)
  exp_tells (aggregate_over f e o) ts fits h =
      let x = maybe_exp_tells e (over_onto o (close_bracket ∷ ts)) fits.0 h.1.1 in
      let y = over_tells o (close_bracket ∷ ts) fits.1 x.1 in
      ((x.0, y.0), y.1.1)
  exp_tells (value_window f e o) ts fits h =
      let x = exp_tells e (over_onto o (close_bracket ∷ ts)) fits.0 h.1.1 in
      let y = over_tells o (close_bracket ∷ ts) fits.1 x.1 in
      ((x.0, y.0), y.1.1)
  exp_tells (shift f e n l o) ts fits h =
      let over : Tokens = over_onto o (close_bracket ∷ ts) in
      let x = exp_tells e (comma ∷ token.Integer n ∷ maybe_after_onto comma literal_onto l over) fits.0 h.1.1 in
      let default = after_tells comma literal_onto (λ _. Unit {0}) literal_tells l over x.1.1.1 in
      let y = over_tells o (close_bracket ∷ ts) fits.1 default.1 in
      ((x.0, y.0), y.1.1)
  exp_tells (rank o) ts fits h =
      let y = over_tells o (close_bracket ∷ ts) fits h.1.1 in
      (y.0, y.1.1)
  exp_tells (set_op f es) ts fits h =
      let some : 1 ≤ exps_count es = omega (arith, fits.0) in
      let x = exps_tell es (close_bracket ∷ ts) some fits.1 h.1.1 in
      (x.0, x.1.1)
  exp_tells (difference f a b) ts fits h =
      let x = exp_tells a (comma ∷ exp_onto b (close_bracket ∷ ts)) fits.0 h.1.1 in
      let y = exp_tells b (close_bracket ∷ ts) fits.1 x.1.1 in
      ((x.0, y.0), y.1.1)
  exp_tells (exists_in a b r) ts fits h =
      let retain : Tokens = retain_onto r (close_bracket ∷ ts) in
      let x = exp_tells a (comma ∷ exp_onto b retain) fits.0 h.1.1 in
      let y = exp_tells b retain fits.1 x.1.1 in
      ((x.0, y.0), (retain_tells r (close_bracket ∷ ts) y.1).1.1)
  exp_tells (time e call) ts fits h =
      let x = exp_tells e (time_part_onto call (close_bracket ∷ ts)) fits h.1.1 in
      (x.0, (time_part_tells call (close_bracket ∷ ts) x.1).1.1)
  exp_tells (check e err i o) ts fits h =
      let out : Tokens = maybe_onto basic_out_token o (close_bracket ∷ ts) in
      let imbalance : Tokens = maybe_exp_after_onto (token.Keyword keyword.Imbalance) i out in
      let x = exp_tells e (error_onto err imbalance) fits.0 h.1.1 in
      let y = maybe_exp_after_tells (token.Keyword keyword.Imbalance) i out fits.1 (error_tells err imbalance x.1).1 in
      ((x.0, y.0), (maybe_tells basic_out_token o (close_bracket ∷ ts) y.1).1.1)
  exp_tells (check_datapoint e n o) ts fits h =
      let x = exp_tells e (comma ∷ token.Name n ∷ maybe_onto check_out_token o (close_bracket ∷ ts)) fits h.1.1 in
      let y = name_tells n (maybe_onto check_out_token o (close_bracket ∷ ts)) x.1.1 in
      ((x.0, y.0), (maybe_tells check_out_token o (close_bracket ∷ ts) y.1).1.1)
  exp_tells (check_hierarchy e n r m d o) ts fits h =
      let out : Tokens = maybe_onto check_out_token o (close_bracket ∷ ts) in
      let dataset : Tokens = dataset_onto d out in
      let mode : Tokens = maybe_onto mode_token m dataset in
      let rule : Tokens = maybe_after_onto (token.Keyword keyword.Rule) comp_onto r mode in
      let x = exp_tells e (comma ∷ token.Name n ∷ rule) fits h.1.1 in
      let y = name_tells n rule x.1.1 in
      let z = after_tells (token.Keyword keyword.Rule) comp_onto IsComponent comp_tells r mode y.1 in
      let left = dataset_tells d out (maybe_tells mode_token m dataset z.1).1 in
      ((x.0, y.0, z.0), (maybe_tells check_out_token o (close_bracket ∷ ts) left.1).1.1)
  exp_tells (hierarchy e n r m i o) ts fits h =
      let out : Tokens = maybe_onto hier_out_token o (close_bracket ∷ ts) in
      let input : Tokens = maybe_onto hier_input_token i out in
      let mode : Tokens = maybe_onto mode_token m input in
      let rule : Tokens = maybe_after_onto (token.Keyword keyword.Rule) comp_onto r mode in
      let x = exp_tells e (comma ∷ token.Name n ∷ rule) fits h.1.1 in
      let y = name_tells n rule x.1.1 in
      let z = after_tells (token.Keyword keyword.Rule) comp_onto IsComponent comp_tells r mode y.1 in
      let left = maybe_tells hier_input_token i out (maybe_tells mode_token m input z.1).1 in
      ((x.0, y.0, z.0), (maybe_tells hier_out_token o (close_bracket ∷ ts) left.1).1.1)
  exp_tells (join kind ps u f m kept rs) ts fits h =
      let renames : Tokens = maybe_after_onto (token.Keyword keyword.Rename) (listed_onto rename_part_onto) rs (close_bracket ∷ ts) in
      let keeps : Tokens = maybe_keeping_onto kept renames in
      let makes : Tokens = maybe_targets_onto m keeps in
      let filters : Tokens = maybe_exp_after_onto (token.Keyword keyword.Filter) f makes in
      let some : 1 ≤ parts_count ps = omega (arith, fits.0) in
      let x = parts_tell ps (maybe_after_onto (token.Keyword keyword.Using) (listed_onto comp_onto) u filters) some fits.1 h.1.1 in
      let y = after_tells (token.Keyword keyword.Using) (listed_onto comp_onto) (AllByRecursion IsComponent) (listed_tell comp_onto IsComponent comp_tells) u filters x.1 in
      let z = maybe_exp_after_tells (token.Keyword keyword.Filter) f makes fits.3 y.1 in
      let v = step_tells m keeps fits.4 z.1 in
      let w = maybe_keeping_tells kept renames fits.5 v.1 in
      let q = after_tells (token.Keyword keyword.Rename) (listed_onto rename_part_onto) (AllByRecursion IsRenaming) renames_tell rs (close_bracket ∷ ts) w.1 in
      ((x.0, some_all IsComponent u fits.2 y.0, z.0, v.0, w.0, some_all IsRenaming rs fits.6 q.0), q.1.1)

  exps_tell : (es : Exps) (ts : Tokens) → 1 ≤ exps_count es → ExpsFit es → Spelled (exps_onto es ts) → AreWrittenExps es × Spelled ts
  exps_tell no_exps ts some fits h = absurd (omega (arith, some))
  exps_tell (exp e es) ts some fits h =
      let x = exp_tells e (more_exps_onto es ts) fits.0 h in
      let y = more_exps_tell es ts fits.1 x.1 in
      ((x.0, y.0), y.1)

  more_exps_tell : (es : Exps) (ts : Tokens) → ExpsFit es → Spelled (more_exps_onto es ts) → AreMoreExps es × Spelled ts
  more_exps_tell no_exps ts fits h = (tt, h)
  more_exps_tell (exp e es) ts fits h =
      let x = exp_tells e (more_exps_onto es ts) fits.0 h.1 in
      let y = more_exps_tell es ts fits.1 x.1 in
      ((x.0, y.0), y.1)

  maybe_exp_tells : (e : MaybeExp) (ts : Tokens) → MaybeFits e → Spelled (maybe_exp_onto e ts) → IsWrittenMaybe e × Spelled ts
  maybe_exp_tells no_exp ts fits h = (tt, h)
  maybe_exp_tells (some_exp e) ts fits h = exp_tells e ts fits h

  maybe_exp_after_tells : (first : TokenKind) (e : MaybeExp) (ts : Tokens) → MaybeFits e → Spelled (maybe_exp_after_onto first e ts) → IsWrittenMaybe e × Spelled ts
  maybe_exp_after_tells first no_exp ts fits h = (tt, h)
  maybe_exp_after_tells first (some_exp e) ts fits h = exp_tells e ts fits h.1

  clause_tells : (c : ClauseTree) (ts : Tokens) → ClauseFits c → Spelled (clause_onto c ts) → IsWrittenClause c × Spelled ts
  clause_tells (filter e) ts fits h = exp_tells e ts fits h.1
  clause_tells (targets m) ts fits h = targets_tell m ts fits h
  clause_tells (keeping k) ts fits h = keeping_tells k ts fits h
  clause_tells (rename rs) ts fits h = let all = renames_tell rs ts h.1 in ((fits, all.0), all.1)
  clause_tells (sub ss) ts fits h = let all = subs_tell ss ts h.1 in ((fits, all.0), all.1)
  clause_tells (pivot a b) ts fits h = ((comp_told a h.1.0, comp_told b h.1.1.1.0), h.1.1.1.1)
  clause_tells (unpivot a b) ts fits h = ((comp_told a h.1.0, comp_told b h.1.1.1.0), h.1.1.1.1)

  targets_tell : (m : TargetsTree) (ts : Tokens) → TargetsFit m → Spelled (targets_onto m ts) → AreWrittenTargets m × Spelled ts
  targets_tell (calc cs) ts fits h = calcs_tell cs ts fits.0 fits.1 h.1
  targets_tell (aggr cs g k) ts fits h =
      let having : Tokens = maybe_exp_after_onto (token.Keyword keyword.Having) k ts in
      let x = calcs_tell cs (group_onto g having) fits.0 fits.1 h.1 in
      let y = group_tells g having fits.2 x.1 in
      let z = maybe_exp_after_tells (token.Keyword keyword.Having) k ts fits.3 y.1 in
      ((x.0, y.0, z.0), z.1)

  step_tells : (m : MaybeTargets) (ts : Tokens) → MaybeTargetsFit m → Spelled (maybe_targets_onto m ts) → IsWrittenStep m × Spelled ts
  step_tells no_targets ts fits h = (tt, h)
  step_tells (some_targets m) ts fits h = targets_tell m ts fits h

  calcs_tell : (cs : Calcs) (ts : Tokens) → 1 ≤ calcs_count cs → CalcsFit cs → Spelled (calcs_onto cs ts) → AreWrittenCalcs cs × Spelled ts
  calcs_tell no_calcs ts some fits h = absurd (omega (arith, some))
  calcs_tell (calc_part r c e cs) ts some fits h =
      let target = (maybe_tells written_role_token r (comp_token c ∷ token.Sign sign.Assign ∷ exp_onto e (more_calcs_onto cs ts)) h).1 in
      let x = exp_tells e (more_calcs_onto cs ts) fits.0 target.1.1 in
      let y = more_calcs_tell cs ts fits.1 x.1 in
      ((comp_told c target.0, x.0, y.0), y.1)

  more_calcs_tell : (cs : Calcs) (ts : Tokens) → CalcsFit cs → Spelled (more_calcs_onto cs ts) → AreMoreCalcs cs × Spelled ts
  more_calcs_tell no_calcs ts fits h = (tt, h)
  more_calcs_tell (calc_part r c e cs) ts fits h =
      let target = (maybe_tells written_role_token r (comp_token c ∷ token.Sign sign.Assign ∷ exp_onto e (more_calcs_onto cs ts)) h.1).1 in
      let x = exp_tells e (more_calcs_onto cs ts) fits.0 target.1.1 in
      let y = more_calcs_tell cs ts fits.1 x.1 in
      ((comp_told c target.0, x.0, y.0), y.1)

  parts_tell : (ps : Parts) (ts : Tokens) → 1 ≤ parts_count ps → PartsFit ps → Spelled (parts_onto ps ts) → AreWrittenParts ps × Spelled ts
  parts_tell no_parts ts some fits h = absurd (omega (arith, some))
  parts_tell (join_part e a ps) ts some fits h =
      let others : Tokens = more_parts_onto ps ts in
      let x = exp_tells e (maybe_after_onto (token.Keyword keyword.As) name_onto a others) fits.0 h in
      let y = after_tells (token.Keyword keyword.As) name_onto IsName name_tells a others x.1 in
      let z = more_parts_tell ps ts fits.1 y.1 in
      ((x.0, y.0, z.0), z.1)

  more_parts_tell : (ps : Parts) (ts : Tokens) → PartsFit ps → Spelled (more_parts_onto ps ts) → AreMoreParts ps × Spelled ts
  more_parts_tell no_parts ts fits h = (tt, h)
  more_parts_tell (join_part e a ps) ts fits h =
      let others : Tokens = more_parts_onto ps ts in
      let x = exp_tells e (maybe_after_onto (token.Keyword keyword.As) name_onto a others) fits.0 h.1 in
      let y = after_tells (token.Keyword keyword.As) name_onto IsName name_tells a others x.1 in
      let z = more_parts_tell ps ts fits.1 y.1 in
      ((x.0, y.0, z.0), z.1)

-- ---- rules, statements, scripts
when_tells : (w : Option Exp) (ts : Tokens) → OptionFits w → Spelled (when_onto w ts) → IfSome w IsWrittenExp × Spelled ts
when_tells None ts fits h = (tt, h)
when_tells (Some e) ts fits h =
    let x = exp_tells e (token.Keyword keyword.Then ∷ ts) fits h.1 in
    (x.0, x.1.1)

point_rule_tells : (r : PointRuleTree) (ts : Tokens) → PointRuleFits r → Spelled (point_rule_onto r ts) → IsWrittenRule r × Spelled ts
point_rule_tells (point_rule n w e err) ts fits h =
    let x = rule_name_tells n (when_onto w (exp_onto e (error_onto err ts))) h in
    let y = when_tells w (exp_onto e (error_onto err ts)) fits.0 x.1 in
    let z = exp_tells e (error_onto err ts) fits.1 y.1 in
    ((x.0, y.0, z.0), (error_tells err ts z.1).1)

hier_rule_tells : (r : HierRule) (ts : Tokens) → Unit {0} → Spelled (hier_rule_onto r ts) → IsWrittenHierRule r × Spelled ts
hier_rule_tells r ts fits h =
    let right : Tokens = comp_token r.first ∷ signed_onto r.others (error_onto r.error ts) in
    let x = rule_name_tells r.name (comp_token r.item ∷ comparison_token r.comparison ∷ maybe_onto addition_token r.sign right) h in
    let y = (maybe_tells addition_token r.sign right x.1.1.1).1 in
    let z = signed_tell r.others (error_onto r.error ts) y.1 in
    ((x.0, comp_told r.item x.1.0, comp_told r.first y.0, z.0), (error_tells r.error ts z.1).1)

-- rules that fit, each of which tells something
module _ {R : Type 0} (rule : R → Tokens → Tokens) (Fit P : R → Type 0) (each : (r : R) (ts : Tokens) → Fit r → Spelled (rule r ts) → P r × Spelled ts) where
  more_rules_tell : (rs : List R) (last : Bool) (ts : Tokens) → AllByRecursion Fit rs → Spelled (more_rules_onto rule rs last ts) → AllByRecursion P rs × Spelled ts
  more_rules_tell [] true ts fits h = (tt, h.1)
  more_rules_tell [] false ts fits h = (tt, h)
  more_rules_tell (r ∷ rs) last ts fits h =
      let x : P r × Spelled (more_rules_onto rule rs last ts) = each r (more_rules_onto rule rs last ts) fits.0 h.1 in
      let y : AllByRecursion P rs × Spelled ts = more_rules_tell rs last ts fits.1 x.1 in
      ((x.0, y.0), y.1)

  rules_tell : (rs : List R) (last : Bool) (ts : Tokens) → AllByRecursion Fit rs → Spelled (rules_onto rule rs last ts) → AllByRecursion P rs × Spelled ts
  rules_tell [] last ts fits h = (tt, h)
  rules_tell (r ∷ rs) last ts fits h =
      let x : P r × Spelled (more_rules_onto rule rs last ts) = each r (more_rules_onto rule rs last ts) fits.0 h in
      let y : AllByRecursion P rs × Spelled ts = more_rules_tell rs last ts fits.1 x.1 in
      ((x.0, y.0), y.1)

all_fit : (rs : List HierRule) → AllByRecursion (λ r. Unit {0}) rs
all_fit [] = tt
all_fit (r ∷ rs) = (tt, all_fit rs)

statement_tells : (s : StatementTree) (ts : Tokens) → StatementFits s → Spelled (statement_onto s ts) → HasWrittenParts s × Spelled ts
statement_tells (assignment n kind e) ts fits h =
    let x = exp_tells e (token.Sign sign.Semicolon ∷ ts) fits h.1.1 in
    ((h.0.1.1, x.0), x.1.1)
statement_tells (datapoint n vs rs last) ts fits h =
    let end : Tokens = token.Keyword keyword.End ∷ token.Keyword keyword.Datapoint ∷ token.Keyword keyword.Ruleset ∷ token.Sign sign.Semicolon ∷ ts in
    let x = listed_tell comp_onto IsComponent comp_tells vs (close_bracket ∷ token.Keyword keyword.Is ∷ rules_onto point_rule_onto rs last end) h.1.1.1.1.1.1 in
    let y = rules_tell point_rule_onto PointRuleFits IsWrittenRule point_rule_tells rs last end fits.2 x.1.1.1 in
    ((h.1.1.1.0.1.1, (fits.0, x.0), (fits.1, y.0)), y.1.1.1.1.1)
statement_tells (hierarchical n i rs last) ts fits h =
    let end : Tokens = token.Keyword keyword.End ∷ token.Keyword keyword.Hierarchical ∷ token.Keyword keyword.Ruleset ∷ token.Sign sign.Semicolon ∷ ts in
    let y = rules_tell hier_rule_onto (λ r. Unit {0}) IsWrittenHierRule hier_rule_tells rs last end (all_fit rs) h.1.1.1.1.1.1.1.1.1.1 in
    ((h.1.1.1.0.1.1, comp_told i h.1.1.1.1.1.1.1.0, (fits, y.0)), y.1.1.1.1.1)

scripts_tell : (script : ScriptTree) → AllByRecursion InGrammar script → Spelled (script_onto script []) → AreWritten script
scripts_tell [] each h = tt
scripts_tell (s ∷ ss) each h =
    let x = statement_tells s (script_onto ss []) each.0.fits h in
    (record { parts = x.0; shallow = each.0.shallow }, scripts_tell ss each.1 x.1)

-- what the grammar calls written is written as trees have it
pub trees_written : (script : ScriptTree) → Written script → AreWritten script
trees_written script w = scripts_tell script w.each w.spelled
