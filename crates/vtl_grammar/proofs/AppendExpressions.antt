-- Expressions, rules, statements and scripts are written in front of what they are handed.
use Rattle.std.proofs.Common.{◌≡◌, true, false, Bool, List, [], ◌∷◌, ◌++◌, Some, None, refl}
use Rattle.vtl_lexer.specs.declared.keyword.Keyword.TheVariants as keyword
use Rattle.vtl_lexer.specs.declared.token.Sign.TheVariants as sign
use Rattle.vtl_lexer.specs.declared.token.TokenKind.{TokenKind}
use Rattle.vtl_lexer.specs.declared.token.TokenKind.TheVariants as token
use Rattle.vtl_syntax.specs.Trees.{Exp, if_then, binary, in_set, unary, with_clause, member, component, constant, brackets, function, aggregate, aggregate_over, value_window, shift, rank, set_op, difference, exists_in, time, check, check_datapoint, check_hierarchy, hierarchy, join, Exps, no_exps, exp, MaybeExp, no_exp, some_exp, ClauseTree, filter, targets, keeping, rename, sub, pivot, unpivot, TargetsTree, calc, aggr, MaybeTargets, no_targets, some_targets, Calcs, no_calcs, calc_part, Parts, no_parts, join_part, point_rule, assignment, datapoint, hierarchical}
use Rattle.vtl_grammar.specs.Grammar.{Tokens, comma, close_bracket, listed_onto, maybe_onto, maybe_after_onto, comp_onto, comps_onto, set_onto, name_onto, literal_onto, error_onto, group_onto, over_onto, maybe_keeping_onto, rename_part_onto, dataset_onto, retain_onto, time_part_onto, exp_onto, exps_onto, more_exps_onto, maybe_exp_onto, maybe_exp_after_onto, clause_onto, targets_onto, maybe_targets_onto, calcs_onto, more_calcs_onto, parts_onto, more_parts_onto, rule_name_onto, when_onto, point_rule_onto, signed_onto, hier_rule_onto, more_rules_onto, rules_onto, statement_onto, script_onto}
use Rattle.vtl_grammar.specs.Words.{binary_op_token, mode_token, basic_out_token, check_out_token, hier_input_token, hier_out_token, written_role_token, addition_token, comparison_token, comp_token, in_token}
use Rattle.vtl_grammar.proofs.AppendParts.{Appends, maybe-append, maybe_after-append, comp-append, comps-append, constant-append, literal-append, set-append, name-append, error-append, group-append, over-append, maybe_keeping-append, keeping-append, renames-append, subs-append, dataset-append, retain-append, time_part-append}

mutual
  pub exp-append : (e : Exp) (a b : Tokens) → exp_onto e (a ++ b) ≡ exp_onto e a ++ b
  exp-append (if_then c x y) a b =
      let other : Tokens = token.Keyword keyword.Else ∷ exp_onto y a in
      let yes : Tokens = token.Keyword keyword.Then ∷ exp_onto x other in
      rw (exp-append y a b, exp-append x other b, exp-append c yes b) refl
  exp-append (binary l o r) a b = rw (exp-append r a b) (exp-append l (binary_op_token o ∷ exp_onto r a) b)
  exp-append (in_set e negated ls) a b = rw (set-append ls a b) (exp-append e (in_token negated ∷ set_onto ls a) b)
  exp-append (unary o e) a b = rw (exp-append e a b) refl
  exp-append (with_clause e c) a b =
      let inner : Tokens = clause_onto c (token.Sign sign.CloseSquare ∷ a) in
      rw (clause-append c (token.Sign sign.CloseSquare ∷ a) b) (exp-append e (token.Sign sign.OpenSquare ∷ inner) b)
  exp-append (member e c) a b = exp-append e (token.Sign sign.Hash ∷ comp_token c ∷ a) b
  exp-append (component c) a b = refl
  exp-append (constant c) a b = constant-append c a b
  exp-append (brackets e) a b = rw (exp-append e (close_bracket ∷ a) b) refl
  exp-append (function f es) a b = rw (exps-append es (close_bracket ∷ a) b) refl
  exp-append (aggregate f e g h) a b =
      let having : Tokens = maybe_exp_after_onto (token.Keyword keyword.Having) h (close_bracket ∷ a) in
      rw (maybe_exp_after-append (token.Keyword keyword.Having) h (close_bracket ∷ a) b, group-append g having b, maybe_exp-append e (group_onto g having) b) refl
  exp-append (aggregate_over f e o) a b = rw (over-append o (close_bracket ∷ a) b, maybe_exp-append e (over_onto o (close_bracket ∷ a)) b) refl
  exp-append (value_window f e o) a b = rw (over-append o (close_bracket ∷ a) b, exp-append e (over_onto o (close_bracket ∷ a)) b) refl
  exp-append (shift f e n l o) a b =
      let over : Tokens = over_onto o (close_bracket ∷ a) in
      let default : Tokens = maybe_after_onto comma literal_onto l over in
      rw (over-append o (close_bracket ∷ a) b, maybe_after-append comma literal_onto literal-append l over b, exp-append e (comma ∷ token.Integer n ∷ default) b) refl
  exp-append (rank o) a b = rw (over-append o (close_bracket ∷ a) b) refl
  exp-append (set_op f es) a b = rw (exps-append es (close_bracket ∷ a) b) refl
  exp-append (difference f x y) a b = rw (exp-append y (close_bracket ∷ a) b, exp-append x (comma ∷ exp_onto y (close_bracket ∷ a)) b) refl
  exp-append (exists_in x y r) a b =
      let retain : Tokens = retain_onto r (close_bracket ∷ a) in
      rw (retain-append r (close_bracket ∷ a) b, exp-append y retain b, exp-append x (comma ∷ exp_onto y retain) b) refl
  exp-append (time e call) a b = rw (time_part-append call (close_bracket ∷ a) b, exp-append e (time_part_onto call (close_bracket ∷ a)) b) refl
  exp-append (check e err i o) a b =
      let out : Tokens = maybe_onto basic_out_token o (close_bracket ∷ a) in
      let imbalance : Tokens = maybe_exp_after_onto (token.Keyword keyword.Imbalance) i out in
      rw (maybe-append basic_out_token o (close_bracket ∷ a) b, maybe_exp_after-append (token.Keyword keyword.Imbalance) i out b, error-append err imbalance b, exp-append e (error_onto err imbalance) b) refl
  exp-append (check_datapoint e n o) a b =
      let out : Tokens = maybe_onto check_out_token o (close_bracket ∷ a) in
      rw (maybe-append check_out_token o (close_bracket ∷ a) b, exp-append e (comma ∷ token.Name n ∷ out) b) refl
  exp-append (check_hierarchy e n r m d o) a b =
      let out : Tokens = maybe_onto check_out_token o (close_bracket ∷ a) in
      let dataset : Tokens = dataset_onto d out in
      let mode : Tokens = maybe_onto mode_token m dataset in
      let rule : Tokens = maybe_after_onto (token.Keyword keyword.Rule) comp_onto r mode in
      rw (maybe-append check_out_token o (close_bracket ∷ a) b, dataset-append d out b, maybe-append mode_token m dataset b, maybe_after-append (token.Keyword keyword.Rule) comp_onto comp-append r mode b, exp-append e (comma ∷ token.Name n ∷ rule) b)
      refl
  exp-append (hierarchy e n r m i o) a b =
      let out : Tokens = maybe_onto hier_out_token o (close_bracket ∷ a) in
      let input : Tokens = maybe_onto hier_input_token i out in
      let mode : Tokens = maybe_onto mode_token m input in
      let rule : Tokens = maybe_after_onto (token.Keyword keyword.Rule) comp_onto r mode in
      rw (maybe-append hier_out_token o (close_bracket ∷ a) b, maybe-append hier_input_token i out b, maybe-append mode_token m input b, maybe_after-append (token.Keyword keyword.Rule) comp_onto comp-append r mode b, exp-append e (comma ∷ token.Name n ∷ rule) b)
      refl
  exp-append (join k ps u f m kept rs) a b =
      let renames : Tokens = maybe_after_onto (token.Keyword keyword.Rename) (listed_onto rename_part_onto) rs (close_bracket ∷ a) in
      let keep : Tokens = maybe_keeping_onto kept renames in
      let made : Tokens = maybe_targets_onto m keep in
      let filtered : Tokens = maybe_exp_after_onto (token.Keyword keyword.Filter) f made in
      let using : Tokens = maybe_after_onto (token.Keyword keyword.Using) comps_onto u filtered in
      rw (maybe_after-append (token.Keyword keyword.Rename) (listed_onto rename_part_onto) renames-append rs (close_bracket ∷ a) b, maybe_keeping-append kept renames b, maybe_targets-append m keep b, maybe_exp_after-append (token.Keyword keyword.Filter) f made b, maybe_after-append (token.Keyword keyword.Using) comps_onto comps-append u filtered b, parts-append ps using b)
      refl

  pub exps-append : (es : Exps) (a b : Tokens) → exps_onto es (a ++ b) ≡ exps_onto es a ++ b
  exps-append no_exps a b = refl
  exps-append (exp e es) a b = rw (more_exps-append es a b) (exp-append e (more_exps_onto es a) b)

  pub more_exps-append : (es : Exps) (a b : Tokens) → more_exps_onto es (a ++ b) ≡ more_exps_onto es a ++ b
  more_exps-append no_exps a b = refl
  more_exps-append (exp e es) a b = rw (more_exps-append es a b, exp-append e (more_exps_onto es a) b) refl

  pub maybe_exp-append : (e : MaybeExp) (a b : Tokens) → maybe_exp_onto e (a ++ b) ≡ maybe_exp_onto e a ++ b
  maybe_exp-append no_exp a b = refl
  maybe_exp-append (some_exp e) a b = exp-append e a b

  pub maybe_exp_after-append : (w : TokenKind) (e : MaybeExp) (a b : Tokens) → maybe_exp_after_onto w e (a ++ b) ≡ maybe_exp_after_onto w e a ++ b
  maybe_exp_after-append w no_exp a b = refl
  maybe_exp_after-append w (some_exp e) a b = rw (exp-append e a b) refl

  pub clause-append : (c : ClauseTree) (a b : Tokens) → clause_onto c (a ++ b) ≡ clause_onto c a ++ b
  clause-append (filter e) a b = rw (exp-append e a b) refl
  clause-append (targets m) a b = targets-append m a b
  clause-append (keeping k) a b = keeping-append k a b
  clause-append (rename rs) a b = rw (renames-append rs a b) refl
  clause-append (sub ss) a b = rw (subs-append ss a b) refl
  clause-append (pivot x y) a b = refl
  clause-append (unpivot x y) a b = refl

  pub targets-append : (m : TargetsTree) (a b : Tokens) → targets_onto m (a ++ b) ≡ targets_onto m a ++ b
  targets-append (calc cs) a b = rw (calcs-append cs a b) refl
  targets-append (aggr cs g h) a b =
      let having : Tokens = maybe_exp_after_onto (token.Keyword keyword.Having) h a in
      rw (maybe_exp_after-append (token.Keyword keyword.Having) h a b, group-append g having b, calcs-append cs (group_onto g having) b) refl

  pub maybe_targets-append : (m : MaybeTargets) (a b : Tokens) → maybe_targets_onto m (a ++ b) ≡ maybe_targets_onto m a ++ b
  maybe_targets-append no_targets a b = refl
  maybe_targets-append (some_targets m) a b = targets-append m a b

  pub calcs-append : (cs : Calcs) (a b : Tokens) → calcs_onto cs (a ++ b) ≡ calcs_onto cs a ++ b
  calcs-append no_calcs a b = refl
  calcs-append (calc_part r c e cs) a b =
      let value : Tokens = exp_onto e (more_calcs_onto cs a) in
      rw (more_calcs-append cs a b, exp-append e (more_calcs_onto cs a) b) (maybe-append written_role_token r (comp_token c ∷ token.Sign sign.Assign ∷ value) b)

  pub more_calcs-append : (cs : Calcs) (a b : Tokens) → more_calcs_onto cs (a ++ b) ≡ more_calcs_onto cs a ++ b
  more_calcs-append no_calcs a b = refl
  more_calcs-append (calc_part r c e cs) a b =
      let value : Tokens = exp_onto e (more_calcs_onto cs a) in
      rw (more_calcs-append cs a b, exp-append e (more_calcs_onto cs a) b, maybe-append written_role_token r (comp_token c ∷ token.Sign sign.Assign ∷ value) b) refl

  pub parts-append : (ps : Parts) (a b : Tokens) → parts_onto ps (a ++ b) ≡ parts_onto ps a ++ b
  parts-append no_parts a b = refl
  parts-append (join_part e n ps) a b =
      let alias : Tokens = maybe_after_onto (token.Keyword keyword.As) name_onto n (more_parts_onto ps a) in
      rw (more_parts-append ps a b, maybe_after-append (token.Keyword keyword.As) name_onto name-append n (more_parts_onto ps a) b) (exp-append e alias b)

  pub more_parts-append : (ps : Parts) (a b : Tokens) → more_parts_onto ps (a ++ b) ≡ more_parts_onto ps a ++ b
  more_parts-append no_parts a b = refl
  more_parts-append (join_part e n ps) a b =
      let alias : Tokens = maybe_after_onto (token.Keyword keyword.As) name_onto n (more_parts_onto ps a) in
      rw (more_parts-append ps a b, maybe_after-append (token.Keyword keyword.As) name_onto name-append n (more_parts_onto ps a) b, exp-append e alias b) refl

-- ---- rules, statements, scripts

pub rule_name-append : Appends rule_name_onto
rule_name-append None a b = refl
rule_name-append (Some n) a b = refl

pub when-append : Appends when_onto
when-append None a b = refl
when-append (Some e) a b = rw (exp-append e (token.Keyword keyword.Then ∷ a) b) refl

pub point_rule-append : Appends point_rule_onto
point_rule-append (point_rule n w e err) a b =
    let error : Tokens = error_onto err a in
    let holds : Tokens = exp_onto e error in
    rw (error-append err a b, exp-append e error b, when-append w holds b) (rule_name-append n (when_onto w holds) b)

pub signed-append : Appends signed_onto
signed-append [] a b = refl
signed-append (s ∷ ss) a b = rw (signed-append ss a b) refl

pub hier_rule-append : Appends hier_rule_onto
hier_rule-append r a b =
    let error : Tokens = error_onto r.error a in
    let others : Tokens = comp_token r.first ∷ signed_onto r.others error in
    let side : Tokens = maybe_onto addition_token r.sign others in
    rw (error-append r.error a b, signed-append r.others error b, maybe-append addition_token r.sign others b) (rule_name-append r.name (comp_token r.item ∷ comparison_token r.comparison ∷ side) b)

pub more_rules-append : {A : Type 0} (rule : A → Tokens → Tokens) → Appends rule → (rs : List A) (last : Bool) (a b : Tokens) → more_rules_onto rule rs last (a ++ b) ≡ more_rules_onto rule rs last a ++ b
more_rules-append rule appends [] true a b = refl
more_rules-append rule appends [] false a b = refl
more_rules-append rule appends (r ∷ rs) last a b = rw (more_rules-append rule appends rs last a b, appends r (more_rules_onto rule rs last a) b) refl

pub rules-append : {A : Type 0} (rule : A → Tokens → Tokens) → Appends rule → (rs : List A) (last : Bool) (a b : Tokens) → rules_onto rule rs last (a ++ b) ≡ rules_onto rule rs last a ++ b
rules-append rule appends [] last a b = refl
rules-append rule appends (r ∷ rs) last a b = rw (more_rules-append rule appends rs last a b) (appends r (more_rules_onto rule rs last a) b)

pub statement-append : Appends statement_onto
statement-append (assignment n k e) a b = rw (exp-append e (token.Sign sign.Semicolon ∷ a) b) refl
statement-append (datapoint n vs rs last) a b =
    let end : Tokens → Tokens = λ ts. token.Keyword keyword.End ∷ token.Keyword keyword.Datapoint ∷ token.Keyword keyword.Ruleset ∷ token.Sign sign.Semicolon ∷ ts in
    let rules : Tokens = rules_onto point_rule_onto rs last (end a) in
    rw (rules-append point_rule_onto point_rule-append rs last (end a) b, comps-append vs (close_bracket ∷ token.Keyword keyword.Is ∷ rules) b) refl
statement-append (hierarchical n i rs last) a b =
    let end : Tokens → Tokens = λ ts. token.Keyword keyword.End ∷ token.Keyword keyword.Hierarchical ∷ token.Keyword keyword.Ruleset ∷ token.Sign sign.Semicolon ∷ ts in
    rw (rules-append hier_rule_onto hier_rule-append rs last (end a) b) refl

pub script-append : Appends script_onto
script-append [] a b = refl
script-append (s ∷ ss) a b = rw (script-append ss a b) (statement-append s (script_onto ss a) b)
