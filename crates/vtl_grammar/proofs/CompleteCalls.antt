-- The calls are read up to the bracket that closes them, where the expressions that are their parts are read.
use Rattle.std.proofs.Common.{◌≡◌, ℕ, ◌≤◌, ◌-◌, max, min, Bool, true, false, List, ◌∷◌, length, Option, Some, None, refl, arith}
use Rattle.std.specs.Prelude.{nat_le}
use Rattle.std.proofs.lemmas.Bool.{le-leb}
use Rattle.vtl_lexer.specs.declared.keyword.Keyword.TheVariants as keyword
use Rattle.vtl_lexer.specs.declared.token.Sign.TheVariants as sign
use Rattle.vtl_lexer.specs.declared.token.TokenKind.{TokenKind}
use Rattle.vtl_lexer.specs.declared.token.TokenKind.TheVariants as token
use Rattle.vtl_syntax.specs.Depth.{exp_depth, exps_depth, maybe_depth, maybe_targets_depth, parts_depth, group_depth, over_depth}
use Rattle.vtl_syntax.specs.Trees as tree
use Rattle.vtl_syntax.specs.Trees.{Exp, Exps, MaybeExp, MaybeTargets, Parts, exps_of, parts_of, maybe_exp, maybe_targets}
use Rattle.vtl_syntax.specs.declared.parts.Comp.{Comp}
use Rattle.vtl_syntax.specs.declared.parts.ErrorPart.{ErrorPart}
use Rattle.vtl_syntax.specs.declared.parts.GroupPart.{GroupPart}
use Rattle.vtl_syntax.specs.declared.parts.Keeping.{Keeping}
use Rattle.vtl_syntax.specs.declared.parts.Keeping.TheVariants as kept
use Rattle.vtl_syntax.specs.declared.parts.Literal.{Literal}
use Rattle.vtl_syntax.specs.declared.parts.OverPart.{OverPart}
use Rattle.vtl_syntax.specs.declared.parts.RenamePart.{RenamePart}
use Rattle.vtl_syntax.specs.declared.parts.TimeCall.{TimeCall}
use Rattle.vtl_syntax.specs.declared.word_groups.AggregateName.{AggregateName}
use Rattle.vtl_syntax.specs.declared.word_groups.BasicOut.{BasicOut}
use Rattle.vtl_syntax.specs.declared.word_groups.CheckOut.{CheckOut}
use Rattle.vtl_syntax.specs.declared.word_groups.DifferenceName.{DifferenceName}
use Rattle.vtl_syntax.specs.declared.word_groups.FunctionName.{FunctionName}
use Rattle.vtl_syntax.specs.declared.word_groups.HierInput.{HierInput}
use Rattle.vtl_syntax.specs.declared.word_groups.HierInput.TheVariants as hier_input
use Rattle.vtl_syntax.specs.declared.word_groups.HierOut.{HierOut}
use Rattle.vtl_syntax.specs.declared.word_groups.JoinKind.{JoinKind}
use Rattle.vtl_syntax.specs.declared.word_groups.Mode.{Mode}
use Rattle.vtl_syntax.specs.declared.word_groups.Retain.{Retain}
use Rattle.vtl_syntax.specs.declared.word_groups.SetOpName.{SetOpName}
use Rattle.vtl_syntax.specs.declared.word_groups.ShiftName.{ShiftName}
use Rattle.vtl_syntax.specs.declared.word_groups.ValueWindowName.{ValueWindowName}
use Rattle.vtl_grammar.specs.Fits.{Fits, OverFits, exps_count, parts_count}
use Rattle.vtl_grammar.specs.Grammar.{Tokens, comma, close_bracket, listed_onto, maybe_onto, maybe_after_onto, comp_onto, comps_onto, string_onto, integer_onto, literal_onto, error_onto, group_onto, over_onto, maybe_keeping_onto, rename_part_onto, dataset_onto, retain_onto, name_of_time, time_part_onto, exp_onto, exps_onto, maybe_exp_onto, maybe_exp_after_onto, maybe_targets_onto, parts_onto}
use Rattle.vtl_grammar.specs.Reading.{Gets, got, is_keyword, is_sign, after_keyword, after_sign, spared}
use Rattle.vtl_grammar.specs.ReadExpressions.{no_operand, function_call, set_op_call, over_call, group_call, aggregate_call, value_window_call, shift_call, rank_call, two_exps, difference_call, exists_in_call, time_call, check_call, check_datapoint_call, dataset_part, check_hierarchy_call, hierarchy_call, join_body, join_call}
use Rattle.vtl_grammar.specs.ReadParts.{rule_part}
use Rattle.vtl_grammar.specs.Words.{comp_at, mode_at, mode_token, basic_out_at, basic_out_token, check_out_at, check_out_token, hier_input_at, hier_input_token, hier_out_at, hier_out_token}
use Rattle.vtl_grammar.specs.declared.levels.Level.TheVariants as level
use Rattle.vtl_grammar.proofs.CompleteBase.{Lacks, in_table, lacks_keyword, maybe_lacks, maybe_after_lacks, maybe_word_complete, CompleteGets}
use Rattle.vtl_grammar.proofs.CompleteForms.{maybe_exp_after_lacks, group_lacks, targets_lacks, maybe_exp_after_complete, maybe_operand_complete, exps_complete, targets_complete, join_parts_complete}
use Rattle.vtl_grammar.proofs.CompleteLevels.{goes_on}
use Rattle.vtl_grammar.proofs.CompleteParts.{error_complete, group_complete, over_complete, maybe_keeping_complete, maybe_renames_complete, using_complete, shift_complete, retain_complete, time_part_complete, time_part_lacks, ruleset_complete, rule_complete, rule_lacks, rule_alone}
use Rattle.vtl_grammar.proofs.CompleteTables.{mode_read, mode_lacks, basic_out_read, basic_out_lacks, check_out_read, check_out_lacks, hier_input_read, hier_input_lacks, hier_out_read, hier_out_lacks}
use Rattle.vtl_grammar.proofs.CompleteTrees.{exp_option, exp_list, exps_of-list, exps_count-list, part_list, parts_of-list, parts_count-list, maybe_exp-option, maybe_targets-option}

spared_is : (n depth : ℕ) → depth ≤ n → spared n depth ≡ Some (n - depth)
spared_is n depth h = rw (le-leb depth n h) refl

-- what may follow the operand of an aggregate
ends_group : (g : Option GroupPart) (h : MaybeExp) (rest : Tokens) → no_operand (group_onto g (maybe_exp_after_onto (token.Keyword keyword.Having) h (close_bracket ∷ rest))) ≡ true
ends_group None tree.no_exp rest = refl
ends_group None (tree.some_exp e) rest = refl
ends_group (Some g) h rest = refl

pub error_lacks : (p : TokenKind → Bool) → p (token.Keyword keyword.Errorcode) ≡ false → p (token.Keyword keyword.Errorlevel) ≡ false → (e : ErrorPart) (rest : Tokens) → Lacks p rest → Lacks p (error_onto e rest)
error_lacks p no_code no_level e rest h =
    let level : Tokens = maybe_after_onto (token.Keyword keyword.Errorlevel) integer_onto e.level rest in
    maybe_after_lacks p (token.Keyword keyword.Errorcode) string_onto no_code e.code level (maybe_after_lacks p (token.Keyword keyword.Errorlevel) integer_onto no_level e.level rest h)

dataset_lacks : (p : TokenKind → Bool) → p (token.Keyword keyword.Dataset) ≡ false → (d : Bool) (rest : Tokens) → Lacks p rest → Lacks p (dataset_onto d rest)
dataset_lacks p no_dataset true rest h = no_dataset
dataset_lacks p no_dataset false rest h = h

dataset_complete : (d : Bool) (rest : Tokens) → Lacks (is_keyword keyword.Dataset) rest → dataset_part (dataset_onto d rest) ≡ (d, rest)
unfolding after_keyword
dataset_complete true rest h = refl
dataset_complete false rest h = rw (lacks_keyword keyword.Dataset rest h) refl

keeping_lacks : (p : TokenKind → Bool) → p (token.Keyword keyword.Keep) ≡ false → p (token.Keyword keyword.Drop) ≡ false → (k : Option Keeping) (rest : Tokens) → Lacks p rest → Lacks p (maybe_keeping_onto k rest)
keeping_lacks p no_keep no_drop None rest h = h
keeping_lacks p no_keep no_drop (Some (kept.Keep rs)) rest h = no_keep
keeping_lacks p no_keep no_drop (Some (kept.Drop rs)) rest h = no_drop

-- `rule` is an input of `hierarchy` where no component follows it
input_no_rule : (i : Option HierInput) (out : Tokens) → Lacks (is_keyword keyword.Rule) out → Lacks (in_table comp_at) out → rule_part (maybe_onto hier_input_token i out) ≡ (None, maybe_onto hier_input_token i out)
input_no_rule None out no_rule no_comp = rule_lacks out no_rule
input_no_rule (Some hier_input.Rule) out no_rule no_comp = rule_alone out no_comp
input_no_rule (Some hier_input.Dataset) out no_rule no_comp = rule_lacks (token.Keyword keyword.Dataset ∷ out) refl
input_no_rule (Some hier_input.RulePriority) out no_rule no_comp = rule_lacks (token.Keyword keyword.RulePriority ∷ out) refl

mode_no_rule : (m : Option Mode) (input : Tokens) → rule_part input ≡ (None, input) → rule_part (maybe_onto mode_token m input) ≡ (None, maybe_onto mode_token m input)
mode_no_rule None input h = h
mode_no_rule (Some m) input h = rule_lacks (mode_token m ∷ input) (mode_lacks (is_keyword keyword.Rule) refl refl refl refl refl refl m)

-- ---- calls: the expressions that are parts are read at a budget of `n`

module _ (n : ℕ) (part : Gets Exp) (reads : CompleteGets n part exp_onto Fits exp_depth (goes_on level.Expression)) where
  pub function_complete : (f : FunctionName) (es : Exps) (rest : Tokens) → Fits (tree.function f es) → exps_depth es ≤ n
      → function_call part f (exps_onto es (close_bracket ∷ rest)) ≡ Some (got (tree.function f es) (n - exps_depth es) (close_bracket ∷ rest))
  unfolding function_call
  function_complete f es rest fits shallow = rw (exps_complete n part reads es (close_bracket ∷ rest) fits.0 fits.1 shallow refl refl, exps_of-list es) refl

  pub set_op_complete : (f : SetOpName) (es : Exps) (rest : Tokens) → Fits (tree.set_op f es) → exps_depth es ≤ n
      → set_op_call part f (exps_onto es (close_bracket ∷ rest)) ≡ Some (got (tree.set_op f es) (n - exps_depth es) (close_bracket ∷ rest))
  unfolding set_op_call
  set_op_complete f es rest fits shallow =
      let two : 2 ≤ exps_count es = fits.0 in
      let count = exps_count-list es in
      let enough : nat_le 2 (length (exp_list es)) ≡ true = le-leb 2 (length (exp_list es)) (omega arith) in
      rw (exps_complete n part reads es (close_bracket ∷ rest) (omega arith) fits.1 shallow refl refl, enough, exps_of-list es) refl

  over_call_complete : (f : AggregateName) (e : MaybeExp) (o : OverPart) (rest : Tokens) → OverFits o → over_depth o ≤ n
      → over_call n f (got (exp_option e) (n - maybe_depth e) (over_onto o (close_bracket ∷ rest))) ≡ Some (got (tree.aggregate_over f e o) (n - max (maybe_depth e) (over_depth o)) (close_bracket ∷ rest))
  unfolding over_call
  over_call_complete f e o rest fits shallow =
      let s : min (n - maybe_depth e) (n - over_depth o) ≡ n - max (maybe_depth e) (over_depth o) = omega arith in
      rw (over_complete o (close_bracket ∷ rest) fits, spared_is n (over_depth o) shallow, s, maybe_exp-option e) refl

  pub aggregate_over_complete : (f : AggregateName) (e : MaybeExp) (o : OverPart) (rest : Tokens) → Fits (tree.aggregate_over f e o) → max (maybe_depth e) (over_depth o) ≤ n
      → aggregate_call n part f (maybe_exp_onto e (over_onto o (close_bracket ∷ rest))) ≡ Some (got (tree.aggregate_over f e o) (n - max (maybe_depth e) (over_depth o)) (close_bracket ∷ rest))
  unfolding aggregate_call after_keyword
  aggregate_over_complete f e o rest fits shallow =
      rw (maybe_operand_complete n part reads e (over_onto o (close_bracket ∷ rest)) fits.0 (omega arith) refl refl) (over_call_complete f e o rest fits.1 (omega arith))

  group_call_complete : (f : AggregateName) (e : MaybeExp) (g : Option GroupPart) (h : MaybeExp) (rest : Tokens) → Fits (tree.aggregate f e g h) → max (group_depth g) (maybe_depth h) ≤ n
      → group_call n part f (got (exp_option e) (n - maybe_depth e) (group_onto g (maybe_exp_after_onto (token.Keyword keyword.Having) h (close_bracket ∷ rest))))
      ≡ Some (got (tree.aggregate f e g h) (n - max (maybe_depth e) (max (group_depth g) (maybe_depth h))) (close_bracket ∷ rest))
  unfolding group_call
  group_call_complete f e g h rest fits shallow =
      let having : Tokens = maybe_exp_after_onto (token.Keyword keyword.Having) h (close_bracket ∷ rest) in
      let after : (p : TokenKind → Bool) → p (token.Keyword keyword.Having) ≡ false → p close_bracket ≡ false → Lacks p having = λ p own other. maybe_exp_after_lacks p (token.Keyword keyword.Having) own h (close_bracket ∷ rest) other in
      let s : min (n - maybe_depth e) (min (n - group_depth g) (n - maybe_depth h)) ≡ n - max (maybe_depth e) (max (group_depth g) (maybe_depth h)) = omega arith in
      rw (group_complete g having fits.1 (after (is_keyword keyword.Group) refl refl) (after (is_sign sign.Comma) refl refl), spared_is n (group_depth g) (omega arith), maybe_exp_after_complete n part reads keyword.Having refl h (close_bracket ∷ rest) fits.2 (omega arith) refl refl, s, maybe_exp-option e, maybe_exp-option h)
      refl

  pub aggregate_complete : (f : AggregateName) (e : MaybeExp) (g : Option GroupPart) (h : MaybeExp) (rest : Tokens) → Fits (tree.aggregate f e g h) → max (maybe_depth e) (max (group_depth g) (maybe_depth h)) ≤ n
      → aggregate_call n part f (maybe_exp_onto e (group_onto g (maybe_exp_after_onto (token.Keyword keyword.Having) h (close_bracket ∷ rest))))
      ≡ Some (got (tree.aggregate f e g h) (n - max (maybe_depth e) (max (group_depth g) (maybe_depth h))) (close_bracket ∷ rest))
  unfolding aggregate_call
  aggregate_complete f e g h rest fits shallow =
      let having : Tokens = maybe_exp_after_onto (token.Keyword keyword.Having) h (close_bracket ∷ rest) in
      let group : Tokens = group_onto g having in
      let after : (p : TokenKind → Bool) → p (token.Keyword keyword.Group) ≡ false → p (token.Keyword keyword.Having) ≡ false → p close_bracket ≡ false → Lacks p group =
      λ p own next other. group_lacks p own g having (maybe_exp_after_lacks p (token.Keyword keyword.Having) next h (close_bracket ∷ rest) other) in
      rw (maybe_operand_complete n part reads e group fits.0 (omega arith) (ends_group g h rest) (after (goes_on level.Expression) refl refl refl), lacks_keyword keyword.Over group (after (is_keyword keyword.Over) refl refl refl))
      (group_call_complete f e g h rest fits (omega arith))

  pub value_window_complete : (f : ValueWindowName) (e : Exp) (o : OverPart) (rest : Tokens) → Fits (tree.value_window f e o) → exp_depth e ≤ n
      → value_window_call part f (exp_onto e (over_onto o (close_bracket ∷ rest))) ≡ Some (got (tree.value_window f e o) (n - exp_depth e) (close_bracket ∷ rest))
  unfolding value_window_call
  value_window_complete f e o rest fits shallow = rw (reads e (over_onto o (close_bracket ∷ rest)) fits.0 shallow refl, over_complete o (close_bracket ∷ rest) fits.1) refl

  pub shift_call_complete : (f : ShiftName) (e : Exp) (d : List ℕ) (l : Option Literal) (o : OverPart) (rest : Tokens) → Fits (tree.shift f e d l o) → exp_depth e ≤ n
      → shift_call part f (exp_onto e (comma ∷ token.Integer d ∷ maybe_after_onto comma literal_onto l (over_onto o (close_bracket ∷ rest)))) ≡ Some (got (tree.shift f e d l o) (n - exp_depth e) (close_bracket ∷ rest))
  unfolding shift_call
  shift_call_complete f e d l o rest fits shallow =
      let over : Tokens = over_onto o (close_bracket ∷ rest) in
      rw (reads e (comma ∷ token.Integer d ∷ maybe_after_onto comma literal_onto l over) fits.0 shallow refl, shift_complete d l over refl, over_complete o (close_bracket ∷ rest) fits.1) refl

  pub rank_complete : (o : OverPart) (rest : Tokens) → OverFits o → over_depth o ≤ n → rank_call n (over_onto o (close_bracket ∷ rest)) ≡ Some (got (tree.rank o) (n - over_depth o) (close_bracket ∷ rest))
  unfolding rank_call
  rank_complete o rest fits shallow = rw (over_complete o (close_bracket ∷ rest) fits, spared_is n (over_depth o) shallow) refl

  two_complete : (a b : Exp) (rest : Tokens) → Fits a × Fits b → max (exp_depth a) (exp_depth b) ≤ n → Lacks (goes_on level.Expression) rest
      → two_exps part (exp_onto a (comma ∷ exp_onto b rest)) ≡ Some (got (a, b) (n - max (exp_depth a) (exp_depth b)) rest)
  unfolding two_exps after_sign
  two_complete a b rest fits shallow stops =
      let s : min (n - exp_depth a) (n - exp_depth b) ≡ n - max (exp_depth a) (exp_depth b) = omega arith in
      rw (reads a (comma ∷ exp_onto b rest) fits.0 (omega arith) refl, reads b rest fits.1 (omega arith) stops, s) refl

  pub difference_complete : (f : DifferenceName) (a b : Exp) (rest : Tokens) → Fits (tree.difference f a b) → max (exp_depth a) (exp_depth b) ≤ n
      → difference_call part f (exp_onto a (comma ∷ exp_onto b (close_bracket ∷ rest))) ≡ Some (got (tree.difference f a b) (n - max (exp_depth a) (exp_depth b)) (close_bracket ∷ rest))
  unfolding difference_call
  difference_complete f a b rest fits shallow = rw (two_complete a b (close_bracket ∷ rest) fits shallow refl) refl

  pub exists_in_complete : (a b : Exp) (r : Option Retain) (rest : Tokens) → Fits (tree.exists_in a b r) → max (exp_depth a) (exp_depth b) ≤ n
      → exists_in_call part (exp_onto a (comma ∷ exp_onto b (retain_onto r (close_bracket ∷ rest)))) ≡ Some (got (tree.exists_in a b r) (n - max (exp_depth a) (exp_depth b)) (close_bracket ∷ rest))
  unfolding exists_in_call
  exists_in_complete a b r rest fits shallow =
      let stops : Lacks (goes_on level.Expression) (retain_onto r (close_bracket ∷ rest)) = elim r as (λ v. Lacks (goes_on level.Expression) (retain_onto v (close_bracket ∷ rest))) [ None ↦ refl | Some x ↦ refl ] in
      rw (two_complete a b (retain_onto r (close_bracket ∷ rest)) fits shallow stops, retain_complete r (close_bracket ∷ rest) refl) refl

  pub time_complete : (e : Exp) (c : TimeCall) (rest : Tokens) → Fits (tree.time e c) → exp_depth e ≤ n
      → time_call part (name_of_time c) (exp_onto e (time_part_onto c (close_bracket ∷ rest))) ≡ Some (got (tree.time e c) (n - exp_depth e) (close_bracket ∷ rest))
  unfolding time_call
  time_complete e c rest fits shallow =
      let behind : Tokens = time_part_onto c (close_bracket ∷ rest) in
      let stops : Lacks (goes_on level.Expression) behind = time_part_lacks (goes_on level.Expression) refl c (close_bracket ∷ rest) refl in
      rw (reads e behind fits shallow stops, time_part_complete c (close_bracket ∷ rest) refl) refl

  pub check_complete : (e : Exp) (err : ErrorPart) (i : MaybeExp) (o : Option BasicOut) (rest : Tokens) → Fits (tree.check e err i o) → max (exp_depth e) (maybe_depth i) ≤ n
      → check_call n part (exp_onto e (error_onto err (maybe_exp_after_onto (token.Keyword keyword.Imbalance) i (maybe_onto basic_out_token o (close_bracket ∷ rest)))))
      ≡ Some (got (tree.check e err i o) (n - max (exp_depth e) (maybe_depth i)) (close_bracket ∷ rest))
  unfolding check_call
  check_complete e err i o rest fits shallow =
      let out : Tokens = maybe_onto basic_out_token o (close_bracket ∷ rest) in
      let imbalance : Tokens = maybe_exp_after_onto (token.Keyword keyword.Imbalance) i out in
      let after_imbalance : (p : TokenKind → Bool) → p (token.Keyword keyword.Invalid) ≡ false → p (token.Keyword keyword.All) ≡ false → p close_bracket ≡ false → Lacks p out =
      λ p no_invalid no_all no_close. maybe_lacks p basic_out_token (basic_out_lacks p no_invalid no_all) o (close_bracket ∷ rest) no_close in
      let after_error : (p : TokenKind → Bool) → p (token.Keyword keyword.Imbalance) ≡ false → p (token.Keyword keyword.Invalid) ≡ false → p (token.Keyword keyword.All) ≡ false → p close_bracket ≡ false → Lacks p imbalance =
      λ p own no_invalid no_all no_close. maybe_exp_after_lacks p (token.Keyword keyword.Imbalance) own i out (after_imbalance p no_invalid no_all no_close) in
      let stops : Lacks (goes_on level.Expression) (error_onto err imbalance) = error_lacks (goes_on level.Expression) refl refl err imbalance (after_error (goes_on level.Expression) refl refl refl refl) in
      let s : min (n - exp_depth e) (n - maybe_depth i) ≡ n - max (exp_depth e) (maybe_depth i) = omega arith in
      rw (reads e (error_onto err imbalance) fits.0 (omega arith) stops, error_complete err imbalance (after_error (is_keyword keyword.Errorcode) refl refl refl refl) (after_error (is_keyword keyword.Errorlevel) refl refl refl refl), maybe_exp_after_complete n part reads keyword.Imbalance refl i out fits.1 (omega arith) (after_imbalance (is_keyword keyword.Imbalance) refl refl refl) (after_imbalance (goes_on level.Expression) refl refl refl), maybe_word_complete basic_out_at basic_out_token basic_out_read o (close_bracket ∷ rest) refl, s, maybe_exp-option i)
      refl

  pub check_datapoint_complete : (e : Exp) (name : List ℕ) (o : Option CheckOut) (rest : Tokens) → Fits e → exp_depth e ≤ n
      → check_datapoint_call part (exp_onto e (comma ∷ token.Name name ∷ maybe_onto check_out_token o (close_bracket ∷ rest))) ≡ Some (got (tree.check_datapoint e name o) (n - exp_depth e) (close_bracket ∷ rest))
  unfolding check_datapoint_call
  check_datapoint_complete e name o rest fits shallow =
      let out : Tokens = maybe_onto check_out_token o (close_bracket ∷ rest) in
      rw (reads e (comma ∷ token.Name name ∷ out) fits shallow refl, ruleset_complete name out, maybe_word_complete check_out_at check_out_token check_out_read o (close_bracket ∷ rest) refl) refl

  pub check_hierarchy_complete : (e : Exp) (name : List ℕ) (r : Option Comp) (m : Option Mode) (d : Bool) (o : Option CheckOut) (rest : Tokens) → Fits e → exp_depth e ≤ n
      → check_hierarchy_call part (exp_onto e (comma ∷ token.Name name ∷ maybe_after_onto (token.Keyword keyword.Rule) comp_onto r (maybe_onto mode_token m (dataset_onto d (maybe_onto check_out_token o (close_bracket ∷ rest))))))
      ≡ Some (got (tree.check_hierarchy e name r m d o) (n - exp_depth e) (close_bracket ∷ rest))
  unfolding check_hierarchy_call
  check_hierarchy_complete e name r m d o rest fits shallow =
      let out : Tokens = maybe_onto check_out_token o (close_bracket ∷ rest) in
      let dataset : Tokens = dataset_onto d out in
      let mode : Tokens = maybe_onto mode_token m dataset in
      let rule : Tokens = maybe_after_onto (token.Keyword keyword.Rule) comp_onto r mode in
      let outs : (p : TokenKind → Bool) → p (token.Keyword keyword.Invalid) ≡ false → p (token.Keyword keyword.All) ≡ false → p (token.Keyword keyword.AllMeasures) ≡ false → p close_bracket ≡ false → Lacks p out =
      λ p a b c no_close. maybe_lacks p check_out_token (check_out_lacks p a b c) o (close_bracket ∷ rest) no_close in
      let datasets : (p : TokenKind → Bool) → p (token.Keyword keyword.Dataset) ≡ false → p (token.Keyword keyword.Invalid) ≡ false → p (token.Keyword keyword.All) ≡ false → p (token.Keyword keyword.AllMeasures) ≡ false → p close_bracket ≡ false → Lacks p dataset =
      λ p own a b c no_close. dataset_lacks p own d out (outs p a b c no_close) in
      let no_rule = mode_no_rule m dataset (rule_lacks dataset (datasets (is_keyword keyword.Rule) refl refl refl refl refl)) in
      rw (reads e (comma ∷ token.Name name ∷ rule) fits shallow refl, ruleset_complete name rule, rule_complete r mode no_rule, maybe_word_complete mode_at mode_token mode_read m dataset (datasets (in_table mode_at) refl refl refl refl refl), dataset_complete d out (outs (is_keyword keyword.Dataset) refl refl refl refl), maybe_word_complete check_out_at check_out_token check_out_read o (close_bracket ∷ rest) refl)
      refl

  pub hierarchy_complete : (e : Exp) (name : List ℕ) (r : Option Comp) (m : Option Mode) (i : Option HierInput) (o : Option HierOut) (rest : Tokens) → Fits e → exp_depth e ≤ n
      → hierarchy_call part (exp_onto e (comma ∷ token.Name name ∷ maybe_after_onto (token.Keyword keyword.Rule) comp_onto r (maybe_onto mode_token m (maybe_onto hier_input_token i (maybe_onto hier_out_token o (close_bracket ∷ rest))))))
      ≡ Some (got (tree.hierarchy e name r m i o) (n - exp_depth e) (close_bracket ∷ rest))
  unfolding hierarchy_call
  hierarchy_complete e name r m i o rest fits shallow =
      let out : Tokens = maybe_onto hier_out_token o (close_bracket ∷ rest) in
      let input : Tokens = maybe_onto hier_input_token i out in
      let mode : Tokens = maybe_onto mode_token m input in
      let rule : Tokens = maybe_after_onto (token.Keyword keyword.Rule) comp_onto r mode in
      let outs : (p : TokenKind → Bool) → p (token.Keyword keyword.Computed) ≡ false → p (token.Keyword keyword.All) ≡ false → p close_bracket ≡ false → Lacks p out =
      λ p a b no_close. maybe_lacks p hier_out_token (hier_out_lacks p a b) o (close_bracket ∷ rest) no_close in
      let inputs : Lacks (in_table mode_at) input = maybe_lacks (in_table mode_at) hier_input_token (hier_input_lacks (in_table mode_at) refl refl refl) i out (outs (in_table mode_at) refl refl refl) in
      let no_rule = mode_no_rule m input (input_no_rule i out (outs (is_keyword keyword.Rule) refl refl refl) (outs (in_table comp_at) refl refl refl)) in
      rw (reads e (comma ∷ token.Name name ∷ rule) fits shallow refl, ruleset_complete name rule, rule_complete r mode no_rule, maybe_word_complete mode_at mode_token mode_read m input inputs, maybe_word_complete hier_input_at hier_input_token hier_input_read i out (outs (in_table hier_input_at) refl refl refl), maybe_word_complete hier_out_at hier_out_token hier_out_read o (close_bracket ∷ rest) refl)
      refl

  pub join_complete : (k : JoinKind) (ps : Parts) (u : Option (List Comp)) (f : MaybeExp) (m : MaybeTargets) (kept : Option Keeping) (rs : Option (List RenamePart)) (rest : Tokens)
      → Fits (tree.join k ps u f m kept rs) → max (parts_depth ps) (max (maybe_depth f) (maybe_targets_depth m)) ≤ n
      → join_call n part k (parts_onto ps (maybe_after_onto (token.Keyword keyword.Using) comps_onto u (maybe_exp_after_onto (token.Keyword keyword.Filter) f (maybe_targets_onto m (maybe_keeping_onto kept (maybe_after_onto (token.Keyword keyword.Rename) (listed_onto rename_part_onto) rs (close_bracket ∷ rest)))))))
      ≡ Some (got (tree.join k ps u f m kept rs) (n - max (parts_depth ps) (max (maybe_depth f) (maybe_targets_depth m))) (close_bracket ∷ rest))
  unfolding join_call join_body
  join_complete k ps u f m kept rs rest fits shallow =
      let two : 2 ≤ parts_count ps = fits.0 in
      let count = parts_count-list ps in
      let enough : nat_le 2 (length (part_list ps)) ≡ true = le-leb 2 (length (part_list ps)) (omega arith) in
      let after : Tokens = close_bracket ∷ rest in
      let renames : Tokens = maybe_after_onto (token.Keyword keyword.Rename) (listed_onto rename_part_onto) rs after in
      let keep : Tokens = maybe_keeping_onto kept renames in
      let targets : Tokens = maybe_targets_onto m keep in
      let filter : Tokens = maybe_exp_after_onto (token.Keyword keyword.Filter) f targets in
      let using : Tokens = maybe_after_onto (token.Keyword keyword.Using) comps_onto u filter in
      let at_renames : (p : TokenKind → Bool) → p (token.Keyword keyword.Rename) ≡ false → p close_bracket ≡ false → Lacks p renames =
      λ p no_rename no_close. maybe_after_lacks p (token.Keyword keyword.Rename) (listed_onto rename_part_onto) no_rename rs after no_close in
      let at_keep : (p : TokenKind → Bool) → p (token.Keyword keyword.Keep) ≡ false → p (token.Keyword keyword.Drop) ≡ false → p (token.Keyword keyword.Rename) ≡ false → p close_bracket ≡ false → Lacks p keep =
      λ p no_keep no_drop no_rename no_close. keeping_lacks p no_keep no_drop kept renames (at_renames p no_rename no_close) in
      let at_targets : (p : TokenKind → Bool) → p (token.Keyword keyword.Calc) ≡ false → p (token.Keyword keyword.Aggr) ≡ false → p (token.Keyword keyword.Keep) ≡ false → p (token.Keyword keyword.Drop) ≡ false → p (token.Keyword keyword.Rename) ≡ false → p close_bracket ≡ false → Lacks p targets =
      λ p no_calc no_aggr no_keep no_drop no_rename no_close. targets_lacks p no_calc no_aggr m keep (at_keep p no_keep no_drop no_rename no_close) in
      let at_filter : (p : TokenKind → Bool) → p (token.Keyword keyword.Filter) ≡ false → p (token.Keyword keyword.Calc) ≡ false → p (token.Keyword keyword.Aggr) ≡ false → p (token.Keyword keyword.Keep) ≡ false → p (token.Keyword keyword.Drop) ≡ false → p (token.Keyword keyword.Rename) ≡ false → p close_bracket ≡ false → Lacks p filter =
      λ p no_filter no_calc no_aggr no_keep no_drop no_rename no_close. maybe_exp_after_lacks p (token.Keyword keyword.Filter) no_filter f targets (at_targets p no_calc no_aggr no_keep no_drop no_rename no_close) in
      let at_using : (p : TokenKind → Bool) → p (token.Keyword keyword.Using) ≡ false → p (token.Keyword keyword.Filter) ≡ false → p (token.Keyword keyword.Calc) ≡ false → p (token.Keyword keyword.Aggr) ≡ false → p (token.Keyword keyword.Keep) ≡ false → p (token.Keyword keyword.Drop) ≡ false → p (token.Keyword keyword.Rename) ≡ false → p close_bracket ≡ false → Lacks p using =
      λ p no_using no_filter no_calc no_aggr no_keep no_drop no_rename no_close. maybe_after_lacks p (token.Keyword keyword.Using) comps_onto no_using u filter (at_filter p no_filter no_calc no_aggr no_keep no_drop no_rename no_close) in
      let s : min (n - parts_depth ps) (min (n - maybe_depth f) (n - maybe_targets_depth m)) ≡ n - max (parts_depth ps) (max (maybe_depth f) (maybe_targets_depth m)) = omega arith in
      rw (join_parts_complete n part reads ps using (omega arith) fits.1 (omega arith) (at_using (is_sign sign.Comma) refl refl refl refl refl refl refl refl) (at_using (is_keyword keyword.As) refl refl refl refl refl refl refl refl) (at_using (goes_on level.Expression) refl refl refl refl refl refl refl refl), enough, using_complete u filter fits.2 (at_filter (is_keyword keyword.Using) refl refl refl refl refl refl refl) (at_filter (is_sign sign.Comma) refl refl refl refl refl refl refl), maybe_exp_after_complete n part reads keyword.Filter refl f targets fits.3 (omega arith) (at_targets (is_keyword keyword.Filter) refl refl refl refl refl refl) (at_targets (goes_on level.Expression) refl refl refl refl refl refl), targets_complete n part reads m keep fits.4 (omega arith) (at_keep (is_keyword keyword.Calc) refl refl refl refl) (at_keep (is_keyword keyword.Aggr) refl refl refl refl) (at_keep (is_sign sign.Comma) refl refl refl refl) (at_keep (is_keyword keyword.Group) refl refl refl refl) (at_keep (is_keyword keyword.Having) refl refl refl refl) (at_keep (goes_on level.Expression) refl refl refl refl), maybe_keeping_complete kept renames fits.5 (at_renames (is_keyword keyword.Keep) refl refl) (at_renames (is_keyword keyword.Drop) refl refl) (at_renames (is_sign sign.Comma) refl refl) (at_renames (is_sign sign.Hash) refl refl), maybe_renames_complete rs after fits.6 refl refl, s, parts_of-list ps, maybe_exp-option f, maybe_targets-option m)
      refl
