-- Reading what stands between the brackets of a call gives the call, where reading an expression gives an expression.
use Rattle.std.proofs.Common.{◌≡◌, ◌≤◌, ◌+◌, ◌-◌, ℕ, suc, Option, None, Some, List, ◌∷◌, arith, true, length, refl}
use Rattle.std.specs.Prelude.{max, min, nat_le}
use Rattle.std.proofs.lemmas.Bool.Decides.{nat_tests}
use Rattle.vtl_lexer.specs.declared.keyword.Keyword.TheVariants as keyword
use Rattle.vtl_lexer.specs.declared.token.Sign.TheVariants as sign
use Rattle.vtl_syntax.specs.Depth.{exp_depth, group_depth, over_depth}
use Rattle.vtl_syntax.specs.Trees as tree
use Rattle.vtl_syntax.specs.Trees.{Exp, PartTree, exps_of, maybe_exp, maybe_targets, parts_of}
use Rattle.vtl_syntax.specs.declared.parts.Constant.TheVariants as constants
use Rattle.vtl_syntax.specs.declared.word_groups.AggregateName.{AggregateName}
use Rattle.vtl_syntax.specs.declared.word_groups.DifferenceName.{DifferenceName}
use Rattle.vtl_syntax.specs.declared.word_groups.FunctionName.{FunctionName}
use Rattle.vtl_syntax.specs.declared.word_groups.JoinKind.{JoinKind}
use Rattle.vtl_syntax.specs.declared.word_groups.SetOpName.{SetOpName}
use Rattle.vtl_syntax.specs.declared.word_groups.ShiftName.{ShiftName}
use Rattle.vtl_syntax.specs.declared.word_groups.TimeName.{TimeName}
use Rattle.vtl_syntax.specs.declared.word_groups.ValueWindowName.{ValueWindowName}
use Rattle.vtl_grammar.specs.Fits.{Fits, parts_count}
use Rattle.vtl_grammar.specs.Grammar.{Tokens, close_bracket, comma, dataset_onto, exp_onto, maybe_onto, open_bracket}
use Rattle.vtl_grammar.specs.Levels.{level_of}
use Rattle.vtl_grammar.specs.ReadExpressions.{aggregate_call, call, cast_call, check_call, check_datapoint_call, check_hierarchy_call, dataset_part, difference_call, exists_in_call, exps, function_call, group_call, hierarchy_call, join_body, join_call, join_parts, targets_part, maybe_exp_after, maybe_operand, over_call, rank_call, set_op_call, shift_call, time_call, two_exps, value_window_call}
use Rattle.vtl_grammar.specs.ReadParts.{cast_part, error_part, group_part, maybe_keeping, maybe_renames, over_part, retain_part, rule_part, ruleset_part, shift_part, time_part, using_part}
use Rattle.vtl_grammar.specs.Reading.{Gets, Got, after_keyword, after_sign, got, maybe_word, spared}
use Rattle.vtl_grammar.specs.Words.{basic_out_at, basic_out_token, check_out_at, check_out_token, form_token, hier_input_at, hier_input_token, hier_out_at, hier_out_token, mode_at, mode_token}
use Rattle.vtl_grammar.specs.declared.call_forms.CallForm.{CallForm}
use Rattle.vtl_grammar.specs.declared.call_forms.CallForm.TheVariants as form
use Rattle.vtl_grammar.specs.declared.levels.Level.TheVariants as level
use Rattle.vtl_grammar.proofs.SoundForms.{IsExp, OptionalFits, operand_onto, optional_depth, exps-sound, join_parts-sound, targets_part-sound, maybe_exp_after-sound, maybe_operand-sound}
use Rattle.vtl_grammar.proofs.SoundGot.{IsGot, PartsTreeFit, exps_counted, parts_counted, parts_tree_depth, parts_tree_onto}
use Rattle.vtl_grammar.proofs.SoundParts.{cast_part-sound, error_part-sound, group_part-sound, maybe_keeping-sound, maybe_renames-sound, over_part-sound, retain_part-sound, rule_part-sound, ruleset_part-sound, shift_part-sound, time_part-sound, using_part-sound}
use Rattle.vtl_grammar.proofs.SoundSteps.{Gives, either, either_way, follow, none_gives, some_gives, under_test}
use Rattle.vtl_grammar.proofs.SoundTables.{basic_out_table, check_out_table, hier_input_table, hier_out_table, mode_table}
use Rattle.vtl_grammar.proofs.SoundTokens.{Spelled, after_keyword-sound, after_sign-sound, maybe_word-sound}

-- a call of the form whose brackets hold the first tokens, to be closed
pub record IsCall (f : CallForm) (n : ℕ) (inner : Tokens) (g : Got Exp) : Type 0 where
  pub spelled : (rest : Tokens) → g.rest ≡ close_bracket ∷ rest → form_token f ∷ open_bracket ∷ inner ≡ exp_onto g.tree rest
  pub tight : level_of g.tree ≡ level.Primary
  pub fits : Fits g.tree
  pub deep : exp_depth g.tree + g.spare ≡ suc n

spared-sound : (n depth : ℕ) → Gives (λ s. depth + s ≡ n) (spared n depth)
spared-sound n depth =
    under_test (nat_le depth n) (Some (n - depth)) None
    (λ e. let le : depth ≤ n = at_most depth n e in some_gives (n - depth) (omega arith))
    (λ e. none_gives)
  where
    at_most : (a b : ℕ) → nat_le a b ≡ true → a ≤ b
    at_most a b e = grind (arith, nat_tests)

two_counted : (k : ℕ) → nat_le 2 k ≡ true → 2 ≤ k
two_counted k e = grind (arith, nat_tests)

module _ (n : ℕ) (part : Gets Exp) (h : (ts : Tokens) → Gives (IsExp level.Expression n ts) (part ts)) where
  function_call-sound : (f : FunctionName) (ts : Tokens) → Gives (IsCall (form.Function f) n ts) (function_call part f ts)
  unfolding function_call
  function_call-sound f ts =
      follow (exps part ts) _ (exps-sound n part h ts)
      (λ es is. some_gives (got (tree.function f (exps_of es.tree)) es.spare es.rest)
      (record { spelled = λ rest e. cc; tight = refl; fits = is.fits; deep = omega arith }))

  set_op_call-sound : (f : SetOpName) (ts : Tokens) → Gives (IsCall (form.SetOp f) n ts) (set_op_call part f ts)
  unfolding set_op_call
  set_op_call-sound f ts =
      follow (exps part ts) _ (exps-sound n part h ts)
      (λ es is. under_test (nat_le 2 (length es.tree)) _ None
      (λ t. some_gives (got (tree.set_op f (exps_of es.tree)) es.spare es.rest)
      (record { spelled = λ rest e. cc; tight = refl; fits = (rw (exps_counted es.tree) (two_counted (length es.tree) t), is.fits.1); deep = omega arith }))
      (λ t. none_gives))

  -- ---- aggregates and windows

  -- an aggregate after its operand
  over_call-sound : (f : AggregateName) (ts : Tokens) (e : Got (Option Exp)) → IsGot operand_onto OptionalFits optional_depth n ts e → Gives (IsCall (form.Aggregate f) n ts) (over_call n f e)
  unfolding over_call
  over_call-sound f ts e is =
      follow (over_part e.rest) _ (over_part-sound e.rest)
      (λ o io. follow (spared n (over_depth o.0)) _ (spared-sound n (over_depth o.0))
      (λ s es. some_gives (got (tree.aggregate_over f (maybe_exp e.tree) o.0) (min e.spare s) o.1)
      (record { spelled = λ rest er. cc; tight = refl; fits = (is.fits, io.fits); deep = omega arith })))

  group_call-sound : (f : AggregateName) (ts : Tokens) (e : Got (Option Exp)) → IsGot operand_onto OptionalFits optional_depth n ts e → Gives (IsCall (form.Aggregate f) n ts) (group_call n part f e)
  unfolding group_call
  group_call-sound f ts e is =
      follow (group_part e.rest) _ (group_part-sound e.rest)
      (λ g ig. follow (spared n (group_depth g.0)) _ (spared-sound n (group_depth g.0))
      (λ s es. follow (maybe_exp_after n part keyword.Having g.1) _ (maybe_exp_after-sound n part h keyword.Having g.1)
      (λ o io. some_gives (got (tree.aggregate f (maybe_exp e.tree) g.0 (maybe_exp o.tree)) (min e.spare (min s o.spare)) o.rest)
      (record { spelled = λ rest er. cc; tight = refl; fits = (is.fits, ig.fits, io.fits); deep = omega arith }))))

  aggregate_call-sound : (f : AggregateName) (ts : Tokens) → Gives (IsCall (form.Aggregate f) n ts) (aggregate_call n part f ts)
  unfolding aggregate_call
  aggregate_call-sound f ts =
      follow (maybe_operand n part ts) _ (maybe_operand-sound n part h ts)
      (λ e is. either (after_keyword keyword.Over e.rest) _ _ (after_keyword-sound keyword.Over e.rest) (λ after ea. over_call-sound f ts e is) (group_call-sound f ts e is))

  value_window_call-sound : (f : ValueWindowName) (ts : Tokens) → Gives (IsCall (form.ValueWindow f) n ts) (value_window_call part f ts)
  unfolding value_window_call
  value_window_call-sound f ts =
      follow (part ts) _ (h ts)
      (λ e is. follow (over_part e.rest) _ (over_part-sound e.rest)
      (λ o io. some_gives (got (tree.value_window f e.tree o.0) e.spare o.1)
      (record { spelled = λ rest er. cc; tight = refl; fits = (is.fits, io.fits); deep = omega arith })))

  shift_call-sound : (f : ShiftName) (ts : Tokens) → Gives (IsCall (form.Shift f) n ts) (shift_call part f ts)
  unfolding shift_call
  shift_call-sound f ts =
      follow (part ts) _ (h ts)
      (λ e is. follow (shift_part e.rest) _ (shift_part-sound e.rest)
      (λ p ep. follow (over_part p.1) _ (over_part-sound p.1)
      (λ o io. some_gives (got (tree.shift f e.tree p.0.0 p.0.1 o.0) e.spare o.1)
      (record { spelled = λ rest er. cc; tight = refl; fits = (is.fits, io.fits); deep = omega arith }))))

  rank_call-sound : (ts : Tokens) → Gives (IsCall form.Rank n ts) (rank_call n ts)
  unfolding rank_call
  rank_call-sound ts =
      follow (over_part ts) _ (over_part-sound ts)
      (λ o io. follow (spared n (over_depth o.0)) _ (spared-sound n (over_depth o.0))
      (λ s es. some_gives (got (tree.rank o.0) s o.1) (record { spelled = λ rest er. cc; tight = refl; fits = io.fits; deep = omega arith })))

  -- ---- two operands

  abbrev two_exps_onto : Exp × Exp → Tokens → Tokens
  two_exps_onto p ts = exp_onto p.0 (comma ∷ exp_onto p.1 ts)

  abbrev TwoFit : Exp × Exp → Type 0
  TwoFit p = Fits p.0 × Fits p.1

  abbrev two_depth : Exp × Exp → ℕ
  two_depth p = max (exp_depth p.0) (exp_depth p.1)

  two_exps-sound : (ts : Tokens) → Gives (IsGot two_exps_onto TwoFit two_depth n ts) (two_exps part ts)
  unfolding two_exps
  two_exps-sound ts =
      follow (part ts) _ (h ts)
      (λ a ia. follow (after_sign sign.Comma a.rest) _ (after_sign-sound sign.Comma a.rest)
      (λ after e. follow (part after) _ (h after)
      (λ b ib. some_gives (got (a.tree, b.tree) (min a.spare b.spare) b.rest) (record { spelled = cc; fits = (ia.fits, ib.fits); deep = omega arith }))))

  difference_call-sound : (f : DifferenceName) (ts : Tokens) → Gives (IsCall (form.Difference f) n ts) (difference_call part f ts)
  unfolding difference_call
  difference_call-sound f ts =
      follow (two_exps part ts) _ (two_exps-sound ts)
      (λ p is. some_gives (got (tree.difference f p.tree.0 p.tree.1) p.spare p.rest) (record { spelled = λ rest er. cc; tight = refl; fits = is.fits; deep = omega arith }))

  exists_in_call-sound : (ts : Tokens) → Gives (IsCall form.ExistsIn n ts) (exists_in_call part ts)
  unfolding exists_in_call
  exists_in_call-sound ts =
      follow (two_exps part ts) _ (two_exps-sound ts)
      (λ p is. follow (retain_part p.rest) _ (retain_part-sound p.rest)
      (λ r ir. some_gives (got (tree.exists_in p.tree.0 p.tree.1 r.0) p.spare r.1) (record { spelled = λ rest er. cc; tight = refl; fits = is.fits; deep = omega arith })))

  -- ---- time operators

  time_call-sound : (f : TimeName) (ts : Tokens) → Gives (IsCall (form.Time f) n ts) (time_call part f ts)
  unfolding time_call
  time_call-sound f ts =
      follow (part ts) _ (h ts)
      (λ e is. follow (time_part f e.rest) _ (time_part-sound f e.rest)
      (λ c ic.
      let named = ic.name in
      let behind = ic.spelled in
      some_gives (got (tree.time e.tree c.0) e.spare c.1) (record { spelled = λ rest er. cc; tight = refl; fits = is.fits; deep = omega arith })))

  -- ---- checks and hierarchies

  check_call-sound : (ts : Tokens) → Gives (IsCall form.Check n ts) (check_call n part ts)
  unfolding check_call
  check_call-sound ts =
      follow (part ts) _ (h ts)
      (λ e is. follow (error_part e.rest) _ (error_part-sound e.rest)
      (λ err ie. follow (maybe_exp_after n part keyword.Imbalance err.1) _ (maybe_exp_after-sound n part h keyword.Imbalance err.1)
      (λ i ii.
      let o = maybe_word basic_out_at i.rest in
      let io : i.rest ≡ maybe_onto basic_out_token o.0 o.1 = maybe_word-sound basic_out_token basic_out_at basic_out_table i.rest in
      some_gives (got (tree.check e.tree err.0 (maybe_exp i.tree) o.0) (min e.spare i.spare) o.1)
      (record { spelled = λ rest er. cc; tight = refl; fits = (is.fits, ii.fits); deep = omega arith }))))

  check_datapoint_call-sound : (ts : Tokens) → Gives (IsCall form.CheckDatapoint n ts) (check_datapoint_call part ts)
  unfolding check_datapoint_call
  check_datapoint_call-sound ts =
      follow (part ts) _ (h ts)
      (λ e is. follow (ruleset_part e.rest) _ (ruleset_part-sound e.rest)
      (λ r ir.
      let o = maybe_word check_out_at r.1 in
      let io : r.1 ≡ maybe_onto check_out_token o.0 o.1 = maybe_word-sound check_out_token check_out_at check_out_table r.1 in
      some_gives (got (tree.check_datapoint e.tree r.0 o.0) e.spare o.1) (record { spelled = λ rest er. cc; tight = refl; fits = is.fits; deep = omega arith })))

  dataset_part-sound : (ts : Tokens) → Spelled dataset_onto ts (dataset_part ts)
  dataset_part-sound ts = either_way (Spelled dataset_onto ts) (after_keyword keyword.Dataset ts) _ _ (after_keyword-sound keyword.Dataset ts) (λ after e. e) refl

  check_hierarchy_call-sound : (ts : Tokens) → Gives (IsCall form.CheckHierarchy n ts) (check_hierarchy_call part ts)
  unfolding check_hierarchy_call
  check_hierarchy_call-sound ts =
      follow (part ts) _ (h ts)
      (λ e is. follow (ruleset_part e.rest) _ (ruleset_part-sound e.rest)
      (λ name iname.
      let r = rule_part name.1 in
      let ir = rule_part-sound name.1 in
      let m = maybe_word mode_at r.1 in
      let im : r.1 ≡ maybe_onto mode_token m.0 m.1 = maybe_word-sound mode_token mode_at mode_table r.1 in
      let d = dataset_part m.1 in
      let id = dataset_part-sound m.1 in
      let o = maybe_word check_out_at d.1 in
      let io : d.1 ≡ maybe_onto check_out_token o.0 o.1 = maybe_word-sound check_out_token check_out_at check_out_table d.1 in
      some_gives (got (tree.check_hierarchy e.tree name.0 r.0 m.0 d.0 o.0) e.spare o.1) (record { spelled = λ rest er. cc; tight = refl; fits = is.fits; deep = omega arith })))

  hierarchy_call-sound : (ts : Tokens) → Gives (IsCall form.Hierarchy n ts) (hierarchy_call part ts)
  unfolding hierarchy_call
  hierarchy_call-sound ts =
      follow (part ts) _ (h ts)
      (λ e is. follow (ruleset_part e.rest) _ (ruleset_part-sound e.rest)
      (λ name iname.
      let r = rule_part name.1 in
      let ir = rule_part-sound name.1 in
      let m = maybe_word mode_at r.1 in
      let im : r.1 ≡ maybe_onto mode_token m.0 m.1 = maybe_word-sound mode_token mode_at mode_table r.1 in
      let i = maybe_word hier_input_at m.1 in
      let ii : m.1 ≡ maybe_onto hier_input_token i.0 i.1 = maybe_word-sound hier_input_token hier_input_at hier_input_table m.1 in
      let o = maybe_word hier_out_at i.1 in
      let io : i.1 ≡ maybe_onto hier_out_token o.0 o.1 = maybe_word-sound hier_out_token hier_out_at hier_out_table i.1 in
      some_gives (got (tree.hierarchy e.tree name.0 r.0 m.0 i.0 o.0) e.spare o.1) (record { spelled = λ rest er. cc; tight = refl; fits = is.fits; deep = omega arith })))

  -- ---- joins and casts

  join_body-sound : (k : JoinKind) (ts : Tokens) (ps : Got (List PartTree)) → 2 ≤ parts_count (parts_of ps.tree) → IsGot parts_tree_onto PartsTreeFit parts_tree_depth n ts ps → Gives (IsCall (form.Join k) n ts) (join_body n part k ps)
  unfolding join_body
  join_body-sound k ts ps two is =
      follow (using_part ps.rest) _ (using_part-sound ps.rest)
      (λ u iu. follow (maybe_exp_after n part keyword.Filter u.1) _ (maybe_exp_after-sound n part h keyword.Filter u.1)
      (λ f iff. follow (targets_part n part f.rest) _ (targets_part-sound n part h f.rest)
      (λ m im. follow (maybe_keeping m.rest) _ (maybe_keeping-sound m.rest)
      (λ kept ik. follow (maybe_renames kept.1) _ (maybe_renames-sound kept.1)
      (λ rs ir. some_gives (got (tree.join k (parts_of ps.tree) u.0 (maybe_exp f.tree) (maybe_targets m.tree) kept.0 rs.0) (min ps.spare (min f.spare m.spare)) rs.1)
      (record { spelled = λ rest er. cc; tight = refl; fits = (two, is.fits, iu.fits, iff.fits, im.fits, ik.fits, ir.fits); deep = omega arith }))))))

  join_call-sound : (k : JoinKind) (ts : Tokens) → Gives (IsCall (form.Join k) n ts) (join_call n part k ts)
  unfolding join_call
  join_call-sound k ts =
      follow (join_parts part ts) _ (join_parts-sound n part h ts)
      (λ ps is. under_test (nat_le 2 (length ps.tree)) _ None
      (λ t. join_body-sound k ts ps (rw (parts_counted ps.tree) (two_counted (length ps.tree) t)) is)
      (λ t. none_gives))

  cast_call-sound : (ts : Tokens) → Gives (IsCall form.Cast n ts) (cast_call n ts)
  unfolding cast_call
  cast_call-sound ts =
      follow (cast_part ts) _ (cast_part-sound ts)
      (λ p is. some_gives (got (tree.constant (constants.Cast p.0.0 p.0.1)) n p.1) (record { spelled = λ rest er. cc; tight = refl; fits = tt; deep = omega arith }))

  pub call-sound : (f : CallForm) (ts : Tokens) → Gives (IsCall f n ts) (call n part f ts)
  unfolding call
  call-sound (form.Function f) ts = function_call-sound f ts
  call-sound (form.Aggregate f) ts = aggregate_call-sound f ts
  call-sound (form.ValueWindow f) ts = value_window_call-sound f ts
  call-sound (form.Shift f) ts = shift_call-sound f ts
  call-sound form.Rank ts = rank_call-sound ts
  call-sound (form.SetOp f) ts = set_op_call-sound f ts
  call-sound (form.Difference f) ts = difference_call-sound f ts
  call-sound form.ExistsIn ts = exists_in_call-sound ts
  call-sound (form.Time f) ts = time_call-sound f ts
  call-sound form.Check ts = check_call-sound ts
  call-sound form.CheckDatapoint ts = check_datapoint_call-sound ts
  call-sound form.CheckHierarchy ts = check_hierarchy_call-sound ts
  call-sound form.Hierarchy ts = hierarchy_call-sound ts
  call-sound (form.Join k) ts = join_call-sound k ts
  call-sound form.Cast ts = cast_call-sound ts
