-- Reading clauses and optional expressions gives what stands there, where reading an expression does.
use Rattle.std.proofs.Common.{◌≡◌, ◌+◌, ◌∙◌, ℕ, Option, None, Some, ◌∷◌, arith, refl, subst}
use Rattle.std.specs.Prelude.{min}
use Rattle.vtl_lexer.specs.declared.keyword.Keyword.{Keyword}
use Rattle.vtl_lexer.specs.declared.keyword.Keyword.TheVariants as keyword
use Rattle.vtl_lexer.specs.declared.token.Sign.TheVariants as sign
use Rattle.vtl_lexer.specs.declared.token.TokenKind.TheVariants as token
use Rattle.vtl_syntax.specs.Depth.{clause_depth, exp_depth, targets_depth, maybe_depth, maybe_targets_depth}
use Rattle.vtl_syntax.specs.Trees as tree
use Rattle.vtl_syntax.specs.Trees.{CalcTree, Exp, TargetsTree, calcs_of, exps_of, maybe_exp, maybe_targets, parts_of}
use Rattle.vtl_syntax.specs.declared.parts.Comp.{Comp}
use Rattle.vtl_syntax.specs.declared.word_groups.WrittenRole.{WrittenRole}
use Rattle.vtl_grammar.specs.Fits.{ClauseFits, Fits, TargetsFit, MaybeFilled, MaybeFits, MaybeKeepingFits, MaybeTargetsFit}
use Rattle.vtl_grammar.specs.Grammar.{Tokens, clause_onto, exp_onto, listed_onto, targets_onto, maybe_exp_after_onto, maybe_exp_onto, maybe_after_onto, maybe_keeping_onto, maybe_onto, maybe_targets_onto, rename_part_onto}
use Rattle.vtl_grammar.specs.Levels.{Within}
use Rattle.vtl_grammar.specs.ReadExpressions.{aggr_targets, calc_head, calc_part, calc_parts, clause, exps, join_part, join_parts, targets_part, maybe_exp_after, maybe_operand, name_clause, no_operand, pivot_clause}
use Rattle.vtl_grammar.specs.ReadParts.{alias_part, group_part, maybe_keeping, maybe_renames, sub_parts, two_comps}
use Rattle.vtl_grammar.specs.Reading.{Gets, Got, after_keyword, after_sign, got, maybe_word, word}
use Rattle.vtl_grammar.specs.Words.{comp_at, comp_token, written_role_at, written_role_token}
use Rattle.vtl_grammar.specs.declared.levels.Level.{Level}
use Rattle.vtl_grammar.specs.declared.levels.Level.TheVariants as level
use Rattle.vtl_grammar.proofs.SoundGot.{CalcFits, CalcsTreeFit, ExpsTreeFit, IsGot, PartFits, PartsTreeFit, calc_depth, calc_item_onto, calcs_as_tree, calcs_tree_depth, calcs_tree_onto, exps_as_tree, exps_tree_depth, exps_tree_onto, got_listed-sound, part_depth, part_item_onto, parts_as_tree, parts_tree_depth, parts_tree_onto}
use Rattle.vtl_grammar.proofs.SoundParts.{alias_part-sound, comp-sound, group_part-sound, maybe_keeping-sound, maybe_renames-sound, sub_parts-sound, two_comps-sound}
use Rattle.vtl_grammar.proofs.SoundSteps.{Gives, either, follow, itself, some_gives, under_test, weaker}
use Rattle.vtl_grammar.proofs.SoundTables.{written_role_table}
use Rattle.vtl_grammar.proofs.SoundTokens.{Spelled, after_keyword-sound, after_sign-sound, maybe_word-sound}

-- an expression that may stand at a place
pub record IsExp (place : Level) (n : ℕ) (ts : Tokens) (g : Got Exp) : Type 0 where
  pub spelled : ts ≡ exp_onto g.tree g.rest
  pub within : Within place g.tree
  pub fits : Fits g.tree
  pub deep : exp_depth g.tree + g.spare ≡ n

-- optional expressions
abbrev pub exp_after_onto : Keyword → Option Exp → Tokens → Tokens
exp_after_onto k o ts = maybe_exp_after_onto (token.Keyword k) (maybe_exp o) ts

abbrev pub operand_onto : Option Exp → Tokens → Tokens
operand_onto o ts = maybe_exp_onto (maybe_exp o) ts

abbrev pub OptionalFits : Option Exp → Type 0
OptionalFits o = MaybeFits (maybe_exp o)

abbrev pub optional_depth : Option Exp → ℕ
optional_depth o = maybe_depth (maybe_exp o)

abbrev pub optional_targets_onto : Option TargetsTree → Tokens → Tokens
optional_targets_onto o ts = maybe_targets_onto (maybe_targets o) ts

abbrev pub OptionalTargetsFit : Option TargetsTree → Type 0
OptionalTargetsFit o = MaybeTargetsFit (maybe_targets o)

abbrev pub optional_targets_depth : Option TargetsTree → ℕ
optional_targets_depth o = maybe_targets_depth (maybe_targets o)

abbrev calc_head_onto : Option WrittenRole × Comp → Tokens → Tokens
calc_head_onto h ts = maybe_onto written_role_token h.0 (comp_token h.1 ∷ token.Sign sign.Assign ∷ ts)

module _ (n : ℕ) (part : Gets Exp) (h : (ts : Tokens) → Gives (IsExp level.Expression n ts) (part ts)) where
  pub maybe_exp_after-sound : (k : Keyword) (ts : Tokens) → Gives (IsGot (exp_after_onto k) OptionalFits optional_depth n ts) (maybe_exp_after n part k ts)
  unfolding maybe_exp_after
  maybe_exp_after-sound k ts =
      either (after_keyword k ts) _ _ (after_keyword-sound k ts)
      (λ after e. follow (part after) _ (h after) (λ g is. some_gives (got (Some g.tree) g.spare g.rest) (record { spelled = cc; fits = is.fits; deep = is.deep })))
      (some_gives (got None n ts) (record { spelled = refl; fits = tt; deep = omega arith }))

  pub maybe_operand-sound : (ts : Tokens) → Gives (IsGot operand_onto OptionalFits optional_depth n ts) (maybe_operand n part ts)
  unfolding maybe_operand
  maybe_operand-sound ts =
      under_test (no_operand ts) _ _
      (λ e. some_gives (got None n ts) (record { spelled = refl; fits = tt; deep = omega arith }))
      (λ e. follow (part ts) _ (h ts) (λ g is. some_gives (got (Some g.tree) g.spare g.rest) (record { spelled = is.spelled; fits = is.fits; deep = is.deep })))

  exp_item : (ts : Tokens) → Gives (IsGot exp_onto Fits exp_depth n ts) (part ts)
  exp_item ts = weaker (h ts) (λ g is. record { spelled = is.spelled; fits = is.fits; deep = is.deep })

  pub exps-sound : (ts : Tokens) → Gives (IsGot exps_tree_onto ExpsTreeFit exps_tree_depth n ts) (exps part ts)
  unfolding exps
  exps-sound ts = weaker (got_listed-sound exp_onto Fits exp_depth n part exp_item ts) (exps_as_tree n ts)

  calc_head-sound : (ts : Tokens) → Gives (Spelled calc_head_onto ts) (calc_head ts)
  unfolding calc_head
  calc_head-sound ts =
      let role = maybe_word-sound written_role_token written_role_at written_role_table ts in
      follow (word comp_at (maybe_word written_role_at ts).1) _ (comp-sound (maybe_word written_role_at ts).1)
      (λ c ec. follow (after_sign sign.Assign c.1) _ (after_sign-sound sign.Assign c.1)
      (λ after ea. some_gives (((maybe_word written_role_at ts).0, c.0), after) (cc)))

  calc_part-sound : (ts : Tokens) → Gives (IsGot calc_item_onto CalcFits calc_depth n ts) (calc_part part ts)
  unfolding calc_part
  calc_part-sound ts =
      follow (calc_head ts) _ (calc_head-sound ts)
      (λ c ec. follow (part c.1) _ (h c.1)
      (λ g is. some_gives (got (record { role = c.0.0; component = c.0.1; value = g.tree }) g.spare g.rest)
      (record { spelled = cc; fits = is.fits; deep = is.deep })))

  pub calc_parts-sound : (ts : Tokens) → Gives (IsGot calcs_tree_onto CalcsTreeFit calcs_tree_depth n ts) (calc_parts part ts)
  unfolding calc_parts
  calc_parts-sound ts = weaker (got_listed-sound calc_item_onto CalcFits calc_depth n (calc_part part) calc_part-sound ts) (calcs_as_tree n ts)

  join_part-sound : (ts : Tokens) → Gives (IsGot part_item_onto PartFits part_depth n ts) (join_part part ts)
  unfolding join_part
  join_part-sound ts =
      follow (part ts) _ (h ts)
      (λ g is. follow (alias_part g.rest) _ (alias_part-sound g.rest)
      (λ a ea. some_gives (got (record { operand = g.tree; alias = a.0 }) g.spare a.1) (record { spelled = cc; fits = is.fits; deep = is.deep })))

  pub join_parts-sound : (ts : Tokens) → Gives (IsGot parts_tree_onto PartsTreeFit parts_tree_depth n ts) (join_parts part ts)
  unfolding join_parts
  join_parts-sound ts = weaker (got_listed-sound part_item_onto PartFits part_depth n (join_part part) join_part-sound ts) (parts_as_tree n ts)

  -- ---- `calc` and `aggr`

  -- what follows the word `aggr`
  aggr_targets-sound : (ts : Tokens) → Gives (IsGot targets_onto TargetsFit targets_depth n (token.Keyword keyword.Aggr ∷ ts)) (aggr_targets n part ts)
  unfolding aggr_targets
  aggr_targets-sound ts =
      follow (calc_parts part ts) _ (calc_parts-sound ts)
      (λ cs ics. follow (group_part cs.rest) _ (group_part-sound cs.rest)
      (λ g ig. follow (maybe_exp_after n part keyword.Having g.1) _ (maybe_exp_after-sound keyword.Having g.1)
      (λ o io. some_gives (got (tree.aggr (calcs_of cs.tree) g.0 (maybe_exp o.tree)) (min cs.spare o.spare) o.rest)
      (record { spelled = cc; fits = (ics.fits.0, ics.fits.1, ig.fits, io.fits); deep = omega arith }))))

  pub targets_part-sound : (ts : Tokens) → Gives (IsGot optional_targets_onto OptionalTargetsFit optional_targets_depth n ts) (targets_part n part ts)
  unfolding targets_part
  targets_part-sound ts =
      either (after_keyword keyword.Calc ts) _ _ (after_keyword-sound keyword.Calc ts)
      (λ after e. follow (calc_parts part after) _ (calc_parts-sound after)
      (λ cs is. some_gives (got (Some (tree.calc (calcs_of cs.tree))) cs.spare cs.rest) (record { spelled = cc; fits = is.fits; deep = is.deep })))
      (either (after_keyword keyword.Aggr ts) _ _ (after_keyword-sound keyword.Aggr ts)
      (λ after e. follow (aggr_targets n part after) _ (aggr_targets-sound after)
      (λ m is. some_gives (got (Some m.tree) m.spare m.rest) (record { spelled = e ∙ is.spelled; fits = is.fits; deep = is.deep })))
      (some_gives (got None n ts) (record { spelled = refl; fits = tt; deep = omega arith })))

  -- ---- clauses

  pivot_clause-sound : (ts : Tokens) → Gives (IsGot clause_onto ClauseFits clause_depth n ts) (pivot_clause n ts)
  unfolding pivot_clause
  pivot_clause-sound ts =
      either (after_keyword keyword.Pivot ts) _ _ (after_keyword-sound keyword.Pivot ts)
      (λ after e. follow (two_comps after) _ (two_comps-sound after)
      (λ p is. some_gives (got (tree.pivot p.0.0 p.0.1) n p.1) (record { spelled = cc; fits = tt; deep = omega arith })))
      (follow (after_keyword keyword.Unpivot ts) _ (after_keyword-sound keyword.Unpivot ts)
      (λ after e. follow (two_comps after) _ (two_comps-sound after)
      (λ p is. some_gives (got (tree.unpivot p.0.0 p.0.1) n p.1) (record { spelled = cc; fits = tt; deep = omega arith }))))

  -- the clauses with names and literals alone
  name_clause-sound : (ts : Tokens) → Gives (IsGot clause_onto ClauseFits clause_depth n ts) (name_clause n ts)
  unfolding name_clause
  name_clause-sound ts =
      follow (maybe_keeping ts) _ (maybe_keeping-sound ts)
      (λ k ik. either k.0 _ _ (itself k.0)
      (λ kept e. some_gives (got (tree.keeping kept) n k.1) (record { spelled = subst (λ o. ts ≡ maybe_keeping_onto o k.1) e ik.spelled; fits = subst MaybeKeepingFits e ik.fits; deep = omega arith }))
      (follow (maybe_renames ts) _ (maybe_renames-sound ts)
      (λ r ir. either r.0 _ _ (itself r.0)
      (λ rs e. some_gives (got (tree.rename rs) n r.1)
      (record { spelled = subst (λ o. ts ≡ maybe_after_onto (token.Keyword keyword.Rename) (listed_onto rename_part_onto) o r.1) e ir.spelled; fits = subst MaybeFilled e ir.fits; deep = omega arith }))
      (either (after_keyword keyword.Sub ts) _ _ (after_keyword-sound keyword.Sub ts)
      (λ after e. follow (sub_parts after) _ (sub_parts-sound after)
      (λ ss is. some_gives (got (tree.sub ss.0) n ss.1) (record { spelled = cc; fits = is.fits; deep = omega arith })))
      (pivot_clause-sound ts)))))

  pub clause-sound : (ts : Tokens) → Gives (IsGot clause_onto ClauseFits clause_depth n ts) (clause n part ts)
  unfolding clause
  clause-sound ts =
      follow (maybe_exp_after n part keyword.Filter ts) _ (maybe_exp_after-sound keyword.Filter ts)
      (λ f is. either f.tree _ _ (itself f.tree)
      (λ x e. some_gives (got (tree.filter x) f.spare f.rest)
      (record { spelled = subst (λ o. ts ≡ exp_after_onto keyword.Filter o f.rest) e is.spelled; fits = subst OptionalFits e is.fits; deep = subst (λ o. optional_depth o + f.spare ≡ n) e is.deep }))
      (follow (targets_part n part ts) _ (targets_part-sound ts)
      (λ m im. either m.tree _ _ (itself m.tree)
      (λ x e. some_gives (got (tree.targets x) m.spare m.rest)
      (record { spelled = subst (λ o. ts ≡ optional_targets_onto o m.rest) e im.spelled; fits = subst OptionalTargetsFit e im.fits; deep = subst (λ o. optional_targets_depth o + m.spare ≡ n) e im.deep }))
      (name_clause-sound ts))))
