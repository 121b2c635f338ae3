-- What may stand alone is read.
use Rattle.std.proofs.Common.{◌≡◌, ℕ, suc, ◌≤◌, ◌-◌, max, Bool, true, false, ◌∷◌, Some, refl, arith}
use Rattle.vtl_lexer.specs.declared.token.Sign.TheVariants as sign
use Rattle.vtl_syntax.specs.Depth.{exp_depth, exps_depth, maybe_depth, maybe_targets_depth, parts_depth, group_depth, over_depth}
use Rattle.vtl_syntax.specs.Trees as tree
use Rattle.vtl_syntax.specs.Trees.{Exp, ClauseTree}
use Rattle.vtl_syntax.specs.declared.parts.Comp.{Comp}
use Rattle.vtl_syntax.specs.declared.parts.Constant.{Constant}
use Rattle.vtl_syntax.specs.declared.parts.Constant.TheVariants as constants
use Rattle.vtl_syntax.specs.declared.parts.Numeral.TheVariants as numeral
use Rattle.vtl_grammar.specs.Fits.{Fits}
use Rattle.vtl_grammar.specs.Grammar.{Tokens, open_bracket, close_bracket, exp_onto, name_of_time}
use Rattle.vtl_grammar.specs.Levels.{Within}
use Rattle.vtl_grammar.specs.Reading.{Gets, got, is_sign, after_sign}
use Rattle.vtl_grammar.specs.ReadExpressions.{call, cast_call, closed, leaf_at, bracketed, formed, primary}
use Rattle.vtl_grammar.specs.Words.{comp_token, form_token, boolean_token}
use Rattle.vtl_grammar.specs.declared.call_forms.CallForm.{CallForm}
use Rattle.vtl_grammar.specs.declared.call_forms.CallForm.TheVariants as form
use Rattle.vtl_grammar.specs.declared.levels.Level.TheVariants as level
use Rattle.vtl_grammar.proofs.CompleteBase.{lacks_word, CompleteGets}
use Rattle.vtl_grammar.proofs.CompleteCalls.{function_complete, set_op_complete, aggregate_complete, aggregate_over_complete, value_window_complete, shift_call_complete, rank_complete, difference_complete, exists_in_complete, time_complete, check_complete, check_datapoint_complete, check_hierarchy_complete, hierarchy_complete, join_complete}
use Rattle.vtl_grammar.proofs.CompleteLevels.{goes_on, form_no_leaf, form_lacks, operator_loose, sign_apart}
use Rattle.vtl_grammar.proofs.CompleteParts.{comp_read, cast_part_complete}
use Rattle.vtl_grammar.proofs.CompleteTables.{form_read}

leaf_read : (c : Comp) → leaf_at (comp_token c) ≡ Some (tree.component c)
leaf_read c = rw (comp_read c) refl

boolean_read : (b : Bool) → leaf_at (boolean_token b) ≡ Some (tree.constant (constants.Boolean b))
boolean_read true = refl
boolean_read false = refl

module _ (n : ℕ) (part : Gets Exp) (reads : CompleteGets n part exp_onto Fits exp_depth (goes_on level.Expression)) where
  formed_complete : (f : CallForm) (inner rest : Tokens) (e : Exp) (s : ℕ) → call n part f inner ≡ Some (got e s (close_bracket ∷ rest)) → primary n part (form_token f ∷ open_bracket ∷ inner) ≡ Some (got e s rest)
  unfolding primary formed closed after_sign
  formed_complete f inner rest e s reads_call =
      let no_leaf = lacks_word leaf_at (form_token f ∷ open_bracket ∷ inner) (form_no_leaf f) in
      let no_bracket : is_sign sign.OpenBracket (form_token f) ≡ false = form_lacks (is_sign sign.OpenBracket) (sign_apart sign.OpenBracket) f in
      rw (no_leaf, no_bracket, form_read f, reads_call) refl

  cast_complete : (c : Constant) (rest : Tokens) → primary n part (exp_onto (tree.constant c) rest) ≡ Some (got (tree.constant c) n rest)
  unfolding primary call cast_call
  cast_complete (constants.Number (numeral.Integer d)) rest = refl
  cast_complete (constants.Number (numeral.Decimal d)) rest = refl
  cast_complete (constants.String s) rest = refl
  cast_complete (constants.Boolean b) rest = rw (boolean_read b) refl
  cast_complete constants.Null rest = refl
  cast_complete (constants.Cast s k) rest =
      formed_complete form.Cast _ rest (tree.constant (constants.Cast s k)) n (rw (cast_part_complete s k (close_bracket ∷ rest)) refl)

  -- what stands alone is read whatever follows it
  pub primary_complete : (e : Exp) (rest : Tokens) → Within level.Primary e → Fits e → exp_depth e ≤ suc n → primary n part (exp_onto e rest) ≡ Some (got e (suc n - exp_depth e) rest)
  unfolding primary bracketed closed call after_sign
  primary_complete (tree.if_then c a b) rest within fits shallow = absurd (omega arith)
  primary_complete (tree.binary l o r) rest within fits shallow = absurd (omega (arith, operator_loose o))
  primary_complete (tree.in_set e negated ls) rest within fits shallow = absurd (omega arith)
  primary_complete (tree.unary o e) rest within fits shallow = absurd (omega arith)
  primary_complete (tree.with_clause e c) rest within fits shallow = absurd (omega arith)
  primary_complete (tree.member e c) rest within fits shallow = absurd (omega arith)
  primary_complete (tree.component c) rest within fits shallow = let s : suc n - 1 ≡ n = omega arith in rw (leaf_read c, s) refl
  primary_complete (tree.constant c) rest within fits shallow = let s : suc n - 1 ≡ n = omega arith in rw (cast_complete c rest, s) refl
  primary_complete (tree.brackets e) rest within fits shallow =
      let s : suc n - suc (exp_depth e) ≡ n - exp_depth e = omega arith in
      rw (reads e (close_bracket ∷ rest) fits (omega arith) refl, s) refl
  primary_complete (tree.function f es) rest within fits shallow =
      let s : suc n - suc (exps_depth es) ≡ n - exps_depth es = omega arith in
      rw s (formed_complete (form.Function f) _ rest (tree.function f es) (n - exps_depth es) (function_complete n part reads f es rest fits (omega arith)))
  primary_complete (tree.aggregate f e g h) rest within fits shallow =
      let d : ℕ = max (maybe_depth e) (max (group_depth g) (maybe_depth h)) in
      let s : suc n - suc d ≡ n - d = omega arith in
      rw s (formed_complete (form.Aggregate f) _ rest (tree.aggregate f e g h) (n - d) (aggregate_complete n part reads f e g h rest fits (omega arith)))
  primary_complete (tree.aggregate_over f e o) rest within fits shallow =
      let d : ℕ = max (maybe_depth e) (over_depth o) in
      let s : suc n - suc d ≡ n - d = omega arith in
      rw s (formed_complete (form.Aggregate f) _ rest (tree.aggregate_over f e o) (n - d) (aggregate_over_complete n part reads f e o rest fits (omega arith)))
  primary_complete (tree.value_window f e o) rest within fits shallow =
      let s : suc n - suc (exp_depth e) ≡ n - exp_depth e = omega arith in
      rw s (formed_complete (form.ValueWindow f) _ rest (tree.value_window f e o) (n - exp_depth e) (value_window_complete n part reads f e o rest fits (omega arith)))
  primary_complete (tree.shift f e d l o) rest within fits shallow =
      let s : suc n - suc (exp_depth e) ≡ n - exp_depth e = omega arith in
      rw s (formed_complete (form.Shift f) _ rest (tree.shift f e d l o) (n - exp_depth e) (shift_call_complete n part reads f e d l o rest fits (omega arith)))
  primary_complete (tree.rank o) rest within fits shallow =
      let s : suc n - suc (over_depth o) ≡ n - over_depth o = omega arith in
      rw s (formed_complete form.Rank _ rest (tree.rank o) (n - over_depth o) (rank_complete n part reads o rest fits (omega arith)))
  primary_complete (tree.set_op f es) rest within fits shallow =
      let s : suc n - suc (exps_depth es) ≡ n - exps_depth es = omega arith in
      rw s (formed_complete (form.SetOp f) _ rest (tree.set_op f es) (n - exps_depth es) (set_op_complete n part reads f es rest fits (omega arith)))
  primary_complete (tree.difference f a b) rest within fits shallow =
      let d : ℕ = max (exp_depth a) (exp_depth b) in
      let s : suc n - suc d ≡ n - d = omega arith in
      rw s (formed_complete (form.Difference f) _ rest (tree.difference f a b) (n - d) (difference_complete n part reads f a b rest fits (omega arith)))
  primary_complete (tree.exists_in a b r) rest within fits shallow =
      let d : ℕ = max (exp_depth a) (exp_depth b) in
      let s : suc n - suc d ≡ n - d = omega arith in
      rw s (formed_complete form.ExistsIn _ rest (tree.exists_in a b r) (n - d) (exists_in_complete n part reads a b r rest fits (omega arith)))
  primary_complete (tree.time e c) rest within fits shallow =
      let s : suc n - suc (exp_depth e) ≡ n - exp_depth e = omega arith in
      rw s (formed_complete (form.Time (name_of_time c)) _ rest (tree.time e c) (n - exp_depth e) (time_complete n part reads e c rest fits (omega arith)))
  primary_complete (tree.check e err i o) rest within fits shallow =
      let d : ℕ = max (exp_depth e) (maybe_depth i) in
      let s : suc n - suc d ≡ n - d = omega arith in
      rw s (formed_complete form.Check _ rest (tree.check e err i o) (n - d) (check_complete n part reads e err i o rest fits (omega arith)))
  primary_complete (tree.check_datapoint e name o) rest within fits shallow =
      let s : suc n - suc (exp_depth e) ≡ n - exp_depth e = omega arith in
      rw s (formed_complete form.CheckDatapoint _ rest (tree.check_datapoint e name o) (n - exp_depth e) (check_datapoint_complete n part reads e name o rest fits (omega arith)))
  primary_complete (tree.check_hierarchy e name r m d o) rest within fits shallow =
      let s : suc n - suc (exp_depth e) ≡ n - exp_depth e = omega arith in
      rw s (formed_complete form.CheckHierarchy _ rest (tree.check_hierarchy e name r m d o) (n - exp_depth e) (check_hierarchy_complete n part reads e name r m d o rest fits (omega arith)))
  primary_complete (tree.hierarchy e name r m i o) rest within fits shallow =
      let s : suc n - suc (exp_depth e) ≡ n - exp_depth e = omega arith in
      rw s (formed_complete form.Hierarchy _ rest (tree.hierarchy e name r m i o) (n - exp_depth e) (hierarchy_complete n part reads e name r m i o rest fits (omega arith)))
  primary_complete (tree.join k ps u f m kept rs) rest within fits shallow =
      let d : ℕ = max (parts_depth ps) (max (maybe_depth f) (maybe_targets_depth m)) in
      let s : suc n - suc d ≡ n - d = omega arith in
      rw s (formed_complete (form.Join k) _ rest (tree.join k ps u f m kept rs) (n - d) (join_complete n part reads k ps u f m kept rs rest fits (omega arith)))
