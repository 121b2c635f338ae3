-- The statements that end with their `;` are those of the grammar.
use Rattle.std.proofs.Common.{◌≡◌, ◌∷◌, ◌++◌, ◌∙◌, [], List, Bool, true, false, cond, Option, Some, None, ℕ, map, sym, ap, refl}
use Rattle.std.proofs.lemmas.Bool.{false≢true}
use Rattle.vtl_lexer.specs.declared.keyword.Keyword.TheVariants as keyword
use Rattle.vtl_lexer.specs.declared.token.Sign.TheVariants as sign
use Rattle.vtl_lexer.specs.declared.token.Token.{Token}
use Rattle.vtl_lexer.specs.declared.token.TokenKind.{TokenKind}
use Rattle.vtl_lexer.specs.declared.token.TokenKind.TheVariants as token
use Rattle.vtl_syntax.specs.Trees.{if_then, binary, in_set, unary, with_clause, member, component, constant, brackets, function, aggregate, aggregate_over, value_window, shift, rank, set_op, difference, exists_in, time, check, check_datapoint, check_hierarchy, hierarchy, join, no_exps, exp, no_exp, some_exp, filter, targets, keeping, rename, sub, pivot, unpivot, calc, aggr, no_targets, some_targets, no_calcs, calc_part, no_parts, join_part, point_rule, StatementTree, assignment, datapoint, hierarchical, ScriptTree}
use Rattle.vtl_syntax.specs.declared.parts.Comp.{Comp}
use Rattle.vtl_syntax.specs.declared.parts.Comp.TheVariants as comp
use Rattle.vtl_syntax.specs.declared.parts.Constant.TheVariants as constants
use Rattle.vtl_syntax.specs.declared.parts.Keeping.TheVariants as kept
use Rattle.vtl_syntax.specs.declared.parts.Limit.TheVariants as limit
use Rattle.vtl_syntax.specs.declared.parts.Literal.TheVariants as literal
use Rattle.vtl_syntax.specs.declared.parts.Numeral.{Numeral}
use Rattle.vtl_syntax.specs.declared.parts.Numeral.TheVariants as numeral
use Rattle.vtl_syntax.specs.declared.parts.Reference.TheVariants as reference
use Rattle.vtl_syntax.specs.declared.parts.TimeCall.TheVariants as time_call
use Rattle.vtl_syntax.specs.declared.word_groups.Addition.{Addition}
use Rattle.vtl_syntax.specs.declared.word_groups.CastKind.{CastKind}
use Rattle.vtl_grammar.specs.declared.call_forms.CallForm.{CallForm}
use Rattle.vtl_grammar.specs.declared.call_forms.CallForm.TheVariants as form
use Rattle.vtl_grammar.specs.Faults.{kinds}
use Rattle.vtl_grammar.specs.Fits.{SpellsScript}
use Rattle.vtl_grammar.specs.Grammar.{Tokens, comma, open_bracket, close_bracket, more_onto, listed_onto, maybe_onto, maybe_after_onto, comp_onto, comps_onto, constant_onto, literal_onto, set_onto, string_onto, integer_onto, name_onto, error_onto, group_onto, order_part_onto, limit_onto, partition_onto, order_onto, points_onto, over_onto, reference_onto, keeping_onto, maybe_keeping_onto, rename_part_onto, sub_part_onto, dataset_onto, retain_onto, name_of_time, time_part_onto, exp_onto, exps_onto, more_exps_onto, maybe_exp_onto, maybe_exp_after_onto, clause_onto, targets_onto, maybe_targets_onto, calcs_onto, more_calcs_onto, parts_onto, more_parts_onto, rule_name_onto, when_onto, point_rule_onto, signed_onto, hier_rule_onto, more_rules_onto, rules_onto, statement_onto, script_onto}
use Rattle.vtl_grammar.specs.Words.{addition_at, addition_token, assign_kind_at, assign_kind_token, basic_out_at, basic_out_token, binary_op_at, binary_op_token, boolean_token, cast_kind_at, cast_kind_token, check_out_at, check_out_token, comp_token, comparison_at, comparison_token, direction_at, direction_token, filling_at, filling_token, form_at, form_token, group_kind_at, group_kind_token, hier_input_at, hier_input_token, hier_out_at, hier_out_token, in_token, mode_at, mode_token, numeral_token, retain_at, retain_token, side_at, side_token, unary_op_at, unary_op_token, written_role_at, written_role_token}
use Rattle.vtl_grammar.proofs.AppendExpressions.{statement-append}
use Rattle.vtl_grammar.proofs.CompleteTables.{addition_read, assign_kind_read, basic_out_read, binary_op_read, cast_kind_read, check_out_read, comparison_read, direction_read, filling_read, form_read, group_kind_read, hier_input_read, hier_out_read, mode_read, retain_read, side_read, unary_op_read, written_role_read}
use Rattle.vtl_format.specs.Form.{ends_statement, is_inside, kinds_of, lexemes_at, statements, with_first}
use Rattle.vtl_format.specs.Layout.{Lexeme}

-- ---- one statement

abbrev is_nothing : Tokens → Bool
is_nothing [] = true
is_nothing (kind ∷ rest) = false

-- the tokens are one statement, or all that is left of one
abbrev closed : Bool → Tokens → Bool
closed inside [] = false
closed inside (first ∷ rest) = cond (ends_statement inside first) (is_nothing rest) (closed (is_inside inside first) rest)

-- what is written before them goes on to be so
abbrev Keeps : {A : Type 0} → Bool → (A → Tokens → Tokens) → Type 0
Keeps {A} inside onto = (x : A) (ts : Tokens) → closed inside ts ≡ true → closed inside (onto x ts) ≡ true

-- ---- words

-- a token that ends no statement, and neither begins nor ends a definition
abbrev plain : TokenKind → Bool
plain (token.Sign sign.Semicolon) = false
plain (token.Keyword keyword.Define) = false
plain (token.Keyword keyword.End) = false
plain kind = true

plain-closed : (inside : Bool) (kind : TokenKind) (ts : Tokens) → plain kind ≡ true → closed inside ts ≡ true → closed inside (kind ∷ ts) ≡ true
plain-closed inside (token.Sign sign.Semicolon) ts e h = absurd (false≢true e)
plain-closed inside (token.Keyword keyword.Define) ts e h = absurd (false≢true e)
plain-closed inside (token.Keyword keyword.End) ts e h = absurd (false≢true e)
plain-closed inside kind ts e h = h

-- a table has none of these three tokens, where it gives nothing for them
word-plain : {A : Type 0} (at : TokenKind → Option A) (token_of : A → TokenKind) → ((x : A) → at (token_of x) ≡ Some x) → at (token.Sign sign.Semicolon) ≡ None → at (token.Keyword keyword.Define) ≡ None → at (token.Keyword keyword.End) ≡ None
    → (x : A) → plain (token_of x) ≡ true
word-plain at token_of read semicolon define end x = by (token_of x) (read x)
  where
    by : (kind : TokenKind) → at kind ≡ Some x → plain kind ≡ true
    by (token.Sign sign.Semicolon) e = cc (e, semicolon)
    by (token.Keyword keyword.Define) e = cc (e, define)
    by (token.Keyword keyword.End) e = cc (e, end)
    by kind e = refl

call-plain : (call : CallForm) → plain (form_token call) ≡ true
call-plain = word-plain form_at form_token form_read refl refl refl

cast_kind-plain : (x : CastKind) → plain (cast_kind_token x) ≡ true
cast_kind-plain = word-plain cast_kind_at cast_kind_token cast_kind_read refl refl refl

addition-plain : (x : Addition) → plain (addition_token x) ≡ true
addition-plain = word-plain addition_at addition_token addition_read refl refl refl

comp-plain : (c : Comp) → plain (comp_token c) ≡ true
comp-plain (comp.Name n) = refl
comp-plain (comp.Quoted n) = refl

numeral-plain : (n : Numeral) → plain (numeral_token n) ≡ true
numeral-plain (numeral.Integer d) = refl
numeral-plain (numeral.Decimal d) = refl

boolean-plain : (b : Bool) → plain (boolean_token b) ≡ true
boolean-plain true = refl
boolean-plain false = refl

in-plain : (negated : Bool) → plain (in_token negated) ≡ true
in-plain true = refl
in-plain false = refl

-- ---- parts
module _ (i : Bool) where
  word-keeps : {A : Type 0} (token_of : A → TokenKind) → ((x : A) → plain (token_of x) ≡ true) → Keeps i (λ (x : A) ts. token_of x ∷ ts)
  word-keeps token_of told x ts = plain-closed i (token_of x) ts (told x)

  more-keeps : {A : Type 0} (item : A → Tokens → Tokens) → Keeps i item → Keeps i (more_onto item)
  more-keeps item keeps [] ts h = h
  more-keeps item keeps (x ∷ xs) ts h = keeps x (more_onto item xs ts) (more-keeps item keeps xs ts h)

  listed-keeps : {A : Type 0} (item : A → Tokens → Tokens) → Keeps i item → Keeps i (listed_onto item)
  listed-keeps item keeps [] ts h = h
  listed-keeps item keeps (x ∷ xs) ts h = keeps x (more_onto item xs ts) (more-keeps item keeps xs ts h)

  maybe-keeps : {A : Type 0} (token_of : A → TokenKind) → ((x : A) → plain (token_of x) ≡ true) → Keeps i (maybe_onto token_of)
  maybe-keeps token_of told None ts h = h
  maybe-keeps token_of told (Some x) ts h = plain-closed i (token_of x) ts (told x) h

  maybe_after-keeps : {A : Type 0} (first : TokenKind) (item : A → Tokens → Tokens) → plain first ≡ true → Keeps i item → Keeps i (maybe_after_onto first item)
  maybe_after-keeps first item told keeps None ts h = h
  maybe_after-keeps first item told keeps (Some x) ts h = plain-closed i first (item x ts) told (keeps x ts h)

  comp-keeps : Keeps i comp_onto
  comp-keeps = word-keeps comp_token comp-plain

  comps-keeps : Keeps i comps_onto
  comps-keeps = listed-keeps comp_onto comp-keeps

  constant-keeps : Keeps i constant_onto
  constant-keeps (constants.Number n) ts h = plain-closed i (numeral_token n) ts (numeral-plain n) h
  constant-keeps (constants.String t) ts h = h
  constant-keeps (constants.Boolean b) ts h = plain-closed i (boolean_token b) ts (boolean-plain b) h
  constant-keeps constants.Null ts h = h
  constant-keeps (constants.Cast t c) ts h = plain-closed i (cast_kind_token c) (close_bracket ∷ ts) (cast_kind-plain c) h

  literal-keeps : Keeps i literal_onto
  literal-keeps (literal.Number true n) ts h = plain-closed i (numeral_token n) ts (numeral-plain n) h
  literal-keeps (literal.Number false n) ts h = plain-closed i (numeral_token n) ts (numeral-plain n) h
  literal-keeps (literal.String t) ts h = h
  literal-keeps (literal.Boolean b) ts h = plain-closed i (boolean_token b) ts (boolean-plain b) h
  literal-keeps (literal.Cast t c) ts h = plain-closed i (cast_kind_token c) (close_bracket ∷ ts) (cast_kind-plain c) h

  set-keeps : Keeps i set_onto
  set-keeps ls ts h = listed-keeps literal_onto literal-keeps ls (token.Sign sign.CloseBrace ∷ ts) h

  string-keeps : Keeps i string_onto
  string-keeps t ts h = h

  integer-keeps : Keeps i integer_onto
  integer-keeps d ts h = h

  name-keeps : Keeps i name_onto
  name-keeps n ts h = h

  error-keeps : Keeps i error_onto
  error-keeps e ts h =
      maybe_after-keeps (token.Keyword keyword.Errorcode) string_onto refl string-keeps e.code (maybe_after_onto (token.Keyword keyword.Errorlevel) integer_onto e.level ts)
      (maybe_after-keeps (token.Keyword keyword.Errorlevel) integer_onto refl integer-keeps e.level ts h)

  group-keeps : Keeps i group_onto
  group-keeps None ts h = h
  group-keeps (Some g) ts h = word-keeps group_kind_token (word-plain group_kind_at group_kind_token group_kind_read refl refl refl) g.kind (comps_onto g.names ts) (comps-keeps g.names ts h)

  order_part-keeps : Keeps i order_part_onto
  order_part-keeps o ts h =
      comp-keeps o.component (maybe_onto direction_token o.direction ts) (maybe-keeps direction_token (word-plain direction_at direction_token direction_read refl refl refl) o.direction ts h)

  side-keeps : Keeps i (λ x ts. side_token x ∷ ts)
  side-keeps = word-keeps side_token (word-plain side_at side_token side_read refl refl refl)

  limit-keeps : Keeps i limit_onto
  limit-keeps (limit.Unbounded side) ts h = side-keeps side ts h
  limit-keeps (limit.Points d side) ts h = side-keeps side ts h
  limit-keeps limit.Current ts h = h

  partition-keeps : Keeps i partition_onto
  partition-keeps None ts h = h
  partition-keeps (Some cs) ts h = comps-keeps cs ts h

  order-keeps : Keeps i order_onto
  order-keeps None ts h = h
  order-keeps (Some os) ts h = listed-keeps order_part_onto order_part-keeps os ts h

  points-keeps : Keeps i points_onto
  points-keeps None ts h = h
  points-keeps (Some p) ts h = limit-keeps p.from (token.Keyword keyword.And ∷ limit_onto p.to ts) (limit-keeps p.to ts h)

  over-keeps : Keeps i over_onto
  over-keeps o ts h =
      let points : Tokens = points_onto o.points (close_bracket ∷ ts) in
      partition-keeps o.partition (order_onto o.order points) (order-keeps o.order points (points-keeps o.points (close_bracket ∷ ts) h))

  reference-keeps : Keeps i reference_onto
  reference-keeps (reference.Component c) ts h = comp-keeps c ts h
  reference-keeps (reference.Member n c) ts h = comp-keeps c ts h

  keeping-keeps : Keeps i keeping_onto
  keeping-keeps (kept.Keep rs) ts h = listed-keeps reference_onto reference-keeps rs ts h
  keeping-keeps (kept.Drop rs) ts h = listed-keeps reference_onto reference-keeps rs ts h

  maybe_keeping-keeps : Keeps i maybe_keeping_onto
  maybe_keeping-keeps None ts h = h
  maybe_keeping-keeps (Some k) ts h = keeping-keeps k ts h

  rename_part-keeps : Keeps i rename_part_onto
  rename_part-keeps r ts h = reference-keeps r.from (token.Keyword keyword.To ∷ comp_token r.to ∷ ts) (comp-keeps r.to ts h)

  renames-keeps : Keeps i (listed_onto rename_part_onto)
  renames-keeps = listed-keeps rename_part_onto rename_part-keeps

  sub_part-keeps : Keeps i sub_part_onto
  sub_part-keeps p ts h = comp-keeps p.component (token.Sign sign.Equal ∷ literal_onto p.value ts) (literal-keeps p.value ts h)

  dataset-keeps : Keeps i dataset_onto
  dataset-keeps true ts h = h
  dataset-keeps false ts h = h

  retain-keeps : Keeps i retain_onto
  retain-keeps None ts h = h
  retain-keeps (Some r) ts h = word-keeps retain_token (word-plain retain_at retain_token retain_read refl refl refl) r ts h

  time_part-keeps : Keeps i time_part_onto
  time_part-keeps (time_call.Timeshift true n) ts h = h
  time_part-keeps (time_call.Timeshift false n) ts h = h
  time_part-keeps (time_call.FillTimeSeries None) ts h = h
  time_part-keeps (time_call.FillTimeSeries (Some f)) ts h = word-keeps filling_token (word-plain filling_at filling_token filling_read refl refl refl) f ts h
  time_part-keeps time_call.FlowToStock ts h = h
  time_part-keeps time_call.StockToFlow ts h = h

  call-keeps : Keeps i (λ x ts. form_token x ∷ ts)
  call-keeps = word-keeps form_token call-plain

  check_out-keeps : Keeps i (maybe_onto check_out_token)
  check_out-keeps = maybe-keeps check_out_token (word-plain check_out_at check_out_token check_out_read refl refl refl)

  mode-keeps : Keeps i (maybe_onto mode_token)
  mode-keeps = maybe-keeps mode_token (word-plain mode_at mode_token mode_read refl refl refl)

  rule-keeps : Keeps i (maybe_after_onto (token.Keyword keyword.Rule) comp_onto)
  rule-keeps = maybe_after-keeps (token.Keyword keyword.Rule) comp_onto refl comp-keeps

  role-keeps : Keeps i (maybe_onto written_role_token)
  role-keeps = maybe-keeps written_role_token (word-plain written_role_at written_role_token written_role_read refl refl refl)

  binary_op-keeps : Keeps i (λ x ts. binary_op_token x ∷ ts)
  binary_op-keeps = word-keeps binary_op_token (word-plain binary_op_at binary_op_token binary_op_read refl refl refl)

  unary_op-keeps : Keeps i (λ x ts. unary_op_token x ∷ ts)
  unary_op-keeps = word-keeps unary_op_token (word-plain unary_op_at unary_op_token unary_op_read refl refl refl)

  basic_out-keeps : Keeps i (maybe_onto basic_out_token)
  basic_out-keeps = maybe-keeps basic_out_token (word-plain basic_out_at basic_out_token basic_out_read refl refl refl)

  hier_input-keeps : Keeps i (maybe_onto hier_input_token)
  hier_input-keeps = maybe-keeps hier_input_token (word-plain hier_input_at hier_input_token hier_input_read refl refl refl)

  hier_out-keeps : Keeps i (maybe_onto hier_out_token)
  hier_out-keeps = maybe-keeps hier_out_token (word-plain hier_out_at hier_out_token hier_out_read refl refl refl)

-- ---- expressions

mutual
  exp-keeps : (i : Bool) → Keeps i exp_onto
  exp-keeps i (if_then c a b) ts h =
      let other : Tokens = exp_onto b ts in
      let yes : Tokens = exp_onto a (token.Keyword keyword.Else ∷ other) in
      exp-keeps i c (token.Keyword keyword.Then ∷ yes) (exp-keeps i a (token.Keyword keyword.Else ∷ other) (exp-keeps i b ts h))
  exp-keeps i (binary l o r) ts h = exp-keeps i l (binary_op_token o ∷ exp_onto r ts) (binary_op-keeps i o (exp_onto r ts) (exp-keeps i r ts h))
  exp-keeps i (in_set e negated ls) ts h = exp-keeps i e (in_token negated ∷ set_onto ls ts) (word-keeps i in_token in-plain negated (set_onto ls ts) (set-keeps i ls ts h))
  exp-keeps i (unary o e) ts h = unary_op-keeps i o (exp_onto e ts) (exp-keeps i e ts h)
  exp-keeps i (with_clause e c) ts h =
      let inner : Tokens = clause_onto c (token.Sign sign.CloseSquare ∷ ts) in
      exp-keeps i e (token.Sign sign.OpenSquare ∷ inner) (clause-keeps i c (token.Sign sign.CloseSquare ∷ ts) h)
  exp-keeps i (member e c) ts h = exp-keeps i e (token.Sign sign.Hash ∷ comp_token c ∷ ts) (comp-keeps i c ts h)
  exp-keeps i (component c) ts h = comp-keeps i c ts h
  exp-keeps i (constant c) ts h = constant-keeps i c ts h
  exp-keeps i (brackets e) ts h = exp-keeps i e (close_bracket ∷ ts) h
  exp-keeps i (function f es) ts h = call-keeps i (form.Function f) (open_bracket ∷ exps_onto es (close_bracket ∷ ts)) (exps-keeps i es (close_bracket ∷ ts) h)
  exp-keeps i (aggregate f e g had) ts h =
      let having : Tokens = maybe_exp_after_onto (token.Keyword keyword.Having) had (close_bracket ∷ ts) in
      let operand : Tokens = maybe_exp_onto e (group_onto g having) in
      call-keeps i (form.Aggregate f) (open_bracket ∷ operand) (maybe_exp-keeps i e (group_onto g having) (group-keeps i g having (maybe_exp_after-keeps i (token.Keyword keyword.Having) refl had (close_bracket ∷ ts) h)))
  exp-keeps i (aggregate_over f e o) ts h =
      let over : Tokens = over_onto o (close_bracket ∷ ts) in
      call-keeps i (form.Aggregate f) (open_bracket ∷ maybe_exp_onto e over) (maybe_exp-keeps i e over (over-keeps i o (close_bracket ∷ ts) h))
  exp-keeps i (value_window f e o) ts h =
      let over : Tokens = over_onto o (close_bracket ∷ ts) in
      call-keeps i (form.ValueWindow f) (open_bracket ∷ exp_onto e over) (exp-keeps i e over (over-keeps i o (close_bracket ∷ ts) h))
  exp-keeps i (shift f e n l o) ts h =
      let over : Tokens = over_onto o (close_bracket ∷ ts) in
      let default : Tokens = maybe_after_onto comma literal_onto l over in
      let operand : Tokens = exp_onto e (comma ∷ token.Integer n ∷ default) in
      call-keeps i (form.Shift f) (open_bracket ∷ operand) (exp-keeps i e (comma ∷ token.Integer n ∷ default) (maybe_after-keeps i comma literal_onto refl (literal-keeps i) l over (over-keeps i o (close_bracket ∷ ts) h)))
  exp-keeps i (rank o) ts h = over-keeps i o (close_bracket ∷ ts) h
  exp-keeps i (set_op f es) ts h = call-keeps i (form.SetOp f) (open_bracket ∷ exps_onto es (close_bracket ∷ ts)) (exps-keeps i es (close_bracket ∷ ts) h)
  exp-keeps i (difference f a b) ts h =
      let second : Tokens = exp_onto b (close_bracket ∷ ts) in
      call-keeps i (form.Difference f) (open_bracket ∷ exp_onto a (comma ∷ second)) (exp-keeps i a (comma ∷ second) (exp-keeps i b (close_bracket ∷ ts) h))
  exp-keeps i (exists_in a b r) ts h =
      let retain : Tokens = retain_onto r (close_bracket ∷ ts) in
      exp-keeps i a (comma ∷ exp_onto b retain) (exp-keeps i b retain (retain-keeps i r (close_bracket ∷ ts) h))
  exp-keeps i (time e call) ts h =
      let behind : Tokens = time_part_onto call (close_bracket ∷ ts) in
      call-keeps i (form.Time (name_of_time call)) (open_bracket ∷ exp_onto e behind) (exp-keeps i e behind (time_part-keeps i call (close_bracket ∷ ts) h))
  exp-keeps i (check e err im o) ts h =
      let out : Tokens = maybe_onto basic_out_token o (close_bracket ∷ ts) in
      let imbalance : Tokens = maybe_exp_after_onto (token.Keyword keyword.Imbalance) im out in
      exp-keeps i e (error_onto err imbalance) (error-keeps i err imbalance (maybe_exp_after-keeps i (token.Keyword keyword.Imbalance) refl im out (basic_out-keeps i o (close_bracket ∷ ts) h)))
  exp-keeps i (check_datapoint e n o) ts h =
      let out : Tokens = maybe_onto check_out_token o (close_bracket ∷ ts) in
      exp-keeps i e (comma ∷ token.Name n ∷ out) (check_out-keeps i o (close_bracket ∷ ts) h)
  exp-keeps i (check_hierarchy e n r m d o) ts h =
      let out : Tokens = maybe_onto check_out_token o (close_bracket ∷ ts) in
      let dataset : Tokens = dataset_onto d out in
      let mode : Tokens = maybe_onto mode_token m dataset in
      let rule : Tokens = maybe_after_onto (token.Keyword keyword.Rule) comp_onto r mode in
      exp-keeps i e (comma ∷ token.Name n ∷ rule) (rule-keeps i r mode (mode-keeps i m dataset (dataset-keeps i d out (check_out-keeps i o (close_bracket ∷ ts) h))))
  exp-keeps i (hierarchy e n r m given o) ts h =
      let out : Tokens = maybe_onto hier_out_token o (close_bracket ∷ ts) in
      let input : Tokens = maybe_onto hier_input_token given out in
      let mode : Tokens = maybe_onto mode_token m input in
      let rule : Tokens = maybe_after_onto (token.Keyword keyword.Rule) comp_onto r mode in
      exp-keeps i e (comma ∷ token.Name n ∷ rule) (rule-keeps i r mode (mode-keeps i m input (hier_input-keeps i given out (hier_out-keeps i o (close_bracket ∷ ts) h))))
  exp-keeps i (join kind ps u f m k rs) ts h =
      let renames : Tokens = maybe_after_onto (token.Keyword keyword.Rename) (listed_onto rename_part_onto) rs (close_bracket ∷ ts) in
      let keep : Tokens = maybe_keeping_onto k renames in
      let made : Tokens = maybe_targets_onto m keep in
      let filtered : Tokens = maybe_exp_after_onto (token.Keyword keyword.Filter) f made in
      let using : Tokens = maybe_after_onto (token.Keyword keyword.Using) comps_onto u filtered in
      let parts : Tokens = parts_onto ps using in
      call-keeps i (form.Join kind) (open_bracket ∷ parts) (parts-keeps i ps using (maybe_after-keeps i (token.Keyword keyword.Using) comps_onto refl (comps-keeps i) u filtered
      (maybe_exp_after-keeps i (token.Keyword keyword.Filter) refl f made (maybe_targets-keeps i m keep (maybe_keeping-keeps i k renames
      (maybe_after-keeps i (token.Keyword keyword.Rename) (listed_onto rename_part_onto) refl (renames-keeps i) rs (close_bracket ∷ ts) h))))))

  exps-keeps : (i : Bool) → Keeps i exps_onto
  exps-keeps i no_exps ts h = h
  exps-keeps i (exp e es) ts h = exp-keeps i e (more_exps_onto es ts) (more_exps-keeps i es ts h)

  more_exps-keeps : (i : Bool) → Keeps i more_exps_onto
  more_exps-keeps i no_exps ts h = h
  more_exps-keeps i (exp e es) ts h = exp-keeps i e (more_exps_onto es ts) (more_exps-keeps i es ts h)

  maybe_exp-keeps : (i : Bool) → Keeps i maybe_exp_onto
  maybe_exp-keeps i no_exp ts h = h
  maybe_exp-keeps i (some_exp e) ts h = exp-keeps i e ts h

  maybe_exp_after-keeps : (i : Bool) (first : TokenKind) → plain first ≡ true → Keeps i (maybe_exp_after_onto first)
  maybe_exp_after-keeps i first told no_exp ts h = h
  maybe_exp_after-keeps i first told (some_exp e) ts h = plain-closed i first (exp_onto e ts) told (exp-keeps i e ts h)

  clause-keeps : (i : Bool) → Keeps i clause_onto
  clause-keeps i (filter e) ts h = exp-keeps i e ts h
  clause-keeps i (targets m) ts h = targets-keeps i m ts h
  clause-keeps i (keeping k) ts h = keeping-keeps i k ts h
  clause-keeps i (rename rs) ts h = renames-keeps i rs ts h
  clause-keeps i (sub ss) ts h = listed-keeps i sub_part_onto (sub_part-keeps i) ss ts h
  clause-keeps i (pivot a b) ts h = comp-keeps i a (comma ∷ comp_token b ∷ ts) (comp-keeps i b ts h)
  clause-keeps i (unpivot a b) ts h = comp-keeps i a (comma ∷ comp_token b ∷ ts) (comp-keeps i b ts h)

  targets-keeps : (i : Bool) → Keeps i targets_onto
  targets-keeps i (calc cs) ts h = calcs-keeps i cs ts h
  targets-keeps i (aggr cs g had) ts h =
      let having : Tokens = maybe_exp_after_onto (token.Keyword keyword.Having) had ts in
      calcs-keeps i cs (group_onto g having) (group-keeps i g having (maybe_exp_after-keeps i (token.Keyword keyword.Having) refl had ts h))

  maybe_targets-keeps : (i : Bool) → Keeps i maybe_targets_onto
  maybe_targets-keeps i no_targets ts h = h
  maybe_targets-keeps i (some_targets m) ts h = targets-keeps i m ts h

  calcs-keeps : (i : Bool) → Keeps i calcs_onto
  calcs-keeps i no_calcs ts h = h
  calcs-keeps i (calc_part r c e cs) ts h =
      let more : Tokens = more_calcs_onto cs ts in
      let value : Tokens = exp_onto e more in
      role-keeps i r (comp_token c ∷ token.Sign sign.Assign ∷ value) (comp-keeps i c (token.Sign sign.Assign ∷ value) (exp-keeps i e more (more_calcs-keeps i cs ts h)))

  more_calcs-keeps : (i : Bool) → Keeps i more_calcs_onto
  more_calcs-keeps i no_calcs ts h = h
  more_calcs-keeps i (calc_part r c e cs) ts h =
      let more : Tokens = more_calcs_onto cs ts in
      let value : Tokens = exp_onto e more in
      role-keeps i r (comp_token c ∷ token.Sign sign.Assign ∷ value) (comp-keeps i c (token.Sign sign.Assign ∷ value) (exp-keeps i e more (more_calcs-keeps i cs ts h)))

  parts-keeps : (i : Bool) → Keeps i parts_onto
  parts-keeps i no_parts ts h = h
  parts-keeps i (join_part e n ps) ts h =
      let more : Tokens = more_parts_onto ps ts in
      exp-keeps i e (maybe_after_onto (token.Keyword keyword.As) name_onto n more) (maybe_after-keeps i (token.Keyword keyword.As) name_onto refl (name-keeps i) n more (more_parts-keeps i ps ts h))

  more_parts-keeps : (i : Bool) → Keeps i more_parts_onto
  more_parts-keeps i no_parts ts h = h
  more_parts-keeps i (join_part e n ps) ts h =
      let more : Tokens = more_parts_onto ps ts in
      exp-keeps i e (maybe_after_onto (token.Keyword keyword.As) name_onto n more) (maybe_after-keeps i (token.Keyword keyword.As) name_onto refl (name-keeps i) n more (more_parts-keeps i ps ts h))

-- ---- rules, within a definition

rule_name-keeps : Keeps true rule_name_onto
rule_name-keeps None ts h = h
rule_name-keeps (Some n) ts h = h

when-keeps : Keeps true when_onto
when-keeps None ts h = h
when-keeps (Some e) ts h = exp-keeps true e (token.Keyword keyword.Then ∷ ts) h

point_rule-keeps : Keeps true point_rule_onto
point_rule-keeps (point_rule n w e err) ts h =
    let error : Tokens = error_onto err ts in
    let holds : Tokens = exp_onto e error in
    rule_name-keeps n (when_onto w holds) (when-keeps w holds (exp-keeps true e error (error-keeps true err ts h)))

signed-keeps : Keeps true signed_onto
signed-keeps [] ts h = h
signed-keeps (x ∷ xs) ts h = word-keeps true addition_token addition-plain x.sign (comp_token x.item ∷ signed_onto xs ts) (comp-keeps true x.item (signed_onto xs ts) (signed-keeps xs ts h))

hier_rule-keeps : Keeps true hier_rule_onto
hier_rule-keeps r ts h =
    let error : Tokens = error_onto r.error ts in
    let others : Tokens = signed_onto r.others error in
    let side : Tokens = maybe_onto addition_token r.sign (comp_token r.first ∷ others) in
    rule_name-keeps r.name (comp_token r.item ∷ comparison_token r.comparison ∷ side)
    (comp-keeps true r.item (comparison_token r.comparison ∷ side)
    (word-keeps true comparison_token (word-plain comparison_at comparison_token comparison_read refl refl refl) r.comparison side
    (maybe-keeps true addition_token addition-plain r.sign (comp_token r.first ∷ others) (comp-keeps true r.first others (signed-keeps r.others error (error-keeps true r.error ts h))))))

more_rules-keeps : {A : Type 0} (rule : A → Tokens → Tokens) → Keeps true rule → (rs : List A) (last : Bool) (ts : Tokens) → closed true ts ≡ true → closed true (more_rules_onto rule rs last ts) ≡ true
more_rules-keeps rule keeps [] true ts h = h
more_rules-keeps rule keeps [] false ts h = h
more_rules-keeps rule keeps (r ∷ rs) last ts h = keeps r (more_rules_onto rule rs last ts) (more_rules-keeps rule keeps rs last ts h)

rules-keeps : {A : Type 0} (rule : A → Tokens → Tokens) → Keeps true rule → (rs : List A) (last : Bool) (ts : Tokens) → closed true ts ≡ true → closed true (rules_onto rule rs last ts) ≡ true
rules-keeps rule keeps [] last ts h = h
rules-keeps rule keeps (r ∷ rs) last ts h = keeps r (more_rules_onto rule rs last ts) (more_rules-keeps rule keeps rs last ts h)

-- ---- statements

statement-closed : (s : StatementTree) → closed false (statement_onto s []) ≡ true
statement-closed (assignment n kind e) =
    word-keeps false assign_kind_token (word-plain assign_kind_at assign_kind_token assign_kind_read refl refl refl) kind (exp_onto e (token.Sign sign.Semicolon ∷ [])) (exp-keeps false e (token.Sign sign.Semicolon ∷ []) refl)
statement-closed (datapoint n vs rs last) =
    let end : Tokens = token.Keyword keyword.End ∷ token.Keyword keyword.Datapoint ∷ token.Keyword keyword.Ruleset ∷ token.Sign sign.Semicolon ∷ [] in
    let rules : Tokens = rules_onto point_rule_onto rs last end in
    comps-keeps true vs (close_bracket ∷ token.Keyword keyword.Is ∷ rules) (rules-keeps point_rule_onto point_rule-keeps rs last end refl)
statement-closed (hierarchical n item rs last) =
    let end : Tokens = token.Keyword keyword.End ∷ token.Keyword keyword.Hierarchical ∷ token.Keyword keyword.Ruleset ∷ token.Sign sign.Semicolon ∷ [] in
    let rules : Tokens = rules_onto hier_rule_onto rs last end in
    comp-keeps true item (close_bracket ∷ token.Keyword keyword.Is ∷ rules) (rules-keeps hier_rule_onto hier_rule-keeps rs last end refl)

-- the kinds by statements
abbrev kinds_with_first : TokenKind → List Tokens → List Tokens
kinds_with_first first [] = (first ∷ []) ∷ []
kinds_with_first first (statement ∷ others) = (first ∷ statement) ∷ others

abbrev told : Bool → Tokens → List Tokens
told inside [] = []
told inside (first ∷ rest) = cond (ends_statement inside first) ((first ∷ []) ∷ told false rest) (kinds_with_first first (told (is_inside inside first) rest))

closed-told : (inside : Bool) (front ts : Tokens) → closed inside front ≡ true → told inside (front ++ ts) ≡ front ∷ told false ts
closed-told inside [] ts e = absurd (false≢true e)
closed-told inside (first ∷ rest) ts e = by (ends_statement inside first) e (closed-told (is_inside inside first) rest ts)
  where
    last : (rest : Tokens) → is_nothing rest ≡ true → (first ∷ []) ∷ told false (rest ++ ts) ≡ (first ∷ rest) ∷ told false ts
    last [] e = refl
    last (kind ∷ rest) e = absurd (false≢true e)

    by : (ends : Bool) → cond ends (is_nothing rest) (closed (is_inside inside first) rest) ≡ true → (closed (is_inside inside first) rest ≡ true → told (is_inside inside first) (rest ++ ts) ≡ rest ∷ told false ts)
        → cond ends ((first ∷ []) ∷ told false (rest ++ ts)) (kinds_with_first first (told (is_inside inside first) (rest ++ ts))) ≡ (first ∷ rest) ∷ told false ts
    by true e ih = last rest e
    by false e ih = ap (kinds_with_first first) (ih e)

script-told : (script : ScriptTree) → told false (script_onto script []) ≡ map (λ (s : StatementTree). statement_onto s []) script
script-told [] = refl
script-told (s ∷ ss) =
    ap (told false) (statement-append s [] (script_onto ss [])) ∙ closed-told false (statement_onto s []) (script_onto ss []) (statement-closed s)
    ∙ ap (λ l. statement_onto s [] ∷ l) (script-told ss)

-- ---- tokens with their bytes

first-kinds : (first : Lexeme) (others : List (List Lexeme)) → map kinds_of (with_first first others) ≡ kinds_with_first first.kind (map kinds_of others)
first-kinds first [] = refl
first-kinds first (statement ∷ others) = refl

statements-told : (inside : Bool) (lexemes : List Lexeme) → map kinds_of (statements inside lexemes) ≡ told inside (kinds_of lexemes)
statements-told inside [] = refl
statements-told inside (first ∷ rest) = by (statements-told false rest) (statements-told (is_inside inside first.kind) rest) (ends_statement inside first.kind)
  where
    by : map kinds_of (statements false rest) ≡ told false (kinds_of rest) → map kinds_of (statements (is_inside inside first.kind) rest) ≡ told (is_inside inside first.kind) (kinds_of rest)
        → (ends : Bool) → map kinds_of (cond ends ((first ∷ []) ∷ statements false rest) (with_first first (statements (is_inside inside first.kind) rest)))
        ≡ cond ends ((first.kind ∷ []) ∷ told false (kinds_of rest)) (kinds_with_first first.kind (told (is_inside inside first.kind) (kinds_of rest)))
    by others more true = ap (λ l. (first.kind ∷ []) ∷ l) others
    by others more false = first-kinds first (statements (is_inside inside first.kind) rest) ∙ ap (kinds_with_first first.kind) more

pub kinds-at : (text : List ℕ) (tokens : List Token) → kinds tokens ≡ kinds_of (lexemes_at text tokens)
unfolding kinds
kinds-at text [] = refl
kinds-at text (token ∷ tokens) = ap (λ l. token.kind ∷ l) (kinds-at text tokens)

pub script-statements : (text : List ℕ) (tokens : List Token) (script : ScriptTree) → SpellsScript (kinds tokens) script → map kinds_of (statements false (lexemes_at text tokens)) ≡ map (λ (s : StatementTree). statement_onto s []) script
script-statements text tokens script spelled =
    statements-told false (lexemes_at text tokens) ∙ ap (told false) (sym (kinds-at text tokens)) ∙ ap (told false) spelled.is ∙ script-told script
