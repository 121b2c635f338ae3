-- The rules of rulesets are read.
use Rattle.std.proofs.Common.{◌≡◌, ◌∙◌, ℕ, zero, suc, ◌≤◌, max, Bool, true, false, List, [], ◌∷◌, ◌++◌, length, Option, Some, None, refl, arith, append_assoc}
use Rattle.std.specs.List.{AllByRecursion}
use Rattle.std.specs.Prelude.{◌||◌, nat_le}
use Rattle.std.proofs.lemmas.Bool.{or_parts, le-leb}
use Rattle.std.proofs.lemmas.List.{append-nil}
use Rattle.vtl_lexer.specs.declared.keyword.Keyword.TheVariants as keyword
use Rattle.vtl_lexer.specs.declared.token.Sign.TheVariants as sign
use Rattle.vtl_lexer.specs.declared.token.TokenKind.{TokenKind}
use Rattle.vtl_lexer.specs.declared.token.TokenKind.TheVariants as token
use Rattle.vtl_syntax.specs.Depth.{exp_depth, option_depth, point_rule_depth, hier_rule_depth, depth_limit}
use Rattle.vtl_syntax.specs.Trees as tree
use Rattle.vtl_syntax.specs.Trees.{Exp, PointRuleTree, point_rule}
use Rattle.vtl_syntax.specs.declared.parts.Comp.{Comp}
use Rattle.vtl_syntax.specs.declared.parts.Comp.TheVariants as comp
use Rattle.vtl_syntax.specs.declared.parts.Constant.{Constant}
use Rattle.vtl_syntax.specs.declared.parts.Constant.TheVariants as constants
use Rattle.vtl_syntax.specs.declared.parts.Numeral.TheVariants as numeral
use Rattle.vtl_syntax.specs.declared.parts.SignedComp.{SignedComp}
use Rattle.vtl_syntax.specs.declared.statements.HierRule.{HierRule}
use Rattle.vtl_syntax.specs.declared.word_groups.BinaryOp.{BinaryOp}
use Rattle.vtl_syntax.specs.declared.word_groups.UnaryOp.{UnaryOp}
use Rattle.vtl_syntax.specs.declared.word_groups.UnaryOp.TheVariants as unary_op
use Rattle.vtl_grammar.specs.Fits.{Filled, Fits, PointRuleFits, OptionFits}
use Rattle.vtl_grammar.specs.Grammar.{Tokens, maybe_onto, set_onto, clause_onto, error_onto, exp_onto, constant_onto, rule_name_onto, when_onto, point_rule_onto, signed_onto, hier_rule_onto, more_rules_onto, rules_onto, name_of_time}
use Rattle.vtl_grammar.specs.Reading.{Reads, is_keyword, is_sign, after_keyword, after_sign}
use Rattle.vtl_grammar.specs.ReadStatements.{whole_exp, rule_name, when_part, holds_read, rule_behind, point_rule_read, more_signed, right_side, hier_rule_read, ends_rules, more_rules, rules_read, point_rules, hier_rules}
use Rattle.vtl_grammar.specs.Words.{binary_op_token, unary_op_token, name_at, comp_token, comparison_token, addition_at, addition_token, in_token}
use Rattle.vtl_grammar.specs.declared.call_forms.CallForm.TheVariants as form
use Rattle.vtl_grammar.specs.declared.levels.Level.TheVariants as level
use Rattle.vtl_grammar.proofs.AppendExpressions.{point_rule-append, hier_rule-append}
use Rattle.vtl_grammar.proofs.AppendParts.{grows}
use Rattle.vtl_grammar.proofs.CompleteBase.{first_is, Lacks, in_table, lacks_keyword, lacks_sign, lacks_word, maybe_word_complete, Grows}
use Rattle.vtl_grammar.proofs.CompleteCalls.{error_lacks}
use Rattle.vtl_grammar.proofs.CompleteExpressions.{read_complete}
use Rattle.vtl_grammar.proofs.CompleteLevels.{goes_on, within_all, starts, when_start, end_start, form_no_name}
use Rattle.vtl_grammar.proofs.CompleteParts.{comp_read, comp_lacks, error_complete}
use Rattle.vtl_grammar.proofs.CompleteTables.{binary_op_lacks, comparison_read, comparison_lacks, addition_read}

pub whole_complete : (e : Exp) (rest : Tokens) → Fits e → exp_depth e ≤ depth_limit → Lacks (goes_on level.Expression) rest → whole_exp (exp_onto e rest) ≡ Some (e, rest)
unfolding whole_exp
whole_complete e rest fits shallow stops = rw (read_complete depth_limit level.Expression e rest (within_all e) fits shallow stops) refl

-- ---- a rule without a name does not seem to have one

no_name : (t : TokenKind) (ts : Tokens) → in_table name_at t ≡ false → rule_name (t ∷ ts) ≡ (None, t ∷ ts)
unfolding rule_name
no_name t ts h = rw (lacks_word name_at (t ∷ ts) h) refl

comp_no_rule_name : (c : Comp) (rest : Tokens) → Lacks (is_sign sign.Colon) rest → rule_name (comp_token c ∷ rest) ≡ (None, comp_token c ∷ rest)
unfolding rule_name
comp_no_rule_name (comp.Name n) rest h = rw (lacks_sign sign.Colon rest h) refl
comp_no_rule_name (comp.Quoted n) rest h = refl

constant_no_rule_name : (c : Constant) (rest : Tokens) → rule_name (constant_onto c rest) ≡ (None, constant_onto c rest)
unfolding rule_name
constant_no_rule_name (constants.Number (numeral.Integer d)) rest = refl
constant_no_rule_name (constants.Number (numeral.Decimal d)) rest = refl
constant_no_rule_name (constants.String s) rest = refl
constant_no_rule_name (constants.Boolean true) rest = refl
constant_no_rule_name (constants.Boolean false) rest = refl
constant_no_rule_name constants.Null rest = refl
constant_no_rule_name (constants.Cast s k) rest = refl

unary_no_name : (o : UnaryOp) → in_table name_at (unary_op_token o) ≡ false
unary_no_name unary_op.Plus = refl
unary_no_name unary_op.Minus = refl
unary_no_name unary_op.Not = refl

operator_no_colon : (o : BinaryOp) → is_sign sign.Colon (binary_op_token o) ≡ false
operator_no_colon = binary_op_lacks (is_sign sign.Colon) refl refl refl refl refl refl refl refl refl refl refl refl refl refl

in_no_colon : (b : Bool) → is_sign sign.Colon (in_token b) ≡ false
in_no_colon true = refl
in_no_colon false = refl

exp_no_rule_name : (e : Exp) (rest : Tokens) → Lacks (is_sign sign.Colon) rest → rule_name (exp_onto e rest) ≡ (None, exp_onto e rest)
exp_no_rule_name (tree.if_then c a b) rest h = no_name _ _ refl
exp_no_rule_name (tree.binary l o r) rest h = exp_no_rule_name l (binary_op_token o ∷ exp_onto r rest) (operator_no_colon o)
exp_no_rule_name (tree.in_set e negated ls) rest h = exp_no_rule_name e (in_token negated ∷ set_onto ls rest) (in_no_colon negated)
exp_no_rule_name (tree.unary o e) rest h = no_name _ _ (unary_no_name o)
exp_no_rule_name (tree.with_clause e c) rest h = exp_no_rule_name e (token.Sign sign.OpenSquare ∷ clause_onto c (token.Sign sign.CloseSquare ∷ rest)) refl
exp_no_rule_name (tree.member e c) rest h = exp_no_rule_name e (token.Sign sign.Hash ∷ comp_token c ∷ rest) refl
exp_no_rule_name (tree.component c) rest h = comp_no_rule_name c rest h
exp_no_rule_name (tree.constant c) rest h = constant_no_rule_name c rest
exp_no_rule_name (tree.brackets e) rest h = no_name _ _ refl
exp_no_rule_name (tree.function f es) rest h = no_name _ _ (form_no_name (form.Function f))
exp_no_rule_name (tree.aggregate f e g i) rest h = no_name _ _ (form_no_name (form.Aggregate f))
exp_no_rule_name (tree.aggregate_over f e o) rest h = no_name _ _ (form_no_name (form.Aggregate f))
exp_no_rule_name (tree.value_window f e o) rest h = no_name _ _ (form_no_name (form.ValueWindow f))
exp_no_rule_name (tree.shift f e n d o) rest h = no_name _ _ (form_no_name (form.Shift f))
exp_no_rule_name (tree.rank o) rest h = no_name _ _ refl
exp_no_rule_name (tree.set_op f es) rest h = no_name _ _ (form_no_name (form.SetOp f))
exp_no_rule_name (tree.difference f a b) rest h = no_name _ _ (form_no_name (form.Difference f))
exp_no_rule_name (tree.exists_in a b r) rest h = no_name _ _ refl
exp_no_rule_name (tree.time e call) rest h = no_name _ _ (form_no_name (form.Time (name_of_time call)))
exp_no_rule_name (tree.check e err i o) rest h = no_name _ _ refl
exp_no_rule_name (tree.check_datapoint e n o) rest h = no_name _ _ refl
exp_no_rule_name (tree.check_hierarchy e n r m d o) rest h = no_name _ _ refl
exp_no_rule_name (tree.hierarchy e n r m i o) rest h = no_name _ _ refl
exp_no_rule_name (tree.join k ps u f m kept rs) rest h = no_name _ _ (form_no_name (form.Join k))

rule_name_complete : (n : Option (List ℕ)) (rest : Tokens) → rule_name rest ≡ (None, rest) → rule_name (rule_name_onto n rest) ≡ (n, rest)
unfolding rule_name after_sign
rule_name_complete None rest h = h
rule_name_complete (Some n) rest h = refl

-- ---- rules on points

-- a rule goes on with what its expression does, and with its error
abbrev pub rule_goes_on : TokenKind → Bool
rule_goes_on t = is_keyword keyword.Errorcode t || (is_keyword keyword.Errorlevel t || (is_sign sign.Colon t || goes_on level.Expression t))

record RuleEnds (rest : Tokens) : Type 0 where
  no_code : Lacks (is_keyword keyword.Errorcode) rest
  no_level : Lacks (is_keyword keyword.Errorlevel) rest
  no_colon : Lacks (is_sign sign.Colon) rest
  stops : Lacks (goes_on level.Expression) rest

rule_ends : (rest : Tokens) → Lacks rule_goes_on rest → RuleEnds rest
rule_ends [] h = record { no_code = refl; no_level = refl; no_colon = refl; stops = refl }
rule_ends (t ∷ ts) h =
    let code = or_parts (is_keyword keyword.Errorcode t) (is_keyword keyword.Errorlevel t || (is_sign sign.Colon t || goes_on level.Expression t)) h in
    let error = or_parts (is_keyword keyword.Errorlevel t) (is_sign sign.Colon t || goes_on level.Expression t) code.1 in
    let colon = or_parts (is_sign sign.Colon t) (goes_on level.Expression t) error.1 in
    record { no_code = code.0; no_level = error.0; no_colon = colon.0; stops = colon.1 }

when_complete : (w : Option Exp) (rest : Tokens) → OptionFits w → option_depth w ≤ depth_limit → Lacks (is_keyword keyword.When) rest → when_part (when_onto w rest) ≡ Some (w, rest)
unfolding when_part after_keyword
when_complete None rest fits shallow ends = rw (lacks_keyword keyword.When rest ends) refl
when_complete (Some e) rest fits shallow ends = rw (whole_complete e (token.Keyword keyword.Then ∷ rest) fits shallow refl) refl

when_no_rule_name : (w : Option Exp) (rest : Tokens) → rule_name rest ≡ (None, rest) → rule_name (when_onto w rest) ≡ (None, when_onto w rest)
when_no_rule_name None rest h = h
when_no_rule_name (Some e) rest h = no_name _ _ refl

abbrev pub PointRuleIs : PointRuleTree → Type 0
PointRuleIs r = PointRuleFits r × (point_rule_depth r ≤ depth_limit)

pub point_rule_complete : (r : PointRuleTree) (rest : Tokens) → PointRuleIs r → Lacks rule_goes_on rest → point_rule_read (point_rule_onto r rest) ≡ Some (r, rest)
unfolding point_rule_read rule_behind holds_read
point_rule_complete (point_rule n w e err) rest is stops =
    let shallow : max (option_depth w) (exp_depth e) ≤ depth_limit = is.1 in
    let ends = rule_ends rest stops in
    let error : Tokens = error_onto err rest in
    let holds : Tokens = exp_onto e error in
    let named = rule_name_complete n (when_onto w holds) (when_no_rule_name w holds (exp_no_rule_name e error (error_lacks (is_sign sign.Colon) refl refl err rest ends.no_colon))) in
    let condition = when_complete w holds is.0.0 (omega arith) (starts level.Expression (is_keyword keyword.When) when_start e (within_all e) is.0.1 error) in
    let value = whole_complete e error is.0.1 (omega arith) (error_lacks (goes_on level.Expression) refl refl err rest ends.stops) in
    rw (named, condition, value, error_complete err rest ends.no_code ends.no_level) refl

-- ---- rules on hierarchies

abbrev pub hier_goes_on : TokenKind → Bool
hier_goes_on t = is_keyword keyword.Errorcode t || (is_keyword keyword.Errorlevel t || in_table addition_at t)

record HierEnds (rest : Tokens) : Type 0 where
  no_code : Lacks (is_keyword keyword.Errorcode) rest
  no_level : Lacks (is_keyword keyword.Errorlevel) rest
  no_sign : Lacks (in_table addition_at) rest

hier_ends : (rest : Tokens) → Lacks hier_goes_on rest → HierEnds rest
hier_ends [] h = record { no_code = refl; no_level = refl; no_sign = refl }
hier_ends (t ∷ ts) h =
    let code = or_parts (is_keyword keyword.Errorcode t) (is_keyword keyword.Errorlevel t || in_table addition_at t) h in
    let error = or_parts (is_keyword keyword.Errorlevel t) (in_table addition_at t) code.1 in
    record { no_code = code.0; no_level = error.0; no_sign = error.1 }

signed_grows : (ss : List SignedComp) (rest : Tokens) → length ss ≤ length (signed_onto ss rest)
signed_grows [] rest = omega arith
signed_grows (s ∷ ss) rest = omega (arith, signed_grows ss rest)

more_signed_complete : (n : ℕ) (items ss : List SignedComp) (rest : Tokens) → length ss ≤ n → Lacks (in_table addition_at) rest → more_signed n items (signed_onto ss rest) ≡ Some (items ++ ss, rest)
unfolding more_signed
more_signed_complete zero items [] rest few ends = rw append-nil refl
more_signed_complete zero items (s ∷ ss) rest few ends = absurd (omega arith)
more_signed_complete (suc n) items [] rest few ends = rw (lacks_word addition_at rest ends, append-nil) refl
more_signed_complete (suc n) items (s ∷ ss) rest few ends =
    rw (addition_read s.sign, comp_read s.item) (more_signed_complete n (items ++ s ∷ []) ss rest (omega arith) ends ∙ rw append_assoc refl)

abbrev pub HierRuleIs : HierRule → Type 0
HierRuleIs r = hier_rule_depth r ≤ depth_limit

pub hier_rule_complete : (r : HierRule) (rest : Tokens) → HierRuleIs r → Lacks hier_goes_on rest → hier_rule_read (hier_rule_onto r rest) ≡ Some (r, rest)
unfolding hier_rule_read right_side
hier_rule_complete r rest is stops =
    let ends = hier_ends rest stops in
    let error : Tokens = error_onto r.error rest in
    let others : Tokens = signed_onto r.others error in
    let first : Tokens = comp_token r.first ∷ others in
    let side : Tokens = maybe_onto addition_token r.sign first in
    let compared : Tokens = comparison_token r.comparison ∷ side in
    let no_colon : Lacks (is_sign sign.Colon) compared = comparison_lacks (is_sign sign.Colon) refl refl refl refl refl r.comparison in
    let named = rule_name_complete r.name (comp_token r.item ∷ compared) (comp_no_rule_name r.item compared no_colon) in
    let signed = maybe_word_complete addition_at addition_token addition_read r.sign first (comp_lacks (in_table addition_at) (λ n. refl) (λ n. refl) r.first) in
    let more = more_signed_complete (length others) [] r.others error (signed_grows r.others error) (error_lacks (in_table addition_at) refl refl r.error rest ends.no_sign) in
    let depth : nat_le (hier_rule_depth r) depth_limit ≡ true = le-leb (hier_rule_depth r) depth_limit is in
    rw (named, comp_read r.item, comparison_read r.comparison, signed, comp_read r.first, more, error_complete r.error rest ends.no_code ends.no_level, depth) refl

-- ---- lists of rules, which `end` follows

more_rules_lack : {A : Type 0} (onto : A → Tokens → Tokens) (p : TokenKind → Bool) → p (token.Sign sign.Semicolon) ≡ false → p (token.Keyword keyword.End) ≡ false
    → (xs : List A) (last : Bool) (rest : Tokens) → Lacks p (more_rules_onto onto xs last (token.Keyword keyword.End ∷ rest))
more_rules_lack onto p no_semicolon no_word [] true rest = no_semicolon
more_rules_lack onto p no_semicolon no_word [] false rest = no_word
more_rules_lack onto p no_semicolon no_word (x ∷ xs) last rest = no_semicolon

more_rules_complete : {A : Type 0} (rule : Reads A) (onto : A → Tokens → Tokens) (fits : A → Type 0) (p : TokenKind → Bool) → Grows onto
    → ((x : A) (rest : Tokens) → fits x → Lacks p rest → rule (onto x rest) ≡ Some (x, rest)) → ((x : A) (rest : Tokens) → fits x → ends_rules (onto x rest) ≡ false)
    → p (token.Sign sign.Semicolon) ≡ false → p (token.Keyword keyword.End) ≡ false
    → (n : ℕ) (items xs : List A) (last : Bool) (rest : Tokens) → AllByRecursion fits xs → length (more_rules_onto onto xs last (token.Keyword keyword.End ∷ rest)) ≤ n
    → more_rules rule n items (more_rules_onto onto xs last (token.Keyword keyword.End ∷ rest)) ≡ Some ((items ++ xs, last), token.Keyword keyword.End ∷ rest)
unfolding after_sign
more_rules_complete rule onto fits p grow complete no_end no_semicolon no_word zero items [] true rest all few = absurd (omega arith)
more_rules_complete rule onto fits p grow complete no_end no_semicolon no_word zero items [] false rest all few = absurd (omega arith)
more_rules_complete rule onto fits p grow complete no_end no_semicolon no_word zero items (x ∷ xs) last rest all few = absurd (omega arith)
more_rules_complete rule onto fits p grow complete no_end no_semicolon no_word (suc n) items [] true rest all few = rw append-nil refl
more_rules_complete rule onto fits p grow complete no_end no_semicolon no_word (suc n) items [] false rest all few = rw append-nil refl
more_rules_complete rule onto fits p grow complete no_end no_semicolon no_word (suc n) items (x ∷ xs) last rest all few =
    let after : Tokens = more_rules_onto onto xs last (token.Keyword keyword.End ∷ rest) in
    rw (no_end x after all.0, complete x after all.0 (more_rules_lack onto p no_semicolon no_word xs last rest))
    (more_rules_complete rule onto fits p grow complete no_end no_semicolon no_word n (items ++ x ∷ []) xs last rest all.1 (omega (arith, grow x after)) ∙ rw append_assoc refl)

pub rules_complete : {A : Type 0} (rule : Reads A) (onto : A → Tokens → Tokens) (fits : A → Type 0) (p : TokenKind → Bool) → Grows onto
    → ((x : A) (rest : Tokens) → fits x → Lacks p rest → rule (onto x rest) ≡ Some (x, rest)) → ((x : A) (rest : Tokens) → fits x → ends_rules (onto x rest) ≡ false)
    → p (token.Sign sign.Semicolon) ≡ false → p (token.Keyword keyword.End) ≡ false
    → (xs : List A) (last : Bool) (rest : Tokens) → Filled xs → AllByRecursion fits xs
    → rules_read rule (rules_onto onto xs last (token.Keyword keyword.End ∷ rest)) ≡ Some ((xs, last), token.Keyword keyword.End ∷ rest)
rules_complete rule onto fits p grow complete no_end no_semicolon no_word [] last rest filled all = absurd (omega arith)
rules_complete rule onto fits p grow complete no_end no_semicolon no_word (x ∷ xs) last rest filled all =
    let after : Tokens = more_rules_onto onto xs last (token.Keyword keyword.End ∷ rest) in
    rw (complete x after all.0 (more_rules_lack onto p no_semicolon no_word xs last rest))
    (more_rules_complete rule onto fits p grow complete no_end no_semicolon no_word (length after) (x ∷ []) xs last rest all.1 (omega arith))

ends_first : (ts : Tokens) → ends_rules ts ≡ first_is (is_keyword keyword.End) ts
ends_first [] = refl
ends_first (t ∷ ts) = refl

when_no_end : (w : Option Exp) (rest : Tokens) → Lacks (is_keyword keyword.End) rest → Lacks (is_keyword keyword.End) (when_onto w rest)
when_no_end None rest h = h
when_no_end (Some e) rest h = refl

name_no_end : (n : Option (List ℕ)) (rest : Tokens) → Lacks (is_keyword keyword.End) rest → Lacks (is_keyword keyword.End) (rule_name_onto n rest)
name_no_end None rest h = h
name_no_end (Some n) rest h = refl

point_rule_no_end : (r : PointRuleTree) (rest : Tokens) → PointRuleIs r → ends_rules (point_rule_onto r rest) ≡ false
point_rule_no_end (point_rule n w e err) rest is =
    let error : Tokens = error_onto err rest in
    let holds : Tokens = exp_onto e error in
    ends_first (point_rule_onto (point_rule n w e err) rest) ∙ name_no_end n (when_onto w holds) (when_no_end w holds (starts level.Expression (is_keyword keyword.End) end_start e (within_all e) is.0.1 error))

hier_rule_no_end : (r : HierRule) (rest : Tokens) → HierRuleIs r → ends_rules (hier_rule_onto r rest) ≡ false
hier_rule_no_end r rest is =
    let side : Tokens = maybe_onto addition_token r.sign (comp_token r.first ∷ signed_onto r.others (error_onto r.error rest)) in
    ends_first (hier_rule_onto r rest) ∙ name_no_end r.name (comp_token r.item ∷ comparison_token r.comparison ∷ side) (comp_lacks (is_keyword keyword.End) (λ n. refl) (λ n. refl) r.item)

pub point_rules_complete : (rs : List PointRuleTree) (last : Bool) (rest : Tokens) → Filled rs → AllByRecursion PointRuleIs rs
    → point_rules (rules_onto point_rule_onto rs last (token.Keyword keyword.End ∷ rest)) ≡ Some ((rs, last), token.Keyword keyword.End ∷ rest)
unfolding point_rules
point_rules_complete rs last rest filled all = rules_complete point_rule_read point_rule_onto PointRuleIs rule_goes_on (grows point_rule_onto point_rule-append) point_rule_complete point_rule_no_end refl refl rs last rest filled all

pub hier_rules_complete : (rs : List HierRule) (last : Bool) (rest : Tokens) → Filled rs → AllByRecursion HierRuleIs rs
    → hier_rules (rules_onto hier_rule_onto rs last (token.Keyword keyword.End ∷ rest)) ≡ Some ((rs, last), token.Keyword keyword.End ∷ rest)
unfolding hier_rules
hier_rules_complete rs last rest filled all = rules_complete hier_rule_read hier_rule_onto HierRuleIs hier_goes_on (grows hier_rule_onto hier_rule-append) hier_rule_complete hier_rule_no_end refl refl rs last rest filled all
