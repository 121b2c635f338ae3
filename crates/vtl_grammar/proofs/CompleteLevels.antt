-- The tokens that an operand goes on with, and the tokens that an expression begins with.
use Rattle.std.proofs.Common.{◌≡◌, ℕ, ◌≤◌, ◌<◌, ◌-◌, Bool, true, false, List, [], ◌∷◌, Some, None, refl, arith, inl, inr}
use Rattle.std.specs.Prelude.{nat_le, nat_eq}
use Rattle.std.proofs.lemmas.Bool.{cases_Bool, leb-false, lt-leb, eqb-true, eq-eqb}
use Rattle.vtl_lexer.specs.declared.keyword.Keyword.TheVariants as keyword
use Rattle.vtl_lexer.specs.declared.token.Sign.{Sign}
use Rattle.vtl_lexer.specs.declared.token.Sign.TheVariants as sign
use Rattle.vtl_lexer.specs.declared.token.TokenKind.{TokenKind}
use Rattle.vtl_lexer.specs.declared.token.TokenKind.TheVariants as token
use Rattle.vtl_syntax.specs.Trees.{Exp, if_then, binary, in_set, unary, with_clause, member, component, constant, brackets, function, aggregate, aggregate_over, value_window, shift, rank, set_op, difference, exists_in, time, check, check_datapoint, check_hierarchy, hierarchy, join}
use Rattle.vtl_syntax.specs.declared.parts.Comp.{Comp}
use Rattle.vtl_syntax.specs.declared.parts.Constant.{Constant}
use Rattle.vtl_syntax.specs.declared.parts.Constant.TheVariants as constants
use Rattle.vtl_syntax.specs.declared.parts.Numeral.{Numeral}
use Rattle.vtl_syntax.specs.declared.parts.Numeral.TheVariants as numeral
use Rattle.vtl_syntax.specs.declared.word_groups.BinaryOp.{BinaryOp}
use Rattle.vtl_syntax.specs.declared.word_groups.BinaryOp.TheVariants as op
use Rattle.vtl_syntax.specs.declared.word_groups.UnaryOp.{UnaryOp}
use Rattle.vtl_syntax.specs.declared.word_groups.UnaryOp.TheVariants as unary_op
use Rattle.vtl_grammar.specs.Fits.{Fits}
use Rattle.vtl_grammar.specs.Grammar.{Tokens, open_bracket, set_onto, clause_onto, exp_onto, name_of_time}
use Rattle.vtl_grammar.specs.Levels.{looseness, tighter, operator_level, level_of, Within}
use Rattle.vtl_grammar.specs.Reading.{is_keyword, is_sign, word}
use Rattle.vtl_grammar.specs.ReadExpressions.{operator_at, membership_at, ends_operand, leaf_at}
use Rattle.vtl_grammar.specs.Words.{binary_op_token, binary_op_at, unary_op_token, unary_op_at, comp_token, numeral_token, boolean_token, in_token, in_at, name_at, form_token, form_at}
use Rattle.vtl_grammar.specs.declared.call_forms.CallForm.{CallForm}
use Rattle.vtl_grammar.specs.declared.call_forms.CallForm.TheVariants as form
use Rattle.vtl_grammar.specs.declared.levels.Level.{Level}
use Rattle.vtl_grammar.specs.declared.levels.Level.TheVariants as level
use Rattle.vtl_grammar.proofs.CompleteBase.{Lacks, in_table}
use Rattle.vtl_grammar.proofs.CompleteParts.{comp_lacks}
use Rattle.vtl_grammar.proofs.CompleteTables.{form_read, binary_op_read}

-- ---- going on

-- the least looseness at which an operand goes on with the token, or more than any
abbrev pub link : TokenKind → ℕ
link (token.Sign sign.OpenSquare) = 1
link (token.Sign sign.Hash) = 1
link (token.Sign sign.Star) = 3
link (token.Sign sign.Slash) = 3
link (token.Sign sign.Plus) = 4
link (token.Sign sign.Minus) = 4
link (token.Sign sign.Concat) = 4
link (token.Sign sign.Equal) = 5
link (token.Sign sign.NotEqual) = 5
link (token.Sign sign.Less) = 5
link (token.Sign sign.LessOrEqual) = 5
link (token.Sign sign.Greater) = 5
link (token.Sign sign.GreaterOrEqual) = 5
link (token.Keyword keyword.In) = 5
link (token.Keyword keyword.NotIn) = 5
link (token.Keyword keyword.And) = 6
link (token.Keyword keyword.Or) = 7
link (token.Keyword keyword.Xor) = 7
link _ = 9

-- an operand of the level goes on with the token
abbrev pub goes_on : Level → TokenKind → Bool
goes_on l t = nat_le (link t) (looseness l)

pub looseness_top : (l : Level) → looseness l ≤ 8
looseness_top level.Primary = omega arith
looseness_top level.Postfix = omega arith
looseness_top level.Unary = omega arith
looseness_top level.Multiply = omega arith
looseness_top level.Add = omega arith
looseness_top level.Compare = omega arith
looseness_top level.And = omega arith
looseness_top level.Or = omega arith
looseness_top level.Expression = omega arith

pub within_all : (e : Exp) → Within level.Expression e
within_all e = looseness_top (level_of e)

pub tighter_is : (l : Level) → looseness (tighter l) ≡ looseness l - 1
tighter_is level.Primary = refl
tighter_is level.Postfix = refl
tighter_is level.Unary = refl
tighter_is level.Multiply = refl
tighter_is level.Add = refl
tighter_is level.Compare = refl
tighter_is level.And = refl
tighter_is level.Or = refl
tighter_is level.Expression = refl

-- what does not go on at a level does not at a tighter one
pub stops_within : (l m : Level) → looseness m ≤ looseness l → (ts : Tokens) → Lacks (goes_on l) ts → Lacks (goes_on m) ts
stops_within l m h [] stops = refl
stops_within l m h (t ∷ ts) stops = lt-leb (link t) (looseness m) (let far : looseness l < link t = leb-false (link t) (looseness l) stops in omega arith)

pub operator_link : (o : BinaryOp) → link (binary_op_token o) ≡ looseness (operator_level o)
operator_link op.Or = refl
operator_link op.Xor = refl
operator_link op.And = refl
operator_link op.Equal = refl
operator_link op.NotEqual = refl
operator_link op.Less = refl
operator_link op.LessOrEqual = refl
operator_link op.Greater = refl
operator_link op.GreaterOrEqual = refl
operator_link op.Add = refl
operator_link op.Subtract = refl
operator_link op.Concat = refl
operator_link op.Multiply = refl
operator_link op.Divide = refl

pub operator_loose : (o : BinaryOp) → 3 ≤ looseness (operator_level o)
operator_loose op.Or = omega arith
operator_loose op.Xor = omega arith
operator_loose op.And = omega arith
operator_loose op.Equal = omega arith
operator_loose op.NotEqual = omega arith
operator_loose op.Less = omega arith
operator_loose op.LessOrEqual = omega arith
operator_loose op.Greater = omega arith
operator_loose op.GreaterOrEqual = omega arith
operator_loose op.Add = omega arith
operator_loose op.Subtract = omega arith
operator_loose op.Concat = omega arith
operator_loose op.Multiply = omega arith
operator_loose op.Divide = omega arith

pub operator_tight : (o : BinaryOp) → looseness (operator_level o) ≤ 7
operator_tight op.Or = omega arith
operator_tight op.Xor = omega arith
operator_tight op.And = omega arith
operator_tight op.Equal = omega arith
operator_tight op.NotEqual = omega arith
operator_tight op.Less = omega arith
operator_tight op.LessOrEqual = omega arith
operator_tight op.Greater = omega arith
operator_tight op.GreaterOrEqual = omega arith
operator_tight op.Add = omega arith
operator_tight op.Subtract = omega arith
operator_tight op.Concat = omega arith
operator_tight op.Multiply = omega arith
operator_tight op.Divide = omega arith

pub in_link : (b : Bool) → link (in_token b) ≡ 5
in_link true = refl
in_link false = refl

-- a tighter operand does not go on with an operator
pub operator_stops : (o : BinaryOp) (l : Level) → looseness l < looseness (operator_level o) → goes_on l (binary_op_token o) ≡ false
operator_stops o l h = rw (operator_link o) (lt-leb (looseness (operator_level o)) (looseness l) h)

pub in_stops : (b : Bool) (l : Level) → looseness l < 5 → goes_on l (in_token b) ≡ false
in_stops b l h = rw (in_link b) (lt-leb 5 (looseness l) h)

-- an operator is read at its level
pub operator_read : (o : BinaryOp) (l : Level) → looseness (operator_level o) ≡ looseness l → operator_at l (binary_op_token o) ≡ Some o
operator_read o l same = rw (binary_op_read o, eq-eqb (looseness (operator_level o)) (looseness l) same) refl

apart : (k : ℕ) (l : Level) → nat_le k (looseness l) ≡ false → nat_eq k (looseness l) ≡ false
apart k l h =
    elim (cases_Bool (nat_eq k (looseness l))) [
      | inl same ↦ (let e : k ≡ looseness l = eqb-true k (looseness l) same in let far : looseness l < k = leb-false k (looseness l) h in absurd (omega arith))
      | inr other ↦ other
    ]

at_none : (l : Level) (t : TokenKind) → goes_on l t ≡ false → operator_at l t ≡ None
at_none l (token.Keyword keyword.Or) h = rw (apart 7 l h) refl
at_none l (token.Keyword keyword.Xor) h = rw (apart 7 l h) refl
at_none l (token.Keyword keyword.And) h = rw (apart 6 l h) refl
at_none l (token.Sign sign.Equal) h = rw (apart 5 l h) refl
at_none l (token.Sign sign.NotEqual) h = rw (apart 5 l h) refl
at_none l (token.Sign sign.Less) h = rw (apart 5 l h) refl
at_none l (token.Sign sign.LessOrEqual) h = rw (apart 5 l h) refl
at_none l (token.Sign sign.Greater) h = rw (apart 5 l h) refl
at_none l (token.Sign sign.GreaterOrEqual) h = rw (apart 5 l h) refl
at_none l (token.Sign sign.Plus) h = rw (apart 4 l h) refl
at_none l (token.Sign sign.Minus) h = rw (apart 4 l h) refl
at_none l (token.Sign sign.Concat) h = rw (apart 4 l h) refl
at_none l (token.Sign sign.Star) h = rw (apart 3 l h) refl
at_none l (token.Sign sign.Slash) h = rw (apart 3 l h) refl
at_none l _ h = refl

pub operator_none : (l : Level) (ts : Tokens) → Lacks (goes_on l) ts → word (operator_at l) ts ≡ None
operator_none l [] h = refl
operator_none l (t ∷ ts) h = rw (at_none l t h) refl

in_none : (t : TokenKind) → goes_on level.Compare t ≡ false → in_at t ≡ None
in_none (token.Keyword keyword.In) h = cc
in_none (token.Keyword keyword.NotIn) h = cc
in_none _ h = refl

pub membership_none : (l : Level) (ts : Tokens) → Lacks (goes_on l) ts → word (membership_at l) ts ≡ None
membership_none level.Compare [] h = refl
membership_none level.Compare (t ∷ ts) h = rw (in_none t h) refl
membership_none _ [] h = refl
membership_none _ (t ∷ ts) h = refl

pub membership_read : (b : Bool) (l : Level) → looseness l ≡ 5 → membership_at l (in_token b) ≡ Some b
membership_read true level.Compare h = refl
membership_read false level.Compare h = refl
membership_read b _ h = absurd (omega arith)

in_no_operator : (b : Bool) → binary_op_at (in_token b) ≡ None
in_no_operator true = refl
in_no_operator false = refl

pub in_operator_none : (b : Bool) (l : Level) → operator_at l (in_token b) ≡ None
in_operator_none b l = rw (in_no_operator b) refl

tight_stops : (l : Level) (t : TokenKind) → 1 ≤ looseness l → goes_on l t ≡ false → (is_sign sign.OpenSquare t ≡ false) × (is_sign sign.Hash t ≡ false)
tight_stops l (token.Sign sign.OpenSquare) h stops = let far : looseness l < 1 = leb-false 1 (looseness l) stops in absurd (omega arith)
tight_stops l (token.Sign sign.Hash) h stops = let far : looseness l < 1 = leb-false 1 (looseness l) stops in absurd (omega arith)
tight_stops l _ h stops = (refl, refl)

pub postfix_stops : (l : Level) (ts : Tokens) → 1 ≤ looseness l → Lacks (goes_on l) ts → Lacks (is_sign sign.OpenSquare) ts × Lacks (is_sign sign.Hash) ts
postfix_stops l [] h stops = (refl, refl)
postfix_stops l (t ∷ ts) h stops = tight_stops l t h stops

-- ---- beginning

-- a test that nothing passes with which an expression of the level begins
pub record NoStart (l : Level) (p : TokenKind → Bool) : Type 0 where
  pub no_if : 8 ≤ looseness l → p (token.Keyword keyword.If) ≡ false
  pub no_unary : 2 ≤ looseness l → (o : UnaryOp) → p (unary_op_token o) ≡ false
  pub no_comp : (c : Comp) → p (comp_token c) ≡ false
  pub no_numeral : (n : Numeral) → p (numeral_token n) ≡ false
  pub no_string : (s : List ℕ) → p (token.String s) ≡ false
  pub no_boolean : (b : Bool) → p (boolean_token b) ≡ false
  pub no_null : p (token.Keyword keyword.Null) ≡ false
  pub no_open : p open_bracket ≡ false
  pub no_form : (f : CallForm) → p (form_token f) ≡ false

constant_start : (l : Level) (p : TokenKind → Bool) → NoStart l p → (c : Constant) (rest : Tokens) → Lacks p (exp_onto (constant c) rest)
constant_start l p lacks (constants.Number n) rest = lacks.no_numeral n
constant_start l p lacks (constants.String s) rest = lacks.no_string s
constant_start l p lacks (constants.Boolean b) rest = lacks.no_boolean b
constant_start l p lacks constants.Null rest = lacks.no_null
constant_start l p lacks (constants.Cast s k) rest = lacks.no_form form.Cast

pub starts : (l : Level) (p : TokenKind → Bool) → NoStart l p → (e : Exp) → Within l e → Fits e → (rest : Tokens) → Lacks p (exp_onto e rest)
starts l p lacks (if_then c a b) within fits rest = lacks.no_if within
starts l p lacks (binary x o y) within fits rest = starts l p lacks x (let h : looseness (level_of x) ≤ looseness (operator_level o) = fits.0 in omega arith) fits.1 (binary_op_token o ∷ exp_onto y rest)
starts l p lacks (in_set e negated ls) within fits rest = starts l p lacks e (let h : looseness (level_of e) ≤ 5 = fits.0 in omega arith) fits.1 (in_token negated ∷ set_onto ls rest)
starts l p lacks (unary o e) within fits rest = lacks.no_unary within o
starts l p lacks (with_clause e c) within fits rest = starts l p lacks e (let h : looseness (level_of e) ≤ 1 = fits.0 in omega arith) fits.1 (token.Sign sign.OpenSquare ∷ clause_onto c (token.Sign sign.CloseSquare ∷ rest))
starts l p lacks (member e c) within fits rest = starts l p lacks e (let h : looseness (level_of e) ≤ 1 = fits.0 in omega arith) fits.1 (token.Sign sign.Hash ∷ comp_token c ∷ rest)
starts l p lacks (component c) within fits rest = lacks.no_comp c
starts l p lacks (constant c) within fits rest = constant_start l p lacks c rest
starts l p lacks (brackets e) within fits rest = lacks.no_open
starts l p lacks (function f es) within fits rest = lacks.no_form (form.Function f)
starts l p lacks (aggregate f e g h) within fits rest = lacks.no_form (form.Aggregate f)
starts l p lacks (aggregate_over f e o) within fits rest = lacks.no_form (form.Aggregate f)
starts l p lacks (value_window f e o) within fits rest = lacks.no_form (form.ValueWindow f)
starts l p lacks (shift f e n d o) within fits rest = lacks.no_form (form.Shift f)
starts l p lacks (rank o) within fits rest = lacks.no_form form.Rank
starts l p lacks (set_op f es) within fits rest = lacks.no_form (form.SetOp f)
starts l p lacks (difference f a b) within fits rest = lacks.no_form (form.Difference f)
starts l p lacks (exists_in a b r) within fits rest = lacks.no_form form.ExistsIn
starts l p lacks (time e call) within fits rest = lacks.no_form (form.Time (name_of_time call))
starts l p lacks (check e err i o) within fits rest = lacks.no_form form.Check
starts l p lacks (check_datapoint e n o) within fits rest = lacks.no_form form.CheckDatapoint
starts l p lacks (check_hierarchy e n r m d o) within fits rest = lacks.no_form form.CheckHierarchy
starts l p lacks (hierarchy e n r m i o) within fits rest = lacks.no_form form.Hierarchy
starts l p lacks (join k ps u f m kept rs) within fits rest = lacks.no_form (form.Join k)

-- ---- words before brackets are nothing else

pub form_lacks : (p : TokenKind → Bool) → ((t : TokenKind) → p t ≡ true → form_at t ≡ None) → (f : CallForm) → p (form_token f) ≡ false
form_lacks p other f =
    elim (cases_Bool (p (form_token f))) [
      | inl passes ↦ (let e : form_at (form_token f) ≡ None = other (form_token f) passes in let g : form_at (form_token f) ≡ Some f = form_read f in cc)
      | inr fails ↦ fails
    ]

unary_apart : (t : TokenKind) → in_table unary_op_at t ≡ true → form_at t ≡ None
unary_apart (token.Keyword keyword.Not) h = refl
unary_apart (token.Sign s) h = refl
unary_apart _ h = cc

leaf_apart : (t : TokenKind) → in_table leaf_at t ≡ true → form_at t ≡ None
leaf_apart (token.Keyword keyword.True) h = refl
leaf_apart (token.Keyword keyword.False) h = refl
leaf_apart (token.Keyword keyword.Null) h = refl
leaf_apart (token.Keyword k) h = cc
leaf_apart _ h = refl

if_apart : (t : TokenKind) → is_keyword keyword.If t ≡ true → form_at t ≡ None
if_apart (token.Keyword keyword.If) h = refl
if_apart _ h = cc

when_apart : (t : TokenKind) → is_keyword keyword.When t ≡ true → form_at t ≡ None
when_apart (token.Keyword keyword.When) h = refl
when_apart _ h = cc

end_apart : (t : TokenKind) → is_keyword keyword.End t ≡ true → form_at t ≡ None
end_apart (token.Keyword keyword.End) h = refl
end_apart _ h = cc

name_apart : (t : TokenKind) → in_table name_at t ≡ true → form_at t ≡ None
name_apart (token.Name n) h = refl
name_apart _ h = cc

pub form_no_name : (f : CallForm) → in_table name_at (form_token f) ≡ false
form_no_name = form_lacks (in_table name_at) name_apart

ends_apart : (t : TokenKind) → ends_operand t ≡ true → form_at t ≡ None
ends_apart (token.Keyword keyword.Group) h = refl
ends_apart (token.Keyword keyword.Having) h = refl
ends_apart (token.Keyword keyword.Over) h = refl
ends_apart (token.Keyword k) h = cc
ends_apart _ h = refl

pub form_no_leaf : (f : CallForm) → in_table leaf_at (form_token f) ≡ false
form_no_leaf = form_lacks (in_table leaf_at) leaf_apart

pub sign_apart : (s : Sign) (t : TokenKind) → is_sign s t ≡ true → form_at t ≡ None
sign_apart s (token.Sign x) h = refl
sign_apart s _ h = cc

-- no sign or `not` begins what stands at the place of a postfix
pub unary_start : NoStart level.Postfix (in_table unary_op_at)
unary_start = record {
  no_if = λ h. absurd (omega arith);
  no_unary = λ h. absurd (omega arith);
  no_comp = comp_lacks (in_table unary_op_at) (λ n. refl) (λ n. refl);
  no_numeral = λ n. elim n as (λ v. (in_table unary_op_at) (numeral_token v) ≡ false) [ numeral.Integer d ↦ refl | numeral.Decimal d ↦ refl ];
  no_string = λ s. refl;
  no_boolean = λ b. elim b as (λ v. (in_table unary_op_at) (boolean_token v) ≡ false) [ true ↦ refl | false ↦ refl ];
  no_null = refl;
  no_open = refl;
  no_form = form_lacks (in_table unary_op_at) unary_apart;
}

-- nor `if` what stands at the place of an `or`
pub if_start : NoStart level.Or (is_keyword keyword.If)
if_start = record {
  no_if = λ h. absurd (omega arith);
  no_unary = λ h o. elim o as (λ v. (is_keyword keyword.If) (unary_op_token v) ≡ false) [ unary_op.Plus ↦ refl | unary_op.Minus ↦ refl | unary_op.Not ↦ refl ];
  no_comp = comp_lacks (is_keyword keyword.If) (λ n. refl) (λ n. refl);
  no_numeral = λ n. elim n as (λ v. (is_keyword keyword.If) (numeral_token v) ≡ false) [ numeral.Integer d ↦ refl | numeral.Decimal d ↦ refl ];
  no_string = λ s. refl;
  no_boolean = λ b. elim b as (λ v. (is_keyword keyword.If) (boolean_token v) ≡ false) [ true ↦ refl | false ↦ refl ];
  no_null = refl;
  no_open = refl;
  no_form = form_lacks (is_keyword keyword.If) if_apart;
}

-- and an operand does not begin as what follows it does
pub operand_start : NoStart level.Expression ends_operand
operand_start = record {
  no_if = λ h. refl;
  no_unary = λ h o. elim o as (λ v. ends_operand (unary_op_token v) ≡ false) [ unary_op.Plus ↦ refl | unary_op.Minus ↦ refl | unary_op.Not ↦ refl ];
  no_comp = comp_lacks ends_operand (λ n. refl) (λ n. refl);
  no_numeral = λ n. elim n as (λ v. ends_operand (numeral_token v) ≡ false) [ numeral.Integer d ↦ refl | numeral.Decimal d ↦ refl ];
  no_string = λ s. refl;
  no_boolean = λ b. elim b as (λ v. ends_operand (boolean_token v) ≡ false) [ true ↦ refl | false ↦ refl ];
  no_null = refl;
  no_open = refl;
  no_form = form_lacks ends_operand ends_apart;
}

-- no `when` begins an expression
pub when_start : NoStart level.Expression (is_keyword keyword.When)
when_start = record {
  no_if = λ h. refl;
  no_unary = λ h o. elim o as (λ v. (is_keyword keyword.When) (unary_op_token v) ≡ false) [ unary_op.Plus ↦ refl | unary_op.Minus ↦ refl | unary_op.Not ↦ refl ];
  no_comp = comp_lacks (is_keyword keyword.When) (λ n. refl) (λ n. refl);
  no_numeral = λ n. elim n as (λ v. (is_keyword keyword.When) (numeral_token v) ≡ false) [ numeral.Integer d ↦ refl | numeral.Decimal d ↦ refl ];
  no_string = λ s. refl;
  no_boolean = λ b. elim b as (λ v. (is_keyword keyword.When) (boolean_token v) ≡ false) [ true ↦ refl | false ↦ refl ];
  no_null = refl;
  no_open = refl;
  no_form = form_lacks (is_keyword keyword.When) when_apart;
}

-- and no `end`
pub end_start : NoStart level.Expression (is_keyword keyword.End)
end_start = record {
  no_if = λ h. refl;
  no_unary = λ h o. elim o as (λ v. (is_keyword keyword.End) (unary_op_token v) ≡ false) [ unary_op.Plus ↦ refl | unary_op.Minus ↦ refl | unary_op.Not ↦ refl ];
  no_comp = comp_lacks (is_keyword keyword.End) (λ n. refl) (λ n. refl);
  no_numeral = λ n. elim n as (λ v. (is_keyword keyword.End) (numeral_token v) ≡ false) [ numeral.Integer d ↦ refl | numeral.Decimal d ↦ refl ];
  no_string = λ s. refl;
  no_boolean = λ b. elim b as (λ v. (is_keyword keyword.End) (boolean_token v) ≡ false) [ true ↦ refl | false ↦ refl ];
  no_null = refl;
  no_open = refl;
  no_form = form_lacks (is_keyword keyword.End) end_apart;
}
