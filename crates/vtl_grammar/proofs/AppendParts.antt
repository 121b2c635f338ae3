-- Parts are written in front of what they are handed.
use Rattle.std.proofs.Common.{◌≡◌, true, false, [], ◌∷◌, ◌++◌, Some, None, refl, arith, length-append}
use Rattle.vtl_lexer.specs.declared.keyword.Keyword.TheVariants as keyword
use Rattle.vtl_lexer.specs.declared.token.Sign.TheVariants as sign
use Rattle.vtl_lexer.specs.declared.token.TokenKind.{TokenKind}
use Rattle.vtl_lexer.specs.declared.token.TokenKind.TheVariants as token
use Rattle.vtl_syntax.specs.declared.parts.Constant.TheVariants as constants
use Rattle.vtl_syntax.specs.declared.parts.Keeping.TheVariants as kept
use Rattle.vtl_syntax.specs.declared.parts.Limit.TheVariants as limit
use Rattle.vtl_syntax.specs.declared.parts.Literal.TheVariants as literal
use Rattle.vtl_syntax.specs.declared.parts.Reference.TheVariants as reference
use Rattle.vtl_syntax.specs.declared.parts.TimeCall.TheVariants as time_call
use Rattle.vtl_grammar.specs.Grammar.{Tokens, close_bracket, more_onto, listed_onto, maybe_onto, maybe_after_onto, comp_onto, comps_onto, constant_onto, literal_onto, set_onto, string_onto, integer_onto, name_onto, error_onto, group_onto, order_part_onto, limit_onto, partition_onto, order_onto, points_onto, over_onto, reference_onto, keeping_onto, maybe_keeping_onto, rename_part_onto, sub_part_onto, dataset_onto, retain_onto, time_part_onto}
use Rattle.vtl_grammar.specs.Words.{direction_token}
use Rattle.vtl_grammar.proofs.CompleteBase.{Grows}

abbrev pub Appends : {A : Type 0} → (A → Tokens → Tokens) → Type 0
Appends {A} onto = (x : A) (a b : Tokens) → onto x (a ++ b) ≡ onto x a ++ b

pub grows : {A : Type 0} (onto : A → Tokens → Tokens) → Appends onto → Grows onto
grows onto appends x ts = rw (appends x [] ts) (omega (arith, length-append (onto x []) ts))

pub more-append : {A : Type 0} (item : A → Tokens → Tokens) → Appends item → Appends (more_onto item)
more-append item appends [] a b = refl
more-append item appends (x ∷ xs) a b = rw (more-append item appends xs a b, appends x (more_onto item xs a) b) refl

pub listed-append : {A : Type 0} (item : A → Tokens → Tokens) → Appends item → Appends (listed_onto item)
listed-append item appends [] a b = refl
listed-append item appends (x ∷ xs) a b = rw (more-append item appends xs a b, appends x (more_onto item xs a) b) refl

pub maybe-append : {A : Type 0} (token_of : A → TokenKind) → Appends (maybe_onto token_of)
maybe-append token_of None a b = refl
maybe-append token_of (Some x) a b = refl

pub maybe_after-append : {A : Type 0} (w : TokenKind) (item : A → Tokens → Tokens) → Appends item → Appends (maybe_after_onto w item)
maybe_after-append w item appends None a b = refl
maybe_after-append w item appends (Some x) a b = rw (appends x a b) refl

pub comp-append : Appends comp_onto
comp-append c a b = refl

pub comps-append : Appends comps_onto
comps-append = listed-append comp_onto comp-append

pub constant-append : Appends constant_onto
constant-append (constants.Number n) a b = refl
constant-append (constants.String s) a b = refl
constant-append (constants.Boolean v) a b = refl
constant-append constants.Null a b = refl
constant-append (constants.Cast s k) a b = refl

pub literal-append : Appends literal_onto
literal-append (literal.Number true n) a b = refl
literal-append (literal.Number false n) a b = refl
literal-append (literal.String s) a b = refl
literal-append (literal.Boolean v) a b = refl
literal-append (literal.Cast s k) a b = refl

pub set-append : Appends set_onto
set-append ls a b = rw (listed-append literal_onto literal-append ls (token.Sign sign.CloseBrace ∷ a) b) refl

pub string-append : Appends string_onto
string-append s a b = refl

pub integer-append : Appends integer_onto
integer-append d a b = refl

pub name-append : Appends name_onto
name-append n a b = refl

pub error-append : Appends error_onto
error-append e a b =
    let level : Tokens = maybe_after_onto (token.Keyword keyword.Errorlevel) integer_onto e.level a in
    rw (maybe_after-append (token.Keyword keyword.Errorlevel) integer_onto integer-append e.level a b) (maybe_after-append (token.Keyword keyword.Errorcode) string_onto string-append e.code level b)

pub group-append : Appends group_onto
group-append None a b = refl
group-append (Some g) a b = rw (comps-append g.names a b) refl

pub order_part-append : Appends order_part_onto
order_part-append o a b = rw (maybe-append direction_token o.direction a b) refl

pub limit-append : Appends limit_onto
limit-append (limit.Unbounded s) a b = refl
limit-append (limit.Points d s) a b = refl
limit-append limit.Current a b = refl

pub partition-append : Appends partition_onto
partition-append None a b = refl
partition-append (Some cs) a b = rw (comps-append cs a b) refl

pub order-append : Appends order_onto
order-append None a b = refl
order-append (Some os) a b = rw (listed-append order_part_onto order_part-append os a b) refl

pub points-append : Appends points_onto
points-append None a b = refl
points-append (Some p) a b = rw (limit-append p.to a b, limit-append p.from (token.Keyword keyword.And ∷ limit_onto p.to a) b) refl

pub over-append : Appends over_onto
over-append o a b =
    let points : Tokens = points_onto o.points (close_bracket ∷ a) in
    let order : Tokens = order_onto o.order points in
    rw (points-append o.points (close_bracket ∷ a) b, order-append o.order points b, partition-append o.partition order b) refl

pub reference-append : Appends reference_onto
reference-append (reference.Component c) a b = refl
reference-append (reference.Member n c) a b = refl

pub references-append : Appends (listed_onto reference_onto)
references-append = listed-append reference_onto reference-append

pub keeping-append : Appends keeping_onto
keeping-append (kept.Keep rs) a b = rw (references-append rs a b) refl
keeping-append (kept.Drop rs) a b = rw (references-append rs a b) refl

pub maybe_keeping-append : Appends maybe_keeping_onto
maybe_keeping-append None a b = refl
maybe_keeping-append (Some k) a b = keeping-append k a b

pub rename_part-append : Appends rename_part_onto
rename_part-append r a b = reference-append r.from (token.Keyword keyword.To ∷ comp_onto r.to a) b

pub renames-append : Appends (listed_onto rename_part_onto)
renames-append = listed-append rename_part_onto rename_part-append

pub sub_part-append : Appends sub_part_onto
sub_part-append s a b = rw (literal-append s.value a b) refl

pub subs-append : Appends (listed_onto sub_part_onto)
subs-append = listed-append sub_part_onto sub_part-append

pub dataset-append : Appends dataset_onto
dataset-append true a b = refl
dataset-append false a b = refl

pub retain-append : Appends retain_onto
retain-append None a b = refl
retain-append (Some r) a b = refl

pub time_part-append : Appends time_part_onto
time_part-append (time_call.Timeshift true n) a b = refl
time_part-append (time_call.Timeshift false n) a b = refl
time_part-append (time_call.FillTimeSeries None) a b = refl
time_part-append (time_call.FillTimeSeries (Some f)) a b = refl
time_part-append time_call.FlowToStock a b = refl
time_part-append time_call.StockToFlow a b = refl
