-- Where all tokens of a part are spelled, its names are names: of the parts that hold no expression.
use Rattle.std.proofs.Common.{ℕ, ◌≤◌, true, false, Bool, List, [], ◌∷◌, length, Option, Some, None, IfSome}
use Rattle.std.specs.List.{AllByRecursion}
use Rattle.vtl_grammar.specs.Fits.{GroupFits, KeepingFits, MaybeFilled, MaybeKeepingFits, OverFits}
use Rattle.vtl_grammar.specs.Grammar.{Tokens, close_bracket, comp_onto, comps_onto, constant_onto, dataset_onto, error_onto, group_onto, integer_onto, keeping_onto, limit_onto, listed_onto, literal_onto, maybe_after_onto, maybe_keeping_onto, maybe_onto, more_onto, name_onto, order_onto, order_part_onto, over_onto, partition_onto, points_onto, reference_onto, rename_part_onto, retain_onto, rule_name_onto, set_onto, signed_onto, string_onto, sub_part_onto, time_part_onto}
use Rattle.vtl_grammar.specs.Words.{comp_token, direction_token}
use Rattle.vtl_grammar.specs.Written.{IsSpelled}
use Rattle.vtl_lexer.specs.declared.keyword.Keyword.TheVariants as keyword
use Rattle.vtl_lexer.specs.declared.token.Sign.TheVariants as sign
use Rattle.vtl_lexer.specs.declared.token.TokenKind.{TokenKind}
use Rattle.vtl_lexer.specs.declared.token.TokenKind.TheVariants as token
use Rattle.vtl_syntax.specs.Written.{AreKept, IsComponent, IsGrouping, IsName, IsOver, IsReference, IsRenaming, SomeAll}
use Rattle.vtl_syntax.specs.declared.parts.Comp.{Comp}
use Rattle.vtl_syntax.specs.declared.parts.Comp.TheVariants as comp
use Rattle.vtl_syntax.specs.declared.parts.Constant.{Constant}
use Rattle.vtl_syntax.specs.declared.parts.Constant.TheVariants as constants
use Rattle.vtl_syntax.specs.declared.parts.DataPoints.{DataPoints}
use Rattle.vtl_syntax.specs.declared.parts.ErrorPart.{ErrorPart}
use Rattle.vtl_syntax.specs.declared.parts.GroupPart.{GroupPart}
use Rattle.vtl_syntax.specs.declared.parts.Keeping.{Keeping}
use Rattle.vtl_syntax.specs.declared.parts.Keeping.TheVariants as kept
use Rattle.vtl_syntax.specs.declared.parts.Limit.{Limit}
use Rattle.vtl_syntax.specs.declared.parts.Limit.TheVariants as limit
use Rattle.vtl_syntax.specs.declared.parts.Literal.{Literal}
use Rattle.vtl_syntax.specs.declared.parts.Literal.TheVariants as literal
use Rattle.vtl_syntax.specs.declared.parts.OrderPart.{OrderPart}
use Rattle.vtl_syntax.specs.declared.parts.OverPart.{OverPart}
use Rattle.vtl_syntax.specs.declared.parts.Reference.{Reference}
use Rattle.vtl_syntax.specs.declared.parts.Reference.TheVariants as reference
use Rattle.vtl_syntax.specs.declared.parts.RenamePart.{RenamePart}
use Rattle.vtl_syntax.specs.declared.parts.SignedComp.{SignedComp}
use Rattle.vtl_syntax.specs.declared.parts.SubPart.{SubPart}
use Rattle.vtl_syntax.specs.declared.parts.TimeCall.TheVariants as time_call
use Rattle.vtl_syntax.specs.declared.word_groups.Retain.{Retain}

-- all of the tokens are spelled
abbrev pub Spelled : Tokens → Type 0
Spelled ts = AllByRecursion IsSpelled ts

-- what holds of an item where its tokens are spelled; and those that follow are spelled
abbrev pub Tells : {X : Type 0} → (X → Tokens → Tokens) → (X → Type 0) → Type 0
Tells {X} onto P = (x : X) (ts : Tokens) → Spelled (onto x ts) → P x × Spelled ts

abbrev pub Nothing : {X : Type 0} → X → Type 0
Nothing x = Unit {0}

-- ---- items and lists of them
pub comp_told : (c : Comp) → IsSpelled (comp_token c) → IsComponent c
comp_told (comp.Name n) h = h.1.1
comp_told (comp.Quoted n) h = h.1.4

pub comp_tells : Tells comp_onto IsComponent
comp_tells c ts h = (comp_told c h.0, h.1)

pub name_tells : Tells name_onto IsName
name_tells n ts h = (h.0.1.1, h.1)

pub string_tells : Tells string_onto Nothing
string_tells text ts h = (tt, h.1)

pub integer_tells : Tells integer_onto Nothing
integer_tells digits ts h = (tt, h.1)

more_tell : {X : Type 0} (item : X → Tokens → Tokens) (P : X → Type 0) → Tells item P → Tells (more_onto item) (AllByRecursion P)
more_tell item P each [] ts h = (tt, h)
more_tell item P each (x ∷ xs) ts h =
    let first : P x × Spelled (more_onto item xs ts) = each x (more_onto item xs ts) h.1 in
    let others : AllByRecursion P xs × Spelled ts = more_tell item P each xs ts first.1 in
    ((first.0, others.0), others.1)

pub listed_tell : {X : Type 0} (item : X → Tokens → Tokens) (P : X → Type 0) → Tells item P → Tells (listed_onto item) (AllByRecursion P)
listed_tell item P each [] ts h = (tt, h)
listed_tell item P each (x ∷ xs) ts h =
    let first : P x × Spelled (more_onto item xs ts) = each x (more_onto item xs ts) h in
    let others : AllByRecursion P xs × Spelled ts = more_tell item P each xs ts first.1 in
    ((first.0, others.0), others.1)

pub maybe_tells : {X : Type 0} (token_of : X → TokenKind) → Tells (maybe_onto token_of) Nothing
maybe_tells token_of None ts h = (tt, h)
maybe_tells token_of (Some x) ts h = (tt, h.1)

pub after_tells : {X : Type 0} (first : TokenKind) (item : X → Tokens → Tokens) (P : X → Type 0) → Tells item P → Tells (maybe_after_onto first item) (λ o. IfSome o P)
after_tells first item P each None ts h = (tt, h)
after_tells first item P each (Some x) ts h = each x ts h.1

-- a list that is filled
pub some_all : {X : Type 0} (P : X → Type 0) (o : Option (List X)) → MaybeFilled o → IfSome o (AllByRecursion P) → IfSome o (SomeAll P)
some_all P None filled h = tt
some_all P (Some xs) filled h = (filled, h)

-- ---- constants and literals
pub constant_tells : Tells constant_onto Nothing
constant_tells (constants.Number n) ts h = (tt, h.1)
constant_tells (constants.String t) ts h = (tt, h.1)
constant_tells (constants.Boolean b) ts h = (tt, h.1)
constant_tells constants.Null ts h = (tt, h.1)
constant_tells (constants.Cast t c) ts h = (tt, h.1.1.1.1.1.1)

pub literal_tells : Tells literal_onto Nothing
literal_tells (literal.Number true n) ts h = (tt, h.1.1)
literal_tells (literal.Number false n) ts h = (tt, h.1)
literal_tells (literal.String t) ts h = (tt, h.1)
literal_tells (literal.Boolean b) ts h = (tt, h.1)
literal_tells (literal.Cast t c) ts h = (tt, h.1.1.1.1.1.1)

pub set_tells : Tells set_onto Nothing
set_tells ls ts h = (tt, (listed_tell literal_onto Nothing literal_tells ls (token.Sign sign.CloseBrace ∷ ts) h.1).1.1)

pub error_tells : Tells error_onto Nothing
error_tells e ts h =
    let code = after_tells (token.Keyword keyword.Errorcode) string_onto Nothing string_tells e.code (maybe_after_onto (token.Keyword keyword.Errorlevel) integer_onto e.level ts) h in
    (tt, (after_tells (token.Keyword keyword.Errorlevel) integer_onto Nothing integer_tells e.level ts code.1).1)

-- ---- groups and windows
pub group_tells : (g : Option GroupPart) (ts : Tokens) → GroupFits g → Spelled (group_onto g ts) → IfSome g IsGrouping × Spelled ts
group_tells None ts fits h = (tt, h)
group_tells (Some g) ts fits h = let names = listed_tell comp_onto IsComponent comp_tells g.names ts h.1.1 in ((fits, names.0), names.1)

order_part_tells : Tells order_part_onto (λ o. IsComponent o.component)
order_part_tells o ts h = (comp_told o.component h.0, (maybe_tells direction_token o.direction ts h.1).1)

limit_tells : Tells limit_onto Nothing
limit_tells (limit.Unbounded side) ts h = (tt, h.1.1)
limit_tells (limit.Points d side) ts h = (tt, h.1.1)
limit_tells limit.Current ts h = (tt, h.1.1.1)

partition_tells : Tells partition_onto (λ o. IfSome o (AllByRecursion IsComponent))
partition_tells None ts h = (tt, h)
partition_tells (Some cs) ts h = listed_tell comp_onto IsComponent comp_tells cs ts h.1.1

order_tells : Tells order_onto (λ o. IfSome o (AllByRecursion (λ x. IsComponent x.component)))
order_tells None ts h = (tt, h)
order_tells (Some os) ts h = listed_tell order_part_onto (λ x. IsComponent x.component) order_part_tells os ts h.1.1

points_tell : Tells points_onto Nothing
points_tell None ts h = (tt, h)
points_tell (Some p) ts h =
    let from = limit_tells p.from (token.Keyword keyword.And ∷ limit_onto p.to ts) h.1.1.1 in
    limit_tells p.to ts from.1.1

pub over_tells : (o : OverPart) (ts : Tokens) → OverFits o → Spelled (over_onto o ts) → IsOver o × Spelled ts
over_tells o ts fits h =
    let partition = partition_tells o.partition (order_onto o.order (points_onto o.points (close_bracket ∷ ts))) h.1.1 in
    let order = order_tells o.order (points_onto o.points (close_bracket ∷ ts)) partition.1 in
    let points = points_tell o.points (close_bracket ∷ ts) order.1 in
    ((some_all IsComponent o.partition fits.0 partition.0, some_all (λ x. IsComponent x.component) o.order fits.1 order.0), points.1.1)

-- ---- clauses
reference_tells : Tells reference_onto IsReference
reference_tells (reference.Component c) ts h = comp_tells c ts h
reference_tells (reference.Member n c) ts h = ((h.0.1.1, comp_told c h.1.1.0), h.1.1.1)

pub keeping_tells : (k : Keeping) (ts : Tokens) → KeepingFits k → Spelled (keeping_onto k ts) → AreKept k × Spelled ts
keeping_tells (kept.Keep rs) ts fits h = let all = listed_tell reference_onto IsReference reference_tells rs ts h.1 in ((fits, all.0), all.1)
keeping_tells (kept.Drop rs) ts fits h = let all = listed_tell reference_onto IsReference reference_tells rs ts h.1 in ((fits, all.0), all.1)

pub maybe_keeping_tells : (k : Option Keeping) (ts : Tokens) → MaybeKeepingFits k → Spelled (maybe_keeping_onto k ts) → IfSome k AreKept × Spelled ts
maybe_keeping_tells None ts fits h = (tt, h)
maybe_keeping_tells (Some k) ts fits h = keeping_tells k ts fits h

rename_part_tells : Tells rename_part_onto IsRenaming
rename_part_tells r ts h =
    let from = reference_tells r.from (token.Keyword keyword.To ∷ comp_token r.to ∷ ts) h in
    ((from.0, comp_told r.to from.1.1.0), from.1.1.1)

pub renames_tell : Tells (listed_onto rename_part_onto) (AllByRecursion IsRenaming)
renames_tell = listed_tell rename_part_onto IsRenaming rename_part_tells

sub_part_tells : Tells sub_part_onto (λ p. IsComponent p.component)
sub_part_tells p ts h = (comp_told p.component h.0, (literal_tells p.value ts h.1.1).1)

pub subs_tell : Tells (listed_onto sub_part_onto) (AllByRecursion (λ p. IsComponent p.component))
subs_tell = listed_tell sub_part_onto (λ p. IsComponent p.component) sub_part_tells

pub dataset_tells : Tells dataset_onto Nothing
dataset_tells true ts h = (tt, h.1)
dataset_tells false ts h = (tt, h)

pub time_part_tells : Tells time_part_onto Nothing
time_part_tells (time_call.Timeshift true n) ts h = (tt, h.1.1.1)
time_part_tells (time_call.Timeshift false n) ts h = (tt, h.1.1)
time_part_tells (time_call.FillTimeSeries None) ts h = (tt, h)
time_part_tells (time_call.FillTimeSeries (Some f)) ts h = (tt, h.1.1)
time_part_tells time_call.FlowToStock ts h = (tt, h)
time_part_tells time_call.StockToFlow ts h = (tt, h)

pub retain_tells : Tells retain_onto Nothing
retain_tells None ts h = (tt, h)
retain_tells (Some r) ts h = (tt, h.1.1)

-- ---- rules
pub rule_name_tells : Tells rule_name_onto (λ o. IfSome o IsName)
rule_name_tells None ts h = (tt, h)
rule_name_tells (Some n) ts h = (h.0.1.1, h.1.1)

pub signed_tell : Tells signed_onto (AllByRecursion (λ x. IsComponent x.item))
signed_tell [] ts h = (tt, h)
signed_tell (x ∷ xs) ts h = let others = signed_tell xs ts h.1.1 in ((comp_told x.item h.1.0, others.0), others.1)
