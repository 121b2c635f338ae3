-- Each token of a printable script is formed.
use Rattle.std.proofs.Common.{Bool, true, false, List, [], ◌∷◌, ◌++◌, Option, None, Some, nat_le, arith, refl}
use Rattle.grammar_forms.specs.Written.{Each, behind, between, run}
use Rattle.sql_lexer.specs.Spelling.{IsFormed}
use Rattle.sql_lexer.specs.declared.token.TokenKind.TheVariants as t
use Rattle.sql_lexer.specs.declared.token.Word.{Word}
use Rattle.sql_lexer.specs.declared.token.Word.TheVariants as w
use Rattle.sql_tree.specs.Grammar.{Tokens}
use Rattle.sql_tree.specs.Trees.{Text, Exp, binary, unary, is_null, in_list, constant, column, call, count_all, aggregate, case_when, exists, Exps, no_exps, exp, Branches, no_branches, branch, ValueTree, expression, window, ItemTree, JoinTree, on, cross, SelectTree, StatementTree, setting, input, create, export, ScriptTree}
use Rattle.sql_tree.specs.Printing.{just, two_words, bracketed, wrapped, not_word, commas, items_after, maybe_written, behind_word, direction_word, op_word, left_level, right_level, unary_level, level_of, written, written_exps, more_exps, written_branches, written_name, written_text, written_column, written_series, written_given, written_source, written_sources, not_null_words, span_word, written_equality, written_equalities, written_number, written_constant, written_literal, written_default, written_call, written_key, written_bound, written_frame, written_over, written_value, written_item, written_join, written_select, written_query, written_input_column, written_statement, written_script}
use Rattle.sql_tree.specs.Formed.{IsName, IsColumn, IsMaybeSeries, IsSource, IsEquality, IsNumber, IsConstant, IsLiteral, Formed, EachFormed, BranchesFormed, IsMaybeExp, IsDefault, IsCall, IsWindowKey, IsBound, IsMaybeFrame, IsOver, IsValue, IsItem, IsJoin, IsSelect, IsInputColumn, IsStatement, PrintableScript}
use Rattle.sql_tree.specs.declared.parts.Column.{Column}
use Rattle.sql_tree.specs.declared.parts.Source.{Source}
use Rattle.sql_tree.specs.declared.parts.Equality.{Equality}
use Rattle.sql_tree.specs.declared.parts.Series.{Series}
use Rattle.sql_tree.specs.declared.parts.Numeral.{Numeral}
use Rattle.sql_tree.specs.declared.parts.Numeral.TheVariants as numeral
use Rattle.sql_tree.specs.declared.parts.Constant.{Constant}
use Rattle.sql_tree.specs.declared.parts.Constant.TheVariants as c
use Rattle.sql_tree.specs.declared.parts.Literal.{Literal}
use Rattle.sql_tree.specs.declared.parts.Literal.TheVariants as l
use Rattle.sql_tree.specs.declared.windows.WindowCall.{WindowCall}
use Rattle.sql_tree.specs.declared.windows.WindowCall.TheVariants as wcall
use Rattle.sql_tree.specs.declared.windows.WindowKey.{WindowKey}
use Rattle.sql_tree.specs.declared.windows.Over.{Over}
use Rattle.sql_tree.specs.declared.windows.Frame.{Frame}
use Rattle.sql_tree.specs.declared.windows.Bound.{Bound}
use Rattle.sql_tree.specs.declared.windows.Bound.TheVariants as bound
use Rattle.sql_tree.specs.declared.word_groups.Direction.{Direction}
use Rattle.sql_tree.specs.declared.statements.InputColumn.{InputColumn}

abbrev AllFormed : Tokens → Type 0
AllFormed ts = Each IsFormed ts

-- ---- lists

both : (a b : Tokens) → AllFormed a → AllFormed b → AllFormed (a ++ b)
both [] b ha hb = hb
both (x ∷ a) b ha hb = (ha.0, both a b ha.1 hb)

in-pair : (ts : Tokens) → AllFormed ts → AllFormed (bracketed ts)
in-pair ts h = (tt, both ts (just w.Close) h (tt, tt))

in-pair-if : (free : Bool) (ts : Tokens) → AllFormed ts → AllFormed (wrapped free ts)
in-pair-if true ts h = h
in-pair-if false ts h = in-pair ts h

module _ {A : Type 0} (f : A → Tokens) (P : A → Type 0) (good : (x : A) → P x → AllFormed (f x)) where
  behind-all : (marks : Tokens) → AllFormed marks → (xs : List A) → Each P xs → AllFormed (behind marks f xs)
  behind-all marks m [] h = tt
  behind-all marks m (x ∷ xs) h = both marks (f x ++ behind marks f xs) m (both (f x) (behind marks f xs) (good x h.0) (behind-all marks m xs h.1))

  between-all : (marks : Tokens) → AllFormed marks → (xs : List A) → Each P xs → AllFormed (between marks f xs)
  between-all marks m [] h = tt
  between-all marks m (x ∷ xs) h = both (f x) (behind marks f xs) (good x h.0) (behind-all marks m xs h.1)

  commas-all : (xs : List A) → Each P xs → AllFormed (commas f xs)
  commas-all xs h = between-all (just w.Comma) (tt, tt) xs h

  run-all : (xs : List A) → Each P xs → AllFormed (run f xs)
  run-all [] h = tt
  run-all (x ∷ xs) h = both (f x) (run f xs) (good x h.0) (run-all xs h.1)

after-all : {A : Type 0} (marks : Tokens) (f : List A → Tokens) (P : A → Type 0) → AllFormed marks → ((xs : List A) → Each P xs → AllFormed (f xs)) → (xs : List A) → Each P xs → AllFormed (items_after marks f xs)
after-all marks f P m good [] h = tt
after-all marks f P m good (x ∷ xs) h = both marks (f (x ∷ xs)) m (good (x ∷ xs) h)

-- ---- parts

name-all : (x : Text) → IsName x → AllFormed (written_name x)
name-all x h = (h, tt)

column-all : (x : Column) → IsColumn x → AllFormed (written_column x)
column-all x h = (h.0, (tt, (h.1, tt)))

series-all : (x : Series) → IsMaybeSeries (Some x) → AllFormed (written_series x)
series-all x h = (
  tt,
  (
    h.0,
    both (items_after (just w.By) (λ xs. bracketed (commas written_name xs)) x.by) (just (span_word x.span))
        (after-all (just w.By) (λ xs. bracketed (commas written_name xs)) IsName (tt, tt) (λ xs each. in-pair (commas written_name xs) (commas-all written_name IsName name-all xs each)) x.by h.1) (tt, tt),
  ),
)

given-all : (table : Text) (o : Option Series) → IsName table → IsMaybeSeries o → AllFormed (written_given table o)
given-all table None t h = (t, tt)
given-all table (Some x) t h = (tt, (t, series-all x h))

source-all : (x : Source) → IsSource x → AllFormed (written_source x)
source-all x h = both (written_given x.table x.series) (t.Word w.As ∷ (t.Name x.alias ∷ [])) (given-all x.table x.series h.0 h.1) (tt, (h.2, tt))

equality-all : (x : Equality) → IsEquality x → AllFormed (written_equality x)
equality-all x h = both (written_column x.left) (t.Word w.Equal ∷ written_column x.right) (column-all x.left h.0) (tt, column-all x.right h.1)

number-all : (x : Numeral) → IsNumber x → AllFormed (written_number x)
number-all (numeral.Int x) h = (h, tt)
number-all (numeral.Dec x) h = (h, tt)

constant-all : (x : Constant) → IsConstant x → AllFormed (written_constant x)
constant-all (c.Number x) h = number-all x h
constant-all (c.Text x) h = (tt, tt)
constant-all c.True h = (tt, tt)
constant-all c.False h = (tt, tt)
constant-all c.Null h = (tt, tt)
constant-all (c.Date x) h = (tt, (tt, tt))
constant-all (c.Period x) h = (tt, (tt, tt))

literal-all : (x : Literal) → IsLiteral x → AllFormed (written_literal x)
literal-all (l.Number true x) h = (tt, number-all x h)
literal-all (l.Number false x) h = number-all x h
literal-all (l.Text x) h = (tt, tt)
literal-all l.True h = (tt, tt)
literal-all l.False h = (tt, tt)
literal-all (l.Date x) h = (tt, (tt, tt))
literal-all (l.Period x) h = (tt, (tt, tt))

not-all : (negated : Bool) (ts : Tokens) → AllFormed ts → AllFormed (not_word negated ++ ts)
not-all true ts h = (tt, h)
not-all false ts h = h

digit-one : IsFormed (t.Int (49 ∷ []))
digit-one = (omega arith, refl)

-- ---- expressions

mutual
  exp-all : (e : Exp) → Formed e → AllFormed (written e)
  exp-all (binary a o b) h =
      let i = nat_le (level_of a) (left_level o) in
      let j = nat_le (level_of b) (right_level o) in
      both (wrapped i (written a)) (t.Word (op_word o) ∷ wrapped j (written b)) (in-pair-if i (written a) (exp-all a h.1)) (tt, in-pair-if j (written b) (exp-all b h.2))
  exp-all (unary o e) h = (tt, in-pair-if (nat_le (level_of e) (unary_level o)) (written e) (exp-all e h.1))
  exp-all (is_null e negated) h = both (wrapped (nat_le (level_of e) 3) (written e)) (t.Word w.Is ∷ (not_word negated ++ just w.Null)) (in-pair-if (nat_le (level_of e) 3) (written e) (exp-all e h)) (tt, not-all negated (just w.Null) (tt, tt))
  exp-all (in_list e negated ls) h = both (wrapped (nat_le (level_of e) 3) (written e)) (not_word negated ++ (t.Word w.In ∷ bracketed (commas written_literal ls))) (in-pair-if (nat_le (level_of e) 3) (written e) (exp-all e h.0)) (not-all negated (t.Word w.In ∷ bracketed (commas written_literal ls)) (tt, in-pair (commas written_literal ls) (commas-all written_literal IsLiteral literal-all ls h.2)))
  exp-all (constant x) h = constant-all x h
  exp-all (column x) h = column-all x h
  exp-all (call f es) h = (tt, in-pair (written_exps es) (exps-all es h.2))
  exp-all count_all h = (tt, (tt, (tt, (tt, tt))))
  exp-all (aggregate f e) h = (tt, in-pair (written e) (exp-all e h))
  exp-all (case_when bs e) h = (tt, both (written_branches bs) (t.Word w.Else ∷ (written e ++ just w.End)) (branches-all bs h.1) (tt, both (written e) (just w.End) (exp-all e h.2) (tt, tt)))
  exp-all (exists s es) h = (tt, in-pair (t.Word w.Select ∷ (t.Int (49 ∷ []) ∷ (t.Word w.From ∷ (written_source s ++ written_equalities es)))) (tt, (digit-one, (tt, both (written_source s) (written_equalities es) (source-all s h.0) (after-all (just w.Where) (between (just w.And) written_equality) IsEquality (tt, tt) (between-all written_equality IsEquality equality-all (just w.And) (tt, tt)) es h.1)))))

  exps-all : (es : Exps) → EachFormed es → AllFormed (written_exps es)
  exps-all no_exps h = tt
  exps-all (exp e es) h = both (written e) (more_exps es) (exp-all e h.0) (more-all es h.1)

  more-all : (es : Exps) → EachFormed es → AllFormed (more_exps es)
  more-all no_exps h = tt
  more-all (exp e es) h = (tt, both (written e) (more_exps es) (exp-all e h.0) (more-all es h.1))

  branches-all : (bs : Branches) → BranchesFormed bs → AllFormed (written_branches bs)
  branches-all no_branches h = tt
  branches-all (branch e v bs) h = (tt, both (written e ++ (t.Word w.Then ∷ written v)) (written_branches bs) (both (written e) (t.Word w.Then ∷ written v) (exp-all e h.0) (tt, exp-all v h.1)) (branches-all bs h.2))

-- ---- windows

default-all : (o : Option Literal) → IsDefault o → AllFormed (written_default o)
default-all None h = (tt, tt)
default-all (Some x) h = literal-all x h

call-all : (x : WindowCall) → IsCall x → AllFormed (written_call x)
call-all (wcall.Aggregate f x) h = (tt, in-pair (written_column x) (column-all x h.1))
call-all (wcall.Value f x) h = (tt, in-pair (written_column x) (column-all x h))
call-all (wcall.Shift f x rows default) h =
    let tail : Tokens = t.Word w.Comma ∷ (t.Int rows ∷ (t.Word w.Comma ∷ written_default default)) in
    (tt, in-pair (written_column x ++ tail) (both (written_column x) tail (column-all x h.0) (tt, (h.1, (tt, default-all default h.2)))))
call-all wcall.Rank h = (tt, (tt, (tt, tt)))

direction-all : (o : Option Direction) → AllFormed (maybe_written (λ d. just (direction_word d)) o)
direction-all None = tt
direction-all (Some d) = (tt, tt)

key-all : (x : WindowKey) → IsWindowKey x → AllFormed (written_key x)
key-all x h = both (written_column x.column) _ (column-all x.column h) (direction-all x.direction)

bound-all : (x : Bound) → IsBound x → AllFormed (written_bound x)
bound-all (bound.Unbounded s) h = (tt, (tt, tt))
bound-all (bound.Rows n s) h = (h, (tt, tt))
bound-all bound.CurrentRow h = (tt, (tt, tt))

frame-all : (o : Option Frame) → IsMaybeFrame o → AllFormed (maybe_written written_frame o)
frame-all None h = tt
frame-all (Some x) h = (tt, (tt, both (written_bound x.first) (t.Word w.And ∷ written_bound x.last) (bound-all x.first h.0) (tt, bound-all x.last h.1)))

columns-after : (x y : Word) (cs : List Column) → Each IsColumn cs → AllFormed (items_after (two_words x y) (commas written_column) cs)
columns-after x y cs h = after-all (two_words x y) (commas written_column) IsColumn (tt, (tt, tt)) (commas-all written_column IsColumn column-all) cs h

over-all : (x : Over) → IsOver x → AllFormed (written_over x)
over-all x h = both _ _ (columns-after w.Partition w.By x.partition h.0) (both _ _ (after-all (two_words w.Order w.By) (commas written_key) IsWindowKey (tt, (tt, tt)) (commas-all written_key IsWindowKey key-all) x.order h.1) (frame-all x.frame h.2))

-- ---- queries

value-all : (x : ValueTree) → IsValue 256 x → AllFormed (written_value x)
value-all (expression e) h = exp-all e h.0
value-all (window x) h = both (written_call x.call) (t.Word w.Over ∷ bracketed (written_over x.over)) (call-all x.call h.0) (tt, in-pair (written_over x.over) (over-all x.over h.1))

item-all : (x : ItemTree) → IsItem 256 x → AllFormed (written_item x)
item-all x h = both (written_value x.value) (t.Word w.As ∷ written_name x.name) (value-all x.value h.0) (tt, (h.1, tt))

join-all : (x : JoinTree) → IsJoin 256 x → AllFormed (written_join x)
join-all (on k s e) h = (tt, (tt, both (written_source s) (t.Word w.On ∷ written e) (source-all s h.0) (tt, exp-all e h.1.0)))
join-all (cross s) h = (tt, (tt, source-all s h))

condition-all : (x : Word) (o : Option Exp) → IsMaybeExp 256 o → AllFormed (maybe_written (behind_word x written) o)
condition-all x None h = tt
condition-all x (Some e) h = (tt, exp-all e h.0)

select-all : (x : SelectTree) → IsSelect 256 x → AllFormed (written_select x)
select-all x h =
    let having : Tokens = maybe_written (behind_word w.Having written) x.having in
    let group : Tokens = items_after (two_words w.Group w.By) (commas written_column) x.group ++ having in
    let limits : Tokens = maybe_written (behind_word w.Where written) x.condition ++ group in (
      tt,
      both (commas written_item x.items) (t.Word w.From ∷ (written_sources x.source x.joins ++ limits)) (commas-all written_item (IsItem 256) item-all x.items h.items) (
        tt,
        both (written_sources x.source x.joins) limits (both (written_source x.source) (run written_join x.joins) (source-all x.source h.source) (run-all written_join (IsJoin 256) join-all x.joins h.joins))
            (both (maybe_written (behind_word w.Where written) x.condition) group (condition-all w.Where x.condition h.condition) (both (items_after (two_words w.Group w.By) (commas written_column) x.group) having (columns-after w.Group w.By x.group h.group) (condition-all w.Having x.having h.having))),
      ),
    )

-- ---- statements

any-text : (xs : List Text) → AllFormed (commas written_text xs)
any-text xs = commas-all written_text (λ x. Unit {0}) (λ x h. (tt, tt)) xs (any xs)
  where
    any : (ys : List Text) → Each (λ x. Unit {0}) ys
    any [] = tt
    any (y ∷ ys) = (tt, any ys)

codes-all : (xs : List Text) → AllFormed (items_after (just w.Codes) (λ ys. bracketed (commas written_text ys)) xs)
codes-all [] = tt
codes-all (x ∷ xs) = (tt, in-pair (commas written_text (x ∷ xs)) (any-text (x ∷ xs)))

input_column-all : (x : InputColumn) → IsInputColumn x → AllFormed (written_input_column x)
input_column-all x h = (h.0, (tt, both (not_null_words x.not_null) _ (words-all x.not_null) (codes-all x.codes)))
  where
    words-all : (b : Bool) → AllFormed (not_null_words b)
    words-all true = (tt, (tt, tt))
    words-all false = tt

statement-all : (s : StatementTree) → IsStatement 256 s → AllFormed (written_statement s)
statement-all (setting scale r) h = absurd h
statement-all (input s) h = (tt, (h.0, both (bracketed (commas written_input_column s.columns)) (t.Word w.Key ∷ (bracketed (commas written_name s.key) ++ just w.Semicolon)) (in-pair (commas written_input_column s.columns) (commas-all written_input_column IsInputColumn input_column-all s.columns h.2)) (tt, both (bracketed (commas written_name s.key)) (just w.Semicolon) (in-pair (commas written_name s.key) (commas-all written_name IsName name-all s.key h.3)) (tt, tt))))
statement-all (create name q) h = (tt, (tt, (h.0, (tt, both (written_query q) (just w.Semicolon) (between-all written_select (IsSelect 256) select-all (two_words w.Union w.All) (tt, (tt, tt)) q h.1.1) (tt, tt)))))
statement-all (export s) h = (tt, (h.0, both _ (just w.Semicolon) (after-all (two_words w.Order w.By) (commas written_name) IsName (tt, (tt, tt)) (commas-all written_name IsName name-all) s.order h.1) (tt, tt)))

pub script-all : (ss : ScriptTree) → PrintableScript ss → Each IsFormed (written_script ss)
script-all [] h = absurd h
script-all (setting scale r ∷ ss) h = both (written_statement (setting scale r)) (run written_statement ss) (tt, (tt, (h.0, (tt, (tt, (tt, tt)))))) (run-all written_statement (IsStatement 256) statement-all ss h.1)
script-all (input s ∷ ss) h = absurd h
script-all (create name q ∷ ss) h = absurd h
script-all (export s ∷ ss) h = absurd h
