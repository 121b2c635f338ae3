-- What is written for a script spells it.
use Rattle.std.proofs.Common.{◌≡◌, inl, inr, ◌∙◌, ℕ, suc, true, List, [], ◌∷◌, ◌++◌, Option, None, Some, refl, sym, ap, arith, append_assoc, append-nil}
use Rattle.grammar_forms.specs.Forms.{joined, «as», maybe, maybe_after}
use Rattle.grammar_forms.specs.Scripts.{ScriptSpells}
use Rattle.grammar_forms.specs.Written.{Each, run}
use Rattle.grammar_forms.proofs.Written.{both-of, as-of, after-of, before-of, listed-of, each-of}
use Rattle.sql_lexer.specs.declared.token.TokenKind.TheVariants as t
use Rattle.sql_lexer.specs.declared.token.Word.{Word}
use Rattle.sql_lexer.specs.declared.token.Word.TheVariants as w
use Rattle.vtl_cell.specs.declared.operator.AggKind.{AggKind}
use Rattle.vtl_cell.specs.declared.operator.AggKind.TheVariants as agg
use Rattle.vtl_cell.specs.declared.kind.Kind.{Kind}
use Rattle.vtl_cell.specs.declared.kind.Kind.TheVariants as kind
use Rattle.vtl_decimal.specs.declared.settings.Rounding.{Rounding}
use Rattle.vtl_decimal.specs.declared.settings.Rounding.TheVariants as rounding
use Rattle.sql_tree.specs.Trees.{Text, Exp, ValueTree, expression, window, ItemTree, JoinTree, on, cross, SelectTree, QueryTree, StatementTree, setting, input, create, export, ScriptTree}
use Rattle.sql_tree.specs.Grammar as g
use Rattle.sql_tree.specs.Grammar.{SqlForm, Tokens, key, of_table, in_brackets, items_after, two_keys}
use Rattle.sql_tree.specs.Printing as p
use Rattle.sql_tree.specs.Printing.{just, two_words, bracketed, aggregate_word, kind_word, rounding_word, join_word, direction_word, side_word, value_word, shift_word, written, written_name, written_text, written_column, written_source, written_default, written_call, written_key, written_bound, written_frame, written_over, written_window, written_value, written_item, written_join, written_select, written_query, written_input_column, written_statement, written_script, maybe_written, behind_word}
use Rattle.sql_tree.specs.Formed.{IsName, IsColumn, is_window_aggregate, is_column_kind, IsMaybeExp, IsCall, IsWindowKey, IsOver, IsValue, IsItem, IsJoin, IsSelect, IsQuery, IsInputColumn, IsInput, IsExport, IsStatement, PrintableScript}
use Rattle.sql_tree.specs.declared.parts.Column.{Column}
use Rattle.sql_tree.specs.declared.parts.Source.{Source}
use Rattle.sql_tree.specs.declared.parts.Literal.{Literal}
use Rattle.sql_tree.specs.declared.windows.WindowCall.{WindowCall}
use Rattle.sql_tree.specs.declared.windows.WindowCall.TheVariants as call
use Rattle.sql_tree.specs.declared.windows.WindowKey.{WindowKey}
use Rattle.sql_tree.specs.declared.windows.Over.{Over}
use Rattle.sql_tree.specs.declared.windows.Frame.{Frame}
use Rattle.sql_tree.specs.declared.windows.Bound.{Bound}
use Rattle.sql_tree.specs.declared.windows.Bound.TheVariants as bound
use Rattle.sql_tree.specs.declared.word_groups.JoinKind.{JoinKind}
use Rattle.sql_tree.specs.declared.word_groups.JoinKind.TheVariants as joins
use Rattle.sql_tree.specs.declared.word_groups.Direction.{Direction}
use Rattle.sql_tree.specs.declared.word_groups.Direction.TheVariants as direction
use Rattle.sql_tree.specs.declared.word_groups.Side.{Side}
use Rattle.sql_tree.specs.declared.word_groups.Side.TheVariants as side
use Rattle.sql_tree.specs.declared.word_groups.ValueFunction.{ValueFunction}
use Rattle.sql_tree.specs.declared.word_groups.ValueFunction.TheVariants as value
use Rattle.sql_tree.specs.declared.word_groups.ShiftFunction.{ShiftFunction}
use Rattle.sql_tree.specs.declared.word_groups.ShiftFunction.TheVariants as shift
use Rattle.sql_tree.specs.declared.statements.InputColumn.{InputColumn}
use Rattle.sql_tree.specs.declared.statements.SqlInput.{SqlInput}
use Rattle.sql_tree.specs.declared.statements.SqlExport.{SqlExport}
use Rattle.sql_tree.proofs.Levels.{one, name-of, text-of, int-of, in-brackets-of, column-of}
use Rattle.sql_tree.proofs.Prints.{listed-by, two, names-of, items-of, not_null-of, lit-of, source-of, expr-of}

-- ---- words

rounding-token : (r : Rounding) → (of_table g.roundings_table).spells (just (rounding_word r)) r
rounding-token rounding.HalfUp = record { token = t.Word w.HalfUp; is = refl; stands_for = refl }
rounding-token rounding.HalfEven = record { token = t.Word w.HalfEven; is = refl; stands_for = refl }
rounding-token rounding.Down = record { token = t.Word w.Down; is = refl; stands_for = refl }

kind-token : (k : Kind) → is_column_kind k ≡ true → (of_table g.kinds_table).spells (just (kind_word k)) k
kind-token kind.Null is = cc
kind-token kind.Bool is = record { token = t.Word w.Boolean; is = refl; stands_for = refl }
kind-token kind.Int is = record { token = t.Word w.Integer; is = refl; stands_for = refl }
kind-token kind.Num is = record { token = t.Word w.Number; is = refl; stands_for = refl }
kind-token kind.Text is = record { token = t.Word w.Text; is = refl; stands_for = refl }
kind-token kind.Day is = record { token = t.Word w.Date; is = refl; stands_for = refl }
kind-token kind.Period is = record { token = t.Word w.Period; is = refl; stands_for = refl }

join-token : (k : JoinKind) → (of_table g.join_kinds_table).spells (just (join_word k)) k
join-token joins.Inner = record { token = t.Word w.Inner; is = refl; stands_for = refl }
join-token joins.Left = record { token = t.Word w.Left; is = refl; stands_for = refl }
join-token joins.Full = record { token = t.Word w.Full; is = refl; stands_for = refl }

direction-token : (d : Direction) → (of_table g.directions_table).spells (just (direction_word d)) d
direction-token direction.Ascending = record { token = t.Word w.Asc; is = refl; stands_for = refl }
direction-token direction.Descending = record { token = t.Word w.Desc; is = refl; stands_for = refl }

side-token : (s : Side) → (of_table g.sides_table).spells (just (side_word s)) s
side-token side.Preceding = record { token = t.Word w.Preceding; is = refl; stands_for = refl }
side-token side.Following = record { token = t.Word w.Following; is = refl; stands_for = refl }

value-token : (f : ValueFunction) → (of_table g.value_functions_table).spells (just (value_word f)) f
value-token value.FirstValue = record { token = t.Word w.FirstValue; is = refl; stands_for = refl }
value-token value.LastValue = record { token = t.Word w.LastValue; is = refl; stands_for = refl }
value-token value.RatioToReport = record { token = t.Word w.RatioToReport; is = refl; stands_for = refl }

shift-token : (f : ShiftFunction) → (of_table g.shift_functions_table).spells (just (shift_word f)) f
shift-token shift.Lag = record { token = t.Word w.Lag; is = refl; stands_for = refl }
shift-token shift.Lead = record { token = t.Word w.Lead; is = refl; stands_for = refl }

window-token : (f : AggKind) → is_window_aggregate f ≡ true → (of_table g.window_aggregates_table).spells (just (aggregate_word f)) f
window-token agg.Sum is = record { token = t.Word w.Sum; is = refl; stands_for = refl }
window-token agg.Avg is = record { token = t.Word w.Avg; is = refl; stands_for = refl }
window-token agg.Count is = record { token = t.Word w.Count; is = refl; stands_for = refl }
window-token agg.Min is = record { token = t.Word w.Min; is = refl; stands_for = refl }
window-token agg.Max is = record { token = t.Word w.Max; is = refl; stands_for = refl }
window-token agg.Median is = cc

-- ---- lists that may be left out

columns-of : (c : Column) (cs : List Column) → Each IsColumn (c ∷ cs) → g.columns.spells (p.commas written_column (c ∷ cs)) (c ∷ cs)
unfolding g.columns
columns-of c cs each = listed-by w.Comma g.column written_column IsColumn (λ x h. column-of x) (c ∷ cs) (omega arith) each

columns-after : (x y : Word) (cs : List Column) → Each IsColumn cs → (items_after (two_keys x y) g.columns).spells (p.items_after (two_words x y) (p.commas written_column) cs) cs
columns-after x y cs each = items-of (two_keys x y) (two_words x y) tt (two x y) g.columns (p.commas written_column) IsColumn columns-of cs each

-- ---- windows

default-of : (o : Option Literal) → g.default.spells (written_default o) o
unfolding g.default
default-of None = inr (as-of _ (just w.Null) tt (one w.Null))
default-of (Some x) = inl (as-of _ (p.written_literal x) x (lit-of x))

call-of : (x : WindowCall) → IsCall x → g.wcall.spells (written_call x) x
unfolding g.wcall g.column_aggregate g.column_value g.column_shift g.rank
call-of (call.Aggregate f c) h = inl (as-of _ _ (f, c) (both-of (just (aggregate_word f)) (bracketed (written_column c)) (window-token f h.0) (in-brackets-of (written_column c) c (column-of c))))
call-of (call.Value f c) h = inr (inl (as-of _ _ (f, c) (both-of (just (value_word f)) (bracketed (written_column c)) (value-token f) (in-brackets-of (written_column c) c (column-of c)))))
call-of (call.Shift f c rows default) h =
    let inside : Tokens = written_column c ++ (t.Word w.Comma ∷ (t.Int rows ∷ (t.Word w.Comma ∷ written_default default))) in
    inr (inr (inl (as-of _ _ (f, (c, (rows, default))) (both-of (just (shift_word f)) (bracketed inside) (shift-token f)
    (in-brackets-of inside (c, (rows, default)) (both-of (written_column c) (t.Word w.Comma ∷ (t.Int rows ∷ (t.Word w.Comma ∷ written_default default))) (column-of c)
    (both-of (t.Word w.Comma ∷ (t.Int rows ∷ [])) (t.Word w.Comma ∷ written_default default) (after-of (just w.Comma) (t.Int rows ∷ []) tt (one w.Comma) (int-of rows)) (after-of (just w.Comma) (written_default default) tt (one w.Comma) (default-of default)))))))))
call-of call.Rank h = inr (inr (inr (as-of _ _ tt (after-of (just w.Rank) (two_words w.Open w.Close) tt (one w.Rank) (two w.Open w.Close)))))

direction-of : (o : Option Direction) → (maybe (of_table g.directions_table)).spells (maybe_written (λ d. just (direction_word d)) o) o
direction-of None = refl
direction-of (Some d) = direction-token d

key-of : (x : WindowKey) → g.wkey.spells (written_key x) x
unfolding g.wkey
key-of x = as-of _ (written_key x) (x.column, x.direction) (both-of (written_column x.column) _ (column-of x.column) (direction-of x.direction))

bound-of : (x : Bound) → g.bound_of.spells (written_bound x) x
unfolding g.bound_of
bound-of (bound.Unbounded s) = inl (as-of _ _ s (after-of (just w.Unbounded) (just (side_word s)) tt (one w.Unbounded) (side-token s)))
bound-of (bound.Rows n s) = inr (inl (as-of _ _ (n, s) (both-of (t.Int n ∷ []) (just (side_word s)) (int-of n) (side-token s))))
bound-of bound.CurrentRow = inr (inr (as-of _ _ tt (two w.Current w.Row)))

frame-of : (x : Frame) → g.frame.spells (written_frame x) x
unfolding g.frame
frame-of x = as-of _ (written_frame x) (x.first, x.last) (after-of (two_words w.Rows w.Between) _ tt (two w.Rows w.Between) (both-of (written_bound x.first) (t.Word w.And ∷ written_bound x.last) (bound-of x.first) (after-of (just w.And) (written_bound x.last) tt (one w.And) (bound-of x.last))))

maybe-frame : (o : Option Frame) → (maybe g.frame).spells (maybe_written written_frame o) o
maybe-frame None = refl
maybe-frame (Some x) = frame-of x

over-of : (x : Over) → IsOver x → g.over.spells (written_over x) x
unfolding g.over
over-of x h =
    as-of _ (written_over x) (x.partition, (x.order, x.frame)) (both-of _ _ (columns-after w.Partition w.By x.partition h.0)
    (both-of _ _ (items-of (two_keys w.Order w.By) (two_words w.Order w.By) tt (two w.Order w.By) (g.commas g.wkey) (p.commas written_key) IsWindowKey (λ y ys each. listed-by w.Comma g.wkey written_key IsWindowKey (λ z k. key-of z) (y ∷ ys) (omega arith) each) x.order h.1) (maybe-frame x.frame)))

-- ---- queries

value-of : (x : ValueTree) → IsValue 256 x → g.value_of.spells (written_value x) x
unfolding g.value_of
value-of (expression e) h = inr (as-of _ (written e) e (expr-of e h.0 h.1))
value-of (window x) h =
    inl (record {
      part = (x.call, x.over);
      spelled = record {
        left = written_call x.call ++ just w.Over;
        right = bracketed (written_over x.over);
        is = sym (append_assoc (written_call x.call) (just w.Over) (bracketed (written_over x.over)));
        first = before-of (written_call x.call) (just w.Over) tt (call-of x.call h.0) (one w.Over);
        second = in-brackets-of (written_over x.over) x.over (over-of x.over h.1);
      };
      is = refl;
    })

item-of : (x : ItemTree) → IsItem 256 x → g.item.spells (written_item x) x
unfolding g.item
item-of x h = as-of _ (written_item x) (x.value, x.name) (both-of (written_value x.value) (t.Word w.As ∷ written_name x.name) (value-of x.value h.0) (after-of (just w.As) (written_name x.name) tt (one w.As) (name-of x.name)))

join-of : (x : JoinTree) → IsJoin 256 x → g.join_of.spells (written_join x) x
unfolding g.join_of
join-of (on k s e) h =
    inl (as-of _ _ (k, (s, e)) (both-of (just (join_word k)) (t.Word w.Join ∷ (written_source s ++ (t.Word w.On ∷ written e))) (join-token k)
    (both-of (t.Word w.Join ∷ written_source s) (t.Word w.On ∷ written e) (after-of (just w.Join) (written_source s) tt (one w.Join) (source-of s)) (after-of (just w.On) (written e) tt (one w.On) (expr-of e h.1.0 h.1.1)))))
join-of (cross s) h = inr (as-of _ _ s (after-of (two_words w.Cross w.Join) (written_source s) tt (two w.Cross w.Join) (source-of s)))

all-joined : (s : Source) (js before : List JoinTree) → joined g.join_added (s, before) js ≡ Some (s, before ++ js)
all-joined s [] before = ap (λ xs. Some (s, xs)) (sym (append-nil before))
all-joined s (j ∷ js) before = all-joined s js (before ++ j ∷ []) ∙ ap (λ xs. Some (s, xs)) (append_assoc before (j ∷ []) js)

sources-of : (s : Source) (js : List JoinTree) → Each (IsJoin 256) js → g.sources.spells (written_source s ++ run written_join js) (s, js)
unfolding g.sources
sources-of s js each = record { left = written_source s; right = run written_join js; is = refl; start = (s, []); spelled = as-of _ (written_source s) s (source-of s); steps = js; each = each-of g.join_of.spells written_join (IsJoin 256) join-of js each; ends = all-joined s js [] }

condition-of : (x : Word) (o : Option Exp) → IsMaybeExp 256 o → (maybe_after (key x) g.expr).spells (maybe_written (behind_word x written) o) o
condition-of x None h = inr (record { none = refl; is = refl })
condition-of x (Some e) h = inl (record { part = (tt, e); spelled = both-of (just x) (written e) (one x) (expr-of e h.0 h.1); is = refl })

select-of : (x : SelectTree) → IsSelect 256 x → g.select.spells (written_select x) x
unfolding g.select g.limits
select-of x h =
    as-of _ (written_select x) (x.items, ((x.source, x.joins), (x.condition, (x.group, x.having)))) (after-of (just w.Select) _ tt (one w.Select)
    (both-of (p.commas written_item x.items) _ (listed-by w.Comma g.item written_item (IsItem 256) item-of x.items h.some h.items)
    (both-of (t.Word w.From ∷ p.written_sources x.source x.joins) _ (after-of (just w.From) (p.written_sources x.source x.joins) tt (one w.From) (sources-of x.source x.joins h.joins))
    (both-of _ _ (condition-of w.Where x.condition h.condition)
    (both-of _ _ (columns-after w.Group w.By x.group h.group) (condition-of w.Having x.having h.having))))))

query-of : (q : QueryTree) → IsQuery 256 q → g.query.spells (written_query q) q
unfolding g.query
query-of [] h = absurd (omega (arith, h.0))
query-of (x ∷ xs) h = listed-of (two_keys w.Union w.All) g.select (two_words w.Union w.All) tt (two w.Union w.All) written_select (IsSelect 256) select-of x xs h.1.0 h.1.1

-- ---- statements

texts-after : (xs : List Text) → (items_after (key w.Codes) (in_brackets g.texts)).spells (p.items_after (just w.Codes) (λ ys. bracketed (p.commas written_text ys)) xs) xs
unfolding g.texts
texts-after xs = items-of (key w.Codes) (just w.Codes) tt (one w.Codes) (in_brackets g.texts) (λ ys. bracketed (p.commas written_text ys)) (λ x. Unit {0}) (λ y ys each. in-brackets-of (p.commas written_text (y ∷ ys)) (y ∷ ys) (listed-by w.Comma g.text written_text (λ x. Unit {0}) (λ x u. text-of x) (y ∷ ys) (omega arith) each)) xs (any xs)
  where
    any : (ys : List Text) → Each (λ x. Unit {0}) ys
    any [] = tt
    any (y ∷ ys) = (tt, any ys)

input_column-of : (x : InputColumn) → IsInputColumn x → g.input_column.spells (written_input_column x) x
unfolding g.input_column
input_column-of x h = as-of _ (written_input_column x) (x.name, (x.kind, (x.not_null, x.codes))) (both-of (t.Name x.name ∷ []) _ (name-of x.name) (both-of (just (kind_word x.kind)) _ (kind-token x.kind h.1) (both-of (p.not_null_words x.not_null) _ (not_null-of x.not_null) (texts-after x.codes))))

key-names : (xs : List Text) → Each IsName xs → («as» g.items_or_none (maybe g.names)).spells (p.commas written_name xs) xs
key-names [] each = record { part = None; spelled = refl; is = refl }
key-names (x ∷ xs) each = record { part = Some (x ∷ xs); spelled = names-of x xs each; is = refl }

input-of : (s : SqlInput) → IsInput s → g.input.spells (written_statement (input s)) (input s)
unfolding g.input
input-of s h =
    let columns : Tokens = p.commas written_input_column s.columns in
    let names : Tokens = p.commas written_name s.key in
    as-of _ (written_statement (input s)) (s.name, (s.columns, s.key)) (both-of (t.Word w.Input ∷ (t.Name s.name ∷ [])) _ (after-of (just w.Input) (t.Name s.name ∷ []) tt (one w.Input) (name-of s.name))
    (both-of (bracketed columns) _ (in-brackets-of columns s.columns (listed-by w.Comma g.input_column written_input_column IsInputColumn input_column-of s.columns h.1 h.2))
    (before-of (t.Word w.Key ∷ bracketed names) (just w.Semicolon) tt (after-of (just w.Key) (bracketed names) tt (one w.Key) (in-brackets-of names s.key (key-names s.key h.3))) (one w.Semicolon))))

create-of : (name : Text) (q : QueryTree) → IsQuery 256 q → g.create.spells (written_statement (create name q)) (create name q)
unfolding g.create
create-of name q h =
    as-of _ (written_statement (create name q)) (name, q) (both-of (t.Word w.Create ∷ (t.Word w.Table ∷ (t.Name name ∷ []))) (t.Word w.As ∷ (written_query q ++ just w.Semicolon)) (after-of (two_words w.Create w.Table) (t.Name name ∷ []) tt (two w.Create w.Table) (name-of name))
    (before-of (t.Word w.As ∷ written_query q) (just w.Semicolon) tt (after-of (just w.As) (written_query q) tt (one w.As) (query-of q h)) (one w.Semicolon)))

export-of : (s : SqlExport) → IsExport s → g.export.spells (written_statement (export s)) (export s)
unfolding g.export
export-of s h =
    let order : Tokens = p.items_after (two_words w.Order w.By) (p.commas written_name) s.order in
    as-of _ (written_statement (export s)) (s.name, s.order) (both-of (t.Word w.Export ∷ (t.Name s.name ∷ [])) (order ++ just w.Semicolon) (after-of (just w.Export) (t.Name s.name ∷ []) tt (one w.Export) (name-of s.name))
    (before-of order (just w.Semicolon) tt (items-of (two_keys w.Order w.By) (two_words w.Order w.By) tt (two w.Order w.By) g.names (p.commas written_name) IsName names-of s.order h.1) (one w.Semicolon)))

setting-of : (scale : Text) (r : Rounding) → g.setting.spells (written_statement (setting scale r)) (setting scale r)
unfolding g.setting
setting-of scale r =
    as-of _ (written_statement (setting scale r)) (scale, r) (both-of (t.Word w.Set ∷ (t.Word w.Scale ∷ (t.Int scale ∷ []))) (t.Word w.Rounding ∷ (t.Word (rounding_word r) ∷ just w.Semicolon)) (after-of (two_words w.Set w.Scale) (t.Int scale ∷ []) tt (two w.Set w.Scale) (int-of scale))
    (before-of (t.Word w.Rounding ∷ just (rounding_word r)) (just w.Semicolon) tt (after-of (just w.Rounding) (just (rounding_word r)) tt (one w.Rounding) (rounding-token r)) (one w.Semicolon)))

statement-of : (s : StatementTree) → IsStatement 256 s → g.statement.spells (written_statement s) s
unfolding g.statement
statement-of (setting scale r) h = absurd h
statement-of (input s) h = inl (input-of s h)
statement-of (create name q) h = inr (inl (create-of name q h.1))
statement-of (export s) h = inr (inr (export-of s h))

-- ---- scripts

statements-of : (i : ℕ) (ss : List StatementTree) → Each (IsStatement 256) ss → ScriptSpells g.statement_at (suc i) (run written_statement ss) ss
unfolding g.statement_at
statements-of i [] each = refl
statements-of i (s ∷ ss) each = (written_statement s, run written_statement ss, refl, statement-of s each.0, statements-of (suc i) ss each.1)

pub script-of : (ss : ScriptTree) → PrintableScript ss → ScriptSpells g.statement_at 0 (written_script ss) ss
unfolding g.statement_at
script-of [] h = absurd h
script-of (setting scale r ∷ ss) h = (written_statement (setting scale r), run written_statement ss, refl, setting-of scale r, statements-of 0 ss h.1)
script-of (input s ∷ ss) h = absurd h
script-of (create name q ∷ ss) h = absurd h
script-of (export s ∷ ss) h = absurd h
