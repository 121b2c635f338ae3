-- The forms of windows, queries and statements are lawful.
use Rattle.std.proofs.Common.{◌≡◌, inl, inr, ◌∙◌, ℕ, zero, suc, false, [], ◌∷◌, ◌++◌, Option, None, Some, refl, sym, ap, subst, append_assoc}
use Rattle.grammar_forms.specs.Forms.{or, «as», gate, before, has}
use Rattle.grammar_forms.proofs.Laws.{Lawful, Begins, Stops, pair_of, unread, begins-stops, stops-right, as-law, after-law, before-law, or-law, seq-law, led-law, led-law-by, maybe-law, maybe_after-law, absent-law, gate-law}
use Rattle.grammar_forms.proofs.Chains.{chain-law, listed-law}
use Rattle.grammar_forms.proofs.Scripts.{Closed}
use Rattle.grammar_forms.proofs.Tests.{clash, has-left}
use Rattle.sql_lexer.specs.Places.{place}
use Rattle.sql_lexer.specs.declared.token.Word.TheVariants as w
use Rattle.sql_tree.specs.Classes.{class}
use Rattle.sql_tree.specs.Trees.{Exp, ValueTree, StatementTree}
use Rattle.sql_tree.specs.Trees as tree
use Rattle.sql_tree.specs.Grammar as g
use Rattle.sql_tree.specs.Grammar.{SqlForm, Tokens, Whole, key, of_table, in_brackets, commas, items_after, two_keys, starts_of, more_of}
use Rattle.sql_tree.specs.declared.windows.WindowCall.{WindowCall}
use Rattle.sql_tree.proofs.Lawful.{name-law, int-law, key-law, table-law, keys-law, brackets-law, names-law, texts-law, column-law, columns-law, source-law, lit-law, expr-law}
use Rattle.sql_tree.proofs.ColumnCalls.{column-call-expr}

-- ---- windows

column_aggregate-law : Lawful class g.column_aggregate
unfolding g.column_aggregate g.column
column_aggregate-law = as-law _ (seq-law (table-law g.window_aggregates_table) (brackets-law column-law refl) refl)

column_value-law : Lawful class g.column_value
unfolding g.column_value g.column
column_value-law = as-law _ (seq-law (table-law g.value_functions_table) (brackets-law column-law refl) refl)

default-law : Lawful class g.default
unfolding g.default g.lit g.signed_number g.number
default-law = or-law (as-law _ lit-law) (as-law _ (key-law w.Null)) refl refl refl

column_shift-law : Lawful class g.column_shift
unfolding g.column_shift g.column g.default g.lit g.signed_number g.number
column_shift-law = as-law _ (seq-law (table-law g.shift_functions_table) (brackets-law (seq-law column-law (seq-law (after-law (key-law w.Comma) int-law refl) (after-law (key-law w.Comma) default-law refl) refl) refl) refl) refl)

rank-law : Lawful class g.rank
unfolding g.rank
rank-law = as-law _ (after-law (key-law w.Rank) (keys-law w.Open w.Close) refl)

-- the calls that no expression begins with
abbrev window_alone : SqlForm WindowCall
window_alone = or g.column_value (or g.column_shift g.rank)

window_alone-law : Lawful class window_alone
unfolding g.column_value g.column_shift g.rank g.column g.default g.lit g.signed_number g.number
window_alone-law = or-law column_value-law (or-law column_shift-law rank-law refl refl refl) refl refl refl

wcall-law : Lawful class g.wcall
unfolding g.wcall g.column_aggregate g.column_value g.column_shift g.rank g.column g.default g.lit g.signed_number g.number
wcall-law = or-law column_aggregate-law window_alone-law refl refl refl

wkey-law : Lawful class g.wkey
unfolding g.wkey g.column
wkey-law = as-law _ (seq-law column-law (maybe-law (table-law g.directions_table) refl) refl)

bound-law : Lawful class g.bound_of
unfolding g.bound_of
bound-law =
    or-law (as-law _ (after-law (key-law w.Unbounded) (table-law g.sides_table) refl))
    (or-law (as-law _ (seq-law int-law (table-law g.sides_table) refl)) (as-law _ (keys-law w.Current w.Row)) refl refl refl) refl refl refl

frame-law : Lawful class g.frame
unfolding g.frame g.bound_of
frame-law = as-law _ (after-law (keys-law w.Rows w.Between) (seq-law bound-law (after-law (key-law w.And) bound-law refl) refl) refl)

over-law : Lawful class g.over
unfolding g.over g.columns g.column g.wkey g.frame g.bound_of
over-law =
    as-law _ (seq-law (led-law _ (keys-law w.Partition w.By) columns-law (absent-law class []) refl refl refl)
    (seq-law (led-law _ (keys-law w.Order w.By) (listed-law (key-law w.Comma) wkey-law refl refl refl refl) (absent-law class []) refl refl refl) (maybe-law frame-law refl) refl) refl)

-- ---- a window or an expression

abbrev window_mark : SqlForm WindowCall
window_mark = before g.wcall (key w.Over)

window_mark-law : Lawful class window_mark
unfolding g.wcall g.column_aggregate g.column_value g.column_shift g.rank g.column g.default g.lit g.signed_number g.number
window_mark-law = before-law wcall-law (key-law w.Over) refl

abbrev expression_value : SqlForm ValueTree
expression_value = «as» tree.expression (gate (starts_of Whole) (place w.Over ∷ more_of Whole) g.expr)

expression_value-law : Lawful class expression_value
unfolding g.expr
expression_value-law = as-law _ (gate-law _ _ expr-law refl refl refl)

-- what stops at OVER does not begin with it
over-stops : (ts rest us : Tokens) → Begins class (place w.Over ∷ []) false ts → us ≡ ts ++ rest → Stops class (place w.Over ∷ more_of Whole) us → ⊥
over-stops [] rest us b is s = cc
over-stops (t ∷ ts) rest us b is s =
    let stopped : Stops class (place w.Over ∷ more_of Whole) (t ∷ (ts ++ rest)) = subst (Stops class (place w.Over ∷ more_of Whole)) is s in
    clash (has (place w.Over ∷ more_of Whole) (class t)) (has-left (place w.Over ∷ []) (more_of Whole) (class t) b) stopped

module _ (front rest : Tokens) (e : Exp) (spelled : g.expr.spells front e) (stop : Stops class (place w.Over ∷ more_of Whole) rest) where
  as-expression : g.expr.reads (front ++ rest) ≡ Some (e, rest)
  unfolding g.expr
  as-expression = expr-law.complete front e rest spelled (stops-right class (place w.Over ∷ []) (more_of Whole) rest stop)

  -- a call with OVER behind it does not stand there
  by-call : (left right us : Tokens) (c : WindowCall) → front ++ rest ≡ left ++ (right ++ us) → Begins class (place w.Over ∷ []) false right → g.wcall.spells left c → ⊥
  unfolding g.wcall g.expr g.column_value g.column_shift g.rank
  by-call left right us c is over (inl h) =
      let x = column-call-expr left c h in
      let read = expr-law.complete left x.0 (right ++ us) x.1 (begins-stops class (more_of Whole) (place w.Over ∷ []) right us refl over) in
      over-stops right us rest over (pair_of e rest x.0 (right ++ us) (sym as-expression ∙ ap g.expr.reads is ∙ read)).1 stop
  by-call left right us c is over (inr h) =
      let begun : Begins class window_alone.starts false left = window_alone-law.begins left c h in
      let unread_there = unread class g.expr expr-law refl (left ++ (right ++ us)) (begins-stops class (starts_of Whole) window_alone.starts left (right ++ us) refl begun) in
      let both : ◌≡◌ {A = Option (Exp × Tokens)} (Some (e, rest)) None = sym as-expression ∙ ap g.expr.reads is ∙ unread_there in
      cc

value_of-gone : (front : Tokens) (a : ValueTree) (rest : Tokens) → expression_value.spells front a → Stops class (place w.Over ∷ more_of Whole) rest → window_mark.reads (front ++ rest) ≡ None
value_of-gone front a rest h stop = by_read (window_mark.reads (front ++ rest)) refl
  where
    by_read : (r : Option (WindowCall × Tokens)) → window_mark.reads (front ++ rest) ≡ r → window_mark.reads (front ++ rest) ≡ None
    by_read None e = e
    by_read (Some p) e =
        let r = window_mark-law.sound (front ++ rest) p.0 p.1 e in
        let b = r.spelled.spelled in
        absurd (by-call front rest h.part h.spelled stop b.left b.right p.1 r.spelled.part.0 (r.is ∙ ap (λ ts. ts ++ p.1) b.is ∙ append_assoc b.left b.right p.1) ((key-law w.Over).begins b.right tt b.second) b.first)

value_of-law : Lawful class g.value_of
unfolding g.value_of g.expr g.wcall g.over g.columns g.column g.wkey g.frame g.bound_of g.column_aggregate g.column_value g.column_shift g.rank g.default g.lit g.signed_number g.number
value_of-law = led-law-by _ window_mark-law (brackets-law over-law refl) expression_value-law refl refl value_of-gone

-- ---- queries

item-law : Lawful class g.item
unfolding g.item g.value_of g.over g.expr g.wcall g.column_aggregate g.column_value g.column_shift g.rank
item-law = as-law _ (seq-law value_of-law (after-law (key-law w.As) name-law refl) refl)

join-law : Lawful class g.join_of
unfolding g.join_of g.expr g.source g.given g.series
join-law = or-law (as-law _ (seq-law (table-law g.join_kinds_table) (seq-law (after-law (key-law w.Join) source-law refl) (after-law (key-law w.On) expr-law refl) refl) refl)) (as-law _ (after-law (keys-law w.Cross w.Join) source-law refl)) refl refl refl

sources-law : Lawful class g.sources
unfolding g.sources g.join_of g.expr g.source g.given g.series
sources-law = chain-law _ (as-law _ source-law) join-law refl refl refl refl

limits-law : Lawful class g.limits
unfolding g.limits g.expr g.columns g.column
limits-law =
    seq-law (maybe_after-law (key-law w.Where) expr-law refl refl refl)
    (seq-law (led-law _ (keys-law w.Group w.By) columns-law (absent-law class []) refl refl refl) (maybe_after-law (key-law w.Having) expr-law refl refl refl) refl) refl

select-law : Lawful class g.select
unfolding g.select g.item g.value_of g.over g.expr g.wcall g.column_aggregate g.column_value g.column_shift g.rank g.sources g.join_of g.source g.given g.series g.limits g.columns g.column
select-law = as-law _ (after-law (key-law w.Select) (seq-law (listed-law (key-law w.Comma) item-law refl refl refl refl) (seq-law (after-law (key-law w.From) sources-law refl) limits-law refl) refl) refl)

query-law : Lawful class g.query
unfolding g.query g.select g.item g.value_of g.over g.expr g.wcall g.column_aggregate g.column_value g.column_shift g.rank g.sources g.join_of g.source g.given g.series g.limits g.columns g.column
query-law = listed-law (keys-law w.Union w.All) select-law refl refl refl refl

-- ---- statements

not_null-law : Lawful class g.not_null
unfolding g.not_null
not_null-law = as-law _ (maybe-law (keys-law w.Not w.Null) refl)

input_column-law : Lawful class g.input_column
unfolding g.input_column g.not_null g.texts
input_column-law = as-law _ (seq-law name-law (seq-law (table-law g.kinds_table) (seq-law not_null-law (led-law _ (key-law w.Codes) (brackets-law texts-law refl) (absent-law class []) refl refl refl) refl) refl) refl)

input-law : Lawful class g.input
unfolding g.input g.input_column g.not_null g.texts g.names
input-law =
    as-law _ (seq-law (after-law (key-law w.Input) name-law refl)
    (seq-law (brackets-law (listed-law (key-law w.Comma) input_column-law refl refl refl refl) refl)
    (before-law (after-law (key-law w.Key) (brackets-law (as-law _ (maybe-law names-law refl)) refl) refl) (key-law w.Semicolon) refl) refl) refl)

create-law : Lawful class g.create
unfolding g.create g.query g.select g.item g.value_of g.over g.expr g.wcall g.column_aggregate g.column_value g.column_shift g.rank g.sources g.join_of g.source g.given g.series g.limits g.columns g.column
create-law = as-law _ (seq-law (after-law (keys-law w.Create w.Table) name-law refl) (before-law (after-law (key-law w.As) query-law refl) (key-law w.Semicolon) refl) refl)

export-law : Lawful class g.export
unfolding g.export g.names
export-law = as-law _ (seq-law (after-law (key-law w.Export) name-law refl) (before-law (led-law _ (keys-law w.Order w.By) names-law (absent-law class []) refl refl refl) (key-law w.Semicolon) refl) refl)

setting-law : Lawful class g.setting
unfolding g.setting
setting-law = as-law _ (seq-law (after-law (keys-law w.Set w.Scale) int-law refl) (before-law (after-law (key-law w.Rounding) (table-law g.roundings_table) refl) (key-law w.Semicolon) refl) refl)

pub statement-law : Lawful class g.statement
unfolding g.statement g.input g.create g.export
statement-law = or-law input-law (or-law create-law export-law refl refl refl) refl refl refl

pub statement-closed : (i : ℕ) → Closed class (g.statement_at i)
unfolding g.statement_at g.setting g.statement g.input g.create g.export
statement-closed zero = record { law = setting-law; full = refl; ends = refl }
statement-closed (suc i) = record { law = statement-law; full = refl; ends = refl }
