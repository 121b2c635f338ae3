-- What follows where no rule is broken.
use Rattle.std.proofs.Common.{◌≡◌, ◌≤◌, ⊎_elim, ℕ, Bool, true, false, not, ◌||◌, ◌==◌, List, [], ◌∷◌, Some, None, Option, is_some, IsSome, IfSome, IfOk, Result, Ok, Err, if◌then◌else◌, encode_utf8_all, map, pos, length, refl, sym, ap, ◌∙◌, arith}
use Rattle.std.specs.Map.{keys_of}
use Rattle.std.specs.Prelude.{nat_lt, zip}
use Rattle.std.specs.List.{list_any}
use Rattle.std.specs.Option.{is_none}
use Rattle.vtl_text.specs.Words.{is_word}
use Rattle.std.proofs.lemmas.Bool.Decides.{eqb_tells}
use Rattle.std.proofs.lemmas.Str.{length-le-encodes}
use Rattle.std.proofs.lemmas.Bool.{or_parts}
use Rattle.vtl_decimal.specs.Settings.{Settings}
use Rattle.vtl_decimal.specs.declared.settings.Rounding.{Rounding}
use Rattle.vtl_cell.specs.declared.kind.Kind.{Kind}
use Rattle.vtl_cell.specs.Literals.{lies_between}
use Rattle.sql_tree.specs.Trees as tree
use Rattle.sql_tree.specs.Trees.{QueryTree, StatementTree, Text}
use Rattle.sql_tree.specs.declared.statements.SqlExport.{SqlExport}
use Rattle.sql_tree.specs.declared.statements.SqlInput.{SqlInput}
use Rattle.sql_check_parts.specs.Queries.{query_breaks, query_columns, query_names, shared_kinds}
use Rattle.sql_check_parts.specs.Rules.{broken, least, lesser}
use Rattle.sql_check_parts.specs.Scopes.{Columns, Tables, columns_of, is_among, is_empty, or_nothing, or_null, repeats}
use Rattle.sql_check_parts.specs.Statements.{Given, after, codes_fit, export_breaks, input_breaks, input_columns, is_taken, most_input_columns, names_fit, order_fits, scale_of, scale_written, statement_breaks, with_table}
use Rattle.sql_check_parts.specs.Told.{distinct_columns}
use Rattle.sql_check_parts.specs.declared.rules.SqlRule.{SqlRule}
use Rattle.sql_check_parts.specs.declared.rules.SqlRule.TheVariants as rule
use Rattle.sql_check_parts.proofs.Least.{least_append}
use Rattle.sql_check_parts.proofs.Maps.{keys_all}
use Rattle.sql_check_parts.proofs.Unbroken.{holds_first, none_lesser}
use Rattle.sql_check_queries.proofs.Columns.{names_differ}
use Rattle.sql_check_queries.specs.Told.{IsQueryTold}
use Rattle.sql_check_queries.specs.declared.queries.QueryTold.{QueryTold}
use Rattle.sql_check.specs.Answers.{GivesIfTyped, IsSettled, IsStep, MayPut, Sets}

-- ---- SET

set_whole : (b : Bool) → b ≡ true → least (broken ((rule.UnfitLiteral, not b) ∷ [])) ≡ None
unfolding least
set_whole true h = refl
set_whole false h = cc

pub set_broken : (b : Bool) → b ≡ false → least (broken ((rule.UnfitLiteral, not b) ∷ [])) ≡ Some rule.UnfitLiteral
unfolding least
set_broken true h = cc
set_broken false h = refl

settings_are : (p : Settings) (n : ℕ) (r : Rounding) → p.scale ≡ n → p.rounding ≡ r → p ≡ record { scale = n; rounding = r }
settings_are p n r s t = ap (λ (m : ℕ). record { scale = m; rounding = p.rounding }) s ∙ ap (λ (q : Rounding). record { scale = n; rounding = q }) t

never : false ≡ true → ⊥
never h = cc

pub sets_given : (digits : Text) (r : Rounding) (n : ℕ) (o : Option Settings) → lies_between (pos 0) (pos 9) (scale_written digits) ≡ true → n ≡ scale_of (scale_written digits) → n ≤ 9
    → (n ≤ 9 → IsSome o) → IfSome o (λ p. p.scale ≡ n) → IfSome o (λ p. p.rounding ≡ r) → Sets digits r o
sets_given digits r n None b e small is s t = absurd (never (is small))
sets_given digits r n (Some p) b e small is s t = (settings_are p (scale_of (scale_written digits)) r (s ∙ e) t, set_whole (lies_between (pos 0) (pos 9) (scale_written digits)) b)

-- ---- INPUT

-- a text has no bytes where it has no characters
pub no_bytes : (cs : List ℕ) → (length (encode_utf8_all cs) == 0) ≡ is_empty cs
no_bytes [] = refl
no_bytes (c ∷ cs) = go (length (encode_utf8_all (c ∷ cs))) (length-le-encodes (c ∷ cs))
  where
    go : (n : ℕ) → length (c ∷ cs) ≤ n → (n == 0) ≡ false
    go n h = ⊎_elim (λ t. absurd (omega (arith, h, t.1))) (λ t. t.0) (eqb_tells n 0)

-- columns of different names
distinct : (columns : Columns) → repeats (keys_of columns) ≡ false → distinct_columns columns ≡ Some columns
distinct columns h = ap (λ b. if b then None else Some columns) h

-- ---- statements

if_ok : {X E : Type 0} {P Q : X → Type 0} (r : Result X E) → IfOk r P → ((x : X) → P x → Q x) → IfOk r Q
if_ok (Ok x) h f = f x h
if_ok (Err e) h f = h

-- a table whose name is free and whose columns have different names may be put
may_put : (tables : Tables) (name : Text) (columns : Option Columns) (all : Columns) → is_among name (keys_of tables) ≡ false → columns ≡ Some all → MayPut tables name columns
may_put tables name None all f e = cc
may_put tables name (Some c) all f e = record { free = f; some = refl }

-- what is settled is what a statement gives that breaks these rules and gives these columns
settled : (p : Settings) (before now : Given) (s : StatementTree) (name : Text) (columns : Option Columns) (all : Columns) (fault told : Option SqlRule) → fault ≡ least (statement_breaks p before s) → after before s ≡ with_table before name all → (fault ≡ None → columns ≡ Some all) → IsSettled before now name columns fault told → IsStep p before now s told
settled p before now s name columns all fault told f a e h = record { fault_is = h.told_is ∙ f; given_is = go fault told h.told_is e h.given_is }
  where
    go : (fault told : Option SqlRule) → told ≡ fault → (fault ≡ None → columns ≡ Some all) → GivesIfTyped fault now (with_table before name (or_nothing columns)) → GivesIfTyped told now (after before s)
    go None None q e g = g ∙ ap (λ c. with_table before name (or_nothing c)) (e refl) ∙ sym a
    go None (Some r) q e g = tt
    go (Some r) None q e g = cc
    go (Some r) (Some t) q e g = tt

-- where an input breaks no rule its name is free, and its columns have different names
input_settled : (tables : Tables) (s : SqlInput) → least (input_breaks tables s) ≡ None → (is_among s.name (keys_of tables) ≡ false) × (distinct_columns (input_columns s) ≡ Some (input_columns s))
input_settled tables s h =
    let taken = is_among s.name (keys_of tables) in
    let twice = repeats (keys_of (input_columns s)) in
    let misplaced = not (names_fit (input_columns s) s.key) in
    let codes = list_any (λ c. not (codes_fit s.key c)) s.columns || nat_lt most_input_columns (length s.columns) in
    let one = holds_first rule.MisnamedTable (taken || not (is_word s.name)) ((rule.MisnamedColumn, twice || misplaced) ∷ (rule.CodesOrCount, codes) ∷ []) h in
    let two = holds_first rule.MisnamedColumn (twice || misplaced) ((rule.CodesOrCount, codes) ∷ []) one.1 in
    ((or_parts taken (not (is_word s.name)) one.0).0, distinct (input_columns s) (or_parts twice misplaced two.0).0)

pub input_may : (tables : Tables) (s : SqlInput) (columns : Option Columns) (fault : Option SqlRule) → columns ≡ distinct_columns (input_columns s) → fault ≡ least (input_breaks tables s) → fault ≡ None → MayPut tables s.name columns
input_may tables s columns fault c f n =
    let whole = input_settled tables s (sym f ∙ n) in may_put tables s.name columns (input_columns s) whole.0 (c ∙ whole.1)

pub input_step : (p : Settings) (before now : Given) (s : SqlInput) (columns : Option Columns) (fault : Option SqlRule) {E : Type 0} (r : Result (Option SqlRule) E) → columns ≡ distinct_columns (input_columns s) → fault ≡ least (input_breaks before.tables s)
    → IfOk r (IsSettled before now s.name columns fault) → IfOk r (IsStep p before now (tree.input s))
input_step p before now s columns fault r c f h =
    if_ok r h (λ told. settled p before now (tree.input s) s.name columns (input_columns s) fault told f refl (λ n. c ∙ (input_settled before.tables s (sym f ∙ n)).1))

-- where an export breaks no rule, no export has its name
pub export_new : (tables : Tables) (exported : List Text) (s : SqlExport) (fault : Option SqlRule) → fault ≡ least (export_breaks tables exported s) → is_some fault ≡ false → is_among s.name exported ≡ false
export_new tables exported s (Some r) f n = cc
export_new tables exported s None f n =
    let unknown = is_none (columns_of tables s.name) in
    let twice = is_among s.name exported in
    let unfit = not (order_fits (columns_of tables s.name) s.order) in
    let one = holds_first rule.UnknownTable unknown ((rule.MisnamedTable, twice || not (is_word s.name)) ∷ (rule.MisnamedColumn, unfit) ∷ []) (sym f) in
    let two = holds_first rule.MisnamedTable (twice || not (is_word s.name)) ((rule.MisnamedColumn, unfit) ∷ []) one.1 in
    (or_parts twice (not (is_word s.name)) two.0).0

-- where a created table breaks no rule its name is free, and the columns of its query have different names
create_settled : (p : Settings) (tables : Tables) (name : Text) (q : QueryTree) (names : List Text) (kinds : List Kind) (taken query : Option SqlRule) → taken ≡ least (broken ((rule.MisnamedTable, is_taken tables name) ∷ [])) → query ≡ least (query_breaks p tables q)
    → names ≡ query_names q → kinds ≡ map or_null (shared_kinds tables q) → length kinds ≡ length names → lesser taken query ≡ None → (is_among name (keys_of tables) ≡ false) × (distinct_columns (zip names kinds) ≡ Some (query_columns tables q))
create_settled p tables name q names kinds taken query t f n k l h =
    let none = none_lesser taken query h in (
      (holds_first rule.MisnamedTable (is_taken tables name) [] (sym t ∙ none.0)).0,
      ap distinct_columns (ap (λ ns. zip ns kinds) n ∙ ap (zip (query_names q)) k)
          ∙ distinct (query_columns tables q) (ap repeats (keys_all (query_names q) (map or_null (shared_kinds tables q)) (sym (ap length k) ∙ l ∙ ap length n)) ∙ names_differ p tables q (sym f ∙ none.1)),
    )

pub create_may : (p : Settings) (tables : Tables) (name : Text) (q : QueryTree) (t : QueryTold) (taken : Option SqlRule) (columns : Option Columns) → IsQueryTold p tables q t → taken ≡ least (broken ((rule.MisnamedTable, is_taken tables name) ∷ [])) → columns ≡ distinct_columns (zip t.names t.kinds)
    → lesser taken t.fault ≡ None → MayPut tables name columns
create_may p tables name q t taken columns h e c n =
    let whole = create_settled p tables name q t.names t.kinds taken t.fault e h.fault_is h.names_are h.kinds_are h.as_many n in
    may_put tables name columns (query_columns tables q) whole.0 (c ∙ whole.1)

pub create_step : (p : Settings) (before now : Given) (name : Text) (q : QueryTree) (t : QueryTold) (taken : Option SqlRule) (columns : Option Columns) {E : Type 0} (r : Result (Option SqlRule) E) → IsQueryTold p before.tables q t → taken ≡ least (broken ((rule.MisnamedTable, is_taken before.tables name) ∷ [])) → columns ≡ distinct_columns (zip t.names t.kinds)
    → IfOk r (IsSettled before now name columns (lesser taken t.fault)) → IfOk r (IsStep p before now (tree.create name q))
create_step p before now name q t taken columns r h e c s =
    if_ok r s (λ told. settled p before now (tree.create name q) name columns (query_columns before.tables q) (lesser taken t.fault) told
    (ap (λ a. lesser a t.fault) e ∙ ap (lesser (least (broken ((rule.MisnamedTable, is_taken before.tables name) ∷ [])))) h.fault_is ∙ sym (least_append (broken ((rule.MisnamedTable, is_taken before.tables name) ∷ [])) (query_breaks p before.tables q)))
    refl (λ n. c ∙ (create_settled p before.tables name q t.names t.kinds taken t.fault e h.fault_is h.names_are h.kinds_are h.as_many n).1))
