-- Whole queries: their columns, and what their table tells.
use Rattle.std.proofs.Common.{◌≡◌, suc, ◌<◌, List, [], ◌∷◌, ◌++◌, map, length, get_or, Option, None, Some, Ok, Err, Result, refl, sym, ap, subst, ◌∙◌, arith}
use Rattle.std.specs.Prelude.{IfOk, zip}
use Rattle.std.proofs.lemmas.List.{length-map}
use Rattle.vtl_lists.proofs.Perms.{Perm-refl}
use Rattle.vtl_decimal.specs.declared.number.Fault.TheVariants.{DivZero, Range}
use Rattle.vtl_decimal.specs.declared.number.Fault.{Fault}
use Rattle.vtl_cell.specs.Outcome.{Outcome, fault_in, join, unless}
use Rattle.vtl_cell.specs.Outcomes.{Same}
use Rattle.vtl_lists.specs.Perm.{Perm}
use Rattle.vtl_cell.specs.Row.{Row}
use Rattle.vtl_cell.specs.declared.kind.Kind.{Kind}
use Rattle.vtl_rows.specs.Tables.{Tabled}
use Rattle.vtl_rows.specs.declared.column.Column.{Column}
use Rattle.vtl_scalar.specs.declared.error.ScalarErr.{ScalarErr}
use Rattle.sql_tree.specs.Formed.{IsQuery}
use Rattle.sql_tree.specs.Grammar.{most_levels}
use Rattle.sql_tree.specs.Trees.{QueryTree, Text}
use Rattle.sql_tree.specs.View.{item_tree, select_tree}
use Rattle.sql_tree.specs.declared.statements.Item.{Item}
use Rattle.sql_tree.specs.declared.statements.Select.{Select}
use Rattle.sql_check_parts.specs.Queries.{item_name, query_columns, query_names, shared_kinds}
use Rattle.sql_check_parts.specs.Scopes.{Columns, Tables, or_null}
use Rattle.sql_check_parts.proofs.QueryKinds.{as_many}
use Rattle.sql_meaning.specs.Selects.{rows_in}
use Rattle.sql_meaning.specs.Tables.{column_entry, kinds_of}
use Rattle.sql_meaning.proofs.SharedKinds.{named_kinds}
use Rattle.vtl_scalar.specs.Seen.{answer_of}
use Rattle.sql_exec.specs.Answers.{Gives}
use Rattle.sql_exec.specs.Outputs.{Adds, fault_seen}
use Rattle.sql_exec.specs.declared.output.Output.{Output}
use Rattle.sql_exec.proofs.Steps.{mapped_twice}

-- ---- columns

pub query_kinds_are : (tables : Tables) (q : QueryTree) → kinds_of (query_columns tables q) ≡ map or_null (shared_kinds tables q)
query_kinds_are tables q = named_kinds (query_names q) (map or_null (shared_kinds tables q)) (sym (as_many tables q))

-- the names of the first select
names_are : (selects : List Select) (d : Select) → 0 < length selects → query_names (map select_tree selects) ≡ map (λ (x : Item). x.name) (get_or selects 0 d).items
names_are [] d h = absurd (omega arith)
names_are (s ∷ ss) d h = sym (mapped_twice item_tree item_name s.items)

pub first_many : (tables : Tables) (selects : List Select) (d : Select) (kinds : List Kind) → 0 < length selects → kinds ≡ map or_null (shared_kinds tables (map select_tree selects)) → length kinds ≡ length (get_or selects 0 d).items
first_many tables selects d kinds h e =
    ap (λ (l : List Kind). length l) e ∙ as_many tables (map select_tree selects) ∙ ap (λ (l : List Text). length l) (names_are selects d h) ∙ length-map (get_or selects 0 d).items (λ (x : Item). x.name)

pub columns_are : (tables : Tables) (selects : List Select) (d : Select) (kinds : List Kind) (columns : List Column) → 0 < length selects → kinds ≡ map or_null (shared_kinds tables (map select_tree selects))
    → map column_entry columns ≡ zip (map (λ (x : Item). x.name) (get_or selects 0 d).items) kinds → map column_entry columns ≡ query_columns tables (map select_tree selects)
columns_are tables selects d kinds columns h e c = c ∙ (λ i. zip (sym (names_are selects d h) i) (e i))

zip_long : {X Y : Type 0} (xs : List X) (ys : List Y) → length xs ≡ length ys → length (zip xs ys) ≡ length xs
zip_long [] ys e = refl
zip_long (x ∷ xs) [] e = absurd (omega arith)
zip_long (x ∷ xs) (y ∷ ys) e = ap suc (zip_long xs ys (omega arith))

pub columns_long : (tables : Tables) (q : QueryTree) (columns : List Column) → map column_entry columns ≡ query_columns tables q → length columns ≡ length (query_names q)
columns_long tables q columns e = sym (length-map columns column_entry) ∙ ap (λ (l : Columns). length l) e ∙ zip_long (query_names q) (map or_null (shared_kinds tables q)) (sym (as_many tables q))

-- a formed query has a select, and its first one an item
pub some_selects : (selects : List Select) (q : QueryTree) → map select_tree selects ≡ q → IsQuery most_levels q → 0 < length selects
some_selects selects q is h = let long = length-map selects select_tree in let all = ap (λ (ss : QueryTree). length ss) is in omega (arith, long, all, h.0)

pub first_named : (q : QueryTree) → IsQuery most_levels q → 0 < length (query_names q)
first_named [] h = absurd (omega (arith, h.0))
first_named (s ∷ ss) h = let long = length-map s.items item_name in let some = h.1.0.some in omega (arith, long, some)

-- ---- the table

pub answered_keeps : {A : Type 0} (P : A → Type 0) (r : Result A ScalarErr) (f : Option Fault) (x : A) → r ≡ answer_of (unless f x) → P x → IfOk r P
answered_keeps P r f x a h = subst (λ q. IfOk q P) (sym a) (go f)
  where
    go : (t : Option Fault) → IfOk (answer_of (unless t x)) P
    go None = h
    go (Some DivZero) = tt
    go (Some Range) = tt

-- what is added to no rows is the outcome
pub gives : (m : Outcome (List Row)) (r : Result Tabled ScalarErr) (old now : Output) → r ≡ answer_of (unless (fault_seen now) now.table) → fault_seen old ≡ None → old.table.rows ≡ [] → Adds m old now → Gives m r
gives m r old now a none empty adds = subst (Gives m) (sym a) (go (fault_seen now) seen adds.rows)
  where
    seen : fault_seen now ≡ fault_in m
    seen = adds.fault ∙ ap (λ f. join f (fault_in m)) none

    told : (n : Outcome (List Row)) (f : Fault) → Some f ≡ fault_in n → n ≡ Err f
    told (Ok rows) f e = cc
    told (Err g) f e = let s : g ≡ f = cc in ap Err s

    whole : (n : Outcome (List Row)) → None ≡ fault_in n → now.table.rows ≡ rows_in n → Same n (Ok now.table.rows)
    whole (Ok rows) e is = subst (λ l. Perm rows l) (sym is) (Perm-refl rows)
    whole (Err f) e is = cc

    go : (f : Option Fault) → f ≡ fault_in m → (f ≡ None → now.table.rows ≡ old.table.rows ++ rows_in m) → Gives m (answer_of (unless f now.table))
    go None e rows = whole m e (rows refl ∙ ap (λ l. l ++ rows_in m) empty)
    go (Some DivZero) e rows = told m DivZero e
    go (Some Range) e rows = told m Range e
