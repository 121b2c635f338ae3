-- A statement breaks no rule exactly where it is typed; typed statements can be taken apart at any place.
use Rattle.std.proofs.Common.{◌≡◌, ℕ, suc, true, false, not, List, [], ◌∷◌, ◌++◌, fold, length, map, pos, Some, None, refl, subst}
use Rattle.std.specs.Prelude.{Option, is_some}
use Rattle.std.specs.List.{list_any}
use Rattle.std.specs.Map.{keys_of}
use Rattle.std.specs.Option.{is_none}
use Rattle.grammar_forms.specs.Written.{Each}
use Rattle.vtl_decimal.specs.Settings.{Settings}
use Rattle.vtl_text.specs.Words.{is_word}
use Rattle.vtl_decimal.specs.declared.settings.Rounding.{Rounding}
use Rattle.vtl_cell.specs.Literals.{lies_between}
use Rattle.sql_tree.specs.Formed.{FormedScript, IsStatement}
use Rattle.sql_tree.specs.Grammar.{most_levels}
use Rattle.sql_tree.specs.Trees as tree
use Rattle.sql_tree.specs.Trees.{QueryTree, StatementTree, Text}
use Rattle.sql_tree.specs.View.{script_tree, statement_tree}
use Rattle.sql_tree.specs.declared.statements.SqlExport.{SqlExport}
use Rattle.sql_tree.specs.declared.statements.SqlInput.{SqlInput}
use Rattle.sql_tree.specs.declared.statements.SqlScript.{SqlScript}
use Rattle.sql_check_parts.specs.Rules.{least}
use Rattle.sql_check_parts.specs.Scopes.{Columns, Tables, columns_of, is_among, repeats, value_among}
use Rattle.sql_check_parts.specs.Statements.{Fault, Given, IsTypedScript, after, codes_fit, create_breaks, export_breaks, fault_from, fault_or, given_by, input_breaks, input_columns, is_taken, most_input_columns, names_fit, nothing, order_fits, scale_written, script_settings, setting_breaks, settings_of, statement_breaks}
use Rattle.sql_check_parts.specs.declared.rules.SqlRule.{SqlRule}
use Rattle.sql_check_parts.specs.declared.rules.SqlRule.TheVariants as rule
use Rattle.sql_check_laws.specs.Both.{Iff}
use Rattle.sql_check_laws.specs.Statements.{AreNames, AreTyped, IsCreateTyped, IsExportTyped, IsInputTyped, IsOrder, IsStatementTyped}
use Rattle.sql_check_laws.proofs.BothWays.{always, at_most, behind, both_true, exactly, neither, no_least, none_any, same, sure, test, three_tests, two_exactly, unsure}
use Rattle.sql_check_laws.proofs.TypedSelects.{query_whole}

-- ---- statements

names_are : (columns : Columns) (names : List Text) → Iff (names_fit columns names ≡ true) (AreNames columns names)
names_are columns names =
    both_true (unsure (repeats names))
    (behind (unsure (list_any (λ name. is_none (value_among columns name)) names)) (none_any (λ name. is_none (value_among columns name)) (λ name. sure (is_some (value_among columns name))) names))

pub input_typed : (tables : Tables) (s : SqlInput) → Iff (input_breaks tables s ≡ []) (IsInputTyped tables s)
input_typed tables s =
    let name = neither (same {A = is_taken tables s.name ≡ false}) (sure (is_word s.name)) in
    let columns = neither (same {A = repeats (keys_of (input_columns s)) ≡ false}) (behind (sure (names_fit (input_columns s) s.key)) (names_are (input_columns s) s.key)) in
    let codes = neither (none_any (λ c. not (codes_fit s.key c)) (λ c. sure (codes_fit s.key c)) s.columns) (at_most most_input_columns (length s.columns)) in
    let all = exactly (three_tests rule.MisnamedTable rule.MisnamedColumn rule.CodesOrCount refl refl refl name columns codes) in
    record {
      to = λ h.
          let x = all.to h in
          record {
            free = x.0.0;
            word = x.0.1;
            names = x.1.0;
            key = x.1.1;
            codes = x.2.0;
            few = x.2.1;
          };
      from = λ t. all.from ((t.free, t.word), (t.names, t.key), (t.codes, t.few));
    }

order_is : (columns : Option Columns) (names : List Text) → Iff (order_fits columns names ≡ true) (IsOrder columns names)
order_is None names = always refl
order_is (Some columns) names = names_are columns names

pub export_typed : (given : Given) (s : SqlExport) → Iff (export_breaks given.tables given.exported s ≡ []) (IsExportTyped given s)
export_typed given s =
    let columns = columns_of given.tables s.name in
    let name = neither (same {A = is_among s.name given.exported ≡ false}) (sure (is_word s.name)) in
    let all = exactly (three_tests rule.UnknownTable rule.MisnamedTable rule.MisnamedColumn refl refl refl (sure (is_some columns)) name (behind (sure (order_fits columns s.order)) (order_is columns s.order))) in
    record {
      to = λ h.
          let x = all.to h in
          record {
            table = x.0;
            new = x.1.0;
            word = x.1.1;
            order = x.2;
          };
      from = λ t. all.from (t.table, (t.new, t.word), t.order);
    }

create_typed : (p : Settings) (tables : Tables) (name : Text) (q : QueryTree) → Iff (create_breaks p tables name q ≡ []) (IsCreateTyped p tables name q)
create_typed p tables name q = two_exactly (exactly (test rule.MisnamedTable refl (same {A = is_taken tables name ≡ false}))) (query_whole p tables q)

pub statement_typed : (p : Settings) (given : Given) (s : StatementTree) → Iff (statement_breaks p given s ≡ []) (IsStatementTyped p given s)
statement_typed p given (tree.setting digits rounding) = always refl
statement_typed p given (tree.input s) = input_typed given.tables s
statement_typed p given (tree.create name q) = create_typed p given.tables name q
statement_typed p given (tree.export s) = export_typed given s

-- ---- scripts

no_fault : (n : ℕ) (o : Option SqlRule) (rest : Option Fault) → Iff (fault_or n o rest ≡ None) ((o ≡ None) × (rest ≡ None))
no_fault n None rest = record { to = λ h. (refl, h); from = λ h. h.1 }
no_fault n (Some r) rest = record { to = λ h. cc; from = λ h. let some = h.0 in cc }

both : {A B C D : Type 0} → Iff A B → Iff C D → Iff (A × C) (B × D)
both f g = record { to = λ h. (f.to h.0, g.to h.1); from = λ h. (f.from h.0, g.from h.1) }

pub statements_typed : (p : Settings) (n : ℕ) (given : Given) (ss : List StatementTree) → Iff (fault_from p n given ss ≡ None) (AreTyped p given ss)
statements_typed p n given [] = always refl
statements_typed p n given (s ∷ ss) =
    behind (no_fault n (least (statement_breaks p given s)) (fault_from p (suc n) (after given s) ss))
    (both (behind (no_least (statement_breaks p given s)) (statement_typed p given s)) (statements_typed p (suc n) (after given s) ss))

pub script_typed : (digits : Text) (rounding : Rounding) (ss : List StatementTree) → Iff (IsTypedScript (tree.setting digits rounding ∷ ss)) ((lies_between (pos 0) (pos 9) (scale_written digits) ≡ true) × AreTyped (settings_of digits rounding) nothing ss)
script_typed digits rounding ss =
    let p = settings_of digits rounding in
    behind (no_fault 1 (least (setting_breaks digits)) (fault_from p 2 nothing ss))
    (both (behind (no_least (setting_breaks digits)) (exactly (test rule.UnfitLiteral refl (sure (lies_between (pos 0) (pos 9) (scale_written digits)))))) (statements_typed p 2 nothing ss))

-- the statements of one list behind those of another
pub typed_behind : (p : Settings) (given : Given) (xs ys : List StatementTree) → Iff (AreTyped p given (xs ++ ys)) (AreTyped p given xs × AreTyped p (fold after given xs) ys)
typed_behind p given [] ys = record { to = λ h. (tt, h); from = λ h. h.1 }
typed_behind p given (x ∷ xs) ys =
    let rest = typed_behind p (after given x) xs ys in
    record {
      to = λ h. let r = rest.to h.1 in ((h.0, r.0), r.1);
      from = λ h. (h.0.0, rest.from (h.0.1, h.1));
    }

-- ---- each statement of a script that is checked

each_behind : {A : Type 0} (P : A → Type 0) (xs : List A) (y : A) (ys : List A) → Each P (xs ++ y ∷ ys) → P y
each_behind P [] y ys h = h.0
each_behind P (x ∷ xs) y ys h = each_behind P xs y ys h.1

pub reached : (script : SqlScript) (before behind : List StatementTree) (s : StatementTree) → FormedScript (script_tree script) → IsTypedScript (script_tree script) → map statement_tree script.statements ≡ before ++ s ∷ behind
    → IsStatement most_levels s × IsStatementTyped (script_settings (script_tree script)) (given_by before) s
reached script before rest s f t e =
    let p = settings_of script.scale script.rounding in
    let typed = subst (AreTyped p nothing) e ((script_typed script.scale script.rounding (map statement_tree script.statements)).to t).1 in
    let formed = subst (Each (IsStatement most_levels)) e f.1 in
    (each_behind (IsStatement most_levels) before s rest formed, ((typed_behind p nothing before (s ∷ rest)).to typed).1.0)
