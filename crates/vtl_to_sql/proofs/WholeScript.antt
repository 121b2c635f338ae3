-- The script in SQL gives the exports of the outputs, or the same fault with the same name.
use Rattle.std.proofs.Common.{◌≡◌, ◌≤◌, ◌^◌, ℕ, pos, Bool, true, false, cond, List, [], ◌∷◌, ◌++◌, map, Some, Ok, Err, Result, refl, ap, sym, ◌∙◌, subst, arith, append_assoc, append-nil}
use Rattle.std.specs.Prelude.{IsOk, nat_lt, unwrap_or}
use Rattle.std.specs.Fmt.{decimal}
use Rattle.std.specs.List.{AllByRecursion}
use Rattle.std.proofs.lemmas.Bool.{lt-ltb}
use Rattle.vtl_decimal.specs.declared.number.Fault.TheVariants.{Range}
use Rattle.vtl_cell.specs.Outcome.{Outcome, after}
use Rattle.vtl_cell.specs.Profile.{IsOfProfile}
use Rattle.vtl_lists.specs.Results.{◌>>=◌}
use Rattle.vtl_cell.specs.Row.{Row}
use Rattle.vtl_decimal.specs.Settings.{Settings}
use Rattle.vtl_cell.specs.Sorted.{Key}
use Rattle.vtl_cell.specs.declared.cell.Cell.TheVariants as c
use Rattle.vtl_decimal.specs.declared.settings.Rounding.TheVariants as rounding
use Rattle.vtl_cell.proofs.Keys.{window_order}
use Rattle.vtl_lists.proofs.Sorts.{sorted_by-Perm}
use Rattle.vtl_tree.specs.Environment.{Environment, known_in}
use Rattle.vtl_tree.specs.Structure.{columns_of, names_of}
use Rattle.vtl_tree.specs.NotNull.{NotNull}
use Rattle.vtl_tree.specs.Structures.{Named}
use Rattle.vtl_tree.specs.declared.structure.Structure.{Structure}
use Rattle.vtl_tree.specs.Columns.{identifiers_of}
use Rattle.vtl_scripts.specs.Made.{AreMadeStatements}
use Rattle.vtl_scripts.specs.Meaning.{AreDataSets, Outputs, Statement, kept_output, meaning, node_value, stated}
use Rattle.vtl_meaning.specs.Points.{with_points}
use Rattle.vtl_meaning.specs.Profiles.{AllAreOfProfile}
use Rattle.vtl_tree.specs.Trees.{structure_of}
use Rattle.sql_tree.specs.Trees.{StatementTree}
use Rattle.sql_check_parts.specs.Statements.{scale_of, scale_written, settings_of}
use Rattle.sql_meaning.specs.Scripts.{Data, Export, Inputs, NamedFault, base_of, export_of, fault_name, input_table, no_table, or_named, script_value, sort_key, statements_made}
use Rattle.sql_meaning.specs.Scripts as sql
use Rattle.sql_meaning.specs.Selects.{query_value}
use Rattle.expressions_to_sql.proofs.WrittenConstants.{integer_there}
use Rattle.vtl_to_sql.specs.Conditions.{IsTranslated}
use Rattle.vtl_to_sql.specs.Exports.{exported, exported_as, tables_read}
use Rattle.vtl_to_sql.specs.Means.{AreNamed, AreStored, ScriptGives}
use Rattle.selects_to_sql.specs.Means.{Stands}
use Rattle.selects_to_sql.specs.Runs.{entries, run}
use Rattle.selects_to_sql.specs.Tables.{create_for, Table}
use Rattle.vtl_to_sql.specs.Scripts.{export_for, input_for, input_of, ordered, script_for, statements_for, written_of}
use Rattle.vtl_to_sql.specs.Tables.{script_tables}
use Rattle.selects_to_sql.proofs.Expressions.{Translates}
use Rattle.selects_to_sql.proofs.Running.{behind}
use Rattle.vtl_to_sql.proofs.Statements.{script_gives}

-- ---- SET

plain_scale : (s : ℕ) → s ≤ 9 → IsOfProfile (record { scale = 0; rounding = rounding.Down }) (c.Int (pos s))
plain_scale s h =
    let few : nat_lt s (10 ^ 18) ≡ true = lt-ltb s (10 ^ 18) (omega (arith, h)) in
    subst (λ b. IsOk (cond b (Ok (pos s)) (Err Range))) (sym few) refl

pub scale_read : (n : ℕ) → n ≤ 9 → scale_written (decimal n) ≡ Some (pos n)
scale_read n h = integer_there (record { scale = 0; rounding = rounding.Down }) n (plain_scale n h)

pub set_is : (p : Settings) → p.scale ≤ 9 → settings_of (decimal p.scale) p.rounding ≡ p
set_is p h = ap (λ o. record { scale = scale_of o; rounding = p.rounding }) (scale_read p.scale h)

-- ---- statements that have made tables and exports

abbrev pub made : Data → List Export → sql.Made
made tables exports = record { tables = tables; exports = exports }

inputs_are : (p : Settings) (inputs : Inputs) (ls : NotNull) (before : Data) (reads : Named) (rest : List StatementTree) → statements_made p inputs (made before []) (map (input_for ls) reads ++ rest) ≡ statements_made p inputs (made (before ++ tables_read inputs ls reads) []) rest
inputs_are p inputs ls before [] rest = ap (λ d. statements_made p inputs (made d []) rest) (sym (append-nil before))
inputs_are p inputs ls before (e ∷ es) rest =
    let one : Data = (e.0, input_table inputs (input_of ls e)) ∷ [] in
    inputs_are p inputs ls (before ++ one) es rest ∙ ap (λ d. statements_made p inputs (made d []) rest) (append_assoc before one (tables_read inputs ls es))

creates_run : (p : Settings) (inputs : Inputs) (before now : Data) (ts : List Table) (rest : List StatementTree) → run p before ts ≡ Ok now → statements_made p inputs (made before []) (map create_for ts ++ rest) ≡ statements_made p inputs (made now []) rest
creates_run p inputs before now [] rest e = let same : before ≡ now = cc in ap (λ d. statements_made p inputs (made d []) rest) same
creates_run p inputs before now (t ∷ ts) rest e = go (query_value (base_of p before) t.query) e (λ rows. creates_run p inputs (behind before t rows) now ts rest)
  where
    go : (m : Outcome (List Row)) → or_named t.name m >>= (λ rows. run p (behind before t rows) ts) ≡ Ok now
        → ((rows : List Row) → run p (behind before t rows) ts ≡ Ok now → statements_made p inputs (made (behind before t rows) []) (map create_for ts ++ rest) ≡ statements_made p inputs (made now []) rest)
        → (or_named t.name m >>= (λ rows. Ok (made (behind before t rows) []))) >>= (λ n. statements_made p inputs n (map create_for ts ++ rest)) ≡ statements_made p inputs (made now []) rest
    go (Ok rows) i ih = ih rows i
    go (Err f) i ih = cc

creates_fault : (p : Settings) (inputs : Inputs) (before : Data) (ts : List Table) (rest : List StatementTree) (f : NamedFault) → run p before ts ≡ Err f → statements_made p inputs (made before []) (map create_for ts ++ rest) ≡ Err f
creates_fault p inputs before [] rest f e = cc
creates_fault p inputs before (t ∷ ts) rest f e = go (query_value (base_of p before) t.query) e (λ rows. creates_fault p inputs (behind before t rows) ts rest f)
  where
    go : (m : Outcome (List Row)) → or_named t.name m >>= (λ rows. run p (behind before t rows) ts) ≡ Err f
        → ((rows : List Row) → run p (behind before t rows) ts ≡ Err f → statements_made p inputs (made (behind before t rows) []) (map create_for ts ++ rest) ≡ Err f)
        → (or_named t.name m >>= (λ rows. Ok (made (behind before t rows) []))) >>= (λ n. statements_made p inputs n (map create_for ts ++ rest)) ≡ Err f
    go (Ok rows) i ih = ih rows i
    go (Err g) i ih = let same : (g, fault_name t.name) ≡ f = cc in ap Err same

-- ---- EXPORT

-- the written results are the outputs, by name and structure
pub written_are : (p : Settings) (ss : List Statement) (env : Environment) (outputs : Outputs) → meaning p ss env ≡ Ok outputs → map (λ o. (o.0, o.1.structure)) outputs ≡ written_of ss
written_are p [] env outputs e = let same : [] ≡ outputs = cc in ap (λ l. map (λ o. (o.0, o.1.structure)) l) (sym same)
written_are p (s ∷ ss) env outputs e = go (node_value p env s.node) e (λ d outs. written_are p ss ((s.result, with_points (structure_of s.node) d) ∷ env) outs)
  where
    taken : (d : List Row) (b : Bool) (rest : Result Outputs NamedFault) → kept_output (record { result = s.result; persistent = b; node = s.node }) (with_points (structure_of s.node) d) rest ≡ Ok outputs → ((outs : Outputs) → rest ≡ Ok outs → map (λ o. (o.0, o.1.structure)) outs ≡ written_of ss)
        → map (λ o. (o.0, o.1.structure)) outputs ≡ cond b ((s.result, structure_of s.node) ∷ written_of ss) (written_of ss)
    taken d true (Ok outs) i ih =
        let same : (s.result, with_points (structure_of s.node) d) ∷ outs ≡ outputs = cc in
        ap (λ l. map (λ o. (o.0, o.1.structure)) l) (sym same) ∙ ap (λ l. (s.result, structure_of s.node) ∷ l) (ih outs refl)
    taken d false (Ok outs) i ih = ih outputs i
    taken d true (Err f) i ih = cc
    taken d false (Err f) i ih = cc

    go : (v : Outcome (List Row)) → stated s (after v (λ d. Ok (with_points (structure_of s.node) d))) (λ d. meaning p ss ((s.result, d) ∷ env)) ≡ Ok outputs
        → ((d : List Row) (outs : Outputs) → meaning p ss ((s.result, with_points (structure_of s.node) d) ∷ env) ≡ Ok outs → map (λ o. (o.0, o.1.structure)) outs ≡ written_of ss)
        → map (λ o. (o.0, o.1.structure)) outputs ≡ written_of (s ∷ ss)
    go (Ok d) i ih = taken d s.persistent (meaning p ss ((s.result, with_points (structure_of s.node) d) ∷ env)) i (ih d)
    go (Err f) i ih = cc

abbrev keys : Structure → List Key
keys s = map (sort_key (entries (columns_of s))) (names_of (identifiers_of s))

exports_are : (p : Settings) (inputs : Inputs) (now : Data) (before : List Export) (outputs : Outputs) → AreStored now outputs → statements_made p inputs (made now before) (map export_for (map (λ o. (o.0, o.1.structure)) outputs)) ≡ Ok (made now (before ++ map exported outputs))
exports_are p inputs now before [] h = ap (λ l. Ok (made now l)) (sym (append-nil before))
exports_are p inputs now before (o ∷ os) h =
    let same : export_of (ordered (o.0, o.1.structure)) (sql.table_named now o.0) ≡ exported o =
    ap (λ t. export_of (ordered (o.0, o.1.structure)) (unwrap_or t no_table)) h.0.table
    ∙ ap (λ rs. record { name = o.0; columns = entries (columns_of o.1.structure); rows = rs }) (sorted_by-Perm (window_order (keys o.1.structure) []) h.0.same) in
    ap (λ e. statements_made p inputs (made now (before ++ e ∷ [])) (map export_for (map (λ o. (o.0, o.1.structure)) os))) same
    ∙ exports_are p inputs now (before ++ exported o ∷ []) os h.1
    ∙ ap (λ l. Ok (made now l)) (append_assoc before (exported o ∷ []) (map exported os))

-- ---- the script

pub script_is : (p : Settings) → p.scale ≤ 9 → Translates p → (ls : NotNull) (reads : Named) (ss : List Statement) (env : Environment) (inputs : Inputs) → AreDataSets env → AllAreOfProfile p env → Stands (tables_read inputs ls reads) env → AreNamed p (tables_read inputs ls reads) ss → AreMadeStatements p (known_in env) ss → AllByRecursion (λ s. IsTranslated p s.node) ss
    → script_value (script_for p ls reads ss) inputs ≡ exported_as (meaning p ss env)
script_is p low law ls reads ss env inputs sets ranged stands named typed written =
    ap (λ q. statements_made q inputs (made [] []) (statements_for p ls reads ss) >>= (λ m. Ok m.exports)) (set_is p low)
    ∙ ap (λ o. o >>= (λ m. Ok m.exports)) (inputs_are p inputs ls [] reads (map create_for (script_tables p ss) ++ map export_for (written_of ss)))
    ∙ go (meaning p ss env) refl (script_gives p law ss env (tables_read inputs ls reads) sets ranged stands named typed written)
  where
    go : (m : Result Outputs NamedFault) → meaning p ss env ≡ m → ScriptGives p (tables_read inputs ls reads) (script_tables p ss) m
        → statements_made p inputs (made (tables_read inputs ls reads) []) (map create_for (script_tables p ss) ++ map export_for (written_of ss)) >>= (λ n. Ok n.exports) ≡ exported_as m
    go (Ok outputs) e g =
        ap (λ o. o >>= (λ n. Ok n.exports)) (creates_run p inputs (tables_read inputs ls reads) (tables_read inputs ls reads ++ g.more) (script_tables p ss) (map export_for (written_of ss)) g.ran)
        ∙ ap (λ w. statements_made p inputs (made (tables_read inputs ls reads ++ g.more) []) (map export_for w) >>= (λ n. Ok n.exports)) (sym (written_are p ss env outputs e))
        ∙ ap (λ o. o >>= (λ n. Ok n.exports)) (exports_are p inputs (tables_read inputs ls reads ++ g.more) [] outputs g.stored)
    go (Err f) e g = ap (λ o. o >>= (λ n. Ok n.exports)) (creates_fault p inputs (tables_read inputs ls reads) (script_tables p ss) (map export_for (written_of ss)) f g)
