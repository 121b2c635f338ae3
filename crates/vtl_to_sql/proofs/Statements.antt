-- The tables of a script hold its outputs, or the first one that has a fault has the script's.
use Rattle.std.proofs.Common.{◌≡◌, Bool, true, false, cond, List, [], ◌∷◌, ◌++◌, Some, Ok, Err, Result, refl, ap, sym, ◌∙◌, subst, append_assoc, append-nil, inl, true≢false}
use Rattle.std.specs.Prelude.{IfOk}
use Rattle.std.specs.List.{AllByRecursion}
use Rattle.std.specs.Map.{lookup}
use Rattle.std.specs.Option.{option_map_or}
use Rattle.vtl_cell.specs.Outcome.{Outcome, after}
use Rattle.vtl_lists.specs.Perm.{Perm}
use Rattle.vtl_lists.proofs.Alls.{all_append, all_more}
use Rattle.vtl_cell.specs.Row.{Row}
use Rattle.vtl_decimal.specs.Settings.{Settings}
use Rattle.vtl_text.specs.Texts.{same_text}
use Rattle.vtl_text.specs.Words.{is_word}
use Rattle.vtl_tree.specs.Environment.{DataSet, Environment, data_of, known_in}
use Rattle.vtl_tree.specs.Structure.{same_name}
use Rattle.vtl_scripts.specs.Made.{AreMadeStatements}
use Rattle.vtl_scripts.specs.Meaning.{AreDataSets, Outputs, Statement, kept_output, meaning, node_value, stated}
use Rattle.vtl_meaning.specs.Points.{with_points}
use Rattle.vtl_meaning.specs.Profiles.{AllAreOfProfile}
use Rattle.vtl_tree.specs.DataSet.{AreOfProfile}
use Rattle.vtl_tree.specs.Trees.{structure_of}
use Rattle.vtl_tree.proofs.NotNullLemmas.{same_itself}
use Rattle.vtl_meaning.proofs.Places.{same_name-is, same_name-sym}
use Rattle.vtl_scripts.proofs.ScriptsKept.{node_kept}
use Rattle.vtl_scripts.proofs.ScriptsProfiles as profiles
use Rattle.sql_tree.specs.Formed.{IsName}
use Rattle.sql_tree.specs.Trees.{Text}
use Rattle.sql_meaning.specs.Scripts.{Data, NamedFault, base_of, fault_name, tables_in}
use Rattle.sql_meaning.specs.Selects.{query_value}
use Rattle.vtl_to_sql.specs.Conditions.{IsTranslated}
use Rattle.vtl_to_sql.specs.Means.{AreNamed, AreStored, ScriptGives}
use Rattle.selects_to_sql.specs.Means.{Extends, IsApartFrom, IsEarlier, IsNumbered, Means, NodeGives, Stands, StandsAs}
use Rattle.selects_to_sql.specs.Runs.{AreLawful, IsTable, held, run}
use Rattle.selects_to_sql.specs.Tables.{Made, Table, first_number, table_of}
use Rattle.vtl_to_sql.specs.Tables.{made_of, script_tables, statement_tables}
use Rattle.selects_to_sql.proofs.Composition.{stands_still}
use Rattle.selects_to_sql.proofs.Expressions.{Translates}
use Rattle.selects_to_sql.proofs.Names.{not_numbered, numbered_name, other_statement, plain_name, word_is_name}
use Rattle.vtl_to_sql.proofs.Nodes.{node_gives}
use Rattle.selects_to_sql.proofs.Running.{lawful_on, name_free, run_on, run_one, run_stops, same_ok, there_last}

-- tables of one more statement
named_still : (p : Settings) (before more : Data) (r : Text) (ss : List Statement) → AllByRecursion (λ t. fault_name t.0 ≡ r) more → AllByRecursion (λ t. same_text t.result r ≡ false) ss → AreNamed p before ss → AreNamed p (before ++ more) ss
named_still p before more r [] all other h = tt
named_still p before more r (s ∷ ss) all other h = (
  h.0,
  all_append (λ t. same_text s.result (fault_name t.0) ≡ false) before more h.1 (all_more (λ t. fault_name t.0 ≡ r) (λ t. same_text s.result (fault_name t.0) ≡ false) (λ t e. ap (same_text s.result) e ∙ other.0) more all),
  h.2,
  h.3,
  named_still p before more r ss all other.1 h.4,
)

module _ (p : Settings) (s : Statement) where
  abbrev r : Text
  r = s.result

  abbrev m : Made
  m = made_of p r s.node first_number

  abbrev result : List Row → DataSet
  result d = with_points (structure_of s.node) d

  module _ (env : Environment) (before : Data) (stands : Stands before env) (word : is_word r ≡ true) (apart : IsApartFrom r before) (d : List Row) (x : Extends p before r first_number m.tables m.next) (means : Means p (before ++ x.more) m.query (structure_of s.node) (Ok d)) where
    abbrev rows_made : (e : List Row) × (query_value (base_of p (before ++ x.more)) m.query ≡ Ok e) × Perm e d
    rows_made = same_ok (query_value (base_of p (before ++ x.more)) m.query) d means.rows

    abbrev rows : List Row
    rows = rows_made.0

    abbrev added : Data
    added = x.more ++ (r, held (structure_of s.node) rows) ∷ []

    ran : run p before (statement_tables p s) ≡ Ok (before ++ added)
    ran =
        run_on p before (before ++ x.more) m.tables (table_of r m.query ∷ []) x.ran
        ∙ run_one p (before ++ x.more) r m.query (structure_of s.node) rows rows_made.1 means.query.columns
        ∙ ap Ok (append_assoc before x.more ((r, held (structure_of s.node) rows) ∷ []))

    pub of_statement : AllByRecursion (λ t. fault_name t.0 ≡ r) added
    of_statement =
        all_append (λ t. fault_name t.0 ≡ r) x.more ((r, held (structure_of s.node) rows) ∷ [])
        (all_more (λ t. IsNumbered r m.next t.0) (λ t. fault_name t.0 ≡ r) (λ t i. ap fault_name i.1 ∙ numbered_name r i.0 word) x.more x.new)
        (plain_name r word, tt)

    free : AllByRecursion (λ u. same_text r u.0 ≡ false) (before ++ x.more)
    free =
        all_append (λ u. same_text r u.0 ≡ false) before x.more
        (all_more (λ t. same_text r (fault_name t.0) ≡ false) (λ u. same_text r u.0 ≡ false) (λ t h. other_statement r r t.0 (plain_name r word) h) before apart)
        (all_more (λ t. IsNumbered r m.next t.0) (λ u. same_text r u.0 ≡ false) (λ t i. ap (same_text r) i.1 ∙ not_numbered r i.0) x.more x.new)

    named : IsName r
    named = word_is_name r word

    lawful : AreLawful p (tables_in before) (statement_tables p s)
    lawful = lawful_on p before (before ++ x.more) m.tables (table_of r m.query ∷ []) x.ran x.lawful ((named, means.query.printed), (name_free (before ++ x.more) r free, means.query.typed), tt)

    there : IsTable (before ++ added) r (structure_of s.node) rows
    there = subst (λ now. IsTable now r (structure_of s.node) rows) (append_assoc before x.more ((r, held (structure_of s.node) rows) ∷ [])) (there_last (before ++ x.more) (same_text r) r (held (structure_of s.node) rows) free (same_itself r))

    own : StandsAs (before ++ added) r (structure_of s.node) d
    own = record { named = named; rows = rows; table = there; same = rows_made.2 }

    pub now_stands : Stands (before ++ added) ((r, result d) ∷ env)
    now_stands name t h = go (same_name name r) refl (same_name r name) (same_name-sym name r) h
      where
        go : (a : Bool) → same_name name r ≡ a → (b : Bool) → a ≡ b → cond a (Some (structure_of s.node)) (lookup (same_name name) (known_in env)) ≡ Some t
            → StandsAs (before ++ added) name t (option_map_or (λ z. z.points) (cond b (Some (result d)) (data_of name env)) [])
        go true e true q i =
            let one : structure_of s.node ≡ t = cc in
            subst (λ z. StandsAs (before ++ added) name z d) one (subst (λ z. StandsAs (before ++ added) z (structure_of s.node) d) (sym (same_name-is name r e)) own)
        go false e false q i = stands_still before added name t (option_map_or (λ z. z.points) (data_of name env) []) (stands name t i)
        go true e false q i = absurd (true≢false q)
        go false e true q i = absurd (true≢false (sym q))

    -- the rest of the script over these tables
    pub stores : (ss : List Table) (persistent : Bool) (rest : Result Outputs NamedFault) → ScriptGives p (before ++ added) ss rest → ScriptGives p before (statement_tables p s ++ ss) (kept_output (record { result = r; persistent = persistent; node = s.node }) (result d) rest)
    stores ss true (Ok outputs) g = record {
      more = added ++ g.more;
      ran = run_on p before (before ++ added) (statement_tables p s) ss ran ∙ g.ran ∙ ap Ok (append_assoc before added g.more);
      lawful = lawful_on p before (before ++ added) (statement_tables p s) ss ran lawful g.lawful;
      stored = subst (λ now. AreStored now ((r, result d) ∷ outputs)) (append_assoc before added g.more) (stands_still (before ++ added) g.more r (structure_of s.node) d own, g.stored);
    }
    stores ss false (Ok outputs) g = record {
      more = added ++ g.more;
      ran = run_on p before (before ++ added) (statement_tables p s) ss ran ∙ g.ran ∙ ap Ok (append_assoc before added g.more);
      lawful = lawful_on p before (before ++ added) (statement_tables p s) ss ran lawful g.lawful;
      stored = subst (λ now. AreStored now outputs) (append_assoc before added g.more) g.stored;
    }
    stores ss true (Err f) g = run_on p before (before ++ added) (statement_tables p s) ss ran ∙ g
    stores ss false (Err f) g = run_on p before (before ++ added) (statement_tables p s) ss ran ∙ g

pub script_gives : (p : Settings) → Translates p → (ss : List Statement) (env : Environment) (before : Data) → AreDataSets env → AllAreOfProfile p env → Stands before env → AreNamed p before ss → AreMadeStatements p (known_in env) ss → AllByRecursion (λ s. IsTranslated p s.node) ss → ScriptGives p before (script_tables p ss) (meaning p ss env)
script_gives p law [] env before sets ranged stands given typed written = record { more = []; ran = ap Ok (sym (append-nil before)); lawful = tt; stored = tt }
script_gives p law (s ∷ ss) env before sets ranged stands given typed written =
    go (node_value p env s.node) refl
    (node_gives p law s.result given.0 env sets ranged s.node first_number before stands (all_more (λ t. same_text s.result (fault_name t.0) ≡ false) (λ t. IsEarlier s.result first_number t.0) (λ t h. inl h) before given.1) typed.0 written.0 given.3)
    (λ d now is ranged_now stands_now named_now. script_gives p law ss ((s.result, with_points (structure_of s.node) d) ∷ env) now is ranged_now stands_now named_now typed.1 written.1)
  where
    go : (v : Outcome (List Row)) → node_value p env s.node ≡ v → NodeGives p before s.result first_number (made_of p s.result s.node first_number) (structure_of s.node) v
        → ((d : List Row) (now : Data) → AreDataSets ((s.result, with_points (structure_of s.node) d) ∷ env) → AllAreOfProfile p ((s.result, with_points (structure_of s.node) d) ∷ env) → Stands now ((s.result, with_points (structure_of s.node) d) ∷ env) → AreNamed p now ss → ScriptGives p now (script_tables p ss) (meaning p ss ((s.result, with_points (structure_of s.node) d) ∷ env)))
        → ScriptGives p before (statement_tables p s ++ script_tables p ss) (stated s (after v (λ d. Ok (with_points (structure_of s.node) d))) (λ d. meaning p ss ((s.result, d) ∷ env)))
    go (Err f) e g ih = run_stops p before (statement_tables p s) (script_tables p ss) (f, s.result) (g s.result (plain_name s.result given.0))
    go (Ok d) e g ih =
        let now = before ++ added p s env before stands given.0 given.1 d g.0 g.1 in
        stores p s env before stands given.0 given.1 d g.0 g.1 (script_tables p ss) s.persistent (meaning p ss ((s.result, with_points (structure_of s.node) d) ∷ env))
        (ih d now (node_kept p env s.node d typed.0 sets e, sets) (subst (λ v. IfOk v (AreOfProfile p)) e (profiles.node_gives p env ranged s.node typed.0), ranged) (now_stands p s env before stands given.0 given.1 d g.0 g.1)
        (named_still p before (added p s env before stands given.0 given.1 d g.0 g.1) s.result ss (of_statement p s env before stands given.0 given.1 d g.0 g.1) given.2 given.4))
