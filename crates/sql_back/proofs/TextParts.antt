-- The text that spells a translation is a text for its script.
use Rattle.std.proofs.Common.{◌≡◌, List, [], ◌∷◌, ◌++◌, map, Result, Ok, Err, refl, sym, ap, ◌∙◌, subst, ℕ}
use Rattle.std.specs.Prelude.{IfOk, IsUtf8}
use Rattle.vtl_decimal.specs.Settings.{Settings}
use Rattle.vtl_tree.specs.NotNull.{NotNull}
use Rattle.vtl_tree.specs.Structures.{Named}
use Rattle.vtl_scripts.specs.Meaning.{Statement}
use Rattle.sql_tree.specs.Formed.{PrintableScript}
use Rattle.sql_tree.specs.Texts.{IsScript as IsSpelled}
use Rattle.sql_tree.specs.Trees.{ScriptTree, StatementTree}
use Rattle.vtl_to_sql.specs.Conditions.{IsScript}
use Rattle.selects_to_sql.specs.Tables.{create_for, Table}
use Rattle.vtl_to_sql.specs.Scripts.{export_for, input_for, input_of, script_for, written_of}
use Rattle.vtl_to_sql.specs.Tables.{script_tables}
use Rattle.vtl_to_sql.proofs.InputSets.{inputs_mean}
use Rattle.vtl_to_sql.proofs.LawfulScripts.{script_is_printable, script_is_typed}
use Rattle.vtl_to_sql.proofs.WholeScript.{set_is}
use Rattle.sql_back.specs.Texts.{IsTextFor, inputs_in}

-- ---- INPUTs

of_exports : (ws : Named) → inputs_in (map export_for ws) ≡ []
of_exports [] = refl
of_exports (w ∷ ws) = of_exports ws

of_creates : (ts : List Table) (rest : List StatementTree) → inputs_in (map create_for ts ++ rest) ≡ inputs_in rest
of_creates [] rest = refl
of_creates (t ∷ ts) rest = of_creates ts rest

of_inputs : (ls : NotNull) (reads : Named) (rest : List StatementTree) → inputs_in rest ≡ [] → inputs_in (map (input_for ls) reads ++ rest) ≡ map (input_of ls) reads
of_inputs ls [] rest e = e
of_inputs ls (r ∷ rs) rest e = ap (λ l. input_of ls r ∷ l) (of_inputs ls rs rest e)

inputs_are : (p : Settings) (ls : NotNull) (reads : Named) (ss : List Statement) → inputs_in (script_for p ls reads ss) ≡ map (input_of ls) reads
inputs_are p ls reads ss = of_inputs ls reads (map create_for (script_tables p ss) ++ map export_for (written_of ss)) (of_creates (script_tables p ss) (map export_for (written_of ss)) ∙ of_exports (written_of ss))

-- ---- the text

text_for : (p : Settings) (ls : NotNull) (reads : Named) (ss : List Statement) (text : List ℕ) → IsUtf8 text → IsScript p reads ss → IsSpelled text (script_for p ls reads ss) → ((other : ScriptTree) → IsSpelled text other → other ≡ script_for p ls reads ss) → IsTextFor p ls reads ss text
text_for p ls reads ss text utf8 script spelled alone = record {
  script = script_for p ls reads ss;
  utf8 = utf8;
  spelled = spelled;
  alone = alone;
  typed = script_is_typed p ls reads ss script;
  settings = set_is p script.low;
  inputs = inputs_are p ls reads ss;
  means = λ inputs taken ranged. inputs_mean inputs ls p reads ss script taken ranged;
}

printable : (p : Settings) (ls : NotNull) (reads : Named) (ss : List Statement) (tree : ScriptTree) → tree ≡ script_for p ls reads ss → IsScript p reads ss → PrintableScript tree
printable p ls reads ss tree same script = subst PrintableScript (sym same) (script_is_printable p ls reads ss script)

-- of what was printed, or not
module _ (p : Settings) (ls : NotNull) (reads : Named) (ss : List Statement) (tree : ScriptTree) (same : tree ≡ script_for p ls reads ss) (script : IsScript p reads ss) {T E : Type 0} (bytes : T → List ℕ) (utf8 : (t : T) → IsUtf8 (bytes t)) where
  pub printed_spells : (r : Result T E) → IfOk r (λ t. PrintableScript tree → IsSpelled (bytes t) tree) → IfOk r (λ t. IsSpelled (bytes t) (script_for p ls reads ss))
  printed_spells (Ok t) h = subst (IsSpelled (bytes t)) same (h (printable p ls reads ss tree same script))
  printed_spells (Err e) h = tt

  pub printed_is_text : (r : Result T E) → IfOk r (λ t. PrintableScript tree → IsSpelled (bytes t) tree) → IfOk r (λ t. PrintableScript tree → (other : ScriptTree) → IsSpelled (bytes t) other → other ≡ tree) → IfOk r (λ t. IsTextFor p ls reads ss (bytes t))
  printed_is_text (Ok t) h i =
      let can = printable p ls reads ss tree same script in
      text_for p ls reads ss (bytes t) (utf8 t) script (subst (IsSpelled (bytes t)) same (h can)) (λ other s. i can other s ∙ same)
  printed_is_text (Err e) h i = tt
