-- What is asked of a script gives what is asked of its tables.
use Rattle.std.proofs.Common.{◌≡◌, ◌≤◌, Bool, true, false, ◌||◌, List, [], ◌∷◌, refl, ap, sym, ◌∙◌, subst}
use Rattle.std.specs.List.{AllByRecursion}
use Rattle.vtl_lists.proofs.Alls.{all_more}
use Rattle.vtl_decimal.specs.Settings.{Settings}
use Rattle.vtl_text.specs.Texts.{same_text}
use Rattle.vtl_text.specs.Words.{is_word}
use Rattle.vtl_tree.specs.Environment.{Environment, known_in}
use Rattle.vtl_tree.specs.Structure.{IsStructure, same_name}
use Rattle.vtl_tree.specs.NotNull.{NotNull}
use Rattle.vtl_tree.specs.Structures.{Named, has_name}
use Rattle.vtl_scripts.specs.Made.{AreMadeStatements}
use Rattle.vtl_scripts.specs.Meaning.{AreDataSets, Statement, meaning}
use Rattle.vtl_tree.specs.Trees.{structure_of}
use Rattle.vtl_meaning.specs.Profiles.{AllAreOfProfile}
use Rattle.sql_tree.specs.Trees.{Text}
use Rattle.sql_meaning.specs.Scripts.{Data, Inputs, script_value}
use Rattle.vtl_to_sql.specs.Conditions.{AreTranslated, IsScript, IsTranslated}
use Rattle.vtl_to_sql.specs.Exports.{AreRead, exported_as, tables_read}
use Rattle.vtl_to_sql.specs.Means.{AreNamed, ScriptGives}
use Rattle.selects_to_sql.specs.Means.{IsApartFrom, Stands}
use Rattle.vtl_to_sql.specs.Scripts.{script_for}
use Rattle.vtl_to_sql.specs.Tables.{script_tables}
use Rattle.selects_to_sql.proofs.Expressions.{translates}
use Rattle.selects_to_sql.proofs.Names.{plain_name}
use Rattle.vtl_to_sql.proofs.ReadTables.{reads_stand}
use Rattle.vtl_to_sql.proofs.Statements.{script_gives}
use Rattle.vtl_to_sql.proofs.WholeScript.{script_is}

-- ---- names

none_first : (a b : Bool) → (a || b) ≡ false → a ≡ false
none_first false b h = refl
none_first true b h = cc

none_second : (a b : Bool) → (a || b) ≡ false → b ≡ false
none_second false b h = h
none_second true b h = cc

-- no result has the name of a data set before it
pub all_new : (p : Settings) (known : Named) (ss : List Statement) → AreTranslated p known ss → AllByRecursion (λ t. has_name t.result known ≡ false) ss
all_new p known [] h = tt
all_new p known (s ∷ ss) h =
    let rest = all_new p ((s.result, structure_of s.node) ∷ known) ss h.1 in
    (h.0.new, all_more (λ t. has_name t.result ((s.result, structure_of s.node) ∷ known) ≡ false) (λ t. has_name t.result known ≡ false) (λ t e. none_second (same_name t.result s.result) (has_name t.result known) e) ss rest)

-- nor that of an earlier result
pub all_apart_from : (p : Settings) (known : Named) (s : Statement) (ss : List Statement) → AreTranslated p ((s.result, structure_of s.node) ∷ known) ss → AllByRecursion (λ t. same_text t.result s.result ≡ false) ss
all_apart_from p known s ss h =
    all_more (λ t. has_name t.result ((s.result, structure_of s.node) ∷ known) ≡ false) (λ t. same_text t.result s.result ≡ false)
    (λ t e. none_first (same_name t.result s.result) (has_name t.result known) e) ss (all_new p ((s.result, structure_of s.node) ∷ known) ss h)

apart_from_reads : (inputs : Inputs) (ls : NotNull) (r : Text) (reads : Named) → AllByRecursion (λ e. is_word e.0 ≡ true) reads → has_name r reads ≡ false → IsApartFrom r (tables_read inputs ls reads)
apart_from_reads inputs ls r [] words h = tt
apart_from_reads inputs ls r (e ∷ es) words h = (
  ap (same_text r) (plain_name e.0 words.0) ∙ none_first (same_name r e.0) (has_name r es) h,
  apart_from_reads inputs ls r es words.1 (none_second (same_name r e.0) (has_name r es) h),
)

all_named : (p : Settings) (before : Data) (known : Named) (ss : List Statement) → AreTranslated p known ss → AllByRecursion (λ t. IsApartFrom t.result before) ss → AreNamed p before ss
all_named p before known [] h apart = tt
all_named p before known (s ∷ ss) h apart = (h.0.word, apart.0, all_apart_from p known s ss h.1, h.0.few, all_named p before ((s.result, structure_of s.node) ∷ known) ss h.1 apart.1)

-- ---- expressions

pub all_made : (p : Settings) (known : Named) (ss : List Statement) → AreTranslated p known ss → AreMadeStatements p known ss
all_made p known [] h = tt
all_made p known (s ∷ ss) h = (h.0.made, all_made p ((s.result, structure_of s.node) ∷ known) ss h.1)

pub all_translated : (p : Settings) (known : Named) (ss : List Statement) → AreTranslated p known ss → AllByRecursion (λ s. IsTranslated p s.node) ss
all_translated p known [] h = tt
all_translated p known (s ∷ ss) h = (h.0.translated, all_translated p ((s.result, structure_of s.node) ∷ known) ss h.1)

-- ---- scripts

module _ (p : Settings) (ls : NotNull) (reads : Named) (ss : List Statement) (script : IsScript p reads ss) where
  abbrev low : p.scale ≤ 9
  low = script.low

  named : (inputs : Inputs) → AreNamed p (tables_read inputs ls reads) ss
  named inputs =
      all_named p (tables_read inputs ls reads) reads ss script.translated
      (all_more (λ t. has_name t.result reads ≡ false) (λ t. IsApartFrom t.result (tables_read inputs ls reads)) (λ t h. apart_from_reads inputs ls t.result reads script.readable.words h) ss (all_new p reads ss script.translated))

  module _ (env : Environment) (same : known_in env ≡ reads) (sets : AreDataSets env) (ranged : AllAreOfProfile p env) (inputs : Inputs) (rows : AreRead inputs env) where
    structures : (es : Environment) → AreDataSets es → AllByRecursion (λ e. is_word e.0 ≡ true) (known_in es) → AllByRecursion (λ d. IsStructure d.1.structure × (is_word d.0 ≡ true)) es
    structures [] h i = tt
    structures (d ∷ ds) h i = ((h.0.well_formed, i.0), structures ds h.1 i.1)

    words : AllByRecursion (λ e. is_word e.0 ≡ true) (known_in env)
    words = subst (AllByRecursion (λ e. is_word e.0 ≡ true)) (sym same) script.readable.words

    made : AreMadeStatements p (known_in env) ss
    made = subst (λ known. AreMadeStatements p known ss) (sym same) (all_made p reads ss script.translated)

    pub tables_give : ScriptGives p (tables_read inputs ls reads) (script_tables p ss) (meaning p ss env)
    tables_give =
        script_gives p (translates p low) ss env (tables_read inputs ls reads) sets ranged
        (subst (λ known. Stands (tables_read inputs ls known) env) same (reads_stand ls inputs env (structures env sets words) rows)) (named inputs) made (all_translated p reads ss script.translated)

    pub script_means : script_value (script_for p ls reads ss) inputs ≡ exported_as (meaning p ss env)
    script_means =
        script_is p low (translates p low) ls reads ss env inputs sets ranged
        (subst (λ known. Stands (tables_read inputs ls known) env) same (reads_stand ls inputs env (structures env sets words) rows)) (named inputs) made (all_translated p reads ss script.translated)
