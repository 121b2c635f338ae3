-- The rows that INPUTs take are those of data sets, over which the script means what it exports.
use Rattle.std.proofs.Common.{◌≡◌, true, List, [], ◌∷◌, refl, ap}
use Rattle.std.specs.List.{AllByRecursion}
use Rattle.vtl_decimal.specs.Settings.{Settings}
use Rattle.vtl_lists.proofs.Perms.{Perm-refl}
use Rattle.vtl_tree.specs.Structures.{Named, is_declarable}
use Rattle.vtl_meaning.specs.Profiles.{AllAreOfProfile}
use Rattle.vtl_scripts.specs.Meaning.{AreDataSets, Statement, meaning}
use Rattle.vtl_tree.specs.Environment.{known_in}
use Rattle.vtl_tree.specs.NotNull.{NotNull}
use Rattle.sql_meaning.specs.Scripts.{Inputs, rows_read, script_value}
use Rattle.vtl_to_sql.specs.Conditions.{IsScript}
use Rattle.vtl_to_sql.specs.Exports.{AreRead, exported_as}
use Rattle.vtl_to_sql.specs.Inputs.{AreTaken, sets_read}
use Rattle.vtl_to_sql.specs.Scripts.{script_for}
use Rattle.vtl_to_sql.proofs.InputData.{data_asked}
use Rattle.vtl_to_sql.proofs.TranslatedScripts.{script_means}
use Rattle.vtl_to_sql.proofs.TypedScripts.{declared_coded, declared_each_entry, declared_shaped}

module _ (inputs : Inputs) (ls : NotNull) where
  sets_known : (reads : Named) → known_in (sets_read inputs reads) ≡ reads
  sets_known [] = refl
  sets_known (e ∷ es) = ap (λ l. e ∷ l) (sets_known es)

  are_sets : (reads : Named) → AllByRecursion (λ e. is_declarable e.1 ≡ true) reads → AreTaken inputs ls reads → AreDataSets (sets_read inputs reads)
  are_sets [] h i = tt
  are_sets (e ∷ es) h i = ((data_asked ls e (declared_shaped e h.0).well_formed (declared_coded e.1 h.0) (rows_read inputs e.0) i.0).set, are_sets es h.1 i.1)

  are_read : (reads : Named) → AreRead inputs (sets_read inputs reads)
  are_read [] = tt
  are_read (e ∷ es) = (Perm-refl (rows_read inputs e.0), are_read es)

  pub inputs_mean : (p : Settings) (reads : Named) (ss : List Statement) → IsScript p reads ss → AreTaken inputs ls reads → AllAreOfProfile p (sets_read inputs reads) → script_value (script_for p ls reads ss) inputs ≡ exported_as (meaning p ss (sets_read inputs reads))
  inputs_mean p reads ss script taken ranged =
      script_means p ls reads ss script (sets_read inputs reads) (sets_known reads) (are_sets reads (declared_each_entry reads script.readable.structures) taken) ranged inputs (are_read reads)
