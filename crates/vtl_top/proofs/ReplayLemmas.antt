-- Inputs that are replaced, refreshes, and what is made of the last one.
use Rattle.std.proofs.Common.{◌≡◌, ◌++◌, ℕ, Bool, true, false, cond, List, [], ◌∷◌, map, Option, Some, None, is_some, Result, Ok, Err, refl, sym, ap, subst, ◌∙◌}
use Rattle.std.specs.Cmp.Lexicographic.{bytes_decides, nat_list_eq_equiv}
use Rattle.std.specs.Global.{Vec}
use Rattle.std.specs.List.{AllByRecursion}
use Rattle.std.specs.Map.{lookup, set_value}
use Rattle.std.specs.Option.{IsSome, option_map_or}
use Rattle.std.specs.Result.{IfOk, OnOk}
use Rattle.std.proofs.lemmas.Map.{lookup-set_value}
use Rattle.vtl_decimal.specs.declared.number.Fault.{Fault}
use Rattle.vtl_rows.specs.Named.{NamedTables, table_of}
use Rattle.vtl_rows.specs.Tables.{Listed}
use Rattle.vtl_rows.proofs.NamedLemmas.{lookup_is}
use Rattle.vtl_scripts.specs.Meaning.{Outputs}
use Rattle.vtl_tree.specs.Environment.{Environment}
use Rattle.vtl_tree.specs.Structure.{same_name}
use Rattle.vtl_tree.specs.Structures.{Named}
use Rattle.vtl_tree.specs.declared.structure.Structure.{Structure}
use Rattle.vtl_check.specs.Checked.{IsTyped, TypedScript, known_of}
use Rattle.vtl_check.specs.Transformations.{Transformation}
use Rattle.vtl_backend.specs.Inputs.{AreInputs, Holds, environment_of, input_of, inputs_of}
use Rattle.vtl_backend.specs.Runs.{script_meaning}
use Rattle.rerun_laws.specs.Refreshes.{Refresh, faulted, fresh_behind, fresh_without, ran, refresh_told, stale}
use Rattle.vtl_rerun.specs.Kept.{HasOutputs, IsOfStructure, Kept, Lends, meaning_now, transformations_of}
use Rattle.vtl_top.specs.EditsView.{stage_of}
use Rattle.vtl_top.specs.Expected.{data_set, outputs_of}
use Rattle.vtl_top.specs.Informed.{typed_view}
use Rattle.vtl_top.specs.Replayed.{Stage, refresh_line, refreshed, replaced, with_new_points}
use Rattle.vtl_top.specs.ResultTables.{AreKnown, file_for}
use Rattle.vtl_top.specs.OutputView.{outputs_view}
use Rattle.vtl_top.specs.Steps.{File, Path, Text}
use Rattle.vtl_top.specs.declared.output.Output.{Output}
use Rattle.vtl_status.specs.declared.status.Status.{Status}
use Rattle.vtl_top.proofs.ResultLemmas.{results_shown}

-- ---- an input that is replaced
module _ (name : List ℕ) (tables : NamedTables) (table : Listed) (there : IsSome (lookup (same_name name) tables)) where
  abbrev now : NamedTables
  now = set_value (same_name name) tables table

  table_now : (q : List ℕ) → table_of q now ≡ cond (same_name name q) (Some table) (table_of q tables)
  table_now q =
      sym (lookup_is q now) ∙ lookup-set_value nat_list_eq_equiv (same_name name) (nat_list_eq_equiv.congr name) q table tables there
      ∙ ap (cond (same_name name q) (Some table)) (lookup_is q tables)

  input_now : (e : List ℕ × Structure) → input_of now e ≡ with_new_points name table.rows (input_of tables e)
  input_now e = ap (λ o. (e.0, data_set e.1 (option_map_or (λ t. t.rows) o []))) (table_now e.0) ∙ by_name (same_name name e.0)
    where
      by_name : (b : Bool) → (e.0, data_set e.1 (option_map_or (λ t. t.rows) (cond b (Some table) (table_of e.0 tables)) [])) ≡ cond b (e.0, data_set e.1 table.rows) (input_of tables e)
      by_name true = refl
      by_name false = refl

  pub inputs_now : (es : Named) → map (input_of now) es ≡ map (with_new_points name table.rows) (map (input_of tables) es)
  inputs_now [] = refl
  inputs_now (e ∷ es) = ap (λ x. x ∷ map (input_of now) es) (input_now e) ∙ ap (λ xs. with_new_points name table.rows (input_of tables e) ∷ xs) (inputs_now es)

-- there is a table of each input
is_held : (s : Structure) (name : List ℕ) (tables : NamedTables) → Holds s (table_of name tables) → IsSome (lookup (same_name name) tables)
is_held s name tables h = ap is_some (lookup_is name tables) ∙ go (table_of name tables) h
  where
    go : (o : Option Listed) → Holds s o → is_some o ≡ true
    go None h = absurd h
    go (Some t) h = refl

held_there : (name : List ℕ) (tables : NamedTables) (table : Listed) (es : Named) → AllByRecursion (λ e. Holds e.1 (table_of e.0 tables)) es → IsOfStructure (lookup (same_name name) es) table → IsSome (lookup (same_name name) tables)
held_there name tables table [] all is = absurd is
held_there name tables table (e ∷ es) all is = go (same_name name e.0) refl is (held_there name tables table es all.1)
  where
    go : (b : Bool) → same_name name e.0 ≡ b → IsOfStructure (cond b (Some e.1) (lookup (same_name name) es)) table → (IsOfStructure (lookup (same_name name) es) table → IsSome (lookup (same_name name) tables)) → IsSome (lookup (same_name name) tables)
    go true q is later = is_held e.1 name tables (subst (λ n. Holds e.1 (table_of n tables)) (sym ((bytes_decides name e.0).0 q)) all.0)
    go false q is later = later is

-- a stage by its parts
abbrev stage_by : TypedScript → NamedTables → List ℕ → Text → Stage
stage_by t inputs fresh said = record { inputs = environment_of t inputs; fresh = fresh; said = said }

abbrev stage_over : Environment → List ℕ → Text → Stage
stage_over inputs fresh said = record { inputs = inputs; fresh = fresh; said = said }

-- how a session is replaced
pub stage_replaced : (old new : Kept) (said : Text) (name : List ℕ) (table : Listed) → new.script ≡ old.script → new.inputs ≡ set_value (same_name name) old.inputs table → new.fresh ≡ fresh_without name old.script old.fresh
    → IsOfStructure (lookup (same_name name) (inputs_of old.script)) table → AreInputs old.script old.inputs → stage_of new said ≡ replaced (typed_view old.script) name table.rows (stage_of old said)
stage_replaced old new said name table p q r is are =
    let fresh = fresh_without name old.script old.fresh in
    ap (λ s. stage_by s new.inputs new.fresh said) p
    ∙ ap (λ i. stage_by old.script i new.fresh said) q
    ∙ ap (λ f. stage_by old.script (set_value (same_name name) old.inputs table) f said) r
    ∙ ap (λ es. stage_over es fresh said) (inputs_now name old.inputs table (held_there name old.inputs table (inputs_of old.script) are is) (inputs_of old.script))

-- what follows on a state follows on an equal one
pub moved_on : {T E A S : Type 0} (r : Result T E) (f : A → S → S) (a b : A) (s before last : S) → a ≡ b → s ≡ before → OnOk r (last ≡ f a s) → OnOk r (last ≡ f b before)
moved_on r f a b s before last p q h = subst (λ x. OnOk r (last ≡ f b x)) q (subst (λ x. OnOk r (last ≡ f x s)) p h)

-- ---- a refresh
pub told_ran : (ts : List Transformation) (fresh numbers : List ℕ) (m : Result Outputs (Fault × List ℕ)) → HasOutputs m → numbers ≡ stale fresh ts → refresh_told ts fresh m ≡ ran numbers
told_ran ts fresh numbers (Ok outputs) h e = ap ran (sym e)
told_ran ts fresh numbers (Err fault) h e = absurd h

pub told_faulted : (ts : List Transformation) (fresh : List ℕ) (m : Result Outputs (Fault × List ℕ)) (fault : Fault × List ℕ) → m ≡ Err fault → refresh_told ts fresh m ≡ faulted
told_faulted ts fresh m fault e = ap (refresh_told ts fresh) e

pub stage_refreshed : (old new : Kept) (before after : Text) (told : Refresh) → new.script ≡ old.script → new.inputs ≡ old.inputs → new.fresh ≡ fresh_behind (transformations_of old) old.fresh (meaning_now old)
    → after ≡ before ++ refresh_line told → refresh_told (transformations_of old) old.fresh (meaning_now old) ≡ told → stage_of new after ≡ refreshed (typed_view old.script) (stage_of old before)
stage_refreshed old new before after told p q r e is =
    let fresh = fresh_behind (transformations_of old) old.fresh (meaning_now old) in
    ap (λ s. stage_by s new.inputs new.fresh after) p
    ∙ ap (λ i. stage_by old.script i new.fresh after) q
    ∙ ap (λ f. stage_by old.script old.inputs f after) r
    ∙ ap (λ x. stage_by old.script old.inputs fresh x) (e ∙ ap (λ x. before ++ refresh_line x) (sym is))

-- the meaning of a session is that of its script and inputs
pub same_meaning : (old new : Kept) (m : Result Outputs (Fault × List ℕ)) → new.script ≡ old.script → new.inputs ≡ old.inputs → meaning_now old ≡ m → meaning_now new ≡ m
same_meaning old new m p q e = ap (λ s. script_meaning s new.inputs) p ∙ ap (λ i. script_meaning old.script i) q ∙ e

-- ---- the outputs behind the last refresh
pub last_shown : (folder : Path) (k : Kept) (t : TypedScript) (tables : NamedTables) → t ≡ k.script → IsTyped t → Lends k (Some tables)
    → AreKnown (known_of t) tables × (outputs_of folder k.script.settings (meaning_now k) ≡ Ok (map (file_for folder t.settings (known_of t)) tables))
last_shown folder k t tables same typed lends =
    let shows = lends.2 in
    let here = results_shown folder k.script k.inputs tables (subst IsTyped same typed) shows in
    (subst (λ s. AreKnown (known_of s) tables) (sym same) here.0, here.1 ∙ ap (λ s. Ok (map (file_for folder s.settings (known_of s)) tables)) (sym same))

pub last_made : {E : Type 0} (r : Result (Vec Output) E) (wanted : Result (List File) Status) (files : List File) → wanted ≡ Ok files → IfOk r (λ o. outputs_view o ≡ files) → IfOk r (λ o. wanted ≡ Ok (outputs_view o))
last_made (Ok o) wanted files e is = e ∙ ap Ok (sym is)
last_made (Err x) wanted files e is = tt
