-- What commands make, by its parts.
use Rattle.std.proofs.Common.{◌≡◌, inl, ℕ, List, [], map, Some, Result, Ok, Err, sym, ap, subst, ◌∙◌}
use Rattle.std.specs.Global.{Vec}
use Rattle.std.specs.Prelude.{IfOk}
use Rattle.vtl_files.specs.declared.files.Files.{Ghosts}
use Rattle.vtl_check.specs.Checked.{TypedScript, nodes_of}
use Rattle.vtl_demo.specs.DataSets.{declared as sets}
use Rattle.vtl_decimal.specs.Settings.{Settings}
use Rattle.vtl_syntax.specs.Trees.{ScriptTree}
use Rattle.vtl_tree.specs.NotNull.{NotNull}
use Rattle.vtl_tree.specs.Structures.{Named}
use Rattle.vtl_demo.specs.Script as script
use Rattle.vtl_demo.specs.Typed as demo
use Rattle.vtl_top.specs.Answered.{Takes}
use Rattle.vtl_top.specs.Expected.{typed_by}
use Rattle.vtl_top.specs.Forms.{asked_step, demonstration}
use Rattle.vtl_top.specs.Informed.{IsToldOf, typed_view}
use Rattle.vtl_top.specs.MadeView.{IsMade, Names, made_view}
use Rattle.vtl_top.specs.OutputView.{output_view, outputs_view}
use Rattle.vtl_top.specs.Refusal.{SettlesBy}
use Rattle.vtl_top.specs.Steps.{File, Made}
use Rattle.vtl_top.specs.Words.{Command}
use Rattle.vtl_top.specs.declared.made.Made.{Made as Program}
use Rattle.vtl_top.specs.declared.output.Output.{Output}
use Rattle.vtl_status.specs.declared.status.Status.{Status}

abbrev made_by : List File → List ℕ → Made
made_by files text = record { files = files; text = text }

module _ (outputs : Vec Output) (text : Vec ℕ) where
  same_made : (m : Program) (files : List File) (bytes : List ℕ) → m.outputs ≡ outputs → m.text ≡ text → outputs_view outputs ≡ files → text.items ≡ bytes → made_by files bytes ≡ made_view m
  same_made m files bytes p q e f = sym (ap (λ (x : Vec Output). made_by (outputs_view x) m.text.items) p ∙ ap (λ (x : List ℕ). made_by (outputs_view outputs) x) (ap (λ (v : Vec ℕ). v.items) q ∙ f) ∙ ap (λ (x : List File). made_by x bytes) e)

  pub settles : (files : List File) (bytes : List ℕ) (result : Result Program Status) → IsMade outputs text result → outputs_view outputs ≡ files → text.items ≡ bytes → SettlesBy made_view (Ok (record { files = files; text = bytes })) result
  settles files bytes (Ok m) is e f = ap Ok (same_made m files bytes is.0 is.1 e f)
  settles files bytes (Err status) is e f = inl is

  pub are_named : (result : Result Program Status) → IsMade outputs text result → IfOk result Names
  are_named (Ok m) is = is.2
  are_named (Err status) is = tt

  pub no_text_made : (result : Result Program Status) → IsMade outputs text result → text.items ≡ [] → IfOk result (λ m. m.text.items ≡ [])
  no_text_made (Ok m) is e = ap (λ (v : Vec ℕ). v.items) is.1 ∙ e
  no_text_made (Err status) is e = tt

  pub no_files_made : (result : Result Program Status) → IsMade outputs text result → outputs.items ≡ [] → IfOk result (λ m. outputs_view m.outputs ≡ [])
  no_files_made (Ok m) is e = ap outputs_view is.0 ∙ ap (map output_view) e
  no_files_made (Err status) is e = tt

-- what one command takes, the same one takes
pub of_command : {F : Type 0} (g : Ghosts F) (before now : F) (c d : Command) (result : Result Program Status) → Takes g before now (asked_step (Some c)) made_view result → c ≡ d → Takes g before now (asked_step (Some d)) made_view result
of_command g before now c d result t e = subst (λ (k : Command). Takes g before now (asked_step (Some k)) made_view result) e t

-- ---- the demonstration
demonstration_viewed : (t : TypedScript) → demo.IsDemonstration t → typed_view t ≡ demonstration
demonstration_viewed t is =
    ap (λ (tree : ScriptTree). typed_by tree (record { sets = t.declared; not_null = t.not_null }) t.settings (nodes_of t)) is.spells
    ∙ ap (λ (xs : Named). typed_by script.tree (record { sets = xs; not_null = t.not_null }) t.settings (nodes_of t)) is.over
    ∙ ap (λ (ls : NotNull). typed_by script.tree (record { sets = sets; not_null = ls }) t.settings (nodes_of t)) is.lists
    ∙ ap (λ (p : Settings). typed_by script.tree (record { sets = sets; not_null = [] }) p (nodes_of t)) is.by
    ∙ ap (λ nodes. typed_by script.tree (record { sets = sets; not_null = [] }) script.settings nodes) is.gives

pub told_of_demonstration : (told : TypedScript → Type 0) → demo.IsToldOf told → IsToldOf demonstration told
told_of_demonstration told is = record { script = is.script; same = demonstration_viewed is.script is.demonstration; told_of = is.told_of }
