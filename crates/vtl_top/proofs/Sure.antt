-- Each command has one outcome, or for `sql` outcomes of one status; and no files that are held leave one without.
use Rattle.std.proofs.Common.{◌≡◌, ◌⊎◌, inl, inr, ℕ, List, [], ◌∷◌, Option, Some, None, Result, Ok, Err, refl, sym, ap, subst, ◌∙◌}
use Rattle.std.specs.Prelude.{IsUtf8}
use Rattle.vtl_syntax.specs.Trees.{ScriptTree}
use Rattle.vtl_grammar.specs.Faults.{SyntaxFault, WholeScript}
use Rattle.vtl_parser.specs.Parsed.{IsFaulty, IsScript}
use Rattle.vtl_decimal.specs.Settings.{Settings}
use Rattle.vtl_tree.specs.Environment.{Environment}
use Rattle.vtl_tree.specs.NotNull.{NotNull}
use Rattle.vtl_tree.specs.Structures.{Named}
use Rattle.vtl_check.specs.Uses.{reads}
use Rattle.sql_check_parts.specs.Statements.{script_settings}
use Rattle.sql_tree.specs.Texts as sql_texts
use Rattle.vtl_format.specs.Formed.{IsFormed}
use Rattle.vtl_top.specs.Expected.{IsTextOf, Typed, dataset_step, folder_step, form_of, inputs_step, run_step, script_in, script_of, structures_step, text_for, typed_step, wanted_step}
use Rattle.vtl_top.specs.Forms.{asked_step}
use Rattle.vtl_top.specs.Meant.{IsAccepted}
use Rattle.vtl_top.specs.Edits.{Edit}
use Rattle.vtl_top.specs.Replayed.{Stage, begun, replay_step, replayed_step}
use Rattle.vtl_top.specs.ScriptFile.{IsFormatted, IsParsed, IsParsedBy, IsSqlParsed, Parsed, faulty, no_text, whole}
use Rattle.vtl_top.specs.SqlInputs.{inputs_wanted}
use Rattle.vtl_top.specs.SqlRun.{engine_step, sql_checked_step, sql_in, sql_of}
use Rattle.vtl_top.specs.Steps.{Behind, File, Held, Made, Path, Step, Text, ◌>>=◌, as_files, as_text, looked, only_text, read_as, settled, status_of}
use Rattle.vtl_top.specs.Wanted.{Placed, Wanted, all_in, all_wanted_with}
use Rattle.vtl_top.specs.Words.{Command, Engine, Replay, Run, Source, demo, engine, format, lineage, migrate, replay, run, sql, sqlrun}
use Rattle.vtl_status.specs.declared.status.Status.{Status}
use Rattle.vtl_top.proofs.MeantLemmas.{accepted_only}
use Rattle.vtl_top.proofs.ReadScripts.{form_there, formatted_once, parsed_once}
use Rattle.vtl_top.proofs.SqlSteps.{sql_parsed_once}
use Rattle.vtl_top.proofs.SqlTexts.{sql_read_somehow}
use Rattle.vtl_top.proofs.TextsRead.{Read, either_way, read_somehow, then_too, there_is}

-- ---- a step with one outcome, which nothing refutes
pub record Sure {A : Type 0} (step : Step A) : Type 0 where
  pub one : (held : Held) (x y : Result A Status) → step.gives held x → step.gives held y → x ≡ y
  pub there : (held : Held) → ¬ ¬ ((given : Result A Status) × step.gives held given)

settled_sure : {A : Type 0} (given : Result A Status) → Sure (settled given)
settled_sure given = record { one = λ held x y p q. p ∙ sym q; there = λ held. there_is (given, refl) }

looked_sure : {A : Type 0} (found : Held → Result A Status) (path : Path) → Sure (looked found path)
looked_sure found path = record { one = λ held x y p q. p ∙ sym q; there = λ held. there_is (found held, refl) }

read_sure : {A P : Type 0} (Is : P → Type 0) (into : P → Result A Status) → ((x y : P) → Is x → Is y → x ≡ y) → ¬ ¬ ((x : P) × Is x) → Sure (read_as Is into)
read_sure Is into once some = record { one = λ held x y p q. p.2 ∙ ap into (once p.0 q.0 p.1 q.1) ∙ sym q.2; there = λ held. then_too some (λ p. there_is (into p.0, (p.0, p.1, refl))) }

then_sure : {A B : Type 0} (step : Step A) (next : A → Step B) → Sure step → ((x : A) → Sure (next x)) → Sure (step >>= next)
then_sure {A} {B} step next first each = record {
  one = λ held x y p q. by_first held x y p.0 q.0 (first.one held p.0 q.0 p.1 q.1) p.2 q.2;
  there = λ held. then_too (first.there held) (λ p. go held p.0 p.1);
}
  where
    by_first : (held : Held) (x y : Result B Status) (m n : Result A Status) → m ≡ n → Behind m (λ z. (next z).gives held) x → Behind n (λ z. (next z).gives held) y → x ≡ y
    by_first held x y (Ok z) n e p q = (each z).one held x y p (subst (λ (m : Result A Status). Behind m (λ w. (next w).gives held) y) (sym e) q)
    by_first held x y (Err status) n e p q = p ∙ sym (subst (λ (m : Result A Status). Behind m (λ w. (next w).gives held) y) (sym e) q)

    go : (held : Held) (m : Result A Status) → step.gives held m → ¬ ¬ ((given : Result B Status) × (step >>= next).gives held given)
    go held (Ok x) is = then_too ((each x).there held) (λ q. there_is (q.0, (Ok x, is, q.1)))
    go held (Err status) is = there_is (Err status, (Err status, is, refl))

-- ---- the steps
-- bytes are read as something, where each text is a script or has a fault
parsed_somehow : {A : Type 0} (IsOne : Text → A → Type 0) (HasFault : Text → ℕ → ℕ → Type 0) (bytes : Text) → ¬ ¬ (((script : A) × IsOne bytes script) ⊎ ((done : ℕ) × (byte : ℕ) × HasFault bytes done byte))
    → ¬ ¬ ((parsed : Parsed A) × IsParsedBy IsOne HasFault bytes parsed)
parsed_somehow {A} IsOne HasFault bytes read = either_way {X = IsUtf8 bytes} (λ utf8. then_too read (λ r. there_is (by_text utf8 r))) (λ none. there_is (no_text, none))
  where
    by_text : IsUtf8 bytes → ((script : A) × IsOne bytes script) ⊎ ((done : ℕ) × (byte : ℕ) × HasFault bytes done byte) → (parsed : Parsed A) × IsParsedBy IsOne HasFault bytes parsed
    by_text utf8 (inl (script, is)) = (whole script, (utf8, is))
    by_text utf8 (inr (done, byte, is)) = (faulty done byte, (utf8, is))

vtl_read_somehow : (text : Text) → ¬ ¬ (((script : ScriptTree) × IsScript text script) ⊎ ((done : ℕ) × (byte : ℕ) × IsFaulty text done byte))
vtl_read_somehow text = then_too (read_somehow text) (λ r. there_is (by_tokens r r.spelled))
  where
    by_tokens : (r : Read text) → ((script : ScriptTree) × WholeScript r.tokens r.bad script) ⊎ ((done : ℕ) × (byte : ℕ) × SyntaxFault r.tokens r.bad done byte)
        → ((script : ScriptTree) × IsScript text script) ⊎ ((done : ℕ) × (byte : ℕ) × IsFaulty text done byte)
    by_tokens r (inl (script, w)) = inl (script, record { tokens = r.tokens; bad = r.bad; lexed = r.lexed; whole = w })
    by_tokens r (inr (done, byte, f)) = inr (done, byte, record { tokens = r.tokens; bad = r.bad; lexed = r.lexed; fault = f })

script_sure : (path bytes : Text) → Sure (script_of path bytes)
script_sure path bytes = read_sure (IsParsed bytes) (script_in path) (parsed_once bytes) (parsed_somehow IsScript IsFaulty bytes (vtl_read_somehow bytes))

structures_sure : (path : Path) → Sure (structures_step path)
structures_sure path = then_sure _ _ (looked_sure _ _) (λ bytes. settled_sure _)

dataset_sure : (p : Settings) (w : Placed) → Sure (dataset_step p w)
dataset_sure p w = then_sure _ _ (looked_sure _ _) (λ bytes. settled_sure _)

inputs_sure : (p : Settings) (before : Environment) (inputs : List Placed) → Sure (inputs_step p before inputs)
inputs_sure p before [] = settled_sure _
inputs_sure p before (w ∷ rest) = then_sure _ _ (then_sure _ _ (dataset_sure p w) (λ points. settled_sure _)) (λ more. inputs_sure p more rest)

wanted_sure : (folder : Path) (p : Settings) (ws : List Wanted) → Sure (wanted_step folder p ws)
wanted_sure folder p ws = inputs_sure p [] (all_in folder ws)

folder_sure : (folder : Path) (p : Settings) (lists : NotNull) (es : Named) → Sure (folder_step folder p lists es)
folder_sure folder p lists es = wanted_sure folder p (all_wanted_with lists es)

pub typed_sure : (s : Source) → Sure (typed_step s)
typed_sure s =
    then_sure _ _ (then_sure _ _ (looked_sure _ _) (λ bytes. script_sure s.script bytes)) (λ tree.
    then_sure _ _ (structures_sure s.structures) (λ d.
    then_sure _ _ (settled_sure _) (λ nodes.
    settled_sure _)))

pub run_sure : (r : Run) → Sure (run_step r)
run_sure r = then_sure _ _ (typed_sure r.source) (λ t. then_sure _ _ (folder_sure r.input t.settings t.not_null (reads t.structures t.nodes)) (λ env. settled_sure _))

replayed_sure : (t : Typed) (s : Stage) (edits : List Edit) → Sure (replayed_step t s edits)
replayed_sure t s [] = settled_sure _
replayed_sure t s (e ∷ edits) = then_sure _ _ (then_sure _ _ (dataset_sure _ _) (λ points. settled_sure _)) (λ next. replayed_sure t next edits)

replay_sure : (r : Replay) → Sure (replay_step r)
replay_sure r =
    then_sure _ _ (typed_sure r.source) (λ t.
    then_sure _ _ (then_sure _ _ (looked_sure _ _) (λ bytes. settled_sure _)) (λ edits.
    then_sure _ _ (folder_sure r.input t.settings t.not_null (reads t.structures t.nodes)) (λ inputs.
    then_sure _ _ (replayed_sure t (begun t inputs) edits) (λ last.
    settled_sure _))))

formed_somehow : (bytes : Text) → ¬ ¬ (((form : Text) × IsFormed bytes form) ⊎ ((done : ℕ) × (byte : ℕ) × IsFaulty bytes done byte))
formed_somehow bytes = then_too (vtl_read_somehow bytes) by_script
  where
    by_script : ((script : ScriptTree) × IsScript bytes script) ⊎ ((done : ℕ) × (byte : ℕ) × IsFaulty bytes done byte) → ¬ ¬ (((form : Text) × IsFormed bytes form) ⊎ ((done : ℕ) × (byte : ℕ) × IsFaulty bytes done byte))
    by_script (inl (script, is)) = there_is (inl (form_there bytes script is))
    by_script (inr fault) = there_is (inr fault)

form_sure : (path bytes : Text) → Sure (form_of path bytes)
form_sure path bytes = read_sure (IsFormatted bytes) (script_in path) (formatted_once bytes) (parsed_somehow IsFormed IsFaulty bytes (formed_somehow bytes))

text_sure : (step : Step Text) → Sure step → Sure (as_text step)
text_sure step sure = then_sure _ _ sure (λ text. settled_sure _)

sql_sure : (path bytes : Text) → Sure (sql_of path bytes)
sql_sure path bytes = read_sure (IsSqlParsed bytes) (sql_in path) (sql_parsed_once bytes) (parsed_somehow sql_texts.IsScript sql_texts.IsFaulty bytes (sql_read_somehow bytes))

sql_checked_sure : (path : Path) → Sure (sql_checked_step path)
sql_checked_sure path =
    then_sure _ _ (then_sure _ _ (looked_sure _ _) (λ bytes. sql_sure path bytes)) (λ tree.
    then_sure _ _ (settled_sure _) (λ typed.
    settled_sure _))

pub engine_sure : (e : Engine) → Sure (engine_step e)
engine_sure e = then_sure _ _ (sql_checked_sure e.sql) (λ tree. then_sure _ _ (wanted_sure e.input (script_settings tree) (inputs_wanted tree)) (λ env. settled_sure _))

pub files_sure : (step : Step (List File)) → Sure step → Sure (as_files step)
files_sure step sure = then_sure _ _ sure (λ files. settled_sure _)

-- ---- commands
-- the step of each is sure; but that of `sql` may give any text of the script
sure_or_text : (command : Option Command) → Sure (asked_step command) ⊎ ((s : Source) × (command ≡ Some (sql s)))
sure_or_text None = inl (settled_sure _)
sure_or_text (Some (run r)) = inl (files_sure _ (run_sure r))
sure_or_text (Some (sqlrun r)) = inl (files_sure _ (run_sure r))
sure_or_text (Some (sql s)) = inr (s, refl)
sure_or_text (Some (engine e)) = inl (files_sure _ (engine_sure e))
sure_or_text (Some (replay r)) = inl (replay_sure r)
sure_or_text (Some (lineage s)) = inl (text_sure _ (then_sure _ _ (typed_sure s) (λ t. settled_sure _)))
sure_or_text (Some (format path)) = inl (text_sure _ (then_sure _ _ (looked_sure _ _) (λ bytes. form_sure path bytes)))
sure_or_text (Some (migrate m)) = inl (text_sure _ (then_sure _ _ (structures_sure m.structures) (λ d. settled_sure _)))
sure_or_text (Some (demo n)) = inl (settled_sure _)

abbrev pub IsNoText : Option Command → Type 0
IsNoText command = (s : Source) → (command ≡ Some (sql s) → ⊥)

sure_of : (command : Option Command) → IsNoText command → Sure (asked_step command)
sure_of command other = go (sure_or_text command)
  where
    go : Sure (asked_step command) ⊎ ((s : Source) × (command ≡ Some (sql s))) → Sure (asked_step command)
    go (inl sure) = sure
    go (inr (s, is)) = absurd (other s is)

pub determined : (command : Option Command) (held : Held) (given found : Result Made Status) → IsNoText command → (asked_step command).gives held given → (asked_step command).gives held found → given ≡ found
determined command held given found other p q = (sure_of command other).one held given found p q

pub not_without : (command : Option Command) (held : Held) → IsNoText command → ¬ ((given : Result Made Status) → ¬ (asked_step command).gives held given)
not_without command held other none = (sure_of command other).there held (λ p. none p.0 p.1)

-- ---- a text of a script
-- what is made of a value has the status of the step before
made_status : {A : Type 0} (wrap : A → Made) (held : Held) (first : Result A Status) (given : Result Made Status) → Behind first (λ x. (settled (Ok (wrap x))).gives held) given → status_of given ≡ status_of first
made_status wrap held (Ok x) given e = ap status_of e
made_status wrap held (Err status) given e = ap status_of e

text_status : (held : Held) (script : Result Typed Status) (first : Result Text Status) → Behind script (λ t. (text_for t).gives held) first → status_of first ≡ status_of script
text_status held (Ok t) first is = ap status_of is.2
text_status held (Err status) first is = ap status_of is

texts_alike : (s : Source) (held : Held) (x y : Result Made Status) → (asked_step (Some (sql s))).gives held x → (asked_step (Some (sql s))).gives held y → status_of x ≡ status_of y
texts_alike s held x y p q = of_script x p ∙ ap status_of ((typed_sure s).one held p.1.0 q.1.0 p.1.1 q.1.1) ∙ sym (of_script y q)
  where
    of_script : (given : Result Made Status) (is : (asked_step (Some (sql s))).gives held given) → status_of given ≡ status_of is.1.0
    of_script given is = made_status only_text held is.0 given is.2 ∙ text_status held is.1.0 is.0 is.1.2

pub one_status : (command : Option Command) (held : Held) (x y : Result Made Status) → (asked_step command).gives held x → (asked_step command).gives held y → status_of x ≡ status_of y
one_status command held x y p q = go (sure_or_text command)
  where
    go : Sure (asked_step command) ⊎ ((s : Source) × (command ≡ Some (sql s))) → status_of x ≡ status_of y
    go (inl sure) = ap status_of (sure.one held x y p q)
    go (inr (s, is)) = texts_alike s held x y (subst (λ c. (asked_step c).gives held x) is p) (subst (λ c. (asked_step c).gives held y) is q)

-- there is one, where the script has a text
module _ (s : Source) (held : Held) (has : (t : Typed) → IsAccepted s held t → (text : Text) × IsTextOf t text) where
  pub texts_not_without : ¬ ((given : Result Made Status) → ¬ (asked_step (Some (sql s))).gives held given)
  texts_not_without none = (typed_sure s).there held (λ p. by_script p.0 p.1)
    where
      by_script : (script : Result Typed Status) → (typed_step s).gives held script → ⊥
      by_script (Ok t) is = let text = has t (accepted_only s held t is) in none (Ok (only_text text.0)) (Ok text.0, (Ok t, is, (text.0, text.1, refl)), refl)
      by_script (Err status) is = none (Err status) (Err status, (Err status, is, refl), refl)
