-- What a call hands to the sink.
use Rattle.std.proofs.Common.{◌≡◌, ◌≤◌, inl, inr, List, [], ℕ, Option, Some, None, Ok, refl, sym, ap, subst, ◌∙◌}
use Rattle.std.proofs.lemmas.List.{append-nil}
use Rattle.vtl_files.specs.Outside.{Rose, TakesAll}
use Rattle.vtl_files.specs.Whole.{TakesFront}
use Rattle.vtl_files.specs.declared.sink.Sink.{Ghosts}
use Rattle.vtl_files.specs.declared.files.Files.{Ghosts as Store}
use Rattle.vtl_status.specs.StatusLine.{line_of}
use Rattle.vtl_status.specs.declared.status.Status.{Status}
use Rattle.vtl_status.specs.declared.status.Status.TheVariants as st
use Rattle.std.specs.Option.{IfSome}
use Rattle.vtl_csv.proofs.InputPointLemmas.{ok_same}
use Rattle.vtl_demo.specs.Said.{said}
use Rattle.vtl_top.specs.Answered.{Adds, Ends}
use Rattle.vtl_top.specs.Forms.{IsMadeBy, asked_step}
use Rattle.vtl_top.specs.Said.{Hears, Says}
use Rattle.vtl_top.specs.Expected.{format_step}
use Rattle.vtl_top.specs.Migrated.{IsMigrated, migrate_step}
use Rattle.vtl_top.specs.Meant.{IsFormMeant}
use Rattle.vtl_top.specs.Steps.{Held, Made, Path, only_text, settled}
use Rattle.vtl_top.specs.Words.{Command, Engine, Migration, Run, RunsScript, demo, engine, format, migrate}
use Rattle.vtl_top.proofs.MeantLemmas.{form_only, migrated_only, went_on}

taken_nothing : (t : Option (List ℕ)) → TakesAll t t []
taken_nothing None = refl
taken_nothing (Some t) = ap Some (sym (append-nil t))

pub hears_nothing : {S : Type 0} (g : Ghosts S) (s : S) (text : List ℕ) → text ≡ [] → Hears g s s text
hears_nothing g s text e = record { taken = subst (λ t. TakesAll (g.taken s) (g.taken s) t) (sym e) (taken_nothing (g.taken s)); silent = λ n. refl }

-- no line of a status but that of Done is empty
pub says_line : {S : Type 0} (g : Ghosts S) (between now : S) (status : Status) → (status ≡ st.Done → ⊥) → TakesFront (g.taken between) (g.taken now) (line_of status)
    → (¬ Rose (g.faults between) (g.faults now) → TakesAll (g.taken between) (g.taken now) (line_of status)) → g.faults between ≤ g.faults now → Says g between now status
says_line g between now st.Done n front whole faults = absurd (n refl)
says_line g between now status n front whole faults = record { front = front; whole = whole; faults = faults }

pub says_nothing : {S : Type 0} (g : Ghosts S) (s : S) (status : Status) → status ≡ st.Done → Says g s s status
says_nothing g s status e = subst (λ (x : Status). Says g s s x) (sym e) refl

-- a run that is done has no text, and so says nothing
made_quietly : (command : Command) (r : Run) (made : Made) → RunsScript command r → IsMadeBy (Some command) made → made.text ≡ []
made_quietly command r made (inl e) shape = subst (λ (c : Command). IsMadeBy (Some c) made) e shape
made_quietly command r made (inr e) shape = subst (λ (c : Command). IsMadeBy (Some c) made) e shape

pub run_is_quiet : {F S : Type 0} (g : Store F) (o : Ghosts S) (a b : F) (out now : S) (command : Command) (r : Run) → RunsScript command r → Ends g o a b out now (Some command) st.Done → now ≡ out
run_is_quiet g o a b out now command r runs ends = ends.line ∙ ends.command_ends.gave.1.silent (made_quietly command r ends.command_ends.made runs ends.command_ends.shape)

pub engine_is_quiet : {F S : Type 0} (g : Store F) (o : Ghosts S) (a b : F) (out now : S) (e : Engine) → Ends g o a b out now (Some (engine e)) st.Done → now ≡ out
engine_is_quiet g o a b out now e ends = ends.line ∙ ends.command_ends.gave.1.silent ends.command_ends.shape

pub demo_is_said : {F S : Type 0} (g : Store F) (o : Ghosts S) (a b : F) (out now : S) (n : ℕ) (held : Held) → g.held a ≡ Some held → Ends g o a b out now (Some (demo n)) st.Done → Adds (g.written a) (g.written b) [] × Hears o out now (said n)
demo_is_said g o a b out now n held told ends =
    let made = ends.command_ends.made in
    let given : (asked_step (Some (demo n))).gives held (Ok made) = subst (λ (h : Option Held). IfSome h (λ held. (asked_step (Some (demo n))).gives held (Ok made))) told ends.command_ends.given in
    let same : made ≡ only_text (said n) = ok_same given in (
      subst (λ (m : Made). Adds (g.written a) (g.written b) m.files) same ends.command_ends.gave.0.0,
      subst (λ s. Hears o out s (said n)) (sym ends.line) (subst (λ (m : Made). Hears o out ends.between m.text) same ends.command_ends.gave.1),
    )

-- what `format` says is the canonical text of the held script
pub form_is_said : {F S : Type 0} (g : Store F) (o : Ghosts S) (a b : F) (out now : S) (path : Path) (held : Held) → g.held a ≡ Some held → Ends g o a b out now (Some (format path)) st.Done
    → (form : List ℕ) × IsFormMeant path held form × Adds (g.written a) (g.written b) [] × Hears o out now form
form_is_said g o a b out now path held told ends =
    let made = ends.command_ends.made in
    let given : (asked_step (Some (format path))).gives held (Ok made) = subst (λ (h : Option Held). IfSome h (λ held. (asked_step (Some (format path))).gives held (Ok made))) told ends.command_ends.given in
    let went = went_on (format_step path) (λ text. settled (Ok (only_text text))) held made given in
    let same : made ≡ only_text went.0 = ok_same went.2 in (
      went.0,
      form_only path held went.0 went.1,
      subst (λ (m : Made). Adds (g.written a) (g.written b) m.files) same ends.command_ends.gave.0.0,
      subst (λ s. Hears o out s went.0) (sym ends.line) (subst (λ (m : Made). Hears o out ends.between m.text) same ends.command_ends.gave.1),
    )

-- what `migrate` says is the text of version 2 of the held structures file
pub migration_is_said : {F S : Type 0} (g : Store F) (o : Ghosts S) (a b : F) (out now : S) (m : Migration) (held : Held) → g.held a ≡ Some held → Ends g o a b out now (Some (migrate m)) st.Done
    → (text : List ℕ) × IsMigrated m held text × Adds (g.written a) (g.written b) [] × Hears o out now text
migration_is_said g o a b out now m held told ends =
    let made = ends.command_ends.made in
    let given : (asked_step (Some (migrate m))).gives held (Ok made) = subst (λ (h : Option Held). IfSome h (λ held. (asked_step (Some (migrate m))).gives held (Ok made))) told ends.command_ends.given in
    let went = went_on (migrate_step m) (λ text. settled (Ok (only_text text))) held made given in
    let same : made ≡ only_text went.0 = ok_same went.2 in (
      went.0,
      migrated_only m held went.0 went.1,
      subst (λ (x : Made). Adds (g.written a) (g.written b) x.files) same ends.command_ends.gave.0.0,
      subst (λ s. Hears o out s went.0) (sym ends.line) (subst (λ (x : Made). Hears o out ends.between x.text) same ends.command_ends.gave.1),
    )
