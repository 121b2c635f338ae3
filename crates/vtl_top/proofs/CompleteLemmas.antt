-- A call in which nothing failed answers what the held files give, or want of memory.
use Rattle.std.proofs.Common.{◌≡◌, ◌⊎◌, ◌≤◌, inl, inr, ℕ, List, Option, Some, Result, Ok, Err, refl, sym, subst, ◌∙◌, arith}
use Rattle.std.specs.Option.{IfSome}
use Rattle.vtl_files.specs.Outside.{Rose}
use Rattle.vtl_files.specs.declared.files.Files.{Ghosts}
use Rattle.vtl_files.specs.declared.sink.Sink.{Ghosts as Sinks}
use Rattle.vtl_decimal.specs.declared.number.Fault.{Fault}
use Rattle.vtl_top.specs.Answered.{Ends, EndsAs, Gives, GivesOut}
use Rattle.vtl_top.specs.Complete.{IsCalm}
use Rattle.vtl_top.specs.Forms.{asked_step}
use Rattle.vtl_top.specs.Expected.{Typed, fault_status, run_step, text_for, text_step}
use Rattle.vtl_top.specs.Kinds.{Told, absent, done, no_command, no_memory, read_fault, refused, told_by, write_fault}
use Rattle.vtl_top.specs.Meant.{IsAccepted, IsFaulted, IsMeant}
use Rattle.vtl_top.specs.Said.{Says}
use Rattle.vtl_top.specs.Steps.{Behind, File, Held, Made, only_files, only_text, settled, status_of}
use Rattle.vtl_top.specs.Words.{Command, Run, RunsScript, Source, sql}
use Rattle.vtl_status.specs.declared.status.Status.{Status}
use Rattle.vtl_status.specs.declared.status.Status.TheVariants as st
use Rattle.vtl_top.proofs.MeantLemmas.{accepted_always, meant_always}
use Rattle.vtl_top.proofs.RefusedLemmas.{faulted_always}
use Rattle.vtl_top.proofs.Sure.{typed_sure, one_status}

is_done : (status : Status) → told_by status ≡ done → status ≡ st.Done
is_done st.Done e = refl
is_done status e = cc

is_memory : (status : Status) → told_by status ≡ no_memory → status ≡ st.Memory
is_memory st.Memory e = refl
is_memory status e = cc

-- the sink has failed no more often before the line than behind it
line_later : {O : Type 0} (o : Sinks O) (between now : O) (status : Status) → Says o between now status → o.faults between ≤ o.faults now
line_later o between now st.Done e = subst (λ x. o.faults between ≤ o.faults x) (sym e) (omega arith)
line_later o between now status l = l.faults

rose_later : (a b c : ℕ) → b ≤ c → Rose a b → Rose a c
rose_later a b c le r = omega (arith, le, r)

here : {H : Type 0} (o : Option H) (h : H) (P : H → Type 0) → o ≡ Some h → IfSome o P → P h
here o h P e p = subst (λ x. IfSome x P) e p

-- ---- a call in which nothing failed is done, or gives a refusal, or wants memory
module _ {F O : Type 0} (g : Ghosts F) (o : Sinks O) (a b : F) (out between : O) (command : Option Command) (status : Status) (files : ¬ Rose (g.faults a) (g.faults b)) (sink : ¬ Rose (o.faults out) (o.faults between)) (Q : Type 0)
    (is_whole : (made : Made) → status ≡ st.Done → Gives g a (asked_step command) (Ok made) → Q) (is_refused : Gives g a (asked_step command) (Err status) → Q) (wants_memory : status ≡ st.Memory → Q) where
  ended : (kind : Told) → told_by status ≡ kind → EndsAs g o a b out between command status kind → Q
  ended done e w = is_whole w.made (is_done status e) w.given
  ended (write_fault path) e w = by w.gave
    where
      by : GivesOut g o a b out between w.made (write_fault path) → Q
      by (inl x) = absurd (files x.0.1.1.in_call)
      by (inr u) = absurd (sink u.failed)
  ended (read_fault path) e w = absurd (files w.2.1.1.in_call)
  ended (absent path) e w = is_refused w.2.0
  ended refused e w = is_refused w.2
  ended no_command e w = is_refused w.2
  ended no_memory e w = wants_memory (is_memory status e)

-- ---- what a run makes of its files, in either way
abbrev made_from : Result (List File) Status → Result Made Status
made_from (Ok files) = Ok (only_files files)
made_from (Err status) = Err status

run_asked : (command : Command) (r : Run) (held : Held) (given : Result (List File) Status) → RunsScript command r → (run_step r).gives held given → (asked_step (Some command)).gives held (made_from given)
run_asked command r held given runs is = go runs
  where
    behind : (given : Result (List File) Status) → Behind given (λ files. (settled (Ok (only_files files))).gives held) (made_from given)
    behind (Ok files) = refl
    behind (Err status) = refl

    go : RunsScript command r → (asked_step (Some command)).gives held (made_from given)
    go (inl e) = subst (λ (c : Command). (asked_step (Some c)).gives held (made_from given)) (sym e) (given, is, behind given)
    go (inr e) = subst (λ (c : Command). (asked_step (Some c)).gives held (made_from given)) (sym e) (given, is, behind given)

-- the text of a script that is accepted is not refused
text_not_refused : (s : Source) (held : Held) (t : Typed) (status : Status) → IsAccepted s held t → (asked_step (Some (sql s))).gives held (Err status) → ⊥
text_not_refused s held t status is (first, gives, rest) = by_first first gives rest
  where
    by_typing : (other : Status) (m : Result Typed Status) → m ≡ Ok t → Behind m (λ x. (text_for x).gives held) (Err other) → ⊥
    by_typing other (Ok x) e (text, text_of, given) = cc
    by_typing other (Err refusal) e given = cc

    by_first : (first : Result (List ℕ) Status) → (text_step s).gives held first → Behind first (λ text. (settled (Ok (only_text text))).gives held) (Err status) → ⊥
    by_first (Ok text) gives rest = cc
    by_first (Err other) gives rest = by_typing other gives.0 ((typed_sure s).one held gives.0 (Ok t) gives.1 (accepted_always s held t is)) gives.2

module _ {F O : Type 0} (g : Ghosts F) (o : Sinks O) (a b : F) (out now : O) where
  calm_until : (command : Option Command) (status : Status) (ends : Ends g o a b out now command status) → IsCalm g o a b out now → ¬ Rose (o.faults out) (o.faults ends.between)
  calm_until command status ends calm rose = calm.sink (rose_later (o.faults out) (o.faults ends.between) (o.faults now) (line_later o ends.between now status ends.line) rose)

  pub complete : (command : Option Command) (status : Status) (held : Held) (given : Result Made Status) → Ends g o a b out now command status → IsCalm g o a b out now → g.held a ≡ Some held → (asked_step command).gives held given
      → (status ≡ st.Memory) ⊎ (status ≡ status_of given)
  complete command status held given ends calm told gives =
      ended g o a b out ends.between command status calm.files (calm_until command status ends calm) ((status ≡ st.Memory) ⊎ (status ≡ status_of given))
      (λ made e p. inr (e ∙ sym (same (Ok made) p))) (λ p. inr (sym (same (Err status) p))) (λ e. inl e) (told_by status) refl ends.command_ends
    where
      same : (other : Result Made Status) → Gives g a (asked_step command) other → status_of given ≡ status_of other
      same other p = one_status command held given other gives (here (g.held a) held (λ h. (asked_step command).gives h other) told p)

  pub meant_done : (command : Command) (r : Run) (status : Status) (held : Held) (files : List File) → RunsScript command r → Ends g o a b out now (Some command) status → IsCalm g o a b out now → g.held a ≡ Some held → IsMeant r held files
      → (status ≡ st.Memory) ⊎ (status ≡ st.Done)
  meant_done command r status held files runs ends calm told is = complete (Some command) status held (Ok (only_files files)) ends calm told (run_asked command r held (Ok files) runs (meant_always r held files is))

  pub fault_told : (command : Command) (r : Run) (status : Status) (held : Held) (f : Fault) (name : List ℕ) → RunsScript command r → Ends g o a b out now (Some command) status → IsCalm g o a b out now → g.held a ≡ Some held → IsFaulted r held f name
      → (status ≡ st.Memory) ⊎ (status ≡ fault_status f name)
  fault_told command r status held f name runs ends calm told is =
      complete (Some command) status held (Err (fault_status f name)) ends calm told (run_asked command r held (Err (fault_status f name)) runs (faulted_always r held f name is))

  pub text_done : (s : Source) (status : Status) (held : Held) (t : Typed) → Ends g o a b out now (Some (sql s)) status → IsCalm g o a b out now → g.held a ≡ Some held → IsAccepted s held t → (status ≡ st.Memory) ⊎ (status ≡ st.Done)
  text_done s status held t ends calm told is =
      ended g o a b out ends.between (Some (sql s)) status calm.files (calm_until (Some (sql s)) status ends calm) ((status ≡ st.Memory) ⊎ (status ≡ st.Done))
      (λ made e p. inr e) (λ p. absurd (text_not_refused s held t status is (here (g.held a) held (λ h. (asked_step (Some (sql s))).gives h (Err status)) told p))) (λ e. inl e) (told_by status) refl ends.command_ends
