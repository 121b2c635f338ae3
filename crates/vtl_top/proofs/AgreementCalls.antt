-- Two calls, one that runs a script and one of an engine that is given its text in SQL.
use Rattle.std.proofs.Common.{◌≡◌, ◌⊎◌, inl, inr, ℕ, List, [], ◌∷◌, ◌++◌, Option, Some, Result, Ok, Err, refl, sym, ap, subst, ◌∙◌}
use Rattle.std.specs.Option.{IfSome, option_map}
use Rattle.vtl_files.specs.declared.files.Files.{Ghosts}
use Rattle.vtl_files.specs.declared.sink.Sink.{Ghosts as Sinks}
use Rattle.vtl_top.specs.Agreement.{AreSameMade, AreTwins, ComeToSame, EndAlike, IsKept, IsPrinted, WroteSame}
use Rattle.vtl_top.specs.Answered.{Adds, Ends}
use Rattle.vtl_top.specs.Forms.{asked_step}
use Rattle.vtl_top.specs.Complete.{IsCalm}
use Rattle.vtl_top.specs.Steps.{Held, Made, status_of}
use Rattle.vtl_top.specs.Words.{Command, Engine, Run, RunsScript, engine, run, sql}
use Rattle.vtl_status.specs.declared.status.Status.{Status}
use Rattle.vtl_status.specs.declared.status.Status.TheVariants as st
use Rattle.vtl_top.proofs.AgreementWhole.{outcome_there, outcomes_agree}
use Rattle.vtl_top.proofs.CompleteLemmas.{complete}

-- what asks for a run, asks for what `run` does
as_run : (command : Command) (r : Run) (held : Held) (given : Result Made Status) → RunsScript command r → (asked_step (Some command)).gives held given → (asked_step (Some (run r))).gives held given
as_run command r held given (inl e) is = subst (λ (c : Command). (asked_step (Some c)).gives held given) e is
as_run command r held given (inr e) is = subst (λ (c : Command). (asked_step (Some c)).gives held given) e is

of_run : (command : Command) (r : Run) (held : Held) (given : Result Made Status) → RunsScript command r → (asked_step (Some (run r))).gives held given → (asked_step (Some command)).gives held given
of_run command r held given (inl e) is = subst (λ (c : Command). (asked_step (Some c)).gives held given) (sym e) is
of_run command r held given (inr e) is = subst (λ (c : Command). (asked_step (Some c)).gives held given) (sym e) is

over_held : {H : Type 0} (o : Option H) (h : H) (P : H → Type 0) → o ≡ Some h → IfSome o P → P h
over_held o h P e p = subst (λ x. IfSome x P) e p

-- what comes to the same has one status
same_status : {A B : Type 0} (Same : A → B → Type 0) (given : Result A Status) (found : Result B Status) → ComeToSame Same given found → status_of given ≡ status_of found
same_status Same (Ok x) (Ok y) same = refl
same_status Same (Ok x) (Err status) same = absurd same
same_status Same (Err status) (Ok y) same = absurd same
same_status Same (Err status) (Err other) same = same

module _ {F O : Type 0} (g : Ghosts F) (o : Sinks O) (a b c d : F) (u v w x : O) (command : Command) (r : Run) (e : Engine) (held other : Held) (runs : RunsScript command r) (twins : AreTwins r e held other) (first : g.held a ≡ Some held) (second : g.held c ≡ Some other) where
  -- one answers want of memory, or both the same
  pub statuses_agree : (status found : Status) → Ends g o a b u v (Some command) status → Ends g o c d w x (Some (engine e)) found → IsCalm g o a b u v → IsCalm g o c d w x → (status ≡ st.Memory) ⊎ ((found ≡ st.Memory) ⊎ (status ≡ found))
  statuses_agree status found p q calm still =
      let both = outcome_there r e held other twins in
      by both.given both.found (same_status (AreSameMade r.output e.output) both.given both.found both.alike) (complete g o a b u v (Some command) status held both.given p calm first (of_run command r held both.given runs both.of_run))
      (complete g o c d w x (Some (engine e)) found other both.found q still second both.of_engine)
    where
      by : (one two : Result Made Status) → status_of one ≡ status_of two → (status ≡ st.Memory) ⊎ (status ≡ status_of one) → (found ≡ st.Memory) ⊎ (found ≡ status_of two) → (status ≡ st.Memory) ⊎ ((found ≡ st.Memory) ⊎ (status ≡ found))
      by one two same (inl m) k = inl m
      by one two same (inr s) (inl m) = inr (inl m)
      by one two same (inr s) (inr t) = inr (inr (s ∙ same ∙ sym t))

  -- both are done, and wrote the same
  pub files_agree : Ends g o a b u v (Some command) st.Done → Ends g o c d w x (Some (engine e)) st.Done → WroteSame g r.output e.output a b c d
  files_agree p q =
      let one : Made = p.command_ends.made in
      let two : Made = q.command_ends.made in
      let same : AreSameMade r.output e.output one two =
      outcomes_agree r e held other twins (Ok one) (Ok two)
      (as_run command r held (Ok one) runs (over_held (g.held a) held (λ h. (asked_step (Some command)).gives h (Ok one)) first p.command_ends.given))
      (over_held (g.held c) other (λ h. (asked_step (Some (engine e))).gives h (Ok two)) second q.command_ends.given) in
      record {
        files = same.made.files;
        first = subst (λ files. Adds (g.written a) (g.written b) files) same.made.in_first p.command_ends.gave.0.0;
        second = subst (λ files. Adds (g.written c) (g.written d) files) same.made.in_second q.command_ends.gave.0.0;
      }

  pub calls_agree : (status found : Status) → Ends g o a b u v (Some command) status → Ends g o c d w x (Some (engine e)) found → IsCalm g o a b u v → IsCalm g o c d w x → EndAlike g r.output e.output a b c d status found
  calls_agree status found p q calm still = record {
    answers = statuses_agree status found p q calm still;
    wrote = λ m n. files_agree (subst (λ (s : Status). Ends g o a b u v (Some command) s) m p) (subst (λ (s : Status). Ends g o c d w x (Some (engine e)) s) n q);
  }

-- ---- what a call of `sql` printed
same_behind : (xs ys zs : List ℕ) → xs ++ ys ≡ xs ++ zs → ys ≡ zs
same_behind [] ys zs e = e
same_behind (x ∷ xs) ys zs e = let tails : xs ++ ys ≡ xs ++ zs = cc in same_behind xs ys zs tails

some_same : (xs ys : List ℕ) → Some xs ≡ Some ys → xs ≡ ys
some_same xs ys e = cc

pub kept_is_printed : {F O : Type 0} (g : Ghosts F) (o : Sinks O) (s t : F) (k l : O) (r : Run) (e : Engine) (held other : Held) → Ends g o s t k l (Some (sql r.source)) st.Done → g.held s ≡ Some held → IsKept o k l r e held other → IsPrinted r e held other
kept_is_printed g o s t k l r e held other ends told kept =
    let made : Made = ends.command_ends.made in
    let whole : Some (kept.heard ++ kept.text) ≡ Some (kept.heard ++ made.text) =
    sym kept.gained ∙ ap o.taken ends.line ∙ ends.command_ends.gave.1.taken ∙ ap (option_map (λ (taken : List ℕ). taken ++ made.text)) kept.taken in
    let same = same_behind kept.heard kept.text made.text (some_same (kept.heard ++ kept.text) (kept.heard ++ made.text) whole) in
    record {
      made = made;
      printed = over_held (g.held s) held (λ h. (asked_step (Some (sql r.source))).gives h (Ok made)) told ends.command_ends.given;
      sql_file = kept.sql_file ∙ ap Some same;
      input = kept.input;
      same = kept.same;
    }
