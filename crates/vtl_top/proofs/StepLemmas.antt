-- Steps one after the other, and how a call that takes them ends.
use Rattle.std.proofs.Common.{◌≡◌, ◌≤◌, inl, inr, ℕ, false, List, Option, Some, None, Result, Ok, Err, refl, sym, ◌∙◌, subst, arith}
use Rattle.std.specs.Option.{IfSome}
use Rattle.vtl_files.specs.Outside.{Rose}
use Rattle.vtl_files.specs.declared.files.Files.{Ghosts}
use Rattle.vtl_status.specs.declared.status.Status.{Status}
use Rattle.vtl_status.specs.declared.status.Status.TheVariants as st
use Rattle.vtl_top.specs.Kinds.{Told, done, no_command, refused, absent, read_fault, write_fault, no_memory, told_by}
use Rattle.vtl_top.specs.Steps.{File, Made, Step, ◌>>=◌, status_of}
use Rattle.vtl_files.specs.declared.sink.Sink.{Ghosts as Sinks}
use Rattle.vtl_check.specs.Checked.{TypedScript}
use Rattle.vtl_top.specs.Answered.{Adds, AddsUpTo, Came, EndsAs, Faulted, Gives, GivesOut, Misses, OnlyReads, Stops, Takes, Unsaid, WritesAs}
use Rattle.vtl_top.specs.Expected.{Typed}
use Rattle.vtl_top.specs.Forms.{IsMadeBy, Tells, asked_step, form_of, of_itself, of_step, silent}
use Rattle.vtl_top.specs.Informed.{HasRun, Informed, Informs, IsTold, TellsRun, typed_view}
use Rattle.vtl_top.specs.Words.{Command}

pub rose_before : (a b c : ℕ) → a ≤ b → Rose b c → Rose a c
rose_before a b c le rose = omega (arith, le, rose)

pub if_some_map : {H : Type 0} (o : Option H) (P Q : H → Type 0) → ((h : H) → P h → Q h) → IfSome o P → IfSome o Q
if_some_map None P Q f p = tt
if_some_map (Some h) P Q f p = f h p

if_some_both : {H : Type 0} (o : Option H) (P R Q : H → Type 0) → ((h : H) → P h → R h → Q h) → IfSome o P → IfSome o R → IfSome o Q
if_some_both None P R Q f p r = tt
if_some_both (Some h) P R Q f p r = f h p r

pub only_reads_twice : {F : Type 0} (g : Ghosts F) (a b c : F) → OnlyReads g a b → OnlyReads g b c → OnlyReads g a c
only_reads_twice g a b c r s = record {
  held = s.held ∙ r.held;
  written = s.written ∙ r.written;
  misuses = s.misuses ∙ r.misuses;
  creating = s.creating ∙ r.creating;
  faults = omega (arith, r.faults, s.faults);
  absences = omega (arith, r.absences, s.absences);
}

pub nothing_read : {F : Type 0} (g : Ghosts F) (a : F) → OnlyReads g a a
nothing_read g a = record { held = refl; written = refl; misuses = refl; creating = refl; faults = omega arith; absences = omega arith }

earlier_fault : {F : Type 0} (g : Ghosts F) (a b c : F) (path : List ℕ) → g.faults a ≤ g.faults b → Faulted g b c path → Faulted g a c path
earlier_fault g a b c path le f = (f.0, record { in_call = rose_before _ _ _ le f.1.in_call; since_mark = f.1.since_mark; at_path = f.1.at_path })

-- behind what missed nothing
misses_later : {F : Type 0} (g : Ghosts F) (a b c : F) (told : Told) → g.absences b ≡ g.absences a → Misses g b c told → Misses g a c told
misses_later g a b c done e m = m ∙ e
misses_later g a b c no_command e m = m ∙ e
misses_later g a b c refused e m = m ∙ e
misses_later g a b c no_memory e m = m ∙ e
misses_later g a b c (read_fault path) e m = m ∙ e
misses_later g a b c (write_fault path) e m = m ∙ e
misses_later g a b c (absent path) e m = subst (λ n. Rose n (g.absences c)) e m

-- where nothing was opened, and the status is this one
pub misses_none : {F : Type 0} (g : Ghosts F) (a : F) (status wanted : Status) → status ≡ wanted → Misses g a a (told_by wanted) → Misses g a a (told_by status)
misses_none g a status wanted e m = subst (λ (s : Status). Misses g a a (told_by s)) (sym e) m

module _ {F A B : Type 0} (g : Ghosts F) (step : Step A) (next : A → Step B) where
  -- ---- the first step gave a value
  module _ (a b c : F) (r : OnlyReads g a b) (x : A) (first : Gives g a step (Ok x)) where
    then_gives : (given : Result B Status) → Gives g b (next x) given → Gives g a (step >>= next) given
    then_gives given rest =
        if_some_both (g.held a) (λ held. step.gives held (Ok x)) (λ held. (next x).gives held given) (λ held. (step >>= next).gives held given)
        (λ held p q. (Ok x, p, q)) first (subst (λ h. IfSome h (λ held. (next x).gives held given)) r.held rest)

    then_reads : (path : List ℕ) → IfSome (g.held b) (λ held. (next x).reads held path) → IfSome (g.held a) (λ held. (step >>= next).reads held path)
    then_reads path rest =
        if_some_both (g.held a) (λ held. step.gives held (Ok x)) (λ held. (next x).reads held path) (λ held. (step >>= next).reads held path)
        (λ held p q. inr (x, p, q)) first (subst (λ h. IfSome h (λ held. (next x).reads held path)) r.held rest)

    then_stops : (status : Status) (told : Told) → Stops g b c (next x) status told → Stops g a c (step >>= next) status told
    then_stops status done s = s
    then_stops status no_command s = s
    then_stops status (write_fault path) s = s
    then_stops status (read_fault path) s = (then_reads path s.0, earlier_fault g a b c path r.faults s.1)
    then_stops status (absent path) s = (then_gives (Err status) s.0, (s.1.0, rose_before _ _ _ r.absences s.1.1))
    then_stops status refused s = then_gives (Err status) s
    then_stops status no_memory s = s

    then_came : {Y : Type 0} (into : Y → B) (result : Result Y Status) → Came g b c (next x) into result → Came g a c (step >>= next) into result
    then_came into (Ok y) s = then_gives (Ok (into y)) s
    then_came into (Err status) s = then_stops status (told_by status) s

  pub takes_onward : {X Y : Type 0} (a b c : F) (view : X → A) (into : Y → B) (x : X) (result : Result Y Status) → Takes g a b step view (Ok x) → Takes g b c (next (view x)) into result → Takes g a c (step >>= next) into result
  takes_onward a b c view into x result first second = record {
    reads = only_reads_twice g a b c first.reads second.reads;
    came = then_came a b c first.reads (view x) first.came into result second.came;
    misses = misses_later g a b c (told_by (status_of result)) first.misses second.misses;
  }

  -- ---- the first step gave none
  refusal_stays : (a : F) (status : Status) → Gives g a step (Err status) → Gives g a (step >>= next) (Err status)
  refusal_stays a status = if_some_map (g.held a) (λ held. step.gives held (Err status)) (λ held. (step >>= next).gives held (Err status)) (λ held p. (Err status, p, refl))

  stays_stopped : (a b : F) (status : Status) (told : Told) → Stops g a b step status told → Stops g a b (step >>= next) status told
  stays_stopped a b status done s = s
  stays_stopped a b status no_command s = s
  stays_stopped a b status (write_fault path) s = s
  stays_stopped a b status (read_fault path) s = (if_some_map (g.held a) (λ held. step.reads held path) (λ held. (step >>= next).reads held path) (λ held p. inl p) s.0, s.1)
  stays_stopped a b status (absent path) s = (refusal_stays a status s.0, s.1)
  stays_stopped a b status refused s = refusal_stays a status s
  stays_stopped a b status no_memory s = s

  pub takes_stopped : {X Y : Type 0} (a b : F) (view : X → A) (into : Y → B) (status : Status) → Takes g a b step view (Err status) → Takes g a b (step >>= next) into (Err status)
  takes_stopped a b view into status first = record { reads = first.reads; came = stays_stopped a b status (told_by status) first.came; misses = first.misses }

-- ---- how a command ends
module _ {F O : Type 0} (g : Ghosts F) (o : Sinks O) (a b : F) (out : O) (command : Option Command) (idle : g.creating a ≡ false) where
  ends_stopped : (status : Status) (told : Told) → OnlyReads g a b → Stops g a b (asked_step command) status told → EndsAs g o a b out out command status told
  ends_stopped status done r s = absurd s
  ends_stopped status no_command r s = absurd s
  ends_stopped status (write_fault path) r s = absurd s
  ends_stopped status (read_fault path) r s = ((r.written, r.creating ∙ idle), refl, s)
  ends_stopped status (absent path) r s = ((r.written, r.creating ∙ idle), refl, s)
  ends_stopped status refused r s = ((r.written, r.creating ∙ idle), refl, s)
  ends_stopped status no_memory r s = ((r.written, r.creating ∙ idle), refl, s)

  pub ends_refused : {X : Type 0} (view : X → Made) (status : Status) → Takes g a b (asked_step command) view (Err status) → EndsAs g o a b out out command status (told_by status)
  ends_refused view status t = ends_stopped status (told_by status) t.reads t.came

-- files that were written behind what only reads
module _ {F : Type 0} (g : Ghosts F) (a b c : F) (r : OnlyReads g a b) (files : List File) where
  wrote_later : (told : Told) → WritesAs g b c files told → WritesAs g a c files told
  wrote_later done w = (subst (λ o. Adds o (g.written c) files) r.written w.0, w.1)
  wrote_later (write_fault path) w = (subst (λ o. AddsUpTo o (g.written c) files path) r.written w.0, earlier_fault g a b c path r.faults w.1)
  wrote_later (read_fault path) w = absurd w
  wrote_later (absent path) w = absurd w
  wrote_later refused w = absurd w
  wrote_later no_command w = absurd w
  wrote_later no_memory w = absurd w

module _ {F O : Type 0} (g : Ghosts F) (o : Sinks O) (a b c : F) (out between : O) (r : OnlyReads g a b) (made : Made) where
  unsaid_later : (path : List ℕ) → Unsaid g o b c out between made path → Unsaid g o a c out between made path
  unsaid_later path u = record { at_sink = u.at_sink; wrote = wrote_later g a b c r made.files done u.wrote; front = u.front; failed = u.failed }

  given_out_later : (told : Told) → GivesOut g o b c out between made told → GivesOut g o a c out between made told
  given_out_later done w = (wrote_later g a b c r made.files done w.0, w.1)
  given_out_later (write_fault path) (inl w) = inl (wrote_later g a b c r made.files (write_fault path) w.0, w.1)
  given_out_later (write_fault path) (inr u) = inr (unsaid_later path u)
  given_out_later (read_fault path) w = absurd w
  given_out_later (absent path) w = absurd w
  given_out_later refused w = absurd w
  given_out_later no_command w = absurd w
  given_out_later no_memory w = absurd w

  ends_told : (command : Option Command) (status : Status) (told : Told) → IsMadeBy command made → Gives g a (asked_step command) (Ok made) → GivesOut g o b c out between made told → EndsAs g o a c out between command status told
  ends_told command status done shape given w = record { made = made; shape = shape; given = given; gave = given_out_later done w }
  ends_told command status (write_fault path) shape given w = record { made = made; shape = shape; given = given; gave = given_out_later (write_fault path) w }
  ends_told command status (read_fault path) shape given w = absurd w
  ends_told command status (absent path) shape given w = absurd w
  ends_told command status refused shape given w = absurd w
  ends_told command status no_command shape given w = absurd w
  ends_told command status no_memory shape given w = absurd w

pub ends_given : {F O X : Type 0} (g : Ghosts F) (o : Sinks O) (a b c : F) (out between : O) (command : Option Command) (view : X → Made) (x : X) (status : Status) → Takes g a b (asked_step command) view (Ok x)
    → IsMadeBy command (view x) → GivesOut g o b c out between (view x) (told_by status) → EndsAs g o a c out between command status (told_by status)
ends_given g o a b c out between command view x status t shape w = ends_told g o a b c out between t.reads (view x) command status (told_by status) shape t.came w

-- what is given out opens no file to be read
pub given_misses : {F O : Type 0} (g : Ghosts F) (o : Sinks O) (a b c : F) (out between : O) (made : Made) (status : Status) → g.absences b ≡ g.absences a → g.absences c ≡ g.absences b → GivesOut g o b c out between made (told_by status) → Misses g a c (told_by status)
given_misses g o a b c out between made status e f w = go (told_by status) w
  where
    go : (told : Told) → GivesOut g o b c out between made told → Misses g a c told
    go done w = f ∙ e
    go (write_fault path) w = f ∙ e
    go no_command w = absurd w
    go refused w = absurd w
    go no_memory w = absurd w
    go (read_fault path) w = absurd w
    go (absent path) w = absurd w

-- files, and then a text: where the files were not all written, that is how it ended
pub files_failed : {F O : Type 0} (g : Ghosts F) (o : Sinks O) (b c : F) (out : O) (made : Made) (status : Status) → (status ≡ st.Done → ⊥) → WritesAs g b c made.files (told_by status) → GivesOut g o b c out out made (told_by status)
files_failed g o b c out made st.Done n w = absurd (n refl)
files_failed g o b c out made (st.WriteFault path) n w = inl (w, refl)
files_failed g o b c out made status n w = absurd w

-- what only reads answers no Usage, and neither does what gives out
pub not_usage : {F X A : Type 0} (g : Ghosts F) (a b : F) (step : Step A) (view : X → A) (status : Status) → Takes g a b step view (Err status) → status ≡ st.Usage → ⊥
not_usage g a b step view status t e = subst (λ (s : Status). Stops g a b step s (told_by s)) e t.came

pub given_not_usage : {F O : Type 0} (g : Ghosts F) (o : Sinks O) (b c : F) (out between : O) (made : Made) (status : Status) → GivesOut g o b c out between made (told_by status) → status ≡ st.Usage → ⊥
given_not_usage g o b c out between made status w e = subst (λ (s : Status). GivesOut g o b c out between made (told_by s)) e w

-- ---- what a back end was told
-- once a run came to its script, whatever became of its files
pub informed : {F B : Type 0} (g : Ghosts F) (a : F) (told : B → TypedScript → Type 0) (old new : B) (command : Option Command) (status : Status) → Informs g a told old new command st.Done → Informs g a told old new command status
informed {F} {B} g a told old new command status i = by_tells (form_of command).tells i
  where
    by_tells : (tells : Tells) → Informed g a told old new tells st.Done → Informed g a told old new tells status
    by_tells silent i = i
    by_tells (of_step step) i = λ h. i tt
    by_tells (of_itself t) i = λ h. i tt

-- a script that was accepted
pub told_behind : {F : Type 0} (g : Ghosts F) (a b : F) (step : Step Typed) (told : TypedScript → Type 0) (t : TypedScript) (status : Status) → Takes g a b step typed_view (Ok t) → (HasRun status → told t) → TellsRun g a step told status
told_behind g a b step told t status takes f h =
    if_some_map (g.held a) (λ held. step.gives held (Ok (typed_view t))) (λ held. IsTold held step told) (λ held p. record { script = t; given = p; told_of = f h }) takes.came
