-- Steps of a run over the held files.
use Rattle.std.specs.Prelude.{◌≡◌, ◌⊎◌, ℕ, List, [], Result, Ok, Err, chars}
use Rattle.vtl_status.specs.declared.status.Status.{Status}
use Rattle.vtl_status.specs.declared.status.Status.TheVariants as st

-- in bytes: a path, and what a file or the sink holds
abbrev pub Path : Type 0
Path = List ℕ

abbrev pub Text : Type 0
Text = List ℕ

-- in characters: the name of a data set, and a path as a status names it
abbrev pub Name : Type 0
Name = List ℕ

-- a file's path with what it holds
abbrev pub File : Type 0
File = Path × Text

-- the files that can be read
abbrev pub Held : Type 0
Held = List File

-- what a step gives over held bytes, a value or a refusal; and which paths are read up to there
pub record Step (A : Type 0) : Type 1 where
  pub gives : Held → Result A Status → Type 0
  pub reads : Held → Name → Type 0

-- what one path tells of the held bytes
abbrev pub looked : {A : Type 0} → (Held → Result A Status) → Path → Step A
looked {A} found path = record { gives = λ held given. given ≡ found held; reads = λ held named. named ≡ chars path }

-- nothing is read
abbrev pub settled : {A : Type 0} → Result A Status → Step A
settled {A} result = record { gives = λ held given. given ≡ result; reads = λ held path. ⊥ }

-- what comes of one of these things; there may be several, and no file is read
abbrev pub read_as : {A P : Type 0} → (P → Type 0) → (P → Result A Status) → Step A
read_as {A} {P} Is into = record { gives = λ held given. (x : P) × Is x × (given ≡ into x); reads = λ held path. ⊥ }

-- a refusal ends it, and a value goes on
abbrev pub Behind : {A B : Type 0} → Result A Status → (A → Result B Status → Type 0) → Result B Status → Type 0
Behind (Ok x) next given = next x given
Behind (Err status) next given = given ≡ Err status

-- a step, and the next one where it was not refused
abbrev pub ◌>>=◌ : {A B : Type 0} → Step A → (A → Step B) → Step B
◌>>=◌ {A} {B} step next = record {
  gives = λ held given. (first : Result A Status) × step.gives held first × Behind first (λ x. (next x).gives held) given;
  reads = λ held path. step.reads held path ⊎ ((x : A) × step.gives held (Ok x) × (next x).reads held path);
}

infixl 10 ◌>>=◌
-- the status of a call that makes this, where nothing fails
abbrev pub status_of : {X : Type 0} → Result X Status → Status
status_of (Ok x) = st.Done
status_of (Err status) = status

-- what a command makes: files, and behind them a text for the sink
pub record Made : Type 0 where
  pub files : List File
  pub text : Text

abbrev pub only_files : List File → Made
only_files files = record { files = files; text = [] }

abbrev pub only_text : Text → Made
only_text text = record { files = []; text = text }

-- what a step makes, given out as files or as a text
abbrev pub as_files : Step (List File) → Step Made
as_files step = step >>= λ files. settled (Ok (only_files files))

abbrev pub as_text : Step Text → Step Made
as_text step = step >>= λ text. settled (Ok (only_text text))
