-- What a call on files, or on a sink, does.
use Rattle.std.specs.Prelude.{◌≡◌, ℕ, ◌+◌, ◌-◌, ◌^◌, ◌≤◌, min, List, [], ◌∷◌, ◌++◌, Bool, true, false, cond, Option, Some, None, Result, Ok, Err, IsSome, take}
use Rattle.std.specs.Option.{option_map}
use Rattle.std.specs.Str.{bytes_eq}
use Rattle.vtl_files.specs.declared.failed.Failed.{Failed}

-- A count rose, or stands at the last value of its type.
abbrev pub Rose : ℕ → ℕ → Type 0
Rose before now = min (before + 1) (2 ^ 64 - 1) ≤ now

-- There was a fault at this path: faults rose in the call, and also since the name that `place` shows,
-- which is the path, was handed in.
pub record FaultAt (before now mark : ℕ) (place path : List ℕ) : Type 0 where
  pub in_call : Rose before now
  pub since_mark : Rose mark now
  pub at_path : place ≡ path

-- a list of files: names with bytes
abbrev pub FileList : Type 0
FileList = List (List ℕ × List ℕ)

-- the bytes of the first file of this name
abbrev pub bytes_at : List ℕ → List (List ℕ × List ℕ) → Option (List ℕ)
bytes_at name [] = None
bytes_at name (file ∷ files) = cond (bytes_eq file.0 name) (Some file.1) (bytes_at name files)

-- the last file has these bytes at its end too
abbrev pub append_last : List ℕ → List (List ℕ × List ℕ) → List (List ℕ × List ℕ)
append_last bytes [] = []
append_last bytes (file ∷ []) = (file.0, file.1 ++ bytes) ∷ []
append_last bytes (file ∷ next ∷ files) = file ∷ append_last bytes (next ∷ files)

-- Where they are told, the files gained these bytes at the end of the last one.
abbrev pub AppendsAll : Option (List (List ℕ × List ℕ)) → Option (List (List ℕ × List ℕ)) → List ℕ → Type 0
AppendsAll before now bytes = now ≡ option_map (append_last bytes) before

-- Where they are told, the bytes that were taken are now these too.
abbrev pub TakesAll : Option (List ℕ) → Option (List ℕ) → List ℕ → Type 0
TakesAll before now bytes = now ≡ option_map (λ taken. taken ++ bytes) before

-- Nothing is left to be read; it is told where the held files are.
abbrev pub LeavesNothing : Option (List (List ℕ × List ℕ)) → Option (List ℕ) → Type 0
LeavesNothing held left = left ≡ option_map (λ _. []) held

-- what `open` answers for a name, and what is then left to be read
abbrev pub Opens : Option (List (List ℕ × List ℕ)) → List ℕ → Result Bool Failed → Option (List ℕ) → Type 0
Opens (Some files) name (Ok true) left = (bytes_at name files ≡ left) × IsSome left
Opens (Some files) name (Ok false) left = (bytes_at name files ≡ None) × (left ≡ Some [])
Opens (Some files) name (Err failed) left = left ≡ Some []
Opens None name answer left = left ≡ None

-- `absences` rises where `open` answers false, and nowhere else.
abbrev pub CountsAbsence : Result Bool Failed → ℕ → ℕ → Type 0
CountsAbsence (Ok true) before now = now ≡ before
CountsAbsence (Ok false) before now = Rose before now
CountsAbsence (Err failed) before now = now ≡ before

-- `misuses` rises where `creating` is not what the call needs, and nowhere else.
abbrev pub CountsMisuse : (needed creating : Bool) → ℕ → ℕ → Type 0
CountsMisuse true true before now = now ≡ before
CountsMisuse false false before now = now ≡ before
CountsMisuse true false before now = Rose before now
CountsMisuse false true before now = Rose before now

-- `read` takes the first bytes of what is left, and puts them at the front of the buffer.
abbrev pub ReadsFront : Option (List ℕ) → Option (List ℕ) → List ℕ → Result ℕ Failed → Type 0
ReadsFront before now buf (Ok count) = before ≡ option_map (λ rest. take count buf ++ rest) now
ReadsFront before now buf (Err failed) = now ≡ before

-- `create` adds an empty file of this name at the end.
abbrev pub Creates : Option (List (List ℕ × List ℕ)) → Option (List (List ℕ × List ℕ)) → List ℕ → Result Unit Failed → Type 0
Creates before now name (Ok done) = now ≡ option_map (λ files. files ++ (name, []) ∷ []) before
Creates before now name (Err failed) = now ≡ before

-- `write` appends so many first bytes of the piece to the last file.
abbrev pub WritesFront : Option (List (List ℕ × List ℕ)) → Option (List (List ℕ × List ℕ)) → List ℕ → Result ℕ Failed → Type 0
WritesFront before now piece (Ok count) = AppendsAll before now (take count piece)
WritesFront before now piece (Err failed) = now ≡ before

-- A sink takes so many first bytes of the piece.
abbrev pub Takes : Option (List ℕ) → Option (List ℕ) → List ℕ → Result ℕ Failed → Type 0
Takes before now piece (Ok count) = TakesAll before now (take count piece)
Takes before now piece (Err failed) = now ≡ before
