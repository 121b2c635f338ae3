-- What the calls that hand over or read whole texts do.
use Rattle.std.specs.Prelude.{◌≡◌, ℕ, ◌<◌, List, ◌++◌, Option, Some, None, Result, Ok, Err, IsSomeAnd, length, ⊤}
use Rattle.std.specs.Option.{option_map}
use Rattle.std.specs.Global.{Vec}
use Rattle.vtl_files.specs.declared.read_err.ReadErr.{ReadErr}
use Rattle.vtl_files.specs.declared.read_err.ReadErr.TheVariants.{Absent, TooLong, Failed, OutOfMemory}
use Rattle.vtl_files.specs.Outside.{Rose, append_last}

-- Of these bytes some front was added, by this way of adding, and the rest was not.
pub record AddsUpTo {X : Type 0} (add : List ℕ → X → X) (before now : Option X) (bytes rest : List ℕ) : Type 0 where
  pub front : List ℕ
  pub whole : bytes ≡ front ++ rest
  pub told : now ≡ option_map (add front) before

-- Where they are told, the files gained some front of these bytes at the end of the last one.
abbrev pub AppendsFront : Option (List (List ℕ × List ℕ)) → Option (List (List ℕ × List ℕ)) → List ℕ → Type 0
AppendsFront before now bytes = (rest : List ℕ) × AddsUpTo append_last before now bytes rest

-- Where they are told, the bytes that were taken are now some front of these too.
abbrev pub TakesFront : Option (List ℕ) → Option (List ℕ) → List ℕ → Type 0
TakesFront before now bytes = (rest : List ℕ) × AddsUpTo (λ front taken. taken ++ front) before now bytes rest

-- what `read_all` answers for a file with these bytes, or with none of its name
abbrev pub ReadsAll : Option (List ℕ) → ℕ → Result (Vec ℕ) ReadErr → Type 0
ReadsAll bytes limit (Ok read) = bytes ≡ Some read.items
ReadsAll bytes limit (Err Absent) = bytes ≡ None
ReadsAll bytes limit (Err TooLong) = IsSomeAnd bytes (λ all. limit < length all)
ReadsAll bytes limit (Err Failed) = ⊤
ReadsAll bytes limit (Err OutOfMemory) = ⊤

-- `absences` rises where the answer is that the file is absent, and nowhere else.
abbrev pub CountsAbsent : Result (Vec ℕ) ReadErr → ℕ → ℕ → Type 0
CountsAbsent (Ok read) before now = now ≡ before
CountsAbsent (Err Absent) before now = Rose before now
CountsAbsent (Err TooLong) before now = now ≡ before
CountsAbsent (Err Failed) before now = now ≡ before
CountsAbsent (Err OutOfMemory) before now = now ≡ before
