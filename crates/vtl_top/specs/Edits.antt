-- The edits file of a replay: which inputs are replaced, one after the other, and from which folders.
use Rattle.std.specs.Prelude.{ℕ, ◌+◌, Bool, ◌&&◌, ◌==◌, List, [], ◌∷◌, ◌++◌, length, Result, Ok, Err, chars, if◌then◌else◌}
use Rattle.std.specs.List.{after_first, before_first, list_any, slice_split}
use Rattle.std.specs.Str.{is_utf8}
use Rattle.sql_lexer.specs.Spelling.{has_no_control}
use Rattle.vtl_tree.specs.Structure.{same_name}
use Rattle.vtl_top.specs.Expected.{read, script_limit}
use Rattle.vtl_top.specs.Steps.{Name, Path, Step, Text, ◌>>=◌, settled}
use Rattle.vtl_top.specs.Words.{is_path}
use Rattle.vtl_status.specs.declared.status.Status.{Status}
use Rattle.vtl_status.specs.declared.status.Status.TheVariants as st

-- an input that is replaced, and the folder of its file
pub record Edit : Type 0 where
  pub input : Name
  pub folder : Path

-- ---- a line
abbrev pub is_space : ℕ → Bool
is_space b = b == 32

-- a word that names a folder: it is not empty, and has no control characters
abbrev pub is_folder : Text → Bool
is_folder word = is_path word && has_no_control (chars word)

-- what a line says: the name stands before its first space, and all behind it is the folder word
abbrev pub edit_in : Text → Edit
edit_in line = record { input = chars (before_first is_space line); folder = after_first is_space line }

-- the name is that of an input, and the folder word is one
abbrev pub is_edit : List Name → Edit → Bool
is_edit inputs e = list_any (same_name e.input) inputs && is_folder e.folder

-- ---- all lines
abbrev pub ends_line : ℕ → Bool
ends_line b = b == 10

-- The edits of lines, behind those of the lines before them; or the number of the first line, counted from 1, that has not the form of an
-- edit. What stands behind the last line feed is no line: it has to be empty.
abbrev pub edits_behind : List Name → List Edit → List Text → Result (List Edit) ℕ
edits_behind inputs before [] = Ok before
edits_behind inputs before (rest ∷ []) = if is_path rest then Err (length before + 1) else Ok before
edits_behind inputs before (line ∷ lines) = if is_edit inputs (edit_in line) then edits_behind inputs (before ++ edit_in line ∷ []) lines else Err (length before + 1)

-- the edits of a text, a line for each
abbrev pub edits_in : List Name → Text → Result (List Edit) ℕ
edits_in inputs text = edits_behind inputs [] (slice_split ends_line text)

-- ---- the file
-- the edits, or the status of the first line that is none
abbrev pub edits_or_fault : Result (List Edit) ℕ → Result (List Edit) Status
edits_or_fault (Ok edits) = Ok edits
edits_or_fault (Err line) = Err (st.Edits line)

-- what the bytes of the file at this path say
abbrev pub edits_of : Path → List Name → Text → Result (List Edit) Status
edits_of path inputs bytes = if is_utf8 bytes then edits_or_fault (edits_in inputs bytes) else Err (st.NotText (chars path))

-- the edits of a file, which is read as a script file is
abbrev pub edits_step : Path → List Name → Step (List Edit)
edits_step path inputs = read path script_limit >>= λ bytes. settled (edits_of path inputs bytes)
