-- The exit code of a status, and the line that names it.
use Rattle.std.specs.Prelude.{ℕ, List, [], ◌∷◌, codes, decimal, encode_utf8_all, flat_map}
use Rattle.vtl_csv.specs.declared.input.InputKind.{InputKind}
use Rattle.vtl_csv.specs.declared.input.InputKind.TheVariants as i
use Rattle.vtl_status.specs.declared.status.Status.{Status}
use Rattle.vtl_status.specs.declared.status.Status.TheVariants as st

abbrev pub code_of : Status → ℕ
code_of st.Done = 0
code_of st.Usage = 1
code_of (st.Syntax done byte) = 2
code_of (st.Structure line rule) = 2
code_of (st.NotText path) = 2
code_of (st.Edits line) = 2
code_of (st.Mistyped statement rule) = 3
code_of (st.SqlSyntax done byte) = 3
code_of (st.SqlType statement rule) = 3
code_of (st.Input dataset line column kind) = 4
code_of (st.NoFile path) = 4
code_of (st.TooLong path) = 4
code_of (st.DivZero result) = 5
code_of (st.Range result) = 5
code_of (st.ReadFault path) = 6
code_of (st.WriteFault path) = 6
code_of st.Memory = 7

-- what is wrong with an input, by its name
abbrev pub name_of_kind : InputKind → List ℕ
name_of_kind i.BadHeader = codes "BadHeader"
name_of_kind i.TooManyRows = codes "TooManyRows"
name_of_kind i.WrongWidth = codes "WrongWidth"
name_of_kind i.NotText = codes "NotText"
name_of_kind i.NullIdentifier = codes "NullIdentifier"
name_of_kind i.NotNull = codes "NotNull"
name_of_kind i.BadValue = codes "BadValue"
name_of_kind i.NotInCodes = codes "NotInCodes"
name_of_kind i.DuplicateKey = codes "DuplicateKey"

-- a part of a line: bytes, or a number in decimal digits
pub data Part : Type 0 where
  text : List ℕ → Part
  number : ℕ → Part

abbrev pub bytes_of : Part → List ℕ
bytes_of (text bytes) = bytes
bytes_of (number n) = decimal n

abbrev pub end : Part
end = text (codes "\n")

-- what is said of a path or of a result, in UTF-8
abbrev pub at : List ℕ → List ℕ → List Part
at lead name = text lead ∷ text (encode_utf8_all name) ∷ end ∷ []

abbrev pub parts_of : Status → List Part
parts_of st.Done = []
parts_of st.Usage = text (codes "error: usage") ∷ end ∷ []
parts_of (st.Syntax done byte) = text (codes "error: syntax after ") ∷ number done ∷ text (codes " statements at byte ") ∷ number byte ∷ end ∷ []
parts_of (st.Structure line rule) = text (codes "error: structures line ") ∷ number line ∷ text (codes " rule ") ∷ number rule ∷ end ∷ []
parts_of (st.Mistyped statement rule) = text (codes "error: type in statement ") ∷ number statement ∷ text (codes " rule ") ∷ number rule ∷ end ∷ []
parts_of (st.SqlSyntax done byte) = text (codes "error: sql syntax after ") ∷ number done ∷ text (codes " statements at byte ") ∷ number byte ∷ end ∷ []
parts_of (st.SqlType statement rule) = text (codes "error: sql type in statement ") ∷ number statement ∷ text (codes " rule ") ∷ number rule ∷ end ∷ []
parts_of (st.Edits line) = text (codes "error: edits line ") ∷ number line ∷ end ∷ []
parts_of (st.Input dataset line column kind) =
    text (codes "error: input ") ∷ text (encode_utf8_all dataset) ∷ text (codes " line ") ∷ number line ∷ text (codes " column ") ∷ number column ∷ text (codes " ") ∷ text (name_of_kind kind) ∷ end ∷ []
parts_of (st.DivZero result) = at (codes "error: division by zero in ") result
parts_of (st.Range result) = at (codes "error: out of range in ") result
parts_of (st.NotText path) = at (codes "error: not text: ") path
parts_of (st.NoFile path) = at (codes "error: no file: ") path
parts_of (st.TooLong path) = at (codes "error: too long: ") path
parts_of (st.ReadFault path) = at (codes "error: read fault: ") path
parts_of (st.WriteFault path) = at (codes "error: write fault: ") path
parts_of st.Memory = text (codes "error: memory") ∷ end ∷ []

-- the line of a status: of Done there is none
abbrev pub line_of : Status → List ℕ
line_of status = flat_map bytes_of (parts_of status)
