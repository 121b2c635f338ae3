-- What the bytes of a file with a script are read as, in VTL or in SQL.
use Rattle.std.specs.Prelude.{ℕ, IsUtf8}
use Rattle.vtl_format.specs.Formed.{IsFormed}
use Rattle.vtl_syntax.specs.Trees.{ScriptTree}
use Rattle.vtl_parser.specs.Parsed.{IsFaulty, IsScript}
use Rattle.sql_tree.specs.Texts as sql
use Rattle.sql_tree.specs.Trees.{ScriptTree as SqlTree}
use Rattle.vtl_top.specs.Steps.{Text}

-- no text; a text that is no script, with its fault; or a script
pub data Parsed (A : Type 0) : Type 0 where
  no_text : Parsed A
  faulty : (done byte : ℕ) → Parsed A
  whole : A → Parsed A

-- bytes that are not UTF-8 are no text
abbrev pub IsParsedBy : {A : Type 0} → (Text → A → Type 0) → (Text → ℕ → ℕ → Type 0) → Text → Parsed A → Type 0
IsParsedBy IsOne HasFault bytes no_text = ¬ IsUtf8 bytes
IsParsedBy IsOne HasFault bytes (faulty done byte) = IsUtf8 bytes × HasFault bytes done byte
IsParsedBy IsOne HasFault bytes (whole script) = IsUtf8 bytes × IsOne bytes script

abbrev pub IsParsed : Text → Parsed ScriptTree → Type 0
IsParsed = IsParsedBy IsScript IsFaulty

-- a script is read as its canonical text
abbrev pub IsFormatted : Text → Parsed Text → Type 0
IsFormatted = IsParsedBy IsFormed IsFaulty

abbrev pub IsSqlParsed : Text → Parsed SqlTree → Type 0
IsSqlParsed = IsParsedBy sql.IsScript sql.IsFaulty
