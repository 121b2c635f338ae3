-- The canonical text of a script.
use Rattle.std.specs.Prelude.{ℕ, List}
use Rattle.vtl_parser.specs.Parsed.{IsScript}
use Rattle.vtl_syntax.specs.Trees.{ScriptTree}
use Rattle.vtl_format.specs.Form.{IsFormOf}

-- the text is a script, and this is its canonical text
abbrev pub IsFormed : List ℕ → List ℕ → Type 0
IsFormed text out = ((script : ScriptTree) × IsScript text script) × IsFormOf text out
