-- The output of a run, without where it lies in memory.
use Rattle.std.specs.Prelude.{◌≡◌, List, map, string_bytes, chars}
use Rattle.std.specs.Global.{Vec}
use Rattle.vtl_top.specs.declared.output.Output.{Output}
use Rattle.vtl_top.specs.Steps.{File}

-- a path and its bytes
abbrev pub output_view : Output → File
output_view o = (string_bytes o.path, o.bytes.items)

-- the text that names the path is the path
abbrev pub NamesPath : Output → Type 0
NamesPath o = o.named ≡ chars (string_bytes o.path)

-- all outputs, in order
abbrev pub outputs_view : Vec Output → List File
outputs_view outputs = map output_view outputs.items
