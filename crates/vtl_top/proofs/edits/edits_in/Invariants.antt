use Rattle.std.proofs.Common.{◌≡◌, true, length, map}
use Rattle.std.specs.List.{AllByRecursion, list_any, slice_split}
use Rattle.std.specs.Map.{keys_of}
use denote.Text.{Utf8}
use denote.Shadow.{shadow}
use Rattle.vtl_tree.specs.Structure.{same_name}
use Rattle.vtl_top.specs.Edits.{edits_behind, edits_in, ends_line}
use Rattle.vtl_top.specs.EditsView.{edit_view}
use Rattle.vtl_top.proofs.edits.edits_in.Given as goal

-- What is left gives behind these edits what the whole text gives.
abbrev pub invariant-loop-line : goal.invariant-loop-line
invariant-loop-line l = record {
  utf8 : shadow (Utf8 l.rest);
  same : edits_behind (keys_of l.inputs) (map edit_view l.edits.items) (slice_split ends_line l.rest) ≡ edits_in (keys_of l.inputs) l.text;
  inputs : AllByRecursion (λ e. list_any (same_name e.input) (keys_of l.inputs) ≡ true) l.edits.items;
}

abbrev pub decreases-loop-line : goal.decreases-loop-line
decreases-loop-line l = length l.rest
