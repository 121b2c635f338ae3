-- Which results are left where an input is replaced.
use Rattle.std.specs.Prelude.{ℕ, suc, List, [], ◌∷◌, Option, None, slice_set, if◌then◌else◌}
use Rattle.vtl_rows.specs.Tables.{Listed}
use Rattle.vtl_rerun.specs.Operands.{any_lost}
use Rattle.vtl_rerun.specs.declared.part.Part.{Part}

-- those from this place on, part by part
abbrev pub left_from : ℕ → List ℕ → List Part → List (Option Listed) → List (Option Listed)
left_from i replaced [] results = results
left_from i replaced (x ∷ xs) results = left_from (suc i) replaced xs (if any_lost replaced results x.operands.items then slice_set results i None else results)
