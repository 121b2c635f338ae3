use Rattle.std.proofs.Common.{◌≡◌, ◌∷◌, [], true, map, take}
use Rattle.sql_tree.specs.Trees.{SelectTree}
use Rattle.sql_tree.specs.View.{select_tree}
use Rattle.sql_meaning.specs.Plans.{indexed_in, is_indexed, planned_selects}
use Rattle.sql_meaning.specs.Selects.{appended}
use Rattle.sql_from.specs.Held.{base_held}
use Rattle.sql_from.specs.Steps.{IsPlainJoin}
use Rattle.sql_exec.specs.Outputs.{Adds}
use Rattle.sql_exec.proofs.Counted.{Taken}
use Rattle.sql_exec.proofs.selects.add_selects.Given as goal

abbrev pub invariant-loop-place : goal.invariant-loop-place
invariant-loop-place g l = record {
  adds : Adds (appended (map (λ m. m) (take l.place (planned_selects (base_held l.p l.tables) l.kinds l.plan.ways 0 (map select_tree l.selects))))) l.fn.out l.out;
  steps : (s : SelectTree) → map select_tree l.selects ≡ s ∷ [] → is_indexed (indexed_in l.plan.ways 0) 0 ≡ true → IsPlainJoin s → Taken (base_held l.p l.tables) s l.place l.fn.steps l.steps;
}
