-- The statements of a part, and that they are written where those of the script are.
use Rattle.std.proofs.Common.{◌≡◌, ℕ, zero, suc, pred, ◌-◌, ◌<◌, List, [], ◌∷◌, ◌++◌, get_or, length, map, take, slice_get, Some, option_map, refl, sym, ap, ◌∙◌, arith}
use Rattle.std.proofs.lemmas.List.{take-map}
use Rattle.std.proofs.lemmas.Option.{slice_get-map, slice_get_read}
use Rattle.vtl_syntax.specs.Trees as tree
use Rattle.vtl_syntax.specs.Trees.{ScriptTree}
use Rattle.vtl_syntax.specs.View.{statement_tree}
use Rattle.vtl_syntax.specs.Written.{AreWritten}
use Rattle.vtl_syntax.specs.declared.statements.Statement.{Statement}
use Rattle.rerun_laws.specs.Parts.{definitions_in, part_tree, persistent}

written_at : (script : ScriptTree) (k : ℕ) → AreWritten script → AreWritten (definitions_in (take k script) ++ persistent (slice_get script k))
written_at [] zero w = tt
written_at [] (suc k) w = tt
written_at (tree.assignment name kind e ∷ ss) zero w = (record { parts = w.0.parts; shallow = w.0.shallow }, tt)
written_at (tree.assignment name kind e ∷ ss) (suc k) w = written_at ss k w.1
written_at (tree.datapoint name variables rules last ∷ ss) zero w = tt
written_at (tree.datapoint name variables rules last ∷ ss) (suc k) w = (w.0, written_at ss k w.1)
written_at (tree.hierarchical name item rules last ∷ ss) zero w = tt
written_at (tree.hierarchical name item rules last ∷ ss) (suc k) w = (w.0, written_at ss k w.1)

pub written_part : (number : ℕ) (script : ScriptTree) → AreWritten script → AreWritten (part_tree number script)
written_part number script w = written_at script (pred number) w

pred-less : (number : ℕ) → number - 1 ≡ pred number
pred-less zero = omega arith
pred-less (suc k) = omega arith

-- the definitions before a statement, and the statement by itself
pub part_made : (number : ℕ) (ss : List Statement) (s : Statement) → number - 1 < length ss → s ≡ get_or ss (number - 1) s
    → definitions_in (map statement_tree (take (number - 1) ss)) ++ persistent (Some (statement_tree s)) ≡ part_tree number (map statement_tree ss)
part_made number ss s less s_is =
    ap (λ l. definitions_in l ++ persistent (Some (statement_tree s))) (sym (take-map statement_tree (number - 1) ss))
    ∙ ap (λ o. definitions_in (take (number - 1) (map statement_tree ss)) ++ persistent o) (sym (slice_get-map statement_tree ss (number - 1) ∙ ap (option_map statement_tree) (slice_get_read ss (length ss) (number - 1) s refl less s_is)))
    ∙ ap (λ k. definitions_in (take k (map statement_tree ss)) ++ persistent (slice_get (map statement_tree ss) k)) (pred-less number)
