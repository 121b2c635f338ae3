-- A query has as many kinds as names.
use Rattle.std.proofs.Common.{◌≡◌, ◌∙◌, suc, length, map, List, [], ◌∷◌, Some, refl, ap, sym}
use Rattle.std.specs.Prelude.{Option}
use Rattle.std.specs.List.{fold}
use Rattle.std.proofs.lemmas.List.{length-map}
use Rattle.vtl_cell.specs.declared.kind.Kind.{Kind}
use Rattle.sql_tree.specs.Trees.{QueryTree, SelectTree}
use Rattle.sql_check_parts.specs.Queries.{beside, item_kind, item_name, kinds_of, query_names, scope_of, shared_kinds}
use Rattle.sql_check_parts.specs.Scopes.{Tables, or_null}

pub length-beside : (cs : List (Option Kind)) (kinds : List Kind) → length (beside cs kinds) ≡ length cs
length-beside [] kinds = refl
length-beside (c ∷ cs) [] = refl
length-beside (c ∷ cs) (kind ∷ kinds) = ap suc (length-beside cs kinds)

length-shared : (tables : Tables) (ss : List SelectTree) (cs : List (Option Kind)) → length (fold (λ shared other. beside shared (kinds_of tables other)) cs ss) ≡ length cs
length-shared tables [] cs = refl
length-shared tables (s ∷ ss) cs = length-shared tables ss (beside cs (kinds_of tables s)) ∙ length-beside cs (kinds_of tables s)

pub as_many : (tables : Tables) (q : QueryTree) → length (map or_null (shared_kinds tables q)) ≡ length (query_names q)
as_many tables [] = refl
as_many tables (s ∷ ss) =
    length-map (shared_kinds tables (s ∷ ss)) or_null
    ∙ length-shared tables ss (map Some (kinds_of tables s))
    ∙ length-map (kinds_of tables s) Some
    ∙ length-map s.items (item_kind (scope_of tables s))
    ∙ sym (length-map s.items item_name)
