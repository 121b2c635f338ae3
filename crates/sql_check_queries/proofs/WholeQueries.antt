-- Unions of selects, and the queries that they are.
use Rattle.std.proofs.Common.{ℕ, ◌≡◌, ◌∙◌, length, map, true, ◌&&◌, List, [], ◌∷◌, Some, None, refl, ap, sym, subst}
use Rattle.std.specs.List.{flat_map, fold, list_all, list_any}
use Rattle.std.proofs.lemmas.Bool.{and_from}
use Rattle.std.proofs.lemmas.Slice.Eq.{bytes_eq-Decides}
use Rattle.vtl_decimal.specs.Settings.{Settings}
use Rattle.sql_tree.specs.Trees.{QueryTree, SelectTree}
use Rattle.sql_check_parts.specs.Queries.{beside, has_unnamed, kinds_of, names_of, query_breaks, same_names, select_breaks, shared_kinds, union_breaks}
use Rattle.sql_check_parts.specs.Rules.{least, lesser}
use Rattle.vtl_text.specs.Texts.{same_text}
use Rattle.sql_check_parts.specs.Scopes.{Tables, or_null}
use Rattle.sql_check_parts.proofs.Least.{least_append}
use Rattle.sql_check_parts.proofs.QueryKinds.{as_many}
use Rattle.sql_check_queries.specs.Told.{Grows, IsFirst, IsQueryTold, IsSelectTold, IsUnion, columns_breaks}
use Rattle.sql_check_queries.specs.declared.queries.QueryTold.{QueryTold}
use Rattle.sql_check_queries.specs.declared.selects.SelectTold.{SelectTold}
use Rattle.sql_check_queries.specs.declared.unions.Union.{Union}

-- a first select, and those behind it
pub union_made : (p : Settings) (tables : Tables) (first : SelectTree) (rest : List SelectTree) (typed : SelectTold) (before after : Union)
    → IsSelectTold p tables first typed → IsFirst typed before → Grows p tables rest before after → IsUnion p tables first rest after
union_made p tables first rest typed before after t f g = record {
  names_are = g.names_are ∙ f.names_are ∙ t.names_are;
  shared_are = g.shared_are ∙ ap (λ cs. fold (λ shared other. beside shared (kinds_of tables other)) cs rest) (f.shared_are ∙ ap (map Some) t.kinds_are);
  same =
      g.same
      ∙ ap (λ b. b && list_all (λ s. same_names before.names (names_of s)) rest) f.same
      ∙ ap (λ names. list_all (λ s. same_names names (names_of s)) rest) (f.names_are ∙ t.names_are);
  fault_is =
      g.fault_is
      ∙ ap (λ a. lesser a (least (flat_map (select_breaks p tables) rest))) (f.fault_is ∙ t.fault_is)
      ∙ sym (least_append (select_breaks p tables first) (flat_map (select_breaks p tables) rest));
}

same_names_self : (names : List (List ℕ)) → same_names names names ≡ true
same_names_self [] = refl
same_names_self (name ∷ names) = and_from (same_text name name) (same_names names names) ((bytes_eq-Decides name name).1 refl) (same_names_self names)

-- the least rule of a union is that of its query
pub least_of_union : (p : Settings) (tables : Tables) (first : SelectTree) (rest : List SelectTree) (u : Union) → IsUnion p tables first rest u
    → lesser u.fault (least (columns_breaks u.names u.shared.items u.same_names (list_any (has_unnamed tables) (first ∷ rest)))) ≡ least (query_breaks p tables (first ∷ rest))
least_of_union p tables first rest u i =
    let q = first ∷ rest in
    let names = names_of first in
    let kinds = shared_kinds tables q in
    let unnamed = list_any (has_unnamed tables) q in
    let all = list_all (λ s. same_names names (names_of s)) in
    ap (λ a. lesser a (least (columns_breaks u.names u.shared.items u.same_names unnamed))) i.fault_is
    ∙ ap (λ xs. lesser (least (flat_map (select_breaks p tables) q)) (least (columns_breaks xs u.shared.items u.same_names unnamed))) i.names_are
    ∙ ap (λ xs. lesser (least (flat_map (select_breaks p tables) q)) (least (columns_breaks names xs u.same_names unnamed))) i.shared_are
    ∙ ap (λ b. lesser (least (flat_map (select_breaks p tables) q)) (least (columns_breaks names kinds b unnamed))) (i.same ∙ sym (ap (λ b. b && all rest) (same_names_self names)))
    ∙ sym (least_append (flat_map (select_breaks p tables) q) (union_breaks tables names kinds q))

-- a query of a first select and those behind it
pub query_made : (p : Settings) (tables : Tables) (q : QueryTree) (first : SelectTree) (rest : List SelectTree) (u : Union) (r : QueryTold) → q ≡ first ∷ rest → IsUnion p tables first rest u
    → r.names ≡ u.names → r.kinds ≡ map or_null u.shared.items → r.fault ≡ lesser u.fault (least (columns_breaks u.names u.shared.items u.same_names (list_any (has_unnamed tables) q))) → IsQueryTold p tables q r
query_made p tables q first rest u r e i names kinds fault =
    let P : QueryTree → Type 0 = λ ss. IsQueryTold p tables ss r in
    let kinds_are : r.kinds ≡ map or_null (shared_kinds tables (first ∷ rest)) = kinds ∙ ap (map or_null) i.shared_are in
    subst P (sym e) (record {
      names_are = names ∙ i.names_are;
      kinds_are = kinds_are;
      as_many = ap length kinds_are ∙ as_many tables (first ∷ rest) ∙ sym (ap length (names ∙ i.names_are));
      fault_is = fault ∙ ap (λ ss. lesser u.fault (least (columns_breaks u.names u.shared.items u.same_names (list_any (has_unnamed tables) ss)))) e ∙ least_of_union p tables first rest u i;
    })

-- a query of no select
pub none_made : (p : Settings) (tables : Tables) (q : QueryTree) (r : QueryTold) → q ≡ [] → r.names ≡ [] → r.kinds ≡ [] → r.fault ≡ None → IsQueryTold p tables q r
unfolding least
none_made p tables q r e names kinds fault =
    let P : QueryTree → Type 0 = λ ss. IsQueryTold p tables ss r in
    subst P (sym e) (record {
      names_are = names;
      kinds_are = kinds;
      as_many = ap length kinds ∙ sym (ap length names);
      fault_is = fault;
    })
