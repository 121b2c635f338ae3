-- The tables of joins: a query over those of the operands, and the tables of identifiers that a full join has.
use Rattle.std.specs.Prelude.{ℕ, List, [], ◌∷◌}
use Rattle.vtl_decimal.specs.Settings.{Settings}
use Rattle.vtl_tree.specs.declared.structure.Structure.{Structure}
use Rattle.vtl_syntax.specs.declared.word_groups.JoinKind.{JoinKind}
use Rattle.vtl_syntax.specs.declared.word_groups.JoinKind.TheVariants as join
use Rattle.vtl_meaning.specs.Joined.{reference_place}
use Rattle.sql_tree.specs.Trees.{Text}
use Rattle.sql_tree.specs.declared.word_groups.JoinKind.TheVariants as joining
use Rattle.joins_to_sql.specs.FullJoins.{full_query, key_structure, keys_query, once_query}
use Rattle.joins_to_sql.specs.Joins.{cross_query, reference_query}
use Rattle.selects_to_sql.specs.Tables.{Made, Sources, stored, and_then, with_one, over, by_names, with_last}

-- the identifiers of operands in a table of their own, and each tuple of them once in another one
abbrev pub keys_of : Settings → (result : Text) → Structure → List Structure → List Text → ℕ → Sources
keys_of p r a ss xs n = stored r (over (stored r (over (by_names xs n) (keys_query p a ss))) (with_one (once_query p (key_structure a))))

abbrev pub full_made : Settings → (result : Text) → List Structure → Structure → Sources → Made
full_made p r [] s os = over os (λ names. [])
full_made p r (a ∷ ss) s os = over (and_then os (keys_of p r a (a ∷ ss) os.names)) (with_last (full_query p a (a ∷ ss) s))

abbrev pub join_made : Settings → (result : Text) → JoinKind → List Structure → Structure → Sources → Made
join_made p r join.Inner ss s os = over os (reference_query p joining.Inner (reference_place join.Inner ss) ss s)
join_made p r join.Left ss s os = over os (reference_query p joining.Left (reference_place join.Left ss) ss s)
join_made p r join.Cross ss s os = over os (cross_query p ss s)
join_made p r join.Full ss s os = full_made p r ss s os
