-- The tables of the sources of a select, by place.
use Rattle.std.proofs.Common.{◌≡◌, ℕ, zero, suc, ◌+◌, ◌<◌, ◌≤◌, List, [], ◌∷◌, ◌++◌, map, get_or, take, length, Option, Some, None, IsSome, refl, sym, ap, ◌∙◌, add-one, arith}
use Rattle.std.specs.Borrow.{Bor}
use Rattle.std.specs.Option.{option_copied, option_map}
use Rattle.std.specs.Prelude.{slice_get}
use Rattle.std.proofs.lemmas.List.{map-append, take_all, take_more}
use Rattle.vtl_rows.specs.Named.{NamedTables}
use Rattle.vtl_rows.specs.Tables.{Listed}
use Rattle.sql_tree.specs.Trees.{SelectTree}
use Rattle.sql_tree.specs.View.{join_tree}
use Rattle.sql_tree.specs.declared.parts.Source.{Source}
use Rattle.sql_tree.specs.declared.statements.Join.{Join}
use Rattle.sql_check_parts.specs.Queries.{join_source}
use Rattle.sql_check_parts.specs.Scopes.{columns_of}
use Rattle.sql_from.specs.FromTables.{from_at, from_given, kept_table, maybe_given}
use Rattle.sql_from.specs.Held.{tables_held}
use Rattle.sql_from.specs.Sources.{given_table, table_given}
use Rattle.sql_from.specs.declared.from_tables.FromTable.{FromTable}
use Rattle.sql_from.proofs.Sited.{table_there}

-- ---- one source

-- where its table is there, it has that of the source
pub maybe_there : (held : NamedTables) (s : Source) → IsSome (columns_of (tables_held held) s.table) → maybe_given held s ≡ Some (table_given held s)
maybe_there held s there = ap (option_map (given_table s.series)) (table_there held s.table there)

pub copied_there : (o : Option (Bor Listed)) (t : Listed) → option_copied o ≡ Some t → IsSome o
copied_there None t e = cc
copied_there (Some b) t e = refl

pub copied_is : (o : Option (Bor Listed)) (b : Bor Listed) (t : Listed) → o ≡ Some b → option_copied o ≡ Some t → b.now ≡ t
copied_is None b t is e = cc
copied_is (Some a) b t is e = let same : a ≡ b = cc in let now : a.now ≡ t = cc in ap (λ (x : Bor Listed). x.now) (sym same) ∙ now

-- ---- by place

pub first_given : (held : NamedTables) (s : SelectTree) (tables : List (Option Listed)) → tables ≡ from_given held s → from_at tables 0 ≡ maybe_given held s.source
first_given held s tables e = ap (λ l. from_at l 0) e

joined_at : (held : NamedTables) (joins : List Join) (i : ℕ) (x : Join) → i < length joins → x ≡ get_or joins i x → from_at (map (maybe_given held) (map join_source (map join_tree joins))) i ≡ maybe_given held (join_source (join_tree x))
joined_at held [] i x h at = absurd (omega (arith, h))
joined_at held (j ∷ js) zero x h at = ap (λ y. maybe_given held (join_source (join_tree y))) (sym at)
joined_at held (j ∷ js) (suc i) x h at = joined_at held js i x (omega (arith, h)) at

-- that of the source of a join
pub join_given : (held : NamedTables) (s : SelectTree) (tables : List (Option Listed)) (joins items : List Join) (i : ℕ) (x : Join) → tables ≡ from_given held s → s.joins ≡ map join_tree joins → items ≡ joins → i < length items → x ≡ get_or items i x
    → from_at tables (i + 1) ≡ maybe_given held (join_source (join_tree x))
join_given held s tables joins items i x e are same h at =
    ap (λ l. from_at l (i + 1)) e
    ∙ ap (λ js. from_at (maybe_given held s.source ∷ map (maybe_given held) (map join_source js)) (i + 1)) (are ∙ ap (map join_tree) (sym same))
    ∙ ap (from_at (maybe_given held s.source ∷ map (maybe_given held) (map join_source (map join_tree items)))) (add-one i)
    ∙ joined_at held items i x h at

-- ---- as they are made

-- those of the first source and of the joins up to a place
abbrev pub given_to : NamedTables → Source → List Join → ℕ → List (Option Listed)
given_to held source joins i = maybe_given held source ∷ map (λ j. maybe_given held (join_source (join_tree j))) (take i joins)

joined_all : (held : NamedTables) (joins : List Join) → map (λ j. maybe_given held (join_source (join_tree j))) joins ≡ map (maybe_given held) (map join_source (map join_tree joins))
joined_all held [] = refl
joined_all held (j ∷ js) = ap (λ l. maybe_given held (join_source (join_tree j)) ∷ l) (joined_all held js)

pub given_all : (held : NamedTables) (s : SelectTree) (joins items : List Join) (i : ℕ) (tables : List FromTable) → s.joins ≡ map join_tree joins → items ≡ joins → length items ≤ i → map kept_table tables ≡ given_to held s.source items i
    → map kept_table tables ≡ from_given held s
given_all held s joins items i tables are same h is =
    is ∙ ap (λ l. maybe_given held s.source ∷ map (λ j. maybe_given held (join_source (join_tree j))) l) (take_all i items h)
    ∙ ap (λ l. maybe_given held s.source ∷ l) (joined_all held items)
    ∙ ap (λ js. maybe_given held s.source ∷ map (maybe_given held) (map join_source js)) (ap (map join_tree) same ∙ sym are)
