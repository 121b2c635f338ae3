-- The kinds of a row, of which all are taken in order, stay as they are.
use Rattle.std.proofs.Common.{◌≡◌, ℕ, List, length, get_or, sym, refl}
use Rattle.std.specs.List.{range_with_len}
use Rattle.std.proofs.lemmas.List.FromFn.{fill_by_all}
use Rattle.vtl_cell.specs.declared.kind.Kind.{Kind}
use Rattle.vtl_cell.specs.declared.kind.Kind.TheVariants as k
use Rattle.sql_from.specs.Columns.{kinds_at}

pub kinds_stay : (n : ℕ) (kinds : List Kind) → length kinds ≡ n → kinds_at (range_with_len 0 n) kinds ≡ kinds
kinds_stay n kinds e = sym (fill_by_all (λ i. get_or kinds i k.Null) kinds n k.Null e (λ i h. refl))
