-- Rows one beside the other fit their kinds.
use Rattle.std.proofs.Common.{◌≡◌, List, [], ◌∷◌, ◌++◌, true, ◌&&◌}
use Rattle.std.proofs.lemmas.Bool.{and_parts}
use Rattle.vtl_cell.specs.Kinds.{is_of}
use Rattle.vtl_cell.specs.Row.{Row}
use Rattle.vtl_cell.specs.declared.kind.Kind.{Kind}
use Rattle.vtl_rows.specs.Tables.{fits_kinds}

pub fits_beside : (ks js : List Kind) (r q : Row) → fits_kinds ks r ≡ true → fits_kinds js q ≡ true → fits_kinds (ks ++ js) (r ++ q) ≡ true
fits_beside [] js [] q h i = i
fits_beside [] js (v ∷ vs) q h i = cc
fits_beside (x ∷ ks) js [] q h i = cc
fits_beside (x ∷ ks) js (v ∷ vs) q h i =
    let parts = and_parts (is_of x v) (fits_kinds ks vs) h in
    let rest = fits_beside ks js vs q parts.1 i in
    λ n. parts.0 n && rest n
