-- What is read of a file is one answer.
use Rattle.std.proofs.Common.{◌≡◌, ◌≢◌, List, Result, Ok, Err, refl, sym, ap, ◌∙◌}
use Rattle.vtl_cell.specs.Row.{Row}
use Rattle.vtl_rows.specs.Tables.{Listed}
use Rattle.vtl_tree.specs.declared.structure.Structure.{Structure}
use Rattle.vtl_csv.specs.InputFile.{Fault, Reads}
use Rattle.vtl_csv.specs.declared.input.InputErr.{InputErr}
use Rattle.vtl_csv.specs.declared.input.InputErr.TheVariants as e

same_rows : (what : Result (List Row) Fault) (xs ys : List Row) → what ≡ Ok xs → what ≡ Ok ys → xs ≡ ys
same_rows what xs ys h k = cc

same_fault : (what : Result (List Row) Fault) (x y : Fault) → what ≡ Err x → what ≡ Err y → x ≡ y
same_fault what x y h k = cc

abbrev faulted : Fault → Result Listed InputErr
faulted f = Err (e.Fault f.0 f.1.0 f.1.1)

pub one_answer : (s : Structure) (what : Result (List Row) Fault) (a b : Result Listed InputErr) → a ≢ Err e.OutOfMemory → b ≢ Err e.OutOfMemory → Reads s a what → Reads s b what → a ≡ b
one_answer s what (Ok t) (Ok u) h k f g =
    let columns = f.0 ∙ sym g.0 in
    let rows = same_rows what t.rows u.rows f.1 g.1 in
    ap (λ l. Ok (record { columns = l; rows = t.rows })) columns ∙ ap (λ l. Ok (record { columns = u.columns; rows = l })) rows
one_answer s what (Ok t) (Err (e.Fault line column kind)) h k f g = let one = f.1 in cc
one_answer s what (Ok t) (Err e.OutOfMemory) h k f g = absurd (k refl)
one_answer s what (Err (e.Fault line column kind)) (Ok t) h k f g = let one = g.1 in cc
one_answer s what (Err (e.Fault line column kind)) (Err (e.Fault line' column' kind')) h k f g = ap faulted (same_fault what (line, (column, kind)) (line', (column', kind')) f g)
one_answer s what (Err (e.Fault line column kind)) (Err e.OutOfMemory) h k f g = absurd (k refl)
one_answer s what (Err e.OutOfMemory) b h k f g = absurd (h refl)
