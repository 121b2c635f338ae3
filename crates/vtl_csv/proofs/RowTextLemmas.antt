-- A writer that takes records of any length writes each as the default writer does.
use Rattle.std.proofs.Common.{◌≡◌, ◌≢◌, ◌∷◌, ◌++◌, [], ℕ, List, Option, Some, None, IsSome, true, false, refl, unwrap_or}
use Rattle.std.specs.Global.{Vec}
use Rattle.std.specs.Io.KnownBytes.{Appends}
use Rattle.csv.specs.declared.writer.QuoteStyle.TheVariants as style
use Rattle.csv.specs.declared.writer.Writer.{Writer}
use Rattle.vtl_csv.specs.RowsWritten.{WritesRecords, bytes_held, rows_written}
use Rattle.csv.specs.Writing.{default_writer, escaped, fields_text, is_blank, row_text, text_written, with_flexible, writer_setup}

escaped-any_length : (field : List ℕ) → escaped (with_flexible default_writer true) field ≡ escaped default_writer field
unfolding escaped
escaped-any_length [] = refl
escaped-any_length (b ∷ rest) = rw (escaped-any_length rest) refl

fields_text-any_length : (fields : List (List ℕ)) → fields_text (with_flexible default_writer true) fields ≡ fields_text default_writer fields
unfolding fields_text
fields_text-any_length [] = refl
fields_text-any_length (field ∷ rest) = rw (escaped-any_length field, fields_text-any_length rest) refl

is_blank-any_length : (fields : List (List ℕ)) → is_blank (with_flexible default_writer true) fields ≡ is_blank default_writer fields
unfolding is_blank
is_blank-any_length [] = refl
is_blank-any_length (field ∷ []) = rw (escaped-any_length field) refl
is_blank-any_length (field ∷ next ∷ rest) = refl

pub row_text-any_length : (fields : List (List ℕ)) → row_text (with_flexible default_writer true) fields ≡ row_text default_writer fields
row_text-any_length [] = rw (is_blank-any_length []) refl
row_text-any_length (field ∷ rest) = rw (is_blank-any_length (field ∷ rest), escaped-any_length field, fields_text-any_length rest) refl

appended : (before after : Option (List ℕ)) (text : List ℕ) → IsSome before → Appends before after text → unwrap_or after [] ≡ unwrap_or before [] ++ text
appended None after text known more = cc known
appended (Some old) None text known more = absurd more
appended (Some old) (Some new) text known more = more

-- such a writer does not look at numbers
pub not_numeric : (a : Writer (Vec ℕ)) → WritesRecords a → (writer_setup a).style ≢ style.NonNumeric
not_numeric a writes e = let is = rw writes.setup at e in cc is

-- a record that was written stands behind the text so far
pub row-written : (a b : Writer (Vec ℕ)) (fields : List (List ℕ)) → WritesRecords a
    → Appends (text_written bytes_held a) (text_written bytes_held b) (row_text (writer_setup a) fields)
    → rows_written false b ≡ rows_written false a ++ row_text default_writer fields
row-written a b fields writes more =
    let e = row_text-any_length fields in
    appended (text_written bytes_held a) (text_written bytes_held b) (row_text default_writer fields) writes.text (rw (writes.setup, e) at more)
