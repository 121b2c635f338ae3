-- Files in memory: the last file, the first of a name, and what is left of an opened one.
use Rattle.std.proofs.Common.{◌≡◌, ℕ, ◌+◌, ◌-◌, ◌<◌, ◌≤◌, true, List, [], ◌∷◌, ◌++◌, length, take, drop, get_or, set, Option, Some, None, refl, sym, ap, subst, ◌∙◌, arith, suc, cond, Result, Ok, Err, is_ok, OnOk, if◌then◌else◌}
use Rattle.std.specs.Option.{option_map}
use Rattle.std.specs.List.{slice_get}
use Rattle.std.specs.Str.{bytes_eq}
use Rattle.std.proofs.Math.Seq.{drop-cons, drop-nil, take-append_seam}
use Rattle.std.proofs.lemmas.List.{take-append-drop, length-take, drop-drop}
use Rattle.std.proofs.lemmas.Option.{slice_get-get_or}
use Rattle.vtl_files.specs.declared.mem_files.Opened.{Opened}
use Rattle.vtl_files.specs.Outside.{bytes_at, append_last}
use Rattle.vtl_files.specs.Mem.{from_position, left_of}

-- setting the last file is appending to it
pub set_last : (files : List (List ℕ × List ℕ)) (file : List ℕ × List ℕ) (bytes : List ℕ) →
    file ≡ get_or files (length files - 1) file → set files (length files - 1) (file.0, file.1 ++ bytes) ≡ append_last bytes files
set_last [] file bytes is_last = refl
set_last (first ∷ []) file bytes is_last = ap (λ f. (f.0, f.1 ++ bytes) ∷ []) is_last
set_last (first ∷ next ∷ files) file bytes is_last =
    let one_on : length (first ∷ next ∷ files) - 1 ≡ suc (length (next ∷ files) - 1) = omega arith in
    let last_of_rest : file ≡ get_or (next ∷ files) (length (next ∷ files) - 1) file = is_last ∙ ap (λ i. get_or (first ∷ next ∷ files) i file) one_on in
    ap (λ i. set (first ∷ next ∷ files) i (file.0, file.1 ++ bytes)) one_on ∙ ap (λ more. first ∷ more) (set_last (next ∷ files) file bytes last_of_rest)

-- appending to the bytes of the last file, where that succeeds, is appending to it
pub grown_last : {E : Type 0} (answer : Result Unit E) (files : List (List ℕ × List ℕ)) (count : ℕ) (file : List ℕ × List ℕ) (name before now bytes : List ℕ) →
    count ≡ length files → file ≡ get_or files (count - 1) file → (name, before) ≡ file → now ≡ (if is_ok answer then before ++ bytes else before) →
    OnOk answer (set files (count - 1) (name, now) ≡ append_last bytes files)
grown_last (Ok done) files count file name before now bytes all is_last is_file grown =
    let same_file : (name, before) ≡ get_or files (length files - 1) (name, before) = subst (λ f. f ≡ get_or files (length files - 1) f) (sym is_file) (is_last ∙ ap (λ n. get_or files (n - 1) file) all) in
    ap (λ n. set files (n - 1) (name, now)) all ∙ ap (λ l. set files (length files - 1) (name, l)) grown ∙ set_last files (name, before) bytes same_file
grown_last (Err failed) files count file name before now bytes all is_last is_file grown = tt

-- the file at a place is the first of its name where no earlier one has the name
pub found_at : (name : List ℕ) (files : List (List ℕ × List ℕ)) (place : ℕ) (file : List ℕ × List ℕ) →
    bytes_at name files ≡ bytes_at name (drop place files) → place < length files → file ≡ get_or files place file → true ≡ bytes_eq file.0 name →
    bytes_at name files ≡ option_map (λ f. f.1) (slice_get files place)
found_at name files place file so_far within at_place same_name =
    so_far ∙ ap (bytes_at name) (drop-cons files place file within) ∙ ap (λ f. bytes_at name (f ∷ drop (suc place) files)) (sym at_place)
    ∙ ap (λ b. cond b (Some file.1) (bytes_at name (drop (suc place) files))) (sym same_name)
    ∙ sym (ap (option_map (λ f. f.1)) (slice_get-get_or files place file within ∙ ap Some (sym at_place)))

take-append-drop-nil : (count : ℕ) → ◌≡◌ {A = List ℕ} (take count [] ++ []) []
take-append-drop-nil count = ap (λ l. take count [] ++ l) (sym (drop-nil count)) ∙ take-append-drop count []

from_position-add : (file : Option (List ℕ × List ℕ)) (position count : ℕ) → from_position position file ≡ take count (from_position position file) ++ from_position (position + count) file
from_position-add None position count = sym (take-append-drop-nil count)
from_position-add (Some file) position count =
    sym (take-append-drop count (drop position file.1)) ∙ ap (λ l. take count (drop position file.1) ++ l) (drop-drop count position file.1)

took : (rest copied behind : List ℕ) (count : ℕ) → copied ≡ take count rest → count ≤ length rest → take count (copied ++ behind) ≡ take count rest
took rest copied behind count copied_is within =
    let its_length : length copied ≡ count = ap length copied_is ∙ length-take count rest ∙ omega arith in
    ap (λ n. take n (copied ++ behind)) (sym its_length) ∙ take-append_seam copied behind ∙ copied_is

-- a read moves on by what it took
pub left_after : (files held : List (List ℕ × List ℕ)) (opened : Option Opened) (at : Opened) (rest copied behind : List ℕ) (count : ℕ) →
    opened ≡ Some at → held ≡ files → rest ≡ from_position at.position (slice_get held at.place) → copied ≡ take count rest → count ≤ length rest →
    left_of files opened ≡ take count (copied ++ behind) ++ from_position (at.position + count) (slice_get held at.place)
left_after files held opened at rest copied behind count is_at same rest_is copied_is within =
    ap (left_of files) is_at ∙ ap (λ l. from_position at.position (slice_get l at.place)) (sym same)
    ∙ from_position-add (slice_get held at.place) at.position count
    ∙ ap (λ l. take count l ++ from_position (at.position + count) (slice_get held at.place)) (sym rest_is)
    ∙ ap (λ l. l ++ from_position (at.position + count) (slice_get held at.place)) (sym (took rest copied behind count copied_is within))
