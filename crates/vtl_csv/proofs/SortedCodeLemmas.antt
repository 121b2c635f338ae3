-- A text is looked up in codes that stand in order.
use Rattle.std.proofs.Common.{◌≡◌, ℕ, ◌<◌, ◌≤◌, inl, inr, List, [], Some, unwrap_or, length, get_or, true, false, Result, Ok, Err, IsSorted, arith, sym, ap, ◌∙◌}
use Rattle.std.specs.Cmp.Lexicographic.{nat_list_cmp_total, nat_list_eq_equiv, slice_cmp, texts_ties}
use Rattle.std.specs.List.{list_any}
use Rattle.std.specs.List.Sorted.{IsBinarySearchResult, IsPermutation, IsSearchInRange}
use Rattle.std.specs.Option.{option_map_or}
use Rattle.std.specs.Ordering.{is_eq, nat_cmp}
use Rattle.std.specs.declared.cmp.Ordering.{Ordering}
use Rattle.std.specs.declared.cmp.Ordering.TheVariants.{Less, Equal, Greater}
use Rattle.std.specs.Result.{is_ok}
use Rattle.std.proofs.lemmas.Bool.{cases_order}
use Rattle.std.proofs.lemmas.List.Folds.{list_any_at, list_any_none}
use Rattle.std.proofs.lemmas.List.Sorted.{list_any-IsPermutation, searchable_from_sorted}
use Rattle.vtl_cell.specs.declared.cell.Cell.{Cell}
use Rattle.vtl_cell.specs.declared.cell.Cell.TheVariants as c
use Rattle.vtl_tree.specs.declared.structure.Component.{Component}
use Rattle.vtl_tree.specs.Structure.{same_name}
use Rattle.vtl_csv.specs.InputFields.{is_coded}
use Rattle.vtl_csv.specs.SortedCodes.{codes_listed}

-- a name is the same as a code where their order says so
same_by_order : (text code : List ℕ) (o : Ordering) → slice_cmp nat_cmp code text ≡ o → same_name text code ≡ is_eq o
same_by_order text code o e = nat_list_eq_equiv.symm text code ∙ texts_ties code text ∙ ap is_eq e

-- what a binary search answers says whether the text is there
pub searched_texts : (codes : List (List ℕ)) (text : List ℕ) (r : Result ℕ ℕ) → IsSorted (slice_cmp nat_cmp) codes → IsSearchInRange r (length codes) → IsBinarySearchResult (λ code. slice_cmp nat_cmp code text) codes r
    → is_ok r ≡ list_any (same_name text) codes
searched_texts codes text (Ok place) rises within there =
    let e : same_name text (get_or codes place text) ≡ true = same_by_order text (get_or codes place text) Equal (there text) in
    sym (list_any_at (same_name text) codes place text within e)
searched_texts codes text (Err place) rises within apart =
    let parts = apart (searchable_from_sorted nat_list_cmp_total (λ code. code) codes text rises) in
    sym (list_any_none (same_name text) codes (λ k d h. go k d h parts.0 parts.1))
  where
    go : (k : ℕ) (d : List ℕ) → k < length codes
        → ((k : ℕ) (d : List ℕ) → 0 ≤ k → k < place → slice_cmp nat_cmp (get_or codes k d) text ≡ Less)
        → ((k : ℕ) (d : List ℕ) → place ≤ k → k < length codes → slice_cmp nat_cmp (get_or codes k d) text ≡ Greater)
        → same_name text (get_or codes k d) ≡ false
    go k d h low high =
        elim (cases_order k place) [
          | inl e ↦ same_by_order text (get_or codes k d) Greater (high k d (omega (arith, e)) h)
          | inr o ↦ elim o [
            | inl less ↦ same_by_order text (get_or codes k d) Less (low k d (omega arith) less)
            | inr more ↦ same_by_order text (get_or codes k d) Greater (high k d (omega (arith, more)) h)
          ]
        ]

-- the codes in order have the same texts as those of the component
pub coded_is : (x : Component) (listed sorted : List (List ℕ)) (text : List ℕ) (cell : Cell) → cell ≡ c.Text text → x.codes ≡ Some listed → IsPermutation (codes_listed x) sorted → list_any (same_name text) sorted ≡ is_coded x cell
coded_is x listed sorted text cell is has same =
    sym (list_any-IsPermutation (same_name text) (codes_listed x) sorted same)
    ∙ ap (λ o. list_any (same_name text) (unwrap_or o [])) has
    ∙ sym (ap (λ o. option_map_or (λ texts. list_any (same_name text) texts) o true) has)
    ∙ sym (ap (is_coded x) is)
