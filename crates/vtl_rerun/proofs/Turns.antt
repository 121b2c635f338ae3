-- What is left to do at a place, by what stands there.
use Rattle.std.proofs.Common.{◌≡◌, ℕ, zero, suc, ◌+◌, ◌<◌, cond, List, [], ◌∷◌, drop, set, get_or, length, Option, None, refl, sym, ap, ◌∙◌, arith}
use Rattle.std.proofs.lemmas.List.{drop_more}
use Rattle.vtl_rows.specs.Named.{NamedTables}
use Rattle.vtl_rows.specs.Tables.{Listed}
use Rattle.vtl_rerun.specs.Lost.{left_from}
use Rattle.vtl_rerun.specs.Operands.{any_lost, held_at, with_table, written_behind}
use Rattle.vtl_rerun.specs.declared.part.Part.{Part}

part_here : (i : ℕ) (parts : List Part) (x : Part) → i < length parts → x ≡ get_or parts i x → drop i parts ≡ x ∷ drop (i + 1) parts
part_here i parts x within is = drop_more parts i x within ∙ ap (λ (y : Part). y ∷ drop (i + 1) parts) (sym is)

result_here : (i : ℕ) (rs : List (Option Listed)) → i < length rs → drop i rs ≡ held_at rs i ∷ drop (suc i) rs
result_here i [] h = absurd (omega (arith, h))
result_here zero (r ∷ rs) h = refl
result_here (suc i) (r ∷ rs) h = result_here i rs (omega (arith, h))

pub left_more : (i : ℕ) (replaced : List ℕ) (parts : List Part) (results : List (Option Listed)) (x : Part) → i < length parts → x ≡ get_or parts i x
    → left_from i replaced (drop i parts) results ≡ left_from (i + 1) replaced (drop (i + 1) parts) (cond (any_lost replaced results x.operands.items) (set results i None) results)
left_more i replaced parts results x within is =
    ap (λ l. left_from i replaced l results) (part_here i parts x within is)
    ∙ ap (λ k. left_from k replaced (drop (i + 1) parts) (cond (any_lost replaced results x.operands.items) (set results i None) results)) next
  where
    next : suc i ≡ i + 1
    next = omega arith

pub written_more : (i : ℕ) (outputs : NamedTables) (parts : List Part) (results : List (Option Listed)) (x : Part) → i < length parts → i < length results → x ≡ get_or parts i x
    → written_behind outputs (drop i parts) (drop i results) ≡ written_behind (cond x.is_written (with_table outputs x.name (held_at results i)) outputs) (drop (i + 1) parts) (drop (i + 1) results)
written_more i outputs parts results x within there is =
    ap (λ l. written_behind outputs l (drop i results)) (part_here i parts x within is)
    ∙ ap (λ l. written_behind outputs (x ∷ drop (i + 1) parts) l) (result_here i results there)
    ∙ ap (λ k. written_behind (cond x.is_written (with_table outputs x.name (held_at results i)) outputs) (drop (i + 1) parts) (drop k results)) next
  where
    next : suc i ≡ i + 1
    next = omega arith

-- one part more
pub written_on : (i : ℕ) (outputs now made : NamedTables) (parts : List Part) (results : List (Option Listed)) (x : Part) → i < length parts → i < length results → x ≡ get_or parts i x
    → now ≡ cond x.is_written (with_table outputs x.name (held_at results i)) outputs → written_behind outputs (drop i parts) (drop i results) ≡ made → written_behind now (drop (i + 1) parts) (drop (i + 1) results) ≡ made
written_on i outputs now made parts results x within there is put e =
    ap (λ l. written_behind l (drop (i + 1) parts) (drop (i + 1) results)) put ∙ sym (written_more i outputs parts results x within there is) ∙ e
