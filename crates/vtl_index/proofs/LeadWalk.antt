-- A walk along rows in the order of their keys, where the first row of a stretch of one key leads the stretch.
use Rattle.std.proofs.Common.{◌≡◌, ℕ, ◌+◌, ◌<◌, ◌≤◌, inl, inr, true, false, List, [], length, map, get_or, set, replicate, arith, sym, ap, ◌∙◌, subst}
use Rattle.std.proofs.lemmas.Bool.{cases_eq}
use Rattle.std.proofs.lemmas.List.{ext_get_or, get_or-map, get_or-set_other, get_or-set_same, get_or_default, length-map, length-replicate, length-set}
use Rattle.vtl_cell.specs.Row.{Row, same_row}
use Rattle.vtl_cell.proofs.Rows.{same_row-is, same_row-refl}
use Rattle.vtl_rows.specs.Places.{row_at}
use Rattle.vtl_index.specs.FirstRows.{IsFirst, IsKeyOrder}
use Rattle.vtl_index.specs.Leads.{leads_of}
use Rattle.vtl_index.proofs.KeyOrder.{place_of, starts_key, within}
use Rattle.vtl_index.proofs.LeadLemmas.{lead_is, lead_of}

-- the rows before a place of the order have their leads, and the last of them the lead at hand
pub record Walked (keys : ℕ → Row) (n : ℕ) (order : List ℕ) (place lead : ℕ) (leads : List ℕ) : Type 0 where
  pub count : length leads ≡ n
  pub own : 0 < n → IsFirst keys n (keys lead) lead
  pub near : (q : ℕ) → place ≡ q + 1 → same_row (keys lead) (keys (get_or order q 0)) ≡ true
  pub led : (q : ℕ) → q < place → IsFirst keys n (keys (get_or order q 0)) (get_or leads (get_or order q 0) 0)

module _ (keys : ℕ → Row) (n : ℕ) where
  -- the lead of a row leads itself
  leads_itself : (key : Row) (lead : ℕ) → IsFirst keys n key lead → IsFirst keys n (keys lead) lead
  leads_itself key lead first = subst (λ k. IsFirst keys n k lead) (sym (same_row-is (keys lead) key first.here)) first

  module _ (order : List ℕ) where
    pub none_walked : (leads : List ℕ) → leads ≡ replicate n 0 → Walked keys n order 0 0 leads
    none_walked leads e =
        record {
          count = ap length e ∙ length-replicate n 0;
          own = λ h. record { within = h; here = same_row-refl (keys 0); before = λ j less. absurd (omega (arith, less)) };
          near = λ q e. absurd (omega (arith, e));
          led = λ q h. absurd (omega (arith, h));
        }

    module _ (is : IsKeyOrder keys n order) (place lead : ℕ) (leads : List ℕ) (h : place < length order) (walked : Walked keys n order place lead leads) where
      -- the lead at hand leads the row too, if it has its key
      pub same_lead : same_row (keys lead) (keys (get_or order place 0)) ≡ true → IsFirst keys n (keys (get_or order place 0)) lead
      same_lead e =
          let inside = within keys n order is place h in
          subst (λ k. IsFirst keys n k lead) (same_row-is (keys lead) (keys (get_or order place 0)) e) (walked.own (omega (arith, inside)))

      -- and otherwise the row leads itself
      pub new_lead : same_row (keys lead) (keys (get_or order place 0)) ≡ false → IsFirst keys n (keys (get_or order place 0)) (get_or order place 0)
      new_lead e =
          starts_key keys n order is place h
          (λ q next. ap (λ k. same_row k (keys (get_or order place 0))) (sym (same_row-is (keys lead) (keys (get_or order q 0)) (walked.near q next))) ∙ e)

      pub one_walked : (new : ℕ) → IsFirst keys n (keys (get_or order place 0)) new → Walked keys n order (place + 1) new (set leads (get_or order place 0) new)
      one_walked new first =
          record {
            count = length-set leads (get_or order place 0) new ∙ walked.count;
            own = λ some. leads_itself (keys (get_or order place 0)) new first;
            near = λ q e. let here : place ≡ q = omega (arith, e) in subst (λ p. same_row (keys new) (keys (get_or order p 0)) ≡ true) here first.here;
            led = all;
          }
        where
          all : (q : ℕ) → q < place + 1 → IsFirst keys n (keys (get_or order q 0)) (get_or (set leads (get_or order place 0) new) (get_or order q 0) 0)
          all q less = elim (cases_eq (get_or order q 0) (get_or order place 0)) [
            | inl same ↦
                let inside : get_or order place 0 < length leads = (let w = within keys n order is place h in let c = walked.count in omega (arith, w, c)) in
                subst (λ i. IsFirst keys n (keys i) (get_or (set leads (get_or order place 0) new) i 0)) (sym same)
                (subst (IsFirst keys n (keys (get_or order place 0))) (sym (get_or-set_same leads (get_or order place 0) new 0 inside)) first)
            | inr ne ↦
                let before : q < place = (elim (cases_eq q place) [ inl e ↦ absurd (ne (ap (λ p. get_or order p 0) e)) | inr apart ↦ omega (arith, less, apart) ]) in
                subst (IsFirst keys n (keys (get_or order q 0))) (sym (get_or-set_other leads (get_or order place 0) (get_or order q 0) new 0 ne)) (walked.led q before)
          ]

-- ---- all rows have their leads
module _ (key : Row → Row) (rows : List Row) (order : List ℕ) (is : IsKeyOrder (λ j. key (row_at rows j)) (length rows) order) where
  pub all_walked : (place lead : ℕ) (leads : List ℕ) → length order ≤ place → Walked (λ j. key (row_at rows j)) (length rows) order place lead leads → leads ≡ leads_of key rows
  all_walked place lead leads h walked = ext_get_or 0 leads (map (lead_of key rows) rows) (walked.count ∙ sym (length-map rows (lead_of key rows))) each
    where
      each : (i : ℕ) → i < length leads → get_or leads i 0 ≡ get_or (map (lead_of key rows) rows) i 0
      each i less =
          let c = walked.count in
          let inside : i < length rows = omega (arith, less, c) in
          let at = place_of (λ j. key (row_at rows j)) (length rows) order is i inside in
          let is_i : get_or order at.0 0 ≡ i = get_or_default order at.0 0 i at.1 ∙ at.2 in
          let first = subst (λ j. IsFirst (λ k. key (row_at rows k)) (length rows) (key (row_at rows j)) (get_or leads j 0)) is_i (walked.led at.0 (omega (arith, at.1, h))) in
          sym (lead_is key rows i (get_or leads i 0) first) ∙ sym (get_or-map (lead_of key rows) rows i [] 0 inside)
