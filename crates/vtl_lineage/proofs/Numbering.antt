-- The links to the pairs of numbers, one after the other.
use Rattle.std.proofs.Common.{◌≡◌, ℕ, ◌+◌, ◌<◌, List, [], ◌∷◌, ◌++◌, append_assoc, get_or, length, take, None, Some, option_map, ap, sym, ◌∙◌}
use Rattle.std.specs.Prelude.{slice_get}
use Rattle.std.specs.Borrow.{Bor}
use Rattle.std.specs.List.{cons_option}
use Rattle.std.proofs.lemmas.List.{take_more}
use Rattle.std.proofs.lemmas.List.Elements.{filter_map-append}
use Rattle.std.proofs.lemmas.Option.{slice_get-map}
use Rattle.vtl_sources.specs.Links.{Linked, Pairs, linked}
use Rattle.vtl_lineage.specs.Numbers.{Numbers}
use Rattle.vtl_lineage.specs.Shown.{lent_pairs, numbered_links, pair_lent}

abbrev Lent : Type 0
Lent = Bor (List ℕ) × Bor (List ℕ)

module _ (pairs : List Lent) (output component : List ℕ) (i : ℕ) where
  pub one_numbered : (p : Lent) → Some p ≡ slice_get pairs i → numbered_links (lent_pairs pairs) output (i ∷ []) component ≡ linked output component (pair_lent p) ∷ []
  one_numbered p e =
      ap (λ o. cons_option (option_map (linked output component) o) []) (slice_get-map pair_lent pairs i ∙ ap (option_map pair_lent) (sym e))

  pub none_numbered : None ≡ slice_get pairs i → numbered_links (lent_pairs pairs) output (i ∷ []) component ≡ []
  none_numbered e =
      ap (λ o. cons_option (option_map (linked output component) o) []) (slice_get-map pair_lent pairs i ∙ ap (option_map pair_lent) (sym e))

pub numbered_more : (pairs : Pairs) (output component : List ℕ) (ns : Numbers) (i d : ℕ) → i < length ns
    → numbered_links pairs output (take (i + 1) ns) component ≡ numbered_links pairs output (take i ns) component ++ numbered_links pairs output (get_or ns i d ∷ []) component
numbered_more pairs output component ns i d h =
    ap (λ l. numbered_links pairs output l component) (take_more ns i d h)
    ∙ filter_map-append (λ (k : ℕ). option_map (linked output component) (slice_get pairs k)) (take i ns) (get_or ns i d ∷ [])

pub numbered_step : (pairs : Pairs) (output component : List ℕ) (ns : Numbers) (i d : ℕ) (before middle after : List Linked) → i < length ns
    → middle ≡ before ++ numbered_links pairs output (take i ns) component → after ≡ middle ++ numbered_links pairs output (get_or ns i d ∷ []) component
    → after ≡ before ++ numbered_links pairs output (take (i + 1) ns) component
numbered_step pairs output component ns i d before middle after h m a =
    let front = numbered_links pairs output (take i ns) component in
    let own = numbered_links pairs output (get_or ns i d ∷ []) component in
    a ∙ ap (λ l. l ++ own) m ∙ append_assoc before front own ∙ ap (λ l. before ++ l) (sym (numbered_more pairs output component ns i d h))
