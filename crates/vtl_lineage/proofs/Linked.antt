-- The links by numbers are the links.
use Rattle.std.proofs.Common.{◌≡◌, ℕ, suc, Bool, true, false, cond, List, [], ◌∷◌, ◌++◌, append_assoc, length, length-append, map, Some, option_map, refl, sym, ap, ◌∙◌, arith}
use Rattle.std.specs.Prelude.{slice_get}
use Rattle.std.specs.List.{cons_option, filter, filter_map, flat_map, list_any}
use Rattle.std.specs.Map.{keys_of, set_value}
use Rattle.vtl_tree.specs.Structure.{columns_of, same_name}
use Rattle.vtl_tree.specs.declared.structure.Component.{Component}
use Rattle.vtl_scripts.specs.Meaning.{Statement}
use Rattle.vtl_sources.specs.Lineage.{Past, lineage, operand_of, outputs_lineage, with_sources}
use Rattle.vtl_sources.specs.Links.{Pair, Pairs, component_links, either, is_in, linked, links_of, none, source_of}
use Rattle.vtl_sources.specs.Sources.{Sources, Traced, source_named}
use Rattle.vtl_lineage.specs.Numbers.{merged, numbered, numbered_past, numbered_traced, numbers_of, places_from}
use Rattle.vtl_lineage.specs.Shown.{all_links, component_numbers, numbered_links, output_links}
use Rattle.vtl_lineage.proofs.Kept.{named_same, node_same}
use Rattle.vtl_lineage.proofs.Merging.{numbers_joined}

-- ---- pairs by their numbers
there : (before : Pairs) (q : Pair) (qs : Pairs) → slice_get (before ++ q ∷ qs) (length before) ≡ Some q
there [] q qs = refl
there (p ∷ before) q qs = there before q qs

by_numbers : {A : Type 0} (g : Pair → A) (f : Pair → Bool) (before qs : Pairs) → filter_map (λ i. option_map g (slice_get (before ++ qs) i)) (places_from (length before) f qs) ≡ map g (filter f qs)
by_numbers g f before [] = refl
by_numbers g f before (q ∷ qs) = go (f q) ((λ j. filter_map (λ i. option_map g (slice_get (sym whole j) i)) (places_from (more j) f qs)) ∙ by_numbers g f (before ++ q ∷ []) qs)
  where
    P : Pairs
    P = before ++ q ∷ qs

    whole : (before ++ q ∷ []) ++ qs ≡ P
    whole = append_assoc before (q ∷ []) qs

    more : suc (length before) ≡ length (before ++ q ∷ [])
    more = let l = length-append before (q ∷ []) in omega (arith, l)

    go : (b : Bool) → filter_map (λ i. option_map g (slice_get P i)) (places_from (suc (length before)) f qs) ≡ map g (filter f qs)
        → filter_map (λ i. option_map g (slice_get P i)) (cond b (length before ∷ places_from (suc (length before)) f qs) (places_from (suc (length before)) f qs)) ≡ map g (cond b (q ∷ filter f qs) (filter f qs))
    go true rest = (λ j. cons_option (option_map g (there before q qs j)) (rest j))
    go false rest = rest

module _ (P : Pairs) where
  component_same : (output : List ℕ) (d : Traced Pairs) (x : Component) → numbered_links P output (component_numbers (numbered_traced P d) x) x.name ≡ component_links P output d x
  component_same output d x =
      let one : component_numbers (numbered_traced P d) x ≡ numbers_of P (source_of d x.name) =
      ap (merged (numbers_of P d.sources.points)) (sym (named_same P d x.name)) ∙ sym (numbers_joined P d.sources.points (source_named either none d x.name)) in
      ap (λ ns. numbered_links P output ns x.name) one ∙ by_numbers (linked output x.name) (is_in (source_of d x.name)) [] P

  output_same : (output : List ℕ) (d : Traced Pairs) → output_links P output (numbered_traced P d) ≡ flat_map (component_links P output d) (columns_of d.structure)
  output_same output d = go (columns_of d.structure)
    where
      go : (xs : List Component) → flat_map (λ x. numbered_links P output (component_numbers (numbered_traced P d) x) x.name) xs ≡ flat_map (component_links P output d) xs
      go [] = refl
      go (x ∷ xs) = λ i. component_same output d x i ++ go xs i

  -- ---- results behind one another
  keys_same : (past : Past Pairs) → keys_of (numbered_past P past) ≡ keys_of past
  keys_same [] = refl
  keys_same (e ∷ es) = ap (λ l. e.0 ∷ l) (keys_same es)

  set_same : (past : Past Pairs) (name : List ℕ) (from : Sources Pairs) → numbered_past P (set_value (same_name name) past from) ≡ set_value (same_name name) (numbered_past P past) (numbered P from)
  set_same [] name from = refl
  set_same (e ∷ es) name from = go (same_name name e.0) (set_same es name from)
    where
      go : (b : Bool) → numbered_past P (set_value (same_name name) es from) ≡ set_value (same_name name) (numbered_past P es) (numbered P from)
          → numbered_past P (cond b ((e.0, from) ∷ es) (e ∷ set_value (same_name name) es from)) ≡ cond b ((e.0, numbered P from) ∷ numbered_past P es) ((e.0, numbered P e.1) ∷ set_value (same_name name) (numbered_past P es) (numbered P from))
      go true rest = refl
      go false rest = ap (λ l. (e.0, numbered P e.1) ∷ l) rest

  behind_same : (past : Past Pairs) (name : List ℕ) (from : Sources Pairs) → numbered_past P (past ++ (name, from) ∷ []) ≡ numbered_past P past ++ (name, numbered P from) ∷ []
  behind_same [] name from = refl
  behind_same (e ∷ es) name from = ap (λ l. (e.0, numbered P e.1) ∷ l) (behind_same es name from)

  held_same : (past : Past Pairs) (name : List ℕ) (from : Sources Pairs) → numbered_past P (with_sources past name from) ≡ with_sources (numbered_past P past) name (numbered P from)
  held_same past name from = go (list_any (same_name name) (keys_of past)) ∙ ap (λ b. cond b (set_value (same_name name) (numbered_past P past) (numbered P from)) (numbered_past P past ++ (name, numbered P from) ∷ [])) (ap (list_any (same_name name)) (sym (keys_same past)))
    where
      go : (b : Bool) → numbered_past P (cond b (set_value (same_name name) past from) (past ++ (name, from) ∷ [])) ≡ cond b (set_value (same_name name) (numbered_past P past) (numbered P from)) (numbered_past P past ++ (name, numbered P from) ∷ [])
      go true = set_same past name from
      go false = behind_same past name from

  -- ---- statements
  pub links_same : (past : Past Pairs) (ss : List Statement) → all_links P (numbered_past P past) ss ≡ links_of P (outputs_lineage either none past ss)
  links_same past [] = refl
  links_same past (s ∷ ss) = go s.persistent (ap (λ z. all_links P z ss) next ∙ links_same (with_sources past s.result from) ss)
    where
      from : Sources Pairs
      from = lineage either none past s.node

      d : Traced Pairs
      d = operand_of s.node from

      more : List (List ℕ × Traced Pairs)
      more = outputs_lineage either none (with_sources past s.result from) ss

      own : operand_of s.node (lineage merged [] (numbered_past P past) s.node) ≡ numbered_traced P d
      own = sym (node_same P past s.node)

      next : with_sources (numbered_past P past) s.result (lineage merged [] (numbered_past P past) s.node) ≡ numbered_past P (with_sources past s.result from)
      next = ap (with_sources (numbered_past P past) s.result) (ap (λ z. z.sources) own) ∙ sym (held_same past s.result from)

      first : output_links P s.result (operand_of s.node (lineage merged [] (numbered_past P past) s.node)) ≡ flat_map (component_links P s.result d) (columns_of d.structure)
      first = ap (output_links P s.result) own ∙ output_same s.result d

      go : (b : Bool) → all_links P (with_sources (numbered_past P past) s.result (lineage merged [] (numbered_past P past) s.node)) ss ≡ links_of P more
          → cond b (output_links P s.result (operand_of s.node (lineage merged [] (numbered_past P past) s.node))) [] ++ all_links P (with_sources (numbered_past P past) s.result (lineage merged [] (numbered_past P past) s.node)) ss ≡ links_of P (cond b ((s.result, d) ∷ more) more)
      go true rest = λ i. first i ++ rest i
      go false rest = rest
