-- The law for scripts: all statements, one behind the other.
use Rattle.lineage_laws.proofs.Nodes.{node_agrees}
use Rattle.lineage_laws.specs.Agree.{Agreeing, IsKnown, Known, OutputsAgree}
use Rattle.std.proofs.Common.{◌≡◌, ℕ, Bool, true, false, cond, ◌||◌, List, [], ◌∷◌, ◌++◌, Some, Result, Ok, Err, refl, sym, ap, ◌∙◌, subst, true≢false}
use Rattle.std.specs.List.{list_any}
use Rattle.std.specs.Map.{keys_of, lookup, set_value}
use Rattle.std.specs.Option.{option_map_or}
use Rattle.vtl_cell.specs.Outcome.{Outcome, after}
use Rattle.vtl_cell.specs.Row.{Row}
use Rattle.vtl_decimal.specs.Settings.{Settings}
use Rattle.vtl_decimal.specs.declared.number.Fault.{Fault}
use Rattle.vtl_meaning.proofs.Places.{same_name-is, same_name-sym}
use Rattle.vtl_meaning.specs.Points.{with_points}
use Rattle.vtl_scripts.proofs.ScriptsKept.{node_kept}
use Rattle.vtl_scripts.specs.Made.{AreMadeStatements, IsMade}
use Rattle.vtl_scripts.specs.Meaning.{AreDataSets, Outputs, Statement, meaning, node_value, stated, with_output}
use Rattle.vtl_tree.specs.DataSet.{IsDataSet}
use Rattle.vtl_tree.specs.Environment.{Environment, data_of, known_in, points_named}
use Rattle.vtl_tree.specs.Structure.{same_name}
use Rattle.vtl_tree.specs.Trees.{structure_of}
use Rattle.vtl_tree.specs.declared.structure.Structure.{Structure}
use Rattle.vtl_sources.specs.Lineage.{with_sources}
use Rattle.vtl_sources.specs.Sources.{sources}
use Rattle.lineage_laws.specs.Over.{Found, Operand, Past, columns_from, found_named, lineage, no_pairs, operand_of, outputs_lineage}

-- what is held under each name agrees, as far as it is known
abbrev pub EnvironmentsAgree : Known → Past → Environment → Environment → Type 0
EnvironmentsAgree known past env other = (name : List ℕ) (s : Structure) → lookup (same_name name) (known_in env) ≡ Some s → IsKnown known (found_named name past).points → Agreeing known (columns_from s (found_named name past)) (points_named name env) (points_named name other)

-- what is looked up where one data set is put in the place of one of its name, or behind the others
found_now : (past : Past) (result name : List ℕ) (from : Found) → lookup (same_name name) (with_sources past result from) ≡ cond (same_name name result) (Some from) (lookup (same_name name) past)
found_now past result name from = go (list_any (same_name result) (keys_of past)) refl
  where
    replaced : (es : Past) → list_any (same_name result) (keys_of es) ≡ true → lookup (same_name name) (set_value (same_name result) es from) ≡ cond (same_name name result) (Some from) (lookup (same_name name) es)
    replaced [] e = absurd (true≢false (sym e))
    replaced (x ∷ es) e = at (same_name result x.0) refl e (replaced es)
      where
        at : (b : Bool) → same_name result x.0 ≡ b → (b || list_any (same_name result) (keys_of es)) ≡ true → (list_any (same_name result) (keys_of es) ≡ true → lookup (same_name name) (set_value (same_name result) es from) ≡ cond (same_name name result) (Some from) (lookup (same_name name) es))
            → lookup (same_name name) (cond b ((x.0, from) ∷ es) (x ∷ set_value (same_name result) es from)) ≡ cond (same_name name result) (Some from) (lookup (same_name name) (x ∷ es))
        at true f e ih =
            let here : result ≡ x.0 = same_name-is result x.0 f in
            two (same_name name x.0) (same_name name result) (ap (same_name name) (sym here))
          where
            two : (b c : Bool) → b ≡ c → cond b (Some from) (lookup (same_name name) es) ≡ cond c (Some from) (cond b (Some x.1) (lookup (same_name name) es))
            two true true g = refl
            two false false g = refl
            two true false g = cc
            two false true g = cc
        at false f e ih = apart (same_name name x.0) refl (same_name name result) refl (ih e)
          where
            apart : (b : Bool) → same_name name x.0 ≡ b → (c : Bool) → same_name name result ≡ c → lookup (same_name name) (set_value (same_name result) es from) ≡ cond c (Some from) (lookup (same_name name) es)
                → cond b (Some x.1) (lookup (same_name name) (set_value (same_name result) es from)) ≡ cond c (Some from) (cond b (Some x.1) (lookup (same_name name) es))
            apart false g c k ih = ih
            apart true g false k ih = refl
            apart true g true k ih =
                let one : name ≡ x.0 = same_name-is name x.0 g in
                let two : name ≡ result = same_name-is name result k in
                absurd (true≢false (sym (ap (λ n. same_name n x.0) (sym two) ∙ g) ∙ f))

    behind : (es : Past) → list_any (same_name result) (keys_of es) ≡ false → lookup (same_name name) (es ++ (result, from) ∷ []) ≡ cond (same_name name result) (Some from) (lookup (same_name name) es)
    behind [] e = refl
    behind (x ∷ es) e = at (same_name result x.0) refl e (behind es)
      where
        at : (b : Bool) → same_name result x.0 ≡ b → (b || list_any (same_name result) (keys_of es)) ≡ false → (list_any (same_name result) (keys_of es) ≡ false → lookup (same_name name) (es ++ (result, from) ∷ []) ≡ cond (same_name name result) (Some from) (lookup (same_name name) es))
            → cond (same_name name x.0) (Some x.1) (lookup (same_name name) (es ++ (result, from) ∷ [])) ≡ cond (same_name name result) (Some from) (cond (same_name name x.0) (Some x.1) (lookup (same_name name) es))
        at true f e ih = absurd (true≢false e)
        at false f e ih = apart (same_name name x.0) refl (same_name name result) refl (ih e)
          where
            apart : (b : Bool) → same_name name x.0 ≡ b → (c : Bool) → same_name name result ≡ c → lookup (same_name name) (es ++ (result, from) ∷ []) ≡ cond c (Some from) (lookup (same_name name) es)
                → cond b (Some x.1) (lookup (same_name name) (es ++ (result, from) ∷ [])) ≡ cond c (Some from) (cond b (Some x.1) (lookup (same_name name) es))
            apart false g c k ih = ih
            apart true g false k ih = refl
            apart true g true k ih =
                let two : name ≡ result = same_name-is name result k in
                absurd (true≢false (sym (ap (λ n. same_name n x.0) (sym two) ∙ g) ∙ f))

    go : (b : Bool) → list_any (same_name result) (keys_of past) ≡ b → lookup (same_name name) (cond b (set_value (same_name result) past from) (past ++ (result, from) ∷ [])) ≡ cond (same_name name result) (Some from) (lookup (same_name name) past)
    go true e = replaced past e
    go false e = behind past e

-- one more result
with_result : (known : Known) (past : Past) (env other : Environment) (result : List ℕ) (a : Structure) (from : Found) (d t : List Row) → (IsKnown known from.points → Agreeing known (columns_from a from) d t) → EnvironmentsAgree known past env other
    → EnvironmentsAgree known (with_sources past result from) ((result, with_points a d) ∷ env) ((result, with_points a t) ∷ other)
with_result known past env other result a from d t g h name s e k =
    let held : found_named name (with_sources past result from) ≡ option_map_or (λ f. f) (cond (same_name name result) (Some from) (lookup (same_name name) past)) (sources no_pairs []) = ap (λ o. option_map_or (λ f. f) o (sources no_pairs [])) (found_now past result name from) in
    subst (λ z. Agreeing known (columns_from s z) (points_named name ((result, with_points a d) ∷ env)) (points_named name ((result, with_points a t) ∷ other))) (sym held)
    (go (same_name result name) (same_name name result) (same_name-sym result name) e (subst (λ z. IsKnown known z.points) held k))
  where
    Held : Bool → Bool → Type 0
    Held b l = (cond l (Some a) (lookup (same_name name) (known_in env)) ≡ Some s) → IsKnown known (option_map_or (λ f. f) (cond l (Some from) (lookup (same_name name) past)) (sources no_pairs [])).points
        → Agreeing known (columns_from s (option_map_or (λ f. f) (cond l (Some from) (lookup (same_name name) past)) (sources no_pairs []))) (option_map_or (λ z. z.points) (cond b (Some (with_points a d)) (data_of name env)) []) (option_map_or (λ z. z.points) (cond b (Some (with_points a t)) (data_of name other)) [])

    go : (b l : Bool) → b ≡ l → Held b l
    go true true q e k = let same : a ≡ s = cc in subst (λ z. Agreeing known (columns_from z from) d t) same (g k)
    go false false q e k = h name s e k
    go true false q e k = cc
    go false true q e k = cc

module _ (p : Settings) (known : Known) where
  written : (name : List ℕ) (o : Operand) (ls : List (List ℕ × Operand)) (d t : List Row) (m n : Result Outputs (Fault × List ℕ)) (out other : Outputs) → (IsKnown known o.sources.points → Agreeing known (columns_from o.structure o.sources) d t)
      → ((us vs : Outputs) → m ≡ Ok us → n ≡ Ok vs → OutputsAgree known ls us vs) → with_output name (with_points o.structure d) m ≡ Ok out → with_output name (with_points o.structure t) n ≡ Ok other → OutputsAgree known ((name, o) ∷ ls) out other
  written name o ls d t (Ok us) (Ok vs) out other g ih e f =
      let one : ((name, with_points o.structure d) ∷ us) ≡ out = cc in
      let two : ((name, with_points o.structure t) ∷ vs) ≡ other = cc in
      subst (λ z. OutputsAgree known ((name, o) ∷ ls) z other) one (subst (λ z. OutputsAgree known ((name, o) ∷ ls) ((name, with_points o.structure d) ∷ us) z) two (refl, refl, refl, refl, g, ih us vs refl refl))
  written name o ls d t (Err x) n out other g ih e f = cc
  written name o ls d t (Ok us) (Err x) out other g ih e f = cc

  pub outputs_agree : (ss : List Statement) (past : Past) (env other : Environment) → AreMadeStatements p (known_in env) ss → AreDataSets env → AreDataSets other → known_in other ≡ known_in env → EnvironmentsAgree known past env other
      → (out outs : Outputs) → meaning p ss env ≡ Ok out → meaning p ss other ≡ Ok outs → OutputsAgree known (outputs_lineage past ss) out outs
  outputs_agree [] past env other i he ho alike g out outs e f =
      let one : [] ≡ out = cc in
      let two : [] ≡ outs = cc in
      subst (λ z. OutputsAgree known [] z outs) one (subst (λ z. OutputsAgree known [] [] z) two tt)
  outputs_agree (s ∷ rest) past env other i he ho alike g out outs e f =
      go (node_value p env s.node) (node_value p other s.node) refl refl
      (λ d t hd ht ag. outputs_agree rest (with_sources past s.result from) ((s.result, with_points a d) ∷ env) ((s.result, with_points a t) ∷ other) i.1 (hd, he) (ht, ho) (ap (λ k. (s.result, a) ∷ k) alike) (with_result known past env other s.result a from d t ag g))
      e f
    where
      a : Structure
      a = structure_of s.node

      from : Found
      from = lineage past s.node

      more : List (List ℕ × Operand)
      more = outputs_lineage (with_sources past s.result from) rest

      Rest : Environment → List Row → Result Outputs (Fault × List ℕ)
      Rest en d = meaning p rest ((s.result, with_points a d) ∷ en)

      kept : (t : Bool) (x y : List Row) → (IsKnown known from.points → Agreeing known (columns_from a from) x y) → ((us vs : Outputs) → Rest env x ≡ Ok us → Rest other y ≡ Ok vs → OutputsAgree known more us vs)
          → cond t (with_output s.result (with_points a x) (Rest env x)) (Rest env x) ≡ Ok out → cond t (with_output s.result (with_points a y) (Rest other y)) (Rest other y) ≡ Ok outs → OutputsAgree known (cond t ((s.result, operand_of s.node from) ∷ more) more) out outs
      kept true x y ag ih k l = written s.result (operand_of s.node from) more x y (Rest env x) (Rest other y) out outs ag ih k l
      kept false x y ag ih k l = ih out outs k l

      go : (m n : Outcome (List Row)) → node_value p env s.node ≡ m → node_value p other s.node ≡ n
          → ((d t : List Row) → IsDataSet a d → IsDataSet a t → (IsKnown known from.points → Agreeing known (columns_from a from) d t) → (us vs : Outputs) → Rest env d ≡ Ok us → Rest other t ≡ Ok vs → OutputsAgree known more us vs)
          → stated s (after m (λ d. Ok (with_points a d))) (λ d. meaning p rest ((s.result, d) ∷ env)) ≡ Ok out → stated s (after n (λ d. Ok (with_points a d))) (λ d. meaning p rest ((s.result, d) ∷ other)) ≡ Ok outs → OutputsAgree known (cond s.persistent ((s.result, operand_of s.node from) ∷ more) more) out outs
      go (Ok d) (Ok t) x y ih k l =
          let hd = node_kept p env s.node d i.0 he x in
          let ht = node_kept p other s.node t (subst (λ z. IsMade p z s.node) (sym alike) i.0) ho y in
          let ag : IsKnown known from.points → Agreeing known (columns_from a from) d t = λ w. node_agrees p known past env other he ho alike g s.node i.0 d t w x y in
          kept s.persistent d t ag (ih d t hd ht ag) k l
      go (Err v) n x y ih k l = cc
      go (Ok d) (Err v) x y ih k l = cc
