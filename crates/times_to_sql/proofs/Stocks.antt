-- The totals at the points of an operand, and the differences from the previous values: a select over the operand's table and the other one.
use Rattle.std.proofs.Common.{◌≡◌, ◌+◌, Bool, true, false, cond, List, [], ◌∷◌, ◌++◌, length, map, Some, None, refl, ap, sym, ◌∙◌, subst, arith}
use Rattle.std.specs.List.{AllByRecursion}
use Rattle.vtl_cell.specs.Literals.{is_null_kind}
use Rattle.vtl_cell.specs.AggregateKinds.{is_number}
use Rattle.vtl_cell.specs.Row.{Row}
use Rattle.vtl_cell.specs.ScalarKinds.{common_kind, kinds_of}
use Rattle.vtl_cell.specs.declared.kind.Kind.{Kind}
use Rattle.vtl_cell.specs.declared.kind.Kind.TheVariants as k
use Rattle.vtl_cell.specs.declared.operator.ScalarOp.TheVariants as op
use Rattle.vtl_decimal.specs.Settings.{Settings}
use Rattle.vtl_tree.specs.Columns.{column_behind, column_named, columns_named, identifiers_of, kind_named, measures_of, others_of, place_of}
use Rattle.vtl_tree.specs.CompExp.{CompExp}
use Rattle.vtl_tree.specs.DataSet.{IsDataSet}
use Rattle.vtl_tree.specs.Kinds.{exp_kind}
use Rattle.vtl_tree.specs.Pairs.{contains}
use Rattle.vtl_tree.specs.Structure.{columns_of}
use Rattle.vtl_tree.specs.declared.structure.Component.{Component}
use Rattle.vtl_tree.specs.declared.structure.Structure.{Structure}
use Rattle.vtl_meaning.specs.Made.{AreAmong, AreFor, IsColumnAt, IsTyped}
use Rattle.vtl_meaning.specs.Operators.{for_measures, pair_of, with_namesake}
use Rattle.vtl_meaning.specs.Points.{each_point, paired, with_points}
use Rattle.vtl_meaning.proofs.Kept.{column_front}
use Rattle.vtl_meaning.proofs.OwnColumns.{among_front, columns_apart, own_identifiers}
use Rattle.vtl_meaning.proofs.Places.{columns_split}
use Rattle.vtl_timing.specs.TimeShapes.{IsFlowed}
use Rattle.sql_tree.specs.Formed.{IsName}
use Rattle.sql_tree.specs.Trees.{Text}
use Rattle.sql_meaning.specs.Scripts.{Data}
use Rattle.selects_to_sql.specs.Queries.{pairs_select}
use Rattle.selects_to_sql.specs.Runs.{IsTable}
use Rattle.selects_to_sql.specs.Writable.{AllCanBeWritten, CanBeWritten, HaveNames}
use Rattle.selects_to_sql.proofs.Exact.{IsExactly}
use Rattle.selects_to_sql.proofs.Expressions.{Translates}
use Rattle.selects_to_sql.proofs.Givens.{AreGiven}
use Rattle.selects_to_sql.proofs.Identifiers.{contained_among, identifiers_there}
use Rattle.selects_to_sql.proofs.OneOperand.{columns_for, columns_written}
use Rattle.selects_to_sql.proofs.Pairs.{column_later}
use Rattle.selects_to_sql.proofs.TwoOperands.{pairs_mean}
use Rattle.times_to_sql.specs.Flows.{flow_query, stock_query}
use Rattle.times_to_sql.specs.Frequencies.{stock_exp, stock_exps}
use Rattle.times_to_sql.proofs.FlowColumns.{IsBoth, columns_made, contains_all, identifiers_same, kept, measures_both, measures_made, same_kind_kept}

-- ---- lists of expressions

for_both : (p : Settings) (xs : List Component) (es fs : List CompExp) (ys zs : List Component) → AreFor p xs es ys → AreFor p xs fs zs → AreFor p xs (es ++ fs) (ys ++ zs)
for_both p xs [] fs [] zs h i = i
for_both p xs [] fs (y ∷ ys) zs h i = absurd h
for_both p xs (e ∷ es) fs [] zs h i = absurd h
for_both p xs (e ∷ es) fs (y ∷ ys) zs h i = (h.0, h.1, for_both p xs es fs ys zs h.2 i)

for_front : (p : Settings) (xs more ys zs : List Component) → AreFor p xs (columns_named xs ys) zs → AreFor p (xs ++ more) (columns_named xs ys) zs
for_front p xs more [] [] h = h
for_front p xs more [] (z ∷ zs) h = h
for_front p xs more (y ∷ ys) [] h = absurd h
for_front p xs more (y ∷ ys) (z ∷ zs) h = (column_front (place_of y.name xs) y.name (kind_named y.name xs) xs more h.0, h.1, for_front p xs more ys zs h.2)

written_both : (es fs : List CompExp) → AllCanBeWritten es → AllCanBeWritten fs → AllCanBeWritten (es ++ fs)
written_both [] fs h i = i
written_both (e ∷ es) fs h i = (h.0, written_both es fs h.1 i)

-- ---- kinds

-- beside NULL a kind stands
null_beside : (kind : Kind) → common_kind (k.Null ∷ kind ∷ []) ≡ Some kind
null_beside k.Null = refl
null_beside k.Bool = refl
null_beside k.Int = refl
null_beside k.Num = refl
null_beside k.Text = refl
null_beside k.Day = refl
null_beside k.Period = refl

difference_kind : (kind : Kind) → is_number kind ≡ true → is_null_kind kind ≡ false → kinds_of op.Subtract (kind ∷ kind ∷ []) ≡ Some kind
difference_kind k.Int n z = refl
difference_kind k.Num n z = refl
difference_kind k.Null n z = cc
difference_kind kind n z = cc

-- ---- the expressions of a result

module _ (p : Settings) (a s : Structure) (i : IsFlowed a s) (given : AreGiven (columns_of s)) where
  abbrev both : List Component
  both = columns_of a ++ columns_of s

  -- an expression for a measure and the one that it becomes
  abbrev IsMade : CompExp → Component → Type 0
  IsMade e y = IsTyped p both e × (exp_kind e ≡ y.kind) × CanBeWritten e

  module _ (f : Component → Component → CompExp) (makes : (x : Component) → IsBoth a s x → IsMade (f x (kept x)) (kept x)) where
    measures_for : (ms : List Component) → AllByRecursion (IsBoth a s) ms → AreFor p both (for_measures f ms (map kept ms)) (map kept ms)
    measures_for [] all = tt
    measures_for (m ∷ ms) all = let it = makes m all.0 in (it.0, it.1, measures_for ms all.1)

    measures_written : (ms : List Component) → AllByRecursion (IsBoth a s) ms → AllCanBeWritten (for_measures f ms (map kept ms))
    measures_written [] all = tt
    measures_written (m ∷ ms) all = ((makes m all.0).2, measures_written ms all.1)

    abbrev made : List CompExp
    made = columns_named (columns_of a) (identifiers_of s) ++ for_measures f (measures_of a) (measures_of s)

    pub made_for : AreFor p both made (columns_of s)
    made_for =
        let own = subst (λ ys. AreAmong ys (columns_of a)) (sym (identifiers_same a s i)) (subst (λ zs. AreAmong (identifiers_of a) zs) (sym (columns_split a)) (among_front (identifiers_of a) (identifiers_of a) (others_of a) (own_identifiers a i.operand))) in
        let first = for_front p (columns_of a) (columns_of s) (identifiers_of s) (identifiers_of s) (columns_for p (columns_of a) (identifiers_of s) (columns_apart a i.operand) own) in
        let second = measures_for (measures_of a) (measures_both a s i given) in
        subst (λ ms. AreFor p both (columns_named (columns_of a) (identifiers_of s) ++ for_measures f (measures_of a) ms) (columns_of s)) (sym (measures_made a s i))
        (subst (AreFor p both (columns_named (columns_of a) (identifiers_of s) ++ for_measures f (measures_of a) (map kept (measures_of a)))) (sym (columns_made a s i))
        (for_both p both (columns_named (columns_of a) (identifiers_of s)) (for_measures f (measures_of a) (map kept (measures_of a))) (identifiers_of s) (map kept (measures_of a)) first second))

    pub made_written : AllCanBeWritten made
    made_written =
        subst (λ ms. AllCanBeWritten (columns_named (columns_of a) (identifiers_of s) ++ for_measures f (measures_of a) ms)) (sym (measures_made a s i))
        (written_both (columns_named (columns_of a) (identifiers_of s)) (for_measures f (measures_of a) (map kept (measures_of a))) (columns_written (columns_of a) (identifiers_of s)) (measures_written (measures_of a) (measures_both a s i given)))

  -- ---- totals

  ours : (x : Component) → IsBoth a s x → IsColumnAt (place_of x.name (columns_of a)) x.name (kind_named x.name (columns_of a)) both
  ours x h = subst (λ kind. IsColumnAt (place_of x.name (columns_of a)) x.name kind both) (sym h.our_kind) (column_front (place_of x.name (columns_of a)) x.name x.kind (columns_of a) (columns_of s) h.ours)

  theirs : (x : Component) → IsBoth a s x → IsColumnAt (length (columns_of a) + place_of x.name (columns_of s)) x.name (kind_named x.name (columns_of s)) both
  theirs x h = subst (λ kind. IsColumnAt (length (columns_of a) + place_of x.name (columns_of s)) x.name kind both) (sym h.made_kind) (column_later (place_of x.name (columns_of s)) x.name x.kind (columns_of a) (columns_of s) h.made)

  stock_made : (x : Component) → IsBoth a s x → IsMade (stock_exp a s x (kept x)) (kept x)
  stock_made x h = (
    (ap (λ kind. common_kind (k.Null ∷ kind ∷ [])) (h.made_kind ∙ sym (same_kind_kept x)) ∙ null_beside (kept x).kind, ((refl, (ours x h, tt), refl), (tt, (theirs x h, tt))), refl),
    refl,
    record { constants = ((tt, tt), (tt, (tt, tt))); shallow = omega arith },
  )

  -- ---- differences

  abbrev flow_exp : Component → Component → CompExp
  flow_exp = with_namesake op.Subtract (column_named (columns_of a)) (column_behind (length (columns_of a)) (columns_of s))

  flow_made : (x : Component) → IsBoth a s x → IsMade (flow_exp x (kept x)) (kept x)
  flow_made x h = (
    ((λ j. kinds_of op.Subtract (h.our_kind j ∷ h.made_kind j ∷ [])) ∙ difference_kind x.kind h.kind.0 h.kind.1 ∙ ap Some (sym (same_kind_kept x)), (ours x h, (theirs x h, tt)), refl),
    refl,
    record { constants = (tt, (tt, tt)); shallow = omega arith },
  )

  -- ---- the queries

  module _ (law : Translates p) (before : Data) (x y : Text) (d e : List Row) (there : IsTable before x a d) (here : IsTable before y s e) (named : IsName x × IsName y) (na : HaveNames (columns_of a)) (set : IsDataSet a d) (other : IsDataSet s e) where
    beside_mean : (es : List CompExp) → AreFor p both es (columns_of s) → AllCanBeWritten es → IsExactly p before (pairs_select p es a s s None x y ∷ []) s (each_point p es (paired (with_points a d) (with_points s e)))
    beside_mean es f w =
        pairs_mean p law before x y a s s d e there here named na given.named set other (identifiers_there a i.operand (identifiers_of s) (contained_among a s (contains_all a s i))) es f w given

    pub stock_means : IsExactly p before (stock_query p a s x y) s (each_point p (stock_exps a s) (paired (with_points a d) (with_points s e)))
    stock_means = beside_mean (stock_exps a s) (made_for (stock_exp a s) stock_made) (made_written (stock_exp a s) stock_made)

    pub flow_means : IsExactly p before (flow_query p a s x y) s (pair_of p op.Subtract (with_points a d) (with_points s e) s)
    flow_means = go (contains a s) (contains_all a s i)
      where
        exps : List CompExp
        exps = columns_named (columns_of a) (identifiers_of s) ++ for_measures flow_exp (measures_of a) (measures_of s)

        either : Bool → List CompExp
        either b = cond b exps (columns_named (columns_of s) (identifiers_of s) ++ for_measures (with_namesake op.Subtract (column_behind (length (columns_of s)) (columns_of a)) (column_named (columns_of s))) (measures_of a) (measures_of s))

        go : (b : Bool) → b ≡ true → IsExactly p before (cond b (pairs_select p (either b) a s s None x y ∷ []) (pairs_select p (either b) s a s None y x ∷ [])) s
            (each_point p (either b) (cond b (paired (with_points a d) (with_points s e)) (paired (with_points s e) (with_points a d))))
        go true h = beside_mean exps (made_for flow_exp flow_made) (made_written flow_exp flow_made)
        go false h = cc
