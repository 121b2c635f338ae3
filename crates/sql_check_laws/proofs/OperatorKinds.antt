-- An operator has the kind in SQL that it has in VTL.
use Rattle.std.proofs.Common.{◌≡◌, Bool, true, false, List, [], ◌∷◌, refl, sym, ap, ◌∙◌}
use Rattle.std.specs.Prelude.{if◌then◌else◌}
use Rattle.std.specs.List.{AllByRecursion}
use Rattle.vtl_cell.specs.ScalarKinds.{kinds_of}
use Rattle.vtl_cell.specs.declared.kind.Kind.{Kind}
use Rattle.vtl_cell.specs.declared.kind.Kind.TheVariants as k
use Rattle.vtl_cell.specs.declared.operator.ScalarOp.{ScalarOp}
use Rattle.vtl_cell.specs.declared.operator.ScalarOp.TheVariants as op
use Rattle.vtl_cell.specs.OperatorKinds.{counted_kinds, takes_literals}
use Rattle.sql_check_parts.specs.Kinds.{operator_kind}
use Rattle.sql_check_laws.specs.Operators.{is_short_replace}

pub kind_as_counted : (o : ScalarOp) (first : Kind) (rest : List Kind) → is_short_replace o (first ∷ rest) ≡ false → counted_kinds o rest ≡ rest → operator_kind o (first ∷ rest) ≡ kinds_of o (first ∷ rest)
kind_as_counted op.Replace a (p ∷ []) s h = cc
kind_as_counted o a rest s h = ap (λ kinds. kinds_of o (a ∷ kinds)) h

pub counted_as_given : (o : ScalarOp) (kinds : List Kind) → takes_literals o ≡ false → counted_kinds o kinds ≡ kinds
counted_as_given o [] h = refl
counted_as_given o (x ∷ xs) h = ap (λ b. (if b then k.Int else x) ∷ counted_kinds o xs) h ∙ ap (λ l. x ∷ l) (counted_as_given o xs h)

pub integers_as_given : (o : ScalarOp) (kinds : List Kind) → AllByRecursion (λ kind. kind ≡ k.Int) kinds → counted_kinds o kinds ≡ kinds
integers_as_given o [] h = refl
integers_as_given o (x ∷ xs) h = ap (λ kind. kind ∷ counted_kinds o xs) (go (takes_literals o)) ∙ ap (λ l. x ∷ l) (integers_as_given o xs h.1)
  where
    go : (b : Bool) → (if b then k.Int else x) ≡ x
    go true = sym h.0
    go false = refl
