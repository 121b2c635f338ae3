-- What is read is a value of its kind.
use Rattle.std.proofs.Common.{◌≡◌, ℕ, List, true, false, Option, Some, None, refl}
use Rattle.std.specs.Prelude.{chars, option_map}
use Rattle.vtl_decimal.specs.Numeral.{number_read, integer_read}
use Rattle.vtl_decimal.specs.Settings.{Settings}
use Rattle.vtl_time.specs.Days.{read_day_of}
use Rattle.vtl_time.specs.Periods.{read_period_of}
use Rattle.vtl_cell.specs.declared.cell.Cell.{Cell}
use Rattle.vtl_cell.specs.declared.cell.Cell.TheVariants as c
use Rattle.vtl_cell.specs.declared.kind.Kind.{Kind}
use Rattle.vtl_cell.specs.declared.kind.Kind.TheVariants as k
use Rattle.vtl_cell.specs.Kinds.{is_null, is_of}
use Rattle.vtl_cell.specs.Reading.{bool_read, reads}

-- what holds of every value of a form holds of the one that is there
mapped : {A : Type 0} (f : A → Cell) (P : Cell → Type 0) → ((x : A) → P (f x)) → (o : Option A) (v : Cell) → option_map f o ≡ Some v → P v
mapped f P all None v e = cc
mapped f P all (Some x) v e = let same : f x ≡ v = cc in rw same at (all x)

-- a value of the kind, and not null
abbrev IsValue : Kind → Cell → Type 0
IsValue kind v = (is_of kind v ≡ true) × (is_null v ≡ false)

pub read_kind : (p : Settings) (kind : Kind) (t : List ℕ) (v : Cell) → reads p kind t ≡ Some v → IsValue kind v
read_kind p k.Null t v e = cc
read_kind p k.Bool t v e = mapped c.Bool (IsValue k.Bool) (λ x. (refl, refl)) (bool_read t) v e
read_kind p k.Int t v e = mapped c.Int (IsValue k.Int) (λ x. (refl, refl)) (integer_read p.scale t) v e
read_kind p k.Num t v e = mapped c.Num (IsValue k.Num) (λ x. (refl, refl)) (number_read p t) v e
read_kind p k.Text t v e = mapped c.Text (IsValue k.Text) (λ x. (refl, refl)) (Some (chars t)) v e
read_kind p k.Day t v e = mapped c.Day (IsValue k.Day) (λ x. (refl, refl)) (read_day_of (chars t)) v e
read_kind p k.Period t v e = mapped c.Period (IsValue k.Period) (λ x. (refl, refl)) (read_period_of (chars t)) v e
