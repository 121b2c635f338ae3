-- A value, or the fault of its evaluation.
use Rattle.std.specs.Prelude.{Result, Ok, Err, Option, Some, None, List, [], ◌∷◌}
use Rattle.vtl_decimal.specs.declared.number.Fault.{Fault}
use Rattle.vtl_decimal.specs.declared.number.Fault.TheVariants.{DivZero, Range}

abbrev pub Outcome : Type 0 → Type 0
Outcome A = Result A Fault

abbrev pub after : {A B : Type 0} → Outcome A → (A → Outcome B) → Outcome B
after (Ok x) f = f x
after (Err e) f = Err e

-- the fault of two: division by zero before a number out of range
abbrev pub join : Option Fault → Option Fault → Option Fault
join None g = g
join (Some DivZero) g = Some DivZero
join (Some Range) None = Some Range
join (Some Range) (Some g) = Some g

abbrev pub fault_in : {A : Type 0} → Outcome A → Option Fault
fault_in (Ok x) = None
fault_in (Err f) = Some f

-- the fault of many
abbrev pub faults_by : {X : Type 0} → (X → Option Fault) → List X → Option Fault
faults_by f [] = None
faults_by f (x ∷ xs) = join (f x) (faults_by f xs)

-- the value, unless there is a fault
abbrev pub unless : {A : Type 0} → Option Fault → A → Outcome A
unless None x = Ok x
unless (Some f) x = Err f
