-- What a reading function of the program answers.
use Rattle.std.specs.Prelude.{◌≡◌, Option, None, Some, Result, Ok, Err}
use Rattle.vtl_grammar.specs.Faults.{kinds}
use Rattle.vtl_grammar.specs.Grammar.{Tokens}
use Rattle.read_parts.specs.declared.front.Front.{Front}
use Rattle.read_parts.specs.declared.front.Unread.{Unread}
use Rattle.read_parts.specs.declared.front.Unread.TheVariants as u

-- what is read and the tokens that are left, as the grammar's reading functions give them
abbrev pub front_view : {A B : Type 0} → (A → B) → Front A → B × Tokens
front_view view front = (view front.part, kinds front.rest.now)

abbrev pub same : {A : Type 0} → A → A
same x = x

-- the second part of a pair seen as it is, the first by a view
abbrev pub first_by : {A B C : Type 0} → (A → B) → A × C → B × C
first_by view p = (view p.0, p.1)

-- the answer is what reading gives, by a view of what was read; want of memory may come in any case
abbrev pub ReadsBy : {A B : Type 0} → (A → B) → Option (B × Tokens) → Result (Front A) Unread → Type 0
ReadsBy view reading (Ok front) = reading ≡ Some (front_view view front)
ReadsBy view reading (Err u.Absent) = reading ≡ None
ReadsBy view reading (Err u.OutOfMemory) = Unit {0}

-- the same for a part that the program has as the grammar has it
abbrev pub ReadsAs : {A : Type 0} → Option (A × Tokens) → Result (Front A) Unread → Type 0
ReadsAs = ReadsBy same
