-- What is left of a file that is opened for reading, and how planned calls go.
use Rattle.std.specs.Prelude.{◌≡◌, ℕ, ◌+◌, ◌-◌, ◌^◌, ◌≤◌, min, Bool, true, false, List, [], Option, Some, None, Result, IsErr, IfOk, Contains, slice_get, drop}
use Rattle.vtl_files.specs.declared.failed.Failed.{Failed}
use Rattle.vtl_files.specs.declared.mem_files.Calls.{Calls}
use Rattle.vtl_files.specs.declared.mem_files.Opened.{Opened}
use Rattle.vtl_files.specs.declared.plan.FailAt.{FailAt}
use Rattle.vtl_files.specs.declared.plan.Method.{Method}
use Rattle.vtl_files.specs.declared.plan.Method.TheVariants as m

abbrev pub from_position : ℕ → Option (List ℕ × List ℕ) → List ℕ
from_position position None = []
from_position position (Some file) = drop position file.1

abbrev pub left_of : List (List ℕ × List ℕ) → Option Opened → List ℕ
left_of files None = []
left_of files (Some opened) = from_position opened.position (slice_get files opened.place)

-- ---- planned calls of files
-- how many bytes a call may move, the calls that fail, and how often each method was called
pub record Plan : Type 0 where
  pub chunk : ℕ
  pub fail : List FailAt
  pub calls : Calls

-- a count with one more; it stays at the last value of its type
abbrev pub one_more : ℕ → ℕ
one_more count = min (count + 1) (2 ^ 64 - 1)

abbrev pub calls_of : Method → Calls → ℕ
calls_of m.Open calls = calls.«open»
calls_of m.Read calls = calls.read
calls_of m.Create calls = calls.create
calls_of m.Write calls = calls.write
calls_of m.Finish calls = calls.finish

-- the counts with one more call of a method
abbrev pub counted : Method → Calls → Calls
counted m.Open calls = record calls { «open» = one_more calls.«open» }
counted m.Read calls = record calls { read = one_more calls.read }
counted m.Create calls = record calls { create = one_more calls.create }
counted m.Write calls = record calls { write = one_more calls.write }
counted m.Finish calls = record calls { finish = one_more calls.finish }

-- the next call of a method is one of those that fail
abbrev pub IsListed : Method → Plan → Type 0
IsListed method plan = Contains plan.fail (record { method = method; number = one_more (calls_of method plan.calls) })

-- Where a plan is told, a call of a method is counted, and it fails where it is listed.
abbrev pub Follows : {A : Type 0} → Method → Option Plan → Option Plan → Result A Failed → Type 0
Follows method None now answer = now ≡ None
Follows method (Some plan) now answer = (now ≡ Some (record plan { calls = counted method plan.calls })) × (IsListed method plan → IsErr answer)

-- A read goes so where a file is opened; otherwise it does not count.
abbrev pub ReadFollows : (opened : Bool) → Option Plan → Option Plan → Result ℕ Failed → Type 0
ReadFollows true before now answer = Follows m.Read before now answer
ReadFollows false before now answer = now ≡ before

-- Where a plan is told, a call moves no more bytes than it may.
abbrev pub MovesFew : Option Plan → Result ℕ Failed → Type 0
MovesFew None answer = Unit {0}
MovesFew (Some plan) answer = IfOk answer (λ count. count ≤ plan.chunk)

-- ---- planned calls of a sink
-- how many bytes a call may take, the calls that fail, and how often it was called
pub record SinkPlan : Type 0 where
  pub chunk : ℕ
  pub fail : List ℕ
  pub calls : ℕ

-- Where a plan is told, a call is counted, it fails where it is listed, and takes no more bytes than it may.
abbrev pub TakesBy : Option SinkPlan → Option SinkPlan → Result ℕ Failed → Type 0
TakesBy None now answer = now ≡ None
TakesBy (Some plan) now answer =
    (now ≡ Some (record plan { calls = one_more plan.calls })) × (Contains plan.fail (one_more plan.calls) → IsErr answer)
    × IfOk answer (λ count. count ≤ plan.chunk)
