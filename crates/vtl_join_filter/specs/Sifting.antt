-- Points that were asked a condition: those that are kept, and the fault that was seen.
use Rattle.std.specs.Prelude.{◌≡◌, ℕ, ◌*◌, ◌<◌, List, [], ◌++◌, length, Option, None}
use Rattle.vtl_decimal.specs.Settings.{Settings}
use Rattle.vtl_decimal.specs.declared.number.Fault.{Fault}
use Rattle.vtl_cell.specs.Outcome.{join}
use Rattle.vtl_cell.specs.Row.{Row}
use Rattle.vtl_scalar.specs.Seen.{seen_of}
use Rattle.vtl_tree.specs.Clauses.{kept}
use Rattle.vtl_tree.specs.CompExp.{CompExp}
use Rattle.vtl_expr.specs.Prepared.{prepared_exp}
use Rattle.vtl_clause.specs.Walks.{fault_over}
use Rattle.vtl_join.specs.Gatherings.{points_of, width_of}
use Rattle.vtl_join_filter.specs.declared.sieve.Asked.{Asked}
use Rattle.vtl_join_filter.specs.declared.sieve.Sieve.{Sieve}

pub record Sifted : Type 0 where
  pub rows : List Row
  pub fault : Option Fault

abbrev pub nothing_asked : Sifted
nothing_asked = record { rows = []; fault = None }

-- after further points are asked as well
abbrev pub sifted : Settings → CompExp → Sifted → List Row → Sifted
sifted p e s points = record { rows = s.rows ++ kept p e points; fault = join s.fault (fault_over p e points) }

-- ---- in code
abbrev pub asked_of : Asked → Sifted → List Row → Sifted
asked_of a s points = sifted a.profile.now (prepared_exp a.condition) s points

-- what is found at all points so far, those of the tuples that wait among them
abbrev pub so_far : Asked → Sieve → Sifted
so_far a s = asked_of a (record { rows = s.kept.rows; fault = seen_of s.seen }) (points_of a.gathering s.waiting.items)

-- whole tuples wait, and the columns are those of the points
pub record IsReady (a : Asked) (s : Sieve) : Type 0 where
  pub columns : s.kept.columns ≡ a.gathering.columns
  pub some : 0 < width_of a.gathering
  pub whole : (n : ℕ) × (length s.waiting.items ≡ n * width_of a.gathering)

-- no point is asked, and no tuple waits
pub record IsEmpty (s : Sieve) : Type 0 where
  pub rows : s.kept.rows ≡ []
  pub fault : seen_of s.seen ≡ None
  pub waiting : s.waiting.items ≡ []
