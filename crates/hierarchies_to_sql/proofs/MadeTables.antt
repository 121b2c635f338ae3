-- Tables by queries over tables that are there, and sources of which some names are not handed on.
use Rattle.std.proofs.Common.{◌≡◌, ℕ, true, List, [], ◌∷◌, ◌++◌, length, Ok, Err, sym, ap, ◌∙◌, subst, append-nil}
use Rattle.vtl_decimal.specs.Settings.{Settings}
use Rattle.vtl_cell.specs.Outcome.{Outcome, after}
use Rattle.vtl_cell.specs.Row.{Row}
use Rattle.vtl_text.specs.Words.{is_word}
use Rattle.vtl_tree.specs.Environment.{DataSet}
use Rattle.vtl_tree.specs.declared.structure.Structure.{Structure}
use Rattle.sql_tree.specs.Trees.{QueryTree, Text}
use Rattle.sql_meaning.specs.Scripts.{Data}
use Rattle.selects_to_sql.specs.Means.{AreThere, Means, NodeGives, SourcesGive}
use Rattle.selects_to_sql.specs.Tables.{Made, Sources, and_then}
use Rattle.selects_to_sql.proofs.Composition.{no_tables}
use Rattle.selects_to_sql.proofs.Running.{run_fault}

-- a query and no table before it
abbrev pub plain : QueryTree → ℕ → Made
plain q n = record { tables = []; query = q; next = n }

pub plain_gives : (p : Settings) (r : Text) (word : is_word r ≡ true) (now : Data) (n : ℕ) (q : QueryTree) (s : Structure) (v : Outcome (List Row)) → Means p now q s v → NodeGives p now r n (plain q n) s v
plain_gives p r word now n q s (Ok points) m = (no_tables p r word now n, subst (λ d. Means p d q s (Ok points)) (sym (append-nil now)) m)
plain_gives p r word now n q s (Err f) m = λ name e. run_fault p now name q s f m ∙ ap (λ x. Err (f, x)) e

-- others behind operands, without the names of these
abbrev pub behind_them : Sources → (ℕ → Sources) → Sources
behind_them a f = record { names = (f a.next).names; tables = (and_then a f).tables; next = (and_then a f).next }

there_back : (now : Data) (xs ys : List Text) (ds es : List DataSet) → length xs ≡ length ds → AreThere now (xs ++ ys) (ds ++ es) → AreThere now ys es
there_back now [] ys [] es e h = h
there_back now [] ys (d ∷ ds) es e h = cc
there_back now (x ∷ xs) ys [] es e h = cc
there_back now (x ∷ xs) ys (d ∷ ds) es e h = let same : length xs ≡ length ds = cc in there_back now xs ys ds es same h.1

pub behind_give : (p : Settings) (before : Data) (r : Text) (n : ℕ) (a : Sources) (f : ℕ → Sources) (ds : List DataSet) (w : Outcome (List DataSet)) → length a.names ≡ length ds → SourcesGive p before r n (and_then a f) (after w (λ es. Ok (ds ++ es))) → SourcesGive p before r n (behind_them a f) w
behind_give p before r n a f ds (Ok es) e g = (
  record { more = g.0.more; ran = g.0.ran; lawful = g.0.lawful; new = g.0.new; counted = g.0.counted },
  there_back _ a.names (f a.next).names ds es e g.1,
)
behind_give p before r n a f ds (Err z) e g = g
