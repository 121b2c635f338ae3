-- One statement more: its data set is held, and its table is written.
use Rattle.std.proofs.Common.{◌≡◌, ℕ, Bool, true, false, cond, List, [], ◌∷◌, ◌++◌, Option, Result, Ok, Err, refl, sym, ap, subst, ◌∙◌, append_assoc}
use Rattle.std.specs.Prelude.{MatchBool}
use Rattle.std.specs.List.{list_any}
use Rattle.std.specs.Map.{keys_of, lookup}
use Rattle.std.specs.Option.{option_map}
use Rattle.std.proofs.lemmas.List.{append-nil, map-append}
use Rattle.vtl_lists.proofs.Alls.{all_more}
use Rattle.vtl_decimal.specs.Settings.{Settings}
use Rattle.vtl_decimal.specs.declared.number.Fault.{Fault}
use Rattle.vtl_cell.specs.Outcome.{after}
use Rattle.vtl_cell.specs.Row.{Row}
use Rattle.vtl_rows.specs.Named.{NamedTables}
use Rattle.vtl_rows.specs.Tables.{Listed}
use Rattle.vtl_tree.specs.Environment.{DataSet, Environment, data_of, known_in}
use Rattle.vtl_tree.specs.Structure.{same_name}
use Rattle.vtl_tree.specs.declared.structure.Structure.{Structure}
use Rattle.vtl_tree.specs.Trees.{structure_of}
use Rattle.vtl_scripts.specs.Meaning.{Outputs, Statement, data_set_of, kept_output, meaning, node_value, stated, with_output}
use Rattle.check_laws.specs.Scripts.{AreKnownAlike}
use Rattle.vtl_backend.specs.Runs.{ShowAll, ShowMeaning}
use Rattle.vtl_backend.specs.Tables.{Shows}
use Rattle.vtl_interp.specs.Evaluated.{Gives}
use Rattle.vtl_interp.specs.Results.{AreNew, AreReady, Remain, behind}
use Rattle.vtl_interp.specs.Written.{IsBehind, IsWritten}
use Rattle.vtl_interp.proofs.Environments.{data_looked, known_looked}
use Rattle.vtl_interp.proofs.NamesRead.{SameData, meaning_same, names_read, statements_made_same}
use Rattle.vtl_interp.proofs.Scripts.{new_among_fewer, none_of_each}

-- what a statement leaves of the data sets: those that the statements behind it read
pub record IsStep (p : Settings) (before now : Environment) (tables more : NamedTables) (s : Statement) (rest : List Statement) : Type 0 where
  pub made : DataSet
  pub gives : Gives p before s.node made
  pub kept : SameData ((s.result, made) ∷ before) now (names_read rest)
  pub written : IsWritten s.persistent s.result made tables more

-- the same data sets have the same structures
known_same : (e f : Environment) (names : List (List ℕ)) → SameData e f names → AreKnownAlike (known_in e) (known_in f) names
known_same e f names h =
    all_more (λ name. data_of name e ≡ data_of name f) (λ name. lookup (same_name name) (known_in e) ≡ lookup (same_name name) (known_in f))
    (λ name same. known_looked name e ∙ ap (λ (o : Option DataSet). option_map (λ d. d.structure) o) (sym (data_looked name e) ∙ same ∙ data_looked name f) ∙ sym (known_looked name f)) names h

-- ---- the tables
-- one more table shows one more output
shown_more : (ds : Outputs) (tables : NamedTables) (name : List ℕ) (d : DataSet) (t : Listed) → ShowAll ds tables → Shows d t → ShowAll (ds ++ (name, d) ∷ []) (tables ++ (name, t) ∷ [])
shown_more [] [] name d t h s = (refl, s, tt)
shown_more [] (y ∷ ys) name d t h s = absurd h
shown_more (x ∷ xs) [] name d t h s = absurd h
shown_more (x ∷ xs) (y ∷ ys) name d t h s = (h.0, h.1, shown_more xs ys name d t h.2 s)

-- names that no table has, nor the one that is written
still_new : (s : Statement) (d : DataSet) (tables more : NamedTables) (rest : List Statement) → IsWritten s.persistent s.result d tables more → AreNew (keys_of tables ++ s.result ∷ []) rest → AreNew (keys_of more) rest
still_new s d tables more rest w new = go s.persistent w
  where
    go : (b : Bool) → MatchBool b (IsBehind s.result d tables more) (more ≡ tables) → AreNew (keys_of more) rest
    go true w = subst (λ (l : List (List ℕ)). AreNew l rest) (sym (ap keys_of w.behind ∙ map-append (λ (x : List ℕ × Listed). x.0) tables ((s.result, w.table) ∷ []))) new
    go false w =
        new_among_fewer (keys_of more) (keys_of tables ++ s.result ∷ []) rest
        (λ name h. ap (λ (l : NamedTables). list_any (same_name name) (keys_of l)) w ∙ (none_of_each (keys_of tables) (s.result ∷ []) name h).0) new

-- ---- the meaning
behind_more : (front : Outputs) (name : List ℕ) (d : DataSet) (m : Result Outputs (Fault × List ℕ)) → behind (front ++ (name, d) ∷ []) m ≡ behind front (with_output name d m)
behind_more front name d (Ok out) = ap Ok (append_assoc front ((name, d) ∷ []) out)
behind_more front name d (Err f) = refl

-- the data set that a statement gives is its value
given : (p : Settings) (env : Environment) (s : Statement) (d : DataSet) → Gives p env s.node d → data_set_of p env s.node ≡ Ok d
given p env s d g =
    ap (λ (r : Result (List Row) Fault). after r (λ points. Ok (record { structure = structure_of s.node; points = points }))) g.points
    ∙ ap (λ (t : Structure). Ok (record { structure = t; points = d.points })) (sym g.structure)

pub meaning_step : (p : Settings) (before now : Environment) (tables more : NamedTables) (s : Statement) (rest : List Statement) (whole : Result Outputs (Fault × List ℕ)) → IsStep p before now tables more s rest
    → Remain whole (meaning p (s ∷ rest) before) tables → Remain whole (meaning p rest now) more
meaning_step p before now tables more s rest whole step r = go s.persistent step.written (ap (behind r.front) (sym value) ∙ r.whole)
  where
    d : DataSet
    d = step.made

    value : meaning p (s ∷ rest) before ≡ kept_output s d (meaning p rest now)
    value =
        ap (λ (o : Result DataSet Fault). stated s o (λ x. meaning p rest ((s.result, x) ∷ before))) (given p before s d step.gives)
        ∙ ap (kept_output s d) (meaning_same p rest ((s.result, d) ∷ before) now step.kept)

    go : (b : Bool) → MatchBool b (IsBehind s.result d tables more) (more ≡ tables) → behind r.front (cond b (with_output s.result d (meaning p rest now)) (meaning p rest now)) ≡ whole → Remain whole (meaning p rest now) more
    go true w h =
        record {
          front = r.front ++ (s.result, d) ∷ [];
          shows = subst (ShowAll (r.front ++ (s.result, d) ∷ [])) (sym w.behind) (shown_more r.front tables s.result d w.table r.shows w.shows);
          whole = behind_more r.front s.result d (meaning p rest now) ∙ h;
        }
    go false w h = record { front = r.front; shows = subst (ShowAll r.front) (sym w) r.shows; whole = h }

pub meaning_stops : (p : Settings) (env : Environment) (tables : NamedTables) (s : Statement) (rest : List Statement) (whole : Result Outputs (Fault × List ℕ)) (f : Fault) → node_value p env s.node ≡ Err f
    → Remain whole (meaning p (s ∷ rest) env) tables → whole ≡ Err (f, s.result)
meaning_stops p env tables s rest whole f e r =
    sym r.whole
    ∙ ap (λ (v : Result (List Row) Fault). behind r.front (stated s (after v (λ points. Ok (record { structure = structure_of s.node; points = points }))) (λ x. meaning p rest ((s.result, x) ∷ env)))) e

behind_nothing : (m : Result Outputs (Fault × List ℕ)) → behind [] m ≡ m
behind_nothing (Ok outputs) = refl
behind_nothing (Err f) = refl

pub meaning_begins : (m : Result Outputs (Fault × List ℕ)) (tables : NamedTables) → tables ≡ [] → Remain m m tables
meaning_begins m tables none = record { front = []; shows = subst (ShowAll []) (sym none) tt; whole = behind_nothing m }

pub meaning_ends : (whole rest : Result Outputs (Fault × List ℕ)) (tables : NamedTables) → rest ≡ Ok [] → Remain whole rest tables → ShowMeaning whole tables
meaning_ends whole rest tables none r =
    let all : behind r.front (Ok []) ≡ whole = sym (ap (behind r.front) none) ∙ r.whole in
    subst (λ m. ShowMeaning m tables) all (subst (λ (l : Outputs). ShowAll l tables) (sym (append-nil r.front)) r.shows)

-- ---- what is needed
pub ready_step : (p : Settings) (before now : Environment) (tables more : NamedTables) (s : Statement) (rest : List Statement) → IsStep p before now tables more s rest → AreReady p before (keys_of tables) (s ∷ rest) → AreReady p now (keys_of more) rest
ready_step p before now tables more s rest step ready =
    let same : AreKnownAlike ((s.result, structure_of s.node) ∷ known_in before) (known_in now) (names_read rest) =
    subst (λ (u : Structure). AreKnownAlike ((s.result, u) ∷ known_in before) (known_in now) (names_read rest)) step.gives.structure
    (known_same ((s.result, step.made) ∷ before) now (names_read rest) step.kept) in
    record {
      made = statements_made_same p rest ((s.result, structure_of s.node) ∷ known_in before) (known_in now) same ready.made.1;
      new_names = still_new s step.made tables more rest step.written ready.new_names.1;
    }
