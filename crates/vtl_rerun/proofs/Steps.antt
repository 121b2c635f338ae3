-- A refresh, part by part.
use Rattle.std.proofs.Common.{◌≡◌, ℕ, zero, suc, ◌+◌, ◌≤◌, ◌<◌, true, List, [], ◌∷◌, ◌++◌, length, take, drop, set, get_or, slice_get, length-append, filter, ◌||◌, Option, None, Some, is_some, Result, Vec, Ok, Err, refl, sym, ap, ◌∙◌, subst, arith}
use Rattle.std.specs.declared.alloc.Global.{Global}
use Rattle.std.proofs.lemmas.List.{take_all}
use Rattle.std.proofs.lemmas.Option.{slice_get_read}
use Rattle.std.specs.Map.{keys_of}
use Rattle.vtl_cell.specs.Outcome.{Outcome}
use Rattle.vtl_decimal.specs.declared.number.Fault.{Fault}
use Rattle.vtl_decimal.specs.declared.number.Fault.TheVariants.{DivZero, Range}
use Rattle.vtl_rows.specs.Named.{NamedTables}
use Rattle.vtl_rows.specs.Tables.{Listed}
use Rattle.vtl_scalar.specs.declared.run_error.RunErr.{RunErr}
use Rattle.vtl_scalar.specs.declared.run_error.RunErr.TheVariants as err
use Rattle.vtl_tree.specs.Environment.{DataSet}
use Rattle.vtl_check.specs.Checked.{TypedScript, nodes_of, tree_of}
use Rattle.vtl_check.specs.Transformations.{Transformation, transformations}
use Rattle.vtl_scripts.specs.Meaning.{Outputs, Statement}
use Rattle.vtl_backend.specs.Inputs.{environment_of}
use Rattle.vtl_backend.specs.Runs.{ShowAll, ShowMeaning, script_meaning}
use Rattle.vtl_backend.specs.Statements.{statements_of}
use Rattle.rerun_laws.specs.Depends.{is_one}
use Rattle.rerun_laws.specs.Refreshes.{fresh_behind, numbers_of, stale}
use Rattle.rerun_laws.specs.Values.{values}
use Rattle.vtl_rerun.specs.Kept.{Freshens, HasOutputs}
use Rattle.vtl_rerun.specs.Operands.{held_at, written_all}
use Rattle.vtl_rerun.specs.Sessions.{AreEach, AreHeld, IsKept, IsRunning, fresh_in}
use Rattle.vtl_rerun.specs.Told.{Tells}
use Rattle.vtl_rerun.specs.declared.part.Part.{Part}
use Rattle.rerun_laws.proofs.Turns.{values_meant}
use Rattle.vtl_rerun.proofs.Meanings.{faulty, values_long, whole}
use Rattle.vtl_rerun.proofs.Names.{before_at, numbers_rise, script_new}
use Rattle.vtl_rerun.proofs.Numbers.{all_fresh, fault_marks, fresh_stay, marked, stale_are, stale_in, stale_kept, stale_next}
use Rattle.vtl_rerun.proofs.Ready.{IsPlaced, placed}
use Rattle.vtl_rerun.proofs.Results.{closed_set, held_next, held_set, held_then, held_whole, kept_long, kept_set, left_next, left_set, long_set}

-- ---- lengths
pub each_long : (names : List (List ℕ)) (ks : List ℕ) (ss : List Statement) (xs : List Part) → AreEach names ks ss xs → (length ss ≡ length xs) × (length ks ≡ length xs)
each_long names [] [] [] each = (refl, refl)
each_long names [] [] (x ∷ xs) each = absurd each
each_long names [] (s ∷ ss) xs each = absurd each
each_long names (k ∷ ks) [] xs each = absurd each
each_long names (k ∷ ks) (s ∷ ss) [] each = absurd each
each_long names (k ∷ ks) (s ∷ ss) (x ∷ xs) each = let r = each_long (names ++ s.result ∷ []) ks ss xs each.1 in (ap suc r.0, ap suc r.1)

-- the first numbers are no more than all
front_few : (n : ℕ) (ks : List ℕ) (rs : List (Option Listed)) → length (stale_in (take n ks) (take n rs)) ≤ length (stale_in ks rs)
front_few zero ks rs = omega arith
front_few (suc n) [] rs = omega arith
front_few (suc n) (k ∷ ks) [] = omega arith
front_few (suc n) (k ∷ ks) (None ∷ rs) = let h = front_few n ks rs in omega (arith, h)
front_few (suc n) (k ∷ ks) (Some t ∷ rs) = front_few n ks rs

held_on : (i : ℕ) (old now : List (Option Listed)) → length old ≡ length now → AreHeld (take i now) → drop i now ≡ drop i old → AreHeld old → AreHeld now
held_on zero old now e held left all = subst AreHeld (sym left) all
held_on (suc i) old [] e held left all = tt
held_on (suc i) [] (r ∷ now) e held left all = cc
held_on (suc i) (o ∷ old) (r ∷ now) e held left all = (held.0, held_on i old now (omega (arith, e)) held.1 left all.1)

module _ (t : TypedScript) (parts : List Part) (inputs : NamedTables) where
  pub results_long : (results : List (Option Listed)) → IsRunning t parts inputs results → length results ≡ length parts
  results_long results r = sym (kept_long (values t.settings (statements_of t) (environment_of t inputs)) results r.are_results.kept) ∙ values_long t.settings (statements_of t) (environment_of t inputs) ∙ (each_long [] (numbers_of (transformations (tree_of t))) (statements_of t) parts r.are_parts.each).0

  pub numbers_are : (results : List (Option Listed)) → IsRunning t parts inputs results → length (numbers_of (transformations (tree_of t))) ≡ length results
  numbers_are results r = (each_long [] (numbers_of (transformations (tree_of t))) (statements_of t) parts r.are_parts.each).1 ∙ sym (results_long results r)

  -- ---- up to a place
  -- the parts before this place hold results, and what is left is as it was; those that were run are those that held none
  pub record HaveRun (old : List (Option Listed)) (i : ℕ) (results : List (Option Listed)) (ran : List ℕ) : Type 0 where
    pub running : IsRunning t parts inputs results
    pub held : AreHeld (take i results)
    pub left : drop i results ≡ drop i old
    pub numbered : ran ≡ stale_in (take i (numbers_of (transformations (tree_of t)))) (take i old)

  pub at_start : (old : List (Option Listed)) → IsRunning t parts inputs old → HaveRun old 0 old []
  at_start old r = record { running = r; held = tt; left = refl; numbered = refl }

  -- a part that holds its result is passed over
  pub passed : (old results : List (Option Listed)) (ran : List ℕ) (i : ℕ) (table : Listed) → held_at results i ≡ Some table → HaveRun old i results ran → HaveRun old (suc i) results ran
  passed old results ran i table e h = record {
    running = h.running;
    held = held_next i results table e h.held;
    left = left_next i results old h.left;
    numbered = h.numbered ∙ sym (stale_kept i (numbers_of (transformations (tree_of t))) old table (sym (held_then i results old h.left) ∙ e));
  }

  -- a part that holds none is run
  module _ (old results : List (Option Listed)) (ran : List ℕ) (i : ℕ) (x : Part) (begun : IsRunning t parts inputs old) (h : HaveRun old i results ran) (within : i < length parts) (at : slice_get parts i ≡ Some x) (none : held_at results i ≡ None) where
    place : IsPlaced t i x
    place = placed t i parts x begun.are_parts.each at

    old_long : length old ≡ length results
    old_long = results_long old begun ∙ sym (results_long results h.running)

    pub ran_more : ran ++ x.number ∷ [] ≡ stale_in (take (suc i) (numbers_of (transformations (tree_of t)))) (take (suc i) old)
    ran_more =
        ap (λ l. l ++ x.number ∷ []) h.numbered
        ∙ sym (stale_next i x.number (numbers_of (transformations (tree_of t))) old (number_at i (transformations (tree_of t)) place.transformation place.stands ∙ ap Some place.number) (omega (arith, within, results_long old begun)) (sym (held_then i results old h.left) ∙ none))
      where
        number_at : (i : ℕ) (ts : List Transformation) (tr : Transformation) → slice_get ts i ≡ Some tr → slice_get (numbers_of ts) i ≡ Some tr.number
        number_at i [] tr e = cc
        number_at zero (u ∷ ts) tr e = let q : u.number ≡ tr.number = cc in ap Some q
        number_at (suc i) (u ∷ ts) tr e = number_at i ts tr e

    value : (v : Outcome DataSet) × (slice_get (values t.settings (statements_of t) (environment_of t inputs)) i ≡ Some v)
    value = at_place i (values t.settings (statements_of t) (environment_of t inputs)) (omega (arith, within, results_long results h.running, kept_long (values t.settings (statements_of t) (environment_of t inputs)) results h.running.are_results.kept))
      where
        at_place : (i : ℕ) (vs : List (Outcome DataSet)) → i < length vs → (v : Outcome DataSet) × (slice_get vs i ≡ Some v)
        at_place i [] h = absurd (omega (arith, h))
        at_place zero (v ∷ vs) h = (v, refl)
        at_place (suc i) (v ∷ vs) h = at_place i vs (omega (arith, h))

    module _ (result : Result Listed RunErr) (told : (s : Statement) (v : Outcome DataSet) → slice_get (statements_of t) i ≡ Some s → slice_get (values t.settings (statements_of t) (environment_of t inputs)) i ≡ Some v → Tells s.result v result) where
      tells : Tells place.statement.result value.0 result
      tells = told place.statement value.0 place.states value.1

    pub run_on : (table : Listed) → ((s : Statement) (v : Outcome DataSet) → slice_get (statements_of t) i ≡ Some s → slice_get (values t.settings (statements_of t) (environment_of t inputs)) i ≡ Some v → Tells s.result v (Ok table))
        → HaveRun old (suc i) (set results i (Some table)) (ran ++ x.number ∷ [])
    run_on table told = record {
      running = record {
        are_parts = h.running.are_parts;
        are_inputs = h.running.are_inputs;
        in_range = h.running.in_range;
        are_results = record {
          kept = kept_set i (values t.settings (statements_of t) (environment_of t inputs)) results value.0 table h.running.are_results.kept value.1 (kept_now value.0 (tells (Ok table) told));
          closed = closed_set i (statements_of t) results table h.held h.running.are_results.closed;
        };
        many = long_set i results (Some table) ∙ h.running.many;
      };
      held = held_set i results table (omega (arith, within, results_long results h.running)) h.held;
      left = left_set i results (Some table) ∙ left_next i results old h.left;
      numbered = ran_more;
    }
      where
        kept_now : (v : Outcome DataSet) → Tells place.statement.result v (Ok table) → IsKept v (Some table)
        kept_now (Ok d) k = k
        kept_now (Err f) k = k

    -- a fault is that of the script
    fault_meant : (f : Fault) → value.0 ≡ Err f → script_meaning t inputs ≡ Err (f, place.statement.result)
    fault_meant f e =
        sym (values_meant t.settings (statements_of t) (environment_of t inputs))
        ∙ faulty i (statements_of t) (values t.settings (statements_of t) (environment_of t inputs)) results place.statement f h.running.are_results.kept h.held place.states (value.1 ∙ ap Some e)

    fault_fresh : fresh_in (numbers_of (transformations (tree_of t))) results
        ≡ filter (λ j. is_one j (take i (numbers_of (transformations (tree_of t)))) || is_one j (fresh_in (numbers_of (transformations (tree_of t))) old)) (numbers_of (transformations (tree_of t)))
    fault_fresh =
        sym (marked (λ j. is_one j (take i (numbers_of (transformations (tree_of t)))) || is_one j (fresh_in (numbers_of (transformations (tree_of t))) old)) (numbers_of (transformations (tree_of t))) results
        (fault_marks i 1 (numbers_of (transformations (tree_of t))) old results (numbers_are results h.running) (numbers_are old begun) (numbers_rise 1 (tree_of t)) h.held h.left))

    fault_behind : (f : Fault) (n : List ℕ) → value.0 ≡ Err f → n ≡ place.statement.result
        → (script_meaning t inputs ≡ Err (f, n)) × (fresh_in (numbers_of (transformations (tree_of t))) results ≡ fresh_behind (transformations (tree_of t)) (fresh_in (numbers_of (transformations (tree_of t))) old) (script_meaning t inputs))
    fault_behind f n e same = (
      fault_meant f e ∙ ap (λ m. Err (f, m)) (sym same),
      fault_fresh
          ∙ ap (λ b. filter (λ j. is_one j b || is_one j (fresh_in (numbers_of (transformations (tree_of t))) old)) (numbers_of (transformations (tree_of t))))
          (sym (before_at i (keys_of t.declared) (transformations (tree_of t)) (nodes_of t) place.statement (script_new t begun.are_parts.structures begun.are_parts.typed) place.states))
          ∙ sym (ap (fresh_behind (transformations (tree_of t)) (fresh_in (numbers_of (transformations (tree_of t))) old)) (fault_meant f e)),
    )

    pub stopped : (e : RunErr) → ((s : Statement) (v : Outcome DataSet) → slice_get (statements_of t) i ≡ Some s → slice_get (values t.settings (statements_of t) (environment_of t inputs)) i ≡ Some v → Tells s.result v (Err e))
        → Freshens (transformations (tree_of t)) (script_meaning t inputs) (fresh_in (numbers_of (transformations (tree_of t))) old) (fresh_in (numbers_of (transformations (tree_of t))) results) (Err e)
    stopped (err.DivZero n) told = let k = tells (Err (err.DivZero n)) told in fault_behind DivZero n k.0 k.1
    stopped (err.Range n) told = let k = tells (Err (err.Range n)) told in fault_behind Range n k.0 k.1
    stopped err.OutOfMemory told = fresh_stay i (numbers_of (transformations (tree_of t))) old results old_long h.held h.left

  -- where memory runs out, what was fresh is
  pub out_of_memory : (old results : List (Option Listed)) (ran : List ℕ) (i : ℕ) → IsRunning t parts inputs old → HaveRun old i results ran
      → Freshens (transformations (tree_of t)) (script_meaning t inputs) (fresh_in (numbers_of (transformations (tree_of t))) old) (fresh_in (numbers_of (transformations (tree_of t))) results) (Err err.OutOfMemory)
  out_of_memory old results ran i begun h = fresh_stay i (numbers_of (transformations (tree_of t))) old results (results_long old begun ∙ sym (results_long results h.running)) h.held h.left

  -- ---- at the end
  pub all_held : (old results : List (Option Listed)) (ran : List ℕ) (n : ℕ) → n ≡ length parts → HaveRun old n results ran → AreHeld results
  all_held old results ran n e h = held_whole n results (e ∙ sym (results_long results h.running)) h.held

  pub shown : (results : List (Option Listed)) → IsRunning t parts inputs results → AreHeld results → (outputs : Outputs) × (script_meaning t inputs ≡ Ok outputs) × ShowAll outputs (written_all parts results)
  shown results r held =
      let w = whole [] (numbers_of (transformations (tree_of t))) (statements_of t) parts (values t.settings (statements_of t) (environment_of t inputs)) results r.are_parts.each (sym (values_long t.settings (statements_of t) (environment_of t inputs))) r.are_results.kept held in
      (w.0, sym (values_meant t.settings (statements_of t) (environment_of t inputs)) ∙ w.1, w.2)

  pub outputs_shown : (results : List (Option Listed)) → IsRunning t parts inputs results → AreHeld results → ShowMeaning (script_meaning t inputs) (written_all parts results)
  outputs_shown results r held = let w = shown results r held in subst (λ m. ShowMeaning m (written_all parts results)) (sym w.1) w.2

  pub stale_then : (old : List (Option Listed)) → IsRunning t parts inputs old → stale (fresh_in (numbers_of (transformations (tree_of t))) old) (transformations (tree_of t)) ≡ stale_in (numbers_of (transformations (tree_of t))) old
  stale_then old begun = stale_are 1 (numbers_of (transformations (tree_of t))) old (numbers_are old begun) (numbers_rise 1 (tree_of t))

  pub ran_whole : (old results : List (Option Listed)) (ran : List ℕ) (n : ℕ) → n ≡ length parts → IsRunning t parts inputs old → HaveRun old n results ran → ran ≡ stale (fresh_in (numbers_of (transformations (tree_of t))) old) (transformations (tree_of t))
  ran_whole old results ran n e begun h =
      h.numbered
      ∙ ap (λ l. stale_in l (take n old)) (take_all n (numbers_of (transformations (tree_of t))) (omega (arith, e, numbers_are old begun, results_long old begun)))
      ∙ ap (stale_in (numbers_of (transformations (tree_of t)))) (take_all n old (omega (arith, e, results_long old begun)))
      ∙ sym (stale_then old begun)

  pub finished : (old results : List (Option Listed)) (ran : Vec ℕ Global) (n : ℕ) → n ≡ length parts → IsRunning t parts inputs old → HaveRun old n results ran.items
      → Freshens (transformations (tree_of t)) (script_meaning t inputs) (fresh_in (numbers_of (transformations (tree_of t))) old) (fresh_in (numbers_of (transformations (tree_of t))) results) (Ok ran)
  finished old results ran n e begun h =
      let w = shown results h.running (all_held old results ran.items n e h) in
      let fresh : fresh_in (numbers_of (transformations (tree_of t))) results ≡ fresh_behind (transformations (tree_of t)) (fresh_in (numbers_of (transformations (tree_of t))) old) (script_meaning t inputs) =
      all_fresh (numbers_of (transformations (tree_of t))) results (numbers_are results h.running) (all_held old results ran.items n e h)
      ∙ sym (ap (fresh_behind (transformations (tree_of t)) (fresh_in (numbers_of (transformations (tree_of t))) old)) w.1) in
      (subst HasOutputs (sym w.1) tt, ran_whole old results ran.items n e begun h, fresh)

  -- what was held is held
  pub stays : (old results : List (Option Listed)) (ran : List ℕ) (i : ℕ) → IsRunning t parts inputs old → HaveRun old i results ran → AreHeld old → AreHeld results
  stays old results ran i begun h all = held_on i old results (results_long old begun ∙ sym (results_long results h.running)) h.held h.left all

  -- ---- as the program goes on
  some_held : (old results : List (Option Listed)) (ran : List ℕ) (i : ℕ) → is_some (held_at results i) ≡ true → HaveRun old i results ran → HaveRun old (suc i) results ran
  some_held old results ran i some h = go (held_at results i) refl some
    where
      go : (o : Option Listed) → held_at results i ≡ o → is_some o ≡ true → HaveRun old (suc i) results ran
      go None e some = cc
      go (Some table) e some = passed old results ran i table e h

  pub went_by : (old results now : List (Option Listed)) (ran new : List ℕ) (i : ℕ) → HaveRun old i results ran → is_some (held_at results i) ≡ true → now ≡ results → new ≡ ran → HaveRun old (i + 1) now new
  went_by old results now ran new i h some same none =
      let next : suc i ≡ i + 1 = omega arith in
      subst (λ k. HaveRun old k now new) next (subst (λ l. HaveRun old (suc i) l new) (sym same) (subst (HaveRun old (suc i) results) (sym none) (some_held old results ran i some h)))

  module _ (old results : List (Option Listed)) (ran : List ℕ) (i : ℕ) (x : Part) (begun : IsRunning t parts inputs old) (h : HaveRun old i results ran) (within : i < length parts) (at : x ≡ get_or parts i x) (none : held_at results i ≡ None) where
    got : slice_get parts i ≡ Some x
    got = slice_get_read parts (length parts) i x refl within at

    pub went_on : (now : List (Option Listed)) (new : List ℕ) (table : Listed) → ((s : Statement) (v : Outcome DataSet) → slice_get (statements_of t) i ≡ Some s → slice_get (values t.settings (statements_of t) (environment_of t inputs)) i ≡ Some v → Tells s.result v (Ok table))
        → now ≡ set results i (Some table) → new ≡ ran ++ x.number ∷ [] → HaveRun old (i + 1) now new
    went_on now new table told is more =
        let next : suc i ≡ i + 1 = omega arith in
        subst (λ k. HaveRun old k now new) next (subst (λ l. HaveRun old (suc i) l new) (sym is) (subst (HaveRun old (suc i) (set results i (Some table))) (sym more) (run_on old results ran i x begun h within got none table told)))

    pub stopped_here : (e : RunErr) → ((s : Statement) (v : Outcome DataSet) → slice_get (statements_of t) i ≡ Some s → slice_get (values t.settings (statements_of t) (environment_of t inputs)) i ≡ Some v → Tells s.result v (Err e))
        → Freshens (transformations (tree_of t)) (script_meaning t inputs) (fresh_in (numbers_of (transformations (tree_of t))) old) (fresh_in (numbers_of (transformations (tree_of t))) results) (Err e)
    stopped_here e told = stopped old results ran i x begun h within got none e told

    pub one_more : length ran + 1 ≤ length (stale (fresh_in (numbers_of (transformations (tree_of t))) old) (transformations (tree_of t)))
    one_more =
        omega (arith, ap length (ran_more old results ran i x begun h within got none), length-append ran (x.number ∷ []), front_few (suc i) (numbers_of (transformations (tree_of t))) old, ap length (stale_then old begun))

  pub so_far : (old results : List (Option Listed)) (ran : List ℕ) (i : ℕ) → IsRunning t parts inputs old → HaveRun old i results ran → length ran ≤ length (stale (fresh_in (numbers_of (transformations (tree_of t))) old) (transformations (tree_of t)))
  so_far old results ran i begun h = omega (arith, ap length h.numbered, front_few i (numbers_of (transformations (tree_of t))) old, ap length (stale_then old begun))
