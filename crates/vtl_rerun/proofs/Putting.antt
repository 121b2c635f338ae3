-- Tables that are put behind others, where none has their name.
use Rattle.std.proofs.Common.{◌≡◌, ℕ, true, false, cond, List, [], ◌∷◌, ◌++◌, Option, None, Some, is_some, Result, Ok, Err, OnOk, Bor, option_copied, refl, sym, ap, ◌∙◌}
use Rattle.std.specs.declared.alloc.AllocError.{AllocError}
use Rattle.vtl_rows.specs.Named.{NamedTables, table_of}
use Rattle.vtl_rows.specs.Tables.{Listed}
use Rattle.vtl_rerun.specs.Operands.{with_table}
use Rattle.vtl_rerun.proofs.Sources.{named}

pub copied_none : {X : Type 0} (o : Option (Bor X)) → is_some o ≡ false → option_copied o ≡ None
copied_none None e = refl
copied_none (Some x) e = cc

pub copied_some : {X : Type 0} (o : Option (Bor X)) → is_some o ≡ true → is_some (option_copied o) ≡ true
copied_some None e = cc
copied_some (Some x) e = refl

pub put_new : (tables now : NamedTables) (name key : List ℕ) (o : Option Listed) (t u : Listed) (r : Result (Unit {0}) AllocError) → table_of name tables ≡ None → o ≡ Some t → key ≡ name → u ≡ t → OnOk r (now ≡ tables ++ (key, u) ∷ []) → OnOk r (now ≡ with_table tables name o)
put_new tables now name key o t u (Err e) none is same copied done = tt
put_new tables now name key o t u (Ok x) none is same copied done =
    done ∙ ap (λ k. tables ++ (k, u) ∷ []) same ∙ ap (λ y. tables ++ (name, y) ∷ []) copied
    ∙ sym (ap (with_table tables name) is ∙ ap (λ b. cond b tables (tables ++ (name, t) ∷ [])) (sym (named name tables) ∙ ap is_some none))

pub put_old : (tables : NamedTables) (name : List ℕ) (o : Option Listed) (t : Listed) → is_some (table_of name tables) ≡ true → o ≡ Some t → tables ≡ with_table tables name o
put_old tables name o t some is = sym (ap (with_table tables name) is ∙ ap (λ b. cond b tables (tables ++ (name, t) ∷ [])) (sym (named name tables) ∙ some))
