-- What is read is noted, part by part.
use Rattle.std.proofs.Common.{◌≡◌, ◌+◌, ◌≤◌, ◌<◌, ℕ, Bool, true, false, cond, List, [], ◌∷◌, map, drop, get_or, length, Some, Result, Ok, Err, refl, sym, ap, ◌∙◌, subst, arith}
use Rattle.std.specs.Prelude.{OnOk, nat_le}
use Rattle.std.specs.List.{AllByRecursion}
use Rattle.std.specs.Map.{lookup}
use Rattle.std.specs.Cmp.Lexicographic.{bytes_decides}
use Rattle.std.proofs.lemmas.List.{drop_all, drop_more}
use Rattle.vtl_text.specs.Texts.{same_text}
use Rattle.sql_tree.specs.Trees as tree
use Rattle.sql_tree.specs.Trees.{Exp, StatementTree, Text, branches_of, exps_of}
use Rattle.sql_tree.specs.View.{branch_tree, expr_tree, statement_tree}
use Rattle.sql_tree.specs.declared.expressions.Branch.{Branch}
use Rattle.sql_tree.specs.declared.expressions.SqlExpr.{SqlExpr}
use Rattle.sql_tree.specs.declared.statements.Statement.{Statement}
use Rattle.sql_plan.proofs.Reaches.{branch_is}
use Rattle.sql_engine.specs.LastReads.{AreNoted, EachCreated, EachExported, IsNoted, IsReadFrom, LastPlaces, StaysRead, is_from}
use Rattle.sql_engine.specs.Reads.{EachOfAll, EachOfBranches, EachRead}

-- ---- places

le_refl : (n : ℕ) → nat_le n n ≡ true
le_refl n = grind arith

le_true : (m n : ℕ) → m ≤ n → nat_le m n ≡ true
le_true m n h = grind arith

pub stays_still : (place : ℕ) (now : LastPlaces) → StaysRead place now now
stays_still place now i name h r = r

pub stays_more : (place : ℕ) (a b c : LastPlaces) → StaysRead place a b → StaysRead place b c → StaysRead place a c
stays_more place a b c f g i name h r = g i name h (f i name h r)

-- one name more
module _ (last now : LastPlaces) (new : Text) (place : ℕ) (put : (name : Text) → lookup (same_text name) now ≡ cond (same_text new name) (Some place) (lookup (same_text name) last)) where
  still_read : StaysRead place last now
  still_read i name h r = ap (is_from i) (put name) ∙ go (same_text new name)
    where
      go : (b : Bool) → is_from i (cond b (Some place) (lookup (same_text name) last)) ≡ true
      go true = le_true i place h
      go false = r

  now_read : IsReadFrom place now new
  now_read = ap (is_from place) (put new ∙ ap (λ b. cond b (Some place) (lookup (same_text new) last)) ((bytes_decides new new).1 refl)) ∙ le_refl place

  pub noted : IsNoted place last now (λ P. P new)
  noted = record { stays = still_read; read = λ later s. s place new (omega arith) now_read }

-- ---- parts

-- Some parts are noted: with those that are left all of them.
pub record NotedBut (place : ℕ) (before now : LastPlaces) (Left Whole : (Text → Type 0) → Type 0) : Type 0 where
  pub stays : StaysRead place before now
  pub read : (later : LastPlaces) → StaysRead place now later → Left (IsReadFrom place later) → Whole (IsReadFrom place later)

pub none_noted : (place : ℕ) (now : LastPlaces) (Whole : (Text → Type 0) → Type 0) → NotedBut place now now Whole Whole
none_noted place now Whole = record { stays = stays_still place now; read = λ later s left. left }

pub one_noted : (place : ℕ) (a b c : LastPlaces) (Each Left Less Whole : (Text → Type 0) → Type 0) → NotedBut place a b Left Whole → IsNoted place b c Each → ((P : Text → Type 0) → Each P → Less P → Left P) → NotedBut place a c Less Whole
one_noted place a b c Each Left Less Whole but one f =
    record {
      stays = stays_more place a b c but.stays one.stays;
      read = λ later s less. but.read later (stays_more place b c later one.stays s) (f (IsReadFrom place later) (one.read later s) less);
    }

pub all_noted : (place : ℕ) (a b : LastPlaces) (Left Whole : (Text → Type 0) → Type 0) → NotedBut place a b Left Whole → ((P : Text → Type 0) → Left P) → IsNoted place a b Whole
all_noted place a b Left Whole but none = record { stays = but.stays; read = λ later s. but.read later s (none (IsReadFrom place later)) }

pub nothing_noted : (place : ℕ) (now : LastPlaces) (Each : (Text → Type 0) → Type 0) → ((P : Text → Type 0) → Each P) → IsNoted place now now Each
nothing_noted place now Each none = record { stays = stays_still place now; read = λ later s. none (IsReadFrom place later) }

pub both_noted : (place : ℕ) (a b c : LastPlaces) (Front Back : (Text → Type 0) → Type 0) → IsNoted place a b Front → IsNoted place b c Back → IsNoted place a c (λ P. Front P × Back P)
both_noted place a b c Front Back one two =
    record { stays = stays_more place a b c one.stays two.stays; read = λ later s. (one.read later (stays_more place b c later two.stays s), two.read later s) }

pub on_ok : {A E : Type 0} (r : Result A E) (X Y : Type 0) → (X → Y) → OnOk r X → OnOk r Y
on_ok (Ok x) X Y f h = f h
on_ok (Err e) X Y f h = tt

-- ---- lists of expressions

abbrev pub EachLeft : List SqlExpr → ℕ → (Text → Type 0) → Type 0
EachLeft es i P = EachOfAll P (exps_of (map expr_tree (drop i es)))

pub operand_next : (es : List SqlExpr) (i : ℕ) (e : SqlExpr) → i < length es → e ≡ get_or es i e → (P : Text → Type 0) → EachRead P (expr_tree e) → EachLeft es (i + 1) P → EachLeft es i P
operand_next es i e h is P one rest = subst (λ (l : List SqlExpr). EachOfAll P (exps_of (map expr_tree l))) (sym (drop_more es i e h ∙ ap (λ (x : SqlExpr). x ∷ drop (i + 1) es) (sym is))) (one, rest)

pub operands_end : (es : List SqlExpr) (i : ℕ) → length es ≤ i → (P : Text → Type 0) → EachLeft es i P
operands_end es i h P = subst (λ (l : List SqlExpr). EachOfAll P (exps_of (map expr_tree l))) (sym (drop_all i es h)) tt

abbrev pub BranchesLeft : List Branch → ℕ → (Text → Type 0) → Type 0
BranchesLeft bs i P = EachOfBranches P (branches_of (map branch_tree (drop i bs)))

pub branch_next : (bs : List Branch) (i : ℕ) (b : Branch) → i < length bs → b ≡ get_or bs i b → (P : Text → Type 0) → EachRead P (expr_tree b.condition) × EachRead P (expr_tree b.value) → BranchesLeft bs (i + 1) P → BranchesLeft bs i P
branch_next bs i b h is P one rest = subst (λ (l : List Branch). EachOfBranches P (branches_of (map branch_tree l))) (sym (drop_more bs i b h ∙ ap (λ (x : Branch). x ∷ drop (i + 1) bs) (sym is)))
    (subst (λ (x : Exp × Exp). EachOfBranches P (branches_of (x ∷ map branch_tree (drop (i + 1) bs)))) (sym (branch_is b)) (one.0, one.1, rest))

pub branches_end : (bs : List Branch) (i : ℕ) → length bs ≤ i → (P : Text → Type 0) → BranchesLeft bs i P
branches_end bs i h P = subst (λ (l : List Branch). EachOfBranches P (branches_of (map branch_tree l))) (sym (drop_all i bs h)) tt

-- ---- lists of anything

pub noted_as : (place : ℕ) (a b : LastPlaces) (Each Other : (Text → Type 0) → Type 0) → IsNoted place a b Each → ((P : Text → Type 0) → Each P → Other P) → IsNoted place a b Other
noted_as place a b Each Other one f = record { stays = one.stays; read = λ later s. f (IsReadFrom place later) (one.read later s) }

module _ {A T : Type 0} (view : A → T) (Each : (Text → Type 0) → T → Type 0) where
  abbrev pub AllLeft : List A → ℕ → (Text → Type 0) → Type 0
  AllLeft xs i P = AllByRecursion (Each P) (map view (drop i xs))

  pub next_left : (xs : List A) (i : ℕ) (x : A) → i < length xs → x ≡ get_or xs i x → (P : Text → Type 0) → Each P (view x) → AllLeft xs (i + 1) P → AllLeft xs i P
  next_left xs i x h is P one rest = subst (λ (l : List A). AllByRecursion (Each P) (map view l)) (sym (drop_more xs i x h ∙ ap (λ (y : A). y ∷ drop (i + 1) xs) (sym is))) (one, rest)

  pub end_left : (xs : List A) (i : ℕ) → length xs ≤ i → (P : Text → Type 0) → AllLeft xs i P
  end_left xs i h P = subst (λ (l : List A). AllByRecursion (Each P) (map view l)) (sym (drop_all i xs h)) tt

-- ---- statements

abbrev pub ExportsLeft : List Statement → ℕ → (Text → Type 0) → Type 0
ExportsLeft ss i P = EachExported P (map statement_tree (drop i ss))

export_first : (P : Text → Type 0) (t : StatementTree) (ts : List StatementTree) → EachExported P (t ∷ []) → EachExported P ts → EachExported P (t ∷ ts)
export_first P (tree.setting digits rounding) ts one rest = rest
export_first P (tree.input s) ts one rest = rest
export_first P (tree.create name q) ts one rest = rest
export_first P (tree.export s) ts one rest = (one.0, rest)

pub export_next : (ss : List Statement) (i : ℕ) (x : Statement) → i < length ss → x ≡ get_or ss i x → (P : Text → Type 0) → EachExported P (statement_tree x ∷ []) → ExportsLeft ss (i + 1) P → ExportsLeft ss i P
export_next ss i x h is P one rest =
    subst (λ (l : List Statement). EachExported P (map statement_tree l)) (sym (drop_more ss i x h ∙ ap (λ (y : Statement). y ∷ drop (i + 1) ss) (sym is))) (export_first P (statement_tree x) (map statement_tree (drop (i + 1) ss)) one rest)

-- CREATEs up to a place are noted: with those behind it all of them
abbrev pub CreatesBut : List Statement → ℕ → LastPlaces → Type 0
CreatesBut ss i now = (later : LastPlaces) → StaysRead i now later → AreNoted later i (map statement_tree (drop i ss)) → AreNoted later 0 (map statement_tree ss)

pub create_next : (ss : List Statement) (i : ℕ) (x : Statement) → i < length ss → x ≡ get_or ss i x → (before now : LastPlaces) → IsNoted i before now (λ P. EachCreated P (statement_tree x)) → CreatesBut ss i before → CreatesBut ss (i + 1) now
create_next ss i x h is before now one but later s rest =
    let up_to : StaysRead i now later = λ j name k r. s j name (omega (arith, k)) r in
    but later (stays_more i before now later one.stays up_to)
    (subst (λ (l : List Statement). AreNoted later i (map statement_tree l)) (sym (drop_more ss i x h ∙ ap (λ (y : Statement). y ∷ drop (i + 1) ss) (sym is))) (one.read later up_to, rest))

pub creates_end : (ss : List Statement) (i : ℕ) (now : LastPlaces) → length ss ≡ i → CreatesBut ss i now → (later : LastPlaces) → StaysRead (length ss) now later → AreNoted later 0 (map statement_tree ss)
creates_end ss i now e but later s =
    but later (subst (λ (n : ℕ). StaysRead n now later) e s) (subst (λ (l : List Statement). AreNoted later i (map statement_tree l)) (sym (drop_all i ss (omega (arith, e)))) tt)
