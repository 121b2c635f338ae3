-- What statements mean depends only on the data sets that they read.
use Rattle.std.proofs.Common.{◌≡◌, ℕ, cond, List, [], ◌∷◌, ◌++◌, Some, Ok, Err, refl, ap, ◌∙◌}
use Rattle.std.specs.List.{AllByRecursion, flat_map}
use Rattle.std.specs.Map.{lookup}
use Rattle.vtl_lists.proofs.Alls.{all_back, all_front, all_more}
use Rattle.vtl_decimal.specs.Settings.{Settings}
use Rattle.vtl_cell.specs.Outcome.{Outcome}
use Rattle.vtl_tree.specs.Environment.{DataSet, Environment, data_of}
use Rattle.vtl_tree.specs.Structure.{same_name}
use Rattle.vtl_tree.specs.Structures.{Named}
use Rattle.vtl_tree.specs.declared.structure.Structure.{Structure}
use Rattle.vtl_tree.specs.Trees.{structure_of}
use Rattle.vtl_check.specs.Names.{names_in}
use Rattle.vtl_scripts.specs.Made.{AreMadeStatements}
use Rattle.vtl_scripts.specs.Meaning.{Statement, data_set_of, kept_output, meaning, stated}
use Rattle.check_laws.specs.Scripts.{AreKnownAlike}
use Rattle.check_laws.proofs.NamesRead.{data_set_same}
use Rattle.check_laws.proofs.Over.{made_over}

-- ---- names have the same data sets
abbrev pub SameData : Environment → Environment → List (List ℕ) → Type 0
SameData e f names = AllByRecursion (λ name. data_of name e ≡ data_of name f) names

data_in : (e f : Environment) (xs ys : List (List ℕ)) → SameData e f (xs ++ ys) → SameData e f xs × SameData e f ys
data_in e f xs ys h = (all_front (λ name. data_of name e ≡ data_of name f) xs ys h, all_back (λ name. data_of name e ≡ data_of name f) xs ys h)

known_both : (k l : Named) (xs ys : List (List ℕ)) → AreKnownAlike k l (xs ++ ys) → AreKnownAlike k l xs × AreKnownAlike k l ys
known_both k l xs ys h = (all_front (λ name. lookup (same_name name) k ≡ lookup (same_name name) l) xs ys h, all_back (λ name. lookup (same_name name) k ≡ lookup (same_name name) l) xs ys h)

data_more : (e f : Environment) (new : List ℕ) (d : DataSet) (names : List (List ℕ)) → SameData e f names → SameData ((new, d) ∷ e) ((new, d) ∷ f) names
data_more e f new d names h =
    all_more (λ name. data_of name e ≡ data_of name f) (λ name. data_of name ((new, d) ∷ e) ≡ data_of name ((new, d) ∷ f)) (λ name same. ap (cond (same_name new name) (Some d)) same) names h

known_more : (k l : Named) (new : List ℕ) (s : Structure) (names : List (List ℕ)) → AreKnownAlike k l names → AreKnownAlike ((new, s) ∷ k) ((new, s) ∷ l) names
known_more k l new s names h =
    all_more (λ name. lookup (same_name name) k ≡ lookup (same_name name) l) (λ name. lookup (same_name name) ((new, s) ∷ k) ≡ lookup (same_name name) ((new, s) ∷ l)) (λ name same. ap (cond (same_name name new) (Some s)) same) names h

-- ---- the meaning of statements
-- the names that statements read
abbrev pub names_read : List Statement → List (List ℕ)
names_read ss = flat_map (λ s. names_in s.node) ss

pub meaning_same : (p : Settings) (ss : List Statement) (e f : Environment) → SameData e f (names_read ss) → meaning p ss e ≡ meaning p ss f
meaning_same p [] e f h = refl
meaning_same p (s ∷ rest) e f h =
    let parts = data_in e f (names_in s.node) (names_read rest) h in
    ap (λ (o : Outcome DataSet). stated s o (λ d. meaning p rest ((s.result, d) ∷ e))) (data_set_same p e f s.node parts.0)
    ∙ go (data_set_of p f s.node) (λ d. meaning_same p rest ((s.result, d) ∷ e) ((s.result, d) ∷ f) (data_more e f s.result d (names_read rest) parts.1))
  where
    go : (o : Outcome DataSet) → ((d : DataSet) → meaning p rest ((s.result, d) ∷ e) ≡ meaning p rest ((s.result, d) ∷ f))
        → stated s o (λ d. meaning p rest ((s.result, d) ∷ e)) ≡ stated s o (λ d. meaning p rest ((s.result, d) ∷ f))
    go (Ok d) ih = ap (kept_output s d) (ih d)
    go (Err fault) ih = refl

-- ---- what is made over some structures is made over others that have the names that it reads
pub statements_made_same : (p : Settings) (ss : List Statement) (k l : Named) → AreKnownAlike k l (names_read ss) → AreMadeStatements p k ss → AreMadeStatements p l ss
statements_made_same p [] k l h m = tt
statements_made_same p (s ∷ rest) k l h m =
    let parts = known_both k l (names_in s.node) (names_read rest) h in
    (made_over p k l s.node parts.0 m.0, statements_made_same p rest ((s.result, structure_of s.node) ∷ k) ((s.result, structure_of s.node) ∷ l) (known_more k l s.result (structure_of s.node) (names_read rest) parts.1) m.1)
