-- Lists by place, filled one item after the other.
use Rattle.std.proofs.Common.{◌≡◌, ◌≢◌, inl, inr, ◌∙◌, ℕ, zero, suc, ◌+◌, ◌<◌, ◌≤◌, ◌++◌, true, false, List, [], ◌∷◌, get_or, length, set, ap, sym, subst, arith}
use Rattle.std.specs.Prelude.{◌==◌, if◌then◌else◌}
use Rattle.std.specs.Global.{Vec}
use Rattle.std.proofs.lemmas.Bool.{cases_eq}
use Rattle.std.proofs.lemmas.List.{append-nil, get_or-set_other, get_or-set_same}
use Rattle.sql_from.specs.PlacedLists.{AreLists, IsPutAt}

-- ---- lists of nothing

pub lists_grow : {X : Type 0} (lists : List (Vec X)) (v : Vec X) (n : ℕ) → length lists ≡ n → v.items ≡ [] → AreLists (λ _. []) n lists → AreLists (λ _. []) (n + 1) (lists ++ v ∷ [])
lists_grow {X = X} lists v n long e all =
    record { at = λ i other h. each lists v e (λ j o k. all.at j o (subst (λ m. j < m) long k)) i other (omega (arith, h, long)) }
  where
    each : (lists : List (Vec X)) (v : Vec X) → v.items ≡ [] → ((j : ℕ) (o : Vec X) → j < length lists → (get_or lists j o).items ≡ []) → (i : ℕ) (other : Vec X) → i < length lists + 1 → (get_or (lists ++ v ∷ []) i other).items ≡ []
    each [] v e f zero other k = e
    each [] v e f (suc i) other k = absurd (omega (arith, k))
    each (x ∷ lists) v e f zero other k = f zero other (omega arith)
    each (x ∷ lists) v e f (suc i) other k = each lists v e (λ j o h. f (suc j) o (omega (arith, h))) i other (omega (arith, k))

-- ---- an item

-- where there is no such list nothing changes
pub none_put : {X : Type 0} (place : ℕ) (item : X) (lists : List (Vec X)) → length lists ≤ place → IsPutAt place item lists lists
none_put place item lists past =
    record { at = λ i other h. sym (append-nil (get_or lists i other).items) ∙ ap (λ b. (get_or lists i other).items ++ (if b then item ∷ [] else [])) (sym (unlike i (omega (arith, h, past)))) }
  where
    unlike : (i : ℕ) → i < place → (i == place) ≡ false
    unlike i h = grind (arith, h)

pub one_put : {X : Type 0} (place : ℕ) (item : X) (lists : List (Vec X)) (v : Vec X) → place < length lists → ((other : Vec X) → v.items ≡ (get_or lists place other).items ++ item ∷ []) → IsPutAt place item lists (set lists place v)
one_put {X = X} place item lists v there e = record {
  at = λ i other h. elim (cases_eq i place) [
    | inl same ↦ ap (λ (x : Vec X). x.items) (ap (λ n. get_or (set lists place v) n other) same ∙ get_or-set_same lists place v other there) ∙ e other
        ∙ ap (λ n. (get_or lists n other).items ++ item ∷ []) (sym same) ∙ ap (λ b. (get_or lists i other).items ++ (if b then item ∷ [] else [])) (sym (is i same))
    | inr unlike ↦ ap (λ (x : Vec X). x.items) (get_or-set_other lists place i v other unlike) ∙ sym (append-nil (get_or lists i other).items)
        ∙ ap (λ b. (get_or lists i other).items ++ (if b then item ∷ [] else [])) (sym (not_is i unlike))
  ];
}
  where
    is : (i : ℕ) → i ≡ place → (i == place) ≡ true
    is i e = grind (arith, e)

    not_is : (i : ℕ) → i ≢ place → (i == place) ≡ false
    not_is i e = grind (arith, e)
