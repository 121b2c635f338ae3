-- An item by name, in place of another or behind the others.
use Rattle.std.proofs.Common.{◌≡◌, ◌∙◌, Bool, true, false, cond, ◌||◌, [], ◌∷◌, ◌++◌, None, Some, refl, ap, sym}
use Rattle.std.specs.List.{list_any}
use Rattle.std.specs.Map.{keys_of, lookup, set_value}
use Rattle.std.specs.Cmp.Lexicographic.{bytes_decides, nat_list_eq_equiv}
use Rattle.vtl_text.specs.Texts.{same_text}
use Rattle.sql_tree.specs.Trees.{Text}
use Rattle.sql_check_parts.specs.Scopes.{Named}

module _ {X : Type 0} (new q : Text) (v : X) where
  abbrev AsWanted : Named X → Named X → Type 0
  AsWanted es now = lookup (same_text q) now ≡ cond (same_text new q) (Some v) (lookup (same_text q) es)

  -- another name is not this one
  other_name : (key : Text) → same_text new key ≡ false → same_text q key ≡ true → same_text new q ≡ false
  other_name key unlike same = ap (same_text new) ((bytes_decides q key).0 same) ∙ unlike

  past : (x : Text × X) (es now : Named X) → same_text new x.0 ≡ false → AsWanted es now → AsWanted (x ∷ es) (x ∷ now)
  past x es now unlike ih = go (same_text q x.0) (λ e. other_name x.0 unlike e)
    where
      go : (c : Bool) → (c ≡ true → same_text new q ≡ false) → cond c (Some x.1) (lookup (same_text q) now) ≡ cond (same_text new q) (Some v) (cond c (Some x.1) (lookup (same_text q) es))
      go true f = sym (ap (λ b. cond b (Some v) (Some x.1)) (f refl))
      go false f = ih

  at_name : (x : Text × X) (es : Named X) → same_text new x.0 ≡ true → AsWanted (x ∷ es) ((x.0, v) ∷ es)
  at_name x es same =
      let here : same_text new q ≡ same_text q x.0 = ap (λ (n : Text). same_text n q) ((bytes_decides new x.0).0 same) ∙ nat_list_eq_equiv.symm x.0 q in
      go (same_text q x.0) ∙ sym (ap (λ b. cond b (Some v) (cond (same_text q x.0) (Some x.1) (lookup (same_text q) es))) here)
    where
      go : (c : Bool) → cond c (Some v) (lookup (same_text q) es) ≡ cond c (Some v) (cond c (Some x.1) (lookup (same_text q) es))
      go true = refl
      go false = refl

  pub set_over : (es : Named X) → list_any (same_text new) (keys_of es) ≡ true → AsWanted es (set_value (same_text new) es v)
  set_over [] h = cc
  set_over (x ∷ es) h = go (same_text new x.0) refl h (set_over es)
    where
      go : (b : Bool) → same_text new x.0 ≡ b → (b || list_any (same_text new) (keys_of es)) ≡ true → (list_any (same_text new) (keys_of es) ≡ true → AsWanted es (set_value (same_text new) es v))
          → AsWanted (x ∷ es) (cond b ((x.0, v) ∷ es) (x ∷ set_value (same_text new) es v))
      go true e h ih = at_name x es e
      go false e h ih = past x es (set_value (same_text new) es v) e (ih h)

  pub put_behind : (es : Named X) → list_any (same_text new) (keys_of es) ≡ false → AsWanted es (es ++ (new, v) ∷ [])
  put_behind [] h = ap (λ b. cond b (Some v) None) (nat_list_eq_equiv.symm q new)
  put_behind (x ∷ es) h = go (same_text new x.0) refl h (put_behind es)
    where
      go : (b : Bool) → same_text new x.0 ≡ b → (b || list_any (same_text new) (keys_of es)) ≡ false → (list_any (same_text new) (keys_of es) ≡ false → AsWanted es (es ++ (new, v) ∷ [])) → AsWanted (x ∷ es) (x ∷ (es ++ (new, v) ∷ []))
      go true e h ih = cc
      go false e h ih = past x es (es ++ (new, v) ∷ []) e (ih h)

  -- what is at other names stays
  pub set_other : (es : Named X) → same_text new q ≡ false → lookup (same_text q) (set_value (same_text new) es v) ≡ lookup (same_text q) es
  set_other [] unlike = refl
  set_other (x ∷ es) unlike = go (same_text new x.0) refl (set_other es unlike)
    where
      go : (b : Bool) → same_text new x.0 ≡ b → lookup (same_text q) (set_value (same_text new) es v) ≡ lookup (same_text q) es → lookup (same_text q) (cond b ((x.0, v) ∷ es) (x ∷ set_value (same_text new) es v)) ≡ lookup (same_text q) (x ∷ es)
      go true e ih = at_name x es e ∙ ap (λ b. cond b (Some v) (lookup (same_text q) (x ∷ es))) unlike
      go false e ih = ap (cond (same_text q x.0) (Some x.1)) ih
