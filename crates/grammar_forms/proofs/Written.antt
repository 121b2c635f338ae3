-- What is written of parts spells what they make.
use Rattle.std.proofs.Common.{◌∙◌, List, [], ◌∷◌, ◌++◌, Some, refl, sym, ap, subst, append_assoc, append-nil}
use Rattle.grammar_forms.specs.Forms.{Form, Spelling, Both, IsMade, EachSpells, listed}
use Rattle.grammar_forms.specs.Written.{Each, behind, between, run}
use Rattle.grammar_forms.proofs.Chains.{chain-alone, chain-more}

pub both-of : {T A B : Type 0} {f : Spelling T A} {g : Spelling T B} {a : A} {b : B} (l r : List T) → f l a → g r b → Both f g (l ++ r) (a, b)
both-of l r h k = record { left = l; right = r; is = refl; first = h; second = k }

pub as-of : {T A B : Type 0} {f : Spelling T A} (to : A → B) (ts : List T) (a : A) → f ts a → IsMade (λ x. Some (to x)) f ts (to a)
as-of to ts a h = record { part = a; spelled = h; is = refl }

pub after-of : {T O A : Type 0} {w : Spelling T O} {f : Spelling T A} {a : A} (l r : List T) (o : O) → w l o → f r a → IsMade (λ p. Some p.1) (Both w f) (l ++ r) a
after-of {a = a} l r o h k = record { part = (o, a); spelled = record { left = l; right = r; is = refl; first = h; second = k }; is = refl }

pub before-of : {T O A : Type 0} {f : Spelling T A} {w : Spelling T O} {a : A} (l r : List T) (o : O) → f l a → w r o → IsMade (λ p. Some p.0) (Both f w) (l ++ r) a
before-of {a = a} l r o h k = record { part = (a, o); spelled = record { left = l; right = r; is = refl; first = h; second = k }; is = refl }

-- ---- lists, of items for which the property holds

module _ {T O A : Type 0} (mark : Form T O) (item : Form T A) (marks : List T) (o : O) (marked : mark.spells marks o) (f : A → List T) (P : A → Type 0) (good : (x : A) → P x → item.spells (f x) x) where
  more-items : (xs before : List A) (us : List T) → Each P xs → (listed mark item).spells us before → (listed mark item).spells (us ++ behind marks f xs) (before ++ xs)
  more-items [] before us each h = subst (λ ts. (listed mark item).spells ts (before ++ [])) (sym (append-nil us)) (subst ((listed mark item).spells us) (sym (append-nil before)) h)
  more-items (x ∷ xs) before us each h =
      let longer = chain-more _ _ _ us (marks ++ f x) before (before ++ x ∷ []) x h (after-of marks (f x) o marked (good x each.0)) refl in
      let rest = more-items xs (before ++ x ∷ []) (us ++ (marks ++ f x)) each.1 longer in
      subst (λ ts. (listed mark item).spells ts (before ++ x ∷ xs)) (append_assoc us (marks ++ f x) (behind marks f xs) ∙ ap (λ ts. us ++ ts) (append_assoc marks (f x) (behind marks f xs))) (subst ((listed mark item).spells ((us ++ (marks ++ f x)) ++ behind marks f xs)) (append_assoc before (x ∷ []) xs) rest)

  pub listed-of : (x : A) (xs : List A) → P x → Each P xs → (listed mark item).spells (between marks f (x ∷ xs)) (x ∷ xs)
  listed-of x xs first each = more-items xs (x ∷ []) (f x) each (chain-alone _ _ _ (f x) (x ∷ []) (record { part = x; spelled = good x first; is = refl }))

-- ---- steps without marks

pub each-of : {T A : Type 0} (step : Spelling T A) (f : A → List T) (P : A → Type 0) → ((x : A) → P x → step (f x) x) → (xs : List A) → Each P xs → EachSpells step (run f xs) xs
each-of step f P good [] each = refl
each-of step f P good (x ∷ xs) each = (f x, run f xs, refl, good x each.0, each-of step f P good xs each.1)
