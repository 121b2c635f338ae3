-- Items in turn, place by place.
use Rattle.std.proofs.Common.{◌≡◌, ℕ, zero, suc, List, [], ◌∷◌, ◌++◌, length, take, Some, None, Result, Ok, Err, refl, sym, ap, ◌∙◌, append_assoc, append-nil}
use Rattle.std.specs.Prelude.{slice_get}
use Rattle.vtl_lists.specs.Results.{◌>>=◌}
use Rattle.check_faults.specs.InTurn.{FailedAt, GaveEach, in_turn}

-- behind what is done
abbrev behind : {A B E : Type 0} → List B → (List B → A → Result B E) → List B → A → Result B E
behind done step ys x = step (done ++ ys) x

none : {A B E : Type 0} (step : List B → A → Result B E) → GaveEach step [] []
none step = (refl, λ i x e. cc)

cons : {A B E : Type 0} (step : List B → A → Result B E) (x : A) (xs : List A) (y : B) (ys : List B) → step [] x ≡ Ok y → GaveEach (behind (y ∷ []) step) xs ys → GaveEach step (x ∷ xs) (y ∷ ys)
cons {A} {B} step x xs y ys first rest = (ap suc rest.0, at)
  where
    at : (i : ℕ) (v : A) → slice_get (x ∷ xs) i ≡ Some v → (w : B) × (slice_get (y ∷ ys) i ≡ Some w) × (step (take i (y ∷ ys)) v ≡ Ok w)
    at zero v e = (y, refl, cc)
    at (suc i) v e = rest.1 i v e

head : {A B E : Type 0} (step : List B → A → Result B E) (x : A) (xs : List A) (y : B) (ys : List B) → GaveEach step (x ∷ xs) (y ∷ ys) → step [] x ≡ Ok y
head step x xs y ys h =
    let g = h.1 zero x refl in
    let here : Some y ≡ Some g.0 = g.1 in
    let gave : step [] x ≡ Ok g.0 = g.2 in
    cc

tail : {A B E : Type 0} (step : List B → A → Result B E) (x : A) (xs : List A) (y : B) (ys : List B) → GaveEach step (x ∷ xs) (y ∷ ys) → GaveEach (behind (y ∷ []) step) xs ys
tail step x xs y ys h = (cc, λ i v e. h.1 (suc i) v e)

-- a step that gives the same
alike : {A B E : Type 0} (s t : List B → A → Result B E) (xs : List A) (ys : List B) → ((zs : List B) (x : A) → s zs x ≡ t zs x) → GaveEach s xs ys → GaveEach t xs ys
alike s t xs ys same h = (h.0, λ i x e. let g = h.1 i x e in (g.0, g.1, sym (same (take i ys) x) ∙ g.2))

more : {A B E : Type 0} (step : List B → A → Result B E) (done : List B) (y : B) (ys : List B) (x : A) → behind (done ++ y ∷ []) step ys x ≡ behind (y ∷ []) (behind done step) ys x
more step done y ys x = ap (λ l. step l x) (append_assoc done (y ∷ []) ys)

cons-behind : {A B E : Type 0} (step : List B → A → Result B E) (done : List B) (x : A) (xs : List A) (y : B) (ys : List B) → step done x ≡ Ok y → GaveEach (behind (done ++ y ∷ []) step) xs ys → GaveEach (behind done step) (x ∷ xs) (y ∷ ys)
cons-behind step done x xs y ys first rest =
    cons (behind done step) x xs y ys (ap (λ l. step l x) (append-nil done) ∙ first)
    (alike (behind (done ++ y ∷ []) step) (behind (y ∷ []) (behind done step)) xs ys (λ zs x. more step done y zs x) rest)

pub gives : {A B E : Type 0} (step : List B → A → Result B E) (done : List B) (xs : List A) (zs : List B) → in_turn step done xs ≡ Ok zs → (ys : List B) × (zs ≡ done ++ ys) × GaveEach (behind done step) xs ys
gives step done [] zs e = ([], (let same : done ≡ zs = cc in sym same ∙ sym (append-nil done)), none (behind done step))
gives {A} {B} {E} step done (x ∷ xs) zs e = go (step done x) refl (λ y. gives step (done ++ y ∷ []) xs zs) e
  where
    go : (r : Result B E) → step done x ≡ r → ((y : B) → in_turn step (done ++ y ∷ []) xs ≡ Ok zs → (ys : List B) × (zs ≡ (done ++ y ∷ []) ++ ys) × GaveEach (behind (done ++ y ∷ []) step) xs ys)
        → (r >>= λ y. in_turn step (done ++ y ∷ []) xs) ≡ Ok zs → (ys : List B) × (zs ≡ done ++ ys) × GaveEach (behind done step) (x ∷ xs) ys
    go (Ok y) first ih e = let g = ih y e in (y ∷ g.0, g.1 ∙ append_assoc done (y ∷ []) g.0, cons-behind step done x xs y g.0 first g.2)
    go (Err broken) first ih e = cc

pub given : {A B E : Type 0} (step : List B → A → Result B E) (done : List B) (xs : List A) (ys : List B) → GaveEach (behind done step) xs ys → in_turn step done xs ≡ Ok (done ++ ys)
given step done [] [] h = ap Ok (sym (append-nil done))
given step done [] (y ∷ ys) h = let no : length (y ∷ ys) ≡ zero = h.0 in cc
given step done (x ∷ xs) [] h = let no : zero ≡ length (x ∷ xs) = h.0 in cc
given step done (x ∷ xs) (y ∷ ys) h =
    let first : step done x ≡ Ok y = ap (λ l. step l x) (sym (append-nil done)) ∙ head (behind done step) x xs y ys h in
    let rest : GaveEach (behind (done ++ y ∷ []) step) xs ys = alike (behind (y ∷ []) (behind done step)) (behind (done ++ y ∷ []) step) xs ys (λ zs x. sym (more step done y zs x)) (tail (behind done step) x xs y ys h) in
    ap (λ r. r >>= λ y. in_turn step (done ++ y ∷ []) xs) first ∙ given step (done ++ y ∷ []) xs ys rest ∙ ap Ok (append_assoc done (y ∷ []) ys)

same-error : {A E : Type 0} (a b : E) (r s : Result A E) → r ≡ Err a → s ≡ Err b → r ≡ s → a ≡ b
same-error a b r s is_a is_b e = cc

pub fails : {A B E : Type 0} (step : List B → A → Result B E) (done : List B) (xs : List A) (e : E) → in_turn step done xs ≡ Err e → FailedAt (behind done step) xs e
fails step done [] e h = cc
fails {A} {B} {E} step done (x ∷ xs) e h = go (step done x) refl (λ y. fails step (done ++ y ∷ []) xs e) h
  where
    go : (r : Result B E) → step done x ≡ r → ((y : B) → in_turn step (done ++ y ∷ []) xs ≡ Err e → FailedAt (behind (done ++ y ∷ []) step) xs e)
        → (r >>= λ y. in_turn step (done ++ y ∷ []) xs) ≡ Err e → FailedAt (behind done step) (x ∷ xs) e
    go (Ok y) first ih h =
        let g = ih y h in
        (suc g.0, g.1, y ∷ g.2, g.3, cons-behind step done x (take g.0 xs) y g.2 first g.4, sym (more step done y g.2 g.1) ∙ g.5)
    go (Err broken) first ih h = (zero, x, [], refl, none (behind done step), ap (λ l. step l x) (append-nil done) ∙ first ∙ ap Err (same-error broken e (Err broken) (Err e) refl refl h))

pub failed : {A B E : Type 0} (step : List B → A → Result B E) (done : List B) (xs : List A) (e : E) → FailedAt (behind done step) xs e → in_turn step done xs ≡ Err e
failed step done [] e h = let no : None ≡ Some h.1 = h.3 in cc
failed step done (x ∷ xs) e (zero, v, [], s, g, h) = ap (λ r. r >>= λ y. in_turn step (done ++ y ∷ []) xs) (ap (λ l. step l x) (sym (append-nil done)) ∙ (let same : x ≡ v = cc in ap (step (done ++ [])) same ∙ h))
failed step done (x ∷ xs) e (zero, v, y ∷ ys, s, g, h) = let no : length (y ∷ ys) ≡ zero = g.0 in cc
failed step done (x ∷ xs) e (suc i, v, [], s, g, h) = let no : zero ≡ suc (length (take i xs)) = g.0 in cc
failed step done (x ∷ xs) e (suc i, v, y ∷ ys, s, g, h) =
    let first : step done x ≡ Ok y = ap (λ l. step l x) (sym (append-nil done)) ∙ head (behind done step) x (take i xs) y ys g in
    let rest : GaveEach (behind (done ++ y ∷ []) step) (take i xs) ys = alike (behind (y ∷ []) (behind done step)) (behind (done ++ y ∷ []) step) (take i xs) ys (λ zs x. sym (more step done y zs x)) (tail (behind done step) x (take i xs) y ys g) in
    ap (λ r. r >>= λ y. in_turn step (done ++ y ∷ []) xs) first ∙ failed step (done ++ y ∷ []) xs e (i, v, ys, s, rest, more step done y ys v ∙ h)
