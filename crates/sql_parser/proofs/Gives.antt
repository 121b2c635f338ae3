-- What the trees of a form have in common, where each token has a property.
use Rattle.std.proofs.Common.{◌≡◌, ◌⊎◌, inl, inr, ◌≤◌, ℕ, Bool, true, false, List, [], ◌∷◌, ◌++◌, length, max, Option, None, Some, refl, sym, subst, arith, length-append}
use Rattle.std.specs.Prelude.{nat_eq, nat_le, if◌then◌else◌}
use Rattle.vtl_lists.specs.Options.{◌>>=◌}
use Rattle.grammar_forms.specs.Forms.{Spelling, Both, Deep, deep, deep_added, deep_one, EachSpells, IsAbsent, IsChain, IsMade, IsToken, MaybeSpells, added, joined, limited, lookup, one_of}
use Rattle.grammar_forms.specs.Written.{Each}
use Rattle.grammar_forms.proofs.Laws.{some_of}
use Rattle.std.proofs.lemmas.Bool.{leb-true}

abbrev pub Gives : {T A : Type 0} → (T → Type 0) → (A → Type 0) → Spelling T A → Type 0
Gives {T} {A} Good P spells = (ts : List T) (a : A) → Each Good ts → spells ts a → P a

pub each-split : {A : Type 0} (P : A → Type 0) (xs ys : List A) → Each P (xs ++ ys) → Each P xs × Each P ys
each-split P [] ys h = (tt, h)
each-split P (x ∷ xs) ys h = let more = each-split P xs ys h.1 in ((h.0, more.0), more.1)

pub each-push : {A : Type 0} (P : A → Type 0) (xs : List A) (x : A) → Each P xs → P x → Each P (xs ++ x ∷ [])
each-push P [] x h p = (p, tt)
each-push P (y ∷ xs) x h p = (h.0, each-push P xs x h.1 p)

pub each-map : {A : Type 0} (P Q : A → Type 0) → ((a : A) → P a → Q a) → (xs : List A) → Each P xs → Each Q xs
each-map P Q k [] h = tt
each-map P Q k (x ∷ xs) h = (k x h.0, each-map P Q k xs h.1)

abbrev pub Maybe : {A : Type 0} → (A → Type 0) → Option A → Type 0
Maybe P None = Unit {0}
Maybe P (Some a) = P a

abbrev pub Any : {A : Type 0} → A → Type 0
Any a = Unit {0}

-- at least one, and each has the property
abbrev pub Some-each : {A : Type 0} → (A → Type 0) → List A → Type 0
Some-each P xs = (1 ≤ length xs) × Each P xs

by_class : {A : Type 0} (P : A → Type 0) (b : Bool) (x a : A) (more : Option A) → P x → (more ≡ Some a → P a) → (if b then Some x else more) ≡ Some a → P a
by_class P true x a more p k e = subst P (some_of x a e) p
by_class P false x a more p k e = k e

lookup-gives : {A : Type 0} (P : A → Type 0) (table : List (ℕ × A)) (c : ℕ) (a : A) → Each (λ p. P p.1) table → lookup table c ≡ Some a → P a
lookup-gives P [] c a h e = cc
lookup-gives P (p ∷ ps) c a h e = by_class P (nat_eq p.0 c) p.1 a (lookup ps c) h.0 (λ d. lookup-gives P ps c a h.1 d) e

module _ {T : Type 0} (Good : T → Type 0) where
  pub gives-any : {A : Type 0} (f : Spelling T A) → Gives Good Any f
  gives-any f ts a good h = tt

  pub gives-token : {A : Type 0} (P : A → Type 0) {at : T → Option A} → ((t : T) (a : A) → Good t → at t ≡ Some a → P a) → Gives Good P (IsToken at)
  gives-token P known ts a good h = known h.token a (subst (Each Good) h.is good).0 h.stands_for

  pub gives-words : {A : Type 0} (P : A → Type 0) (class : T → ℕ) (table : List (ℕ × A)) → Each (λ p. P p.1) table → Gives Good P (IsToken (λ t. lookup table (class t)))
  gives-words P class table all ts a good h = lookup-gives P table (class h.token) a all h.stands_for

  pub gives-seq : {A B : Type 0} (P : A → Type 0) (Q : B → Type 0) {f : Spelling T A} {g : Spelling T B} → Gives Good P f → Gives Good Q g → Gives Good (λ p. P p.0 × Q p.1) (Both f g)
  gives-seq P Q gf gg ts p good h = let both = each-split Good h.left h.right (subst (Each Good) h.is good) in (gf h.left p.0 both.0 h.first, gg h.right p.1 both.1 h.second)

  pub gives-made : {A B : Type 0} (P : A → Type 0) (Q : B → Type 0) {make : A → Option B} {f : Spelling T A} → ((a : A) (b : B) → P a → make a ≡ Some b → Q b) → Gives Good P f → Gives Good Q (IsMade make f)
  gives-made P Q k gf ts b good h = k h.part b (gf ts h.part good h.spelled) h.is

  pub gives-as : {A B : Type 0} (P : A → Type 0) (Q : B → Type 0) (to : A → B) {f : Spelling T A} → ((a : A) → P a → Q (to a)) → Gives Good P f → Gives Good Q (IsMade (λ a. Some (to a)) f)
  gives-as P Q to k gf ts b good h = subst Q (some_of (to h.part) b h.is) (k h.part (gf ts h.part good h.spelled))

  -- behind another form, and before one
  pub gives-after : {O A : Type 0} (P : A → Type 0) {w : Spelling T O} {f : Spelling T A} → Gives Good P f → Gives Good P (IsMade (λ p. Some p.1) (Both w f))
  gives-after P gf ts a good h =
      let s = h.spelled in
      let both = each-split Good s.left s.right (subst (Each Good) s.is good) in
      subst P (some_of h.part.1 a h.is) (gf s.right h.part.1 both.1 s.second)

  pub gives-before : {A O : Type 0} (P : A → Type 0) {f : Spelling T A} {w : Spelling T O} → Gives Good P f → Gives Good P (IsMade (λ p. Some p.0) (Both f w))
  gives-before P gf ts a good h =
      let s = h.spelled in
      let both = each-split Good s.left s.right (subst (Each Good) s.is good) in
      subst P (some_of h.part.0 a h.is) (gf s.left h.part.0 both.0 s.first)

  pub gives-or : {A : Type 0} (P : A → Type 0) {f g : Spelling T A} → Gives Good P f → Gives Good P g → Gives Good P (λ ts a. f ts a ⊎ g ts a)
  gives-or P gf gg ts a good (inl h) = gf ts a good h
  gives-or P gf gg ts a good (inr h) = gg ts a good h

  pub gives-maybe : {A : Type 0} (P : A → Type 0) {f : Spelling T A} → Gives Good P f → Gives Good (Maybe P) (MaybeSpells f)
  gives-maybe P gf ts None good h = tt
  gives-maybe P gf ts (Some a) good h = gf ts a good h

  pub gives-absent : {A : Type 0} (P : A → Type 0) (value : A) → P value → Gives Good P (IsAbsent value)
  gives-absent P value p ts a good h = subst P (sym h.is) p

  -- what a mark leads, or another
  pub gives-led : {O B A : Type 0} (Q : B → Type 0) (P : A → Type 0) {mark : Spelling T O} {body : Spelling T B} {make : O × B → Option A} {other : Spelling T A}
      → ((o : O) (b : B) (a : A) → Q b → make (o, b) ≡ Some a → P a) → Gives Good Q body → Gives Good P other → Gives Good P (λ ts a. IsMade make (Both mark body) ts a ⊎ other ts a)
  gives-led Q P k gb go ts a good (inl h) =
      let s = h.spelled in
      let both = each-split Good s.left s.right (subst (Each Good) s.is good) in
      k h.part.0 h.part.1 a (gb s.right h.part.1 both.1 s.second) h.is
  gives-led Q P k gb go ts a good (inr h) = go ts a good h

  by_join : {A : Type 0} (P : A → Type 0) (a : A) (more : A → Option A) (r : Option A) → ((b : A) → r ≡ Some b → more b ≡ Some a → P a) → (r >>= more) ≡ Some a → P a
  by_join P a more None k e = cc
  by_join P a more (Some b) k e = k b refl e

  joined-gives : {A S : Type 0} (P : A → Type 0) (Q : S → Type 0) (step : Spelling T S) (join : A → S → Option A) → ((a : A) (s : S) (b : A) → P a → Q s → join a s ≡ Some b → P b) → Gives Good Q step
      → (ss : List S) (ts : List T) (start a : A) → P start → Each Good ts → EachSpells step ts ss → joined join start ss ≡ Some a → P a
  joined-gives P Q step join k gs [] ts start a p good each ends = subst P (some_of start a ends) p
  joined-gives P Q step join k gs (s ∷ ss) ts start a p good each ends =
      let both = each-split Good each.0 each.1 (subst (Each Good) each.2 good) in
      by_join P a (λ b. joined join b ss) (join start s) (λ b e d. joined-gives P Q step join k gs ss each.1 b a (k start s b p (gs each.0 s both.0 each.3) e) both.1 each.4 d) ends

  pub gives-chain : {A S : Type 0} (P : A → Type 0) (Q : S → Type 0) {first : Spelling T A} {step : Spelling T S} {join : A → S → Option A} → ((a : A) (s : S) (b : A) → P a → Q s → join a s ≡ Some b → P b)
      → Gives Good P first → Gives Good Q step → Gives Good P (IsChain first step join)
  gives-chain P Q {first = first} {step = step} {join = join} k gf gs ts a good h =
      let both = each-split Good h.left h.right (subst (Each Good) h.is good) in
      joined-gives P Q step join k gs h.steps h.right h.start a (gf h.left h.start both.0 h.spelled) both.1 h.each h.ends

  some-added : {A : Type 0} (P : A → Type 0) (xs : List A) (x : A) (ys : List A) → Some-each P xs → P x → added xs x ≡ Some ys → Some-each P ys
  some-added P xs x ys some p e = subst (Some-each P) (some_of (xs ++ x ∷ []) ys e) (omega (arith, some.0, length-append xs (x ∷ [])), each-push P xs x some.1 p)

  -- a list of items, each but the first behind a mark
  pub gives-listed : {O A : Type 0} (P : A → Type 0) {mark : Spelling T O} {item : Spelling T A} → Gives Good P item → Gives Good (Some-each P) (IsChain (IsMade (λ a. Some (one_of a)) item) (IsMade (λ p. Some p.1) (Both mark item)) added)
  gives-listed P gi = gives-chain (Some-each P) P (some-added P) (gives-as P (Some-each P) one_of (λ a p. (omega arith, (p, tt))) gi) (gives-after P gi)

-- ---- depths

-- trees, each of which is no deeper than the whole
abbrev pub Deep-each : {A : Type 0} → (A → ℕ → Type 0) → Deep (List A) → Type 0
Deep-each R ds = (1 ≤ length ds.tree) × Each (λ a. R a ds.depth) ds.tree

by_limit : {A : Type 0} (P : Deep A → Type 0) (n : ℕ) (tree : A) (depth : ℕ) (g : Deep A) (b : Bool) → nat_le depth n ≡ b → ((depth ≤ n) → P (deep tree depth)) → (if b then Some (deep tree depth) else None) ≡ Some g → P g
by_limit P n tree depth g true t k e = subst P (some_of (deep tree depth) g e) (k (leb-true depth n t))
by_limit P n tree depth g false t k e = cc

pub limited-is : {A : Type 0} (P : Deep A → Type 0) (n : ℕ) (tree : A) (depth : ℕ) (g : Deep A) → limited n tree depth ≡ Some g → ((depth ≤ n) → P (deep tree depth)) → P g
limited-is P n tree depth g e k = by_limit P n tree depth g (nat_le depth n) refl k e

pub deep-keeps : {A : Type 0} (R : A → ℕ → Type 0) → ((a : A) (n m : ℕ) → n ≤ m → R a n → R a m) → (xs : Deep (List A)) (x : Deep A) (ys : Deep (List A)) → Deep-each R xs → R x.tree x.depth → deep_added xs x ≡ Some ys → Deep-each R ys
deep-keeps R grows xs x ys some p e =
    let whole : ℕ = max xs.depth x.depth in
    subst (Deep-each R) (some_of (deep (xs.tree ++ x.tree ∷ []) whole) ys e)
    (omega (arith, some.0, length-append xs.tree (x.tree ∷ [])), each-push (λ a. R a whole) xs.tree x.tree (each-map (λ a. R a xs.depth) (λ a. R a whole) (λ a r. grows a xs.depth whole (omega arith) r) xs.tree some.1) (grows x.tree x.depth whole (omega arith) p))

pub gives-deep_listed : {T O A : Type 0} (Good : T → Type 0) (R : A → ℕ → Type 0) → ((a : A) (n m : ℕ) → n ≤ m → R a n → R a m) → {mark : Spelling T O} {item : Spelling T (Deep A)} → Gives Good (λ d. R d.tree d.depth) item
    → Gives Good (Deep-each R) (IsChain (IsMade (λ a. Some (deep_one a)) item) (IsMade (λ p. Some p.1) (Both mark item)) deep_added)
gives-deep_listed Good R grows gi =
    gives-chain Good (Deep-each R) (λ d. R d.tree d.depth) (deep-keeps R grows) (gives-as Good (λ d. R d.tree d.depth) (Deep-each R) deep_one (λ a p. (omega arith, (p, tt))) gi) (gives-after Good (λ d. R d.tree d.depth) gi)
