-- Spellings that agree up to a bound: what the first spells and is not deeper than the bound, the second spells.
use Rattle.std.proofs.Common.{◌≡◌, ◌⊎◌, inl, inr, ◌∙◌, ◌≤◌, ℕ, max, Bool, true, false, List, [], ◌∷◌, Option, None, Some, refl, ap, arith}
use Rattle.vtl_lists.specs.Options.{◌>>=◌}
use Rattle.grammar_forms.specs.Forms.{Spelling, Both, IsMade, IsChain, EachSpells, Deep, deep, limited, joined}
use Rattle.grammar_forms.proofs.Laws.{some_of}
use borrow.Author.Tests.{le-leb}
use Rattle.std.specs.Prelude.{nat_le, if◌then◌else◌}

abbrev pub Narrow : {T A : Type 0} → (A → ℕ) → ℕ → Spelling T A → Spelling T A → Type 0
Narrow {T} {A} d n f g = (ts : List T) (a : A) → f ts a → d a ≤ n → g ts a

pub narrow-seq : {T A B : Type 0} {f f' : Spelling T A} {g g' : Spelling T B} (da : A → ℕ) (db : B → ℕ) (n : ℕ) → Narrow da n f f' → Narrow db n g g' → Narrow (λ p. max (da p.0) (db p.1)) n (Both f g) (Both f' g')
narrow-seq da db n nf ng ts p h low = record { left = h.left; right = h.right; is = h.is; first = nf h.left p.0 h.first (omega (arith, low)); second = ng h.right p.1 h.second (omega (arith, low)) }

pub narrow-made : {T A B : Type 0} {f f' : Spelling T A} (da : A → ℕ) (db : B → ℕ) (k n : ℕ) (make make' : A → Option B) → ((a : A) (b : B) → make a ≡ Some b → db b ≤ n → (da a ≤ k) × (make' a ≡ Some b)) → Narrow da k f f' → Narrow db n (IsMade make f) (IsMade make' f')
narrow-made da db k n make make' both nf ts b h low = let r = both h.part b h.is low in record { part = h.part; spelled = nf ts h.part h.spelled r.0; is = r.1 }

pub narrow-as : {T A B : Type 0} {f f' : Spelling T A} (da : A → ℕ) (db : B → ℕ) (n : ℕ) (to : A → B) → ((a : A) → da a ≤ db (to a)) → Narrow da n f f' → Narrow db n (IsMade (λ a. Some (to a)) f) (IsMade (λ a. Some (to a)) f')
narrow-as da db n to less nf = narrow-made da db n n (λ a. Some (to a)) (λ a. Some (to a)) (λ a b is low. (omega (arith, less a, low, ap db (some_of (to a) b is)), is)) nf

pub narrow-after : {T O A : Type 0} {w : Spelling T O} {f f' : Spelling T A} (d : A → ℕ) (n : ℕ) → Narrow d n f f' → Narrow d n (IsMade (λ p. Some p.1) (Both w f)) (IsMade (λ p. Some p.1) (Both w f'))
narrow-after d n nf ts a h low =
    let b = h.spelled in
    record { part = h.part; spelled = record { left = b.left; right = b.right; is = b.is; first = b.first; second = nf b.right h.part.1 b.second (omega (arith, low, ap d (some_of h.part.1 a h.is))) }; is = h.is }

pub narrow-before : {T O A : Type 0} {w : Spelling T O} {f f' : Spelling T A} (d : A → ℕ) (n : ℕ) → Narrow d n f f' → Narrow d n (IsMade (λ p. Some p.0) (Both f w)) (IsMade (λ p. Some p.0) (Both f' w))
narrow-before d n nf ts a h low =
    let b = h.spelled in
    record { part = h.part; spelled = record { left = b.left; right = b.right; is = b.is; first = nf b.left h.part.0 b.first (omega (arith, low, ap d (some_of h.part.0 a h.is))); second = b.second }; is = h.is }

pub narrow-or : {T A : Type 0} {f f' g g' : Spelling T A} (d : A → ℕ) (n : ℕ) → Narrow d n f f' → Narrow d n g g' → Narrow d n (λ ts a. f ts a ⊎ g ts a) (λ ts a. f' ts a ⊎ g' ts a)
narrow-or d n nf ng ts a (inl h) low = inl (nf ts a h low)
narrow-or d n nf ng ts a (inr h) low = inr (ng ts a h low)

-- ---- chains

record Narrowed {T A S : Type 0} (step : Spelling T S) (join : A → S → Option A) (da : A → ℕ) (n : ℕ) (ts : List T) (start : A) (steps : List S) (a : A) : Type 0 where
  low : da start ≤ n
  each : EachSpells step ts steps
  ends : joined join start steps ≡ Some a

module _ {T A S : Type 0} {first first' : Spelling T A} {step step' : Spelling T S} (da : A → ℕ) (ds : S → ℕ) (n k : ℕ) (join join' : A → S → Option A)
    (both : (a : A) (s : S) (b : A) → join a s ≡ Some b → da b ≤ n → (da a ≤ n) × (ds s ≤ k) × (join' a s ≡ Some b)) (nf : Narrow da n first first') (ns : Narrow ds k step step') where
  narrow-steps : (steps : List S) (ts : List T) (start a : A) → EachSpells step ts steps → joined join start steps ≡ Some a → da a ≤ n → Narrowed step' join' da n ts start steps a
  narrow-steps [] ts start a each ends low = record { low = omega (arith, low, ap da (some_of start a ends)); each = each; ends = ends }
  narrow-steps (s ∷ ss) ts start a each ends low = by_join (join start s) refl ends (λ b h. narrow-steps ss each.1 b a each.4 h low)
    where
      by_join : (r : Option A) → join start s ≡ r → (r >>= (λ b. joined join b ss)) ≡ Some a → ((b : A) → joined join b ss ≡ Some a → Narrowed step' join' da n each.1 b ss a) → Narrowed step' join' da n ts start (s ∷ ss) a
      by_join None e h ih = cc
      by_join (Some b) e h ih =
          let rest = ih b h in
          let here = both start s b e rest.low in
          record { low = here.0; each = (each.0, each.1, each.2, ns each.0 s each.3 here.1, rest.each); ends = ap (λ r. r >>= (λ c. joined join' c ss)) here.2 ∙ rest.ends }

  pub narrow-chain : Narrow da n (IsChain first step join) (IsChain first' step' join')
  narrow-chain ts a h low =
      let r = narrow-steps h.steps h.right h.start a h.each h.ends low in
      record { left = h.left; right = h.right; is = h.is; start = h.start; spelled = nf h.left h.start h.spelled r.low; steps = h.steps; each = r.each; ends = r.ends }

-- ---- limits

abbrev pub depth : {A : Type 0} → Deep A → ℕ
depth x = x.depth

relimit-at : {A : Type 0} (b : Bool) (n : ℕ) (t : A) (d : ℕ) (x : Deep A) → (if b then Some (deep t d) else None) ≡ Some x → x.depth ≤ n → (d ≤ n) × (limited n t d ≡ Some x)
relimit-at true n t d x e low =
    let same : deep t d ≡ x = some_of (deep t d) x e in
    let fits : d ≤ n = omega (arith, low, ap depth same) in
    (fits, rw (le-leb d n fits) e)
relimit-at false n t d x e low = cc

-- within one limit, and so within another that holds it
pub relimit : {A : Type 0} (m n : ℕ) (t : A) (d : ℕ) (x : Deep A) → limited m t d ≡ Some x → x.depth ≤ n → (d ≤ n) × (limited n t d ≡ Some x)
relimit m n t d x e low = relimit-at (nat_le d m) n t d x e low
