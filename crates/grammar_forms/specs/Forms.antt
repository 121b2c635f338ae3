-- Forms of a language over tokens: what each spells, how it is read, the classes of its first tokens, and those of the tokens that may go on with it.
use Rattle.vtl_lists.specs.Options.{◌>>=◌, given}
use Rattle.std.specs.Prelude.{◌≡◌, ◌⊎◌, ℕ, zero, suc, Bool, true, false, ◌&&◌, List, [], ◌∷◌, ◌++◌, length, map, Option, None, Some, option_map, nat_eq, nat_le, max, if◌then◌else◌}

-- the tokens mean the value
abbrev pub Spelling : Type 0 → Type 0 → Type 1
Spelling T A = List T → A → Type 0

-- what stands at the front of some tokens, and the tokens behind it
abbrev pub Reads : Type 0 → Type 0 → Type 0
Reads T A = List T → Option (A × List T)

pub record Form (T A : Type 0) : Type 1 where
  pub spells : Spelling T A
  pub reads : Reads T A
  pub starts : List ℕ
  pub more : List ℕ
  pub empty : Bool

abbrev pub gives : {T A : Type 0} → A → List T → Option (A × List T)
gives a ts = Some (a, ts)

-- ---- a token

-- what a class stands for in a table
abbrev pub lookup : {A : Type 0} → List (ℕ × A) → ℕ → Option A
lookup [] c = None
lookup (p ∷ ps) c = if nat_eq p.0 c then Some p.1 else lookup ps c

abbrev pub first_as : {T A : Type 0} → (T → Option A) → Reads T A
first_as at [] = None
first_as at (t ∷ ts) = option_map (λ a. (a, ts)) (at t)

pub record IsToken {T A : Type 0} (at : T → Option A) (ts : List T) (a : A) : Type 0 where
  pub token : T
  pub is : ts ≡ token ∷ []
  pub stands_for : at token ≡ Some a

-- one token, of one of these classes, as what it stands for
abbrev pub token : {T A : Type 0} → List ℕ → (T → Option A) → Form T A
token starts at = record { spells = IsToken at; reads = first_as at; starts = starts; more = []; empty = false }

-- a word of a table
abbrev pub words : {T A : Type 0} → (T → ℕ) → List (ℕ × A) → Form T A
words class table = token (map (λ p. p.0) table) (λ t. lookup table (class t))

abbrev pub word : {T : Type 0} → (T → ℕ) → ℕ → Form T (Unit {0})
word class c = words class ((c, tt) ∷ [])

-- ---- one after the other

pub record Both {T A B : Type 0} (f : Spelling T A) (g : Spelling T B) (ts : List T) (p : A × B) : Type 0 where
  pub left : List T
  pub right : List T
  pub is : ts ≡ left ++ right
  pub first : f left p.0
  pub second : g right p.1

abbrev pub then_reads : {T A B : Type 0} → Reads T A → Reads T B → Reads T (A × B)
then_reads f g ts = f ts >>= (λ p. g p.1 >>= (λ q. gives (p.0, q.0) q.1))

abbrev pub seq : {T A B : Type 0} → Form T A → Form T B → Form T (A × B)
seq f g = record {
  spells = Both f.spells g.spells;
  reads = then_reads f.reads g.reads;
  starts = if f.empty then f.starts ++ g.starts else f.starts;
  more = if g.empty then g.more ++ f.more else g.more;
  empty = f.empty && g.empty;
}

-- ---- what is made of a form

pub record IsMade {T A B : Type 0} (make : A → Option B) (f : Spelling T A) (ts : List T) (b : B) : Type 0 where
  pub part : A
  pub spelled : f ts part
  pub is : make part ≡ Some b

-- what is made of what the form means; nothing where none is made
abbrev pub made : {T A B : Type 0} → (A → Option B) → Form T A → Form T B
made make f = record {
  spells = IsMade make f.spells;
  reads = λ ts. f.reads ts >>= (λ p. make p.0 >>= (λ b. gives b p.1));
  starts = f.starts;
  more = f.more;
  empty = f.empty;
}

abbrev pub «as» : {T A B : Type 0} → (A → B) → Form T A → Form T B
«as» f = made (λ a. Some (f a))

-- the second alone is meant
abbrev pub after : {T O A : Type 0} → Form T O → Form T A → Form T A
after w f = «as» (λ p. p.1) (seq w f)

-- the first alone is meant
abbrev pub before : {T A O : Type 0} → Form T A → Form T O → Form T A
before f w = «as» (λ p. p.0) (seq f w)

-- ---- one or the other

abbrev pub or : {T A : Type 0} → Form T A → Form T A → Form T A
or f g = record {
  spells = λ ts a. f.spells ts a ⊎ g.spells ts a;
  reads = λ ts. given (f.reads ts) (λ p. Some p) (g.reads ts);
  starts = f.starts ++ g.starts;
  more = f.more ++ g.more;
  empty = false;
}

-- ---- one or nothing

abbrev pub MaybeSpells : {T A : Type 0} → Spelling T A → Spelling T (Option A)
MaybeSpells f ts None = ts ≡ []
MaybeSpells f ts (Some a) = f ts a

abbrev pub maybe : {T A : Type 0} → Form T A → Form T (Option A)
maybe f = record {
  spells = MaybeSpells f.spells;
  reads = λ ts. given (f.reads ts) (λ p. gives (Some p.0) p.1) (gives None ts);
  starts = f.starts;
  more = f.starts ++ f.more;
  empty = true;
}

-- nothing stands there
pub record IsAbsent {T A : Type 0} (value : A) (ts : List T) (a : A) : Type 0 where
  pub none : ts ≡ []
  pub is : a ≡ value

-- no token, which means the value
abbrev pub absent : {T A : Type 0} → A → Form T A
absent value = record { spells = IsAbsent value; reads = λ ts. gives value ts; starts = []; more = []; empty = true }

-- ---- what a mark begins, or another; where the mark stands there is no way back

abbrev pub led_reads : {T O B A : Type 0} → Reads T O → Reads T B → (O × B → Option A) → Reads T A → Reads T A
led_reads mark body make other ts = given (mark ts) (λ o. body o.1 >>= (λ b. make (o.0, b.0) >>= (λ a. gives a b.1))) (other ts)

abbrev pub led : {T O B A : Type 0} → Form T O → Form T B → (O × B → Option A) → Form T A → Form T A
led mark body make other = record {
  spells = λ ts a. IsMade make (Both mark.spells body.spells) ts a ⊎ other.spells ts a;
  reads = led_reads mark.reads body.reads make other.reads;
  starts = mark.starts ++ other.starts;
  more = (if body.empty then body.more ++ mark.more else body.more) ++ (if other.empty then other.more ++ mark.starts else other.more);
  empty = other.empty;
}

-- what a mark begins, or nothing
abbrev pub maybe_after : {T O A : Type 0} → Form T O → Form T A → Form T (Option A)
maybe_after mark f = led mark f (λ p. Some (Some p.1)) (absent None)

-- ---- one, and as many steps more as there are; `join` puts each to what stands before it

abbrev pub joined : {A S : Type 0} → (A → S → Option A) → A → List S → Option A
joined join a [] = Some a
joined join a (s ∷ ss) = join a s >>= (λ b. joined join b ss)

-- one after the other
abbrev pub EachSpells : {T S : Type 0} → Spelling T S → List T → List S → Type 0
EachSpells {T} f ts [] = ts ≡ []
EachSpells {T} f ts (s ∷ ss) = (left : List T) × (right : List T) × (ts ≡ left ++ right) × f left s × EachSpells f right ss

pub record IsChain {T A S : Type 0} (first : Spelling T A) (step : Spelling T S) (join : A → S → Option A) (ts : List T) (a : A) : Type 0 where
  pub left : List T
  pub right : List T
  pub is : ts ≡ left ++ right
  pub start : A
  pub spelled : first left start
  pub steps : List S
  pub each : EachSpells step right steps
  pub ends : joined join start steps ≡ Some a

-- steps until none stands there; the number bounds them
abbrev pub turns : {T A S : Type 0} → Reads T S → (A → S → Option A) → ℕ → A → Reads T A
turns step join zero a ts = gives a ts
turns step join (suc n) a ts = given (step ts) (λ s. join a s.0 >>= (λ b. turns step join n b s.1)) (gives a ts)

abbrev pub chain_reads : {T A S : Type 0} → Reads T A → Reads T S → (A → S → Option A) → Reads T A
chain_reads first step join ts = first ts >>= (λ p. turns step join (length p.1) p.0 p.1)

abbrev pub chain : {T A S : Type 0} → Form T A → Form T S → (A → S → Option A) → Form T A
chain first step join = record {
  spells = IsChain first.spells step.spells join;
  reads = chain_reads first.reads step.reads join;
  starts = first.starts;
  more = step.starts ++ (step.more ++ first.more);
  empty = false;
}

abbrev pub one_of : {A : Type 0} → A → List A
one_of a = a ∷ []

abbrev pub added : {A : Type 0} → List A → A → Option (List A)
added items a = Some (items ++ a ∷ [])

-- item { mark item }
abbrev pub listed : {T O A : Type 0} → Form T O → Form T A → Form T (List A)
listed mark item = chain («as» one_of item) (after mark item) added

-- ---- depth

-- a tree and the depth of how it is written
pub record Deep (A : Type 0) : Type 0 where
  pub tree : A
  pub depth : ℕ

abbrev pub deep : {A : Type 0} → A → ℕ → Deep A
deep tree depth = record { tree = tree; depth = depth }

-- a tree that is no deeper than the limit
abbrev pub limited : {A : Type 0} → ℕ → A → ℕ → Option (Deep A)
limited n tree depth = if nat_le depth n then Some (deep tree depth) else None

abbrev pub deep_one : {A : Type 0} → Deep A → Deep (List A)
deep_one a = deep (a.tree ∷ []) a.depth

abbrev pub deep_added : {A : Type 0} → Deep (List A) → Deep A → Option (Deep (List A))
deep_added items a = Some (deep (items.tree ++ a.tree ∷ []) (max items.depth a.depth))

-- a list of trees, as deep as its deepest
abbrev pub deep_listed : {T O A : Type 0} → Form T O → Form T (Deep A) → Form T (Deep (List A))
deep_listed mark item = chain («as» deep_one item) (after mark item) deep_added

-- nothing is of this form
abbrev pub nothing : {T A : Type 0} → Form T A
nothing = record { spells = λ ts a. ⊥; reads = λ ts. None; starts = []; more = []; empty = false }

-- the form, with the first tokens and the others as told
abbrev pub gate : {T A : Type 0} → List ℕ → List ℕ → Form T A → Form T A
gate starts more f = record { spells = f.spells; reads = f.reads; starts = starts; more = more; empty = false }

-- ---- tests of classes

abbrev pub has : List ℕ → ℕ → Bool
has [] n = false
has (m ∷ ms) n = if nat_eq m n then true else has ms n

-- no class is in both
abbrev pub apart : List ℕ → List ℕ → Bool
apart [] ys = true
apart (x ∷ xs) ys = if has ys x then false else apart xs ys

-- each class of the first is in the second
abbrev pub among : List ℕ → List ℕ → Bool
among [] ys = true
among (x ∷ xs) ys = if has ys x then among xs ys else false
