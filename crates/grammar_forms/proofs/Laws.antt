-- The laws of forms: what is read is spelled, what is spelled is read, and what it begins with.
use Rattle.std.proofs.Common.{◌≡◌, ◌⊎◌, inl, inr, ◌∙◌, ℕ, Bool, true, false, List, [], ◌∷◌, ◌++◌, map, Option, None, Some, refl, sym, ap, subst, append_assoc}
use Rattle.std.specs.Prelude.{nat_eq, if◌then◌else◌, ◌&&◌, option_map}
use Rattle.vtl_lists.specs.Options.{given, ◌>>=◌}
use Rattle.grammar_forms.specs.Forms.{led, led_reads, IsAbsent, absent, maybe_after, «as», after, before, Form, Spelling, Both, IsMade, IsToken, MaybeSpells, seq, made, or, maybe, token, words, lookup, first_as, nothing, gate, gives, has, apart, among}
use Rattle.grammar_forms.proofs.Tests.{clash, has-left, has-right, lacks-left, lacks-right, lacks-both, apart-lacks', among-has, among-lacks}

-- what tokens of a form begin with
abbrev pub Begins : {T : Type 0} → (T → ℕ) → List ℕ → Bool → List T → Type 0
Begins class starts empty [] = empty ≡ true
Begins class starts empty (t ∷ ts) = has starts (class t) ≡ true

-- no token of these classes is first
abbrev pub Stops : {T : Type 0} → (T → ℕ) → List ℕ → List T → Type 0
Stops class more [] = Unit {0}
Stops class more (t ∷ ts) = has more (class t) ≡ false

-- the tokens that were read, before those that are left
pub record Read {T A : Type 0} (f : Spelling T A) (ts : List T) (a : A) (rest : List T) : Type 0 where
  pub front : List T
  pub is : ts ≡ front ++ rest
  pub spelled : f front a

pub record Lawful {T A : Type 0} (class : T → ℕ) (f : Form T A) : Type 0 where
  pub sound : (ts : List T) (a : A) (rest : List T) → f.reads ts ≡ Some (a, rest) → Read f.spells ts a rest
  pub complete : (front : List T) (a : A) (rest : List T) → f.spells front a → Stops class f.more rest → f.reads (front ++ rest) ≡ Some (a, rest)
  pub begins : (front : List T) (a : A) → f.spells front a → Begins class f.starts f.empty front

-- ---- steps of reading

pub some_of : {A : Type 0} (x y : A) → Some x ≡ Some y → x ≡ y
some_of x y e = cc

pub pair_of : {A B : Type 0} (a : A) (b : B) (c : A) (d : B) → ◌≡◌ {A = Option (A × B)} (Some (a, b)) (Some (c, d)) → (a ≡ c) × (b ≡ d)
pair_of {A} {B} a b c d e = let x : A × B = (a, b) in let y : A × B = (c, d) in let p : x ≡ y = some_of x y e in (ap (λ q. q.0) p, ap (λ q. q.1) p)

pub stops-nil : {T : Type 0} (class : T → ℕ) (ts : List T) → Stops class [] ts
stops-nil class [] = tt
stops-nil class (t ∷ ts) = refl

pub stops-left : {T : Type 0} (class : T → ℕ) (xs ys : List ℕ) (ts : List T) → Stops class (xs ++ ys) ts → Stops class xs ts
stops-left class xs ys [] h = tt
stops-left class xs ys (t ∷ ts) h = lacks-left xs ys (class t) h

pub stops-right : {T : Type 0} (class : T → ℕ) (xs ys : List ℕ) (ts : List T) → Stops class (xs ++ ys) ts → Stops class ys ts
stops-right class xs ys [] h = tt
stops-right class xs ys (t ∷ ts) h = lacks-right xs ys (class t) h

pub stops-both : {T : Type 0} (class : T → ℕ) (xs ys : List ℕ) (ts : List T) → Stops class xs ts → Stops class ys ts → Stops class (xs ++ ys) ts
stops-both class xs ys [] a b = tt
stops-both class xs ys (t ∷ ts) a b = lacks-both xs ys (class t) a b

stops-among : {T : Type 0} (class : T → ℕ) (xs ys : List ℕ) (ts : List T) → among xs ys ≡ true → Stops class ys ts → Stops class xs ts
stops-among class xs ys [] a h = tt
stops-among class xs ys (t ∷ ts) a h = among-lacks xs ys (class t) a h

-- what begins apart stops
pub begins-stops : {T : Type 0} (class : T → ℕ) (more starts : List ℕ) (ts rest : List T) → apart more starts ≡ true → Begins class starts false ts → Stops class more (ts ++ rest)
begins-stops class more starts [] rest a h = cc
begins-stops class more starts (t ∷ ts) rest a h = apart-lacks' more starts (class t) a h

-- a form that is never empty does not read what it does not begin
pub unread : {T A : Type 0} (class : T → ℕ) (f : Form T A) → Lawful class f → f.empty ≡ false → (ts : List T) → Stops class f.starts ts → f.reads ts ≡ None
unread {T} {A} class f law full ts stops = by_answer (f.reads ts) refl
  where
    by_front : (a : A) (rest front : List T) → ts ≡ front ++ rest → Begins class f.starts f.empty front → ⊥
    by_front a rest [] is b = clash f.empty b full
    by_front a rest (t ∷ front) is b = let stopped : Stops class f.starts (t ∷ (front ++ rest)) = subst (Stops class f.starts) is stops in clash (has f.starts (class t)) b stopped

    by_answer : (r : Option (A × List T)) → f.reads ts ≡ r → f.reads ts ≡ None
    by_answer None e = e
    by_answer (Some p) e = let s = law.sound ts p.0 p.1 e in absurd (by_front p.0 p.1 s.front s.is (law.begins s.front p.0 s.spelled))

-- ---- one spelling at most, and no spelling begins another where nothing goes on

pub unique : {T A : Type 0} (class : T → ℕ) (f : Form T A) → Lawful class f → (ts : List T) (a b : A) → f.spells ts a → f.spells ts b → a ≡ b
unique class f law ts a b ha hb = (pair_of a [] b [] (sym (law.complete ts a [] ha tt) ∙ law.complete ts b [] hb tt)).0

pub exact : {T A : Type 0} (class : T → ℕ) (f : Form T A) → Lawful class f → f.more ≡ [] → (front rest front' rest' : List T) (a b : A) → front ++ rest ≡ front' ++ rest' → f.spells front a → f.spells front' b → (a ≡ b) × (rest ≡ rest')
exact class f law closed front rest front' rest' a b e ha hb =
    let stop = λ (ts : List _). subst (λ m. Stops class m ts) (sym closed) (stops-nil class ts) in
    pair_of a rest b rest' (sym (law.complete front a rest ha (stop rest)) ∙ ap f.reads e ∙ law.complete front' b rest' hb (stop rest'))

-- ---- a token

token-complete : {T A : Type 0} (at : T → Option A) (front : List T) (a : A) (rest : List T) → IsToken at front a → first_as at (front ++ rest) ≡ Some (a, rest)
token-complete at front a rest h = rw (h.is, h.stands_for) refl

token-read : {T A : Type 0} (at : T → Option A) (t : T) (us : List T) (a : A) (rest : List T) (o : Option A) → at t ≡ o → option_map {U = A × List T} (λ x. (x, us)) o ≡ Some (a, rest) → Read (IsToken at) (t ∷ us) a rest
token-read at t us a rest None e h = cc
token-read at t us a rest (Some x) e h = let p = pair_of x us a rest h in record { front = t ∷ []; is = ap (λ vs. t ∷ vs) p.1; spelled = record { token = t; is = refl; stands_for = e ∙ ap (λ y. Some y) p.0 } }

token-sound : {T A : Type 0} (at : T → Option A) (ts : List T) (a : A) (rest : List T) → first_as at ts ≡ Some (a, rest) → Read (IsToken at) ts a rest
token-sound at [] a rest h = cc
token-sound at (t ∷ us) a rest h = token-read at t us a rest (at t) refl h

token-begins : {T A : Type 0} (class : T → ℕ) (starts : List ℕ) (at : T → Option A) → ((t : T) (a : A) → at t ≡ Some a → has starts (class t) ≡ true) → (front : List T) (a : A) → IsToken at front a → Begins class starts false front
token-begins class starts at known front a h = subst (Begins class starts false) (sym h.is) (known h.token a h.stands_for)

pub token-law : {T A : Type 0} (class : T → ℕ) (starts : List ℕ) (at : T → Option A) → ((t : T) (a : A) → at t ≡ Some a → has starts (class t) ≡ true) → Lawful class (token starts at)
token-law class starts at known = record { sound = token-sound at; complete = λ front a rest h s. token-complete at front a rest h; begins = token-begins class starts at known }

found-next : {A : Type 0} (b : Bool) (x a : A) (o : Option A) (rest : Bool) → (o ≡ Some a → rest ≡ true) → (if b then Some x else o) ≡ Some a → (if b then true else rest) ≡ true
found-next true x a o rest k h = refl
found-next false x a o rest k h = k h

found : {A : Type 0} (table : List (ℕ × A)) (c : ℕ) (a : A) → lookup table c ≡ Some a → has (map (λ p. p.0) table) c ≡ true
found [] c a h = cc
found (p ∷ ps) c a h = found-next (nat_eq p.0 c) p.1 a (lookup ps c) (has (map (λ q. q.0) ps) c) (found ps c a) h

pub words-law : {T A : Type 0} (class : T → ℕ) (table : List (ℕ × A)) → Lawful class (words class table)
words-law class table = token-law class (map (λ p. p.0) table) (λ t. lookup table (class t)) (λ t a h. found table (class t) a h)

-- ---- one after the other

seq-read : {T A B : Type 0} (f : Form T A) (g : Form T B) (class : T → ℕ) → Lawful class f → Lawful class g → (ts : List T) (p : A × B) (rest : List T)
    → (r : Option (A × List T)) → f.reads ts ≡ r → (r >>= (λ x. g.reads x.1 >>= (λ y. gives (x.0, y.0) y.1))) ≡ Some (p, rest) → Read (Both f.spells g.spells) ts p rest
seq-read f g class lf lg ts p rest None e h = cc
seq-read {T} {A} {B} f g class lf lg ts p rest (Some x) e h = by_second (g.reads x.1) refl h
  where
    by_second : (r : Option (B × List T)) → g.reads x.1 ≡ r → (r >>= (λ y. gives (x.0, y.0) y.1)) ≡ Some (p, rest) → Read (Both f.spells g.spells) ts p rest
    by_second None d h = cc
    by_second (Some y) d h =
        let a = lf.sound ts x.0 x.1 e in
        let b = lg.sound x.1 y.0 y.1 d in
        let both : A × B = (x.0, y.0) in
        let q = pair_of both y.1 p rest h in
        record {
          front = a.front ++ b.front;
          is = a.is ∙ ap (λ us. a.front ++ us) (b.is ∙ ap (λ us. b.front ++ us) q.1) ∙ sym (append_assoc a.front b.front rest);
          spelled = subst (Both f.spells g.spells (a.front ++ b.front)) q.0 (record { left = a.front; right = b.front; is = refl; first = a.spelled; second = b.spelled });
        }

-- where the second stops, and where it is empty the first, the first stops before the second
second-stops : {T : Type 0} (class : T → ℕ) (fmore gstarts gmore : List ℕ) (empty : Bool) (right rest : List T) → apart fmore gstarts ≡ true → Begins class gstarts empty right
    → Stops class (if empty then gmore ++ fmore else gmore) rest → Stops class fmore (right ++ rest)
second-stops class fm gs gm empty (t ∷ right) rest a b s = apart-lacks' fm gs (class t) a b
second-stops class fm gs gm true [] rest a b s = stops-right class gm fm rest s
second-stops class fm gs gm false [] rest a b s = cc

own-stops : {T : Type 0} (class : T → ℕ) (fmore gmore : List ℕ) (empty : Bool) (rest : List T) → Stops class (if empty then gmore ++ fmore else gmore) rest → Stops class gmore rest
own-stops class fm gm true rest s = stops-left class gm fm rest s
own-stops class fm gm false rest s = s

both-begin : {T : Type 0} (class : T → ℕ) (fs gs : List ℕ) (fe ge : Bool) (left right : List T) → Begins class fs fe left → Begins class gs ge right → Begins class (if fe then fs ++ gs else fs) (fe && ge) (left ++ right)
both-begin class fs gs true ge [] [] b c = c
both-begin class fs gs true ge [] (t ∷ right) b c = has-right fs gs (class t) c
both-begin class fs gs false ge [] right b c = cc
both-begin class fs gs true ge (t ∷ left) right b c = has-left fs gs (class t) b
both-begin class fs gs false ge (t ∷ left) right b c = b

pub seq-law : {T A B : Type 0} {class : T → ℕ} {f : Form T A} {g : Form T B} → Lawful class f → Lawful class g → apart f.more g.starts ≡ true → Lawful class (seq f g)
seq-law {class = class} {f = f} {g = g} lf lg a = record {
  sound = λ ts p rest h. seq-read f g class lf lg ts p rest (f.reads ts) refl h;
  complete = λ front p rest h s.
      rw (h.is, append_assoc h.left h.right rest, lf.complete h.left p.0 (h.right ++ rest) h.first (second-stops class f.more g.starts g.more g.empty h.right rest a (lg.begins h.right p.1 h.second) s), lg.complete h.right p.1 rest h.second (own-stops class f.more g.more g.empty rest s)) refl;
  begins = λ front p h. subst (Begins class (seq f g).starts (seq f g).empty) (sym h.is) (both-begin class f.starts g.starts f.empty g.empty h.left h.right (lf.begins h.left p.0 h.first) (lg.begins h.right p.1 h.second));
}

-- ---- what is made of a form

made-read : {T A B : Type 0} (make : A → Option B) (f : Spelling T A) (ts : List T) (b : B) (rest : List T) (a : A) (us : List T) → Read f ts a us → (r : Option B) → make a ≡ r → (r >>= (λ x. gives x us)) ≡ Some (b, rest) → Read (IsMade make f) ts b rest
made-read make f ts b rest a us is None d h = cc
made-read make f ts b rest a us is (Some x) d h = let q = pair_of x us b rest h in
    record { front = is.front; is = is.is ∙ ap (λ vs. is.front ++ vs) q.1; spelled = record { part = a; spelled = is.spelled; is = d ∙ ap (λ y. Some y) q.0 } }

made-sound : {T A B : Type 0} (make : A → Option B) (f : Form T A) (class : T → ℕ) → Lawful class f → (ts : List T) (b : B) (rest : List T) → (r : Option (A × List T)) → f.reads ts ≡ r → (r >>= (λ p. make p.0 >>= (λ x. gives x p.1))) ≡ Some (b, rest) → Read (IsMade make f.spells) ts b rest
made-sound make f class lf ts b rest None e h = cc
made-sound make f class lf ts b rest (Some p) e h = made-read make f.spells ts b rest p.0 p.1 (lf.sound ts p.0 p.1 e) (make p.0) refl h

pub made-law : {T A B : Type 0} {class : T → ℕ} {f : Form T A} (make : A → Option B) → Lawful class f → Lawful class (made make f)
made-law {class = class} {f = f} make lf = record {
  sound = λ ts b rest h. made-sound make f class lf ts b rest (f.reads ts) refl h;
  complete = λ front b rest h s. rw (lf.complete front h.part rest h.spelled s, h.is) refl;
  begins = λ front b h. lf.begins front h.part h.spelled;
}

-- ---- one or the other

or-sound : {T A : Type 0} (f g : Form T A) (class : T → ℕ) → Lawful class f → Lawful class g → (ts : List T) (a : A) (rest : List T) → (r : Option (A × List T)) → f.reads ts ≡ r → given r (λ p. Some p) (g.reads ts) ≡ Some (a, rest) → Read (λ us x. f.spells us x ⊎ g.spells us x) ts a rest
or-sound f g class lf lg ts a rest None e h = let r = lg.sound ts a rest h in record { front = r.front; is = r.is; spelled = inr r.spelled }
or-sound f g class lf lg ts a rest (Some p) e h = let r = lf.sound ts a rest (e ∙ h) in record { front = r.front; is = r.is; spelled = inl r.spelled }

or-complete : {T A : Type 0} (f g : Form T A) (class : T → ℕ) → Lawful class f → Lawful class g → f.empty ≡ false → g.empty ≡ false → apart f.starts g.starts ≡ true → (front : List T) (a : A) (rest : List T)
    → f.spells front a ⊎ g.spells front a → Stops class (f.more ++ g.more) rest → given (f.reads (front ++ rest)) (λ p. Some p) (g.reads (front ++ rest)) ≡ Some (a, rest)
or-complete f g class lf lg ef eg p front a rest (inl h) s = rw (lf.complete front a rest h (stops-left class f.more g.more rest s)) refl
or-complete f g class lf lg ef eg p front a rest (inr h) s =
    rw (unread class f lf ef (front ++ rest) (begins-stops class f.starts g.starts front rest p (subst (λ e. Begins class g.starts e front) eg (lg.begins front a h)))) (lg.complete front a rest h (stops-right class f.more g.more rest s))

full-begins : {T : Type 0} (class : T → ℕ) (xs ys : List ℕ) (e : Bool) (ts : List T) → e ≡ false → among xs ys ≡ true → Begins class xs e ts → Begins class ys false ts
full-begins class xs ys e [] full a b = absurd (clash e b full)
full-begins class xs ys e (t ∷ ts) full a b = among-has xs ys (class t) a b

or-begins : {T A : Type 0} (f g : Form T A) (class : T → ℕ) → Lawful class f → Lawful class g → f.empty ≡ false → g.empty ≡ false → (front : List T) (a : A) → f.spells front a ⊎ g.spells front a → Begins class (f.starts ++ g.starts) false front
or-begins f g class lf lg ef eg [] a (inl h) = absurd (clash f.empty (lf.begins [] a h) ef)
or-begins f g class lf lg ef eg [] a (inr h) = absurd (clash g.empty (lg.begins [] a h) eg)
or-begins f g class lf lg ef eg (t ∷ ts) a (inl h) = has-left f.starts g.starts (class t) (lf.begins (t ∷ ts) a h)
or-begins f g class lf lg ef eg (t ∷ ts) a (inr h) = has-right f.starts g.starts (class t) (lg.begins (t ∷ ts) a h)

pub or-law : {T A : Type 0} {class : T → ℕ} {f g : Form T A} → Lawful class f → Lawful class g → f.empty ≡ false → g.empty ≡ false → apart f.starts g.starts ≡ true → Lawful class (or f g)
or-law {class = class} {f = f} {g = g} lf lg ef eg p = record {
  sound = λ ts a rest h. or-sound f g class lf lg ts a rest (f.reads ts) refl h;
  complete = or-complete f g class lf lg ef eg p;
  begins = or-begins f g class lf lg ef eg;
}

-- ---- one or nothing

maybe-sound : {T A : Type 0} (f : Form T A) (class : T → ℕ) → Lawful class f → (ts : List T) (o : Option A) (rest : List T) → (r : Option (A × List T)) → f.reads ts ≡ r
    → given {B = Option (Option A × List T)} r (λ p. Some (Some p.0, p.1)) (Some (None, ts)) ≡ Some (o, rest) → Read (MaybeSpells f.spells) ts o rest
maybe-sound {T} {A} f class lf ts o rest None e h = let n : Option A = None in let q = pair_of n ts o rest h in record { front = []; is = q.1; spelled = subst (MaybeSpells f.spells []) q.0 refl }
maybe-sound {T} {A} f class lf ts o rest (Some p) e h = let n : Option A = Some p.0 in let q = pair_of n p.1 o rest h in let r = lf.sound ts p.0 p.1 e in
    record { front = r.front; is = r.is ∙ ap (λ us. r.front ++ us) q.1; spelled = subst (MaybeSpells f.spells r.front) q.0 r.spelled }

maybe-complete : {T A : Type 0} (f : Form T A) (class : T → ℕ) → Lawful class f → f.empty ≡ false → (front : List T) (o : Option A) (rest : List T) → MaybeSpells f.spells front o → Stops class (f.starts ++ f.more) rest
    → given {B = Option (Option A × List T)} (f.reads (front ++ rest)) (λ p. Some (Some p.0, p.1)) (Some (None, front ++ rest)) ≡ Some (o, rest)
maybe-complete f class lf full front None rest h s = rw (h, unread class f lf full rest (stops-left class f.starts f.more rest s)) refl
maybe-complete f class lf full front (Some a) rest h s = rw (lf.complete front a rest h (stops-right class f.starts f.more rest s)) refl

maybe-begins : {T A : Type 0} (f : Form T A) (class : T → ℕ) → Lawful class f → f.empty ≡ false → (front : List T) (o : Option A) → MaybeSpells f.spells front o → Begins class f.starts true front
maybe-begins f class lf full [] o h = refl
maybe-begins f class lf full (t ∷ ts) None h = cc
maybe-begins f class lf full (t ∷ ts) (Some a) h = lf.begins (t ∷ ts) a h

pub maybe-law : {T A : Type 0} {class : T → ℕ} {f : Form T A} → Lawful class f → f.empty ≡ false → Lawful class (maybe f)
maybe-law {class = class} {f = f} lf full = record {
  sound = λ ts o rest h. maybe-sound f class lf ts o rest (f.reads ts) refl h;
  complete = maybe-complete f class lf full;
  begins = maybe-begins f class lf full;
}

-- ---- gates

pub gate-law : {T A : Type 0} {class : T → ℕ} {f : Form T A} (starts more : List ℕ) → Lawful class f → f.empty ≡ false → among f.starts starts ≡ true → among f.more more ≡ true → Lawful class (gate starts more f)
gate-law {class = class} {f = f} starts more lf full s m = record {
  sound = lf.sound;
  complete = λ front a rest h stop. lf.complete front a rest h (stops-among class f.more more rest m stop);
  begins = λ front a h. full-begins class f.starts starts f.empty front full s (lf.begins front a h);
}

pub nothing-law : {T A : Type 0} (class : T → ℕ) (starts more : List ℕ) → Lawful class (gate {A = A} starts more (nothing {T = T} {A = A}))
nothing-law class starts more = record { sound = λ ts a rest h. cc; complete = λ front a rest h s. absurd h; begins = λ front a h. absurd h }

-- ---- forms made of others

pub as-law : {T A B : Type 0} {class : T → ℕ} {f : Form T A} (to : A → B) → Lawful class f → Lawful class («as» to f)
as-law to lf = made-law (λ a. Some (to a)) lf

pub after-law : {T O A : Type 0} {class : T → ℕ} {w : Form T O} {f : Form T A} → Lawful class w → Lawful class f → apart w.more f.starts ≡ true → Lawful class (after w f)
after-law lw lf a = made-law (λ p. Some p.1) (seq-law lw lf a)

pub before-law : {T O A : Type 0} {class : T → ℕ} {w : Form T O} {f : Form T A} → Lawful class f → Lawful class w → apart f.more w.starts ≡ true → Lawful class (before f w)
before-law lf lw a = made-law (λ p. Some p.0) (seq-law lf lw a)

-- ---- what a mark begins, or another

led-sound : {T O B A : Type 0} (class : T → ℕ) (mark : Form T O) (body : Form T B) (make : O × B → Option A) (other : Form T A) → Lawful class (made make (seq mark body)) → Lawful class other → (ts : List T) (a : A) (rest : List T)
    → (r : Option (O × List T)) → mark.reads ts ≡ r → given r (λ o. body.reads o.1 >>= (λ b. make (o.0, b.0) >>= (λ x. gives x b.1))) (other.reads ts) ≡ Some (a, rest)
    → Read (λ us x. IsMade make (Both mark.spells body.spells) us x ⊎ other.spells us x) ts a rest
led-sound class mark body make other ls lo ts a rest None e h = let r = lo.sound ts a rest h in record { front = r.front; is = r.is; spelled = inr r.spelled }
led-sound {T = T} {O = O} {B = B} {A = A} class mark body make other ls lo ts a rest (Some o) e h = by_body (body.reads o.1) refl h
  where
    by_body : (q : Option (B × List T)) → body.reads o.1 ≡ q → (q >>= (λ b. make (o.0, b.0) >>= (λ x. gives x b.1))) ≡ Some (a, rest) → Read (λ us x. IsMade make (Both mark.spells body.spells) us x ⊎ other.spells us x) ts a rest
    by_body None d h = cc
    by_body (Some b) d h = let r = ls.sound ts a rest (rw (e, d) h) in record { front = r.front; is = r.is; spelled = inl r.spelled }

other-stops : {T : Type 0} (class : T → ℕ) (ms os om : List ℕ) (empty : Bool) (front rest : List T) → apart ms os ≡ true → Begins class os empty front → Stops class (if empty then om ++ ms else om) rest → Stops class ms (front ++ rest)
other-stops class ms os om true [] rest a b s = stops-right class om ms rest s
other-stops class ms os om false [] rest a b s = cc
other-stops class ms os om empty (t ∷ front) rest a b s = apart-lacks' ms os (class t) a b

led-complete : {T O B A : Type 0} (class : T → ℕ) (mark : Form T O) (body : Form T B) (make : O × B → Option A) (other : Form T A) → Lawful class mark → Lawful class body → Lawful class other → apart mark.more body.starts ≡ true
    → ((front : List T) (a : A) (rest : List T) → other.spells front a → Stops class (if other.empty then other.more ++ mark.starts else other.more) rest → mark.reads (front ++ rest) ≡ None)
    → (front : List T) (a : A) (rest : List T) → IsMade make (Both mark.spells body.spells) front a ⊎ other.spells front a → Stops class (led mark body make other).more rest → led_reads mark.reads body.reads make other.reads (front ++ rest) ≡ Some (a, rest)
led-complete class mark body make other lm lb lo mb gone front a rest (inl h) s =
    let both = h.spelled in
    let own = stops-left class (if body.empty then body.more ++ mark.more else body.more) (if other.empty then other.more ++ mark.starts else other.more) rest s in
    rw (both.is, append_assoc both.left both.right rest, lm.complete both.left h.part.0 (both.right ++ rest) both.first (second-stops class mark.more body.starts body.more body.empty both.right rest mb (lb.begins both.right h.part.1 both.second) own), lb.complete both.right h.part.1 rest both.second (own-stops class mark.more body.more body.empty rest own), h.is) refl
led-complete class mark body make other lm lb lo mb gone front a rest (inr h) s =
    let last = stops-right class (if body.empty then body.more ++ mark.more else body.more) (if other.empty then other.more ++ mark.starts else other.more) rest s in
    rw (gone front a rest h last) (lo.complete front a rest h (own-stops class mark.starts other.more other.empty rest last))

led-begins : {T O B A : Type 0} (class : T → ℕ) (mark : Form T O) (body : Form T B) (make : O × B → Option A) (other : Form T A) → Lawful class (seq mark body) → Lawful class other → mark.empty ≡ false → (front : List T) (a : A) → IsMade make (Both mark.spells body.spells) front a ⊎ other.spells front a → Begins class (mark.starts ++ other.starts) other.empty front
led-begins class mark body make other ls lo me [] a (inl h) = absurd (clash (mark.empty && body.empty) (ls.begins [] h.part h.spelled) (rw me refl))
led-begins class mark body make other ls lo me [] a (inr h) = lo.begins [] a h
led-begins class mark body make other ls lo me (t ∷ ts) a (inl h) = has-left mark.starts other.starts (class t) (subst (λ e. has (if e then mark.starts ++ body.starts else mark.starts) (class t) ≡ true) me (ls.begins (t ∷ ts) h.part h.spelled))
led-begins class mark body make other ls lo me (t ∷ ts) a (inr h) = has-right mark.starts other.starts (class t) (lo.begins (t ∷ ts) a h)

-- where the mark is not read at what the other spells
pub led-law-by : {T O B A : Type 0} {class : T → ℕ} {mark : Form T O} {body : Form T B} {other : Form T A} (make : O × B → Option A) → Lawful class mark → Lawful class body → Lawful class other → mark.empty ≡ false → apart mark.more body.starts ≡ true
    → ((front : List T) (a : A) (rest : List T) → other.spells front a → Stops class (if other.empty then other.more ++ mark.starts else other.more) rest → mark.reads (front ++ rest) ≡ None) → Lawful class (led mark body make other)
led-law-by {class = class} {mark = mark} {body = body} {other = other} make lm lb lo me mb gone = record {
  sound = λ ts a rest h. led-sound class mark body make other (made-law make (seq-law lm lb mb)) lo ts a rest (mark.reads ts) refl h;
  complete = led-complete class mark body make other lm lb lo mb gone;
  begins = led-begins class mark body make other (seq-law lm lb mb) lo me;
}

-- where the other does not begin as the mark does
pub led-law : {T O B A : Type 0} {class : T → ℕ} {mark : Form T O} {body : Form T B} {other : Form T A} (make : O × B → Option A) → Lawful class mark → Lawful class body → Lawful class other → mark.empty ≡ false → apart mark.starts other.starts ≡ true → apart mark.more body.starts ≡ true → Lawful class (led mark body make other)
led-law {class = class} {mark = mark} {other = other} make lm lb lo me ms mb =
    led-law-by make lm lb lo me mb (λ front a rest h last. unread class mark lm me (front ++ rest) (other-stops class mark.starts other.starts other.more other.empty front rest ms (lo.begins front a h) last))

absent-read : {T A : Type 0} (value : A) (ts : List T) (a : A) (rest : List T) → gives value ts ≡ Some (a, rest) → Read (IsAbsent value) ts a rest
absent-read value ts a rest h = let q = pair_of value ts a rest h in record { front = []; is = q.1; spelled = record { none = refl; is = sym q.0 } }

absent-begins : {T A : Type 0} (class : T → ℕ) (value : A) (front : List T) (a : A) → IsAbsent value front a → Begins class [] true front
absent-begins class value [] a h = refl
absent-begins class value (t ∷ ts) a h = let e = h.none in cc

pub absent-law : {T A : Type 0} (class : T → ℕ) (value : A) → Lawful class (absent {T = T} value)
absent-law class value = record { sound = absent-read value; complete = λ front a rest h s. rw (h.none, h.is) refl; begins = absent-begins class value }

pub maybe_after-law : {T O A : Type 0} {class : T → ℕ} {mark : Form T O} {f : Form T A} → Lawful class mark → Lawful class f → mark.empty ≡ false → apart mark.starts [] ≡ true → apart mark.more f.starts ≡ true → Lawful class (maybe_after mark f)
maybe_after-law {class = class} lm lf me ms mf = led-law _ lm lf (absent-law class None) me ms mf
