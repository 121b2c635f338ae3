-- The laws of chains and of lists, and longer chains from shorter ones.
use Rattle.std.proofs.Common.{◌≡◌, ◌∙◌, ◌≤◌, ℕ, zero, suc, true, false, List, [], ◌∷◌, ◌++◌, length, Option, None, Some, refl, sym, ap, subst, arith, append_assoc, append-nil, length-append}
use Rattle.vtl_lists.specs.Options.{given, ◌>>=◌}
use Rattle.grammar_forms.specs.Forms.{Form, Spelling, Deep, IsChain, EachSpells, chain, turns, joined, listed, deep_listed, gives, has, apart}
use Rattle.grammar_forms.proofs.Laws.{Begins, Stops, Read, Lawful, some_of, pair_of, stops-left, stops-right, stops-both, unread, as-law, after-law}
use Rattle.grammar_forms.proofs.Tests.{clash, apart-lacks'}

-- the steps that were read, from what stands before them
record Steps {T A S : Type 0} (step : Spelling T S) (join : A → S → Option A) (start : A) (ts : List T) (a : A) (rest : List T) : Type 0 where
  front : List T
  is : ts ≡ front ++ rest
  steps : List S
  each : EachSpells step front steps
  ends : joined join start steps ≡ Some a

no-steps : {T A S : Type 0} (step : Spelling T S) (join : A → S → Option A) (start : A) (ts : List T) (a : A) (rest : List T) → gives start ts ≡ Some (a, rest) → Steps step join start ts a rest
no-steps step join start ts a rest h = let q = pair_of start ts a rest h in record { front = []; is = q.1; steps = []; each = refl; ends = ap (λ x. Some x) q.0 }

one-more : {T A S : Type 0} (step : Spelling T S) (join : A → S → Option A) (start : A) (ts : List T) (a : A) (rest : List T) (s : S) (next : A) (left us : List T) → ts ≡ left ++ us → step left s → join start s ≡ Some next → Steps step join next us a rest → Steps step join start ts a rest
one-more step join start ts a rest s next left us is spelled joins more = record {
  front = left ++ more.front;
  is = is ∙ ap (λ vs. left ++ vs) more.is ∙ sym (append_assoc left more.front rest);
  steps = s ∷ more.steps;
  each = (left, more.front, refl, spelled, more.each);
  ends = ap (λ r. r >>= (λ b. joined join b more.steps)) joins ∙ more.ends;
}

module _ {T A S : Type 0} (class : T → ℕ) (step : Form T S) (join : A → S → Option A) (ls : Lawful class step) where
  after-join : (n : ℕ) (start : A) (ts : List T) (a : A) (rest : List T) (us : List T) (s : S) → Read step.spells ts s us
      → ((next : A) → turns step.reads join n next us ≡ Some (a, rest) → Steps step.spells join next us a rest)
      → (r : Option A) → join start s ≡ r → (r >>= (λ c. turns step.reads join n c us)) ≡ Some (a, rest) → Steps step.spells join start ts a rest
  after-join n start ts a rest us s is ih None e h = cc
  after-join n start ts a rest us s is ih (Some next) e h = one-more step.spells join start ts a rest s next is.front us is.is is.spelled e (ih next h)

  after-step : (n : ℕ) (start : A) (ts : List T) (a : A) (rest : List T)
      → ((next : A) (vs : List T) → turns step.reads join n next vs ≡ Some (a, rest) → Steps step.spells join next vs a rest)
      → (r : Option (S × List T)) → step.reads ts ≡ r → given r (λ s. join start s.0 >>= (λ c. turns step.reads join n c s.1)) (gives start ts) ≡ Some (a, rest) → Steps step.spells join start ts a rest
  after-step n start ts a rest ih None e h = no-steps step.spells join start ts a rest h
  after-step n start ts a rest ih (Some s) e h = after-join n start ts a rest s.1 s.0 (ls.sound ts s.0 s.1 e) (λ next. ih next s.1) (join start s.0) refl h

  turns-sound : (n : ℕ) (start : A) (ts : List T) (a : A) (rest : List T) → turns step.reads join n start ts ≡ Some (a, rest) → Steps step.spells join start ts a rest
  turns-sound zero start ts a rest h = no-steps step.spells join start ts a rest h
  turns-sound (suc n) start ts a rest h = after-step n start ts a rest (λ next vs. turns-sound n next vs a rest) (step.reads ts) refl h

  each-begins : step.empty ≡ false → (ss : List S) (ts : List T) → EachSpells step.spells ts ss → Begins class step.starts true ts
  each-begins full ss [] h = refl
  each-begins full [] (t ∷ ts) h = cc
  each-begins full (s ∷ ss) (t ∷ ts) h = by_left h.0 h.2 (ls.begins h.0 s h.3)
    where
      by_left : (left : List T) → t ∷ ts ≡ left ++ h.1 → Begins class step.starts step.empty left → has step.starts (class t) ≡ true
      by_left [] e b = absurd (clash step.empty b full)
      by_left (u ∷ us) e b = let same : t ≡ u = cc in rw same b

  turns-stop : (n : ℕ) (start : A) (ts : List T) → step.reads ts ≡ None → turns step.reads join n start ts ≡ gives start ts
  turns-stop zero start ts e = refl
  turns-stop (suc n) start ts e = rw e refl

  full-length : (left : List T) → Begins class step.starts step.empty left → step.empty ≡ false → 1 ≤ length left
  full-length [] b full = absurd (clash step.empty b full)
  full-length (t ∷ ts) b full = omega arith

  joins : (start : A) (s : S) (ss : List S) (a : A) → joined join start (s ∷ ss) ≡ Some a → (next : A) × (join start s ≡ Some next) × (joined join next ss ≡ Some a)
  joins start s ss a h = by_join (join start s) refl h
    where
      by_join : (r : Option A) → join start s ≡ r → (r >>= (λ b. joined join b ss)) ≡ Some a → (next : A) × (join start s ≡ Some next) × (joined join next ss ≡ Some a)
      by_join None e h = cc
      by_join (Some next) e h = (next, e, h)

  -- what goes on with a part does not begin a step, nor what is behind the steps
  part-stops : (pm : List ℕ) → apart pm step.starts ≡ true → (ts rest : List T) → Begins class step.starts true ts → Stops class pm rest → Stops class pm (ts ++ rest)
  part-stops pm a [] rest b s = s
  part-stops pm a (t ∷ ts) rest b s = apart-lacks' pm step.starts (class t) a b

  one-turn : (n : ℕ) (start : A) (ts vs : List T) (s : S) (next : A) → step.reads ts ≡ Some (s, vs) → join start s ≡ Some next → turns step.reads join (suc n) start ts ≡ turns step.reads join n next vs
  one-turn n start ts vs s next e f = rw (e, f) refl

  turns-complete : step.empty ≡ false → apart step.more step.starts ≡ true
      → (ss : List S) (front : List T) (start a : A) (rest : List T) (n : ℕ) → EachSpells step.spells front ss → joined join start ss ≡ Some a → Stops class (step.starts ++ step.more) rest → length front ≤ n
      → turns step.reads join n start (front ++ rest) ≡ Some (a, rest)
  turns-complete se sm [] front start a rest n each ends stops enough =
      let ended : start ≡ a = some_of start a ends in
      rw each (turns-stop n start rest (unread class step ls se rest (stops-left class step.starts step.more rest stops)) ∙ ap (λ x. gives x rest) ended)
  turns-complete se sm (s ∷ ss) front start a rest zero each ends stops enough =
      let long = full-length each.0 (ls.begins each.0 s each.3) se in
      absurd (omega (arith, enough, long, ap length each.2, length-append each.0 each.1))
  turns-complete se sm (s ∷ ss) front start a rest (suc n) each ends stops enough =
      let left = each.0 in
      let right = each.1 in
      let j = joins start s ss a ends in
      let long = full-length left (ls.begins left s each.3) se in
      let split : front ++ rest ≡ left ++ (right ++ rest) = ap (λ us. us ++ rest) each.2 ∙ append_assoc left right rest in
      let read = ls.complete left s (right ++ rest) each.3 (part-stops step.more sm right rest (each-begins se ss right each.4) (stops-right class step.starts step.more rest stops)) in
      ap (turns step.reads join (suc n) start) split
      ∙ one-turn n start (left ++ (right ++ rest)) (right ++ rest) s j.0 read j.1
      ∙ turns-complete se sm ss right j.0 a rest n each.4 j.2 stops (omega (arith, enough, long, ap length each.2, length-append left right))

  chain-read : (first : Form T A) → Lawful class first → (ts : List T) (a : A) (rest : List T) → (r : Option (A × List T)) → first.reads ts ≡ r → (r >>= (λ p. turns step.reads join (length p.1) p.0 p.1)) ≡ Some (a, rest) → Read (IsChain first.spells step.spells join) ts a rest
  chain-read first lf ts a rest None e h = cc
  chain-read first lf ts a rest (Some p) e h =
      let f = lf.sound ts p.0 p.1 e in
      let s = turns-sound (length p.1) p.0 p.1 a rest h in
      record {
        front = f.front ++ s.front;
        is = f.is ∙ ap (λ us. f.front ++ us) s.is ∙ sym (append_assoc f.front s.front rest);
        spelled = record { left = f.front; right = s.front; is = refl; start = p.0; spelled = f.spelled; steps = s.steps; each = s.each; ends = s.ends };
      }

  chain-begins : (xs : List ℕ) (left right : List T) → Begins class xs false left → Begins class xs false (left ++ right)
  chain-begins xs [] right b = cc
  chain-begins xs (t ∷ ts) right b = b

  chain-law-in : {first : Form T A} → Lawful class first → first.empty ≡ false → step.empty ≡ false → apart first.more step.starts ≡ true → apart step.more step.starts ≡ true → Lawful class (chain first step join)
  chain-law-in {first = first} lf fe se fs ss = record {
    sound = λ ts a rest h. chain-read first lf ts a rest (first.reads ts) refl h;
    complete = λ front a rest h s.
        let others : Stops class (step.more ++ first.more) rest = stops-right class step.starts (step.more ++ first.more) rest s in
        let own : Stops class (step.starts ++ step.more) rest = stops-both class step.starts step.more rest (stops-left class step.starts (step.more ++ first.more) rest s) (stops-left class step.more first.more rest others) in
        rw (h.is, append_assoc h.left h.right rest, lf.complete h.left h.start (h.right ++ rest) h.spelled (part-stops first.more fs h.right rest (each-begins se h.steps h.right h.each) (stops-right class step.more first.more rest others)))
        (turns-complete se ss h.steps h.right h.start a rest (length (h.right ++ rest)) h.each h.ends own (omega (arith, length-append h.right rest)));
    begins = λ front a h. subst (Begins class first.starts false) (sym h.is) (chain-begins first.starts h.left h.right (subst (λ e. Begins class first.starts e h.left) fe (lf.begins h.left h.start h.spelled)));
  }

pub chain-law : {T A S : Type 0} {class : T → ℕ} {first : Form T A} {step : Form T S} (join : A → S → Option A) → Lawful class first → Lawful class step
    → first.empty ≡ false → step.empty ≡ false → apart first.more step.starts ≡ true → apart step.more step.starts ≡ true → Lawful class (chain first step join)
chain-law {class = class} {step = step} join lf ls fe se fs ss = chain-law-in class step join ls lf fe se fs ss

pub listed-law : {T O A : Type 0} {class : T → ℕ} {mark : Form T O} {item : Form T A} → Lawful class mark → Lawful class item → item.empty ≡ false → mark.empty ≡ false → apart item.more mark.starts ≡ true → apart mark.more item.starts ≡ true → Lawful class (listed mark item)
listed-law lm li ie me im mi = chain-law _ (as-law _ li) (after-law lm li mi) ie (rw me refl) (rw me im) (rw (ie, me) im)

pub deep_listed-law : {T O A : Type 0} {class : T → ℕ} {mark : Form T O} {item : Form T (Deep A)} → Lawful class mark → Lawful class item → item.empty ≡ false → mark.empty ≡ false → apart item.more mark.starts ≡ true → apart mark.more item.starts ≡ true → Lawful class (deep_listed mark item)
deep_listed-law lm li ie me im mi = chain-law _ (as-law _ li) (after-law lm li mi) ie (rw me refl) (rw me im) (rw (ie, me) im)

-- ---- longer chains, and parts alone

each-more : {T S : Type 0} (step : Spelling T S) (ss : List S) (front ts : List T) (s : S) → EachSpells step front ss → step ts s → EachSpells step (front ++ ts) (ss ++ s ∷ [])
each-more step [] front ts s each h = (ts, [], ap (λ us. us ++ ts) each ∙ sym (append-nil ts), h, refl)
each-more step (x ∷ ss) front ts s each h = (each.0, each.1 ++ ts, ap (λ us. us ++ ts) each.2 ∙ append_assoc each.0 each.1 ts, each.3, each-more step ss each.1 ts s each.4 h)

joined-more : {A S : Type 0} (join : A → S → Option A) (start a b : A) (ss : List S) (s : S) → joined join start ss ≡ Some a → join a s ≡ Some b → joined join start (ss ++ s ∷ []) ≡ Some b
joined-more join start a b [] s e h = rw (some_of start a e, h) refl
joined-more {A = A} {S = S} join start a b (x ∷ ss) s e h = by_join (join start x) e (λ next. joined-more join next a b ss s)
  where
    by_join : (r : Option A) → (r >>= (λ y. joined join y ss)) ≡ Some a → ((next : A) → joined join next ss ≡ Some a → join a s ≡ Some b → joined join next (ss ++ s ∷ []) ≡ Some b) → (r >>= (λ y. joined join y (ss ++ s ∷ []))) ≡ Some b
    by_join None e k = cc
    by_join (Some next) e k = k next e h

pub chain-alone : {T A S : Type 0} (first : Spelling T A) (step : Spelling T S) (join : A → S → Option A) (ts : List T) (a : A) → first ts a → IsChain first step join ts a
chain-alone first step join ts a h = record { left = ts; right = []; is = sym (append-nil ts); start = a; spelled = h; steps = []; each = refl; ends = refl }

pub chain-more : {T A S : Type 0} (first : Spelling T A) (step : Spelling T S) (join : A → S → Option A) (us vs : List T) (a b : A) (s : S) → IsChain first step join us a → step vs s → join a s ≡ Some b → IsChain first step join (us ++ vs) b
chain-more first step join us vs a b s h is e = record {
  left = h.left;
  right = h.right ++ vs;
  is = ap (λ ws. ws ++ vs) h.is ∙ append_assoc h.left h.right vs;
  start = h.start;
  spelled = h.spelled;
  steps = h.steps ++ s ∷ [];
  each = each-more step h.steps h.right vs s h.each is;
  ends = joined-more join h.start a b h.steps s h.ends e;
}
