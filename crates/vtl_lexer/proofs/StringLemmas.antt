-- Where a string ends.
use Rattle.std.proofs.Common.{◌≡◌, ◌≤◌, ◌+◌, ◌∷◌, ◌++◌, ◌∙◌, ◌==◌, ◌⊎◌, [], ℕ, zero, suc, List, Bool, Option, Some, None, true, false, not, cond, length, take, drop, sym, ap, subst, refl, arith, inl, inr, append_assoc, length-append, length-drop, MatchOption}
use Rattle.std.specs.Option.{unwrap_or}
use Rattle.std.specs.List.{slice_get}
use Rattle.std.proofs.lemmas.Bool.{and_parts, cases_Bool, false≢true}
use Rattle.std.proofs.lemmas.Bool.Decides.{nat_tests}
use Rattle.std.proofs.lemmas.List.{drop-drop, length-take-le}
use Rattle.vtl_lexer.specs.Searches.{StandsFirst}
use Rattle.vtl_lexer.specs.Spelling.{Lacks, doubled}
use Rattle.vtl_lexer.specs.Strings.{EndsAt, EndsNowhere, IsLongestEnd}

pub lacks-split : (byte : ℕ) (xs ys : List ℕ) → Lacks byte (xs ++ byte ∷ ys) → ⊥
lacks-split byte [] ys e =
    let here : not (byte == byte) ≡ true = (and_parts (not (byte == byte)) _ e).0 in
    let same : (byte == byte) ≡ true = grind (arith, nat_tests) in
    false≢true (ap not (sym same) ∙ here)
lacks-split byte (x ∷ xs) ys e = lacks-split byte xs ys (and_parts (not (x == byte)) _ e).1

doubled-plain : (bytes : List ℕ) → Lacks 34 bytes → doubled bytes ≡ bytes
doubled-plain [] e = refl
doubled-plain (byte ∷ bytes) e =
    let (head, tail) = and_parts (not (byte == 34)) _ e in
    by (byte == 34) head (doubled-plain bytes tail)
  where
    by : (b : Bool) → not b ≡ true → doubled bytes ≡ bytes → cond b (34 ∷ 34 ∷ doubled bytes) (byte ∷ doubled bytes) ≡ byte ∷ bytes
    by true head more = absurd (false≢true head)
    by false head more = ap (λ l. byte ∷ l) more

pub doubled-append : (xs ys : List ℕ) → doubled (xs ++ ys) ≡ doubled xs ++ doubled ys
doubled-append [] ys = refl
doubled-append (x ∷ xs) ys = by (x == 34) (doubled-append xs ys)
  where
    by : (b : Bool) → doubled (xs ++ ys) ≡ doubled xs ++ doubled ys
        → cond b (34 ∷ 34 ∷ doubled (xs ++ ys)) (x ∷ doubled (xs ++ ys)) ≡ cond b (34 ∷ 34 ∷ doubled xs) (x ∷ doubled xs) ++ doubled ys
    by true more = ap (λ l. 34 ∷ 34 ∷ l) more
    by false more = ap (λ l. x ∷ l) more

-- the first `"` ends a string
pub ends-first : (text : List ℕ) (place : ℕ) → StandsFirst 34 text place → EndsAt text place
ends-first text place found =
    let plain = doubled-plain (take place text) found.lacks in
    record {
      inner = take place text;
      rest = drop (place + 1) text;
      split = found.split ∙ ap (λ l. l ++ 34 ∷ drop (place + 1) text) (sym plain);
      is = sym (ap length plain ∙ length-take-le place text (omega (arith, found.within)));
    }

-- a string goes on behind two of them
pub ends-pass : (text : List ℕ) (place more : ℕ) → StandsFirst 34 text place → drop (place + 1) text ≡ 34 ∷ drop (place + 2) text → EndsAt (drop (place + 2) text) more → EndsAt text (place + 2 + more)
ends-pass text place more found pair ends =
    let plain = doubled-plain (take place text) found.lacks in
    let twice : doubled (take place text ++ 34 ∷ ends.inner) ≡ take place text ++ 34 ∷ 34 ∷ doubled ends.inner = doubled-append (take place text) (34 ∷ ends.inner) ∙ ap (λ l. l ++ 34 ∷ 34 ∷ doubled ends.inner) plain in
    record {
      inner = take place text ++ 34 ∷ ends.inner;
      rest = ends.rest;
      split = found.split ∙ ap (λ l. take place text ++ 34 ∷ l) (pair ∙ ap (λ l. 34 ∷ l) ends.split)
          ∙ sym (append_assoc (take place text) (34 ∷ 34 ∷ doubled ends.inner) (34 ∷ ends.rest)) ∙ ap (λ l. l ++ 34 ∷ ends.rest) (sym twice);
      is = omega (arith, ap length twice, length-append (take place text) (34 ∷ 34 ∷ doubled ends.inner), length-take-le place text (omega (arith, found.within)), ends.is);
    }

-- where a string can end: at the first `"` or, where two stand there, behind them
data Ends (plain behind inner rest : List ℕ) : Type 0 where
  here : length (doubled inner) ≡ length plain → Ends plain behind inner rest
  later : (left : List ℕ) → behind ≡ 34 ∷ (doubled left ++ 34 ∷ rest) → length (doubled inner) ≡ length plain + 2 + length (doubled left) → Ends plain behind inner rest

abbrev pub first-byte : List ℕ → ℕ
first-byte [] = 0
first-byte (byte ∷ rest) = byte

pub no-quote : (byte : ℕ) → not (byte == 34) ≡ true → byte ≡ 34 → ⊥
no-quote byte e is = false≢true (ap (λ b. not (b == 34)) (sym is) ∙ e)

pub doubled-quote : (byte : ℕ) (bytes : List ℕ) → (byte == 34) ≡ true → doubled (byte ∷ bytes) ≡ 34 ∷ 34 ∷ doubled bytes
doubled-quote byte bytes e = ap (λ b. cond b (34 ∷ 34 ∷ doubled bytes) (byte ∷ doubled bytes)) e

pub doubled-other : (byte : ℕ) (bytes : List ℕ) → (byte == 34) ≡ false → doubled (byte ∷ bytes) ≡ byte ∷ doubled bytes
doubled-other byte bytes e = ap (λ b. cond b (34 ∷ 34 ∷ doubled bytes) (byte ∷ doubled bytes)) e

ends-more : (p : ℕ) (plain behind : List ℕ) (x : ℕ) (inner rest : List ℕ) → (x == 34) ≡ false → Ends plain behind inner rest → Ends (p ∷ plain) behind (x ∷ inner) rest
ends-more p plain behind x inner rest e (here l) = here (omega (arith, l, ap length (doubled-other x inner e)))
ends-more p plain behind x inner rest e (later left is l) = later left is (omega (arith, l, ap length (doubled-other x inner e)))

ends-parted : (plain behind inner rest : List ℕ) → Lacks 34 plain → plain ++ 34 ∷ behind ≡ doubled inner ++ 34 ∷ rest → Ends plain behind inner rest
ends-parted [] behind [] rest lacks e = here refl
ends-parted [] behind (x ∷ inner) rest lacks e = elim (cases_Bool (x == 34)) [
  | inl p ↦
      let twice = doubled-quote x inner p in
      later inner (ap (drop 1) (e ∙ ap (λ l. l ++ 34 ∷ rest) twice)) (omega (arith, ap length twice))
  | inr p ↦
      let is : 34 ≡ x = ap first-byte (e ∙ ap (λ l. l ++ 34 ∷ rest) (doubled-other x inner p)) in
      absurd (false≢true (sym p ∙ ap (λ b. b == 34) (sym is)))
]
ends-parted (p ∷ plain) behind [] rest lacks e = absurd (no-quote p (and_parts (not (p == 34)) _ lacks).0 (ap first-byte e))
ends-parted (p ∷ plain) behind (x ∷ inner) rest lacks e = by (ends-parted plain behind inner rest (and_parts (not (p == 34)) _ lacks).1) (cases_Bool (x == 34))
  where
    by : (plain ++ 34 ∷ behind ≡ doubled inner ++ 34 ∷ rest → Ends plain behind inner rest) → ((x == 34) ≡ true) ⊎ ((x == 34) ≡ false) → Ends (p ∷ plain) behind (x ∷ inner) rest
    by more (inl q) = absurd (no-quote p (and_parts (not (p == 34)) _ lacks).0 (ap first-byte (e ∙ ap (λ l. l ++ 34 ∷ rest) (doubled-quote x inner q))))
    by more (inr q) = ends-more p plain behind x inner rest q (more (ap (drop 1) (e ∙ ap (λ l. l ++ 34 ∷ rest) (doubled-other x inner q))))

-- where a string ends that can end somewhere
pub data EndsLater (text : List ℕ) (place other : ℕ) : Type 0 where
  at_first : other ≡ place → EndsLater text place other
  behind_pair : (more : ℕ) → drop (place + 1) text ≡ 34 ∷ drop (place + 2) text → EndsAt (drop (place + 2) text) more → other ≡ place + 2 + more → EndsLater text place other

pub ends-inverts : (text : List ℕ) (place other : ℕ) → StandsFirst 34 text place → EndsAt text other → EndsLater text place other
ends-inverts text place other found ends =
    by (ends-parted (take place text) (drop (place + 1) text) ends.inner ends.rest found.lacks (sym found.split ∙ ends.split))
  where
    size : length (take place text) ≡ place
    size = length-take-le place text (omega (arith, found.within))

    by : Ends (take place text) (drop (place + 1) text) ends.inner ends.rest → EndsLater text place other
    by (here l) = at_first (ends.is ∙ l ∙ size)
    by (later left is l) =
        let next : drop (place + 2) text ≡ doubled left ++ 34 ∷ ends.rest = ap (λ n. drop n text) (omega arith) ∙ sym (drop-drop 1 (place + 1) text) ∙ ap (drop 1) is in
        behind_pair (length (doubled left)) (is ∙ ap (λ l. 34 ∷ l) (sym next))
        (record { inner = left; rest = ends.rest; split = next; is = refl })
        (omega (arith, ends.is, l, size))

pub ends-nowhere : (text : List ℕ) → Lacks 34 text → EndsNowhere text
ends-nowhere text lacks place ends = lacks-split 34 (doubled ends.inner) ends.rest (subst (Lacks 34) ends.split lacks)

-- how far the places are known at which a string can end
abbrev pub Reached : Option ℕ → ℕ → Type 0
Reached None place = ⊥
Reached (Some last) place = place ≤ last

pub record EndsSoFar (text : List ℕ) (last : Option ℕ) (from : ℕ) : Type 0 where
  pub within : from ≤ length text
  pub reached : MatchOption last (Unit {0}) (λ place. EndsAt text place × (place ≤ from))
  pub below : (place : ℕ) → EndsAt text place → Reached last place ⊎ ((more : ℕ) × EndsAt (drop from text) more × (place ≡ from + more))
  pub pass : (more : ℕ) → EndsAt (drop from text) more → EndsAt text (from + more)

pub so_far-start : (text : List ℕ) → EndsSoFar text None 0
so_far-start text = record {
  within = omega arith;
  reached = tt;
  below = λ place ends. inr (place, ends, omega arith);
  pass = λ more ends. subst (EndsAt text) (omega arith) ends;
}

pub so_far-none : (text : List ℕ) (last : Option ℕ) (from : ℕ) → EndsSoFar text last from → Lacks 34 (drop from text) → MatchOption last (EndsNowhere text) (λ place. IsLongestEnd text place)
so_far-none text None from known lacks = λ place ends. elim (known.below place ends) [ inl h ↦ h | inr h ↦ ends-nowhere (drop from text) lacks h.0 h.1 ]
so_far-none text (Some last) from known lacks = record {
  ends = known.reached.0;
  longest = λ place ends. elim (known.below place ends) [ inl h ↦ h | inr h ↦ absurd (ends-nowhere (drop from text) lacks h.0 h.1) ];
}

-- one more `"`
reached-below : (last : Option ℕ) (text : List ℕ) (from place end : ℕ) → MatchOption last (Unit {0}) (λ place. EndsAt text place × (place ≤ from)) → Reached last place → from ≤ end → place ≤ end
reached-below None text from place end reached h le = absurd h
reached-below (Some last) text from place end reached h le = omega (arith, reached.1)

pub so_far-last : (text : List ℕ) (last : Option ℕ) (from plain : ℕ) → EndsSoFar text last from → StandsFirst 34 (drop from text) plain
    → (drop (plain + 1) (drop from text) ≡ 34 ∷ drop (plain + 2) (drop from text) → ⊥) → IsLongestEnd text (from + plain)
so_far-last text last from plain known found single = record {
  ends = known.pass plain (ends-first (drop from text) plain found);
  longest = λ place ends. elim (known.below place ends) [
    | inl h ↦ reached-below last text from place (from + plain) known.reached h (omega arith)
    | inr h ↦ by place h.0 h.2 (ends-inverts (drop from text) plain h.0 found h.1)
  ];
}
  where
    by : (place more : ℕ) → place ≡ from + more → EndsLater (drop from text) plain more → place ≤ from + plain
    by place more is (at_first e) = omega arith
    by place more is (behind_pair left pair ends e) = absurd (single pair)

pub so_far-step : (text : List ℕ) (last : Option ℕ) (from plain : ℕ) → EndsSoFar text last from → StandsFirst 34 (drop from text) plain
    → drop (plain + 1) (drop from text) ≡ 34 ∷ drop (plain + 2) (drop from text) → EndsSoFar text (Some (from + plain)) (from + plain + 2)
so_far-step text last from plain known found pair = record {
  within = omega (arith, ap length pair, length-drop (plain + 1) (drop from text), length-drop from text);
  reached = (known.pass plain (ends-first (drop from text) plain found), omega arith);
  below = λ place ends. elim (known.below place ends) [
    | inl h ↦ inl (reached-below last text from place (from + plain) known.reached h (omega arith))
    | inr h ↦ by place h.0 h.2 (ends-inverts (drop from text) plain h.0 found h.1)
  ];
  pass = λ more ends.
      let behind : EndsAt (drop (plain + 2) (drop from text)) more = subst (λ l. EndsAt l more) (sym left) ends in
      subst (EndsAt text) (omega arith) (known.pass (plain + 2 + more) (ends-pass (drop from text) plain more found pair behind));
}
  where
    left : drop (plain + 2) (drop from text) ≡ drop (from + plain + 2) text
    left = drop-drop (plain + 2) from text ∙ ap (λ n. drop n text) (omega arith)

    by : (place more : ℕ) → place ≡ from + more → EndsLater (drop from text) plain more
        → (place ≤ from + plain) ⊎ ((more : ℕ) × EndsAt (drop (from + plain + 2) text) more × (place ≡ from + plain + 2 + more))
    by place more is (at_first e) = inl (omega arith)
    by place more is (behind_pair rest pair ends e) = inr (rest, subst (λ l. EndsAt l rest) left ends, omega arith)

-- the byte behind a place
space-no_quote : ◌≡◌ {A = ℕ} 34 32 → ⊥
space-no_quote e = omega arith

byte-at : (text : List ℕ) (i : ℕ) → 34 ≡ unwrap_or (slice_get text i) 32 → drop i text ≡ 34 ∷ drop (suc i) text
byte-at [] i e = absurd (space-no_quote e)
byte-at (byte ∷ rest) zero e = ap (λ b. b ∷ rest) (sym e)
byte-at (byte ∷ rest) (suc i) e = byte-at rest i e

at-byte : (text behind : List ℕ) (i : ℕ) → drop i text ≡ 34 ∷ behind → unwrap_or (slice_get text i) 32 ≡ 34
at-byte [] behind zero e = absurd (cc e)
at-byte [] behind (suc i) e = absurd (cc e)
at-byte (byte ∷ rest) behind zero e = ap first-byte e
at-byte (byte ∷ rest) behind (suc i) e = at-byte rest behind i e

behind-at : (text : List ℕ) (from n : ℕ) → drop n (drop from text) ≡ drop (from + n) text
behind-at text from n = drop-drop n from text

pub pair-from : (text : List ℕ) (from plain : ℕ) → 34 ≡ unwrap_or (slice_get text (from + plain + 1)) 32 → drop (plain + 1) (drop from text) ≡ 34 ∷ drop (plain + 2) (drop from text)
pair-from text from plain e =
    let first : drop (plain + 1) (drop from text) ≡ drop (from + plain + 1) text = behind-at text from (plain + 1) ∙ ap (λ n. drop n text) (omega arith) in
    let sizes : from + (plain + 2) ≡ suc (from + plain + 1) = omega arith in
    let second : drop (plain + 2) (drop from text) ≡ drop (suc (from + plain + 1)) text = behind-at text from (plain + 2) ∙ ap (λ n. drop n text) sizes in
    first ∙ byte-at text (from + plain + 1) e ∙ ap (λ l. 34 ∷ l) (sym second)

pub pair-to : (text : List ℕ) (from plain : ℕ) → drop (plain + 1) (drop from text) ≡ 34 ∷ drop (plain + 2) (drop from text) → unwrap_or (slice_get text (from + plain + 1)) 32 ≡ 34
pair-to text from plain e =
    let first : drop (plain + 1) (drop from text) ≡ drop (from + plain + 1) text = behind-at text from (plain + 1) ∙ ap (λ n. drop n text) (omega arith) in
    at-byte text (drop (plain + 2) (drop from text)) (from + plain + 1) (sym first ∙ e)
