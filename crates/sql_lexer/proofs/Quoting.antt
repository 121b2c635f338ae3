-- Where a content between quotes ends.
use Rattle.std.proofs.Common.{◌≡◌, ◌≤◌, ◌<◌, ◌∷◌, ◌++◌, ◌∙◌, ◌==◌, ◌⊎◌, [], ℕ, List, true, false, not, length, sym, ap, refl, arith, inl, inr, append_assoc, length-append, eqb-true, eq-eqb}
use Rattle.std.specs.List.{list_all}
use Rattle.std.proofs.lemmas.Bool.{and_parts, cases_Bool, false≢true}
use Rattle.std.proofs.lemmas.List.Folds.{list_all-append}
use Rattle.sql_lexer.specs.Front.{Closes, IsPartOf, Lacks, allows, kind_of, mark_of}
use Rattle.sql_lexer.specs.Lexed.{IsToken, NoToken, Starts}
use Rattle.sql_lexer.specs.Spelling.{doubled}
use Rattle.sql_lexer.specs.declared.quotes.Quotes.{Quotes}
use Rattle.sql_lexer.specs.declared.quotes.Quotes.TheVariants as q
use Rattle.sql_lexer.proofs.Leads.{quoted-there}
use Rattle.sql_lexer.proofs.NameParts.{name-front}

-- ---- doubling

pub doubled-same : (quote c : ℕ) (cs : List ℕ) → (c == quote) ≡ true → doubled quote (c ∷ cs) ≡ c ∷ c ∷ doubled quote cs
doubled-same quote c cs e = rw e refl

pub doubled-other : (quote c : ℕ) (cs : List ℕ) → (c == quote) ≡ false → doubled quote (c ∷ cs) ≡ c ∷ doubled quote cs
doubled-other quote c cs e = rw e refl

pub doubled-append : (quote : ℕ) (xs ys : List ℕ) → doubled quote (xs ++ ys) ≡ doubled quote xs ++ doubled quote ys
doubled-append quote [] ys = refl
doubled-append quote (x ∷ xs) ys = elim (cases_Bool (x == quote)) [
  | inl e ↦ doubled-same quote x (xs ++ ys) e ∙ ap (λ l. x ∷ x ∷ l) (doubled-append quote xs ys) ∙ ap (λ l. l ++ doubled quote ys) (sym (doubled-same quote x xs e))
  | inr e ↦ doubled-other quote x (xs ++ ys) e ∙ ap (λ l. x ∷ l) (doubled-append quote xs ys) ∙ ap (λ l. l ++ doubled quote ys) (sym (doubled-other quote x xs e))
]

pub doubled-quote : (quote : ℕ) (cs : List ℕ) → doubled quote (quote ∷ cs) ≡ quote ∷ quote ∷ doubled quote cs
doubled-quote quote cs = doubled-same quote quote cs (eq-eqb quote quote refl)

not-quote : (quote c : ℕ) → not (c == quote) ≡ true → (c == quote) ≡ false
not-quote quote c e = elim (cases_Bool (c == quote)) [ inl same ↦ absurd (false≢true (ap not (sym same) ∙ e)) | inr apart ↦ apart ]

pub doubled-plain : (quote : ℕ) (cs : List ℕ) → Lacks quote cs → doubled quote cs ≡ cs
doubled-plain quote [] lacks = refl
doubled-plain quote (c ∷ cs) lacks =
    let (head, tail) = and_parts (not (c == quote)) _ lacks in
    doubled-other quote c cs (not-quote quote c head) ∙ ap (λ l. c ∷ l) (doubled-plain quote cs tail)

pub lacks-none : (quote : ℕ) (text front rest : List ℕ) → Lacks quote text → text ≡ front ++ quote ∷ rest → ⊥
lacks-none quote text front rest lacks e =
    let all = sym (list_all-append (λ d. not (d == quote)) front (quote ∷ rest)) ∙ ap (list_all (λ d. not (d == quote))) (sym e) ∙ lacks in
    let first = (and_parts (not (quote == quote)) _ (and_parts (list_all (λ d. not (d == quote)) front) _ all).1).0 in
    false≢true (ap not (sym (eq-eqb quote quote refl)) ∙ first)

-- where the next quote stands, a content ends or goes on with a doubled one
pub data Parted (quote : ℕ) (plain behind content rest : List ℕ) : Type 0 where
  here : content ≡ plain → rest ≡ behind → Parted quote plain behind content rest
  later : (more : List ℕ) → content ≡ plain ++ quote ∷ more → behind ≡ quote ∷ (doubled quote more ++ quote ∷ rest) → Parted quote plain behind content rest

pub parted : (quote : ℕ) (plain behind content rest : List ℕ) → Lacks quote plain → plain ++ quote ∷ behind ≡ doubled quote content ++ quote ∷ rest → Parted quote plain behind content rest
parted quote [] behind [] rest lacks e = let tails : behind ≡ rest = cc e in here refl (sym tails)
parted quote [] behind (c ∷ cs) rest lacks e = elim (cases_Bool (c == quote)) [
  | inl same ↦
      let is = eqb-true c quote same in
      let whole = e ∙ ap (λ l. l ++ quote ∷ rest) (doubled-same quote c cs same) in
      let tails : behind ≡ c ∷ (doubled quote cs ++ quote ∷ rest) = cc whole in
      later cs (ap (λ n. n ∷ cs) is) (tails ∙ ap (λ n. n ∷ (doubled quote cs ++ quote ∷ rest)) is)
  | inr apart ↦
      let whole = e ∙ ap (λ l. l ++ quote ∷ rest) (doubled-other quote c cs apart) in
      let heads : c ≡ quote = cc whole in
      absurd (false≢true (sym apart ∙ eq-eqb c quote heads))
]
parted quote (p ∷ plain) behind [] rest lacks e =
    let heads : p ≡ quote = cc e in
    absurd (false≢true (sym (not-quote quote p (and_parts (not (p == quote)) _ lacks).0) ∙ eq-eqb p quote heads))
parted quote (p ∷ plain) behind (c ∷ cs) rest lacks e = by (parted quote plain behind cs rest (and_parts (not (p == quote)) _ lacks).1) (cases_Bool (c == quote))
  where
    apart : (p == quote) ≡ false
    apart = not-quote quote p (and_parts (not (p == quote)) _ lacks).0

    more : p ≡ c → Parted quote plain behind cs rest → Parted quote (p ∷ plain) behind (c ∷ cs) rest
    more heads (here is left) = here (ap (λ l. c ∷ l) is ∙ ap (λ n. n ∷ plain) (sym heads)) left
    more heads (later z is left) = later z (ap (λ l. c ∷ l) is ∙ ap (λ n. n ∷ (plain ++ quote ∷ z)) (sym heads)) left

    by : (plain ++ quote ∷ behind ≡ doubled quote cs ++ quote ∷ rest → Parted quote plain behind cs rest) → ((c == quote) ≡ true) ⊎ ((c == quote) ≡ false) → Parted quote (p ∷ plain) behind (c ∷ cs) rest
    by left (inl same) =
        let whole = e ∙ ap (λ l. l ++ quote ∷ rest) (doubled-same quote c cs same) in
        let heads : p ≡ c = cc whole in
        absurd (false≢true (sym apart ∙ ap (λ n. n == quote) heads ∙ same))
    by left (inr other) =
        let whole = e ∙ ap (λ l. l ++ quote ∷ rest) (doubled-other quote c cs other) in
        let heads : p ≡ c = cc whole in
        let tails : plain ++ quote ∷ behind ≡ doubled quote cs ++ quote ∷ rest = cc whole in
        more heads (left tails)

pub mark-ascii : (quotes : Quotes) → mark_of quotes < 128
mark-ascii q.Name = omega arith
mark-ascii q.Text = omega arith

-- ---- the contents that may stand behind an opening quote

allows-front : (quotes : Quotes) (xs ys : List ℕ) → 0 < length xs → allows quotes (xs ++ ys) ≡ true → allows quotes xs ≡ true
allows-front q.Name xs ys some e = name-front xs ys some e
allows-front q.Text xs ys some e = refl

-- a content that is not allowed ends there, and so do all that go on
pub no-longer : (quotes : Quotes) (content behind part rest more left : List ℕ) → allows quotes (content ++ mark_of quotes ∷ part) ≡ false → Lacks (mark_of quotes) part
    → behind ≡ mark_of quotes ∷ (part ++ mark_of quotes ∷ rest) → allows quotes (content ++ mark_of quotes ∷ more) ≡ true → behind ≡ mark_of quotes ∷ (doubled (mark_of quotes) more ++ mark_of quotes ∷ left) → ⊥
no-longer quotes content behind part rest more left unfit lacks e allowed f = by (parted quote part rest more left lacks tails)
  where
    quote : ℕ
    quote = mark_of quotes

    tails : part ++ mark_of quotes ∷ rest ≡ doubled (mark_of quotes) more ++ mark_of quotes ∷ left
    tails = let whole = sym e ∙ f in cc whole

    by : Parted (mark_of quotes) part rest more left → ⊥
    by (here is same) = false≢true (sym unfit ∙ ap (λ l. allows quotes (content ++ mark_of quotes ∷ l)) (sym is) ∙ allowed)
    by (later z is same) =
        let front = content ++ mark_of quotes ∷ part in
        let whole : allows quotes (front ++ mark_of quotes ∷ z) ≡ true =
        ap (allows quotes) (append_assoc content (mark_of quotes ∷ part) (mark_of quotes ∷ z)) ∙ ap (λ l. allows quotes (content ++ mark_of quotes ∷ l)) (sym is) ∙ allowed in
        false≢true (sym unfit ∙ allows-front quotes front (mark_of quotes ∷ z) (omega (arith, length-append content (mark_of quotes ∷ part))) whole)

-- another content, beside the one that was read
pub data Other (quotes : Quotes) (content behind other rest : List ℕ) : Type 0 where
  shorter : allows quotes content ≡ true → length behind ≤ length rest → Other quotes content behind other rest
  same : other ≡ content → rest ≡ behind → Other quotes content behind other rest
  longer : (more : List ℕ) → other ≡ content ++ mark_of quotes ∷ more → behind ≡ mark_of quotes ∷ (doubled (mark_of quotes) more ++ mark_of quotes ∷ rest) → Other quotes content behind other rest

pub record Reached (quotes : Quotes) (body content behind : List ℕ) : Type 0 where
  pub split : body ≡ doubled (mark_of quotes) content ++ mark_of quotes ∷ behind
  pub others : (other rest : List ℕ) → Closes quotes body other rest → Other quotes content behind other rest

pub reached-start : (quotes : Quotes) (body plain behind : List ℕ) → body ≡ plain ++ mark_of quotes ∷ behind → Lacks (mark_of quotes) plain → Reached quotes body plain behind
reached-start quotes body plain behind e lacks = record {
  split = e ∙ ap (λ l. l ++ mark_of quotes ∷ behind) (sym (doubled-plain (mark_of quotes) plain lacks));
  others = λ other rest closes. by other rest (parted (mark_of quotes) plain behind other rest lacks (sym e ∙ closes.split));
}
  where
    by : (other rest : List ℕ) → Parted (mark_of quotes) plain behind other rest → Other quotes plain behind other rest
    by other rest (here is left) = same is left
    by other rest (later more is left) = longer more is left

pub reached-step : (quotes : Quotes) (body content behind part rest : List ℕ) → Reached quotes body content behind → IsPartOf quotes content behind part rest
    → Reached quotes body (content ++ mark_of quotes ∷ part) rest
reached-step quotes body content behind part rest reached next = record {
  split = reached.split ∙ whole;
  others = λ other left closes. by other left (reached.others other left closes);
}
  where
    quote : ℕ
    quote = mark_of quotes

    whole : doubled (mark_of quotes) content ++ mark_of quotes ∷ behind ≡ doubled (mark_of quotes) (content ++ mark_of quotes ∷ part) ++ mark_of quotes ∷ rest
    whole =
        let q = mark_of quotes in
        let second : doubled q (q ∷ part) ≡ q ∷ q ∷ part = doubled-quote q part ∙ ap (λ l. q ∷ q ∷ l) (doubled-plain q part next.plain) in
        let all : doubled q (content ++ q ∷ part) ≡ doubled q content ++ q ∷ q ∷ part = doubled-append q content (q ∷ part) ∙ ap (λ l. doubled q content ++ l) second in
        ap (λ l. doubled q content ++ q ∷ l) next.split ∙ sym (append_assoc (doubled q content) (q ∷ q ∷ part) (q ∷ rest)) ∙ ap (λ l. l ++ q ∷ rest) (sym all)

    sizes : length rest ≤ length behind
    sizes = omega (arith, ap length next.split, length-append part (mark_of quotes ∷ rest))

    more : (other left z : List ℕ) → other ≡ content ++ mark_of quotes ∷ z → Parted (mark_of quotes) part rest z left → Other quotes (content ++ mark_of quotes ∷ part) rest other left
    more other left z is (here e f) = same (is ∙ ap (λ l. content ++ mark_of quotes ∷ l) e) f
    more other left z is (later y e f) = longer y (is ∙ ap (λ l. content ++ mark_of quotes ∷ l) e ∙ sym (append_assoc content (mark_of quotes ∷ part) (mark_of quotes ∷ y))) f

    by : (other left : List ℕ) → Other quotes content behind other left → Other quotes (content ++ mark_of quotes ∷ part) rest other left
    by other left (shorter allowed le) = shorter next.allowed (omega (arith, le, sizes))
    by other left (same is e) = shorter next.allowed (omega (arith, ap length e, sizes))
    by other left (longer z is e) = let tails : part ++ mark_of quotes ∷ rest ≡ doubled (mark_of quotes) z ++ mark_of quotes ∷ left = (let w = sym next.split ∙ e in cc w) in more other left z is (parted (mark_of quotes) part rest z left next.plain tails)

-- ---- the token

starts-there : (quotes : Quotes) (body content rest : List ℕ) → Closes quotes body content rest → Starts (mark_of quotes ∷ body) (kind_of quotes content) rest
starts-there q.Name body content rest closes = record { formed = closes.allowed; split = ap (λ l. 34 ∷ l) (closes.split ∙ sym (append_assoc (doubled 34 content) (34 ∷ []) rest)) }
starts-there q.Text body content rest closes = record { formed = tt; split = ap (λ l. 39 ∷ l) (closes.split ∙ sym (append_assoc (doubled 39 content) (39 ∷ []) rest)) }

module _ (quotes : Quotes) (body content behind : List ℕ) (reached : Reached quotes body content behind)
    (none : (more rest : List ℕ) → allows quotes (content ++ mark_of quotes ∷ more) ≡ true → behind ≡ mark_of quotes ∷ (doubled (mark_of quotes) more ++ mark_of quotes ∷ rest) → ⊥) where
  pub reached-token : allows quotes content ≡ true → IsToken (mark_of quotes ∷ body) (kind_of quotes content) behind
  reached-token allowed = record {
    starts = starts-there quotes body content behind (record { allowed = allowed; split = reached.split });
    longest = λ kind rest starts. let there = quoted-there quotes body kind rest starts in by there.content rest there.closes (reached.others there.content rest there.closes);
  }
    where
      by : (other rest : List ℕ) → Closes quotes body other rest → Other quotes content behind other rest → length behind ≤ length rest
      by other rest closes (shorter a le) = le
      by other rest closes (same is e) = omega (arith, ap length e)
      by other rest closes (longer more is e) = absurd (none more rest (ap (allows quotes) (sym is) ∙ closes.allowed) e)

  pub reached-none : allows quotes content ≡ false → NoToken (mark_of quotes ∷ body)
  reached-none unfit kind rest starts = let there = quoted-there quotes body kind rest starts in by there.content rest there.closes (reached.others there.content rest there.closes)
    where
      by : (other rest : List ℕ) → Closes quotes body other rest → Other quotes content behind other rest → ⊥
      by other rest closes (shorter allowed le) = false≢true (sym unfit ∙ allowed)
      by other rest closes (same is e) = false≢true (sym unfit ∙ ap (allows quotes) (sym is) ∙ closes.allowed)
      by other rest closes (longer more is e) = none more rest (ap (allows quotes) (sym is) ∙ closes.allowed) e

-- no closing quote
pub unclosed : (quotes : Quotes) (body : List ℕ) → Lacks (mark_of quotes) body → NoToken (mark_of quotes ∷ body)
unclosed quotes body lacks kind rest starts =
    let there = quoted-there quotes body kind rest starts in
    lacks-none (mark_of quotes) body (doubled (mark_of quotes) there.content) rest lacks there.closes.split
