-- A read takes the first of the records that a text has left.
use Rattle.std.proofs.Common.{Bor, Bool, true, false, ℕ, zero, suc, List, [], ◌∷◌, ◌++◌, Option, Some, None, IsSome, ◌≡◌, ◌<◌, ◌+◌, ◌⊎◌, inl, inr, ◌∙◌, sym, ap, refl, length, cond, add-one, arith}
use Rattle.csv.specs.Machine.{Read, ends_at_end, field_after, fields_after, is_end, next_record, step}
use Rattle.csv.specs.Reading.{NextIs, ReadRecord, ReadsNext, Ready, default_config, pending_of, records_from, records_next, source_of}
use Rattle.csv.specs.declared.parser.Config.{Config}
use Rattle.csv.specs.declared.parser.State.{State}
use Rattle.csv.specs.declared.parser.State.TheVariants as st
use Rattle.csv.specs.declared.reader.Reader.{Reader}
use Rattle.std.specs.Bool.{OnFalse, OnTrue}
use Rattle.std.proofs.lemmas.Bool.{cases_Bool}
use Rattle.vtl_csv.specs.RecordsLeft.{ReadsRecords, bytes_left, records_of, records_of_reader}

-- the end of a text ends one record, and no other follows
at_end : (b : Bool) (fields : List (List ℕ)) (p : Read) → cond b (Some (fields, st.StartRecord, [])) None ≡ Some p → (p.1 ≡ st.StartRecord) × (p.2 ≡ [])
at_end true fields p e =
    let q : ◌≡◌ {A = Read} (fields, st.StartRecord, []) p = cc in
    (ap (λ (r : Read). r.1) (sym q), ap (λ (r : Read). r.2) (sym q))
at_end false fields p e = cc e

-- a record takes a byte of the text, or is the one that the text's end ends
pub next_record-shorter : (cfg : Config) (s : State) (fields : List (List ℕ)) (field xs : List ℕ) (p : Read)
    → next_record cfg s fields field xs ≡ Some p → (length p.2 < length xs) ⊎ ((p.1 ≡ st.StartRecord) × (p.2 ≡ []))
unfolding next_record
next_record-shorter cfg s fields field [] p e = inr (at_end (ends_at_end s) (fields ++ (field ∷ [])) p e)
next_record-shorter cfg s fields field (c ∷ rest) p e =
    by (is_end (step cfg s c).1) e (next_record-shorter cfg (step cfg s c).0 (fields_after (step cfg s c).1 fields field) (field_after (step cfg s c).1 c field) rest p)
  where
    by : (b : Bool)
        → cond b (Some (fields_after (step cfg s c).1 fields field, (step cfg s c).0, rest)) (next_record cfg (step cfg s c).0 (fields_after (step cfg s c).1 fields field) (field_after (step cfg s c).1 c field) rest) ≡ Some p
        → (next_record cfg (step cfg s c).0 (fields_after (step cfg s c).1 fields field) (field_after (step cfg s c).1 c field) rest ≡ Some p → (length p.2 < length rest) ⊎ ((p.1 ≡ st.StartRecord) × (p.2 ≡ [])))
        → (length p.2 < length (c ∷ rest)) ⊎ ((p.1 ≡ st.StartRecord) × (p.2 ≡ []))
    by true e more =
        let q : ◌≡◌ {A = Read} (fields_after (step cfg s c).1 fields field, (step cfg s c).0, rest) p = cc in
        let same : length rest ≡ length p.2 = ap (λ (r : Read). length r.2) q in
        inl (omega arith)
    by false e more = elim (more e) [ inl less ↦ inl (omega arith) | inr last ↦ inr last ]

-- at the end of a text no record starts
pub records_from-none : (cfg : Config) (n : ℕ) → records_from cfg n st.StartRecord [] ≡ []
unfolding records_from next_record
records_from-none cfg zero = refl
records_from-none cfg (suc n) = refl

-- a budget beyond the text's length gives no more records
pub records_from-enough : (cfg : Config) (n m : ℕ) (s : State) (xs : List ℕ) → length xs < n → length xs < m → records_from cfg n s xs ≡ records_from cfg m s xs
unfolding records_from
records_from-enough cfg zero m s xs a b = absurd (omega arith)
records_from-enough cfg (suc n) zero s xs a b = absurd (omega arith)
records_from-enough cfg (suc n) (suc m) s xs a b =
    by (next_record cfg s [] [] xs) refl (records_from-enough cfg n m)
  where
    by : (o : Option Read) → next_record cfg s [] [] xs ≡ o
        → ((s2 : State) (ys : List ℕ) → length ys < n → length ys < m → records_from cfg n s2 ys ≡ records_from cfg m s2 ys)
        → records_next (records_from cfg n) o ≡ records_next (records_from cfg m) o
    by None e more = refl
    by (Some p) e more = ap (λ (rows : List (List (List ℕ))). p.0 ∷ rows) (elim (next_record-shorter cfg s [] [] xs p e) [
      | inl less ↦ more p.1 p.2 (omega arith) (omega arith)
      | inr last ↦ rw (last.0, last.1) (records_from-none cfg n ∙ sym (records_from-none cfg m))
    ])

-- where there is a next record, it is the first of those left
pub records_of-more : (s : State) (xs : List ℕ) (p : Read) → next_record default_config s [] [] xs ≡ Some p
    → records_of (Some xs) s ≡ p.0 ∷ records_of (Some p.2) p.1
unfolding records_from
records_of-more s xs p e =
    rw (add-one (length xs), e) (ap (λ (rows : List (List (List ℕ))). p.0 ∷ rows) (elim (next_record-shorter default_config s [] [] xs p e) [
      | inl less ↦ records_from-enough default_config (length xs) (length p.2 + 1) p.1 p.2 less (omega arith)
      | inr last ↦ rw (last.0, last.1) (records_from-none default_config (length xs) ∙ sym (records_from-none default_config (0 + 1)))
    ]))

-- a read that found a record took the first of those left
read-found : (s after : State) (text rest : Option (List ℕ)) (fields : List (List ℕ)) → IsSome text
    → ReadsNext default_config s text rest true fields after → records_of text s ≡ fields ∷ records_of rest after
read-found s after None rest fields known r = cc known
read-found s after (Some xs) None fields known r = absurd r
read-found s after (Some xs) (Some ys) fields known r =
    by (next_record default_config s [] [] xs) refl r
  where
    by : (o : Option Read) → next_record default_config s [] [] xs ≡ o → NextIs o true fields after ys
        → records_of (Some xs) s ≡ fields ∷ records_of (Some ys) after
    by None e next = cc next
    by (Some p) e next = rw (next.1, next.2, next.3) (records_of-more s xs p e)

-- a read that found none shows that none was left
read-ended : (s after : State) (text rest : Option (List ℕ)) (fields : List (List ℕ))
    → ReadsNext default_config s text rest false fields after → records_of text s ≡ []
unfolding records_from
read-ended s after None rest fields r = refl
read-ended s after (Some xs) None fields r = absurd r
read-ended s after (Some xs) (Some ys) fields r =
    by (next_record default_config s [] [] xs) refl r
  where
    by : (o : Option Read) → next_record default_config s [] [] xs ≡ o → NextIs o false fields after ys → records_of (Some xs) s ≡ []
    by None e next = rw (add-one (length xs), e) refl
    by (Some p) e next = cc next.0

-- the same of a reader
pub reader-read : (a b : Reader (Bor (List ℕ))) (fields : List (List ℕ)) (found : Bool) → a.config ≡ default_config → IsSome (source_of bytes_left a)
    → ReadRecord bytes_left a b found fields
    → OnTrue found (records_of_reader a ≡ fields ∷ records_of_reader b) × OnFalse found (records_of_reader a ≡ [])
reader-read a b fields true config known r =
    (rw r.1 (read-found a.state b.state (source_of bytes_left a) (pending_of (bytes_left b.rdr) b) fields known (rw config at r.0)), tt)
reader-read a b fields false config known r =
    (tt, read-ended a.state b.state (source_of bytes_left a) (pending_of (bytes_left b.rdr) b) fields (rw config at r.0))

-- such a reader takes one record at each read
pub reads-ready : (a : Reader (Bor (List ℕ))) → ReadsRecords a → Ready a
reads-ready a reads = elim (cases_Bool a.first) [ inl first ↦ inl first | inr fresh ↦ inr (inr (reads.no_header, reads.no_header_row fresh)) ]
