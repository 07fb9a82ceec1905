-- The records of a text, as the machine of CSV takes them: each takes a byte at least.
use Rattle.std.proofs.Common.{◌≡◌, ℕ, suc, ◌+◌, ◌<◌, ◌≤◌, true, false, List, [], ◌∷◌, ◌++◌, length, drop, map, Option, Some, None, refl, ap, ◌∙◌, arith, inl, inr, add-one}
use Rattle.std.proofs.lemmas.Bool.{cases_Bool}
use Rattle.std.proofs.lemmas.Bool.Decides.{nat_tests}
use Rattle.std.specs.Option.{IfSome}
use Rattle.csv.specs.Machine.{Read, next_record, step, is_end, ends_at_end}
use Rattle.csv.specs.Reading.{default_config, is_bom, records_from, records_next, strip_bom}
use Rattle.csv.specs.Writing.{default_writer, read_back, row_text}
use Rattle.csv.specs.declared.parser.State.{State}
use Rattle.csv.specs.declared.parser.State.TheVariants as st
use Rattle.csv.proofs.RoundTrip.{read-write}
use Rattle.kt_text.specs.Records.{records_in}
use Rattle.kt_text.specs.Rows.{csv_rows, rows_text}

-- the machine stands between two records where a record has ended
end_between : (s : State) (c : ℕ) → is_end (step default_config s c).1 ≡ true → ends_at_end (step default_config s c).0 ≡ false
end_between st.StartRecord c h = grind (arith, nat_tests)
end_between s c h = grind (arith, nat_tests)

-- a record that was read leaves fewer bytes than there were, if there were some, and the machine between two records
takes : (most : ℕ) (s : State) (fields : List (List ℕ)) (field xs : List ℕ) → length xs ≤ most + 1
    → IfSome (next_record default_config s fields field xs) (λ r. (length r.2 ≤ most) × (ends_at_end r.1 ≡ false))
unfolding next_record
takes most s fields field [] h = elim (cases_Bool (ends_at_end s)) [ inl e ↦ rw e (omega arith, refl) | inr e ↦ rw e tt ]
takes most s fields field (c ∷ rest) h = elim (cases_Bool (is_end (step default_config s c).1)) [
  | inl ended ↦ rw ended (omega arith, end_between s c ended)
  | inr goes_on ↦ rw goes_on (takes most (step default_config s c).0 _ _ rest (omega arith))
]

-- from between two records a record takes a byte at least
pub next_record-takes : (s : State) (xs : List ℕ) (r : Read) → ends_at_end s ≡ false → next_record default_config s [] [] xs ≡ Some r → (length r.2 < length xs) × (ends_at_end r.1 ≡ false)
unfolding next_record
next_record-takes s [] r between e = cc (rw between at e)
next_record-takes s (c ∷ rest) r between e = let t = rw e at (takes (length rest) s [] [] (c ∷ rest) (omega arith)) in (omega (arith, t.0), t.1)

same_after : (n m : ℕ) (o : Option Read) → ((r : Read) → o ≡ Some r → records_from default_config n r.1 r.2 ≡ records_from default_config m r.1 r.2)
    → records_next (records_from default_config n) o ≡ records_next (records_from default_config m) o
same_after n m None same = refl
same_after n m (Some r) same = ap (λ more. r.0 ∷ more) (same r refl)

-- more turns than there are bytes give no more records
enough : (n m : ℕ) (s : State) (xs : List ℕ) → length xs < n → length xs < m → ends_at_end s ≡ false → records_from default_config n s xs ≡ records_from default_config m s xs
unfolding records_from
enough (suc n) (suc m) s xs p q between =
    same_after n m (next_record default_config s [] [] xs) (λ r e.
    let t = next_record-takes s xs r between e in
    enough n m r.1 r.2 (omega (arith, t.0)) (omega (arith, t.0)) t.1)
enough n m s xs p q between = absurd (omega arith)

-- the records of a text are the next one and those behind it
pub records_in-next : (s : State) (xs : List ℕ) (r : Read) → ends_at_end s ≡ false → next_record default_config s [] [] xs ≡ Some r
    → records_in s (Some xs) ≡ r.0 ∷ records_in r.1 (Some r.2)
unfolding records_from
records_in-next s xs r between e =
    let t = next_record-takes s xs r between e in
    rw (add-one, e) (ap (λ more. r.0 ∷ more) (enough (length xs) (length r.2 + 1) r.1 r.2 t.0 (omega arith) t.1))

-- where there is no next record
pub records_in-none : (s : State) (xs : List ℕ) → next_record default_config s [] [] xs ≡ None → records_in s (Some xs) ≡ []
unfolding records_from
records_in-none s xs e = rw (add-one, e)

-- a byte order mark taken off leaves no more bytes
pub strip_bom_shorter : (xs : List ℕ) → length (strip_bom xs) ≤ length xs
unfolding strip_bom
strip_bom_shorter (a ∷ b ∷ c ∷ rest) = elim (cases_Bool (is_bom a b c)) [ inl e ↦ rw e (omega arith) | inr e ↦ rw e (omega arith) ]
strip_bom_shorter _ = omega arith

-- the records of rows that were written one after the other are those rows
rows_text-records : (rows : List (List (List ℕ))) → records_in st.StartRecord (Some (rows_text rows)) ≡ map read_back rows
unfolding rows_text next_record
rows_text-records [] = records_in-none st.StartRecord [] refl
rows_text-records (row ∷ rows) =
    records_in-next st.StartRecord (row_text default_writer row ++ rows_text rows) (read_back row, st.StartRecord, rows_text rows) refl (read-write row (rows_text rows))
    ∙ ap (λ more. read_back row ∷ more) (rows_text-records rows)

-- rows behind a heading are read back
pub rows_plain : (heading : List (List ℕ)) (rows : List (List (List ℕ))) → strip_bom (rows_text (heading ∷ rows)) ≡ rows_text (heading ∷ rows)
    → csv_rows (rows_text (heading ∷ rows)) ≡ map read_back rows
rows_plain heading rows plain =
    ap (λ text. drop 1 (records_in st.StartRecord (Some text))) plain ∙ ap (drop 1) (rows_text-records (heading ∷ rows))
