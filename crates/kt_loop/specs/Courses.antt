-- Courses of calculations: more records, a refusal, and the text so far: lemmas.
-- The rules: docs/STREAMS.md, "Tools over streams".
use Rattle.std.proofs.Common.{◌≡◌, ℕ, List, [], ◌∷◌, ◌++◌, Option, Some, None, Result, Ok, Err, refl, sym, ap, ◌∙◌, append_assoc}
use Rattle.std.proofs.lemmas.List.{append-nil}
use Rattle.std.specs.List.{flat_map}
use Rattle.kt_stream.specs.declared.entry.Placed.{Placed}
use Rattle.kt_loop.specs.Calculation.{Calculation, Course, took_from, took, took_all, course_of}
use Rattle.kt_loop.specs.ByRecord.{by_record, table_of}

module _ {H E S R : Type 0} (calculation : Calculation H E S R) (head : H) where
  -- more records, one list after the other
  pub took_joined : (course : Course S R) (xs ys : List (Placed E)) → took_all calculation head course (xs ++ ys) ≡ took_all calculation head (took_all calculation head course xs) ys
  took_joined course [] ys = refl
  took_joined course (x ∷ xs) ys = took_joined (took calculation head course x) xs ys

  -- after a refusal nothing is done
  pub took_refused : (text : List ℕ) (refusal : R) (xs : List (Placed E)) → took_all calculation head (record { text = text; reached = Err refusal }) xs ≡ record { text = text; reached = Err refusal }
  took_refused text refusal [] = refl
  took_refused text refusal (x ∷ xs) = took_refused text refusal xs

  one_longer : (x : Placed E) (text : List ℕ) (reached : Result S R) → (more : List ℕ) × ((took_from calculation head x text reached).text ≡ text ++ more)
  one_longer x text (Ok state) = ((calculation.takes head state x).text, refl)
  one_longer x text (Err refusal) = ([], sym (append-nil text))

  -- what was written stays in front
  pub took_longer : (course : Course S R) (xs : List (Placed E)) → (more : List ℕ) × ((took_all calculation head course xs).text ≡ course.text ++ more)
  took_longer course [] = ([], sym (append-nil course.text))
  took_longer course (x ∷ xs) =
      let one = one_longer x course.text course.reached in
      let all = took_longer (took calculation head course x) xs in
      (one.0 ++ all.0, all.1 ∙ ap (λ (text : List ℕ). text ++ all.0) one.1 ∙ append_assoc course.text one.0 all.0)

-- the rows of a record that stands at a place
abbrev row_by : {H E S : Type 0} → (S → H → E → List ℕ) → H → S → Placed E → List ℕ
row_by rows head state placed = rows state head placed.entry

module _ {H E S R : Type 0} (heading : S → H → List ℕ) (rows : S → H → E → List ℕ) where
  abbrev written : S → List ℕ → Course S R
  written state text = record { text = text; reached = Ok state }

  all_rows : (head : H) (state : S) (text : List ℕ) (xs : List (Placed E)) → took_all (by_record {R = R} heading rows) head (written state text) xs ≡ written state (text ++ flat_map (row_by rows head state) xs)
  all_rows head state text [] = ap (written state) (sym (append-nil text))
  all_rows head state text (x ∷ xs) = all_rows head state (text ++ row_by rows head state x) xs ∙ ap (written state) (append_assoc text (row_by rows head state x) (flat_map (row_by rows head state) xs))

  -- a heading and then the rows of each record
  pub record_rows : (state : S) (head : Option H) (xs : List (Placed E)) → course_of (by_record {R = R} heading rows) state head xs ≡ record { text = table_of heading rows state head xs; reached = Ok state }
  record_rows state None xs = refl
  record_rows state (Some head) xs = all_rows head state (heading state head) xs
