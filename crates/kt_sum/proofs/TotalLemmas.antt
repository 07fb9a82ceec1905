-- What the sums of all summaries of a set come to, where each record comes to one of them.
use Rattle.std.proofs.Common.{◌≡◌, ℕ, zero, suc, ◌+◌, ◌^◌, ◌<◌, Bool, true, false, cond, nat_eq, ℤ, List, [], ◌∷◌, Option, None, Some, length, map, take, slice_index, slice_index_or, slice_set, refl, sym, ap, subst, arith, ◌∙◌}
use Rattle.std.specs.Prelude.{◌&&◌, ◌||◌, All}
use Rattle.std.specs.List.{AllByRecursion, IsDistinct, list_all, list_any, sum_by}
use Rattle.std.specs.Option.{is_some}
use Rattle.std.proofs.Math.Path.{fun_ext}
use Rattle.std.proofs.lemmas.Bool.{true≢false}
use Rattle.std.proofs.lemmas.List.{length-map}
use Rattle.std.proofs.lemmas.List.Elements.{recursion_from_All}
use Rattle.std.proofs.lemmas.List.Sums.{sum_by_more, sum_by_more_le}
use Rattle.kt_rec.specs.Sums.{sum_by-map, sum_by-agree, sum_by-filter, sum_by-one, sum_by-swap}
use Rattle.kt_rec.specs.Rising.{IsRising, distinct-from_rising}
use Rattle.kt_runs.specs.Adding.{Holds}
use Rattle.kt_runs.specs.RunLosses.{AreWithin, loss_of, run_loss}
use Rattle.kt_runs.specs.Sidx.{sidx_at}
use Rattle.kt_stream.specs.declared.entry.LossRecord.{LossRecord}
use Rattle.kt_sum.specs.RunSummaries.{IsSumOf, IsThere}
use Rattle.kt_sum.specs.Summaries.{is_summary, members}
use Rattle.kt_sum.specs.Totals.{total_at}
use Rattle.kt_sum.specs.declared.summary_sums.SummarySums.{SummarySums}
use Rattle.kt_sum.proofs.RunSumsLemmas.{found_there}

-- each record comes to one of some summaries
pub record Comes (summaries : List ℕ) (found : Option ℕ) : Type 0 where
  pub some : is_some found ≡ true
  pub there : IsThere summaries found

-- where something was found for each record, and what was found is among some summaries, each record comes to one
pub all_come : (find : ℕ → Option ℕ) (summaries : List ℕ) (records : List LossRecord) → list_all is_some (map (λ entry. find entry.id) records) ≡ true → AllByRecursion (λ entry. IsThere summaries (find entry.id)) records → AllByRecursion (λ entry. Comes summaries (find entry.id)) records
all_come find summaries [] all there = tt
all_come find summaries (entry ∷ records) all there = by (is_some (find entry.id)) refl all (λ rest. all_come find summaries records rest there.1)
  where
    by : (b : Bool) → is_some (find entry.id) ≡ b → (b && list_all is_some (map (λ entry. find entry.id) records)) ≡ true → (list_all is_some (map (λ entry. find entry.id) records) ≡ true → AllByRecursion (λ entry. Comes summaries (find entry.id)) records) → AllByRecursion (λ entry. Comes summaries (find entry.id)) (entry ∷ records)
    by true is rest later = (record { some = is; there = there.0 }, later rest)
    by false is rest later = absurd (true≢false (sym rest))

-- ---- one summary

-- records that come to the only summary are its members
pub all_members : (find : ℕ → Option ℕ) (summary : ℕ) (records : List LossRecord) → AllByRecursion (λ entry. Comes (summary ∷ []) (find entry.id)) records → members find records summary ≡ records
all_members find summary [] come = refl
all_members find summary (entry ∷ records) come = ap (λ b. cond b (entry ∷ members find records summary) (members find records summary)) (by (find entry.id) come.0) ∙ ap (λ rest. entry ∷ rest) (all_members find summary records come.1)
  where
    same : (other : ℕ) (b : Bool) → nat_eq other summary ≡ b → list_any (nat_eq other) (summary ∷ []) ≡ true → nat_eq other summary ≡ true
    same other true is there = is
    same other false is there = absurd (true≢false (sym there ∙ ap (λ b. b || false) is))

    by : (found : Option ℕ) → Comes (summary ∷ []) found → is_summary summary found ≡ true
    by None comes = absurd (true≢false (sym comes.some))
    by (Some other) comes = same other (nat_eq other summary) refl (comes.there other refl)

-- ---- several summaries

module _ (find : ℕ → Option ℕ) (summaries : List ℕ) (distinct : IsDistinct nat_eq summaries) where
  -- an amount of a record counts once
  counts_once : (amount : ℕ) (found : Option ℕ) → Comes summaries found → sum_by (λ summary. cond (is_summary summary found) amount 0) summaries ≡ amount
  counts_once amount None comes = absurd (true≢false (sym comes.some))
  counts_once amount (Some other) comes = sum_by-one amount other summaries distinct ∙ ap (λ b. cond b amount 0) (comes.there other refl)

  module _ (sidx : ℤ) where
    -- the loss of a record
    abbrev loss : LossRecord → ℕ
    loss entry = loss_of sidx entry.pairs

    -- so do the losses of all
    each_once : (records : List LossRecord) → AllByRecursion (λ entry. Comes summaries (find entry.id)) records → AllByRecursion (λ entry. sum_by (λ summary. cond (is_summary summary (find entry.id)) (loss entry) 0) summaries ≡ loss entry) records
    each_once [] come = tt
    each_once (entry ∷ records) come = (counts_once (loss entry) (find entry.id) come.0, each_once records come.1)

    -- the losses of the members of all summaries are those of all records
    pub members_total : (records : List LossRecord) → AllByRecursion (λ entry. Comes summaries (find entry.id)) records → sum_by (λ summary. run_loss sidx (members find records summary)) summaries ≡ run_loss sidx records
    members_total records come =
        ap (λ (value : ℕ → ℕ). sum_by value summaries) (fun_ext (λ (summary : ℕ). sum_by-filter loss (λ (entry : LossRecord). is_summary summary (find entry.id)) records))
        ∙ (sum_by-swap (λ summary (entry : LossRecord). cond (is_summary summary (find entry.id)) (loss entry) 0) summaries records
        ∙ sum_by-agree (λ entry. sum_by (λ summary. cond (is_summary summary (find entry.id)) (loss entry) 0) summaries) loss records (each_once records come))

-- ---- sums

-- the sums of some summaries in a place are the losses of their members
rows_losses : (find : ℕ → Option ℕ) (least width : ℕ) (records : List LossRecord) (k : ℕ) → k < width → (rows : List SummarySums) → AllByRecursion (IsSumOf least width find records) rows → AllByRecursion (λ row. slice_index row.sums.items k ≡ run_loss (sidx_at (least + k)) (members find records row.summary)) rows
rows_losses find least width records k below [] are = tt
rows_losses find least width records k below (row ∷ rows) are = (are.0.each k below, rows_losses find least width records k below rows are.1)

-- what the sums of all summaries come to is what the records come to
pub rows_total : (find : ℕ → Option ℕ) (least width : ℕ) (records : List LossRecord) (rows : List SummarySums) (summaries : List ℕ) → map (λ row. row.summary) rows ≡ summaries → IsRising summaries → AllByRecursion (λ entry. Comes summaries (find entry.id)) records → AllByRecursion (IsSumOf least width find records) rows → (k : ℕ) → k < width → total_at rows k ≡ run_loss (sidx_at (least + k)) records
rows_total find least width records rows summaries rows_are rises come are k below =
    let sidx = sidx_at (least + k) in
    sum_by-agree (λ row. slice_index row.sums.items k) (λ row. run_loss sidx (members find records row.summary)) rows (rows_losses find least width records k below rows are)
    ∙ (sym (sum_by-map (λ summary. run_loss sidx (members find records summary)) (λ (row : SummarySums). row.summary) rows)
    ∙ (ap (λ (ids : List ℕ). sum_by (λ summary. run_loss sidx (members find records summary)) ids) rows_are
    ∙ members_total find summaries (distinct-from_rising summaries rises) sidx records come))

-- the sum of a summary in a place
abbrev amount : ℕ → SummarySums → ℕ
amount k row = slice_index row.sums.items k

-- where the sums of one summary more are added the total is that with it
pub row_added : (width : ℕ) (rows : List SummarySums) (index : ℕ) (row : SummarySums) (before sums now : List ℕ) → index < length rows → row ≡ slice_index_or rows index row → sums ≡ row.sums.items → ((k : ℕ) → k < width → total_at rows k < 2 ^ 64) → Holds width (total_at (take index rows)) before → (((k : ℕ) → k < length before → slice_index before k + slice_index sums k < 2 ^ 64) → Holds (length before) (λ k. slice_index before k + slice_index sums k) now) → Holds width (total_at (take (index + 1) rows)) now
row_added width rows index row before sums now below row_is sums_are fits are adds = record {
  width_is = added.width_is ∙ are.width_is;
  each = λ k inside. omega (arith, added.each k (omega (arith, inside, are.width_is)), are.each k inside, own k, sum_by_more (amount k) rows index row below);
}
  where
    own : (k : ℕ) → slice_index sums k ≡ amount k (slice_index_or rows index row)
    own k = ap (λ (sums : List ℕ). slice_index sums k) sums_are ∙ ap (amount k) row_is

    added : Holds (length before) (λ k. slice_index before k + slice_index sums k) now
    added = adds (λ k inside. let here : k < width = omega (arith, inside, are.width_is) in omega (arith, are.each k here, own k, sum_by_more_le (amount k) rows index row below, fits k here))

-- the sums of all summaries are added, where they fit
abbrev pub IsAllAdded : ℕ → List SummarySums → List ℕ → Type 0
IsAllAdded width rows total = ((k : ℕ) → k < width → total_at rows k < 2 ^ 64) → Holds width (total_at rows) total

-- the summary of the only sums
only_summary : (rows : List SummarySums) (d : SummarySums) → length rows ≡ 1 → map (λ row. row.summary) rows ≡ (slice_index_or rows 0 d).summary ∷ []
only_summary [] d one = absurd (omega arith)
only_summary (row ∷ []) d one = refl
only_summary (row ∷ other ∷ rows) d one = absurd (omega arith)

-- what holds of the only one that is set
only_set : {X : Type 0} (P : X → Type 0) (xs : List X) (now : X) → length xs ≡ 1 → P now → All P (slice_set xs 0 now)
only_set P [] now one here k d below = absurd (omega arith)
only_set P (x ∷ []) now one here zero d below = here
only_set P (x ∷ []) now one here (suc k) d below = absurd (omega arith)
only_set P (x ∷ y ∷ xs) now one here k d below = absurd (omega arith)

module _ (find : ℕ → Option ℕ) (width : ℕ) (records : List LossRecord) (found : List (Option ℕ)) (found_is : found ≡ map (λ entry. find entry.id) records) (all : list_all is_some found ≡ true) (summaries : List ℕ) (there : All (IsThere summaries) found) (rows : List SummarySums) (rows_are : map (λ row. row.summary) rows ≡ summaries) where
  -- each record comes to one of the summaries
  comes : AllByRecursion (λ entry. Comes summaries (find entry.id)) records
  comes = all_come find summaries records (subst (λ (found : List (Option ℕ)). list_all is_some found ≡ true) found_is all) (recursion_from_All (λ (entry : LossRecord). IsThere summaries (find entry.id)) records (found_there find summaries found records found_is there))

  -- the sums of summaries to which all records come are, added, what all records come to
  pub set_total : IsRising summaries → All (IsSumOf 2147483646 width find records) rows → AreWithin records → (total : List ℕ) → IsAllAdded width rows total → Holds width (λ k. run_loss (sidx_at (2147483646 + k)) records) total
  set_total rises are within total adds =
      let each = λ (k : ℕ) (below : k < width). rows_total find 2147483646 width records rows summaries rows_are rises comes (recursion_from_All (IsSumOf 2147483646 width find records) rows are) k below in
      let added = adds (λ k below. omega (arith, each k below, within (sidx_at (2147483646 + k)))) in
      record { width_is = added.width_is; each = λ k below. added.each k below ∙ each k below }

  -- what all records come to are the sums of the only summary
  pub whole_sums : (now d : SummarySums) → length summaries ≡ 1 → now.summary ≡ (slice_index_or rows 0 d).summary → Holds width (λ k. run_loss (sidx_at (2147483646 + k)) records) now.sums.items → All (IsSumOf 2147483646 width find records) (slice_set rows 0 now)
  whole_sums now d one same are =
      let many : length rows ≡ 1 = omega (arith, ap (λ (ids : List ℕ). length ids) rows_are, length-map rows (λ (row : SummarySums). row.summary), one) in
      let only : summaries ≡ now.summary ∷ [] = sym rows_are ∙ (only_summary rows d many ∙ ap (λ id. id ∷ []) (sym same)) in
      let members_are = all_members find now.summary records (subst (λ (ids : List ℕ). AllByRecursion (λ entry. Comes ids (find entry.id)) records) only comes) in
      only_set (IsSumOf 2147483646 width find records) rows now many (subst (λ (group : List LossRecord). Holds width (λ k. run_loss (sidx_at (2147483646 + k)) group) now.sums.items) (sym members_are) are)
