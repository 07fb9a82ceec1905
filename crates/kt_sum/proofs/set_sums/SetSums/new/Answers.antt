use Rattle.std.proofs.Common.{◌≡◌, ◌+◌, ◌∙◌, ℕ, Bool, true, false, cond, List, Option, length, take, ap, refl, subst, sym}
use Rattle.std.specs.Prelude.{All}
use Rattle.std.specs.List.{list_all}
use Rattle.std.specs.Option.{is_some}
use Rattle.std.proofs.lemmas.Bool.{eqb-true, true≢false}
use Rattle.std.proofs.lemmas.List.{length-map}
use Rattle.kt_stream.specs.declared.entry.LossRecord.{LossRecord}
use Rattle.kt_tables.specs.Lookups.{summary_in}
use Rattle.kt_sum.specs.RunSummaries.{IsReadyRow, IsSumOf, IsThere, IsZeroRow}
use Rattle.kt_sum.proofs.RunSumsLemmas.{found_ids}
use Rattle.kt_sum.proofs.set_sums.SetSums.new.Goals as goal
use Rattle.kt_sum.proofs.set_sums.SetSums.new.Goals.{then-finds_all, else-finds_all}

-- no lane is added yet, whether the sums wait or not
same : (waits : Bool) (n : ℕ) → cond waits n n ≡ n
same true n = refl
same false n = refl

pub returns-clause-ready : goal.returns-clause-ready
returns-clause-ready c = λ losses width_is ids_are.
    let find = summary_in c.args.perspective c.args.portfolio.now.rows c.args.set in
    let found = c.in_ok-found.found.items in
    let found_is = c.in_ok-found.ensures.value find c.set_summaries.ensures.value in
    let all = λ (yes : c.finds_all-finds_all.result ≡ true). subst (λ (found : List (Option ℕ)). list_all is_some found ≡ true) c.deref-3.ensures.value (sym c.finds_all-finds_all.ensures ∙ yes) in
    record {
      rising = c.in_ok-summaries.ensures.rising;
      rows_are = c.in_ok-rows.ensures.summaries ∙ c.deref-2.ensures.value;
      many = ap (λ (found : List (Option ℕ)). length found) (found_ids find found c.args.ids.now losses.records found_is ids_are) ∙ length-map losses.records (λ (entry : LossRecord). find entry.id);
      there = subst (λ (found : List (Option ℕ)). All (IsThere c.in_ok-summaries.summaries.items) found) c.deref.ensures.value c.in_ok-summaries.ensures.there;
      all = all;
      whole = λ waiting. elim c.if-finds_all.branch [
        | then-finds_all w ↦ record {
          all = all w.if-finds_all.true;
          one = sym (ap (λ (ids : List ℕ). length ids) c.deref-2.ensures.value) ∙ (c.deref-2.ensures.len ∙ (sym w.len.ensures ∙ eqb-true w.len.result 1 (sym w.waits-is ∙ waiting)));
        }
        | else-finds_all w ↦ absurd (true≢false (sym waiting ∙ (w.waits-is ∙ w.if-finds_all.false)))
      ];
      rows = subst (λ (n : ℕ). All (IsReadyRow n) c.in_ok-rows.rows.items) (sym width_is) c.in_ok-rows.ensures.ready;
    }

pub returns-clause-none : goal.returns-clause-none
returns-clause-none c = λ losses width_is ids_are.
    let find = summary_in c.args.perspective c.args.portfolio.now.rows c.args.set in
    record {
      found = found_ids find c.in_ok-found.found.items c.args.ids.now losses.records (c.in_ok-found.ensures.value find c.set_summaries.ensures.value) ids_are;
      sums = subst (λ (n : ℕ). All (IsSumOf 2147483646 (losses.rows + 2) find (take n losses.records)) c.in_ok-rows.rows.items) (sym (same c.if-finds_all.waits 0))
          (subst (λ (n : ℕ). All (IsZeroRow n) c.in_ok-rows.rows.items) (sym width_is) c.in_ok-rows.ensures.zeros);
    }
