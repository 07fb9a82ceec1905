-- Steps of the stage that makes summaries of losses.
use Rattle.std.proofs.Common.{◌≡◌, ◌⊎◌, inl, inr, ℕ, Bool, true, false, nat_eq, nat_lt, List, [], ◌∷◌, ◌++◌, Option, None, Some, Result, Ok, Err, refl, sym, ap, subst, arith, ◌∙◌, append-nil}
use Rattle.std.specs.Prelude.{◌&&◌, ◌||◌, not}
use Rattle.std.specs.List.{flat_map}
use Rattle.std.specs.Result.{IfErr, OnOk}
use Rattle.kt_checks.specs.Checks.{answer_of}
use Rattle.kt_keys.specs.declared.need.Refusal.{Refusal as CheckRefusal}
use Rattle.std.proofs.lemmas.Bool.{and_parts, eqb-true, true≢false}
use Rattle.kt_ends.specs.declared.status.Refusal.{Refusal}
use Rattle.kt_ends.specs.declared.status.Refusal.TheVariants as refusal
use Rattle.kt_ends.specs.declared.tool_stop.ToolStop.{ToolStop}
use Rattle.kt_ends.specs.declared.tool_stop.ToolStop.TheVariants as stop
use Rattle.kt_loop.specs.ByRun.{OpenRun, closing, judged, opened_run, takes_run}
use Rattle.kt_loop.specs.RunSteps.{JudgesBy}
use Rattle.kt_loop.specs.Runs.{bare, joins, loss_key}
use Rattle.kt_loop.specs.Steps.{EndsWith, StepsBy, StepsOn}
use Rattle.kt_losses.specs.Judged.{judged_opening, judged_runs, loss_refusal}
use Rattle.kt_losses.specs.Summed.{GoesOn, StandsAt, table_of_set}
use Rattle.kt_losses.specs.Tables.{perspective_of}
use Rattle.kt_losses.specs.declared.summing.LastLoss.{LastLoss}
use Rattle.kt_losses.specs.declared.summing.SummarySet.{SummarySet}
use Rattle.kt_losses.proofs.RunLemmas.{bare_more}
use Rattle.kt_runs.specs.RunLosses.{event_of}
use Rattle.kt_stream.specs.Summary.{summary_bytes}
use Rattle.kt_stream.specs.declared.entry.LossRecord.{LossRecord}
use Rattle.kt_stream.specs.declared.entry.Placed.{Placed}
use Rattle.kt_stream.specs.declared.kind.Head.{Head}
use Rattle.kt_sum.specs.RunSummaries.{HoldsRun, IsReady}
use Rattle.kt_sum.specs.Summaries.{run_summaries}
use Rattle.kt_sum.specs.declared.run_summaries.RunSummaries.{RunSummaries}
use Rattle.kt_tables.specs.Portfolio.{PortfolioRows}

-- what goes on a run is decided by its last record
joins_last : (run : List (Placed LossRecord)) (placed next : Placed LossRecord) → joins loss_key (run ++ placed ∷ []) next ≡ (nat_eq placed.entry.event next.entry.event && nat_lt placed.entry.id next.entry.id)
joins_last [] placed next = ap (λ b. nat_eq placed.entry.event next.entry.event && b) (none (nat_lt placed.entry.id next.entry.id) (nat_eq placed.entry.id next.entry.id))
  where
    none : (a b : Bool) → (a || (b && false)) ≡ a
    none true b = refl
    none false true = refl
    none false false = refl
joins_last (first ∷ []) placed next = joins_last [] placed next
joins_last (first ∷ (second ∷ run)) placed next = joins_last (second ∷ run) placed next

-- a stream has one number of samples
one_number : (samples other : ℕ) (summaries : RunSummaries) → IsReady samples summaries → IsReady other summaries → samples ≡ other
one_number samples other summaries ready also = omega (arith, ready.totals.width_is, also.totals.width_is)

-- the sums of the one number of samples are those of each
pub holds_each : (portfolio : PortfolioRows) (of : SummarySet) (samples : ℕ) (records : List LossRecord) (summaries : RunSummaries) → IsReady samples summaries → HoldsRun portfolio (perspective_of of.items) of.set samples records summaries → (other : ℕ) → IsReady other summaries → HoldsRun portfolio (perspective_of of.items) of.set other records summaries
holds_each portfolio of samples records summaries ready holds other also = subst (λ n. HoldsRun portfolio (perspective_of of.items) of.set n records summaries) (one_number samples other summaries ready also) holds

-- no run is open
pub stands_empty : (portfolio : PortfolioRows) (of : SummarySet) (samples : ℕ) (last : LastLoss) (summaries : RunSummaries) → last.is_open ≡ false → IsReady samples summaries → HoldsRun portfolio (perspective_of of.items) of.set samples [] summaries → StandsAt portfolio of [] last summaries
stands_empty portfolio of samples last summaries closed ready holds = record {
  joins_is = λ placed. sym (ap (λ b. b && (nat_eq last.event placed.entry.event && nat_lt last.id placed.entry.id)) closed);
  event_is = λ open'. absurd (both _ closed open');
  none = λ unused. refl;
  are = holds.are;
  holds = holds_each portfolio of samples [] summaries ready holds;
}
  where
    both : (b : Bool) → b ≡ false → b ≡ true → ⊥
    both true is other = cc
    both false is other = cc

-- the event of a run with a record more
event_more : (run : List (Placed LossRecord)) (placed : Placed LossRecord) → (run ≡ []) ⊎ (placed.entry.event ≡ event_of (bare run)) → placed.entry.event ≡ event_of (bare (run ++ placed ∷ []))
event_more [] placed either = refl
event_more (first ∷ run) placed (inl none) = absurd cc
event_more (first ∷ run) placed (inr same) = same

-- a record more is on the run
pub stands_more : (portfolio : PortfolioRows) (of : SummarySet) (run : List (Placed LossRecord)) (placed : Placed LossRecord) (last : LastLoss) (before now : RunSummaries) (samples : ℕ) → StandsAt portfolio of run last before → GoesOn run placed → IsReady samples now → HoldsRun portfolio (perspective_of of.items) of.set samples (bare run ++ placed.entry ∷ []) now → StandsAt portfolio of (run ++ placed ∷ []) (record { is_open = true; event = placed.entry.event; id = placed.entry.id }) now
stands_more portfolio of run placed last before now samples stands goes ready holds = record {
  joins_is = joins_last run placed;
  event_is = λ unused. event_more run placed (by goes);
  none = λ never. absurd cc;
  are = holds.are;
  holds = subst (λ (records : List LossRecord). (other : ℕ) → IsReady other now → HoldsRun portfolio (perspective_of of.items) of.set other records now) (sym (bare_more run placed)) (holds_each portfolio of samples (bare run ++ placed.entry ∷ []) now ready holds);
}
  where
    by : GoesOn run placed → (run ≡ []) ⊎ (placed.entry.event ≡ event_of (bare run))
    by (inr none) = inl none
    by (inl joined) =
        let parts = and_parts last.is_open (nat_eq last.event placed.entry.event && nat_lt last.id placed.entry.id) (sym (stands.joins_is placed) ∙ joined) in
        let same = and_parts (nat_eq last.event placed.entry.event) (nat_lt last.id placed.entry.id) parts.1 in
        inr (sym (eqb-true last.event placed.entry.event same.0) ∙ stands.event_is parts.0)

-- a known record that goes past the limit is refused
pub past_refusal : (known past answer : Bool) (at : ℕ) → known ≡ true → answer ≡ not past → answer ≡ false → loss_refusal known past at ≡ Some (refusal.LossSum at)
past_refusal true true answer at there is over = refl
past_refusal true false answer at there is over = absurd (true≢false (sym is ∙ over))
past_refusal false past answer at there is over = absurd (true≢false (sym there))

-- one that does not is not
pub no_refusal : (known past answer : Bool) (at : ℕ) → known ≡ true → answer ≡ not past → answer ≡ true → loss_refusal known past at ≡ None
no_refusal true true answer at there is within = absurd (true≢false (sym within ∙ is))
no_refusal true false answer at there is within = refl
no_refusal false past answer at there is within = absurd (true≢false (sym there))

-- no run gives nothing
pub closed_none : (of : SummarySet) (portfolio : PortfolioRows) (run : List (Placed LossRecord)) (out : List ℕ) → run ≡ [] → out ≡ out ++ flat_map summary_bytes (run_summaries (perspective_of of.items) portfolio.rows portfolio.need.rule of.set (bare run))
closed_none of portfolio run out none = sym (ap (λ (run : List (Placed LossRecord)). out ++ flat_map summary_bytes (run_summaries (perspective_of of.items) portfolio.rows portfolio.need.rule of.set (bare run))) none ∙ append-nil out)

-- ---- the steps

-- what a closed run gives
closing_is : (head : Head) (of : SummarySet) (portfolio : PortfolioRows) (run : List (Placed LossRecord)) → closing (judged_runs table_of_set) head (of, portfolio) run ≡ flat_map summary_bytes (run_summaries (perspective_of of.items) portfolio.rows portfolio.need.rule of.set (bare run))
closing_is head of portfolio [] = refl
closing_is head of portfolio (first ∷ run) = refl

module _ (head : Head) (of : SummarySet) (portfolio : PortfolioRows) (placed : Placed LossRecord) (stands : OpenRun (SummarySet × PortfolioRows) LossRecord → Type 0) where
  -- what the calculation refuses
  abbrev refused : List (Placed LossRecord) → Option Refusal
  refused run = (judged_runs table_of_set).refuses head (of, portfolio) run placed

  -- a record was judged behind what was written
  judged_step : (closed text text_now : List ℕ) (run : List (Placed LossRecord)) (result : Result (Unit {0}) ToolStop) → text_now ≡ text ++ closed → JudgesBy (refused run) (stands (record { kept = (of, portfolio); run = run ++ placed ∷ [] })) result → StepsBy (record { text = closed; next = judged (of, portfolio) run placed (refused run) }) stands text text_now result
  judged_step closed text text_now run (Ok done) wrote by = record { next = record { kept = (of, portfolio); run = run ++ placed ∷ [] }; reached = ap (judged (of, portfolio) run placed) by.0; state = by.1; wrote = wrote }
  judged_step closed text text_now run (Err (stop.Refused why)) wrote by = record { reached = ap (judged (of, portfolio) run placed) by; wrote = wrote }
  judged_step closed text text_now run (Err stop.ReadFault) wrote by = tt
  judged_step closed text text_now run (Err stop.WriteFault) wrote by = tt
  judged_step closed text text_now run (Err stop.NoMemory) wrote by = tt

  -- it goes on the open run
  pub joined_step : (kept : SummarySet × PortfolioRows) (text : List ℕ) (run : List (Placed LossRecord)) (result : Result (Unit {0}) ToolStop) → kept ≡ (of, portfolio) → joins loss_key run placed ≡ true → JudgesBy (refused run) (stands (record { kept = (of, portfolio); run = run ++ placed ∷ [] })) result → StepsBy (takes_run (judged_runs table_of_set) head (record { kept = kept; run = run }) placed (joins loss_key run placed)) stands text text result
  joined_step kept text run result same joined by =
      subst (λ (kept : SummarySet × PortfolioRows). StepsBy (takes_run (judged_runs table_of_set) head (record { kept = kept; run = run }) placed (joins loss_key run placed)) stands text text result) (sym same)
      (subst (λ (b : Bool). StepsBy (takes_run (judged_runs table_of_set) head (record { kept = (of, portfolio); run = run }) placed b) stands text text result) (sym joined) (judged_step [] text text run result (sym (append-nil text)) by))

  -- it opens the next run
  pub opening_step : (kept : SummarySet × PortfolioRows) (text text_now : List ℕ) (run : List (Placed LossRecord)) (result : Result (Unit {0}) ToolStop) → kept ≡ (of, portfolio) → joins loss_key run placed ≡ false → text_now ≡ text ++ flat_map summary_bytes (run_summaries (perspective_of of.items) portfolio.rows portfolio.need.rule of.set (bare run)) → JudgesBy (refused []) (stands (record { kept = (of, portfolio); run = placed ∷ [] })) result → StepsBy (takes_run (judged_runs table_of_set) head (record { kept = kept; run = run }) placed (joins loss_key run placed)) stands text text_now result
  opening_step kept text text_now run result same joined wrote by =
      subst (λ (kept : SummarySet × PortfolioRows). StepsBy (takes_run (judged_runs table_of_set) head (record { kept = kept; run = run }) placed (joins loss_key run placed)) stands text text_now result) (sym same)
      (subst (λ (b : Bool). StepsBy (takes_run (judged_runs table_of_set) head (record { kept = (of, portfolio); run = run }) placed b) stands text text_now result) (sym joined)
      (judged_step (closing (judged_runs table_of_set) head (of, portfolio) run) text text_now [] result (wrote ∙ ap (λ (closed : List ℕ). text ++ closed) (sym (closing_is head of portfolio run))) by))

-- the end closes the open run
pub ends_step : (head : Head) (of : SummarySet) (portfolio : PortfolioRows) (kept : SummarySet × PortfolioRows) (text text_now : List ℕ) (run : List (Placed LossRecord)) → kept ≡ (of, portfolio) → text_now ≡ text ++ flat_map summary_bytes (run_summaries (perspective_of of.items) portfolio.rows portfolio.need.rule of.set (bare run)) → text_now ≡ text ++ closing (judged_runs table_of_set) head kept run
ends_step head of portfolio kept text text_now run same wrote = wrote ∙ (ap (λ (closed : List ℕ). text ++ closed) (sym (closing_is head of portfolio run)) ∙ ap (λ (kept : SummarySet × PortfolioRows). text ++ closing (judged_runs table_of_set) head kept run) (sym same))

-- a record was judged so, said otherwise
pub judged_as : (one other : Option Refusal) (S T : Type 0) (result : Result (Unit {0}) ToolStop) → one ≡ other → (S → T) → JudgesBy one S result → JudgesBy other T result
judged_as one other S T (Ok done) same follows by = (sym same ∙ by.0, follows by.1)
judged_as one other S T (Err (stop.Refused why)) same follows by = sym same ∙ by
judged_as one other S T (Err stop.ReadFault) same follows by = tt
judged_as one other S T (Err stop.WriteFault) same follows by = tt
judged_as one other S T (Err stop.NoMemory) same follows by = tt

-- the end is written, or there is want of memory
pub ends_by : (end text now : List ℕ) (Q : Type 0) (result : Result (Unit {0}) ToolStop) → OnOk result Q → (Q → now ≡ text ++ end) → IfErr result (λ why. why ≡ stop.NoMemory) → EndsWith end text now result
ends_by end text now Q (Ok done) closed wrote memory = wrote closed
ends_by end text now Q (Err (stop.Refused why)) closed wrote memory = absurd cc
ends_by end text now Q (Err stop.ReadFault) closed wrote memory = tt
ends_by end text now Q (Err stop.WriteFault) closed wrote memory = tt
ends_by end text now Q (Err stop.NoMemory) closed wrote memory = tt

-- where the checks refuse nothing the heading is written
pub opens_run : (made : SummarySet × PortfolioRows) (head : Head) (found : Option CheckRefusal) (answer : Unit {0}) → answer_of found ≡ Ok answer → (stands : OpenRun (SummarySet × PortfolioRows) LossRecord → Type 0) (run : List (Placed LossRecord)) → stands (record { kept = made; run = run }) → (text now : List ℕ) → now ≡ text ++ (table_of_set made.0).heading head
    → StepsOn (record { text = (judged_opening table_of_set made head found).text; next = opened_run run (judged_opening table_of_set made head found).next }) stands text now
opens_run made head None answer is stands run stood text now wrote = record { next = record { kept = made; run = run }; reached = refl; state = stood; wrote = wrote }
opens_run made head (Some found) answer is stands run stood text now wrote = cc
