-- What the stage over losses stands on, and its outcome in words of whole runs.
use Rattle.std.proofs.Common.{◌≡◌, ℕ, Bool, true, false, List, [], ◌∷◌, ◌++◌, length, map, take, Option, None, Some, Ok, refl, ap, ◌∙◌}
use Rattle.std.specs.List.{AllByRecursion}
use Rattle.kt_checks.specs.Checks.{answer_of, samples_refusal}
use Rattle.kt_keys.specs.declared.need.Refusal.{Refusal as CheckRefusal}
use Rattle.kt_losses.specs.Judged.{LossTable, is_known, judged_behind, judged_opening, judged_runs, losses_kind}
use Rattle.kt_losses.specs.Standing.{AreKnown}
use Rattle.kt_loop.specs.ByRun.{by_run, outcome_by_run}
use Rattle.kt_loop.specs.Outcome.{outcome}
use Rattle.kt_loop.specs.Runs.{bare, loss_key}
use Rattle.kt_loop.specs.Steps.{StepsOn}
use Rattle.kt_rec.specs.Rows.{Rows}
use Rattle.kt_stream.specs.Header.{IsHead}
use Rattle.kt_stream.specs.Losses.{IsLoss, loss_form, loss_shape}
use Rattle.kt_stream.specs.Reader.{IsPlaced}
use Rattle.kt_stream.specs.declared.entry.LossRecord.{LossRecord}
use Rattle.kt_stream.specs.declared.entry.Placed.{Placed}
use Rattle.kt_stream.specs.declared.kind.Head.{Head}
use Rattle.kt_stream.specs.declared.kind.StreamKind.TheVariants as stream
use Rattle.kt_stream.specs.declared.stop.StreamStop.{StreamStop}
use Rattle.kt_tables.specs.Portfolio.{PortfolioRows}

-- records without their places, with one more
pub bare_more : (run : List (Placed LossRecord)) (placed : Placed LossRecord) → bare (run ++ placed ∷ []) ≡ bare run ++ placed.entry ∷ []
bare_more [] placed = refl
bare_more (first ∷ run) placed = ap (λ later. first.entry ∷ later) (bare_more run placed)

-- they are the records that the places hold
pub bare_is : (run : List (Placed LossRecord)) → bare run ≡ map (λ placed. placed.entry) run
bare_is [] = refl
bare_is (first ∷ run) = ap (λ later. first.entry ∷ later) (bare_is run)

-- known ids, with one more
pub known_more : (items : Bool) (rows : Rows) (run : List (Placed LossRecord)) (placed : Placed LossRecord) → AreKnown items rows run → is_known items rows placed.entry.id ≡ true → AreKnown items rows (run ++ placed ∷ [])
known_more items rows [] placed are is = (is, tt)
known_more items rows (first ∷ run) placed are is = (are.0, known_more items rows run placed are.1 is)

-- a header of a stream of losses of either kind is one of ground-up losses
pub loss_head : (items : Bool) (head : Head) → IsHead (losses_kind items) head → IsHead stream.Gul head
loss_head true head is = is
loss_head false head is = is

-- records of a stream of losses have losses that it takes
pub good_run : (items : Bool) (head : Head) (run : List (Placed LossRecord)) → AllByRecursion (IsPlaced LossRecord loss_form (λ shape samples entry. IsLoss samples entry) (loss_shape (losses_kind items)) head) run → AllByRecursion (λ placed. IsLoss head.samples placed.entry) run
good_run items head [] good = tt
good_run items head (placed ∷ run) good = (good.0.good, good_run items head run good.1)

-- what a tool makes it makes by its table alone
same_opening : {T : Type 0} → (table : T → LossTable) (made : T × PortfolioRows) (head : Head) (found : Option CheckRefusal) (entries : List (Placed LossRecord)) (fault : Option StreamStop) → outcome_by_run loss_key (judged_runs table) head (judged_opening table made head found).text (judged_opening table made head found).next entries fault ≡ outcome_by_run loss_key (judged_runs (λ (one : LossTable). one)) head (judged_opening (λ (one : LossTable). one) (table made.0, made.1) head found).text (judged_opening (λ (one : LossTable). one) (table made.0, made.1) head found).next entries fault
same_opening table made head None entries fault = refl
same_opening table made head (Some found) entries fault = refl

-- the outcome of the calculation is what stands at the header and what each closed run gives
pub judged_are : {T : Type 0} → (table : T → LossTable) → ((head : Head) (entries : List (Placed LossRecord)) (fault : Option StreamStop) (made : T × PortfolioRows) → outcome (by_run loss_key (judged_runs table)) (record { kept = made; run = [] }) (record { head = Some head; entries = entries; fault = fault }) ≡ outcome_by_run loss_key (judged_runs table) head ((judged_runs table).opens head made).text ((judged_runs table).opens head made).next entries fault) → (made : T × PortfolioRows) (head : Option Head) (entries : List (Placed LossRecord)) (fault : Option StreamStop) → outcome (by_run loss_key (judged_runs table)) (record { kept = made; run = [] }) (record { head = head; entries = entries; fault = fault }) ≡ judged_behind (table made.0) made.1 head (record { head = head; entries = entries; fault = fault })
judged_are table law made None entries None = refl
judged_are table law made None entries (Some stop) = refl
judged_are table law made (Some head) entries fault = law head entries fault made ∙ same_opening table made head (samples_refusal made.1.rows made.1.need head.samples) entries fault

-- the front of a list is the list that stands there
pub front_whole : (xs ys : List ℕ) (n : ℕ) → n ≡ length xs → take n (xs ++ ys) ≡ xs
front_whole xs ys n is = ap (λ n. take n (xs ++ ys)) is ∙ whole xs
  where
    whole : (xs : List ℕ) → take (length xs) (xs ++ ys) ≡ xs
    whole [] = refl
    whole (x ∷ xs) = ap (λ later. x ∷ later) (whole xs)

-- where the checks refuse nothing the heading is written
pub opens_good : {T : Type 0} → (table : T → LossTable) (made : T × PortfolioRows) (head : Head) (found : Option CheckRefusal) (answer : Unit {0}) → answer_of found ≡ Ok answer → (stands : T × PortfolioRows → Type 0) → stands made → (text now : List ℕ) → now ≡ text ++ (table made.0).heading head → StepsOn (judged_opening table made head found) stands text now
opens_good table made head None answer is stands stood text now wrote = record { next = made; reached = refl; state = stood; wrote = wrote }
opens_good table made head (Some found) answer is stands stood text now wrote = cc
