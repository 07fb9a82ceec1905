-- The table of average annual losses, from the entries of its set.
use Rattle.std.proofs.Common.{◌≡◌, ℕ, ◌≤◌, List, [], ◌∷◌, ◌++◌, map, refl, ap, ◌∙◌, cond, Bool, true, false, All}
use Rattle.std.specs.List.{flat_map}
use Rattle.std.specs.Map.{keys_of}
use Rattle.std.proofs.lemmas.List.Elements.{All-nil, All-cons, All-append}
use Rattle.std.proofs.lemmas.List.Concat.{flat_map-cons}
use Rattle.kt_rec.specs.declared.perspective.Perspective.{Perspective}
use Rattle.kt_rec.specs.declared.perspective.CellKey.{CellKey}
use Rattle.kt_rec.specs.declared.periods.Occurrence.{Occurrence}
use Rattle.kt_stream.specs.declared.entry.Pair.{Pair}
use Rattle.kt_cell.specs.declared.cell.Cell.{Cell}
use Rattle.kt_cell.specs.Losses.{KeyLoss, Added, total, all_losses, losses_of, pair_losses, is_added, loss_at}
use Rattle.kt_curve.specs.Grid.{summary_ids, HasSet, by_summary}
use Rattle.kt_cell.specs.Sets.{summary_entries}
use Rattle.kt_cell.specs.Standing.{Standing, cell_at, total_in}
use Rattle.kt_cell.specs.Amounts.{amount_at}
use Rattle.kt_curve.specs.Average.{aal_rows, average_annual_loss_rows}
use Rattle.kt_curve.specs.OwnTables.{averages_agree}
use Rattle.kt_cell.specs.TotalLaws.{added_some}
use Rattle.kt_curve.proofs.Ids.{amounts_of_standing, ids_of_standing, flat_map_each}

-- ---- losses are above 0

-- what holds of all that each gives holds of all
all_flat : {X : Type 0} (P : KeyLoss → Type 0) (f : X → List KeyLoss) → ((x : X) → All P (f x)) → (xs : List X) → All P (flat_map f xs)
all_flat P f each [] = All-nil P
all_flat P f each (x ∷ xs) = rw (flat_map-cons f x xs) (All-append P (f x) (flat_map f xs) (each x) (all_flat P f each xs))

-- the losses of all records are above 0
pub losses_positive : (history : List Added) → All (λ one. 1 ≤ one.loss) (all_losses history)
losses_positive history =
    all_flat (λ one. 1 ≤ one.loss) losses_of (λ added. all_flat (λ one. 1 ≤ one.loss) (pair_losses added.perspective added.set added.entry.summary added.at) (λ pair. of_pair added pair (is_added pair) (added_some pair)) added.entry.pairs) history
  where
    each : (added : Added) (pair : Pair) → 1 ≤ pair.loss → (at : List Occurrence) → All (λ one. 1 ≤ one.loss) (map (loss_at added.perspective added.set added.entry.summary pair) at)
    each added pair some [] = All-nil _
    each added pair some (o ∷ at) = All-cons (λ (one : KeyLoss). 1 ≤ one.loss) (loss_at added.perspective added.set added.entry.summary pair o) (map (loss_at added.perspective added.set added.entry.summary pair) at) some (each added pair some at)

    of_pair : (added : Added) (pair : Pair) (b : Bool) → (b ≡ true → 1 ≤ pair.loss) → All (λ one. 1 ≤ one.loss) (cond b (map (loss_at added.perspective added.set added.entry.summary pair) added.at) [])
    of_pair added pair true some = each added pair (some refl) added.at
    of_pair added pair false some = All-nil _

-- ---- the rows

-- the rows of the entries of a set are those of the losses for which they stand
pub rows_of_standing : (p : Perspective) (s n samples : ℕ) (history : List Added) (es part : List (CellKey × Cell)) → Standing (all_losses history) es → HasSet p s part es →
    by_summary p s (λ summary group. aal_rows p s n samples (amount_at false group) summary) part ≡ average_annual_loss_rows p s n samples (all_losses history)
rows_of_standing p s n samples history es part stands has_set =
    flat_map_each (λ summary. aal_rows p s n samples (λ key. total_in (cell_at (summary_entries summary part) key)) summary) (aal_rows p s n samples (total (all_losses history)))
    (λ summary. averages_agree p s p summary _ (total (all_losses history)) (amounts_of_standing false p s summary (all_losses history) es part stands has_set) n samples)
    (summary_ids p s (keys_of part))
    ∙ ap (flat_map (aal_rows p s n samples (total (all_losses history)))) (ids_of_standing p s (all_losses history) es part stands has_set (losses_positive history))

-- a text that was begun with no bytes
pub fresh_text : (new fresh more all : List ℕ) → new ≡ fresh ++ more → fresh ≡ [] → more ≡ all → new ≡ all
fresh_text new fresh more all is none same = is ∙ ap (λ t. t ++ more) none ∙ same
