-- The rows of the occurrences of an event.
use Rattle.std.proofs.Common.{◌≡◌, ℕ, ◌+◌, ◌<◌, List, [], ◌∷◌, ◌++◌, length, map, take, get_or, refl, sym, ap, ◌∙◌, cond}
use Rattle.std.specs.Prelude.{Bool, true, false, ◌||◌}
use Rattle.std.specs.List.{flat_map, list_any}
use Rattle.std.proofs.lemmas.List.{map-append, take_more}
use Rattle.std.proofs.lemmas.List.Concat.{flat_map-cons}
use Rattle.kt_rec.specs.declared.perspective.Perspective.{Perspective}
use Rattle.kt_rec.specs.declared.periods.Occurrence.{Occurrence}
use Rattle.kt_stream.specs.declared.entry.Pair.{Pair}
use Rattle.kt_period_cells.specs.declared.rows.Spot.{Spot}
use Rattle.kt_cell.specs.Losses.{KeyLoss, key_of, loss_at, pair_losses, is_added}
use Rattle.kt_period_cells.specs.Rows.{spot_loss, spot_losses}

-- the periods of rows
abbrev pub periods_of : List Spot → List ℕ
periods_of spots = map (λ spot. spot.period) spots

-- the periods of occurrences
abbrev pub period_nos : List Occurrence → List ℕ
period_nos at = map (λ occurrence. occurrence.period_no) at

-- the row of one occurrence more
pub periods_more : (at : List Occurrence) (i : ℕ) (spots : List Spot) (spot : Spot) (d : Occurrence) → i < length at → periods_of spots ≡ period_nos (take i at) → spot.period ≡ (get_or at i d).period_no →
    periods_of (spots ++ spot ∷ []) ≡ period_nos (take (i + 1) at)
periods_more at i spots spot d within so_far here =
    map-append (λ (spot : Spot). spot.period) spots (spot ∷ []) ∙ ap (λ ns. ns ++ spot.period ∷ []) so_far ∙ ap (λ n. period_nos (take i at) ++ n ∷ []) here
    ∙ sym (ap period_nos (take_more at i d within) ∙ map-append (λ (occurrence : Occurrence). occurrence.period_no) (take i at) (get_or at i d ∷ []))

-- the losses of a pair in the rows of some occurrences
pair_same : (p : Perspective) (s u : ℕ) (pair : Pair) (spots : List Spot) (at : List Occurrence) → periods_of spots ≡ period_nos at → map (spot_loss p s u pair) spots ≡ map (loss_at p s u pair) at
pair_same p s u pair spots at same = in_rows spots ∙ ap (map loss) same ∙ sym (at_all at)
  where
    loss : ℕ → KeyLoss
    loss period = record { key = key_of p s u pair.sidx period; loss = pair.loss }

    in_rows : (spots : List Spot) → map (spot_loss p s u pair) spots ≡ map loss (periods_of spots)
    in_rows [] = refl
    in_rows (spot ∷ spots) = ap (λ ls. spot_loss p s u pair spot ∷ ls) (in_rows spots)

    at_all : (at : List Occurrence) → map (loss_at p s u pair) at ≡ map loss (period_nos at)
    at_all [] = refl
    at_all (o ∷ at) = ap (λ ls. loss_at p s u pair o ∷ ls) (at_all at)

-- the losses of a record in the rows of its occurrences are the record's losses
pub losses_same : (p : Perspective) (s u : ℕ) (pairs : List Pair) (spots : List Spot) (at : List Occurrence) → periods_of spots ≡ period_nos at → flat_map (spot_losses p s u spots) pairs ≡ flat_map (pair_losses p s u at) pairs
losses_same p s u [] spots at same = refl
losses_same p s u (pair ∷ pairs) spots at same =
    flat_map-cons (spot_losses p s u spots) pair pairs ∙ ap (λ ls. ls ++ flat_map (spot_losses p s u spots) pairs) (ap (λ ls. cond (is_added pair) ls []) (pair_same p s u pair spots at same))
    ∙ ap (λ ls. pair_losses p s u at pair ++ ls) (losses_same p s u pairs spots at same) ∙ sym (flat_map-cons (pair_losses p s u at) pair pairs)

-- pairs of which none is added up have no losses
pub no_losses : (p : Perspective) (s u : ℕ) (at : List Occurrence) (pairs : List Pair) → list_any is_added pairs ≡ false → flat_map (pair_losses p s u at) pairs ≡ []
no_losses p s u at [] none = refl
no_losses p s u at (pair ∷ pairs) none =
    let both = neither (is_added pair) (list_any is_added pairs) none in
    flat_map-cons (pair_losses p s u at) pair pairs ∙ ap (λ b. cond b (map (loss_at p s u pair) at) [] ++ flat_map (pair_losses p s u at) pairs) both.0 ∙ no_losses p s u at pairs both.1
  where
    neither : (a b : Bool) → a || b ≡ false → (a ≡ false) × (b ≡ false)
    neither true b same = cc
    neither false b same = (refl, same)
