-- Lists of the amounts of samples, of which the last is taken.
use Rattle.std.proofs.Common.{◌≡◌, ◌+◌, ◌-◌, ℕ, List, [], ◌∷◌, ◌++◌, length, slice_index_or, refl, ap, sym, subst, ◌∙◌, arith, Bool}
use Rattle.std.proofs.lemmas.List.{length_push, get_or_push}
use Rattle.kt_rec.specs.declared.perspective.CellKey.{CellKey}
use Rattle.kt_ranks.specs.declared.amount_list.AmountList.{AmountList}
use Rattle.kt_cell.specs.declared.cell.Cell.{Cell}
use Rattle.kt_period_cells.specs.declared.group.SummaryCells.{SummaryCells}
use Rattle.kt_period_cells.specs.SummaryRows.{group_entries}
use Rattle.kt_cell.specs.Amounts.{amounts_of, of_sample}
use Rattle.kt_ranks.specs.AmountLists.{AreSamplesDown, listed}

-- the last list has the amounts of the sample that its place tells
pub taken_amounts : (maxima : Bool) (entries : List (CellKey × Cell)) (last sample : ℕ) (old now : List AmountList) (found : AmountList) → old ≡ now ++ found ∷ [] → sample + length old ≡ last + 1 → AreSamplesDown maxima entries last old → listed found ≡ amounts_of maxima (of_sample sample) entries
taken_amounts maxima entries last sample old now found is place are =
    let many : length old ≡ length now + 1 = ap length is ∙ length_push now found in
    let at : last - length now ≡ sample = omega (arith, many, place) in
    let here : slice_index_or old (length now) found ≡ found = ap (λ (lists : List AmountList). slice_index_or lists (length now) found) is ∙ get_or_push now found found (length now) refl in
    sym (ap listed here) ∙ are (length now) found (omega (arith, many)) ∙ ap (λ (n : ℕ). amounts_of maxima (of_sample n) entries) at

-- what is taken of a summary that is this one
pub taken_of : (cells group : SummaryCells) (sample : ℕ) (found : List ℕ) → cells ≡ group → found ≡ amounts_of cells.maxima (of_sample sample) (group_entries cells) → found ≡ amounts_of group.maxima (of_sample sample) (group_entries group)
taken_of cells group sample found same is = subst (λ (one : SummaryCells). found ≡ amounts_of one.maxima (of_sample sample) (group_entries one)) same is
