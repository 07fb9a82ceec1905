-- The ground-up losses of an event: of each item, cut to the insured values of coverages, and as records.
-- The rules: docs/CALCULATION.md, "Sampled loss", "Mean and deviation of an item", "Coverage cut".
use Rattle.std.specs.Prelude.{ℕ, zero, suc, ◌+◌, ◌*◌, ◌&&◌, Bool, not, cond, nat_eq, nat_lt, ℤ, pos, negsuc, List, [], ◌∷◌, ◌≡◌, length, take, Option, None, Some}
use Rattle.std.specs.List.{filter_map, range_with_len, sum_by}
use Rattle.kt_money.specs.Sharing.{share_of}
use Rattle.kt_rec.specs.Rows.{Rows}
use Rattle.kt_rec.specs.declared.exposure.Item.{Item}
use Rattle.kt_checks.specs.TableChecks.{tiv_of}
use Rattle.kt_stream.specs.declared.entry.Bin.{Bin}
use Rattle.kt_stream.specs.declared.entry.Cdf.{Cdf}
use Rattle.kt_stream.specs.declared.entry.LossRecord.{LossRecord}
use Rattle.kt_stream.specs.declared.entry.Pair.{Pair}
use Rattle.kt_tables.specs.Lookups.{random_of}
use Rattle.kt_damage.specs.SampledLoss.{sampled_loss}
use Rattle.kt_damage.specs.ItemMoments.{mean_loss, loss_deviation}

-- ---- the losses of an item

-- the losses of an item stand in the order of their sidx: -2 for the deviation, -1 for the mean, and then the samples from 1
abbrev pub sidx_at : ℕ → ℤ
sidx_at zero = negsuc 1
sidx_at (suc zero) = negsuc 0
sidx_at (suc (suc earlier)) = pos (earlier + 1)

-- the insured value of an item: that of its coverage
abbrev pub item_tiv : Rows → Item → ℕ
item_tiv rows row = tiv_of rows.coverages row.coverage_id

-- the loss of an item at a place, by a distribution
abbrev pub loss_by : Rows → ℕ → List Bin → Item → ℕ → ℕ
loss_by rows event bins row zero = loss_deviation (item_tiv rows row) bins
loss_by rows event bins row (suc zero) = mean_loss (item_tiv rows row) bins
loss_by rows event bins row (suc (suc earlier)) =
    sampled_loss (item_tiv rows row) rows.damage_bin_dict bins (random_of rows event row.group_id (earlier + 1) * 1000000)

-- whether an item has an areaperil and a vulnerability
abbrev pub has_pair : ℕ → ℕ → Item → Bool
has_pair areaperil vulnerability row = nat_eq row.areaperil_id areaperil && nat_eq row.vulnerability_id vulnerability

-- the bins of the distribution of an item's areaperil and vulnerability; none where the event has no such distribution
abbrev pub bins_of : List Cdf → Item → List Bin
bins_of [] row = []
bins_of (cdf ∷ cdfs) row = cond (has_pair cdf.areaperil cdf.vulnerability row) cdf.bins (bins_of cdfs row)

-- the loss of an item at a place, before the cut; 0 where the event has no distribution for it
abbrev pub raw_loss : Rows → ℕ → List Cdf → Item → ℕ → ℕ
raw_loss rows event cdfs row place = loss_by rows event (bins_of cdfs row) row place

-- ---- the cut

-- the losses of a coverage's items, added
abbrev pub coverage_total : (Item → ℕ) → List Item → ℕ → ℕ
coverage_total loss items coverage = sum_by (λ row. cond (nat_eq row.coverage_id coverage) (loss row) 0) items

-- the losses of the items of an item's coverage that have lower ids, added
abbrev pub total_before : (Item → ℕ) → List Item → Item → ℕ
total_before loss items item =
    sum_by (λ row. cond (nat_eq row.coverage_id item.coverage_id && nat_lt row.item_id item.item_id) (loss row) 0) items

-- a loss beside the losses of its coverage's items in all, and of those before it: its share of the insured value where they
-- add to more
abbrev pub cut_loss : ℕ → ℕ → ℕ → ℕ → ℕ
cut_loss tiv total before loss = cond (nat_lt tiv total) (share_of tiv total before loss) loss

-- the loss at a place of an item, with the cut or without it: the deviation, at the first place, is never cut
abbrev pub final_loss : Bool → ℕ → ℕ → ℕ → ℕ → ℕ → ℕ
final_loss cut tiv total before loss place = cond (cut && not (nat_eq place 0)) (cut_loss tiv total before loss) loss

-- the ground-up loss of an item at a place
abbrev pub ground_up_loss : Rows → Bool → ℕ → List Cdf → Item → ℕ → ℕ
ground_up_loss rows cut event cdfs row place =
    let loss : Item → ℕ = λ other. raw_loss rows event cdfs other place in
    final_loss cut (item_tiv rows row) (coverage_total loss rows.items row.coverage_id) (total_before loss rows.items row) (loss row) place

-- the ground-up losses of a coverage's items at a place, added
abbrev pub coverage_loss : Rows → Bool → ℕ → List Cdf → ℕ → ℕ → ℕ
coverage_loss rows cut event cdfs coverage place = coverage_total (λ row. ground_up_loss rows cut event cdfs row place) rows.items coverage

-- ---- the records

-- the pair of a place, where its loss is above 0
abbrev pub pair_at : ℕ → ℕ → Option Pair
pair_at place zero = None
pair_at place (suc less) = Some (record { sidx = sidx_at place; loss = suc less })

-- the pairs of losses, with so many samples
abbrev pub pairs_of : (ℕ → ℕ) → ℕ → List Pair
pairs_of loss samples = filter_map (λ place. pair_at place (loss place)) (range_with_len 0 (samples + 2))

-- the record of an event and an id, where there are pairs
abbrev pub record_with : ℕ → ℕ → List Pair → Option LossRecord
record_with event id [] = None
record_with event id (pair ∷ pairs) = Some (record { event = event; id = id; pairs = pair ∷ pairs })

-- the record of an item
abbrev pub item_record : Rows → ℕ → Bool → ℕ → List Cdf → Item → Option LossRecord
item_record rows samples cut event cdfs row =
    record_with event row.item_id (pairs_of (ground_up_loss rows cut event cdfs row) samples)

-- an item among items by rising id
abbrev pub insert_by_id : Item → List Item → List Item
insert_by_id row [] = row ∷ []
insert_by_id row (other ∷ rows) = cond (nat_lt row.item_id other.item_id) (row ∷ other ∷ rows) (other ∷ insert_by_id row rows)

-- items by rising id
abbrev pub by_id : List Item → List Item
by_id [] = []
by_id (row ∷ rows) = insert_by_id row (by_id rows)

-- the records of the ground-up losses of an event: of its items by rising id
abbrev pub ground_up_records : Rows → ℕ → Bool → ℕ → List Cdf → List LossRecord
ground_up_records rows samples cut event cdfs = filter_map (item_record rows samples cut event cdfs) (by_id rows.items)

-- what was there stands in front of what is there now: some records were put behind it, until memory was wanting
abbrev pub StandsInFront : {A : Type 0} → List A → List A → Type 0
StandsInFront before now = take (length before) now ≡ before
