use Rattle.std.proofs.Common.{◌≡◌, ◌+◌, ◌∙◌, List, ℕ, Some, length, slice_index, slice_index_or, ap, subst, sym}
use Rattle.std.proofs.Math.Seq.{map-set_same}
use Rattle.std.proofs.lemmas.List.{get_or-map}
use Rattle.kt_rec.specs.Rising.{IsRising}
use Rattle.kt_runs.specs.LaneRows.{pairs_with}
use Rattle.kt_sum.specs.declared.summary_sums.SummarySums.{SummarySums}
use Rattle.kt_sum.proofs.RunSumsLemmas.{none_added, ready_more, row_inside, some_added}
use Rattle.kt_sum.proofs.rows.add_lane_entry.Goals as goal

pub returns-in-None-clause-sums : goal.returns-in-None-clause-sums
returns-in-None-clause-sums c = λ find records entry pairs_are found within are. none_added find 2147483646 (length c.args.lane.now + 2) records entry (found ∙ c.in-None.is) c.args.rows.now are

pub bounds-rows-place : goal.bounds-rows-place
bounds-rows-place c = row_inside c.args.rows.now c.args.summaries.now c.place_near-place.result c.requires.rows c.place_near-place.ensures.within

pub add_lane_to-requires : goal.add_lane_to-requires
add_lane_to-requires c =
    let below = row_inside c.args.rows.now c.args.summaries.now c.place_near-place.result c.requires.rows c.place_near-place.ensures.within in
    record { some = c.requires.some; few = c.requires.few; width = (c.requires.ready c.place_near-place.result c.index-rows-place.result below).width_is }

pub returns : goal.returns
returns c =
    let lane = c.args.lane.now in
    let width = length lane + 2 in
    let rows = c.args.rows.now in
    let place = c.place_near-place.result in
    let item = c.index-rows-place.result in
    let now = c.add_lane_to.new.row in
    let added = c.add_lane_to.ensures in
    let below = row_inside rows c.args.summaries.now place c.requires.rows c.place_near-place.ensures.within in
    let summary : (slice_index_or rows place item).summary ≡ c.in-Some.summary = sym (get_or-map (λ (row : SummarySums). row.summary) rows place item 0 below) ∙ (ap (λ (ids : List ℕ). slice_index ids place) c.requires.rows ∙ c.place_near-place.ensures.value) in
    record {
      rows = map-set_same (λ (row : SummarySums). row.summary) rows place now item added.summary ∙ c.requires.rows;
      ready = ready_more width rows place item now below added.used added.width c.requires.ready;
      sums = λ find records entry pairs_are found within are.
          some_added find 2147483646 width records entry within rows place item now below (found ∙ (c.in-Some.is ∙ ap Some (sym summary))) are added.summary
          (subst IsRising (sym c.requires.rows) c.requires.rising) (pairs_with c.args.deviation lane) (sym pairs_are) added.added;
    }
