use Rattle.std.proofs.Common.{refl, map, ap, ◌++◌, List, [], ◌∷◌, ◌∙◌}
use Rattle.std.specs.List.{filter_map, flat_map}
use Rattle.kt_tables.specs.PortfolioLaws.{items_distinct}
use Rattle.kt_stream.specs.declared.entry.LossRecord.{LossRecord}
use Rattle.kt_gul.specs.GroundUp.{item_record}
use Rattle.kt_gul.specs.StruckItems.{item_of}
use Rattle.kt_gul.proofs.FinalLemmas.{direct_records, records_are}
use Rattle.kt_gul.proofs.PairLemmas.{one_by_one}
use Rattle.kt_gul.proofs.event.lanes_by_id.Goals as goal

pub returns-then-is_by_id-clause-value : goal.returns-then-is_by_id-clause-value
returns-then-is_by_id-clause-value c =
    let rows = c.args.portfolio.now.rows in
    let draw = c.args.draw in
    let made = filter_map (item_record rows draw.samples draw.cut draw.event c.args.cdfs.now) (map item_of c.args.struck.now) in
    c.in_ok-put_groups.ensures.ok ∙ (ap (λ (first : List LossRecord). first ++ flat_map (λ entry. entry ∷ []) made) c.in_ok-lanes.ensures.none ∙ (one_by_one made
    ∙ direct_records rows draw.samples draw.cut draw.event c.args.cdfs.now c.args.struck.now c.requires.order (items_distinct c.args.portfolio.now c.is_valid.ensures.valid) (c.if-is_by_id.ensures.rising refl)))

pub returns-clause-value : goal.returns-clause-value
returns-clause-value c =
    let rows = c.args.portfolio.now.rows in
    let draw = c.args.draw in
    let made = filter_map (item_record rows draw.samples draw.cut draw.event c.args.cdfs.now) (map item_of c.args.struck.now) in
    records_are rows draw.samples draw.cut draw.event c.args.cdfs.now c.args.struck.now c.put_groups.new.exit.records c.in_ok-sorted.sorted.records c.requires.order (items_distinct c.args.portfolio.now c.is_valid.ensures.valid)
    (c.in_ok-put_groups.ensures.ok ∙ (ap (λ (first : List LossRecord). first ++ flat_map (λ entry. entry ∷ []) made) c.in_ok-lanes.ensures.none ∙ one_by_one made)) c.in_ok-sorted.ensures.permutation c.in_ok-sorted.ensures.rising
