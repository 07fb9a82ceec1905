use Rattle.std.proofs.Common.{List, Some, map, subst, sym}
use Rattle.std.specs.List.Sorted.{IsStrictlyIncreasing}
use Rattle.std.proofs.lemmas.List.Sorted.{IsPermutation-refl}
use Rattle.kt_rec.specs.Rows.{rows_of}
use Rattle.kt_rec.specs.declared.exposure.Item.{Item}
use Rattle.kt_tables.specs.Kept.{AreById}
use Rattle.kt_tables.specs.PortfolioLaws.{items_distinct}
use Rattle.kt_tables.proofs.ItemLemmas.{keys_rise-strictly}
use Rattle.kt_tables.proofs.portfolio.Portfolio.items.Goals as goal

pub returns-in-None-clause-rising : goal.returns-in-None-clause-rising
returns-in-None-clause-rising c =
    let kept = c.self.invariant in
    subst (λ (rows : List Item). IsStrictlyIncreasing (map (λ row. row.item_id) rows)) (sym c.deref.ensures.value)
    (keys_rise-strictly (λ row. row.item_id) _ _ (items_distinct _ kept.valid) (IsPermutation-refl _) (subst (AreById (rows_of c.self.inside.tables).items) c.in-None.is kept.lookups.items.by_id))

pub returns-in-Some-clause-rising : goal.returns-in-Some-clause-rising
returns-in-Some-clause-rising c =
    let kept = c.self.invariant in
    let sorted : AreById (rows_of c.self.inside.tables).items (Some c.in-Some.sorted) = subst (AreById (rows_of c.self.inside.tables).items) c.in-Some.is kept.lookups.items.by_id in
    subst (λ (rows : List Item). IsStrictlyIncreasing (map (λ row. row.item_id) rows)) (sym c.deref-in-Some.ensures.value)
    (keys_rise-strictly (λ row. row.item_id) _ _ (items_distinct _ kept.valid) sorted.0 sorted.1)
