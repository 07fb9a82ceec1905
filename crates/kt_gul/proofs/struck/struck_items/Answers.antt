use Rattle.std.proofs.Common.{List, sym, subst, ap, ◌∙◌, ◌++◌, map}
use Rattle.kt_stream.specs.declared.entry.Bin.{Bin}
use Rattle.kt_rec.specs.declared.exposure.Item.{Item}
use Rattle.kt_gul.specs.declared.struck.StruckItem.{StruckItem}
use Rattle.kt_damage.specs.DamageMoments.{AreMoments}
use Rattle.kt_gul.specs.StruckItems.{AreStruck}
use Rattle.kt_gul.proofs.StruckLemmas.{struck_none, struck_more}
use Rattle.kt_gul.proofs.struck.struck_items.Goals as goal

pub loop-place-init : goal.loop-place-init
loop-place-init c = subst (λ (struck : List StruckItem). AreStruck c.args.portfolio.now.rows c.args.cdfs.now 0 struck) (sym c.in_ok-struck.ensures.items) (struck_none c.args.portfolio.now.rows c.args.cdfs.now)

pub loop-place-preserved : goal.loop-place-preserved
loop-place-preserved c =
    let moments = c.damage_moments-moments in
    let bins_moments : AreMoments c.bins.result.now moments.result = moments.ensures.value in
    struck_more c.args.portfolio.now.rows c.args.cdfs.now c.loop-place.place c.index-cdfs-place.result c.is_valid.ensures.valid.in_range c.requires c.loop-place-test.true c.index-cdfs-place.is moments.result _ _
    (subst (λ (bins : List Bin). AreMoments bins moments.result) c.bins.ensures.value bins_moments)
    c.loop-place.invariant
    (c.in_ok-push_items.ensures.ok ∙ ap (λ (items : List Item). c.loop-place.struck.items ++ map (λ item. record { item = item; cdf = c.loop-place.place; moments = moments.result }) items) (rw (c.areaperil.ensures.value, c.vulnerability.ensures.value) at c.items_of-items.ensures.value))
