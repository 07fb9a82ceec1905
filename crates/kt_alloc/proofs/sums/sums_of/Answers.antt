use Rattle.std.proofs.Common.{◌≡◌, ◌∙◌, ◌+◌, ◌++◌, List, [], Option, Some, None, append-nil, append_assoc, ap, drop, refl, slice_index_or, sym}
use Rattle.std.specs.List.{cons_option}
use Rattle.std.proofs.lemmas.List.{drop_all, drop_more}
use Rattle.kt_levels.specs.declared.layers.TopLayer.{TopLayer}
use Rattle.kt_block.specs.declared.layer_sum.LayerSum.{LayerSum}
use Rattle.kt_alloc.specs.Table.{sum_in, sums_in}
use Rattle.kt_alloc.proofs.sums.sums_of.Goals as goal

-- what may be there stands in front of others
option_in_front : {X : Type 0} (one : Option X) (rest : List X) → cons_option one [] ++ rest ≡ cons_option one rest
option_in_front None rest = refl
option_in_front (Some one) rest = refl

pub push_sum-requires : goal.push_sum-requires
push_sum-requires c = record { place = c.requires.places c.loop-place.place c.loop-place-test.true }

pub loop-place-preserved : goal.loop-place-preserved
loop-place-preserved c =
    let event = c.args.event in
    let table = c.args.table.now in
    let layers = c.args.layers.now in
    let place = c.loop-place.place in
    let made = c.loop-place.made.items in
    let none : TopLayer = record { node = 0; top = 0; layer = 0 } in
    let one = sum_in event table (slice_index_or layers place none) place in
    let rest = sums_in event table (place + 1) (drop (place + 1) layers) in
    ap (λ (made : List LayerSum). made ++ rest) c.in_ok-push_sum.ensures.ok
    ∙ (append_assoc made (cons_option one []) rest
    ∙ (ap (λ (more : List LayerSum). made ++ more) (option_in_front one rest ∙ sym (ap (sums_in event table place) (drop_more layers place none c.loop-place-test.true)))
    ∙ c.loop-place.invariant))

pub returns : goal.returns
returns c =
    let made = c.loop-place.made.items in
    let place = c.loop-place.place in
    record {
      value = c.from_vec.ensures.value
          ∙ (sym (ap (λ (layers : List TopLayer). made ++ sums_in c.args.event c.args.table.now place layers) (drop_all place c.args.layers.now c.loop-place-test.false) ∙ append-nil made)
          ∙ c.loop-place.invariant);
    }
