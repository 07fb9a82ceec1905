use Rattle.std.proofs.Common.{◌∷◌, ◌++◌, ◌∙◌, ℕ, List, [], ap, slice_index_or, sym}
use Rattle.std.proofs.lemmas.List.Elements.{All-from_recursion}
use Rattle.kt_levels.specs.Layers.{IsTopLayer, key_of}
use Rattle.kt_levels.specs.declared.layers.TopLayer.{TopLayer}
use Rattle.kt_alloc.specs.Layout.{keys_for}
use Rattle.kt_alloc.proofs.KeyLemmas.{keys-more}
use Rattle.kt_alloc.proofs.layout.keys_of.Goals as goal

pub push_keys-requires : goal.push_keys-requires
push_keys-requires c = record { layer = All-from_recursion (IsTopLayer c.args.programme.now) c.args.layers.now c.requires.layers c.loop-one.one-index _ c.loop-one-test.true }

pub loop-one-preserved : goal.loop-one-preserved
loop-one-preserved c = λ tree is.
    let none : TopLayer = record { node = 0; top = 0; layer = 0 } in
    let layers = c.args.layers.now in
    let i = c.loop-one.one-index in
    c.in_ok-push_keys.ensures.ok tree is
    ∙ (ap (λ (keys : List (ℕ × ℕ)). keys ++ keys_for tree c.args.rule (key_of (slice_index_or layers i none) ∷ [])) (c.loop-one.invariant tree is)
    ∙ sym (keys-more tree c.args.rule layers i none c.loop-one-test.true))
