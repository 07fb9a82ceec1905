-- What stands at the place of an output in a row of shares is its loss.
use Rattle.std.proofs.Common.{◌≡◌, ℕ, ◌&&◌, ◌||◌, Bool, true, false, cond, nat_eq, List, [], ◌∷◌, ◌++◌, Option, Some, None, length, map, refl, sym, ap, ◌∙◌, arith, unwrap_or, eqb-true}
use Rattle.std.specs.Cmp.{nat_eq_equiv}
use Rattle.std.specs.List.{flat_map, list_any, zip}
use Rattle.std.specs.Map.{lookup}
use Rattle.std.specs.Option.{option_or}
use Rattle.std.proofs.lemmas.Grind.{flat_map-append}
use Rattle.std.proofs.lemmas.List.{length-append, length-map}
use Rattle.kt_keys.specs.Keys.{same_pair}
use Rattle.kt_keys.specs.Climbing.{climbed}
use Rattle.kt_fmtree.specs.Sharing.{allocated}
use Rattle.kt_fmtree.specs.Tree.{Tree, beneath, comes_to, is_unit, policy_loss}
use Rattle.kt_levels.specs.LookupLaws.{filter-absent, lookup-none, zip-append}
use Rattle.kt_levels.specs.Row.{row_for}
use Rattle.kt_levels.specs.Shares.{layers_of, shares}
use Rattle.kt_levels.specs.SharesLaws.{length-allocated}
use Rattle.kt_alloc.specs.Insured.{of_layer, output_loss, part_above}
use Rattle.kt_alloc.specs.Layout.{keys, keys_for, owners}
use Rattle.kt_alloc.proofs.ListLemmas.{lookup-append}

-- as many shares as owners
pub length-shares : (tree : Tree) (losses : ℕ → ℕ) (rule top layer : ℕ) → length (owners tree rule top) ≡ length (shares tree losses rule top layer)
length-shares tree losses rule top layer = by (nat_eq rule 0)
  where
    by : (b : Bool) → length (cond b (top ∷ []) (beneath tree top)) ≡ length (cond b (policy_loss tree losses top layer ∷ []) (allocated tree losses rule top layer))
    by true = refl
    by false = sym (length-allocated tree losses rule top layer)

-- an owner with a layer
abbrev with_layer : ℕ → ℕ → ℕ × ℕ
with_layer layer owner = (owner, layer)

module _ (tree : Tree) (losses : ℕ → ℕ) (rule : ℕ) where
  -- the owners of the shares of a layer, with it
  abbrev owned : ℕ × ℕ → List (ℕ × ℕ)
  owned key = map (λ owner. (owner, key.1)) (owners tree rule key.0)

  -- its shares with their owners
  abbrev block : ℕ × ℕ → List ((ℕ × ℕ) × ℕ)
  block key = zip (owned key) (shares tree losses rule key.0 key.1)

  -- a row has as many shares as keys
  pub length-row : (layers : List (ℕ × ℕ)) → length (row_for tree losses rule layers).shares ≡ length (keys_for tree rule layers)
  length-row [] = refl
  length-row (key ∷ layers) =
      length-append (shares tree losses rule key.0 key.1) (row_for tree losses rule layers).shares
      ∙ (omega (arith, length-shares tree losses rule key.0 key.1, length-map (owners tree rule key.0) (with_layer key.1), length-row layers)
      ∙ sym (length-append (owned key) (keys_for tree rule layers)))

  -- the keys with the shares of a row, layer by layer
  blocks : (layers : List (ℕ × ℕ)) → zip (keys_for tree rule layers) (row_for tree losses rule layers).shares ≡ flat_map block layers
  blocks [] = refl
  blocks (key ∷ layers) =
      zip-append (owned key) (keys_for tree rule layers) (shares tree losses rule key.0 key.1) (row_for tree losses rule layers).shares (length-map (owners tree rule key.0) (with_layer key.1) ∙ length-shares tree losses rule key.0 key.1)
      ∙ ap (λ rest. block key ++ rest) (blocks layers)

  module _ (agg layer : ℕ) where
    -- what is found in lists of shares
    abbrev found : List ((ℕ × ℕ) × ℕ) → Option ℕ
    found all = lookup (same_pair (agg, layer)) all

    absent : (b : Bool) → None ≡ cond {A = Option ℕ} b None None
    absent true = refl
    absent false = refl

    -- what is found among the owners of one layer
    in-owners : (other : ℕ) (ids amounts : List ℕ) → found (zip (map (λ owner. (owner, other)) ids) amounts) ≡ cond (nat_eq layer other) (lookup (nat_eq agg) (zip ids amounts)) None
    in-owners other [] amounts = absent (nat_eq layer other)
    in-owners other (id ∷ ids) [] = absent (nat_eq layer other)
    in-owners other (id ∷ ids) (amount ∷ amounts) = by (nat_eq agg id) (nat_eq layer other) (in-owners other ids amounts)
      where
        by : (a b : Bool) → found (zip (map (λ owner. (owner, other)) ids) amounts) ≡ cond b (lookup (nat_eq agg) (zip ids amounts)) None → cond (a && b) (Some amount) (found (zip (map (λ owner. (owner, other)) ids) amounts)) ≡ cond b (cond a (Some amount) (lookup (nat_eq agg) (zip ids amounts))) None
        by true true rest = refl
        by true false rest = rest
        by false true rest = rest
        by false false rest = rest

    -- what an owner has of the layer of a top
    abbrev own : ℕ → Option ℕ
    own top = lookup (nat_eq agg) (zip (owners tree rule top) (shares tree losses rule top layer))

    -- what is found in one layer
    in-block : (top other : ℕ) → found (block (top, other)) ≡ cond (nat_eq layer other) (own top) None
    in-block top other = in-owners other (owners tree rule top) (shares tree losses rule top other) ∙ by (nat_eq layer other) refl
      where
        by : (b : Bool) → nat_eq layer other ≡ b → cond b (lookup (nat_eq agg) (zip (owners tree rule top) (shares tree losses rule top other))) None ≡ cond b (own top) None
        by true is = ap (λ l. lookup (nat_eq agg) (zip (owners tree rule top) (shares tree losses rule top l))) (sym (eqb-true layer other is))
        by false is = refl

    -- twice the same, or nothing behind it
    or-same : (b : Bool) (x : Option ℕ) → option_or x (cond b x None) ≡ x
    or-same true None = refl
    or-same false None = refl
    or-same b (Some n) = refl

    -- what is found in layers of one top
    in-layers : (top : ℕ) (layers : List ℕ) → found (flat_map block (map (λ other. (top, other)) layers)) ≡ cond (list_any (nat_eq layer) layers) (own top) None
    in-layers top [] = refl
    in-layers top (other ∷ layers) =
        lookup-append (same_pair (agg, layer)) (block (top, other)) (flat_map block (map (λ other. (top, other)) layers))
        ∙ (ap (λ x. option_or x (found (flat_map block (map (λ other. (top, other)) layers)))) (in-block top other)
        ∙ (ap (option_or (cond (nat_eq layer other) (own top) None)) (in-layers top layers)
        ∙ by (nat_eq layer other)))
      where
        by : (b : Bool) → option_or (cond b (own top) None) (cond (list_any (nat_eq layer) layers) (own top) None) ≡ cond (b || list_any (nat_eq layer) layers) (own top) None
        by true = or-same (list_any (nat_eq layer) layers) (own top)
        by false = refl

    module _ (unit : ℕ) (apart : (top : ℕ) → nat_eq unit top ≡ false → own top ≡ None) where
      -- what is found in the layers of tops
      in-tops : (tops : List ℕ) → found (flat_map block (flat_map (λ top. map (λ other. (top, other)) (tree.layers top)) tops)) ≡ cond (list_any (nat_eq unit) tops && list_any (nat_eq layer) (tree.layers unit)) (own unit) None
      in-tops [] = refl
      in-tops (top ∷ tops) =
          ap found (flat_map-append block (map (λ other. (top, other)) (tree.layers top)) (flat_map (λ top. map (λ other. (top, other)) (tree.layers top)) tops))
          ∙ (lookup-append (same_pair (agg, layer)) (flat_map block (map (λ other. (top, other)) (tree.layers top))) (flat_map block (flat_map (λ top. map (λ other. (top, other)) (tree.layers top)) tops))
          ∙ (ap (λ x. option_or x (found (flat_map block (flat_map (λ top. map (λ other. (top, other)) (tree.layers top)) tops)))) (in-layers top (tree.layers top))
          ∙ (ap (option_or (cond (list_any (nat_eq layer) (tree.layers top)) (own top) None)) (in-tops tops)
          ∙ by (nat_eq unit top) refl)))
        where
          twice : (a b : Bool) (x : Option ℕ) → option_or (cond b x None) (cond (a && b) x None) ≡ cond b x None
          twice true true None = refl
          twice true true (Some n) = refl
          twice true false x = refl
          twice false true None = refl
          twice false true (Some n) = refl
          twice false false x = refl

          none : (b : Bool) (x y : Option ℕ) → x ≡ None → option_or (cond b x None) y ≡ y
          none true x y is = ap (λ x. option_or x y) is
          none false x y is = refl

          by : (c : Bool) → nat_eq unit top ≡ c → option_or (cond (list_any (nat_eq layer) (tree.layers top)) (own top) None) (cond (list_any (nat_eq unit) tops && list_any (nat_eq layer) (tree.layers unit)) (own unit) None) ≡ cond ((c || list_any (nat_eq unit) tops) && list_any (nat_eq layer) (tree.layers unit)) (own unit) None
          by true is =
              ap (λ top. option_or (cond (list_any (nat_eq layer) (tree.layers top)) (own top) None) (cond (list_any (nat_eq unit) tops && list_any (nat_eq layer) (tree.layers unit)) (own unit) None)) (sym (eqb-true unit top is))
              ∙ twice (list_any (nat_eq unit) tops) (list_any (nat_eq layer) (tree.layers unit)) (own unit)
          by false is = none (list_any (nat_eq layer) (tree.layers top)) (own top) _ (apart top is)

      -- and in a row
      pub in-row : unwrap_or (found (zip (keys tree rule) (row_for tree losses rule (layers_of tree)).shares)) 0 ≡ of_layer tree unit layer (unwrap_or (own unit) 0)
      in-row = ap (λ all. unwrap_or (found all) 0) (blocks (layers_of tree)) ∙ (ap (λ x. unwrap_or x 0) (in-tops tree.tops) ∙ by (list_any (nat_eq unit) tree.tops && list_any (nat_eq layer) (tree.layers unit)))
        where
          by : (b : Bool) → unwrap_or (cond b (own unit) None) 0 ≡ cond b (unwrap_or (own unit) 0) 0
          by true = refl
          by false = refl

    -- nothing is found where there is no top with it
    no-tops : ((top : ℕ) → own top ≡ None) → (tops : List ℕ) → found (flat_map block (flat_map (λ top. map (λ other. (top, other)) (tree.layers top)) tops)) ≡ None
    no-tops none [] = refl
    no-tops none (top ∷ tops) =
        ap found (flat_map-append block (map (λ other. (top, other)) (tree.layers top)) (flat_map (λ top. map (λ other. (top, other)) (tree.layers top)) tops))
        ∙ (lookup-append (same_pair (agg, layer)) (flat_map block (map (λ other. (top, other)) (tree.layers top))) (flat_map block (flat_map (λ top. map (λ other. (top, other)) (tree.layers top)) tops))
        ∙ (ap (λ x. option_or x (found (flat_map block (flat_map (λ top. map (λ other. (top, other)) (tree.layers top)) tops)))) (in-layers top (tree.layers top) ∙ by (list_any (nat_eq layer) (tree.layers top)))
        ∙ no-tops none tops))
      where
        by : (b : Bool) → cond b (own top) None ≡ None
        by true = none top
        by false = refl

-- what the key of an output has in a row is its loss
pub output-is : (tree : Tree) (losses : ℕ → ℕ) (rule agg layer : ℕ) → unwrap_or (lookup (same_pair (agg, layer)) (zip (keys tree rule) (row_for tree losses rule (layers_of tree)).shares)) 0 ≡ output_loss tree losses rule agg layer
output-is tree losses rule agg layer = by (nat_eq rule 0) refl
  where
    by : (b : Bool) → nat_eq rule 0 ≡ b → unwrap_or (lookup (same_pair (agg, layer)) (zip (keys tree rule) (row_for tree losses rule (layers_of tree)).shares)) 0 ≡ cond b (of_layer tree agg layer (policy_loss tree losses agg layer)) (part_above tree losses rule agg layer (climbed tree.next tree.top_level 1 agg))
    by true is = in-row tree losses rule agg layer agg apart ∙ ap (of_layer tree agg layer) whole
      where
        here : (top : ℕ) → lookup (nat_eq agg) (zip (owners tree rule top) (shares tree losses rule top layer)) ≡ cond (nat_eq agg top) (Some (policy_loss tree losses top layer)) None
        here top = ap (λ b. lookup (nat_eq agg) (zip (cond b (top ∷ []) (beneath tree top)) (cond b (policy_loss tree losses top layer ∷ []) (allocated tree losses rule top layer)))) is

        apart : (top : ℕ) → nat_eq agg top ≡ false → lookup (nat_eq agg) (zip (owners tree rule top) (shares tree losses rule top layer)) ≡ None
        apart top other = here top ∙ ap (λ b. cond b (Some (policy_loss tree losses top layer)) None) other

        whole : unwrap_or (lookup (nat_eq agg) (zip (owners tree rule agg) (shares tree losses rule agg layer))) 0 ≡ policy_loss tree losses agg layer
        whole = ap (λ x. unwrap_or x 0) (here agg ∙ ap (λ b. cond b (Some (policy_loss tree losses agg layer)) None) (nat_eq_equiv.refl agg))
    by false is = over (climbed tree.next tree.top_level 1 agg) refl
      where
        here : (top : ℕ) → lookup (nat_eq agg) (zip (owners tree rule top) (shares tree losses rule top layer)) ≡ lookup (nat_eq agg) (zip (beneath tree top) (allocated tree losses rule top layer))
        here top = ap (λ b. lookup (nat_eq agg) (zip (cond b (top ∷ []) (beneath tree top)) (cond b (policy_loss tree losses top layer ∷ []) (allocated tree losses rule top layer)))) is

        missing : (top : ℕ) → comes_to tree tree.top_level top agg ≡ false → lookup (nat_eq agg) (zip (owners tree rule top) (shares tree losses rule top layer)) ≡ None
        missing top fails = here top ∙ lookup-none agg (beneath tree top) (allocated tree losses rule top layer) (filter-absent (comes_to tree tree.top_level top) agg tree.ids fails)

        over : (up : Option ℕ) → climbed tree.next tree.top_level 1 agg ≡ up → unwrap_or (lookup (same_pair (agg, layer)) (zip (keys tree rule) (row_for tree losses rule (layers_of tree)).shares)) 0 ≡ part_above tree losses rule agg layer up
        over None up = ap (λ all. unwrap_or (lookup (same_pair (agg, layer)) all) 0) (blocks tree losses rule (layers_of tree)) ∙ ap (λ x. unwrap_or x 0) (no-tops tree losses rule agg layer (λ top. missing top (ap (is_unit top) up)) tree.tops)
        over (Some unit) up = in-row tree losses rule agg layer unit (λ top other. missing top (ap (is_unit top) up ∙ other)) ∙ ap (λ x. of_layer tree unit layer (unwrap_or x 0)) (here unit)
