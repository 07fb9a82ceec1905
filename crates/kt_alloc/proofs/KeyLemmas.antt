-- The units and layers that have shares, and their places.
use Rattle.std.proofs.Common.{◌≡◌, ℕ, zero, suc, ◌+◌, ◌-◌, ◌<◌, ◌≤◌, false, cond, nat_eq, List, [], ◌∷◌, ◌++◌, length, map, take, drop, slice_index, slice_index_or, refl, sym, ap, ◌∙◌, arith, drop-cons, add-one, append_assoc, append-nil}
use Rattle.std.specs.List.{flat_map, range_with_len, zip}
use Rattle.std.proofs.lemmas.Grind.{flat_map-append}
use Rattle.std.proofs.lemmas.List.{map-append, take_more}
use Rattle.kt_fmtree.specs.Tree.{Tree, beneath}
use Rattle.kt_fmtree.specs.Parts.{Parts, IsProgramme}
use Rattle.kt_fmtree.specs.PartsLaws.{beneath-are}
use Rattle.kt_levels.specs.Layers.{IsTopLayer, key_of}
use Rattle.kt_alloc.specs.Layout.{keys_for, owners}
use Rattle.kt_levels.specs.declared.layers.TopLayer.{TopLayer}

-- the keys of some layers and of one more
pub keys-more : (tree : Tree) (rule : ℕ) (layers : List TopLayer) (i : ℕ) (one : TopLayer) → i < length layers → keys_for tree rule (map key_of (take (i + 1) layers)) ≡ keys_for tree rule (map key_of (take i layers)) ++ keys_for tree rule (key_of (slice_index_or layers i one) ∷ [])
keys-more tree rule layers i one below =
    ap (λ ls. keys_for tree rule (map key_of ls)) (take_more layers i one below)
    ∙ (ap (keys_for tree rule) (map-append key_of (take i layers) (slice_index_or layers i one ∷ []))
    ∙ flat_map-append (λ (key : ℕ × ℕ). map (λ owner. (owner, key.1)) (owners tree rule key.0)) (map key_of (take i layers)) (key_of (slice_index_or layers i one) ∷ []))

-- by another rule it has those of the ids beneath
pub keys-shared : (tree : Tree) (parts : Parts) → IsProgramme tree parts → (rule : ℕ) (one : TopLayer) → nat_eq rule 0 ≡ false → IsTopLayer parts one → keys_for tree rule (key_of one ∷ []) ≡ map (λ owner. (owner, one.layer)) (slice_index_or parts.beneath one.node [])
keys-shared tree parts is rule one other within =
    append-nil (map (λ owner. (owner, one.layer)) (owners tree rule one.top))
    ∙ ap (map (λ owner. (owner, one.layer))) (ap (λ b. cond b (one.top ∷ []) (beneath tree one.top)) other ∙ sym here)
  where
    here : slice_index_or parts.beneath one.node [] ≡ beneath tree one.top
    here = beneath-are tree parts is one.node within.node ∙ ap (beneath tree) (ap (λ tops. slice_index tops one.node) (sym is.tops_are) ∙ within.top_is)

-- the keys behind a place with theirs
abbrev later_pairs : List (ℕ × ℕ) → ℕ → List ((ℕ × ℕ) × ℕ)
later_pairs keys place = zip (drop (place + 1) keys) (range_with_len (place + 1) (length keys - (place + 1)))

-- what is made of each key with its place
module _ {Y : Type 0} (f : (ℕ × ℕ) × ℕ → List Y) (keys : List (ℕ × ℕ)) where
  -- of all
  abbrev pub made_of : List Y
  made_of = flat_map f (zip keys (range_with_len 0 (length keys)))

  -- of those from a place on
  abbrev pub made_from : ℕ → List Y
  made_from place = flat_map f (zip (drop place keys) (range_with_len place (length keys - place)))

  -- of one key more
  pub placed-step : (made now : List Y) (place : ℕ) (d : ℕ × ℕ) → place < length keys → made ++ made_from place ≡ made_of → now ≡ made ++ f (slice_index_or keys place d, place) → now ++ made_from (place + 1) ≡ made_of
  placed-step made now place d below so_far now_is =
      ap (λ front. front ++ made_from (place + 1)) now_is
      ∙ (append_assoc made (f (slice_index_or keys place d, place)) (made_from (place + 1))
      ∙ (ap (λ more. made ++ flat_map f more) (sym next) ∙ so_far))
    where
      next : zip (drop place keys) (range_with_len place (length keys - place)) ≡ (slice_index_or keys place d, place) ∷ later_pairs keys place
      next =
          let first : drop place keys ≡ slice_index_or keys place d ∷ drop (place + 1) keys = rw (add-one, drop-cons keys place d) refl in
          let many : length keys - place ≡ suc (length keys - (place + 1)) = omega arith in
          ap (λ ks. zip ks (range_with_len place (length keys - place))) first
          ∙ ap (λ n. zip (slice_index_or keys place d ∷ drop (place + 1) keys) (range_with_len place n)) many

  -- of no key more
  pub placed-end : (made : List Y) (place : ℕ) → length keys ≤ place → made ++ made_from place ≡ made_of → made ≡ made_of
  placed-end made place past so_far = sym (append-nil made) ∙ (ap (λ rest. made ++ flat_map f (zip rest (range_with_len place (length keys - place)))) (sym (none keys place past)) ∙ so_far)
    where
      none : {X : Type 0} (xs : List X) (n : ℕ) → length xs ≤ n → drop n xs ≡ []
      none [] zero past = refl
      none [] (suc n) past = refl
      none (x ∷ xs) zero past = absurd (omega arith)
      none (x ∷ xs) (suc n) past = none xs n (omega arith)
