-- What layers have at one sidx.
use Rattle.std.proofs.Common.{◌≡◌, ℕ, Bool, true, false, cond, nat_eq, List, [], ◌∷◌, ◌++◌, ◌<◌, length, map, replicate, slice_index, slice_index_or, refl, sym, ap, ◌∙◌, arith, append-nil}
use Rattle.std.specs.List.{AllByRecursion, flat_map, sum}
use Rattle.std.proofs.lemmas.Grind.{flat_map-append}
use Rattle.std.proofs.lemmas.List.{length-append, map-append}
use Rattle.std.proofs.lemmas.List.Elements.{All-from_recursion}
use Rattle.std.proofs.lemmas.List.Sums.{sum_by-cons}
use Rattle.kt_fmtree.specs.Sharing.{allocated}
use Rattle.kt_fmtree.specs.SharingLaws.{allocated-sum}
use Rattle.kt_fmtree.specs.Tree.{Tree, IsTree, beneath, policy_loss}
use Rattle.kt_fmtree.specs.Parts.{Parts, IsProgramme}
use Rattle.kt_levels.specs.Shares.{shares}
use Rattle.kt_levels.specs.SharesLaws.{length-allocated, shares-sum}
use Rattle.kt_levels.specs.Layers.{IsTopLayer, key_of}
use Rattle.kt_levels.specs.Row.{HasRow, Shared, row_for}
use Rattle.kt_levels.specs.declared.layers.TopLayer.{TopLayer}

-- the top of a layer
pub top-is : (tree : Tree) (parts : Parts) → IsProgramme tree parts → (one : TopLayer) → IsTopLayer parts one → slice_index tree.tops one.node ≡ one.top
top-is tree parts is one within = ap (λ tops. slice_index tops one.node) (sym is.tops_are) ∙ within.top_is

-- and each of some layers is one of its top
pub layer-at : (parts : Parts) (layers : List TopLayer) → AllByRecursion (IsTopLayer parts) layers → (place : ℕ) → place < length layers → IsTopLayer parts (slice_index_or layers place (record { node = 0; top = 0; layer = 0 }))
layer-at parts layers all place within = All-from_recursion (IsTopLayer parts) layers all place (record { node = 0; top = 0; layer = 0 }) within

-- by rule 0 the policy loss stays whole
pub shares-whole : (tree : Tree) (losses : ℕ → ℕ) (rule top layer : ℕ) → rule ≡ 0 → shares tree losses rule top layer ≡ policy_loss tree losses top layer ∷ []
shares-whole tree losses rule top layer is = ap (λ rule. shares tree losses rule top layer) is

-- by another it is allocated
pub shares-back : (tree : Tree) (losses : ℕ → ℕ) (rule top layer : ℕ) → nat_eq rule 0 ≡ false → shares tree losses rule top layer ≡ allocated tree losses rule top layer
shares-back tree losses rule top layer is = ap (λ b. cond b (policy_loss tree losses top layer ∷ []) (allocated tree losses rule top layer)) is

-- amounts that add to nothing are nothing
zeros-from_sum : (amounts : List ℕ) → sum amounts ≡ 0 → replicate (length amounts) 0 ≡ amounts
zeros-from_sum [] none = refl
zeros-from_sum (amount ∷ amounts) none =
    let all = sum_by-cons (λ (n : ℕ). n) amount amounts in
    let first : 0 ≡ amount = omega (arith, all, none) in
    λ i. first i ∷ zeros-from_sum amounts (omega (arith, all, none)) i

-- nothing is shared out of no policy loss
pub nothing-shared : (tree : Tree) → IsTree tree → (losses : ℕ → ℕ) (rule top layer : ℕ) → nat_eq rule 0 ≡ false → policy_loss tree losses top layer ≡ 0 → replicate (length (beneath tree top)) 0 ≡ shares tree losses rule top layer
nothing-shared tree is losses rule top layer other none =
    ap (λ n. replicate n 0) (sym (length-allocated tree losses rule top layer))
    ∙ (zeros-from_sum (allocated tree losses rule top layer) (allocated-sum tree is losses top layer rule ∙ none)
    ∙ sym (shares-back tree losses rule top layer other))

-- an only id beneath a top has the whole policy loss
pub only-share : (tree : Tree) → IsTree tree → (losses : ℕ → ℕ) (rule top layer : ℕ) → nat_eq rule 0 ≡ false → length (beneath tree top) ≡ 1 → (policy : ℕ) → policy ≡ policy_loss tree losses top layer → policy ∷ [] ≡ shares tree losses rule top layer
only-share tree is losses rule top layer other one policy policy_is =
    by (allocated tree losses rule top layer) (length-allocated tree losses rule top layer ∙ one) (allocated-sum tree is losses top layer rule ∙ sym policy_is)
    ∙ sym (shares-back tree losses rule top layer other)
  where
    by : (amounts : List ℕ) → length amounts ≡ 1 → sum amounts ≡ policy → policy ∷ [] ≡ amounts
    by [] long adds = absurd (omega arith)
    by (amount ∷ []) long adds = let same : policy ≡ amount = omega (arith, sum_by-cons (λ (n : ℕ). n) amount []) in ap (λ n. n ∷ []) same
    by (amount ∷ other ∷ amounts) long adds = absurd (omega arith)

-- a row of no layer
pub row-none : (tree : Tree) (losses : ℕ → ℕ) (rule : ℕ) (all policies : List ℕ) → all ≡ [] → policies ≡ [] → HasRow tree losses rule [] all policies
row-none tree losses rule all policies no_shares no_policies = record { shares_are = no_shares; policies_are = no_policies }

-- and of one more layer
pub row-more : (tree : Tree) (losses : ℕ → ℕ) (rule : ℕ) (layers : List TopLayer) (one : TopLayer) (all policies made all_now policies_now : List ℕ) (policy : ℕ) → HasRow tree losses rule layers all policies → made ≡ shares tree losses rule one.top one.layer → policy ≡ policy_loss tree losses one.top one.layer → all_now ≡ all ++ made → policies_now ≡ policies ++ policy ∷ []
    → HasRow tree losses rule (layers ++ one ∷ []) all_now policies_now
row-more tree losses rule layers one all policies made all_now policies_now policy so_far made_is policy_is all_is policies_is = record {
  shares_are =
      all_is
      ∙ (ap (λ front. front ++ made) so_far.shares_are
      ∙ (ap (λ back. (row_for tree losses rule (map key_of layers)).shares ++ back) (made_is ∙ sym (append-nil (shares tree losses rule one.top one.layer)))
      ∙ sym (ap (flat_map (λ key. shares tree losses rule key.0 key.1)) keys ∙ flat_map-append (λ (key : ℕ × ℕ). shares tree losses rule key.0 key.1) (map key_of layers) (key_of one ∷ []))));
  policies_are =
      policies_is
      ∙ (ap (λ front. front ++ policy ∷ []) so_far.policies_are
      ∙ (ap (λ n. (row_for tree losses rule (map key_of layers)).policies ++ n ∷ []) policy_is
      ∙ sym (ap (map (λ key. policy_loss tree losses key.0 key.1)) keys ∙ map-append (λ (key : ℕ × ℕ). policy_loss tree losses key.0 key.1) (map key_of layers) (key_of one ∷ []))));
}
  where
    keys : map key_of (layers ++ one ∷ []) ≡ map key_of layers ++ key_of one ∷ []
    keys = map-append key_of layers (one ∷ [])

-- a row of three lists
abbrev pub shared : List ℕ → List ℕ → List ℕ → Shared
shared all policies totals = record { shares = all; policies = policies; totals = totals }

-- what the shares of layers add to are their policy losses
totals-are : (tree : Tree) → IsTree tree → (losses : ℕ → ℕ) (rule : ℕ) (keys : List (ℕ × ℕ)) → (row_for tree losses rule keys).policies ≡ (row_for tree losses rule keys).totals
totals-are tree is losses rule [] = refl
totals-are tree is losses rule (key ∷ keys) =
    let here = sym (shares-sum tree is losses rule key.0 key.1) in
    λ i. here i ∷ totals-are tree is losses rule keys i

-- the lists of a row make it
pub whole-row : (tree : Tree) → IsTree tree → (losses : ℕ → ℕ) (rule : ℕ) (layers : List TopLayer) (all policies : List ℕ) → HasRow tree losses rule layers all policies → shared all policies policies ≡ row_for tree losses rule (map key_of layers)
whole-row tree is losses rule layers all policies row =
    let totals = row.policies_are ∙ totals-are tree is losses rule (map key_of layers) in
    λ i. shared (row.shares_are i) (row.policies_are i) (totals i)

-- by other losses it is as long
pub shares-long : (tree : Tree) (one other : ℕ → ℕ) (rule : ℕ) (keys : List (ℕ × ℕ)) → length (row_for tree one rule keys).shares ≡ length (row_for tree other rule keys).shares
shares-long tree one other rule [] = refl
shares-long tree one other rule (key ∷ keys) =
    length-append (shares tree one rule key.0 key.1) (row_for tree one rule keys).shares
    ∙ (omega (arith, by (nat_eq rule 0), shares-long tree one other rule keys)
    ∙ sym (length-append (shares tree other rule key.0 key.1) (row_for tree other rule keys).shares))
  where
    by : (b : Bool) → length (cond b (policy_loss tree one key.0 key.1 ∷ []) (allocated tree one rule key.0 key.1)) ≡ length (cond b (policy_loss tree other key.0 key.1 ∷ []) (allocated tree other rule key.0 key.1))
    by true = refl
    by false = length-allocated tree one rule key.0 key.1 ∙ sym (length-allocated tree other rule key.0 key.1)
