-- Records that are added, list by list, and the first of them that is refused.
-- The rule: docs/CALCULATION.md, "Periods".
use Rattle.std.proofs.Common.{◌≡◌, List, [], ◌∷◌, ◌++◌, Option, Some, None, refl, sym, ap, ◌∙◌, append_assoc, append-nil}
use Rattle.std.specs.Option.{option_or}
use Rattle.std.proofs.lemmas.Grind.{flat_map-append}
use Rattle.kt_cell.specs.Losses.{Added}
use Rattle.kt_ends.specs.declared.status.Refusal.{Refusal}
use Rattle.kt_block.specs.declared.block.EventBlock.{EventBlock}
use Rattle.kt_periods.specs.Adding.{first_refusal, record_refusal}
use Rattle.kt_rec.specs.Rows.{Rows}
use Rattle.kt_fold.specs.Added.{block_added, blocks_added}
use Rattle.kt_fold.specs.Folds.{blocks_of}
use Rattle.kt_fold.specs.declared.part.PartBlock.{PartBlock}

-- the first of two lists that is refused
pub first_of_both : (before first second : List Added) → first_refusal before (first ++ second) ≡ option_or (first_refusal before first) (first_refusal (before ++ first) second)
first_of_both before [] second = ap (λ (history : List Added). first_refusal history second) (sym (append-nil before))
first_of_both before (one ∷ first) second = by (record_refusal before one) (first_of_both (before ++ one ∷ []) first second)
  where
    by : (why : Option Refusal) → first_refusal (before ++ one ∷ []) (first ++ second) ≡ option_or (first_refusal (before ++ one ∷ []) first) (first_refusal ((before ++ one ∷ []) ++ first) second)
        → option_or why (first_refusal (before ++ one ∷ []) (first ++ second)) ≡ option_or (option_or why (first_refusal (before ++ one ∷ []) first)) (first_refusal (before ++ one ∷ first) second)
    by None further = further ∙ ap (λ (history : List Added). option_or (first_refusal (before ++ one ∷ []) first) (first_refusal history second)) (append_assoc before (one ∷ []) first)
    by (Some why) further = refl

-- where neither is refused
pub none_of_both : (before first second : List Added) → first_refusal before first ≡ None → first_refusal (before ++ first) second ≡ None → first_refusal before (first ++ second) ≡ None
none_of_both before first second one other = first_of_both before first second ∙ ap (λ (why : Option Refusal). option_or why (first_refusal (before ++ first) second)) one ∙ other

-- where the first is not refused, the second is why
pub some_of_second : (before first second : List Added) (why : Refusal) → first_refusal before first ≡ None → first_refusal (before ++ first) second ≡ Some why → first_refusal before (first ++ second) ≡ Some why
some_of_second before first second why one other = first_of_both before first second ∙ ap (λ (answer : Option Refusal). option_or answer (first_refusal (before ++ first) second)) one ∙ other

pub some_of_first : (before first second : List Added) (why : Refusal) → first_refusal before first ≡ Some why → first_refusal before (first ++ second) ≡ Some why
some_of_first before first second why one = first_of_both before first second ∙ ap (λ (answer : Option Refusal). option_or answer (first_refusal (before ++ first) second)) one

-- where none of both is refused, none of the first is, and none of the second
pub none_of_first : (before first second : List Added) → first_refusal before (first ++ second) ≡ None → (first_refusal before first ≡ None) × (first_refusal (before ++ first) second ≡ None)
none_of_first before first second none = by (first_refusal before first) refl (sym (first_of_both before first second) ∙ none)
  where
    by : (why : Option Refusal) → first_refusal before first ≡ why → option_or why (first_refusal (before ++ first) second) ≡ None → (first_refusal before first ≡ None) × (first_refusal (before ++ first) second ≡ None)
    by None is both = (is, both)
    by (Some why) is both = cc

-- the records of blocks, one part behind the other
pub blocks_of_both : (rows : Rows) (first second : List EventBlock) → blocks_added rows (first ++ second) ≡ blocks_added rows first ++ blocks_added rows second
blocks_of_both rows first second = flat_map-append (block_added rows) first second

-- the blocks of parts and one more
pub blocks_more : (parts : List PartBlock) (part : PartBlock) → blocks_of (parts ++ part ∷ []) ≡ blocks_of parts ++ part.blocks
blocks_more parts part = flat_map-append (λ (one : PartBlock). one.blocks) parts (part ∷ []) ∙ ap (λ (more : List EventBlock). blocks_of parts ++ more) (append-nil part.blocks)
