-- The sums of several sets, one after the other.
use Rattle.std.proofs.Common.{◌≡◌, ◌+◌, ◌<◌, ◌∙◌, ℕ, List, [], ◌∷◌, ◌++◌, length, map, take, drop, get_or, slice_index_or, slice_set, drop-set-lt, ap, sym, subst, arith}
use Rattle.std.specs.Prelude.{All}
use Rattle.std.proofs.lemmas.List.{drop_more, map-append, take_more, take_more_set}
use Rattle.std.proofs.lemmas.List.Elements.{All-head, All-push, All-tail}

-- where one of a list is changed behind those that were, they hold one fact, and those behind it still another
pub one_changed : {X : Type 0} (before after : X → Type 0) (xs : List X) (at : ℕ) (d now : X) → at < length xs → All after (take at xs) → All before (drop at xs) → (before (slice_index_or xs at d) → after now) → All after (take (at + 1) (slice_set xs at now)) × All before (drop (at + 1) (slice_set xs at now))
one_changed before after xs at d now below done left changes = (
  subst (All after) (sym (take_more_set xs at now below)) (All-push after (take at xs) now done (changes (All-head before (slice_index_or xs at d) (drop (at + 1) xs) from))),
  subst (All before) (sym (drop-set-lt (at + 1) xs at now (omega arith))) (All-tail before (slice_index_or xs at d) (drop (at + 1) xs) from),
)
  where
    from : All before (slice_index_or xs at d ∷ drop (at + 1) xs)
    from = subst (All before) (drop_more xs at d below) left

-- what is made of a field of each of the first elements, and of that of one element more
pub mapped_more : {X Y Z : Type 0} (field : X → Y) (make : Y → Z) (xs : List X) (at : ℕ) (x : X) (made : List Z) (one : Z) (new : List Z) → at < length xs → x ≡ get_or xs at x → one ≡ make (field x) → made ≡ map make (map field (take at xs)) →
    new ≡ made ++ one ∷ [] → new ≡ map make (map field (take (at + 1) xs))
mapped_more {X} {Y} {Z} field make xs at x made one new below is one_is made_is more =
    more
    ∙ ap (λ (made : List Z). made ++ one ∷ []) made_is
    ∙ ap (λ (one : Z). map make (map field (take at xs)) ++ one ∷ []) one_is
    ∙ sym (map-append make (map field (take at xs)) (field x ∷ []))
    ∙ ap (λ (ys : List Y). map make ys) (sym (map-append field (take at xs) (x ∷ [])))
    ∙ ap (λ (one : X). map make (map field (take at xs ++ one ∷ []))) is
    ∙ ap (λ (xs : List X). map make (map field xs)) (sym (take_more xs at x below))
