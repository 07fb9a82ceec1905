-- Laws of amounts of ids, in order of id.
-- The rule: docs/FINANCIAL_MODULE.md, "Allocation".
use Rattle.std.proofs.Common.{◌≡◌, ℕ, ◌+◌, ◌<◌, ◌≤◌, ◌^◌, Bool, true, false, cond, nat_eq, List, [], ◌∷◌, ◌++◌, length, map, take, get_or, refl, sym, ap, ◌∙◌, arith}
use Rattle.std.specs.Prelude.{replicate}
use Rattle.std.specs.List.{sum_by}
use Rattle.std.proofs.lemmas.List.{map-append, take_more, get_or-map}
use Rattle.std.proofs.lemmas.List.Sums.{sum_by-cons, sum_by-append, sum_by-take-le}
use Rattle.kt_rec.specs.Sums.{sum_by-below, sum_by-map}
use Rattle.kt_fmtree.specs.Sharing.{Part, part_of}
use Rattle.kt_fmtree.specs.Placed.{unit_parts}
use Rattle.kt_rec.specs.ById.{with_more}
use Rattle.kt_fmtree.specs.declared.part.PlacedPart.{PlacedPart}

-- ---- parts, one after the other

-- the amounts of parts with one more
pub more-parts : (parts : List Part) (id amount : ℕ) (ids : List ℕ) → with_more ids (map (part_of parts) ids) id amount ≡ map (part_of (parts ++ record { unit = id; amount = amount } ∷ [])) ids
more-parts parts id amount [] = refl
more-parts parts id amount (first ∷ ids) =
    let part : Part = record { unit = id; amount = amount } in
    let e : part_of parts first + cond (nat_eq id first) amount 0 ≡ part_of (parts ++ part ∷ []) first = omega (arith, sum_by-append (λ x. cond (nat_eq x.unit first) x.amount 0) parts (part ∷ []), sum_by-cons (λ x. cond (nat_eq x.unit first) x.amount 0) part []) in
    ap (λ n. n ∷ with_more ids (map (part_of parts) ids) id amount) e ∙ ap (λ ns. part_of (parts ++ part ∷ []) first ∷ ns) (more-parts parts id amount ids)

pub no-parts : (ids : List ℕ) → replicate (length ids) 0 ≡ map (part_of []) ids
no-parts [] = refl
no-parts (id ∷ ids) = ap (λ ns. 0 ∷ ns) (no-parts ids)

-- what an id has is not above all
part_of-le : (parts : List Part) (id : ℕ) → part_of parts id ≤ sum_by (λ part. part.amount) parts
part_of-le parts id = sum_by-below (λ part. cond (nat_eq part.unit id) part.amount 0) (λ part. part.amount) parts (λ part. few (nat_eq part.unit id) part.amount)
  where
    few : (b : Bool) (amount : ℕ) → cond b amount 0 ≤ amount
    few true amount = omega arith
    few false amount = omega arith

-- the next part fits
pub part-fits : (units ids amounts : List ℕ) (parts : List PlacedPart) (at : ℕ) (d : PlacedPart) → at < length parts → sum_by (λ part. part.amount) parts ≤ 10 ^ 17 → amounts ≡ map (part_of (unit_parts units (take at parts))) ids → (place : ℕ) → place < length ids → get_or amounts place 0 + (get_or parts at d).amount ≤ 10 ^ 17
part-fits units ids amounts parts at d below few amounts_are place inside =
    let now = take at parts in
    let next = get_or parts at d in
    let here : get_or amounts place 0 ≡ part_of (unit_parts units now) (get_or ids place 0) = ap (λ ns. get_or ns place 0) amounts_are ∙ get_or-map (part_of (unit_parts units now)) ids place 0 0 inside in
    let some = part_of-le (unit_parts units now) (get_or ids place 0) in
    let same : sum_by (λ part. part.amount) (unit_parts units now) ≡ sum_by (λ part. part.amount) now = sum_by-map _ _ now in
    omega (arith, here, some, same, ap (sum_by (λ (part : PlacedPart). part.amount)) (take_more parts at d below), sum_by-append (λ (part : PlacedPart). part.amount) now (next ∷ []), sum_by-cons (λ (part : PlacedPart). part.amount) next [], sum_by-take-le (λ (part : PlacedPart). part.amount) parts (at + 1), few)

pub next-part : (units ids amounts more : List ℕ) (parts : List PlacedPart) (at id : ℕ) (d : PlacedPart) → at < length parts → amounts ≡ map (part_of (unit_parts units (take at parts))) ids → id ≡ get_or units (get_or parts at d).place 0 → more ≡ with_more ids amounts id (get_or parts at d).amount → more ≡ map (part_of (unit_parts units (take (at + 1) parts))) ids
next-part units ids amounts more parts at id d below so_far id_is more_is =
    let now = take at parts in
    let next = get_or parts at d in
    more_is
    ∙ (ap (λ ns. with_more ids ns id next.amount) so_far
    ∙ (ap (λ n. with_more ids (map (part_of (unit_parts units now)) ids) n next.amount) id_is
    ∙ (more-parts (unit_parts units now) (get_or units next.place 0) next.amount ids
    ∙ (ap (λ ps. map (part_of ps) ids) (sym (map-append (λ (part : PlacedPart). record { unit = get_or units part.place 0; amount = part.amount }) now (next ∷ [])))
    ∙ ap (λ ps. map (part_of (unit_parts units ps)) ids) (sym (take_more parts at d below))))))
