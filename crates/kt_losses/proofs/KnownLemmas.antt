-- Ids that are found as rows by their id.
use Rattle.std.proofs.Common.{◌≡◌, ℕ, Bool, true, false, List, [], ◌∷◌, map, refl, sym, ap, ◌∙◌, cond, not, arith}
use Rattle.std.specs.Prelude.{nat_eq, length, ◌||◌, ◌==◌}
use Rattle.std.specs.List.{filter, list_any}
use Rattle.std.specs.List.Sorted.{IsPermutation}
use Rattle.std.proofs.lemmas.Bool.Decides.{nat_tests}
use Rattle.std.proofs.lemmas.List.Sorted.{list_any-IsPermutation}
use Rattle.kt_losses.specs.declared.known.KnownId.{KnownId}
use Rattle.kt_losses.specs.Judged.{is_known}
use Rattle.kt_losses.specs.Known.{has_id, known_rows}
use Rattle.kt_rec.specs.Rows.{Rows}
use Rattle.kt_rec.specs.declared.financial.FmXref.{FmXref}
use Rattle.kt_rec.specs.declared.exposure.Item.{Item}

-- two ids are the same in either order
flipped : (m n : ℕ) → nat_eq m n ≡ nat_eq n m
flipped m n = grind (arith, nat_tests)

-- an id is found among rows where it is among their ids
any_of : {A : Type 0} (id_of : A → ℕ) (rows : List A) (id : ℕ) → has_id (map (λ row. record { id = id_of row }) rows) id ≡ list_any (nat_eq id) (map id_of rows)
any_of id_of [] id = refl
any_of id_of (row ∷ rows) id = ap (λ later. nat_eq id (id_of row) || later) (any_of id_of rows id)

-- so are the ids of records
pub known_is : (items : Bool) (rows : Rows) (ids : List KnownId) → IsPermutation (known_rows items rows) ids → (id : ℕ) → has_id ids id ≡ is_known items rows id
known_is true rows ids same id = sym (list_any-IsPermutation (λ (known : KnownId). nat_eq id known.id) (known_rows true rows) ids same) ∙ any_of (λ (row : Item). row.item_id) rows.items id
known_is false rows ids same id = sym (list_any-IsPermutation (λ (known : KnownId). nat_eq id known.id) (known_rows false rows) ids same) ∙ any_of (λ (row : FmXref). row.output_id) rows.fm_xref id

-- an id is there where some row has it
pub found_is : (ids : List KnownId) (id : ℕ) → not (length (filter (λ known. nat_eq known.id id) ids) == 0) ≡ has_id ids id
found_is [] id = refl
found_is (first ∷ ids) id = rw (flipped id first.id) (by (nat_eq first.id id) (found_is ids id))
  where
    by : (b : Bool) → not (length (filter (λ known. nat_eq known.id id) ids) == 0) ≡ has_id ids id → not (length (cond b (first ∷ filter (λ known. nat_eq known.id id) ids) (filter (λ known. nat_eq known.id id) ids)) == 0) ≡ (b || has_id ids id)
    by true is = grind (arith, nat_tests)
    by false is = is
