-- What is read of the first bytes alone: a number of some of them, and the header of the footprint's file.
use Rattle.std.proofs.Common.{◌≡◌, ℕ, ◌+◌, ◌-◌, ◌≤◌, List, take, drop, ap, ◌∙◌, arith, [], length, min, refl}
use Rattle.std.proofs.lemmas.List.{drop-take, length-take, take_min}
use Rattle.byteorder.specs.Endian.{little_number}
use Rattle.byteorder.specs.Numbers.{little_from-take}
use Rattle.std.specs.Prelude.{nat_lt, Ok}
use Rattle.std.proofs.lemmas.Bool.Decides.{nat_tests}
use Rattle.std.proofs.Math.Nat.{min_comm}
use Rattle.std.proofs.Math.Seq.{take-length}
use Rattle.kt_rec.specs.declared.table.Table.{Table}
use Rattle.kt_rec.specs.declared.table.Table.TheVariants as table
use Rattle.kt_cells.specs.Header.{header_extra}
use Rattle.kt_cells.specs.Reading.{and_then}
use Rattle.kt_schema.specs.Loading.{loaded_rows}
use Rattle.kt_load.specs.Ends.{bytes_wanted}

-- a front behind its first bytes
pub behind_front : (size n : ℕ) (bytes : List ℕ) → n ≤ size → drop n (take size bytes) ≡ take (size - n) (drop n bytes)
behind_front size n bytes fits =
    let split : size ≡ n + (size - n) = omega arith in
    ap (λ m. drop n (take m bytes)) split ∙ drop-take n (size - n) bytes

-- a number of four bytes is read of them alone
pub number_of_front : (size n : ℕ) (bytes : List ℕ) → n + 4 ≤ size → little_number 4 (drop n (take size bytes)) ≡ little_number 4 (drop n bytes)
number_of_front size n bytes fits = ap (little_number 4) (behind_front size n bytes (omega arith)) ∙ little_from-take 0 4 (size - n) (drop n bytes) (omega arith)

-- the header of the first 16 bytes
front_header : (bytes : List ℕ) → header_extra 4 0 0 (take 16 bytes) ≡ header_extra 4 0 0 bytes
unfolding header_extra
front_header bytes =
    let few : nat_lt (length (take 16 bytes)) 16 ≡ nat_lt (length bytes) 16 = rw length-take (grind (arith, nat_tests)) in
    rw (few, number_of_front 16 0 bytes (omega arith), number_of_front 16 4 bytes (omega arith), number_of_front 16 8 bytes (omega arith), number_of_front 16 12 bytes (omega arith)) refl

-- what is loaded of the bytes that are read is what is loaded of all
pub front-loads : (t : Table) (bytes : List ℕ) → loaded_rows t (take (bytes_wanted t (length bytes)) bytes) ≡ loaded_rows t bytes
front-loads table.Footprint bytes =
    let front : take (min (length bytes) 16) bytes ≡ take 16 bytes = rw min_comm (take_min 16 bytes) in
    ap (λ extra. and_then extra (λ e. Ok (e, []))) (ap (header_extra 4 0 0) front ∙ front_header bytes)
front-loads t bytes = ap (loaded_rows t) (take-length bytes)
