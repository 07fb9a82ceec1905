-- A read behind the bytes that were read.
use Rattle.std.proofs.Common.{◌≡◌, ◌≤◌, ◌<◌, ◌+◌, ◌-◌, ℕ, List, ◌++◌, length, take, drop, sym, ◌∙◌, ap, arith, refl}
use Rattle.std.specs.Prelude.{Option, Some, None, Ok, IfSome}
use Rattle.std.proofs.Math.Seq.{take-add, take-take, take-append-add}
use Rattle.std.proofs.lemmas.List.{take_at, length-take-le, length-drop, drop-drop}
use Rattle.std.proofs.lemmas.Slice.{take-put_mid}
use borrow.Rule.Slice.PartMut.{put_mid, same_len_mid}
use Rattle.kt_out.specs.NamedFiles.{FileMap}
use Rattle.kt_out.specs.InputFiles.{ReadsAt, ReadsFrom, GivesFrom}
use Rattle.kt_out.specs.declared.fault.Fault.{Fault}
use Rattle.kt_load.specs.Ends.{HasRead}

-- the bytes of the room and of the file from a place on, up to the next place
reads_on : (bytes room part buffer : List ℕ) (from at size n : ℕ) → at ≤ length room → n ≤ length buffer → take at room ≡ take at (drop from bytes) → GivesFrom bytes (from + at) part buffer n → take (at + n) (put_mid at size room buffer) ≡ take (at + n) (drop from bytes)
reads_on bytes room part buffer from at size n within few so_far gives =
    let front : length (take at room) ≡ at = length-take-le at room within in
    let behind : List ℕ = drop at (drop from bytes) in
    let given : take n buffer ≡ take n behind = rw (gives.filled_by, drop-drop at from bytes) (take_at (take n (drop (from + at) bytes)) (drop n part) n (length-take-le n (drop (from + at) bytes) (omega (arith, gives.was_there, length-drop (from + at) bytes)))) in
    sym (take-take (at + n) (at + length buffer) (put_mid at size room buffer) (omega arith))
    ∙ ap (take (at + n)) (take-put_mid at size room buffer (at + length buffer) refl within)
    ∙ ap (λ m. take (m + n) (take at room ++ buffer)) (sym front)
    ∙ take-append-add (take at room) buffer n
    ∙ rw (so_far, given, take-add) refl

-- where files are known, the front of the room is that of the file from the place on once more was read
read_part_of : (held : Option FileMap) (name room part buffer : List ℕ) (from at size n : ℕ) → at ≤ length room → n ≤ length buffer → IfSome held (λ files. IfSome (files name) (λ bytes. take at room ≡ take at (drop from bytes))) → ReadsAt {E = Fault} held name (from + at) part buffer (Ok n) → IfSome held (λ files. IfSome (files name) (λ bytes. take (at + n) (put_mid at size room buffer) ≡ take (at + n) (drop from bytes)))
read_part_of None name room part buffer from at size n within few so_far gives = tt
read_part_of (Some files) name room part buffer from at size n within few so_far gives = of_file (files name) so_far gives
  where
    of_file : (file : Option (List ℕ)) → IfSome file (λ bytes. take at room ≡ take at (drop from bytes)) → ReadsFrom {E = Fault} file (from + at) part buffer (Ok n) → IfSome file (λ bytes. take (at + n) (put_mid at size room buffer) ≡ take (at + n) (drop from bytes))
    of_file None same read = tt
    of_file (Some bytes) same read = reads_on bytes room part buffer from at size n within few same read

-- what was read is there once more was read behind it
pub reads_more : (held : Option FileMap) (name : List ℕ) (from : ℕ) (room buffer : List ℕ) (wanted at n : ℕ) → at < length room → HasRead held name from wanted at room → n ≤ length room - at → length buffer ≡ length room - at → (part : List ℕ) → ReadsAt {E = Fault} held name (from + at) part buffer (Ok n) → HasRead held name from wanted (at + n) (put_mid at (length room - at) room buffer)
reads_more held name from room buffer wanted at n below before few same part gives = record {
  within = omega (arith, before.whole, before.within);
  whole = same_len_mid at (length room - at) room buffer (omega (arith, length-take-le (length room - at) (drop at room) (omega (arith, length-drop at room)))) ∙ before.whole;
  known = read_part_of held name room part buffer from at (length room - at) n (omega arith) (omega arith) before.known gives;
}
