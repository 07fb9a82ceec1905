-- Pieces of a named input file.
use Rattle.std.proofs.Common.{◌≡◌, ℕ, ◌+◌, ◌≤◌, ◌<◌, List, [], ◌++◌, length, take, drop, Option, Some, None, Result, Ok, Err, refl, sym, ap, ◌∙◌, append_assoc, subst, arith}
use Rattle.std.specs.Prelude.{IsSomeAnd, IfOk}
use Rattle.std.proofs.lemmas.List.{take-append-drop, drop-append-le, drop-drop, length-drop, length-take-le}
use Rattle.kt_out.specs.InputFiles.{GivesFrom, ReadsFrom, ReadsAt}
use Rattle.kt_out.specs.NamedFiles.{FileMap}
use Rattle.kt_out.specs.Reading.{Gives, GivesKnown}
use Rattle.kt_out.specs.declared.fault.Fault.{Fault}
use Rattle.kt_loop.specs.InputFile.{IsSized, file_bytes, left_from}

-- ---- a piece

module _ (bytes block filled : List ℕ) (at room n : ℕ) where
  -- what a read gave from a place on is the front of what is left there
  gives_left : at < length bytes → room ≤ length block → GivesFrom bytes at (take room block) filled n → Gives (drop at bytes) (Some (drop (at + n) bytes)) block (filled ++ drop room block) n
  gives_left within fits gives =
      let in_room : n ≤ room = omega (arith, gives.fits, length-take-le room block fits) in
      let behind : drop n (take room block) ++ drop room block ≡ drop n block =
      sym (drop-append-le n (take room block) (drop room block) gives.fits) ∙ ap (drop n) (take-append-drop room block) in
      let some_read : n ≡ 0 → ⊥ = λ none. omega (arith, none, gives.some) in
      let some_left : drop at bytes ≡ [] → ⊥ = λ none. omega (arith, ap length none, length-drop at bytes, within) in
      record {
        fits = omega (arith, in_room, fits);
        was_left = rw length-drop gives.was_there;
        at_end = (λ none. absurd (some_read none), λ none. absurd (some_left none));
        rest = ap (λ (xs : List ℕ). Some xs) (rw drop-drop refl);
        bytes = ap (λ (xs : List ℕ). xs ++ drop room block) gives.filled_by ∙ append_assoc (take n (drop at bytes)) (drop n (take room block)) (drop room block) ∙ ap (λ (xs : List ℕ). take n (drop at bytes) ++ xs) behind;
      }

module _ (name block filled : List ℕ) (size at room n : ℕ) where
  left_of_file : (held : Option (List ℕ)) → IsSomeAnd held (λ bytes. size ≡ length bytes) → at < size → room ≤ length block → ReadsFrom {E = Fault} held at (take room block) filled (Ok n) → GivesKnown (left_from held at) (left_from held (at + n)) block (filled ++ drop room block) n
  left_of_file None sized within fits reads = absurd sized
  left_of_file (Some bytes) sized within fits reads = gives_left bytes block filled at room n (subst (λ (s : ℕ). at < s) sized within) fits reads

  piece_given : (held : Option FileMap) → IsSized held name size → at < size → room ≤ length block → ReadsAt {E = Fault} held name at (take room block) filled (Ok n) → GivesKnown (left_from (file_bytes held name) at) (left_from (file_bytes held name) (at + n)) block (filled ++ drop room block) n
  piece_given None sized within fits reads = refl
  piece_given (Some files) sized within fits reads = left_of_file (files name) sized within fits reads

pub piece_read : (name block filled : List ℕ) (size at room : ℕ) (held : Option FileMap) (result : Result ℕ Fault) → IsSized held name size → at < size → room ≤ length block → ReadsAt held name at (take room block) filled result → IfOk result (λ n. GivesKnown (left_from (file_bytes held name) at) (left_from (file_bytes held name) (at + n)) block (filled ++ drop room block) n)
piece_read name block filled size at room held (Ok n) sized within fits reads = piece_given name block filled size at room n held sized within fits reads
piece_read name block filled size at room held (Err fault) sized within fits reads = tt
