-- A list around one of its places, and the files of such a list.
use Rattle.std.proofs.Common.{◌≡◌, ℕ, suc, ◌+◌, ◌<◌, List, [], ◌∷◌, ◌++◌, length, take, drop, get_or, refl, sym, ap, ◌∙◌, add-one, drop-cons}
use Rattle.std.proofs.Math.Seq.{take-suc}
use Rattle.std.proofs.lemmas.List.{take-append-drop}
use Rattle.kt_out.specs.NamedFiles.{File}
use Rattle.kt_outputs.specs.Files.{files_with, file_with}

-- what is left from a place on: what stands there, and the rest
pub left_at : {F : Type 0} (files : List F) (i : ℕ) (file : F) → i < length files → file ≡ get_or files i file → drop i files ≡ file ∷ drop (i + 1) files
left_at files i file within is =
    drop-cons files i file within
    ∙ ap (λ (one : _). one ∷ drop (suc i) files) (sym is)
    ∙ ap (λ (place : ℕ). file ∷ drop place files) (sym (add-one i))

-- what is done with what stands at a place
pub done_at : {F : Type 0} (files : List F) (i : ℕ) (file : F) → i < length files → file ≡ get_or files i file → take (i + 1) files ≡ take i files ++ file ∷ []
done_at files i file within is =
    ap (λ (place : ℕ). take place files) (add-one i)
    ∙ take-suc files i file within
    ∙ ap (λ (one : _). take i files ++ one ∷ []) (sym is)

-- the list around a place
pub around : {F : Type 0} (files : List F) (i : ℕ) (file : F) → i < length files → file ≡ get_or files i file → files ≡ take i files ++ file ∷ drop (i + 1) files
around files i file within is =
    sym (take-append-drop i files) ∙ ap (λ (left : List _). take i files ++ left) (left_at files i file within is)

-- the files of a list behind another
pub files_behind : {F : Type 0} (name text : F → List ℕ) (before later : List F) → files_with name text (before ++ later) ≡ files_with name text before ++ files_with name text later
files_behind name text [] later = refl
files_behind name text (file ∷ before) later = ap (λ (files : List File). file_with (name file) (text file) ∷ files) (files_behind name text before later)
