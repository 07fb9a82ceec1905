-- What names stand for once files of distinct names were made.
use Rattle.std.proofs.Common.{◌≡◌, List, [], ◌∷◌, ◌++◌, true, false, refl, ap, ◌∙◌}
use Rattle.std.specs.Prelude.{Bool, ◌||◌, Some}
use Rattle.std.specs.List.{AllByRecursion}
use Rattle.std.specs.Option.{option_or}
use Rattle.std.specs.Str.{bytes_eq}
use Rattle.std.proofs.lemmas.Slice.Eq.{bytes_eq-Decides}
use Rattle.kt_out.specs.NamedFiles.{File, FileMap, bytes_of}
use Rattle.kt_ends.specs.Ending.{AllMade}
use Rattle.kt_outputs.specs.Names.{AreDistinct, is_among}
use Rattle.kt_gen.specs.FileLines.{file_line, file_lines}
use Rattle.kt_gen.specs.Shown.{lines_of_files, names_of}

-- the names of files stand for their texts
abbrev pub Stand : FileMap → List File → Type 0
Stand texts files = AllByRecursion (λ file. texts file.name ≡ Some file.bytes) files

-- neither of two tests holds
pub neither : (one other : Bool) → (one || other) ≡ false → (one ≡ false) × (other ≡ false)
neither true other none = cc
neither false other none = (refl, none)

-- a file of another name in front changes nothing
pub Stand-behind : (file : File) (among files : List File) → is_among file.name (names_of files) ≡ false → Stand (bytes_of among) files → Stand (bytes_of (file ∷ among)) files
Stand-behind file among [] apart stand = tt
Stand-behind file among (next ∷ files) apart stand =
    let none = neither (bytes_eq file.name next.name) (is_among file.name (names_of files)) apart in
    (rw none.0 stand.0, Stand-behind file among files none.1 stand.1)

-- files of distinct names stand in their list
pub Stand-list : (files : List File) → AreDistinct (names_of files) → Stand (bytes_of files) files
Stand-list [] distinct = tt
Stand-list (file ∷ files) distinct =
    let same : bytes_eq file.name file.name ≡ true = (bytes_eq-Decides file.name file.name).1 refl in
    (rw same refl, Stand-behind file files files distinct.0 (Stand-list files distinct.1))

-- and once they were made
pub Stand-made : (wanted : List File) (start now : FileMap) → AllMade wanted start now → (files : List File) → Stand (bytes_of wanted) files → Stand now files
Stand-made wanted start now made [] stand = tt
Stand-made wanted start now made (file ∷ files) stand =
    (made file.name ∙ ap (λ found. option_or found (start file.name)) stand.0, Stand-made wanted start now made files stand.1)

-- their lines are shown
pub lines-of-standing : (now : FileMap) (files : List File) → Stand now files → file_lines now (names_of files) ≡ lines_of_files files
unfolding file_lines lines_of_files
lines-of-standing now [] stand = refl
lines-of-standing now (file ∷ files) stand =
    rw stand.0 (ap (λ rest. file_line file.name file.bytes ++ rest) (lines-of-standing now files stand.1))

-- of all files that were made
pub made-lines : (wanted : List File) (start now : FileMap) → AreDistinct (names_of wanted) → AllMade wanted start now → file_lines now (names_of wanted) ≡ lines_of_files wanted
made-lines wanted start now distinct made = lines-of-standing now wanted (Stand-made wanted start now made wanted (Stand-list wanted distinct))
