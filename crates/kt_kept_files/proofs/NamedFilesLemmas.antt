-- Files by name: the look-up, what one change leaves, and the place of a name in the list.
use Rattle.std.proofs.Common.{◌≡◌, ◌≢◌, ◌⊎◌, ℕ, zero, suc, List, [], ◌∷◌, ◌++◌, true, false, get_or, set, None, Some, inl, inr, refl, sym, ap, ◌∙◌, arith}
use Rattle.std.proofs.lemmas.Bool.{false≢true, cases_Bool}
use Rattle.std.specs.Str.{bytes_eq}
use Rattle.std.proofs.lemmas.Slice.Eq.{bytes_eq-Decides}
use Rattle.kt_kept_files.specs.NamedFiles.{File, bytes_of, with_file, HaveDistinctNames, IsNewName, IsPlaceOf}
use Rattle.kt_kept_files.specs.NamedFiles.{Sets}

-- a file with a name and some bytes
abbrev pub file_with : List ℕ → List ℕ → File
file_with name bytes = record { name = name; bytes = bytes }

-- a name is the same as itself
pub same_name : (name : List ℕ) → bytes_eq name name ≡ true
same_name name = let decides = bytes_eq-Decides name name in decides.1 refl

-- a name found the same is that name
pub is_that_name : (found name : List ℕ) → bytes_eq found name ≡ true → found ≡ name
is_that_name found name same = let decides = bytes_eq-Decides found name in decides.0 same

-- a name found to be another is not that name
pub is_not_that_name : (found name : List ℕ) → bytes_eq found name ≡ false → found ≢ name
is_not_that_name found name differs same =
    let decides = bytes_eq-Decides found name in false≢true (sym differs ∙ decides.1 same)

-- each name is the same or another
pub same_or_other : (found name : List ℕ) → (bytes_eq found name ≡ true) ⊎ (bytes_eq found name ≡ false)
same_or_other found name = cases_Bool (bytes_eq found name)

-- a name that is not this one is found to be another
pub other_name : (found name other : List ℕ) → found ≡ name → other ≢ name → bytes_eq found other ≡ false
other_name found name other is_name differs =
    elim (same_or_other found other) [
      | inl same ↦ absurd (differs (sym (is_that_name found other same) ∙ is_name))
      | inr apart ↦ apart
    ]

-- the look-up and the change at the first file: there, or behind it
pub bytes_of-first : (file : File) (files : List File) (name : List ℕ) → bytes_eq file.name name ≡ true → bytes_of (file ∷ files) name ≡ Some file.bytes
bytes_of-first file files name same = rw same

pub bytes_of-later : (file : File) (files : List File) (name : List ℕ) → bytes_eq file.name name ≡ false → bytes_of (file ∷ files) name ≡ bytes_of files name
bytes_of-later file files name differs = rw differs

pub with_file-first : (file : File) (files : List File) (name bytes : List ℕ) → bytes_eq file.name name ≡ true → with_file (file ∷ files) name bytes ≡ file_with file.name bytes ∷ files
with_file-first file files name bytes same = rw same

pub with_file-later : (file : File) (files : List File) (name bytes : List ℕ) → bytes_eq file.name name ≡ false → with_file (file ∷ files) name bytes ≡ file ∷ with_file files name bytes
with_file-later file files name bytes differs = rw differs

-- after a change the name stands for the new bytes
pub this_name-with_file : (files : List File) (name bytes : List ℕ) → bytes_of (with_file files name bytes) name ≡ Some bytes
this_name-with_file [] name bytes = bytes_of-first (file_with name bytes) [] name (same_name name)
this_name-with_file (file ∷ files) name bytes =
    elim (same_or_other file.name name) [
      | inl same ↦ rw (with_file-first file files name bytes same) (bytes_of-first (file_with file.name bytes) files name same)
      | inr differs ↦ rw (with_file-later file files name bytes differs) (bytes_of-later file (with_file files name bytes) name differs ∙ this_name-with_file files name bytes)
    ]

-- and every other name for what it stood for
pub other_names-with_file : (files : List File) (name bytes other : List ℕ) → other ≢ name → bytes_of (with_file files name bytes) other ≡ bytes_of files other
other_names-with_file [] name bytes other differs =
    bytes_of-later (file_with name bytes) [] other (other_name name name other refl differs)
other_names-with_file (file ∷ files) name bytes other differs =
    elim (same_or_other file.name name) [
      | inl same ↦
          let apart = other_name file.name name other (is_that_name file.name name same) differs in
          rw (with_file-first file files name bytes same) (bytes_of-later (file_with file.name bytes) files other apart ∙ sym (bytes_of-later file files other apart))
      | inr behind ↦
          rw (with_file-later file files name bytes behind)
          (elim (same_or_other file.name other) [
            | inl here ↦ bytes_of-first file (with_file files name bytes) other here ∙ sym (bytes_of-first file files other here)
            | inr apart ↦
                bytes_of-later file (with_file files name bytes) other apart ∙ other_names-with_file files name bytes other differs
                ∙ sym (bytes_of-later file files other apart)
          ])
    ]

-- one name is set, and no other
pub Sets-with_file : (files : List File) (name bytes : List ℕ) → Sets (bytes_of files) name bytes (bytes_of (with_file files name bytes))
Sets-with_file files name bytes = record {
  this_name = this_name-with_file files name bytes;
  other_names = other_names-with_file files name bytes;
}

-- the same, for a list that is known to be the changed one
pub Sets-changed : (files after : List File) (name bytes : List ℕ) → after ≡ with_file files name bytes → Sets (bytes_of files) name bytes (bytes_of after)
Sets-changed files after name bytes changed = rw changed (Sets-with_file files name bytes)

-- names stay distinct
pub HaveDistinctNames-with_file : (files : List File) (name bytes : List ℕ) → HaveDistinctNames files → HaveDistinctNames (with_file files name bytes)
HaveDistinctNames-with_file [] name bytes distinct = (refl, tt)
HaveDistinctNames-with_file (file ∷ files) name bytes distinct =
    elim (same_or_other file.name name) [
      | inl same ↦ rw (with_file-first file files name bytes same) (distinct.0, distinct.1)
      | inr differs ↦
          rw (with_file-later file files name bytes differs) (
            other_names-with_file files name bytes file.name (is_not_that_name file.name name differs) ∙ distinct.0,
            HaveDistinctNames-with_file files name bytes distinct.1,
          )
    ]

-- a new name behind the first file
pub new_behind : (file : File) (files : List File) (name : List ℕ) → IsNewName (file ∷ files) name → IsNewName files name
new_behind file files name is_new k other below = is_new (suc k) other (omega arith)

-- the place of a name behind the first file
pub place_behind : (file : File) (files : List File) (name : List ℕ) (i : ℕ) → IsPlaceOf (file ∷ files) name (suc i) → IsPlaceOf files name i
place_behind file files name i found =
    record {
      in_range = omega (arith, found.in_range);
      has_name = found.has_name;
      is_first = λ k other below. found.is_first (suc k) other (omega arith);
    }

-- what the look-up and the change of a new name give
pub bytes_of-new : (files : List File) (name : List ℕ) → IsNewName files name → bytes_of files name ≡ None
bytes_of-new [] name is_new = refl
bytes_of-new (file ∷ files) name is_new =
    bytes_of-later file files name (is_new 0 file (omega arith)) ∙ bytes_of-new files name (new_behind file files name is_new)

pub with_file-new : (files : List File) (name bytes : List ℕ) → IsNewName files name → with_file files name bytes ≡ files ++ file_with name bytes ∷ []
with_file-new [] name bytes is_new = refl
with_file-new (file ∷ files) name bytes is_new =
    with_file-later file files name bytes (is_new 0 file (omega arith))
    ∙ ap (λ (rest : List File). file ∷ rest) (with_file-new files name bytes (new_behind file files name is_new))

-- what they give for the name at a place
pub bytes_of-place : (files : List File) (name : List ℕ) (i : ℕ) (d : File) → IsPlaceOf files name i → bytes_of files name ≡ Some (get_or files i d).bytes
bytes_of-place [] name i d found = absurd (omega (arith, found.in_range))
bytes_of-place (file ∷ files) name zero d found = bytes_of-first file files name (found.has_name file)
bytes_of-place (file ∷ files) name (suc i) d found =
    bytes_of-later file files name (found.is_first 0 file (omega arith)) ∙ bytes_of-place files name i d (place_behind file files name i found)

pub with_file-place : (files : List File) (name bytes : List ℕ) (i : ℕ) (d : File) → IsPlaceOf files name i → with_file files name bytes ≡ set files i (file_with (get_or files i d).name bytes)
with_file-place [] name bytes i d found = absurd (omega (arith, found.in_range))
with_file-place (file ∷ files) name bytes zero d found = with_file-first file files name bytes (found.has_name file)
with_file-place (file ∷ files) name bytes (suc i) d found =
    with_file-later file files name bytes (found.is_first 0 file (omega arith))
    ∙ ap (λ (rest : List File). file ∷ rest) (with_file-place files name bytes i d (place_behind file files name i found))

-- what the change of a file needs: the look-up, and the changed list
pub ruleset file_changes = (bytes_of-new, bytes_of-place, with_file-new, with_file-place)

-- what a changed list says of names
pub ruleset file_names = (Sets-changed)
