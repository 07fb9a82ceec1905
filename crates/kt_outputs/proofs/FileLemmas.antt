-- What names stand for once one file of a list is made or lengthened.
use Rattle.std.proofs.Common.{◌≡◌, ◌≢◌, ◌⊎◌, ℕ, Bool, true, false, List, [], ◌∷◌, ◌++◌, map, Option, None, Some, refl, sym, ap, subst, ◌∙◌, inl, inr}
use Rattle.std.proofs.lemmas.Bool.{cases_Bool}
use Rattle.std.proofs.lemmas.Slice.Eq.{bytes_eq-Decides}
use Rattle.std.specs.Option.{option_or}
use Rattle.std.specs.Prelude.{if◌then◌else◌, ◌||◌}
use Rattle.std.specs.Str.{bytes_eq}
use Rattle.kt_out.specs.Appending.{Lengthens, lengthened, lengthened_held}
use Rattle.kt_out.specs.NamedFiles.{File, FileMap, bytes_of}
use Rattle.kt_out.specs.OutputFiles.{Sets}
use Rattle.kt_ends.specs.Ending.{AllMade, made_over}
use Rattle.kt_outputs.specs.Files.{file_with, files_with}
use Rattle.kt_outputs.specs.Names.{AreDistinct, is_among}

-- ---- names

same_name : (name : List ℕ) → bytes_eq name name ≡ true
same_name name = let decides = bytes_eq-Decides name name in decides.1 refl

is_that_name : (found name : List ℕ) → bytes_eq found name ≡ true → found ≡ name
is_that_name found name same = let decides = bytes_eq-Decides found name in decides.0 same

-- a name is the same, or found to be another
other_or_same : (found other : List ℕ) → (found ≡ other) ⊎ (bytes_eq found other ≡ false)
other_or_same found other = elim (cases_Bool (bytes_eq found other)) [ inl same ↦ inl (is_that_name found other same) | inr apart ↦ inr apart ]

-- a name found to be another is another
is_other : (found other : List ℕ) → bytes_eq found other ≡ false → other ≢ found
is_other found other apart same = let same_bytes : true ≡ false = sym (same_name found) ∙ ap (λ (name : List ℕ). bytes_eq found name) (sym same) ∙ apart in cc

-- ---- look-ups

none_last : (held : Option (List ℕ)) → option_or held None ≡ held
none_last None = refl
none_last (Some bytes) = refl

chosen_first : (same : Bool) (bytes : List ℕ) (rest whole later : Option (List ℕ)) → whole ≡ option_or rest later → (if same then Some bytes else whole) ≡ option_or (if same then Some bytes else rest) later
chosen_first true bytes rest whole later is = refl
chosen_first false bytes rest whole later is = is

-- the look-up in one list behind another
pub bytes_of_behind : (files more : List File) (name : List ℕ) → bytes_of (files ++ more) name ≡ option_or (bytes_of files name) (bytes_of more name)
bytes_of_behind [] more name = refl
bytes_of_behind (file ∷ files) more name = chosen_first (bytes_eq file.name name) file.bytes (bytes_of files name) (bytes_of (files ++ more) name) (bytes_of more name) (bytes_of_behind files more name)

-- the look-up of the first file's name, and of another
found_first : (name text : List ℕ) (later : List File) → bytes_of (file_with name text ∷ later) name ≡ Some text
found_first name text later = rw (same_name name)

found_later : (name text other : List ℕ) (later : List File) → bytes_eq name other ≡ false → bytes_of (file_with name text ∷ later) other ≡ bytes_of later other
found_later name text other later apart = rw apart

-- the look-up of the name at a place that no name before it equals
pub found_here : (before later : List File) (name text : List ℕ) → bytes_of before name ≡ None → bytes_of (before ++ file_with name text ∷ later) name ≡ Some text
found_here before later name text is_new =
    bytes_of_behind before (file_with name text ∷ later) name
    ∙ ap (λ (held : Option (List ℕ)). option_or held (bytes_of (file_with name text ∷ later) name)) is_new
    ∙ found_first name text later

-- the look-up of every other name
pub found_elsewhere : (before later : List File) (name text other : List ℕ) → bytes_eq name other ≡ false → bytes_of (before ++ file_with name text ∷ later) other ≡ option_or (bytes_of before other) (bytes_of later other)
found_elsewhere before later name text other apart =
    bytes_of_behind before (file_with name text ∷ later) other
    ∙ ap (λ (held : Option (List ℕ)). option_or (bytes_of before other) held) (found_later name text other later apart)

-- ---- one file more

-- a file that is lengthened has its longer text
pub lengthens_one : (before later : List File) (name old more : List ℕ) (start now after : FileMap) → bytes_of before name ≡ None → AllMade (before ++ file_with name old ∷ later) start now → Lengthens now name more after → AllMade (before ++ file_with name (old ++ more) ∷ later) start after
lengthens_one before later name old more start now after is_new made added other =
    elim (other_or_same name other) [
      | inl same ↦
          subst (λ (one : List ℕ). after one ≡ made_over (before ++ file_with name (old ++ more) ∷ later) start one) same (
          added.this_name
          ∙ ap (λ (held : Option (List ℕ)). lengthened held more) (made name ∙ ap (λ (held : Option (List ℕ)). option_or held (start name)) (found_here before later name old is_new))
          ∙ lengthened_held old more
          ∙ sym (ap (λ (held : Option (List ℕ)). option_or held (start name)) (found_here before later name (old ++ more) is_new))
          )
      | inr apart ↦
          added.other_names other (is_other name other apart)
          ∙ made other
          ∙ ap (λ (held : Option (List ℕ)). option_or held (start other)) (found_elsewhere before later name old other apart ∙ sym (found_elsewhere before later name (old ++ more) other apart))
    ]

-- a file that is made empty stands behind those that were made
pub creates_one : (before : List File) (name : List ℕ) (start now after : FileMap) → bytes_of before name ≡ None → AllMade before start now → Sets now name [] after → AllMade (before ++ file_with name [] ∷ []) start after
creates_one before name start now after is_new made sets other =
    elim (other_or_same name other) [
      | inl same ↦
          subst (λ (one : List ℕ). after one ≡ made_over (before ++ file_with name [] ∷ []) start one) same (
          sets.this_name ∙ sym (ap (λ (held : Option (List ℕ)). option_or held (start name)) (found_here before [] name [] is_new))
          )
      | inr apart ↦
          sets.other_names other (is_other name other apart)
          ∙ made other
          ∙ ap (λ (held : Option (List ℕ)). option_or held (start other)) (sym (found_elsewhere before [] name [] other apart ∙ none_last (bytes_of before other)))
    ]

-- a name that was set, where its file was to be the next, and every other name as it was made
pub sets_next : (before : List File) (name : List ℕ) (start now after : FileMap) → AllMade before start now → Sets now name [] after → (other : List ℕ) → (after other ≡ made_over before start other) ⊎ ((name ≡ other) × (after other ≡ Some []))
sets_next before name start now after made sets other =
    elim (other_or_same name other) [
      | inl same ↦ inr (same, subst (λ (one : List ℕ). after one ≡ Some []) same sets.this_name)
      | inr apart ↦ inl (sets.other_names other (is_other name other apart) ∙ made other)
    ]

-- ---- distinct names

-- of two tests that fail together, each does
neither : (first second : Bool) → (first || second) ≡ false → (first ≡ false) × (second ≡ false)
neither true second both = cc
neither false second both = (refl, both)

-- a name that is not among those of a list is not that at a place of it
not_at : {F : Type 0} (name : F → List ℕ) (other : List ℕ) (before : List F) (file : F) (later : List F) → is_among other (map name (before ++ file ∷ later)) ≡ false → bytes_eq other (name file) ≡ false
not_at name other [] file later none = let both = neither (bytes_eq other (name file)) (is_among other (map name later)) none in both.0
not_at name other (one ∷ before) file later none =
    let both = neither (bytes_eq other (name one)) (is_among other (map name (before ++ file ∷ later))) none in not_at name other before file later both.1

-- the name at a place is that of no file before it
pub is_new_at : {F : Type 0} (name text : F → List ℕ) (before : List F) (file : F) (later : List F) → AreDistinct (map name (before ++ file ∷ later)) → bytes_of (files_with name text before) (name file) ≡ None
is_new_at name text [] file later distinct = refl
is_new_at name text (one ∷ before) file later distinct =
    found_later (name one) (text one) (name file) (files_with name text before) (not_at name (name one) before file later distinct.0)
    ∙ is_new_at name text before file later distinct.1
