-- Files that were made in part are so for longer texts too.
-- The rules: docs/REFUSALS.md, "Statuses".
use Rattle.std.proofs.Common.{refl, sym, ap, ◌∙◌, inl, inr, append_assoc}
use Rattle.std.proofs.lemmas.List.{append-nil}
use Rattle.std.specs.Prelude.{◌≡◌, ℕ, List, [], ◌∷◌, ◌++◌}
use Rattle.kt_out.specs.NamedFiles.{File, FileMap}
use Rattle.kt_ends.specs.Ending.{IsFront, AreFronts, next_name, AllMade, PartlyMade}
use Rattle.kt_outputs.specs.Files.{files_with}

-- a text is a front of itself
pub front_of_itself : (text : List ℕ) → IsFront text text
front_of_itself text = record { rest = []; is = sym (append-nil text) }

-- a text is a front of itself with more behind it
pub front_of_longer : (text more : List ℕ) → IsFront text (text ++ more)
front_of_longer text more = record { rest = more; is = refl }

-- a front of a front is a front
pub front_of_front : (front middle whole : List ℕ) → IsFront front middle → IsFront middle whole → IsFront front whole
front_of_front front middle whole first second = record {
  rest = first.rest ++ second.rest;
  is = second.is ∙ ap (λ (text : List ℕ). text ++ second.rest) first.is ∙ append_assoc front first.rest second.rest;
}

-- the files of a list are fronts of the same files with longer texts
pub fronts_of_longer : {F : Type 0} (name text more : F → List ℕ) → ((file : F) → IsFront (text file) (more file)) → (files : List F) → AreFronts (files_with name text files) (files_with name more files)
fronts_of_longer name text more grows [] = tt
fronts_of_longer name text more grows (file ∷ files) = (refl, grows file, fronts_of_longer name text more grows files)

-- fronts of the files are fronts of the same files with longer texts
pub fronts_grow : {F : Type 0} (name text more : F → List ℕ) → ((file : F) → IsFront (text file) (more file)) → (files : List F) (made : List File) → AreFronts made (files_with name text files) → AreFronts made (files_with name more files)
fronts_grow name text more grows files [] fronts = tt
fronts_grow name text more grows [] (one ∷ made) fronts = absurd fronts
fronts_grow name text more grows (file ∷ files) (one ∷ made) fronts =
    (fronts.0, front_of_front one.bytes (text file) (more file) fronts.1 (grows file), fronts_grow name text more grows files made fronts.2)

-- the name that would be made next is the same, whatever the texts
pub same_next_name : {F : Type 0} (name text more : F → List ℕ) (files : List F) (made : List File) → next_name made (files_with name more files) ≡ next_name made (files_with name text files)
same_next_name name text more [] [] = refl
same_next_name name text more (file ∷ files) [] = refl
same_next_name name text more [] (one ∷ made) = refl
same_next_name name text more (file ∷ files) (one ∷ made) = same_next_name name text more files made

-- files of which some were made, each with a front of its text, are so for longer texts too
pub partly_grows : {F : Type 0} (name text more : F → List ℕ) → ((file : F) → IsFront (text file) (more file)) → (files : List F) (start now : FileMap) → PartlyMade (files_with name text files) start now → PartlyMade (files_with name more files) start now
partly_grows name text more grows files start now partly = record {
  made = partly.made;
  fronts = fronts_grow name text more grows files partly.made partly.fronts;
  holds = λ one. elim (partly.holds one) [
    | inl same ↦ inl same
    | inr next ↦ inr (same_next_name name text more files partly.made ∙ next.0, next.1)
  ];
}

-- files that were made are made in part for longer texts
pub made_grows : {F : Type 0} (name text more : F → List ℕ) → ((file : F) → IsFront (text file) (more file)) → (files : List F) (start now : FileMap) → AllMade (files_with name text files) start now → PartlyMade (files_with name more files) start now
made_grows name text more grows files start now made = record {
  made = files_with name text files;
  fronts = fronts_of_longer name text more grows files;
  holds = λ one. inl (made one);
}

-- a list of files whose texts are fronts of themselves
all_fronts : (wanted : List File) → AreFronts wanted wanted
all_fronts [] = tt
all_fronts (file ∷ files) = (refl, front_of_itself file.bytes, all_fronts files)

-- files that were made are made in part
pub made_is_partly : (wanted : List File) (start now : FileMap) → AllMade wanted start now → PartlyMade wanted start now
made_is_partly wanted start now made = record { made = wanted; fronts = all_fronts wanted; holds = λ one. inl (made one) }

-- where nothing was made, some front of any files was: none of them
pub nothing_is_partly : (wanted : List File) (start now : FileMap) → AllMade [] start now → PartlyMade wanted start now
nothing_is_partly wanted start now made = record { made = []; fronts = tt; holds = λ one. inl (made one) }
