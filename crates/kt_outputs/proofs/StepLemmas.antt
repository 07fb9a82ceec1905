-- One file of a list after the other: what the files are after each, and where it ends at one.
use Rattle.std.proofs.Common.{◌≡◌, ◌⊎◌, ℕ, ◌+◌, ◌<◌, ◌≤◌, List, [], ◌∷◌, ◌++◌, length, map, take, drop, take_all, get_or, Option, None, Some, Ok, Err, refl, sym, ap, subst, ◌∙◌, inl, inr, append_assoc}
use Rattle.std.specs.Prelude.{IfSome, IsSomeAnd}
use Rattle.std.proofs.lemmas.List.{append-nil, drop_all, take-append-drop}
use Rattle.kt_out.specs.Appending.{Lengthens, AppendsText, AppendsFront}
use Rattle.kt_out.specs.NamedFiles.{File, FileMap}
use Rattle.kt_out.specs.OutputFiles.{OutputsState, Creates, Sets, SameFiles}
use Rattle.kt_ends.specs.Ending.{AllMade, PartlyMade, AreFronts, IsFront, next_name}
use Rattle.kt_outputs.specs.Files.{file_with, files_with, Makes}
use Rattle.kt_outputs.specs.Growing.{front_of_itself, front_of_longer, fronts_of_longer}
use Rattle.kt_outputs.specs.Names.{AreDistinct}
use Rattle.kt_outputs.specs.Texts.{no_text, lengthened_by, files_midway}
use Rattle.kt_outputs.proofs.FileLemmas.{lengthens_one, creates_one, sets_next, is_new_at}
use Rattle.kt_outputs.proofs.ListLemmas.{left_at, done_at, around, files_behind}

-- ---- fronts around a place

-- the files up to a place are a front of all
fronts_up_to : {F : Type 0} (name text : F → List ℕ) (before later : List F) → AreFronts (files_with name text before) (files_with name text (before ++ later))
fronts_up_to name text [] later = tt
fronts_up_to name text (file ∷ before) later = (refl, front_of_itself (text file), fronts_up_to name text before later)

-- the next name behind them is that at the place
next_at : {F : Type 0} (name text : F → List ℕ) (before : List F) (file : F) (later : List F) → next_name (files_with name text before) (files_with name text (before ++ file ∷ later)) ≡ Some (name file)
next_at name text [] file later = refl
next_at name text (one ∷ before) file later = next_at name text before file later

-- the files of which the first have all of their new texts, one has a front of it, and the others their old ones
fronts_around : {F : Type 0} (name old new : F → List ℕ) → ((file : F) → IsFront (old file) (new file)) → (before : List F) (file : F) (later : List F) (part : List ℕ) → IsFront part (new file) → AreFronts (files_with name new before ++ file_with (name file) part ∷ files_with name old later) (files_with name new (before ++ file ∷ later))
fronts_around name old new grows [] file later part front = (refl, front, fronts_of_longer name old new grows later)
fronts_around name old new grows (one ∷ before) file later part front = (refl, front_of_itself (new one), fronts_around name old new grows before file later part front)

-- ---- the making of a file

-- what the making of the next file leaves, by its answer
creates_next : {F : Type 0} (name : F → List ℕ) (before : List F) (file : F) (later : List F) (start now after : FileMap) → AreDistinct (map name (before ++ file ∷ later)) → AllMade (files_with name no_text before) start now → Sets now (name file) [] after → AllMade (files_with name no_text (before ++ file ∷ [])) start after
creates_next name before file later start now after distinct made sets =
    subst (λ (files : List File). AllMade files start after) (sym (files_behind name no_text before (file ∷ [])))
    (creates_one (files_with name no_text before) (name file) start now after (is_new_at name no_text before file later distinct) made sets)

kept_part : {F : Type 0} (name : F → List ℕ) (before : List F) (file : F) (later : List F) (start now after : FileMap) → AllMade (files_with name no_text before) start now → SameFiles now after → PartlyMade (files_with name no_text (before ++ file ∷ later)) start after
kept_part name before file later start now after made same = record {
  made = files_with name no_text before;
  fronts = fronts_up_to name no_text before (file ∷ later);
  holds = λ one. inl (same one ∙ made one);
}

next_part : {F : Type 0} (name : F → List ℕ) (before : List F) (file : F) (later : List F) (start now after : FileMap) → AllMade (files_with name no_text before) start now → Sets now (name file) [] after → PartlyMade (files_with name no_text (before ++ file ∷ later)) start after
next_part name before file later start now after made sets = record {
  made = files_with name no_text before;
  fronts = fronts_up_to name no_text before (file ∷ later);
  holds = λ one. elim (sets_next (files_with name no_text before) (name file) start now after made sets one) [
    | inl same ↦ inl same
    | inr next ↦ inr (next_at name no_text before file later ∙ ap (λ (other : List ℕ). Some other) next.0, next.1)
  ];
}

stops_next : {F : Type 0} (name : F → List ℕ) (before : List F) (file : F) (later : List F) (start now after : FileMap) → AllMade (files_with name no_text before) start now → SameFiles now after ⊎ Sets now (name file) [] after → PartlyMade (files_with name no_text (before ++ file ∷ later)) start after
stops_next name before file later start now after made (inl same) = kept_part name before file later start now after made same
stops_next name before file later start now after made (inr sets) = next_part name before file later start now after made sets

-- ---- where the files may not tell what they hold

-- a step from what is held, and one call behind it
call_behind : (first now after : Option FileMap) (held middle wanted : FileMap → Type 0) (moves : FileMap → FileMap → Type 0) → ((old new : FileMap) → middle old → moves old new → wanted new) → IfSome first (λ old. held old → IsSomeAnd now middle) → IfSome now (λ old. IsSomeAnd after (moves old)) → IfSome first (λ old. held old → IsSomeAnd after wanted)
call_behind None now after held middle wanted moves gives step call = tt
call_behind (Some old) None after held middle wanted moves gives step call = λ is_held. absurd (step is_held)
call_behind (Some old) (Some between) None held middle wanted moves gives step call = λ is_held. absurd call
call_behind (Some old) (Some between) (Some new) held middle wanted moves gives step call = λ is_held. gives between new (step is_held) call

creates_known : (T E : Type 0) (now after : Option FileMap) (name : List ℕ) (done : T) → Creates {T = T} {E = E} now after name (Ok done) → IfSome now (λ old. IsSomeAnd after (Sets old name []))
creates_known T E None after name done moved = tt
creates_known T E (Some old) after name done moved = moved

stops_known : (T E : Type 0) (now after : Option FileMap) (name : List ℕ) (fault : E) → Creates {T = T} {E = E} now after name (Err fault) → IfSome now (λ old. IsSomeAnd after (λ new. SameFiles old new ⊎ Sets old name [] new))
stops_known T E None after name fault moved = tt
stops_known T E (Some old) after name fault moved = moved

appends_known : (now after : Option FileMap) (name text : List ℕ) → AppendsText now after name text → IfSome now (λ old. IsSomeAnd after (Lengthens old name text))
appends_known None after name text moved = tt
appends_known (Some old) after name text moved = moved

-- ---- before the first file and behind the last

-- what is held is held still where nothing moves
held_still : (now : Option FileMap) (held : FileMap → Type 0) → IfSome now (λ old. held old → IsSomeAnd now held)
held_still None held = tt
held_still (Some old) held = λ is_held. is_held

-- the files are as they are held, before the first is made
pub nothing_done : (held : List File) (now : OutputsState) (E : Type 0) → Makes {T = Unit {0}} {E = E} held held now now (Ok tt)
nothing_done held now E = record { files = λ start. held_still now.written (AllMade held start) }

-- behind the last file all have their new texts
pub all_behind : {F : Type 0} (name new old : F → List ℕ) (i : ℕ) (files : List F) → length files ≤ i → files_midway name new old i files ≡ files_with name new files
all_behind {F} name new old i files past =
    ap (λ (left : List F). files_with name new (take i files) ++ files_with name old left) (drop_all i files past)
    ∙ append-nil (files_with name new (take i files))
    ∙ ap (λ (done : List F). files_with name new done) (take_all i files past)

-- ---- the making of the file at a place of the list

module _ {F : Type 0} (name : F → List ℕ) (files : List F) (distinct : AreDistinct (map name files)) (i : ℕ) (file : F) (within : i < length files) (is : file ≡ get_or files i file) (first now after : OutputsState) where
  -- the names of the list around the place are distinct
  distinct_around : AreDistinct (map name (take i files ++ file ∷ drop (i + 1) files))
  distinct_around = subst (λ (list : List F). AreDistinct (map name list)) (around files i file within is) distinct

  -- the next file is made
  pub create_more : (E : Type 0) → Makes {T = Unit {0}} {E = E} [] (files_with name no_text (take i files)) first now (Ok tt) → Creates {T = Unit {0}} {E = E} now.written after.written (name file) (Ok tt) → Makes {T = Unit {0}} {E = E} [] (files_with name no_text (take (i + 1) files)) first after (Ok tt)
  create_more E made moved = record {
    files = λ start.
        call_behind first.written now.written after.written (AllMade [] start) (AllMade (files_with name no_text (take i files)) start) (AllMade (files_with name no_text (take (i + 1) files)) start) (λ old. Sets old (name file) [])
        (λ old new middle sets. subst (λ (list : List F). AllMade (files_with name no_text list) start new) (sym (done_at files i file within is)) (creates_next name (take i files) file (drop (i + 1) files) start old new distinct_around middle sets))
        (made.files start)
        (creates_known (Unit {0}) E now.written after.written (name file) tt moved);
  }

  -- the making of the next file is refused
  pub create_stops : (E : Type 0) (fault : E) → Makes {T = Unit {0}} {E = E} [] (files_with name no_text (take i files)) first now (Ok tt) → Creates {T = Unit {0}} {E = E} now.written after.written (name file) (Err fault) → Makes {T = Unit {0}} {E = E} [] (files_with name no_text files) first after (Err fault)
  create_stops E fault made moved = record {
    files = λ start.
        call_behind first.written now.written after.written (AllMade [] start) (AllMade (files_with name no_text (take i files)) start) (PartlyMade (files_with name no_text files) start) (λ old new. SameFiles old new ⊎ Sets old (name file) [] new)
        (λ old new middle leaves. subst (λ (list : List F). PartlyMade (files_with name no_text list) start new) (sym (around files i file within is)) (stops_next name (take i files) file (drop (i + 1) files) start old new middle leaves))
        (made.files start)
        (stops_known (Unit {0}) E now.written after.written (name file) fault moved);
  }

  -- ---- the appending to it

  -- a file of the list midway is lengthened
  lengthens_at : (text more : F → List ℕ) (part : List ℕ) (start old new : FileMap) → AllMade (files_midway name (lengthened_by text more) text i files) start old → Lengthens old (name file) part new → AllMade (files_with name (lengthened_by text more) (take i files) ++ file_with (name file) (text file ++ part) ∷ files_with name text (drop (i + 1) files)) start new
  lengthens_at text more part start old new made added =
      lengthens_one (files_with name (lengthened_by text more) (take i files)) (files_with name text (drop (i + 1) files)) (name file) (text file) part start old new
      (is_new_at name (lengthened_by text more) (take i files) file (drop (i + 1) files) distinct_around)
      (subst (λ (left : List F). AllMade (files_with name (lengthened_by text more) (take i files) ++ files_with name text left) start old) (left_at files i file within is) made)
      added

  -- the list midway behind the place
  midway_behind : (text more : F → List ℕ) → files_midway name (lengthened_by text more) text (i + 1) files ≡ files_with name (lengthened_by text more) (take i files) ++ file_with (name file) (text file ++ more file) ∷ files_with name text (drop (i + 1) files)
  midway_behind text more =
      let new = lengthened_by text more in
      ap (λ (list : List F). files_with name new list ++ files_with name text (drop (i + 1) files)) (done_at files i file within is)
      ∙ ap (λ (list : List File). list ++ files_with name text (drop (i + 1) files)) (files_behind name new (take i files) (file ∷ []))
      ∙ append_assoc (files_with name new (take i files)) (file_with (name file) (text file ++ more file) ∷ []) (files_with name text (drop (i + 1) files))

  -- the next file has gained its text
  pub append_more : (E : Type 0) (text more : F → List ℕ) → Makes {T = Unit {0}} {E = E} (files_with name text files) (files_midway name (lengthened_by text more) text i files) first now (Ok tt) → AppendsText now.written after.written (name file) (more file) → Makes {T = Unit {0}} {E = E} (files_with name text files) (files_midway name (lengthened_by text more) text (i + 1) files) first after (Ok tt)
  append_more E text more made moved = record {
    files = λ start.
        call_behind first.written now.written after.written (AllMade (files_with name text files) start) (AllMade (files_midway name (lengthened_by text more) text i files) start) (AllMade (files_midway name (lengthened_by text more) text (i + 1) files) start) (λ old. Lengthens old (name file) (more file))
        (λ old new middle added. subst (λ (list : List File). AllMade list start new) (sym (midway_behind text more)) (lengthens_at text more (more file) start old new middle added))
        (made.files start)
        (appends_known now.written after.written (name file) (more file) moved);
  }

  -- a front of the file's text was added, and no more
  part_at : (text more : F → List ℕ) (front rest : List ℕ) (start old new : FileMap) → more file ≡ front ++ rest → AllMade (files_midway name (lengthened_by text more) text i files) start old → Lengthens old (name file) front new → PartlyMade (files_with name (lengthened_by text more) files) start new
  part_at text more front rest start old new is_front made added =
      let longer = lengthened_by text more in
      let is_part : IsFront (text file ++ front) (text file ++ more file) = record {
        rest = rest;
        is = ap (λ (part : List ℕ). text file ++ part) is_front ∙ sym (append_assoc (text file) front rest);
      } in
      let partly : PartlyMade (files_with name longer (take i files ++ file ∷ drop (i + 1) files)) start new = record {
        made = files_with name longer (take i files) ++ file_with (name file) (text file ++ front) ∷ files_with name text (drop (i + 1) files);
        fronts = fronts_around name text longer (λ one. front_of_longer (text one) (more one)) (take i files) file (drop (i + 1) files) (text file ++ front) is_part;
        holds = λ one. inl (lengthens_at text more front start old new made added one);
      } in
      subst (λ (list : List F). PartlyMade (files_with name longer list) start new) (sym (around files i file within is)) partly

  -- the appending to the next file is refused
  pub append_stops : (E : Type 0) (fault : E) (text more : F → List ℕ) → Makes {T = Unit {0}} {E = E} (files_with name text files) (files_midway name (lengthened_by text more) text i files) first now (Ok tt) → AppendsFront now.written after.written (name file) (more file) → Makes {T = Unit {0}} {E = E} (files_with name text files) (files_with name (lengthened_by text more) files) first after (Err fault)
  append_stops E fault text more made moved = record {
    files = λ start.
        call_behind first.written now.written after.written (AllMade (files_with name text files) start) (AllMade (files_midway name (lengthened_by text more) text i files) start) (PartlyMade (files_with name (lengthened_by text more) files) start) (λ old. Lengthens old (name file) moved.front)
        (λ old new middle added. part_at text more moved.front moved.rest start old new moved.is_front middle added)
        (made.files start)
        (appends_known now.written after.written (name file) moved.front moved.added);
  }

-- ---- where it ends between two files

fronts_midway : {F : Type 0} (name old new : F → List ℕ) → ((file : F) → IsFront (old file) (new file)) → (before later : List F) → AreFronts (files_with name new before ++ files_with name old later) (files_with name new (before ++ later))
fronts_midway name old new grows [] later = fronts_of_longer name old new grows later
fronts_midway name old new grows (one ∷ before) later = (refl, front_of_itself (new one), fronts_midway name old new grows before later)

-- what is known of all files is known of some of them
weaker : (first now : Option FileMap) (held got wanted : FileMap → Type 0) → ((new : FileMap) → got new → wanted new) → IfSome first (λ old. held old → IsSomeAnd now got) → IfSome first (λ old. held old → IsSomeAnd now wanted)
weaker None now held got wanted gives step = tt
weaker (Some old) None held got wanted gives step = λ is_held. absurd (step is_held)
weaker (Some old) (Some new) held got wanted gives step = λ is_held. gives new (step is_held)

-- where it ends with the files before a place, a front of all is made
pub stops_midway : {F : Type 0} (name : F → List ℕ) (files : List F) (i : ℕ) (first now : OutputsState) (E D : Type 0) (fault : E) (text more : F → List ℕ) → Makes {T = Unit {0}} {E = D} (files_with name text files) (files_midway name (lengthened_by text more) text i files) first now (Ok tt) → Makes {T = Unit {0}} {E = E} (files_with name text files) (files_with name (lengthened_by text more) files) first now (Err fault)
stops_midway name files i first now E D fault text more made = record {
  files = λ start.
      weaker first.written now.written (AllMade (files_with name text files) start) (AllMade (files_midway name (lengthened_by text more) text i files) start) (PartlyMade (files_with name (lengthened_by text more) files) start)
      (λ new all. record {
        made = files_midway name (lengthened_by text more) text i files;
        fronts = subst (λ (list : List _). AreFronts (files_midway name (lengthened_by text more) text i files) (files_with name (lengthened_by text more) list)) (take-append-drop i files)
            (fronts_midway name text (lengthened_by text more) (λ one. front_of_longer (text one) (more one)) (take i files) (drop i files));
        holds = λ one. inl (all one);
      })
      (made.files start);
}
