-- Finding files one after the other.
use Rattle.std.proofs.Common.{◌≡◌, ℕ, ◌+◌, List, [], ◌∷◌, ◌++◌, length, drop, Option, Some, None, Result, Ok, Err, refl, sym, ap, ◌∙◌, append_assoc, append-nil, subst, add-one, drop-cons}
use Rattle.std.specs.Prelude.{IfSome, map}
use Rattle.std.specs.List.{slice_get}
use Rattle.std.proofs.lemmas.Option.{slice_get_within, unwrap_or-slice_get}
use Rattle.kt_out.specs.InputFiles.{InputsState}
use Rattle.kt_out.specs.NamedFiles.{FileMap}
use Rattle.kt_out.specs.Writing.{SinkState}
use Rattle.kt_ends.specs.declared.status.Refusal.{Refusal}
use Rattle.kt_ends.specs.declared.tool_stop.ToolStop.{ToolStop}
use Rattle.kt_ends.specs.declared.tool_stop.ToolStop.TheVariants as stop
use Rattle.kt_kat.specs.Files.{found_file, and_files, files_of}
use Rattle.kt_kat.specs.Found.{IsFound, AreFound, FoundFirst, TellsRefusal}

-- the word at a place, and the words behind it
pub word_at : (words : List (List ℕ)) (n : ℕ) (word : List ℕ) → slice_get words n ≡ Some word → drop n words ≡ word ∷ drop (n + 1) words
word_at words n word is = rw (add-one, drop-cons words n [] (slice_get_within words n word is), ← unwrap_or-slice_get words n [], is) refl

-- files in front of what was found of others
abbrev pub before_files : List (List ℕ) → Result (List (List ℕ)) Refusal → Result (List (List ℕ)) Refusal
before_files front (Ok more) = Ok (front ++ more)
before_files front (Err why) = Err why

-- the files of the first names were found, with these sizes
pub record FoundSoFar (files : FileMap) (names later : List (List ℕ)) (sizes : List ℕ) : Type 0 where
  pub front : List (List ℕ)
  pub is : files_of names files ≡ before_files front (files_of later files)
  pub sized : sizes ≡ map length front

none_before : (found : Result (List (List ℕ)) Refusal) → found ≡ before_files [] found
none_before (Ok more) = refl
none_before (Err why) = refl

pub found_first : (held : Option FileMap) (names : List (List ℕ)) → IfSome held (λ files. FoundSoFar files names names [])
found_first None names = tt
found_first (Some files) names = record { front = []; is = none_before (files_of names files); sized = refl }

before_more : (front : List (List ℕ)) (bytes : List ℕ) (found : Result (List (List ℕ)) Refusal) → before_files front (and_files (Ok bytes) found) ≡ before_files (front ++ bytes ∷ []) found
before_more front bytes (Ok more) = ap (λ (all : List (List ℕ)). Ok all) (sym (append_assoc front (bytes ∷ []) more))
before_more front bytes (Err why) = refl

more_sized : (front : List (List ℕ)) (bytes : List ℕ) → map length front ++ length bytes ∷ [] ≡ map length (front ++ bytes ∷ [])
more_sized [] bytes = refl
more_sized (one ∷ front) bytes = ap (λ (sizes : List ℕ). length one ∷ sizes) (more_sized front bytes)

found_more : (files : FileMap) (names later : List (List ℕ)) (name : List ℕ) (sizes : List ℕ) (size : ℕ) → FoundSoFar files names (name ∷ later) sizes → IsFound name (files name) size → FoundSoFar files names later (sizes ++ size ∷ [])
found_more files names later name sizes size so one = record {
  front = so.front ++ one.bytes ∷ [];
  is = so.is ∙ ap (λ (found : Result (List ℕ) Refusal). before_files so.front (and_files found (files_of later files))) one.found ∙ before_more so.front one.bytes (files_of later files);
  sized = ap (λ (front : List ℕ). front ++ size ∷ []) so.sized ∙ ap (λ (n : ℕ). map length so.front ++ n ∷ []) one.sized ∙ more_sized so.front one.bytes;
}

-- a file more was found
pub next_found : (held : Option FileMap) (names words : List (List ℕ)) (word : List ℕ) (n : ℕ) (sizes : List ℕ) (size : ℕ) → slice_get words n ≡ Some word → IfSome held (λ files. FoundSoFar files names (drop n words) sizes) → IfSome held (λ files. IsFound word (files word) size) → IfSome held (λ files. FoundSoFar files names (drop (n + 1) words) (sizes ++ size ∷ []))
next_found None names words word n sizes size here so one = tt
next_found (Some files) names words word n sizes size here so one =
    found_more files names (drop (n + 1) words) word sizes size (subst (λ (later : List (List ℕ)). FoundSoFar files names later sizes) (word_at words n word here) so) one

found_bad : (files : FileMap) (names later : List (List ℕ)) (name : List ℕ) (sizes : List ℕ) (why : Refusal) → FoundSoFar files names (name ∷ later) sizes → found_file name (files name) ≡ Err why → files_of names files ≡ Err why
found_bad files names later name sizes why so bad = so.is ∙ ap (λ (found : Result (List ℕ) Refusal). before_files so.front (and_files found (files_of later files))) bad

-- a file is refused
pub next_refused : (held : Option FileMap) (names words : List (List ℕ)) (word : List ℕ) (n : ℕ) (sizes : List ℕ) (why : ToolStop) → slice_get words n ≡ Some word → IfSome held (λ files. FoundSoFar files names (drop n words) sizes) → IfSome held (λ files. TellsRefusal (found_file word (files word)) why) → IfSome held (λ files. TellsRefusal (files_of names files) why)
next_refused None names words word n sizes why here so tells = tt
next_refused (Some files) names words word n sizes (stop.Refused why) here so tells =
    found_bad files names (drop (n + 1) words) word sizes why (subst (λ (later : List (List ℕ)). FoundSoFar files names later sizes) (word_at words n word here) so) tells
next_refused (Some files) names words word n sizes stop.ReadFault here so tells = tt
next_refused (Some files) names words word n sizes stop.WriteFault here so tells = tt
next_refused (Some files) names words word n sizes stop.NoMemory here so tells = tt

-- all were found
pub all_found : (held : Option FileMap) (names later : List (List ℕ)) (sizes : List ℕ) → later ≡ [] → IfSome held (λ files. FoundSoFar files names later sizes) → IfSome held (λ files. AreFound names files sizes)
all_found None names later sizes none so = tt
all_found (Some files) names later sizes none so = whole (subst (λ (rest : List (List ℕ)). FoundSoFar files names rest sizes) none so)
  where
    whole : FoundSoFar files names [] sizes → AreFound names files sizes
    whole so = record { contents = so.front ++ []; found = so.is; sized = so.sized ∙ ap (map length) (sym (append-nil so.front)) }

-- ---- what was not due

-- where the sink is as it was
pub sink_kept : (names : List (List ℕ)) (inputs : InputsState) (sink : SinkState) → FoundFirst names inputs sink sink
sink_kept names inputs sink = by inputs.held
  where
    by : (held : Option FileMap) → IfSome held (λ files. (why : Refusal) → files_of names files ≡ Err why → sink ≡ sink)
    by None = tt
    by (Some files) = λ why refused. refl

-- files that were found are not refused
pub found_due : (names : List (List ℕ)) (inputs : InputsState) (sizes : List ℕ) (before after : SinkState) → IfSome inputs.held (λ files. AreFound names files sizes) → FoundFirst names inputs before after
found_due names inputs sizes before after found = by inputs.held found
  where
    by : (held : Option FileMap) → IfSome held (λ files. AreFound names files sizes) → IfSome held (λ files. (why : Refusal) → files_of names files ≡ Err why → after ≡ before)
    by None are = tt
    by (Some files) are = λ why refused. let clash : Ok are.contents ≡ Err why = sym are.found ∙ refused in cc
