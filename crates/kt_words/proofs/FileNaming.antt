-- The words of a call of `kat` are names of files.
use Rattle.std.proofs.Common.{◌≡◌, ◌+◌, ℕ, Bool, true, false, List, [], ◌∷◌, length, drop, Option, Some, None, Result, Ok, Err, refl, subst, arith}
use Rattle.std.specs.Prelude.{nat_lt, not, ◌==◌, ◌||◌, IfSome, if◌then◌else◌, slice_index, All}
use Rattle.std.proofs.lemmas.Bool.{eqb-true, ltb-false}
use Rattle.std.proofs.lemmas.List.Elements.{All-cons}
use Rattle.kt_words.specs.Command.{command_of, financial_command, by_tool, command_by, command_from, to_text, part_command, table_or_first, number_or_0, word_or_0}
use Rattle.kt_words.specs.FileNames.{BeginsWithDash, IsFileName, AreFileNames}
use Rattle.kt_words.specs.Fits.{FitsTable}
use Rattle.kt_words.specs.Given.{given_at, is_given, none_given, option_named, with_own, with_next, with_plain, with_option, with_word}
use Rattle.kt_eve.specs.Parts.{has_part}
use Rattle.kt_words.specs.Judging.{refused_word}
use Rattle.kt_words.specs.Reading.{read_from, and_on, finish_read, given_by}
use Rattle.kt_words.specs.Rows.{letter_of}
use Rattle.kt_words.specs.Tools.{known_tool}
use Rattle.kt_words.specs.declared.command.Command.{Command}
use Rattle.kt_words.specs.declared.command.Command.TheVariants as command
use Rattle.kt_words.specs.declared.given.Awaited.{Awaited}
use Rattle.kt_words.specs.declared.given.Given.{Given}
use Rattle.kt_words.specs.declared.stop.WordCause.{WordCause}
use Rattle.kt_words.specs.declared.stop.WordCause.TheVariants.{UnknownOption, BadValue, BadPart}
use Rattle.kt_words.specs.declared.stop.WordStop.{WordStop}
use Rattle.kt_words.specs.declared.tool.Tool.{Tool}
use Rattle.kt_words.specs.declared.tool.Tool.TheVariants as tool
use Rattle.kt_rec.specs.declared.table.Table.{Table}
use Rattle.kt_rec.specs.declared.table.Table.TheVariants as table
use Rattle.kt_words.proofs.Fitting.{word_kept, none_fits}

-- ---- each word is a name

-- a tool without options waits for no value
no_wait : (awaited : Option Awaited) → IfSome awaited (λ one. option_named tool.Kat (letter_of one.option) ≡ Some one.option) → awaited ≡ None
no_wait None named = refl
no_wait (Some one) named = cc

-- a word that begins with `-` is no plain word
dashed : (text : List ℕ) → BeginsWithDash text → (length text == 0 || not (slice_index text 0 == 45)) ≡ false
dashed [] dash = absurd dash
dashed (letter ∷ letters) dash = by_test (length (letter ∷ letters) == 0) refl
  where
    longer : length (letter ∷ letters) ≡ 0 → ⊥
    longer none = omega (arith, none)

    by_test : (none : Bool) → (length (letter ∷ letters) == 0) ≡ none → (none || not (letter == 45)) ≡ false
    by_test true e = absurd (longer (eqb-true (length (letter ∷ letters)) 0 e))
    by_test false e = rw dash refl

own_name : (given next : Given) (word : ℕ) (text : List ℕ) → with_own given tool.Kat word text ≡ Ok next → BeginsWithDash text → ⊥
own_name given next word text is dash = by_tests (length text == 0 || not (slice_index text 0 == 45)) (length text == 1) (dashed text dash) is
  where
    by_tests : (plain short : Bool) → plain ≡ false → (if plain then with_plain given tool.Kat word text else (if short then Err UnknownOption else with_option given tool.Kat word (slice_index text 1) (drop 2 text))) ≡ Ok next → ⊥
    by_tests true short like h = cc
    by_tests false true like h = cc
    by_tests false false like h = cc

word_name : (given next : Given) (word : ℕ) (text : List ℕ) → FitsTable tool.Kat given → with_word given tool.Kat word text ≡ Ok next → IsFileName text
word_name given next word text fits is = by_test (nat_lt 255 (length text)) refl is
  where
    by_test : (long : Bool) → nat_lt 255 (length text) ≡ long → (if long then Err BadValue else with_next given.awaited given tool.Kat word text) ≡ Ok next → IsFileName text
    by_test true e h = cc
    by_test false e h = (ltb-false 255 (length text) e, own_name given next word text (subst (λ awaited. with_next awaited given tool.Kat word text ≡ Ok next) (no_wait given.awaited fits.awaited) h))

all_names : (given : Given) (word : ℕ) (texts : List (List ℕ)) (last : Given) → FitsTable tool.Kat given → read_from tool.Kat given word texts ≡ Ok last → All IsFileName texts
unfolding read_from
all_names given word [] last fits is = λ k d within. omega (arith, within)
all_names given word (text ∷ texts) last fits is = by_word (with_word given tool.Kat word text) (λ next kept later. all_names next (word + 1) texts last kept later) refl is
  where
    by_word : (read : Result Given WordCause) → ((next : Given) → FitsTable tool.Kat next → read_from tool.Kat next (word + 1) texts ≡ Ok last → All IsFileName texts) → with_word given tool.Kat word text ≡ read → and_on word (λ next. read_from tool.Kat next (word + 1) texts) read ≡ Ok last → All IsFileName (text ∷ texts)
    by_word (Ok next) later e h = All-cons IsFileName text texts (word_name given next word text fits e) (later next (word_kept tool.Kat given fits word text next e) h)
    by_word (Err cause) later e h = cc

-- ---- there is one

read_names : (word : List ℕ) (names : List (List ℕ)) (given : Given) → given_by tool.Kat (word ∷ names) ≡ Ok given → AreFileNames names
unfolding read_from
read_names word [] given is = cc
read_names word (name ∷ names) given is = (omega arith, by_read (read_from tool.Kat none_given 2 (name ∷ names)) refl is)
  where
    by_read : (read : Result Given WordStop) → read_from tool.Kat none_given 2 (name ∷ names) ≡ read → finish_read tool.Kat (length (word ∷ name ∷ names)) read ≡ Ok given → All IsFileName (name ∷ names)
    by_read (Ok one) e h = all_names none_given 2 (name ∷ names) one (none_fits tool.Kat) e
    by_read (Err stop) e h = cc

-- ---- no other tool is the command

text_is_other : (t : Table) → ◌≡◌ {A = Result Command WordStop} (Ok (to_text t)) (Ok command.Kat) → ⊥
text_is_other table.Footprint is = cc
text_is_other t is = cc

losses_are_other : (given : Given) → ◌≡◌ {A = Result Command WordStop} (Ok (financial_command given)) (Ok command.Kat) → ⊥
losses_are_other given is = by_test (is_given given 110) is
  where
    by_test : (net : Bool) → ◌≡◌ {A = Result Command WordStop} (Ok (if net then command.FmcalcNet (number_or_0 (given_at given 97)) (number_or_0 (given_at given 112)) else command.Fmcalc (number_or_0 (given_at given 97)))) (Ok command.Kat) → ⊥
    by_test true h = cc
    by_test false h = cc

part_is_other : (part parts word : ℕ) → part_command part parts word ≡ Ok command.Kat → ⊥
part_is_other part parts word is = by_test (has_part part parts) is
  where
    by_test : (there : Bool) → (if there then Ok (command.Eve part parts) else refused_word word BadPart) ≡ Ok command.Kat → ⊥
    by_test true h = cc
    by_test false h = cc

pub kat_names : (words : List (List ℕ)) → command_of words ≡ Ok command.Kat → AreFileNames (drop 1 words)
kat_names [] is = cc
kat_names (word ∷ names) is = by_known (known_tool word) is
  where
    by_given : (t : Tool) (given : Given) → given_by t (word ∷ names) ≡ Ok given → command_from t given ≡ Ok command.Kat → AreFileNames names
    by_given tool.Kat given e h = read_names word names given e
    by_given tool.Eve given e h = absurd (part_is_other (number_or_0 given.first) (number_or_0 given.second) (word_or_0 given.first) h)
    by_given tool.Fmcalc given e h = absurd (losses_are_other given h)
    by_given tool.Tocsv given e h = absurd (text_is_other (table_or_first given.first) h)
    by_given t given e h = cc

    by_read : (t : Tool) (read : Result Given WordStop) → given_by t (word ∷ names) ≡ read → command_by t read ≡ Ok command.Kat → AreFileNames names
    by_read t (Ok given) e h = by_given t given e h
    by_read t (Err stop) e h = cc

    by_known : (known : Result Tool WordCause) → by_tool known (word ∷ names) ≡ Ok command.Kat → AreFileNames names
    by_known (Ok t) h = by_read t (given_by t (word ∷ names)) refl h
    by_known (Err cause) h = cc
