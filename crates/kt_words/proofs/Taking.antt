-- The words of a call, one after the other.
use Rattle.std.proofs.Common.{◌≡◌, ℕ, ◌+◌, ◌<◌, ◌≤◌, List, ◌∷◌, length, drop, get_or, [], Some, Result, Ok, Err, refl, sym, ap, ◌∙◌, drop-cons, add-one}
use Rattle.std.specs.List.{slice_get}
use Rattle.std.proofs.lemmas.List.{drop_all}
use Rattle.std.proofs.lemmas.Option.{slice_get_within, unwrap_or-slice_get}
use Rattle.kt_words.specs.Command.{command_of, by_tool}
use Rattle.kt_words.specs.Tools.{known_tool}
use Rattle.kt_words.specs.Given.{none_given, with_word}
use Rattle.kt_words.specs.Judging.{refused_word, finished}
use Rattle.kt_words.specs.Reading.{read_from, finish_read, given_by, unless_wrong}
use Rattle.kt_words.specs.declared.given.Given.{Given}
use Rattle.kt_words.specs.declared.stop.WordCause.{WordCause}
use Rattle.kt_words.specs.declared.stop.WordStop.{WordStop}
use Rattle.kt_words.specs.declared.tool.Tool.{Tool}

-- the element at a place, and what comes after it
drop-step : {A : Type 0} (xs : List A) (i : ℕ) (d : A) → i < length xs → drop i xs ≡ get_or xs i d ∷ drop (i + 1) xs
drop-step xs i d here = rw add-one (drop-cons xs i d here)

-- the words from a place on begin with that one
word_at : (words : List (List ℕ)) (n : ℕ) (word : List ℕ) → slice_get words n ≡ Some word → drop n words ≡ word ∷ drop (n + 1) words
word_at words n word is = rw (drop-step words n word (slice_get_within words n word is), ← unwrap_or-slice_get words n word, is) refl

-- reading on from a word that is not faulty
pub read_more : (tool : Tool) (given next : Given) (n : ℕ) (words : List (List ℕ)) (word : List ℕ) → slice_get words n ≡ Some word → with_word given tool (n + 1) word ≡ Ok next → read_from tool given (n + 1) (drop n words) ≡ read_from tool next ((n + 1) + 1) (drop (n + 1) words)
unfolding read_from
read_more tool given next n words word here is = rw (word_at words n word here, is) refl

-- a faulty word is the first
read_faulty : (tool : Tool) (given : Given) (n : ℕ) (words : List (List ℕ)) (word : List ℕ) (cause : WordCause) → slice_get words n ≡ Some word → with_word given tool (n + 1) word ≡ Err cause → read_from tool given (n + 1) (drop n words) ≡ refused_word (n + 1) cause
unfolding read_from
read_faulty tool given n words word cause here is = rw (word_at words n word here, is) refl

-- behind the last word all was read
read_all_words : (tool : Tool) (given : Given) (n : ℕ) (words : List (List ℕ)) → length words ≤ n → read_from tool given (n + 1) (drop n words) ≡ Ok given
unfolding read_from
read_all_words tool given n words past = rw (drop_all n words past) refl

-- a word is faulty
pub faulty_word : (words : List (List ℕ)) (later : List ℕ) (tool : Tool) (given : Given) (n : ℕ) (cause : WordCause)
    → read_from tool none_given 2 (drop 1 words) ≡ read_from tool given (n + 1) (drop n words) → slice_get words n ≡ Some later → with_word given tool (n + 1) later ≡ Err cause → given_by tool words ≡ refused_word (n + 1) cause
faulty_word words later tool given n cause so_far here wrong = ap (finish_read tool (length words)) (so_far ∙ read_faulty tool given n words later cause here wrong)

-- without a faulty word, all words together are judged
pub sound_words : (words : List (List ℕ)) (tool : Tool) (given : Given) (n count : ℕ) (end : Result Unit WordStop)
    → read_from tool none_given 2 (drop 1 words) ≡ read_from tool given (n + 1) (drop n words) → count ≡ length words → length words ≤ n → end ≡ finished given tool count → given_by tool words ≡ unless_wrong given end
sound_words words tool given n count end so_far is past judged =
    ap (finish_read tool (length words)) (so_far ∙ read_all_words tool given n words past) ∙ ap (unless_wrong given) (ap (finished given tool) (sym is) ∙ sym judged)

-- the command by the tool of the first word
pub command_by_first : (words : List (List ℕ)) (word : List ℕ) (known : Result Tool WordCause) → slice_get words 0 ≡ Some word → known ≡ known_tool word → command_of words ≡ by_tool known words
command_by_first [] word known first is = cc
command_by_first (one ∷ rest) word known first is =
    let same : one ≡ word = cc in
    ap (λ (head : List ℕ). by_tool (known_tool head) (one ∷ rest)) same ∙ ap (λ (tool : Result Tool WordCause). by_tool tool (one ∷ rest)) (sym is)
