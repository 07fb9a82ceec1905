-- The words of a tool, from left to right.
-- The rules: docs/COMMANDS.md, "Words".
use Rattle.std.specs.Prelude.{ℕ, ◌+◌, List, [], ◌∷◌, Result, Ok, Err, length, drop}
use Rattle.kt_words.specs.Given.{none_given, with_word}
use Rattle.kt_words.specs.Judging.{refused_word, finished}
use Rattle.kt_words.specs.declared.given.Given.{Given}
use Rattle.kt_words.specs.declared.stop.WordCause.{WordCause}
use Rattle.kt_words.specs.declared.stop.WordStop.{WordStop}
use Rattle.kt_words.specs.declared.tool.Tool.{Tool}

-- goes on by what a word of this number gave
abbrev pub and_on : ℕ → (Given → Result Given WordStop) → Result Given WordCause → Result Given WordStop
and_on word next (Ok given) = next given
and_on word next (Err cause) = refused_word word cause

-- what the words from this number on add to what was given, or the first faulty one
unfoldable pub read_from : Tool → Given → ℕ → List (List ℕ) → Result Given WordStop
read_from tool given word [] = Ok given
read_from tool given word (text ∷ texts) = and_on word (λ next. read_from tool next (word + 1) texts) (with_word given tool word text)

abbrev pub unless_wrong : Given → Result Unit WordStop → Result Given WordStop
unless_wrong given (Ok nothing) = Ok given
unless_wrong given (Err stop) = Err stop

abbrev pub finish_read : Tool → ℕ → Result Given WordStop → Result Given WordStop
finish_read tool count (Ok given) = unless_wrong given (finished given tool count)
finish_read tool count (Err stop) = Err stop

-- what the words behind the first say to a tool, or the first faulty one
abbrev pub given_by : Tool → List (List ℕ) → Result Given WordStop
given_by tool words = finish_read tool (length words) (read_from tool none_given 2 (drop 1 words))
