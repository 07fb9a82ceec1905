-- What was read of the words of a tool fits its table.
use Rattle.std.proofs.Common.{◌≡◌, ◌≤◌, ℕ, ◌+◌, Bool, true, false, List, [], ◌∷◌, length, drop, Option, Some, None, Result, Ok, Err, refl, sym, ap, ◌∙◌, subst, arith, nat_eq, cond}
use Rattle.std.specs.Prelude.{find, nat_le, nat_lt, codes, ◌-◌, take, replicate, slice_index_or, slice_set, IfOk, not, ◌==◌, ◌&&◌, ◌||◌, IfSome, is_some, if◌then◌else◌, slice_index}
use Rattle.std.specs.Str.{bytes_eq}
use Rattle.std.proofs.lemmas.Bool.{eqb-true, eqb-false, leb-true, ltb-true, ltb-false}
use Rattle.std.proofs.lemmas.List.{get_or-set_other, get_or_past, get_or-replicate, length-set, length-replicate}
use Rattle.std.proofs.lemmas.Grind.{get_or-set_at}
use Rattle.kt_words.specs.Command.{number_in, number_or_0}
use Rattle.kt_words.specs.Fits.{IsNumber, Fits, FitsWord, FitsPlace, FitsTable, IsRead}
use Rattle.kt_words.specs.Given.{none_given, given_at, is_given, word_of, option_named, with_value, value_or_bad, with_text, with_flag, with_valued, by_form, row_or_unknown, with_option, with_place, place_of, place_or_bad, plain_by, with_plain, with_own, with_next, with_word}
use Rattle.kt_words.specs.Judging.{finished, unless_awaited, is_missing, is_nought, is_zero, lacks_some, lacks_by_some_rule, refused_word, refuses, broken_rule, word_by_rule, or_else, unless_clash, clash}
use Rattle.kt_words.specs.Reading.{read_from, and_on, finish_read, unless_wrong, given_by}
use Rattle.kt_words.specs.Rows.{letter_of, form_of, form_at, wants_at}
use Rattle.kt_words.specs.Table.{options_of, plain_of}
use Rattle.kt_words.specs.Values.{value_of, in_range, number_of_word, stage_digit, stage_named}
use Rattle.kt_words.specs.declared.rows.Condition.TheVariants.{Always, Absent, Zero}
use Rattle.kt_words.specs.declared.given.Awaited.{Awaited}
use Rattle.kt_words.specs.declared.given.Given.{Given}
use Rattle.kt_words.specs.declared.given.GivenWord.{GivenWord}
use Rattle.kt_words.specs.declared.rows.Form.{Form}
use Rattle.kt_words.specs.declared.rows.Form.TheVariants as form
use Rattle.kt_words.specs.declared.rows.OptionRow.{OptionRow}
use Rattle.kt_words.specs.declared.rows.OptionRow.TheVariants.{Free, Needed}
use Rattle.kt_words.specs.declared.rows.Rule.TheVariants.{RefusedWhere}
use Rattle.kt_words.specs.declared.stop.WordCause.{WordCause}
use Rattle.kt_words.specs.declared.stop.WordCause.TheVariants.{UnknownOption, Repeated, BadValue, Missing}
use Rattle.kt_words.specs.declared.stop.WordStop.{WordStop}
use Rattle.kt_words.specs.declared.tool.Tool.{Tool}
use Rattle.kt_words.specs.declared.tool.Tool.TheVariants.{Fmcalc, Gulcalc}
use Rattle.kt_words.specs.declared.value.Value.{Value}
use Rattle.kt_words.specs.declared.value.Value.TheVariants as value

-- ---- values

-- the number that a word of its form says is within the bounds
number_fits : (least most : ℕ) (found : Option ℕ) (said : Value) → in_range least most found ≡ Some said → IsNumber least most said
number_fits least most None said is = cc
number_fits least most (Some number) said is = by_tests (nat_le least number) (nat_le number most) refl refl is
  where
    by_tests : (low high : Bool) → nat_le least number ≡ low → nat_le number most ≡ high → (if (low && high) then Some (value.Number number) else None) ≡ Some said → IsNumber least most said
    by_tests true true l h e = subst (λ found. IfSome found (IsNumber least most)) e (leb-true least number l, leb-true number most h)
    by_tests true false l h e = cc
    by_tests false high l h e = cc

-- the stage that a word of its form says is from 1 to 9
stage_fits : (word : List ℕ) (said : Value) → stage_named word ≡ Some said → IsNumber 1 9 said
stage_fits word said is = by_form (length word == 4 && bytes_eq (take 3 word) (codes "RI_")) is
  where
    by_digit : (digit : ℕ) (low high : Bool) → nat_le 49 digit ≡ low → nat_le digit 57 ≡ high → (if (low && high) then Some (value.Number (digit - 48)) else None) ≡ Some said → IsNumber 1 9 said
    by_digit digit true true l h e = subst (λ found. IfSome found (IsNumber 1 9)) e (omega (arith, leb-true 49 digit l), omega (arith, leb-true digit 57 h))
    by_digit digit true false l h e = cc
    by_digit digit false high l h e = cc

    by_form : (formed : Bool) → (if formed then stage_digit (slice_index word 3) else None) ≡ Some said → IsNumber 1 9 said
    by_form true e = by_digit (slice_index word 3) (nat_le 49 (slice_index word 3)) (nat_le (slice_index word 3) 57) refl refl e
    by_form false e = cc

value_fits : (f : Form) (word : List ℕ) (said : Value) → value_of f word ≡ Some said → Fits f said
value_fits (form.Number least most) word said is = number_fits least most (number_of_word word) said is
value_fits form.Stage word said is = stage_fits word said is
value_fits f word said is = tt

-- ---- options

-- an option that was found has the letter
found_letter : (letter : ℕ) (rows : List OptionRow) (row : OptionRow) → find (λ one. letter_of one == letter) rows ≡ Some row → letter_of row ≡ letter
found_letter letter [] row is = cc
found_letter letter (one ∷ rows) row is = by_test (letter_of one == letter) (λ later. found_letter letter rows row later) refl is
  where
    by_test : (b : Bool) → (find (λ other. letter_of other == letter) rows ≡ Some row → letter_of row ≡ letter) → (letter_of one == letter) ≡ b → cond b (Some one) (find (λ other. letter_of other == letter) rows) ≡ Some row → letter_of row ≡ letter
    by_test true later e h = subst (λ found. IfSome found (λ other. letter_of other ≡ letter)) h (eqb-true (letter_of one) letter e)
    by_test false later e h = later h

-- it is the option of its own letter
names_itself : (tool : Tool) (letter : ℕ) (row : OptionRow) → option_named tool letter ≡ Some row → option_named tool (letter_of row) ≡ Some row
names_itself tool letter row is = ap (option_named tool) (found_letter letter (options_of tool) row is) ∙ is

-- what stands at a letter behind an entry: the entry, nothing, or what stood there
entry_fits : (P : Option GivenWord → Type 0) (options : List (Option GivenWord)) (at letter : ℕ) (entry : GivenWord) → P None → (letter ≡ at → P (Some entry)) → P (slice_index_or options letter None) → P (slice_index_or (slice_set options at (Some entry)) letter None)
entry_fits P options at letter entry none new old = by_test (nat_eq letter at) refl
  where
    within : (b : Bool) → nat_lt at (length options) ≡ b → letter ≡ at → P (slice_index_or (slice_set options at (Some entry)) letter None)
    within true e same = subst P (sym (get_or-set_at options at letter (Some entry) None same (ltb-true at (length options) e))) (new same)
    within false e same = subst P (sym (ap (λ l. slice_index_or (slice_set options at (Some entry)) l None) same ∙ get_or_past (slice_set options at (Some entry)) at None (omega (arith, ltb-false at (length options) e, length-set options at (Some entry))))) none

    by_test : (b : Bool) → nat_eq letter at ≡ b → P (slice_index_or (slice_set options at (Some entry)) letter None)
    by_test true e = within (nat_lt at (length options)) refl (eqb-true letter at e)
    by_test false e = subst P (sym (get_or-set_other options at letter (Some entry) None (eqb-false letter at e))) old

some_is : {A : Type 0} (P : A → Type 0) (one other : A) → Some one ≡ Some other → P one → P other
some_is P one other is p = subst (λ found. IfSome found P) is p

-- ---- one word more

module _ (tool : Tool) (given : Given) (fits : FitsTable tool given) where
  value_kept : (row : OptionRow) (word : ℕ) (said : Value) → option_named tool (letter_of row) ≡ Some row → Fits (form_of row) said → FitsTable tool (with_value given tool row word said)
  value_kept row word said named is = record {
    options = λ letter other found. entry_fits (FitsWord (form_of other)) given.options (letter_of row) letter (record { word = word; value = said }) tt (λ same. some_is (λ one. Fits (form_of one) said) row other (sym named ∙ ap (option_named tool) (sym same) ∙ found) is) (fits.options letter other found);
    awaited = tt;
    first = fits.first;
    second = fits.second;
    third = fits.third;
  }

  text_kept : (row : OptionRow) (word : ℕ) (text : List ℕ) (next : Given) → option_named tool (letter_of row) ≡ Some row → with_text given tool row word text ≡ Ok next → FitsTable tool next
  text_kept row word text next named is = by_value (value_of (form_of row) text) refl is
    where
      by_value : (found : Option Value) → value_of (form_of row) text ≡ found → value_or_bad given tool row word found ≡ Ok next → FitsTable tool next
      by_value None e h = cc
      by_value (Some said) e h = subst (λ (read : Result Given WordCause). IfOk read (FitsTable tool)) h (value_kept row word said named (value_fits (form_of row) text said e))

  -- what a word gives is kept where it is one of these
  ok_kept : (one next : Given) → ◌≡◌ {A = Result Given WordCause} (Ok one) (Ok next) → FitsTable tool one → FitsTable tool next
  ok_kept one next is kept = subst (λ (read : Result Given WordCause). IfOk read (FitsTable tool)) is kept

  flag_kept : (row : OptionRow) (word : ℕ) (attached : List ℕ) (next : Given) → form_of row ≡ form.Flag → option_named tool (letter_of row) ≡ Some row → with_flag given tool row word attached ≡ Ok next → FitsTable tool next
  flag_kept row word attached next flag named is = by_tests (not (length attached == 0)) (is_given given (letter_of row)) is
    where
      by_tests : (longer twice : Bool) → (if longer then Err UnknownOption else (if twice then Err Repeated else Ok (with_value given tool row word value.Bare))) ≡ Ok next → FitsTable tool next
      by_tests true twice h = cc
      by_tests false true h = cc
      by_tests false false h = ok_kept _ next h (value_kept row word value.Bare named (subst (λ f. Fits f value.Bare) (sym flag) tt))

  valued_kept : (row : OptionRow) (word : ℕ) (attached : List ℕ) (next : Given) → option_named tool (letter_of row) ≡ Some row → with_valued given tool row word attached ≡ Ok next → FitsTable tool next
  valued_kept row word attached next named is = by_tests (is_given given (letter_of row)) (length attached == 0) is
    where
      by_tests : (twice alone : Bool) → (if twice then Err Repeated else (if alone then Ok (record given { awaited = Some (record { option = row; word = word }) }) else with_text given tool row word attached)) ≡ Ok next → FitsTable tool next
      by_tests true alone h = cc
      by_tests false true h = ok_kept _ next h (record { options = fits.options; awaited = named; first = fits.first; second = fits.second; third = fits.third })
      by_tests false false h = text_kept row word attached next named h

  form_kept : (f : Form) (row : OptionRow) (word : ℕ) (attached : List ℕ) (next : Given) → form_of row ≡ f → option_named tool (letter_of row) ≡ Some row → by_form f given tool row word attached ≡ Ok next → FitsTable tool next
  form_kept form.Flag row word attached next same named is = flag_kept row word attached next same named is
  form_kept f row word attached next same named is = valued_kept row word attached next named is

  option_kept : (word letter : ℕ) (attached : List ℕ) (next : Given) → with_option given tool word letter attached ≡ Ok next → FitsTable tool next
  option_kept word letter attached next is = by_row (option_named tool letter) refl is
    where
      by_row : (found : Option OptionRow) → option_named tool letter ≡ found → row_or_unknown found given tool word attached ≡ Ok next → FitsTable tool next
      by_row None e h = cc
      by_row (Some row) e h = form_kept (form_of row) row word attached next refl (names_itself tool letter row e) h

  -- a plain word changes no option, and it has the form of its place
  place_kept : (entry : GivenWord) → FitsPlace tool (place_of given) (Some entry) → FitsTable tool (with_place given entry)
  place_kept entry is = by_tests (place_of given == 0) (place_of given == 1) (place_of given == 2) refl refl refl
    where
      -- the form of the place that the test says
      at : (place : ℕ) → (place_of given == place) ≡ true → FitsPlace tool place (Some entry)
      at place same = subst (λ one. FitsPlace tool one (Some entry)) (eqb-true (place_of given) place same) is

      by_tests : (none one two : Bool) → (place_of given == 0) ≡ none → (place_of given == 1) ≡ one → (place_of given == 2) ≡ two → FitsTable tool (if none then record given { first = Some entry } else (if one then record given { second = Some entry } else (if two then record given { third = Some entry } else given)))
      by_tests true one two e f h = record { options = fits.options; awaited = fits.awaited; first = at 0 e; second = fits.second; third = fits.third }
      by_tests false true two e f h = record { options = fits.options; awaited = fits.awaited; first = fits.first; second = at 1 f; third = fits.third }
      by_tests false false true e f h = record { options = fits.options; awaited = fits.awaited; first = fits.first; second = fits.second; third = at 2 h }
      by_tests false false false e f h = fits

  plain_kept : (word : ℕ) (text : List ℕ) (next : Given) → with_plain given tool word text ≡ Ok next → FitsTable tool next
  plain_kept word text next is = by_form_at (form_at (plain_of tool) (place_of given)) refl is
    where
      by_value : (f : Form) (found : Option Value) → form_at (plain_of tool) (place_of given) ≡ Some f → value_of f text ≡ found → place_or_bad given word found ≡ Ok next → FitsTable tool next
      by_value f None e v h = cc
      by_value f (Some said) e v h = ok_kept _ next h (place_kept (record { word = word; value = said }) (subst (λ found. IfSome found (λ form. Fits form said)) (sym e) (value_fits f text said v)))

      by_form_at : (found : Option Form) → form_at (plain_of tool) (place_of given) ≡ found → plain_by found given word text ≡ Ok next → FitsTable tool next
      by_form_at None e h = cc
      by_form_at (Some f) e h = by_value f (value_of f text) e refl h

  own_kept : (word : ℕ) (text : List ℕ) (next : Given) → with_own given tool word text ≡ Ok next → FitsTable tool next
  own_kept word text next is = by_tests (length text == 0 || not (slice_index text 0 == 45)) (length text == 1) is
    where
      by_tests : (plain short : Bool) → (if plain then with_plain given tool word text else (if short then Err UnknownOption else with_option given tool word (slice_index text 1) (drop 2 text))) ≡ Ok next → FitsTable tool next
      by_tests true short h = plain_kept word text next h
      by_tests false true h = cc
      by_tests false false h = option_kept word (slice_index text 1) (drop 2 text) next h

  next_kept : (awaited : Option Awaited) (word : ℕ) (text : List ℕ) (next : Given) → IfSome awaited (λ one. option_named tool (letter_of one.option) ≡ Some one.option) → with_next awaited given tool word text ≡ Ok next → FitsTable tool next
  next_kept (Some one) word text next named is = text_kept one.option one.word text next named is
  next_kept None word text next named is = own_kept word text next is

  pub word_kept : (word : ℕ) (text : List ℕ) (next : Given) → with_word given tool word text ≡ Ok next → FitsTable tool next
  word_kept word text next is = by_test (nat_lt 255 (length text)) is
    where
      by_test : (long : Bool) → (if long then Err BadValue else with_next given.awaited given tool word text) ≡ Ok next → FitsTable tool next
      by_test true h = cc
      by_test false h = next_kept given.awaited word text next fits.awaited h

-- ---- all words

-- no word gave an option
abbrev no_word : Option GivenWord
no_word = None

-- before the first word nothing was given
pub none_fits : (tool : Tool) → FitsTable tool none_given
none_fits tool = record {
  options = λ letter row found. subst (FitsWord (form_of row)) (sym (nothing letter)) tt;
  awaited = tt;
  first = none_at 0;
  second = none_at 1;
  third = none_at 2;
}
  where
    nothing : (letter : ℕ) → slice_index_or (replicate 256 no_word) letter no_word ≡ no_word
    nothing letter = by_test (nat_lt letter 256) refl
      where
        by_test : (b : Bool) → nat_lt letter 256 ≡ b → slice_index_or (replicate 256 no_word) letter no_word ≡ no_word
        by_test true e = get_or-replicate 256 letter no_word no_word (ltb-true letter 256 e)
        by_test false e = get_or_past (replicate 256 no_word) letter no_word (omega (arith, ltb-false letter 256 e, length-replicate 256 no_word))

    none_at : (place : ℕ) → FitsPlace tool place None
    none_at place = by_form (form_at (plain_of tool) place)
      where
        by_form : (found : Option Form) → IfSome found (λ form. FitsWord form None)
        by_form None = tt
        by_form (Some form) = tt

all_kept : (tool : Tool) (given : Given) (word : ℕ) (texts : List (List ℕ)) (last : Given) → FitsTable tool given → read_from tool given word texts ≡ Ok last → FitsTable tool last
unfolding read_from
all_kept tool given word [] last fits is = subst (λ (read : Result Given WordStop). IfOk read (FitsTable tool)) is fits
all_kept tool given word (text ∷ texts) last fits is = by_word (with_word given tool word text) (λ next kept later. all_kept tool next (word + 1) texts last kept later) refl is
  where
    by_word : (read : Result Given WordCause) → ((next : Given) → FitsTable tool next → read_from tool next (word + 1) texts ≡ Ok last → FitsTable tool last) → with_word given tool word text ≡ read → and_on word (λ next. read_from tool next (word + 1) texts) read ≡ Ok last → FitsTable tool last
    by_word (Ok next) later e h = later next (word_kept tool given fits word text next e) h
    by_word (Err cause) later e h = cc

-- what the words of a tool come to, where none is faulty
pub read_whole : (tool : Tool) (words : List (List ℕ)) (given : Given) → given_by tool words ≡ Ok given → IsRead tool given
read_whole tool words given is = by_read (read_from tool none_given 2 (drop 1 words)) refl is
  where
    by_end : (one : Given) (end : Result Unit WordStop) → FitsTable tool one → finished one tool (length words) ≡ end → unless_wrong one end ≡ Ok given → IsRead tool given
    by_end one (Ok nothing) fits e h = subst (λ (read : Result Given WordStop). IfOk read (IsRead tool)) h (record { fits = fits; count = length words; finished = e })
    by_end one (Err stop) fits e h = cc

    by_read : (read : Result Given WordStop) → read_from tool none_given 2 (drop 1 words) ≡ read → finish_read tool (length words) read ≡ Ok given → IsRead tool given
    by_read (Ok one) e h = by_end one (finished one tool (length words)) (all_kept tool none_given 2 (drop 1 words) one (none_fits tool) e) refl h
    by_read (Err stop) e h = cc

-- ---- options with a number that are needed

-- no needed option is missing
pub nothing_missing : (tool : Tool) (given : Given) (count : ℕ) → finished given tool count ≡ Ok tt → is_missing given tool ≡ false
nothing_missing tool given count is = by_awaited given.awaited is
  where
    by_test : (missing : Bool) → is_missing given tool ≡ missing → (if missing then refused_word (count + 1) Missing else unless_clash (clash given tool)) ≡ Ok tt → is_missing given tool ≡ false
    by_test true e h = cc
    by_test false e h = e

    by_awaited : (awaited : Option Awaited) → unless_awaited awaited given tool count ≡ Ok tt → is_missing given tool ≡ false
    by_awaited (Some one) h = cc
    by_awaited None h = by_test (is_missing given tool) refl h

-- a number of an option that was given is within its bounds
pub number_said : (least most : ℕ) (found : Option GivenWord) → is_some found ≡ true → FitsWord (form.Number least most) found → (least ≤ number_or_0 found) × (number_or_0 found ≤ most)
number_said least most None there fits = cc
number_said least most (Some given) there fits = by_value given.value fits
  where
    by_value : (said : Value) → IsNumber least most said → (least ≤ number_or_0 (Some (record { word = given.word; value = said }))) × (number_or_0 (Some (record { word = given.word; value = said })) ≤ most)
    by_value (value.Number number) is = is
    by_value said is = absurd is

pub either : (a b : Bool) → (a || b) ≡ false → (a ≡ false) × (b ≡ false)
either true b is = cc
either false b is = (refl, is)

pub negated : (a : Bool) → not a ≡ false → a ≡ true
negated true is = refl
negated false is = cc

-- nothing clashes
pub nothing_clashes : (tool : Tool) (given : Given) (count : ℕ) → finished given tool count ≡ Ok tt → clash given tool ≡ None
nothing_clashes tool given count is = by_awaited given.awaited is
  where
    by_clash : (found : Option ℕ) → clash given tool ≡ found → unless_clash found ≡ Ok tt → clash given tool ≡ None
    by_clash None e h = e
    by_clash (Some word) e h = cc

    by_test : (missing : Bool) → (if missing then refused_word (count + 1) Missing else unless_clash (clash given tool)) ≡ Ok tt → clash given tool ≡ None
    by_test true h = cc
    by_test false h = by_clash (clash given tool) refl h

    by_awaited : (awaited : Option Awaited) → unless_awaited awaited given tool count ≡ Ok tt → clash given tool ≡ None
    by_awaited (Some one) h = cc
    by_awaited None h = by_test (is_missing given tool) h

-- a number of an option that was given, and is not 0, is 1 or more
pub not_zero : (least most : ℕ) (found : Option GivenWord) → is_some found ≡ true → FitsWord (form.Number least most) found → is_zero found ≡ false → 1 ≤ number_or_0 found
not_zero least most None there fits more = cc
not_zero least most (Some given) there fits more = by_value given.value fits more
  where
    by_value : (said : Value) → IsNumber least most said → is_nought said ≡ false → 1 ≤ number_in said
    by_value (value.Number number) is other = omega (arith, eqb-false number 0 other)
    by_value said is other = absurd is

-- a stage that was given is at most 9
stage_said : (found : Option GivenWord) → FitsWord form.Stage found → number_or_0 found ≤ 9
stage_said None fits = omega arith
stage_said (Some given) fits = by_value given.value fits
  where
    by_value : (said : Value) → IsNumber 1 9 said → number_in said ≤ 9
    by_value (value.Number number) is = is.1
    by_value said is = absurd is

-- a word that was given has a number, so an option that a rule refuses is named
pub word_named : (found : Option GivenWord) (doubled : Option ℕ) → is_some found ≡ true → or_else doubled (word_of found) ≡ None → ⊥
word_named None doubled is h = cc
word_named (Some one) None is h = cc
word_named (Some one) (Some word) is h = cc

-- where -n was given, -a 0 was not
net_rule : (given : Given) → is_given given 110 ≡ true → clash given Fmcalc ≡ None → is_zero (given_at given 97) ≡ false
net_rule given net none = by_test (is_zero (given_at given 97)) refl
  where
    broken : is_zero (given_at given 97) ≡ true → broken_rule given Fmcalc ≡ Some (RefusedWhere 110 Always (Zero 97))
    broken zero = subst (λ b. cond b (Some (RefusedWhere 110 Always (Zero 97))) (find (λ rule. refuses given rule) (RefusedWhere 112 Always (Absent 110) ∷ [])) ≡ Some (RefusedWhere 110 Always (Zero 97))) (sym (subst (λ a. (a && (true && is_zero (given_at given 97))) ≡ true) (sym net) zero)) refl

    by_test : (zero : Bool) → is_zero (given_at given 97) ≡ zero → is_zero (given_at given 97) ≡ false
    by_test false e = e
    by_test true e = absurd (word_named (given_at given 110) given.doubled net (subst (λ rule. or_else given.doubled (word_by_rule given rule) ≡ None) (broken e) none))

-- the allocation rule of `fmcalc`
pub fmcalc_rule : (given : Given) → IsRead Fmcalc given → number_or_0 (given_at given 97) ≤ 2
fmcalc_rule given read =
    let complete = either (wants_at (plain_of Fmcalc) (place_of given)) (lacks_some given Fmcalc || lacks_by_some_rule given Fmcalc) (nothing_missing Fmcalc given read.count read.finished) in
    let options = either (lacks_some given Fmcalc) (lacks_by_some_rule given Fmcalc) complete.1 in
    let rule = either (not (is_given given 97)) _ options.0 in
    (number_said 0 2 (given_at given 97) (negated (is_given given 97) rule.0) (read.fits.options 97 (Needed 97 (form.Number 0 2)) refl)).1

-- with -n the allocation rule is 1 or 2
pub net_rule_kept : (given : Given) → IsRead Fmcalc given → is_given given 110 ≡ true → 1 ≤ number_or_0 (given_at given 97)
net_rule_kept given read net =
    let complete = either (wants_at (plain_of Fmcalc) (place_of given)) (lacks_some given Fmcalc || lacks_by_some_rule given Fmcalc) (nothing_missing Fmcalc given read.count read.finished) in
    let options = either (lacks_some given Fmcalc) (lacks_by_some_rule given Fmcalc) complete.1 in
    let rule = either (not (is_given given 97)) _ options.0 in
    not_zero 0 2 (given_at given 97) (negated (is_given given 97) rule.0) (read.fits.options 97 (Needed 97 (form.Number 0 2)) refl) (net_rule given net (nothing_clashes Fmcalc given read.count read.finished))

-- the stage of `fmcalc`
pub stage_kept : (given : Given) → IsRead Fmcalc given → number_or_0 (given_at given 112) ≤ 9
stage_kept given read = stage_said (given_at given 112) (read.fits.options 112 (Free 112 form.Stage) refl)

-- the samples of `gulcalc`
pub gulcalc_samples : (given : Given) → IsRead Gulcalc given → (1 ≤ number_or_0 (given_at given 83)) × (number_or_0 (given_at given 83) ≤ 1000)
gulcalc_samples given read =
    let complete = either (wants_at (plain_of Gulcalc) (place_of given)) (lacks_some given Gulcalc || lacks_by_some_rule given Gulcalc) (nothing_missing Gulcalc given read.count read.finished) in
    let options = either (lacks_some given Gulcalc) (lacks_by_some_rule given Gulcalc) complete.1 in
    let samples = either (not (is_given given 83)) _ options.0 in
    number_said 1 1000 (given_at given 83) (negated (is_given given 83) samples.0) (read.fits.options 83 (Needed 83 (form.Number 1 1000)) refl)
