-- What the words of a run over a made-up set promise.
use Rattle.std.proofs.Common.{◌≡◌, true, false, Option, Some, None, refl, arith}
use Rattle.std.specs.Prelude.{◌||◌, is_some}
use Rattle.kt_words.specs.Command.{gen_command, IsCommand}
use Rattle.kt_words.specs.Fits.{IsRead}
use Rattle.kt_words.specs.Given.{given_at, place_by, place_of}
use Rattle.kt_words.specs.Judging.{lacks_some, lacks_by_some_rule}
use Rattle.kt_words.specs.Rows.{wants_at}
use Rattle.kt_words.specs.Table.{plain_of}
use Rattle.kt_words.specs.declared.given.Given.{Given}
use Rattle.kt_words.specs.declared.given.GivenWord.{GivenWord}
use Rattle.kt_words.specs.declared.rows.Form.TheVariants as form
use Rattle.kt_words.specs.declared.rows.OptionRow.TheVariants.{Free}
use Rattle.kt_words.specs.declared.tool.Tool.TheVariants.{Gen}
use Rattle.kt_words.proofs.Fitting.{nothing_missing, number_said, either}
use Rattle.kt_words.proofs.ChainWords.{number_or_within}

-- all three plain words were given
record AllGiven (first second third : Option GivenWord) : Type 0 where
  first_is : is_some first ≡ true
  second_is : is_some second ≡ true
  third_is : is_some third ≡ true

-- no plain word is missing where there are three
all_given : (first second third : Option GivenWord) → wants_at (plain_of Gen) (place_by first second third) ≡ false → AllGiven first second third
all_given None second third is = cc
all_given (Some one) None third is = cc
all_given (Some one) (Some two) None is = cc
all_given (Some one) (Some two) (Some three) is = record { first_is = refl; second_is = refl; third_is = refl }

module _ (given : Given) (read : IsRead Gen given) where
  words_given : AllGiven given.first given.second given.third
  words_given =
      let complete = either (wants_at (plain_of Gen) (place_of given)) (lacks_some given Gen || lacks_by_some_rule given Gen) (nothing_missing Gen given read.count read.finished) in
      all_given given.first given.second given.third complete.0

  -- the command of a run over a made-up set can be carried out
  pub gen_kept : IsCommand (gen_command given)
  gen_kept =
      let items = number_said 1 9000 given.second words_given.second_is read.fits.second in
      let events = number_said 1 10000 given.third words_given.third_is read.fits.third in
      let workers = number_or_within 1 16 1 (given_at given 119) (omega arith) (omega arith) (read.fits.options 119 (Free 119 (form.Number 1 16)) refl) in
      record {
        some_items = items.0;
        few_items = items.1;
        some_events = events.0;
        few_events = events.1;
        some_workers = workers.0;
        few_workers = workers.1;
      }
