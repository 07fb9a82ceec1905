-- What the parts of a round make of its events.
use Rattle.std.proofs.Common.{◌≡◌, ℕ, zero, suc, ◌+◌, ◌*◌, List, [], ◌∷◌, ◌++◌, length, map, take, drop, Option, Some, None, refl, sym, ap, subst, ◌∙◌, append-nil, arith}
use Rattle.std.specs.List.{AllByRecursion}
use Rattle.std.proofs.lemmas.List.{map-append}
use Rattle.kt_ends.specs.declared.status.Refusal.{Refusal}
use Rattle.kt_ends.specs.declared.status.Refusal.TheVariants as refusal
use Rattle.kt_block.specs.declared.block.EventBlock.{EventBlock}
use Rattle.kt_block.specs.declared.terms.Terms.{Terms}
use Rattle.kt_part.specs.Folding.{AreGiven}
use Rattle.kt_rec.specs.FootRows.{first_refused_row}
use Rattle.kt_rec.specs.Rows.{Rows}
use Rattle.kt_rec.specs.declared.foot_rows.ModelStop.{ModelStop}
use Rattle.kt_rec.specs.declared.foot_rows.ModelStop.TheVariants as stop
use Rattle.kt_rec.specs.Sums.{each_append}
use Rattle.kt_chain.specs.Outcome.{row_refusal}
use Rattle.kt_chain.specs.Rounds.{IsPart, RoundParts, before_part, given_block, part_events, part_of}
use Rattle.kt_fold.specs.Folds.{IsWhole, blocks_of}
use Rattle.kt_load.specs.EventRows.{EventRows}
use Rattle.kt_fold.specs.declared.part.PartBlock.{PartBlock}
use Rattle.kt_fold.specs.declared.part.RefusedRow.{RefusedRow}

-- how a refused row refuses the run
abbrev pub row_is : RefusedRow → Refusal
row_is row = refusal.Row row.event row.row row.cause

-- the rows of an event are clear
abbrev pub IsClearRows : EventRows → Type 0
IsClearRows given = row_refusal given.event (first_refused_row given.rows) ≡ None

-- the event behind the blocks of a part has the refused row, where there is one
abbrev pub IsBehind : List EventRows → Option RefusedRow → Type 0
IsBehind [] None = Unit {0}
IsBehind [] (Some row) = ⊥
IsBehind (one ∷ more) None = ⊥
IsBehind (one ∷ more) (Some row) = row_refusal one.event (first_refused_row one.rows) ≡ Some (row_is row)

-- the events of a part: those of its blocks, whose rows are clear, and the others
pub record IsSplit (terms : Terms) (rows : Rows) (given : List EventRows) (part : PartBlock) : Type 0 where
  pub good : List EventRows
  pub rest : List EventRows
  pub are : given ≡ good ++ rest
  pub blocks_are : part.blocks ≡ map (given_block terms rows) good
  pub clear : AllByRecursion IsClearRows good
  pub behind : IsBehind rest part.refused

module _ (terms : Terms) (rows : Rows) where
  -- a part is split so
  pub split_part : (given : List EventRows) → IsSplit terms rows given (part_of terms rows given)
  split_part [] = record { good = []; rest = []; are = refl; blocks_are = refl; clear = tt; behind = tt }
  split_part (one ∷ more) = by (first_refused_row one.rows) refl (split_part more)
    where
      with_one : row_refusal one.event (first_refused_row one.rows) ≡ None → (later : PartBlock) → IsSplit terms rows more later → IsSplit terms rows (one ∷ more) (record { blocks = given_block terms rows one ∷ later.blocks; refused = later.refused })
      with_one clear later split = record {
        good = one ∷ split.good;
        rest = split.rest;
        are = ap (λ (xs : List EventRows). one ∷ xs) split.are;
        blocks_are = ap (λ (xs : List EventBlock). given_block terms rows one ∷ xs) split.blocks_are;
        clear = (clear, split.clear);
        behind = split.behind;
      }

      by : (why : Option ModelStop) → first_refused_row one.rows ≡ why → IsSplit terms rows more (part_of terms rows more) → IsSplit terms rows (one ∷ more) (before_part one (given_block terms rows one) why (part_of terms rows more))
      by None is split = with_one (ap (row_refusal one.event) is) (part_of terms rows more) split
      by (Some (stop.Row row cause)) is split = record { good = []; rest = one ∷ more; are = refl; blocks_are = refl; clear = tt; behind = ap (row_refusal one.event) is }
      by (Some stop.OutOfMemory) is split = with_one (ap (row_refusal one.event) is) (part_of terms rows more) split

-- a part without a refused row has the blocks of all its events
pub whole_split : (terms : Terms) (rows : Rows) (given : List EventRows) (part : PartBlock) (split : IsSplit terms rows given part) → part.refused ≡ None → split.good ≡ given
whole_split terms rows given part split none = by split.rest split.are (subst (IsBehind split.rest) none split.behind)
  where
    by : (rest : List EventRows) → given ≡ split.good ++ rest → IsBehind rest None → split.good ≡ given
    by [] are behind = sym (append-nil split.good) ∙ sym are
    by (one ∷ more) are behind = absurd behind

-- ---- parts one behind the other

-- of an empty list there is nothing to take or to drop
take_none : {A : Type 0} (n : ℕ) → take {A = A} n [] ≡ []
take_none zero = refl
take_none (suc n) = refl

drop_none : {A : Type 0} (n : ℕ) → drop {A = A} n [] ≡ []
drop_none zero = refl
drop_none (suc n) = refl

-- the first of a list and those behind them
take_both : {A : Type 0} (m n : ℕ) (xs : List A) → take (m + n) xs ≡ take m xs ++ take n (drop m xs)
take_both zero n xs = let same : 0 + n ≡ n = omega arith in ap (λ (k : ℕ). take k xs) same
take_both {A = A} (suc m) n [] = take_none {A = A} (suc m + n) ∙ sym (take_none {A = A} n)
take_both (suc m) n (x ∷ xs) = let same : suc m + n ≡ suc (m + n) = omega arith in ap (λ (k : ℕ). take k (x ∷ xs)) same ∙ ap (λ (ys : List _). x ∷ ys) (take_both m n xs)

drop_both : {A : Type 0} (m n : ℕ) (xs : List A) → drop n (drop m xs) ≡ drop (m + n) xs
drop_both zero n xs = let same : n ≡ 0 + n = omega arith in ap (λ (k : ℕ). drop k xs) same
drop_both {A = A} (suc m) n [] = drop_none {A = A} n ∙ sym (drop_none {A = A} (suc m + n))
drop_both (suc m) n (x ∷ xs) = let same : suc (m + n) ≡ suc m + n = omega arith in drop_both m n xs ∙ ap (λ (k : ℕ). drop k (x ∷ xs)) same

module _ (round : RoundParts) where
  -- the events of so many parts from a number on
  abbrev pub events_from : ℕ → ℕ → List EventRows
  events_from first many = take (many * round.batch) (drop (first * round.batch) round.given)

  -- one part, and those behind it
  one_and_more : (first many : ℕ) → events_from first (suc many) ≡ part_events round.batch round.given first ++ events_from (suc first) many
  one_and_more first many =
      let size : suc many * round.batch ≡ round.batch + many * round.batch = grind arith in
      let place : first * round.batch + round.batch ≡ suc first * round.batch = grind arith in
      ap (λ (k : ℕ). take k (drop (first * round.batch) round.given)) size
      ∙ take_both round.batch (many * round.batch) (drop (first * round.batch) round.given)
      ∙ ap (λ (xs : List EventRows). part_events round.batch round.given first ++ take (many * round.batch) xs) (drop_both (first * round.batch) round.batch round.given ∙ ap (λ (k : ℕ). drop k round.given) place)

  -- parts without a refused row have the blocks of their events, whose rows are clear
  pub record AreWhole (first : ℕ) (parts : List PartBlock) : Type 0 where
    pub blocks_are : blocks_of parts ≡ map (given_block round.terms round.rows) (events_from first (length parts))
    pub clear : AllByRecursion IsClearRows (events_from first (length parts))

  pub whole_parts : (first : ℕ) (parts : List PartBlock) → AreGiven (IsPart round) first parts → AllByRecursion IsWhole parts → AreWhole first parts
  whole_parts first [] given whole =
      let none : 0 ≡ 0 * round.batch = grind arith in
      record {
        blocks_are = ap (λ (n : ℕ). map (given_block round.terms round.rows) (take n (drop (first * round.batch) round.given))) none;
        clear = subst (λ (n : ℕ). AllByRecursion IsClearRows (take n (drop (first * round.batch) round.given))) none tt;
      }
  whole_parts first (part ∷ parts) given whole =
      let events = part_events round.batch round.given first in
      let split = split_part round.terms round.rows events in
      let more = whole_parts (suc first) parts given.1 whole.1 in
      let none : (part_of round.terms round.rows events).refused ≡ None = ap (λ (one : PartBlock). one.refused) (sym given.0.is) ∙ whole.0 in
      let good = whole_split round.terms round.rows events (part_of round.terms round.rows events) split none in
      let blocks : part.blocks ≡ map (given_block round.terms round.rows) events = ap (λ (one : PartBlock). one.blocks) given.0.is ∙ split.blocks_are ∙ ap (map (given_block round.terms round.rows)) good in
      record {
        blocks_are =
            ap (λ (xs : List EventBlock). xs ++ blocks_of parts) blocks ∙ ap (λ (xs : List EventBlock). map (given_block round.terms round.rows) events ++ xs) more.blocks_are
            ∙ sym (map-append (given_block round.terms round.rows) events (events_from (suc first) (length parts))) ∙ ap (map (given_block round.terms round.rows)) (sym (one_and_more first (length parts)));
        clear = subst (AllByRecursion IsClearRows) (sym (one_and_more first (length parts))) (each_append IsClearRows events (events_from (suc first) (length parts)) (subst (AllByRecursion IsClearRows) good split.clear) more.clear);
      }
