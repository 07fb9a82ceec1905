-- What the parts of a round that were folded do to its events.
use Rattle.std.proofs.Common.{◌≡◌, ◌≤◌, ◌<◌, ℕ, zero, suc, ◌+◌, ◌-◌, ◌*◌, ◌/◌, ◌%◌, List, [], ◌∷◌, ◌++◌, length, map, take, drop, Option, Some, None, Result, Ok, Err, IfOk, refl, sym, ap, subst, ◌∙◌, append_assoc, append-nil, arith}
use Rattle.std.specs.List.{AllByRecursion}
use Rattle.std.proofs.Math.Nat.{div-add-mod, div-lt_iff_lt-mul, mod-lt}
use Rattle.std.proofs.lemmas.List.{map-append, take-append-drop}
use Rattle.kt_cell.specs.Losses.{Added}
use Rattle.kt_cell.specs.Standing.{StandsFor}
use Rattle.kt_ends.specs.declared.status.Refusal.{Refusal}
use Rattle.kt_block.specs.declared.block.EventBlock.{EventBlock}
use Rattle.kt_block.specs.declared.terms.Terms.{Terms}
use Rattle.kt_part.specs.Folding.{AreGiven, Folded, RoundEnds, StoppedAt}
use Rattle.kt_part.specs.declared.round.RoundStop.{RoundStop}
use Rattle.kt_part.specs.declared.round.RoundStop.TheVariants.{Fold}
use Rattle.kt_periods.specs.Adding.{first_refusal}
use Rattle.kt_rec.specs.FootRows.{first_refused_row}
use Rattle.kt_rec.specs.Rows.{Rows}
use Rattle.kt_rec.specs.declared.hazard.FootRow.{FootRow}
use Rattle.kt_rec.specs.Sums.{each_append}
use Rattle.kt_chain.specs.Events.{RunInput, all_added, block_of, event_added}
use Rattle.kt_fold.specs.Added.{block_added, blocks_added}
use Rattle.kt_chain.specs.Outcome.{event_refusal, row_refusal}
use Rattle.kt_chain.specs.Reached.{Passes, StopsAt}
use Rattle.kt_chain.specs.Rounds.{HasRows, IsPart, IsWhy, RoundParts, given_block, part_count, part_events, part_of}
use Rattle.kt_fold.specs.Folds.{FoldStart, FoldState, HasStopped, IsReason, StandsBehind, StopsBehind, StopsBy, blocks_of, fold_refusal, with_blocks}
use Rattle.kt_load.specs.EventRows.{EventRows, ids_of}
use Rattle.kt_chain.specs.Runs.{AreGivenRows, FoldsTo, IsFolded}
use Rattle.kt_fold.specs.declared.fold.FoldStop.{FoldStop}
use Rattle.kt_fold.specs.declared.part.PartBlock.{PartBlock}
use Rattle.kt_fold.specs.declared.part.RefusedRow.{RefusedRow}
use Rattle.kt_chain.proofs.AddedLemmas.{added_of_blocks, added_of_both}
use Rattle.kt_chain.proofs.PartLemmas.{IsBehind, IsClearRows, events_from, split_part, whole_parts}
use Rattle.kt_chain.proofs.PassLemmas.{block_by_rows, blocks_by_rows, clear_event, clear_events, events_pass, stops_by_records, stops_by_rows}
use Rattle.kt_fold.specs.AddedLaws.{blocks_more}

-- what the fold begins with behind the events that are done
abbrev pub start_of : RunInput → List ℕ → FoldStart
start_of run done = record { rows = run.rows; samples = run.terms.samples; history = all_added run done }

-- a fold that stands for the events that are done begins a round so
pub begins : (run : RunInput) (done : List ℕ) (fold : FoldState) → IsFolded run done fold → StandsBehind (start_of run done) fold []
begins run done fold folded = record {
  same = folded.rows;
  samples = folded.samples;
  taken = record {
    whole = tt;
    clear = refl;
    stands = subst (λ (history : List Added). StandsFor history fold.cells) (sym (append-nil (all_added run done))) folded.stands;
    kept_are = folded.none_kept;
  };
}

-- ids of events, one part behind the other
ids_of_both : (first second : List EventRows) → ids_of (first ++ second) ≡ ids_of first ++ ids_of second
ids_of_both first second = map-append (λ (one : EventRows). one.event) first second

-- what holds of a list holds of its front, and of what is behind
each_front : {X : Type 0} (P : X → Type 0) (xs ys : List X) → AllByRecursion P (xs ++ ys) → AllByRecursion P xs
each_front P [] ys all = tt
each_front P (x ∷ xs) ys all = (all.0, each_front P xs ys all.1)

each_behind : {X : Type 0} (P : X → Type 0) (xs ys : List X) → AllByRecursion P (xs ++ ys) → AllByRecursion P ys
each_behind P [] ys all = all
each_behind P (x ∷ xs) ys all = each_behind P xs ys all.1

-- a list made of another, split
pub record SplitsMade {X Y : Type 0} (made : X → Y) (xs : List X) (first second : List Y) : Type 0 where
  pub front : List X
  pub back : List X
  pub are : xs ≡ front ++ back
  pub first_is : first ≡ map made front
  pub second_is : second ≡ map made back

splits_made : {X Y : Type 0} (made : X → Y) (xs : List X) (first second : List Y) → map made xs ≡ first ++ second → SplitsMade made xs first second
splits_made made xs [] second is = record { front = []; back = xs; are = refl; first_is = refl; second_is = sym is }
splits_made made [] (y ∷ first) second is = cc
splits_made {X = X} {Y = Y} made (x ∷ xs) (y ∷ first) second is =
    let head : made x ≡ y = cc in
    let tail : map made xs ≡ first ++ second = cc in
    let more = splits_made made xs first second tail in
    record {
      front = x ∷ more.front;
      back = more.back;
      are = ap (λ (zs : List X). x ∷ zs) more.are;
      first_is = ap (λ (z : Y). z ∷ first) (sym head) ∙ ap (λ (zs : List Y). made x ∷ zs) more.first_is;
      second_is = more.second_is;
    }

-- enough parts have all events
pub enough : (batch events : ℕ) → 1 ≤ batch → events ≤ part_count batch events * batch
enough batch events some =
    let whole : batch * ((events + batch - 1) / batch) + (events + batch - 1) % batch ≡ events + batch - 1 = div-add-mod (events + batch - 1) batch in
    let rest : (events + batch - 1) % batch < batch = mod-lt (events + batch - 1) (omega (arith, some)) in
    let turned : ((events + batch - 1) / batch) * batch ≡ batch * ((events + batch - 1) / batch) = grind arith in
    omega (arith, whole, rest, turned, some)

-- so many events as 16 parts have make at most 16 parts
pub few_parts : (batch events : ℕ) → 1 ≤ batch → events ≤ 16 * batch → part_count batch events ≤ 16
few_parts batch events some few =
    let below : (events + batch - 1) / batch < 17 = (div-lt_iff_lt-mul some).1 (omega (arith, some, few)) in
    omega (arith, below)

-- all of a list
take_all : {X : Type 0} (n : ℕ) (xs : List X) → length xs ≤ n → take n xs ≡ xs
take_all zero [] many = refl
take_all (suc n) [] many = refl
take_all zero (x ∷ xs) many = absurd (omega (arith, many))
take_all {X = X} (suc n) (x ∷ xs) many = ap (λ (ys : List X). x ∷ ys) (take_all n xs (omega (arith, many)))

module _ (run : RunInput) (round : RoundParts) (terms_are : run.terms ≡ round.terms) (rows_are : run.rows ≡ round.rows) (has : AreGivenRows run round.given) (done : List ℕ) where
  -- the blocks by the rows that were given are those of the events
  blocks_are : (given : List EventRows) → AllByRecursion (HasRows run) given → map (given_block round.terms round.rows) given ≡ map (block_of run) (ids_of given)
  blocks_are given has = ap (λ (terms : Terms). map (given_block terms round.rows) given) (sym terms_are) ∙ ap (λ (rows : Rows). map (given_block run.terms rows) given) (sym rows_are) ∙ blocks_by_rows run given has

  -- events whose blocks were added pass
  given_pass : (given : List EventRows) (blocks : List EventBlock) → AllByRecursion (HasRows run) given → AllByRecursion IsClearRows given → blocks ≡ map (given_block round.terms round.rows) given → first_refusal (all_added run done) (blocks_added run.rows blocks) ≡ None → Passes (event_refusal run) done (ids_of given)
  given_pass given blocks has clear are none =
      events_pass run done (ids_of given) (clear_events run given has clear)
      (ap (first_refusal (all_added run done)) (sym (ap (blocks_added run.rows) (are ∙ blocks_are given has) ∙ added_of_blocks run (ids_of given))) ∙ none)

  added_are : (given : List EventRows) (blocks : List EventBlock) → AllByRecursion (HasRows run) given → blocks ≡ map (given_block round.terms round.rows) given → all_added run done ++ blocks_added run.rows blocks ≡ all_added run (done ++ ids_of given)
  added_are given blocks has are =
      ap (λ (more : List Added). all_added run done ++ more) (ap (blocks_added run.rows) (are ∙ blocks_are given has) ∙ added_of_blocks run (ids_of given))
      ∙ sym (added_of_both run done (ids_of given))

  -- the events of the first parts are the first events
  first_events : (many : ℕ) → events_from round 0 many ≡ take (many * round.batch) round.given
  first_events many = let none : 0 * round.batch ≡ 0 = grind arith in ap (λ (n : ℕ). take (many * round.batch) (drop n round.given)) none

  -- all parts were folded
  pub round_passes : (fold : FoldState) (count : ℕ) (folded : Folded (IsPart round) (StandsBehind (start_of run done) fold) [] count) → length round.given ≤ count * round.batch → FoldsTo run done (ids_of round.given) None fold
  round_passes fold count folded many =
      let taken = folded.stand.taken in
      let whole = whole_parts round 0 folded.blocks folded.given taken.whole in
      let all : events_from round 0 (length folded.blocks) ≡ round.given = ap (events_from round 0) folded.many ∙ first_events count ∙ take_all (count * round.batch) round.given many in
      let blocks : blocks_of folded.blocks ≡ map (given_block round.terms round.rows) round.given = whole.blocks_are ∙ ap (map (given_block round.terms round.rows)) all in
      record {
        rows = folded.stand.same;
        samples = folded.stand.samples;
        front = ids_of round.given;
        kept = ap blocks_of taken.kept_are ∙ blocks ∙ blocks_are round.given has;
        ends = (
          refl,
          given_pass round.given (blocks_of folded.blocks) has (subst (AllByRecursion IsClearRows) all whole.clear) blocks taken.clear,
          subst (λ (history : List Added). StandsFor history fold.cells) (added_are round.given (blocks_of folded.blocks) has blocks) taken.stands,
        );
      }

  -- ---- the fold stopped in a part

  module _ (before : List EventRows) (blocks : List EventBlock) (clear_before : AllByRecursion IsClearRows before) (blocks_made : blocks ≡ map (given_block round.terms round.rows) before) (none : first_refusal (all_added run done) (blocks_added run.rows blocks) ≡ None) where
    -- behind the events before, one is refused by its records
    by_records : (one : EventRows) (later : List EventRows) (why : Refusal) → round.given ≡ before ++ one ∷ later → IsClearRows one → first_refusal (all_added run done ++ blocks_added run.rows blocks) (block_added run.rows (given_block round.terms round.rows one)) ≡ Some why → StopsAt (event_refusal run) done (ids_of round.given) (done ++ ids_of before) why
    by_records one later why are clear reason =
        let all : AllByRecursion (HasRows run) (before ++ one ∷ later) = subst (AllByRecursion (HasRows run)) are has in
        let has_before = each_front (HasRows run) before (one ∷ later) all in
        let has_one = (each_behind (HasRows run) before (one ∷ later) all).0 in
        let block : given_block round.terms round.rows one ≡ block_of run one.event =
        ap (λ (terms : Terms). given_block terms round.rows one) (sym terms_are) ∙ ap (λ (rows : Rows). given_block run.terms rows one) (sym rows_are) ∙ block_by_rows run one has_one in
        subst (λ (ids : List ℕ). StopsAt (event_refusal run) done ids (done ++ ids_of before) why) (sym (ap ids_of are ∙ ids_of_both before (one ∷ later)))
        (stops_by_records run done (ids_of before) one.event (ids_of later) why (given_pass before blocks has_before clear_before blocks_made none) (clear_event run one has_one clear)
        (ap (λ (history : List Added). first_refusal history (event_added run one.event)) (sym (added_are before blocks has_before blocks_made)) ∙ ap (λ (b : EventBlock). first_refusal (all_added run done ++ blocks_added run.rows blocks) (block_added run.rows b)) (sym block) ∙ reason))

    -- or by its rows
    by_rows : (one : EventRows) (later : List EventRows) (why : Refusal) → round.given ≡ before ++ one ∷ later → row_refusal one.event (first_refused_row one.rows) ≡ Some why → StopsAt (event_refusal run) done (ids_of round.given) (done ++ ids_of before) why
    by_rows one later why are is =
        let all : AllByRecursion (HasRows run) (before ++ one ∷ later) = subst (AllByRecursion (HasRows run)) are has in
        let has_before = each_front (HasRows run) before (one ∷ later) all in
        let has_one = (each_behind (HasRows run) before (one ∷ later) all).0 in
        subst (λ (ids : List ℕ). StopsAt (event_refusal run) done ids (done ++ ids_of before) why) (sym (ap ids_of are ∙ ids_of_both before (one ∷ later)))
        (stops_by_rows run done (ids_of before) one.event (ids_of later) why (given_pass before blocks has_before clear_before blocks_made none)
        (ap (λ (foot : List FootRow). row_refusal one.event (first_refused_row foot)) (sym has_one) ∙ is))

    -- behind the events before, the blocks of some are left, and then come those whose rows were not judged
    stops_in : (back rest later : List EventRows) (left : List EventBlock) (refused : Option RefusedRow) (why : Refusal) → round.given ≡ before ++ (back ++ (rest ++ later)) → AllByRecursion IsClearRows back → left ≡ map (given_block round.terms round.rows) back → IsBehind rest refused → IsReason run.rows (all_added run done ++ blocks_added run.rows blocks) left refused why
        → StopsAt (event_refusal run) done (ids_of round.given) (done ++ ids_of before) why
    stops_in (one ∷ back) rest later [] refused why are clear left_is behind reason = cc
    stops_in (one ∷ back) rest later (block ∷ left) refused why are clear left_is behind reason =
        let head : block ≡ given_block round.terms round.rows one = cc in
        by_records one (back ++ (rest ++ later)) why are clear.0 (subst (λ (b : EventBlock). first_refusal (all_added run done ++ blocks_added run.rows blocks) (block_added run.rows b) ≡ Some why) head reason)
    stops_in [] rest later (block ∷ left) refused why are clear left_is behind reason = cc
    stops_in [] rest later [] None why are clear left_is behind reason = absurd reason
    stops_in [] [] later [] (Some row) why are clear left_is behind reason = absurd behind
    stops_in [] (one ∷ rest) later [] (Some row) why are clear left_is behind reason = by_rows one (rest ++ later) why are (behind ∙ ap (λ (r : Refusal). Some r) (sym reason))

  -- the events around a part
  around_part : (number : ℕ) → round.given ≡ events_from round 0 number ++ (part_events round.batch round.given number ++ drop round.batch (drop (number * round.batch) round.given))
  around_part number =
      sym (take-append-drop (number * round.batch) round.given)
      ∙ ap (λ (xs : List EventRows). take (number * round.batch) round.given ++ xs) (sym (take-append-drop round.batch (drop (number * round.batch) round.given)))
      ∙ ap (λ (xs : List EventRows). xs ++ (part_events round.batch round.given number ++ drop round.batch (drop (number * round.batch) round.given))) (sym (first_events number))

  -- the fold stopped in a part behind whole ones
  pub round_stops : (fold : FoldState) (parts : List PartBlock) (part : PartBlock) (why : Refusal) → AreGiven (IsPart round) 0 parts → IsPart round (length parts) part → HasStopped run.rows (all_added run done) parts part why fold.kept → fold.rows ≡ run.rows → fold.cells.samples ≡ run.terms.samples
      → FoldsTo run done (ids_of round.given) (Some why) fold
  round_stops fold parts part why given is_part stops same_rows same_samples =
      let number = length parts in
      let earlier = events_from round 0 number in
      let own = part_events round.batch round.given number in
      let later = drop round.batch (drop (number * round.batch) round.given) in
      let split = split_part round.terms round.rows own in
      let whole = whole_parts round 0 parts given stops.whole in
      let part_blocks : map (given_block round.terms round.rows) split.good ≡ stops.taken ++ stops.rest = sym split.blocks_are ∙ ap (λ (one : PartBlock). one.blocks) (sym is_part.is) ∙ stops.are in
      let made = splits_made (given_block round.terms round.rows) split.good stops.taken stops.rest part_blocks in
      let before = earlier ++ made.front in
      let blocks = blocks_of parts ++ stops.taken in
      let good_clear : AllByRecursion IsClearRows (made.front ++ made.back) = subst (AllByRecursion IsClearRows) made.are split.clear in
      let blocks_made : blocks ≡ map (given_block round.terms round.rows) before =
      ap (λ (xs : List EventBlock). xs ++ stops.taken) whole.blocks_are ∙ ap (λ (xs : List EventBlock). map (given_block round.terms round.rows) earlier ++ xs) made.first_is ∙ sym (map-append (given_block round.terms round.rows) earlier made.front) in
      let are : round.given ≡ before ++ (made.back ++ (split.rest ++ later)) =
      around_part number
      ∙ ap (λ (xs : List EventRows). earlier ++ (xs ++ later)) (split.are ∙ ap (λ (xs : List EventRows). xs ++ split.rest) made.are)
      ∙ ap (λ (xs : List EventRows). earlier ++ xs) (append_assoc (made.front ++ made.back) split.rest later ∙ append_assoc made.front made.back (split.rest ++ later))
      ∙ sym (append_assoc earlier made.front (made.back ++ (split.rest ++ later))) in
      let refused : part.refused ≡ (part_of round.terms round.rows own).refused = ap (λ (one : PartBlock). one.refused) is_part.is in
      let clear_before : AllByRecursion IsClearRows before = each_append IsClearRows earlier made.front whole.clear (each_front IsClearRows made.front made.back good_clear) in
      let stop = stops_in before blocks clear_before blocks_made stops.clear made.back split.rest later stops.rest part.refused why are (each_behind IsClearRows made.front made.back good_clear) made.second_is (subst (IsBehind split.rest) (sym refused) split.behind) stops.reason in
      let has_before = each_front (HasRows run) before (made.back ++ (split.rest ++ later)) (subst (AllByRecursion (HasRows run)) are has) in
      record {
        rows = same_rows;
        samples = same_samples;
        front = ids_of before;
        kept = ap blocks_of stops.kept_are ∙ blocks_more parts (with_blocks stops.taken part) ∙ blocks_made ∙ blocks_are before has_before;
        ends = stop;
      }

  -- the same by how the round ended
  pub round_stopped : (fold : FoldState) (count number : ℕ) (stop : FoldStop) (stopped : StoppedAt (IsPart round) (StopsBehind (start_of run done) fold) [] count number stop) (why : Refusal) → fold_refusal stop ≡ Some why → FoldsTo run done (ids_of round.given) (Some why) fold
  round_stopped fold count number stop stopped why is =
      let stops = subst (λ (found : Option Refusal). StopsBy run.rows (all_added run done) stopped.blocks stopped.block found fold.kept) is stopped.has_stopped.stops in
      round_stops fold stopped.blocks stopped.block why stopped.given (subst (λ (n : ℕ). IsPart round n stopped.block) (sym stopped.many) stopped.is_given) stops stopped.has_stopped.same stopped.has_stopped.samples

-- what a stop of the fold is answered by holds what is wanted where it refuses the run
pub why_answered : {E : Type 0} (found : Option Refusal) (answer : Result (Option Refusal) E) (Holds : Option Refusal → Type 0) → IsWhy found answer → ((why : Refusal) → found ≡ Some why → Holds (Some why)) → IfOk answer Holds
why_answered (Some why) answer Holds is holds = rw is (holds why refl)
why_answered None (Ok refusal) Holds is holds = absurd is
why_answered None (Err stop) Holds is holds = tt

-- where a round was stopped by its fold
pub stopped_at : {B S : Type 0} (gives : ℕ → B → Type 0) (wants : ℕ → Type 0) (stands : List B → Type 0) (stopped : List B → B → S → Type 0) (before : List B) (count number : ℕ) (why : RoundStop S) (stop : S)
    → why ≡ Fold number stop → RoundEnds gives wants stands stopped before count (Err why) → StoppedAt gives stopped before count number stop
stopped_at gives wants stands stopped before count number why stop is ends = subst (λ (one : RoundStop _). RoundEnds gives wants stands stopped before count (Err one)) is ends
