use Rattle.std.proofs.Common.{◌≡◌, ◌∙◌, ◌+◌, ◌++◌, ◌≤◌, ℕ, List, append-nil, append_assoc, ap, subst, sym, get_or, nat_eq, take, length, []}
use Rattle.std.specs.List.{cons_option, filter, filter_map, flat_map, sum_by}
use Rattle.std.specs.List.Sorted.{IsNonDecreasingBy}
use Rattle.std.proofs.lemmas.Grind.{flat_map-append}
use Rattle.kt_rec.specs.declared.hazard.FootRow.{FootRow}
use Rattle.kt_stream.specs.declared.entry.Cdf.{Cdf}
use Rattle.kt_model.specs.Distribution.{record_of}
use Rattle.kt_model.proofs.ChanceLemmas.{total_of_rows}
use Rattle.kt_model.proofs.PairLemmas.{pairs_rise, passed_records}
use Rattle.kt_model.proofs.RecordLemmas.{filter_map_more}
use Rattle.kt_model.proofs.event.put_struck.Goals as goal

pub next_struck-place-requires-clause-pairs_rise : goal.next_struck-place-requires-clause-pairs_rise
next_struck-place-requires-clause-pairs_rise g c = subst (λ (list : List (ℕ × ℕ)). IsNonDecreasingBy (λ pair. pair.0) list) (sym c.pairs-pairs.ensures.value) (pairs_rise c.args.portfolio.now.rows.items)

pub next_struck-place-requires-in-loop-place-clause-pairs_rise : goal.next_struck-place-requires-in-loop-place-clause-pairs_rise
next_struck-place-requires-in-loop-place-clause-pairs_rise g c = subst (λ (list : List (ℕ × ℕ)). IsNonDecreasingBy (λ pair. pair.0) list) (sym c.pairs-pairs.ensures.value) (pairs_rise c.args.portfolio.now.rows.items)

pub put_pair-requires-clause-within : goal.put_pair-requires-clause-within
put_pair-requires-clause-within g c =
    let foot = c.args.foot.now in
    let areaperil : ℕ = (get_or c.pairs-pairs.result.now c.loop-place.place (0, 0)).0 in
    let is : c.rows_near-rows.result.now ≡ filter (λ row. nat_eq row.areaperil areaperil) foot = c.rows_near-rows.ensures.value ∙ ap (λ (n : ℕ). filter (λ (row : FootRow). nat_eq row.areaperil n) foot) c.from.ensures in
    subst (λ (found : List FootRow). sum_by (λ row. row.prob) found ≤ 1001000) (sym is) (subst (λ n. n ≤ 1001000) (sym (total_of_rows foot areaperil)) (c.requires.within areaperil))

pub loop-place-init : goal.loop-place-init
loop-place-init g c =
    let made = λ (records : List Cdf). g.E.Exit.pieces c.args.exit.now ++ flat_map g.E.Exit.spelled records in
    record {
      ready = record { bins = c.in_ok-clear.ensures.bins ∙ ap (λ bins. length bins) c.damage_bins.ensures.value; none = c.in_ok-clear.ensures.none; places = c.in_ok-clear.ensures.places };
      within = c.next_struck-place.ensures.within;
      pieces = sym (append-nil (g.E.Exit.pieces c.args.exit.now)) ∙ ap made (passed_records c.args.portfolio.now.rows c.args.event c.args.foot.now c.pairs-pairs.result.now 0 c.next_struck-place.result c.next_struck-place.ensures.order c.next_struck-place.ensures.within c.next_struck-place.ensures.passed);
    }

pub loop-place-preserved : goal.loop-place-preserved
loop-place-preserved g c =
    let rows = c.args.portfolio.now.rows in
    let foot = c.args.foot.now in
    let pairs : List (ℕ × ℕ) = c.pairs-pairs.result.now in
    let i = c.loop-place.place in
    let pair : ℕ × ℕ = get_or pairs i (0, 0) in
    let next = c.next_struck-place-in-loop-place in
    let of_pairs = λ (list : List (ℕ × ℕ)). filter_map (record_of rows c.args.event foot) list in
    let spelled = λ (records : List Cdf). flat_map g.E.Exit.spelled records in
    let first = g.E.Exit.pieces c.args.exit.now in
    let is : c.rows_near-rows.result.now ≡ filter (λ row. nat_eq row.areaperil pair.0) foot = c.rows_near-rows.ensures.value ∙ ap (λ (n : ℕ). filter (λ (row : FootRow). nat_eq row.areaperil n) foot) c.from.ensures in
    record {
      ready = c.in_ok-put_pair.ensures.ready;
      within = next.ensures.within;
      pieces =
          c.in_ok-put_pair.ensures.ok foot is
          ∙ (ap (λ pieces. pieces ++ spelled (cons_option (record_of rows c.args.event foot pair) [])) c.loop-place.invariant.pieces
          ∙ (append_assoc first (spelled (of_pairs (take i pairs))) (spelled (cons_option (record_of rows c.args.event foot pair) []))
          ∙ (ap (λ pieces. first ++ pieces) (sym (flat_map-append g.E.Exit.spelled (of_pairs (take i pairs)) (cons_option (record_of rows c.args.event foot pair) [])))
          ∙ ap (λ records. first ++ spelled records)
          (sym (filter_map_more (record_of rows c.args.event foot) pairs i (0, 0) c.loop-place-test.true)
          ∙ passed_records rows c.args.event foot pairs (i + 1) next.result next.ensures.order next.ensures.within next.ensures.passed))));
    }
