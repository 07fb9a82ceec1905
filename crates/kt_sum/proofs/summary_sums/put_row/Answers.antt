use Rattle.std.proofs.Common.{◌++◌, ◌∙◌, ◌<◌, List, ℕ, [], ap, append-nil, arith, length, subst, sym}
use Rattle.std.specs.List.{cons_option, flat_map}
use Rattle.kt_runs.specs.PairRoom.{AreEnded}
use Rattle.kt_stream.specs.Summary.{summary_bytes}
use Rattle.kt_runs.specs.PairSums.{pairs_upto}
use Rattle.kt_sum.specs.RunSummaries.{exposure_in}
use Rattle.kt_sum.specs.Summaries.{record_with}
use Rattle.kt_sum.proofs.SumsLemmas.{idle_none, put_record}
use Rattle.kt_sum.proofs.summary_sums.put_row.Goals as goal

pub returns-then-not-row-clause-ok : goal.returns-then-not-row-clause-ok
returns-then-not-row-clause-ok c =
    let out = c.args.out.now in
    sym (ap (λ found. out ++ flat_map summary_bytes (cons_option found [])) (idle_none c.args.run.now.event (exposure_in c.args.run.now) 2147483646 c.args.row.now (c.requires.idle c.if-not-row.true)) ∙ append-nil out)

pub returns-then-used-eq0-clause-ok : goal.returns-then-used-eq0-clause-ok
returns-then-used-eq0-clause-ok c =
    let row = c.args.row.now in
    let run = c.args.run.now in
    let out = c.args.out.now in
    let ended = subst (λ (sums : List ℕ). AreEnded (pairs_upto 2147483646 sums (length sums)) c.write_pairs-used.result c.write_pairs-used.new.room) c.deref.ensures.value c.write_pairs-used.ensures.value in
    sym (ap (λ pairs. out ++ flat_map summary_bytes (cons_option (record_with run.event row.summary (exposure_in run row.summary) pairs) [])) (ended.none c.if-used-eq0.true) ∙ append-nil out)

pub returns-clause-ok : goal.returns-clause-ok
returns-clause-ok c =
    let row = c.args.row.now in
    let run = c.args.run.now in
    let pairs = pairs_upto 2147483646 row.sums.items (length row.sums.items) in
    let ended = subst (λ (sums : List ℕ). AreEnded (pairs_upto 2147483646 sums (length sums)) c.write_pairs-used.result c.write_pairs-used.new.room) c.deref.ensures.value c.write_pairs-used.ensures.value in
    let some : 0 < c.write_pairs-used.result = omega (arith, c.if-used-eq0.false) in
    put_record run.event row.summary c.exposure-exposure.result pairs c.write_pairs-used.result c.write_pairs-used.new.room c.args.out.now _ c.summary_front-front.result ended c.summary_front-front.ensures.front some c.in_ok-append_record.ensures.ok
    ∙ ap (λ worth. c.args.out.now ++ flat_map summary_bytes (cons_option (record_with run.event row.summary worth pairs) [])) c.exposure-exposure.ensures.value
