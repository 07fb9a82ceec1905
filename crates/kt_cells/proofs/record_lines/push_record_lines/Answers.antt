use Rattle.std.proofs.Common.{◌-◌, ◌∙◌, ap, arith, drop, length-drop, refl, take}
use Rattle.std.proofs.lemmas.Bool.Decides.{nat_tests}
use Rattle.std.proofs.lemmas.List.{take_all}
use Rattle.std.proofs.lemmas.Result.{err_from_is_err_and}
use Rattle.kt_cells.proofs.RecordLemmas.{behind-none, record-end, some-left}
use Rattle.kt_cells.proofs.WritingLemmas.{lines_put, lines-end, lines-more}
use Rattle.kt_cells.proofs.WritingLemmas.{more-none, more-piece}
use Rattle.kt_cells.proofs.record_lines.push_record_lines.Goals as goal

pub loop-rest-init : goal.loop-rest-init
loop-rest-init g c = record { within = omega arith; text = rw behind-none refl; kept = more-none c.args.out.now }

pub loop-rest-preserved : goal.loop-rest-preserved
loop-rest-preserved g c =
    let start = c.write_lines-start.result in
    let text = c.write_lines-start.new.text in
    let lines = take_all (2400 - start) (drop start text) (omega (arith, length-drop start text)) ∙ c.write_lines-start.ensures.written c.args.before c.front_of-front.ensures in
    let written = rw lines at c.in_ok-append.ensures.ok in record {
      within = omega (arith, c.loop-rest.invariant.within, c.in_ok-read.ensures.shorter);
      text = c.loop-rest.invariant.text ∙ ap (lines_put c.args.before c.args.kinds.now c.loop-rest.out) c.in_ok-read.ensures.next ∙ rw written (lines-more c.args.before c.args.kinds.now c.loop-rest.out (take c.in_ok-read.read.count c.next_records.new.rows) _);
      kept = more-piece c.args.out.now c.loop-rest.out c.append.new.self _ c.loop-rest.invariant.kept written;
    }

pub returns-clause-ok : goal.returns-clause-ok
returns-clause-ok g c =
    c.loop-rest.invariant.text
    ∙ ap (lines_put c.args.before c.args.kinds.now c.loop-rest.out) (record-end c.loop-rest.row c.args.first c.args.kinds.now c.loop-rest.rest.now (omega arith) (grind (arith, nat_tests)))
    ∙ lines-end c.args.before c.args.kinds.now c.loop-rest.out

pub next_records-requires : goal.next_records-requires
next_records-requires g c =
    (omega (arith, c.requires.size), (omega (arith, c.requires.size), (omega (arith, c.requires.size), (c.requires.size, (c.requires.first, (c.record_width-width.ensures.value, (c.record_width-width.ensures.some (omega (arith, c.told-kinds, c.requires.some)), (some-left _ c.loop-rest-test.ensures, omega (arith, c.loop-rest.invariant.within)))))))))

pub write_lines-start-requires : goal.write_lines-start-requires
write_lines-start-requires g c =
    (omega (arith, c.requires.size), (omega (arith, c.requires.size), (omega (arith, c.requires.size), (c.requires.size, (c.requires.some, (c.front_of-front.ensures.short, (c.in_ok-read.ensures.count, c.in_ok-read.ensures.fit)))))))

pub returns-in_err-read-clause-kept : goal.returns-in_err-read-clause-kept
returns-in_err-read-clause-kept g c =
    let p = err_from_is_err_and c.from_residual.result c.from_residual.ensures.1 in
    rw p.1 c.loop-rest.invariant.kept

pub returns-in_err-append-clause-kept : goal.returns-in_err-append-clause-kept
returns-in_err-append-clause-kept g c =
    let p = err_from_is_err_and c.from_residual-in_err-append.result c.from_residual-in_err-append.ensures.1 in
    rw (p.1, c.in_err-append.ensures.unchanged) c.loop-rest.invariant.kept
