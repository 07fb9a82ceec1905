use Rattle.std.proofs.Common.{ℕ, ◌<◌, List, [], ◌++◌, length, take, slice_index, ap, arith, sym, append-nil, append_assoc, ◌∙◌}
use Rattle.std.proofs.lemmas.List.{take_at}
use Rattle.std.proofs.lemmas.Result.{on_err_weaker, on_ok_weaker}
use Rattle.kt_gul.specs.GroundUp.{pairs_of}
use Rattle.kt_gul.proofs.FrontLemmas.{some_put, where_refused}
use Rattle.kt_gul.proofs.PairLemmas.{no_record_bytes, record_bytes}
use Rattle.kt_gul.proofs.exit.WrittenExit.put.Goals as goal

pub returns-clause-ok : goal.returns-clause-ok
returns-clause-ok c =
    let pairs = pairs_of (λ place. slice_index c.args.row.now place) c.args.draw.samples in
    let bytes = c.write_row-used.new.bytes in
    let used = c.write_row-used.result in
    let front = c.loss_front.result in
    let some : 0 < used = omega (arith, c.if-used-eq0.false) in
    let room = ap length c.as_mut_slice.ensures.value in
    let bytes_are = c.deref.ensures.value ∙ take_at bytes _ c.self.inside.room.len (omega (arith, c.write_row-used.ensures.room, room, c.self.inside.room.ok.0)) in
    on_ok_weaker c.append-2.result (λ is.
    is ∙ (ap (λ (out : List ℕ). out ++ take used c.deref.result.now) (c.in_ok-append.ensures.ok ∙ ap (λ (out : List ℕ). out ++ front) c.self.view_is)
    ∙ (append_assoc c.args.self.now front (take used c.deref.result.now)
    ∙ ap (λ (more : List ℕ). c.args.self.now ++ more) (ap (λ (piece : List ℕ). front ++ piece) (ap (take used) bytes_are ∙ c.write_row-used.ensures.bytes some)
    ∙ sym (record_bytes c.args.draw.event c.args.id pairs front (c.write_row-used.ensures.some some) c.loss_front.ensures.front))))) c.append-2.ensures.ok

pub returns-clause-front : goal.returns-clause-front
returns-clause-front c = on_err_weaker c.append-2.result (λ is. some_put c.args.self.now c.loss_front.result c.append-2.new.self (is ∙ (c.in_ok-append.ensures.ok ∙ ap (λ (out : List ℕ). out ++ c.loss_front.result) c.self.view_is))) c.append-2.ensures.unchanged

pub returns-in_err-append-clause-front : goal.returns-in_err-append-clause-front
returns-in_err-append-clause-front c = where_refused c.from_residual.result (some_put c.args.self.now [] c.append.new.self (c.in_err-append.ensures.unchanged ∙ (c.self.view_is ∙ sym (append-nil c.args.self.now))))

pub returns-then-used-eq0-clause-ok : goal.returns-then-used-eq0-clause-ok
returns-then-used-eq0-clause-ok c =
    let pairs = pairs_of (λ place. slice_index c.args.row.now place) c.args.draw.samples in
    c.self.view_is ∙ no_record_bytes c.args.draw.event c.args.id pairs c.args.self.now (c.write_row-used.ensures.none c.if-used-eq0.true)
