use Rattle.std.proofs.Common.{Option, ◌++◌, sym, subst, ap, ◌∙◌, Bool}
use Rattle.std.specs.Prelude.{is_some}
use Rattle.kt_ends.specs.declared.status.Refusal.{Refusal}
use Rattle.kt_stream.specs.Reader.{piece_in}
use Rattle.kt_stream.specs.declared.kind.Head.{Head}
use Rattle.kt_loop.specs.Calculation.{Course}
use Rattle.kt_loop.specs.Carrying.{header_if}
use Rattle.kt_loop.specs.RecordStreams.{contents_of}
use Rattle.kt_loop.specs.Steps.{Comes}
use Rattle.kt_loop.proofs.Growing.{header_was, map_ok, turned}
use Rattle.kt_loop.proofs.RecordReading.{behind_all, fed_so, head_is, judged_so, records_are}
use Rattle.kt_loop.proofs.turn.turn.Goals as goal

-- a header that was read before is read still
pub carry_on-requires-clause-ready : goal.carry_on-requires-clause-ready
carry_on-requires-clause-ready g c =
    let form = g.E.Entry.form in
    let reader = c.args.reader.now in
    let piece = piece_in reader.pending c.args.block.now.items c.args.upto in
    let stood = c.requires.stood in
    let now = fed_so form reader.shape stood.fed _ reader stood.stands piece c.feed.new.self c.feed.ensures.fed c.feed.ensures.shape in
    let grows = c.what_is_read_stays.ensures reader.shape stood.fed piece in
    subst (λ (header : Option Head). g.T.Stage.is_ready header c.args.stage.now c.args.beside.now)
    (sym (ap (λ (was : Bool). header_if was c.feed.new.self.head) (c.is_some-was_open.ensures ∙ ap (λ (header : Option Head). is_some header) c.head.ensures.value)
    ∙ header_was reader.head c.feed.new.self.head (λ known is. head_is form reader.shape _ _ c.feed.new.self now ∙ grows.head known (sym (head_is form reader.shape stood.fed _ reader stood.stands) ∙ is)))) c.requires.ready

pub returns-clause-stands : goal.returns-clause-stands
returns-clause-stands g c =
    map_ok c.carry_on.result _ _
    (λ stop reads shape fed stands.
    let now = fed_so g.E.Entry.form shape fed _ c.args.reader.now stands (piece_in c.args.reader.now.pending c.args.block.now.items c.args.upto) c.feed.new.self c.feed.ensures.fed c.feed.ensures.shape in
    (behind_all g.E.Entry.form shape _ _ c.feed.new.self now stop c.carry_on.new.reader reads, judged_so g.E.Entry.form shape _ _ c.feed.new.self now stop c.carry_on.new.reader reads))
    c.carry_on.ensures.read

pub returns-clause-course : goal.returns-clause-course
returns-clause-course g c shape fed before start stands standing =
    let form = g.E.Entry.form in
    let piece = piece_in c.args.reader.now.pending c.args.block.now.items c.args.upto in
    let now = fed_so form shape fed _ c.args.reader.now stands piece c.feed.new.self c.feed.ensures.fed c.feed.ensures.shape in
    let same = turned g.T.Stage.calculation start (contents_of form shape fed) (contents_of form shape (fed ++ piece)) c.args.reader.now.head c.feed.new.self.head _ c.is_some-was_open.result (head_is form shape fed _ c.args.reader.now stands) (head_is form shape _ _ c.feed.new.self now) (records_are form shape _ _ c.feed.new.self now)
    (c.what_is_read_stays.ensures shape fed piece) (c.is_some-was_open.ensures ∙ ap (λ (header : Option Head). is_some header) c.head.ensures.value) in
    subst (λ (course : Course g.T.Stage.State Refusal). Comes (λ state. g.T.Stage.is_at state c.carry_on.new.stage c.carry_on.new.beside) before (g.K.Sink.state c.carry_on.new.sink).taken c.carry_on.new.out course c.carry_on.result) same
    (c.carry_on.ensures.course before _ standing)
