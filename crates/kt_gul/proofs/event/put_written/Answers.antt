use Rattle.std.proofs.Common.{ℕ, length, map, take, ap, arith, refl, subst, ◌++◌, List, ◌∙◌}
use Rattle.std.specs.List.{filter_map, flat_map}
use Rattle.std.proofs.lemmas.Result.{IfOk-from_err}
use Rattle.kt_tables.specs.PortfolioLaws.{items_distinct}
use Rattle.kt_stream.specs.Losses.{loss_bytes}
use Rattle.kt_stream.specs.declared.entry.LossRecord.{LossRecord}
use Rattle.kt_gul.specs.GroundUp.{StandsInFront, item_record}
use Rattle.kt_gul.specs.StruckItems.{item_of}
use Rattle.kt_gul.proofs.FinalLemmas.{direct_records}
use Rattle.kt_gul.proofs.FrontLemmas.{front_long, where_refused}
use Rattle.kt_gul.proofs.event.put_written.Goals as goal

pub returns-clause-ok : goal.returns-clause-ok
returns-clause-ok c =
    let rows = c.args.portfolio.now.rows in
    let draw = c.args.draw in
    let made = filter_map (item_record rows draw.samples draw.cut draw.event c.args.cdfs.now) (map item_of c.args.struck.now) in
    let direct = direct_records rows draw.samples draw.cut draw.event c.args.cdfs.now c.args.struck.now c.requires.order (items_distinct c.args.portfolio.now c.is_valid.ensures.valid) c.requires.rising in
    c.into_bytes.ensures.value ∙ (c.in_default.ensures.ok ∙ (ap (λ (out : List ℕ). out ++ flat_map loss_bytes made) (c.new-written.ensures.value ∙ c.replace-before.ensures.value)
    ∙ ap (λ (records : List LossRecord). c.args.out.now ++ flat_map loss_bytes records) direct))

pub returns-in_err-room : goal.returns-in_err-room
returns-in_err-room c = record { ok = IfOk-from_err c.from_residual.result _ c.from_residual.ensures.0; unchanged = where_refused c.from_residual.result refl }

pub truncate-requires : goal.truncate-requires
truncate-requires c =
    let out = c.args.out.now in
    let after = c.put_groups-answer.new.exit in
    let front = subst (λ (before : List ℕ). StandsInFront before after) (c.new-written.ensures.value ∙ c.replace-before.ensures.value) c.in-Err.ensures.front in
    omega (arith, c.len-length.ensures.value, ap length c.into_bytes.ensures.value, front_long out after front)

pub returns-in-Err-clause-unchanged : goal.returns-in-Err-clause-unchanged
returns-in-Err-clause-unchanged c =
    let out = c.args.out.now in
    let after = c.put_groups-answer.new.exit in
    let front = subst (λ (before : List ℕ). StandsInFront before after) (c.new-written.ensures.value ∙ c.replace-before.ensures.value) c.in-Err.ensures.front in
    c.truncate.ensures.value ∙ (ap (λ (upto : ℕ). take upto c.into_bytes.result) c.len-length.ensures.value ∙ (ap (take (length out)) c.into_bytes.ensures.value ∙ front))
