-- The summary of one place more.
use Rattle.std.proofs.lemmas.List.{get_or_default}
use Rattle.std.proofs.Common.{get_or, ap, ◌∙◌, refl, take_all}
use Rattle.std.specs.Prelude.{nat_eq}
use Rattle.std.specs.List.{list_any}
use Rattle.std.proofs.lemmas.List.Elements.{All-nil}
use Rattle.kt_period_cells.specs.declared.group.SummaryRow.{SummaryRow}
use Rattle.kt_period_cells.proofs.IdLists.{rising_none, with_id}
use Rattle.kt_period_cells.proofs.group.summaries_of.Goals as goal

-- no place
abbrev none : SummaryRow
none = record { summary = 0; row = 0 }

pub loop-place-init : goal.loop-place-init
loop-place-init c = record {
  rising = rising_none c.new-ids.result.items c.new-ids.ensures.items;
  members = λ id. ap (list_any (nat_eq id)) c.new-ids.ensures.items;
  low = λ j d after inside. rw c.new-ids.ensures.items (All-nil _);
}

pub loop-place-preserved : goal.loop-place-preserved
loop-place-preserved c =
    let now = c.loop-place.invariant in
    let place : SummaryRow = get_or c.as_slice-place-items.result.now c.loop-place.place-index none in
    with_id c.as_slice-place-items.result.now c.loop-place.place-index place c.loop-place.ids.items _ _ (rw c.as_slice-place-items.ensures.value c.as_slice-place-items.ensures.rising) c.loop-place-test.true (get_or_default c.as_slice-place-items.result.now c.loop-place.place-index none place c.loop-place-test.true) refl c.in_ok-push_new.ensures.ok now.rising now.members now.low

pub returns : goal.returns
returns c =
    let now = c.loop-place.invariant in
    let whole = take_all c.loop-place.place-index c.as_slice-place-items.result.now c.loop-place-test.false ∙ c.as_slice-place-items.ensures.value in
    record { rising = now.rising; members = λ id. now.members id ∙ ap (list_any (λ (p : SummaryRow). nat_eq id p.summary)) whole }
