-- What taking a part does to a fold.
use Rattle.std.proofs.Common.{◌≡◌, List, [], ◌∷◌, ◌++◌, take, Option, Some, None, Result, Ok, Err, refl, sym, ap, subst, ◌∙◌, append-nil, append_assoc, inl, inr}
use Rattle.std.proofs.lemmas.List.{take-append-drop}
use Rattle.kt_cell.specs.Losses.{Added}
use Rattle.kt_cell.specs.Standing.{KeptCells, StandsFor}
use Rattle.kt_ends.specs.declared.status.Refusal.{Refusal}
use Rattle.kt_ends.specs.declared.status.Refusal.TheVariants as refusal
use Rattle.kt_block.specs.declared.block.EventBlock.{EventBlock}
use Rattle.kt_part.specs.Folding.{Takes}
use Rattle.kt_periods.specs.Adding.{first_refusal}
use Rattle.kt_rec.specs.Rows.{Rows}
use Rattle.kt_rec.specs.Sums.{each_append}
use Rattle.kt_fold.specs.Added.{block_added, blocks_added}
use Rattle.kt_fold.specs.FoldKeeps.{KeepsFront, KeepsPart, KeepsWhole, with_part}
use Rattle.kt_fold.specs.Folds.{AddsBlocks, FoldStart, FoldState, IsReason, IsWhole, StandsBehind, StopsAdding, StopsAtBlock, StopsBehind, StopsBy, blocks_of, fold_refusal, with_blocks}
use Rattle.kt_fold.specs.declared.fold.BlockStop.{BlockStop}
use Rattle.kt_fold.specs.declared.fold.FoldStop.{FoldStop}
use Rattle.kt_fold.specs.declared.fold.FoldStop.TheVariants as stop
use Rattle.kt_fold.specs.declared.part.PartBlock.{PartBlock}
use Rattle.kt_fold.specs.declared.part.RefusedRow.{RefusedRow}
use Rattle.kt_fold.specs.AddedLaws.{blocks_more, blocks_of_both, none_of_both}

module _ (start : FoldStart) (parts : List PartBlock) (part : PartBlock) where
  -- all records that were added before the part
  abbrev pub before : List Added
  before = start.history ++ blocks_added start.rows (blocks_of parts)

  -- no record is refused up to some blocks of the part
  clear_with : (taken : List EventBlock) → first_refusal start.history (blocks_added start.rows (blocks_of parts)) ≡ None → first_refusal before (blocks_added start.rows taken) ≡ None → first_refusal start.history (blocks_added start.rows (blocks_of parts ++ taken)) ≡ None
  clear_with taken one other =
      ap (first_refusal start.history) (blocks_of_both start.rows (blocks_of parts) taken) ∙ none_of_both start.history (blocks_added start.rows (blocks_of parts)) (blocks_added start.rows taken) one other

  history_with : (taken : List EventBlock) → before ++ blocks_added start.rows taken ≡ start.history ++ blocks_added start.rows (blocks_of parts ++ taken)
  history_with taken = grind_append ∙ ap (λ (more : List Added). start.history ++ more) (sym (blocks_of_both start.rows (blocks_of parts) taken))
    where
      grind_append : before ++ blocks_added start.rows taken ≡ start.history ++ (blocks_added start.rows (blocks_of parts) ++ blocks_added start.rows taken)
      grind_append = append_assoc start.history (blocks_added start.rows (blocks_of parts)) (blocks_added start.rows taken)

  module _ (old mid : FoldState) (stands : StandsBehind start old parts) (rows_are : mid.rows ≡ old.rows) (kept_are : mid.kept ≡ old.kept) (samples_are : mid.cells.samples ≡ old.cells.samples) where
    -- a fold after the part, by how it keeps it
    same_rows : (new : FoldState) → new.rows ≡ mid.rows → new.rows ≡ start.rows
    same_rows new is = is ∙ rows_are ∙ stands.same

    same_samples : (new : FoldState) → new.cells ≡ mid.cells → new.cells.samples ≡ start.samples
    same_samples new is = ap (λ (cells : KeptCells). cells.samples) is ∙ samples_are ∙ stands.samples

    kept_with : (new : FoldState) (one : PartBlock) → new ≡ with_part mid one → new.kept ≡ parts ++ one ∷ []
    kept_with new one is = ap (λ (fold : FoldState). fold.kept) is ∙ ap (λ (kept : List PartBlock). kept ++ one ∷ []) (kept_are ∙ stands.taken.kept_are)

    -- memory was wanting to keep the part, and the fold is as it was
    wanted : (new : FoldState) → new ≡ mid → StopsBehind start new parts part stop.OutOfMemory
    wanted new is = record {
      same = same_rows new (ap (λ (fold : FoldState). fold.rows) is);
      samples = same_samples new (ap (λ (fold : FoldState). fold.cells) is);
      stops = record {
        whole = stands.taken.whole;
        taken = [];
        rest = part.blocks;
        are = refl;
        clear = ap (λ (blocks : List EventBlock). first_refusal start.history (blocks_added start.rows blocks)) (append-nil (blocks_of parts)) ∙ stands.taken.clear;
        kept_are = inl (ap (λ (fold : FoldState). fold.kept) is ∙ kept_are ∙ stands.taken.kept_are);
      };
    }

    -- all blocks of the part were added
    module _ (clear : first_refusal before (blocks_added start.rows part.blocks) ≡ None) (added : StandsFor (before ++ blocks_added start.rows part.blocks) mid.cells) where
      stands_with : (new : FoldState) → part.refused ≡ None → new ≡ with_part mid part → StandsBehind start new (parts ++ part ∷ [])
      stands_with new none is = record {
        same = same_rows new (ap (λ (fold : FoldState). fold.rows) is);
        samples = same_samples new (ap (λ (fold : FoldState). fold.cells) is);
        taken = record {
          whole = each_append IsWhole parts (part ∷ []) stands.taken.whole (none, tt);
          clear = ap (λ (blocks : List EventBlock). first_refusal start.history (blocks_added start.rows blocks)) (blocks_more parts part) ∙ clear_with part.blocks stands.taken.clear clear;
          stands = subst (λ (cells : KeptCells). StandsFor (start.history ++ blocks_added start.rows (blocks_of (parts ++ part ∷ []))) cells) (sym (ap (λ (fold : FoldState). fold.cells) is))
              (subst (λ (history : List Added). StandsFor history mid.cells) (history_with part.blocks ∙ ap (λ (blocks : List EventBlock). start.history ++ blocks_added start.rows blocks) (sym (blocks_more parts part))) added);
          kept_are = kept_with new part is;
        };
      }

      stops_with : (new : FoldState) (row : RefusedRow) → part.refused ≡ Some row → new ≡ with_part mid part → StopsBehind start new parts part (stop.Row row)
      stops_with new row some is = record {
        same = same_rows new (ap (λ (fold : FoldState). fold.rows) is);
        samples = same_samples new (ap (λ (fold : FoldState). fold.cells) is);
        stops = record {
          whole = stands.taken.whole;
          taken = part.blocks;
          rest = [];
          are = sym (append-nil part.blocks);
          clear = clear_with part.blocks stands.taken.clear clear;
          reason = subst (λ (refused : Option RefusedRow). IsReason start.rows (start.history ++ blocks_added start.rows (blocks_of parts ++ part.blocks)) [] refused (refusal.Row row.event row.row row.cause)) (sym some) refl;
          kept_are = kept_with new part is;
        };
      }

      by_refused : (refused : Option RefusedRow) → part.refused ≡ refused → (result : Result (Unit {0}) FoldStop) (new : FoldState) → KeepsPart mid part refused result new → Takes (StandsBehind start new) (StopsBehind start new) parts part result
      by_refused None is (Ok done) new keeps = stands_with new is keeps
      by_refused (Some row) is (Ok done) new keeps = absurd keeps
      by_refused None is (Err stop.OutOfMemory) new keeps = wanted new keeps
      by_refused (Some row) is (Err stop.OutOfMemory) new keeps = wanted new keeps
      by_refused None is (Err (stop.Row row)) new keeps = absurd keeps
      by_refused (Some refused) is (Err (stop.Row row)) new keeps = stops_with new row (is ∙ ap (λ (one : RefusedRow). Some one) (sym keeps.0)) keeps.1
      by_refused None is (Err (stop.Cell event why)) new keeps = absurd keeps
      by_refused (Some row) is (Err (stop.Cell event why)) new keeps = absurd keeps

      pub whole_taken : (result : Result (Unit {0}) FoldStop) (new : FoldState) → KeepsWhole mid part result new → Takes (StandsBehind start new) (StopsBehind start new) parts part result
      whole_taken result new keeps = by_refused part.refused refl result new keeps

    -- the blocks before one of the part were added
    pub front_taken : (at : BlockStop) (answer : FoldStop) (new : FoldState) → StopsAtBlock start.rows before part.blocks at.place at.stop → KeepsFront mid part at answer new → StopsBehind start new parts part answer
    front_taken at answer new stops (inl keeps) = subst (StopsBehind start new parts part) (sym keeps.0) (record {
      same = same_rows new (ap (λ (fold : FoldState). fold.rows) keeps.1);
      samples = same_samples new (ap (λ (fold : FoldState). fold.cells) keeps.1);
      stops = by (fold_refusal at.stop) stops.reason;
    })
      where
        front_is : part.blocks ≡ take at.place part.blocks ++ stops.block ∷ stops.later
        front_is = sym (take-append-drop at.place part.blocks) ∙ ap (λ (rest : List EventBlock). take at.place part.blocks ++ rest) stops.is

        by : (why : Option Refusal) → StopsAdding (before ++ blocks_added start.rows (take at.place part.blocks)) (block_added start.rows stops.block) why → StopsBy start.rows start.history parts part why new.kept
        by None reason = record {
          whole = stands.taken.whole;
          taken = take at.place part.blocks;
          rest = stops.block ∷ stops.later;
          are = front_is;
          clear = clear_with (take at.place part.blocks) stands.taken.clear stops.clear;
          kept_are = inr (kept_with new (with_blocks (take at.place part.blocks) part) keeps.1);
        }
        by (Some why) reason = record {
          whole = stands.taken.whole;
          taken = take at.place part.blocks;
          rest = stops.block ∷ stops.later;
          are = front_is;
          clear = clear_with (take at.place part.blocks) stands.taken.clear stops.clear;
          reason = subst (λ (history : List Added). first_refusal history (block_added start.rows stops.block) ≡ Some why) (history_with (take at.place part.blocks)) reason;
          kept_are = kept_with new (with_blocks (take at.place part.blocks) part) keeps.1;
        }
    front_taken at answer new stops (inr keeps) = subst (StopsBehind start new parts part) (sym keeps.0) (wanted new keeps.1)

  -- ---- a fold that is seen as its fields

  module _ (old : FoldState) (rows : Rows) (cells_before cells : KeptCells) (kept : List PartBlock) (blocks : List EventBlock) (view : record { rows = rows; cells = cells_before; kept = kept } ≡ old) (blocks_are : blocks ≡ part.blocks) (samples_are : cells.samples ≡ cells_before.samples) (stands : StandsBehind start old parts) where
    abbrev pub seen : FoldState
    seen = record { rows = rows; cells = cells_before; kept = kept }

    abbrev pub after : FoldState
    after = record { rows = rows; cells = cells; kept = kept }

    stands_seen : StandsBehind start seen parts
    stands_seen = subst (λ (fold : FoldState). StandsBehind start fold parts) (sym view) stands

    adds_here : (result : Result (Unit {0}) BlockStop) → ((history : List Added) → StandsFor history cells_before → AddsBlocks rows history blocks cells result) → AddsBlocks start.rows before part.blocks cells result
    adds_here result adds =
        subst (λ (found : List EventBlock). AddsBlocks start.rows before found cells result) blocks_are
        (subst (λ (r : Rows). AddsBlocks r before blocks cells result) stands_seen.same (adds before stands_seen.taken.stands))

    pub takes_whole : ((history : List Added) → StandsFor history cells_before → AddsBlocks rows history blocks cells (Ok tt)) → (result : Result (Unit {0}) FoldStop) (new : FoldState) → KeepsWhole after part result new → Takes (StandsBehind start new) (StopsBehind start new) parts part result
    takes_whole adds result new keeps =
        let all = adds_here (Ok tt) adds in
        whole_taken seen after stands_seen refl refl samples_are all.0 all.1 result new keeps

    pub takes_front : (at : BlockStop) (answer : FoldStop) (new : FoldState) → ((history : List Added) → StandsFor history cells_before → AddsBlocks rows history blocks cells (Err at)) → KeepsFront after part at answer new → StopsBehind start new parts part answer
    takes_front at answer new adds keeps = front_taken seen after stands_seen refl refl samples_are at answer new (adds_here (Err at) adds) keeps
