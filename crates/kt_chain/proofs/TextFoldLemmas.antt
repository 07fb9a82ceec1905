-- The rows that were made with the parts of a round, and the parts alone.
use Rattle.std.proofs.Common.{◌≡◌, ◌∙◌, ◌<◌, ℕ, zero, suc, List, [], ◌∷◌, ◌++◌, length, map, slice_index_or, append-nil, arith, refl, sym, subst, Option, Some}
use Rattle.std.specs.List.{flat_map}
use Rattle.std.proofs.lemmas.List.{length-map}
use Rattle.kt_ends.specs.declared.status.Refusal.{Refusal}
use Rattle.kt_block.specs.declared.block.EventBlock.{EventBlock}
use Rattle.kt_files.specs.MadeRows.{AreRowsOf}
use Rattle.kt_files.specs.Parts.{block_text}
use Rattle.kt_files.specs.declared.file.OutputFile.{OutputFile}
use Rattle.kt_files.specs.declared.made.FileRows.{FileRows}
use Rattle.kt_fold.specs.Folds.{FoldStart, StandsBehind, StopsBehind, StopsBy, fold_refusal, with_blocks}
use Rattle.kt_fold.specs.declared.fold.FoldStop.{FoldStop}
use Rattle.kt_fold.specs.declared.part.PartBlock.{PartBlock}
use Rattle.kt_part.specs.Folding.{AreGiven, Folded, StoppedAt}
use Rattle.kt_rec.specs.Rows.{Rows}
use Rattle.kt_chain.specs.Rounds.{IsPart, RoundParts}
use Rattle.kt_chain.specs.TextFolds.{AreRowsOfParts, IsTextPart, KeepsRows, TextsStand, TextsStop, parts_of, rows_of}
use Rattle.kt_chain.specs.declared.text_fold.TextFold.{TextFold}
use Rattle.kt_chain.specs.declared.text_fold.TextPart.{TextPart}

-- the parts are given
given_parts : (round : RoundParts) (first : ℕ) (texts : List TextPart) → AreGiven (IsTextPart round) first texts → AreGiven (IsPart round) first (parts_of texts)
given_parts round first [] given = tt
given_parts round first (text ∷ texts) given = (given.0.part, given_parts round (suc first) texts given.1)

-- so are their rows, whatever parts stand behind them
given_rows : (round : RoundParts) (first : ℕ) (texts : List TextPart) (more : List PartBlock) → AreGiven (IsTextPart round) first texts → AreRowsOfParts round.terms.samples round.rows (rows_of texts) (parts_of texts ++ more)
given_rows round first [] more given = tt
given_rows round first (text ∷ texts) more given = (given.0.made, given_rows round (suc first) texts more given.1)

-- the rows that were made with the part at a place, and what its blocks add to a file
pub record RowsAt (samples : ℕ) (rows : Rows) (file : OutputFile) (parts : List PartBlock) (part : ℕ) (own : List FileRows) : Type 0 where
  pub blocks : List EventBlock
  pub are : AreRowsOf samples rows blocks own
  pub text : flat_map (block_text samples rows file) blocks ≡ slice_index_or (map (λ (one : PartBlock). flat_map (block_text samples rows file) one.blocks) parts) part []

pub rows_at : (samples : ℕ) (rows : Rows) (file : OutputFile) (made : List (List FileRows)) (parts : List PartBlock) (part : ℕ) (none : List FileRows) → part < length made → AreRowsOfParts samples rows made parts → RowsAt samples rows file parts part (slice_index_or made part none)
rows_at samples rows file [] parts part none below are = absurd (omega (arith, below))
rows_at samples rows file (own ∷ made) [] part none below are = absurd are
rows_at samples rows file (own ∷ made) (one ∷ parts) zero none below are = record { blocks = one.blocks; are = are.0; text = refl }
rows_at samples rows file (own ∷ made) (one ∷ parts) (suc part) none below are =
    let later = rows_at samples rows file made parts part none (omega (arith, below)) are.1 in
    record { blocks = later.blocks; are = later.are; text = later.text }

-- the same rows of the same parts
pub same_rows : (samples own_samples : ℕ) → own_samples ≡ samples → (rows own_rows : Rows) → own_rows ≡ rows → (made own_made : List (List FileRows)) → own_made ≡ made → (parts own_parts : List PartBlock) → own_parts ≡ parts
    → AreRowsOfParts samples rows made parts → AreRowsOfParts own_samples own_rows own_made own_parts
same_rows samples own_samples samples_are rows own_rows rows_are made own_made made_are parts own_parts parts_are are =
    subst (λ (n : ℕ). AreRowsOfParts n own_rows own_made own_parts) (sym samples_are)
    (subst (λ (r : Rows). AreRowsOfParts samples r own_made own_parts) (sym rows_are)
    (subst (λ (m : List (List FileRows)). AreRowsOfParts samples rows m own_parts) (sym made_are)
    (subst (AreRowsOfParts samples rows made) (sym parts_are) are)))

module _ (round : RoundParts) (start : FoldStart) (samples_are : start.samples ≡ round.terms.samples) (rows_are : start.rows ≡ round.rows) (fold : TextFold) where
  -- all parts were folded
  pub parts_folded : (count : ℕ) → Folded (IsTextPart round) (TextsStand start fold) [] count → Folded (IsPart round) (StandsBehind start fold.inner) [] count
  parts_folded count folded = record {
    blocks = parts_of folded.blocks;
    many = length-map folded.blocks (λ (one : TextPart). one.part) ∙ folded.many;
    given = given_parts round 0 folded.blocks folded.given;
    stand = folded.stand.parts;
  }

  pub keeps_all : (count : ℕ) → Folded (IsTextPart round) (TextsStand start fold) [] count → KeepsRows fold
  keeps_all count folded =
      same_rows round.terms.samples fold.inner.cells.samples (folded.stand.parts.samples ∙ samples_are) round.rows fold.inner.rows (folded.stand.parts.same ∙ rows_are)
      (rows_of folded.blocks) fold.made.items folded.stand.made (parts_of folded.blocks ++ []) fold.inner.kept (folded.stand.parts.taken.kept_are ∙ sym (append-nil (parts_of folded.blocks)))
      (given_rows round 0 folded.blocks [] folded.given)

  -- the fold stopped in a part
  pub parts_stopped : (count number : ℕ) (stop : FoldStop) → StoppedAt (IsTextPart round) (TextsStop start fold) [] count number stop → StoppedAt (IsPart round) (StopsBehind start fold.inner) [] count number stop
  parts_stopped count number stop stopped = record {
    blocks = parts_of stopped.blocks;
    many = length-map stopped.blocks (λ (one : TextPart). one.part) ∙ stopped.many;
    below = stopped.below;
    given = given_parts round 0 stopped.blocks stopped.given;
    block = stopped.block.part;
    is_given = stopped.is_given.part;
    has_stopped = stopped.has_stopped.parts;
  }

  pub keeps_front : (count number : ℕ) (stop : FoldStop) → StoppedAt (IsTextPart round) (TextsStop start fold) [] count number stop → (why : Refusal) → fold_refusal stop ≡ Some why → KeepsRows fold
  keeps_front count number stop stopped why is =
      let stops = subst (λ (found : Option Refusal). StopsBy start.rows start.history (parts_of stopped.blocks) stopped.block.part found fold.inner.kept) is stopped.has_stopped.parts.stops in
      let behind = with_blocks stops.taken stopped.block.part ∷ [] in
      same_rows round.terms.samples fold.inner.cells.samples (stopped.has_stopped.parts.samples ∙ samples_are) round.rows fold.inner.rows (stopped.has_stopped.parts.same ∙ rows_are)
      (rows_of stopped.blocks) fold.made.items stopped.has_stopped.made (parts_of stopped.blocks ++ behind) fold.inner.kept stops.kept_are
      (given_rows round 0 stopped.blocks behind stopped.given)
