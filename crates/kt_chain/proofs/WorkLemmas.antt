-- The blocks of a part, one more at a time.
use Rattle.std.proofs.Common.{◌≡◌, ◌⊎◌, ℕ, List, [], ◌∷◌, ◌++◌, Option, Some, None, Result, Ok, Err, refl, sym, ap, ◌∙◌, append_assoc, inl, inr}
use Rattle.std.specs.Result.{IfErr}
use Rattle.kt_event.specs.Losses.{block_unless, event_result}
use Rattle.kt_event.specs.Plan.{IsOrMemory}
use Rattle.kt_block.specs.declared.block.EventBlock.{EventBlock}
use Rattle.kt_block.specs.declared.terms.Terms.{Terms}
use Rattle.kt_rec.specs.FootRows.{first_refused_row}
use Rattle.kt_rec.specs.Rows.{Rows}
use Rattle.kt_rec.specs.declared.foot_rows.ModelStop.{ModelStop}
use Rattle.kt_rec.specs.declared.foot_rows.ModelStop.TheVariants as stop
use Rattle.kt_rec.specs.declared.foot_rows.RowCause.{RowCause}
use Rattle.kt_chain.specs.Rounds.{before_part, given_block, part_of}
use Rattle.kt_load.specs.EventRows.{EventRows}
use Rattle.kt_fold.specs.declared.part.PartBlock.{PartBlock}

-- a part behind other blocks
abbrev pub behind : List EventBlock → PartBlock → PartBlock
behind blocks part = record { blocks = blocks ++ part.blocks; refused = part.refused }

module _ (terms : Terms) (rows : Rows) (one : EventRows) where
  -- what an event gives, by its rows
  found_block : (why : Option ModelStop) → first_refused_row one.rows ≡ why → (block : EventBlock) → (Ok block ≡ block_unless why (given_block terms rows one)) ⊎ (Ok block ≡ Err stop.OutOfMemory) → (first_refused_row one.rows ≡ None) × (block ≡ given_block terms rows one)
  found_block None is block (inl same) = (is, cc)
  found_block None is block (inr other) = cc
  found_block (Some why) is block (inl same) = cc
  found_block (Some why) is block (inr other) = cc

  pub block_found : (block : EventBlock) → IsOrMemory (event_result terms rows one.event one.rows) (Ok block) → (first_refused_row one.rows ≡ None) × (block ≡ given_block terms rows one)
  block_found block is = found_block (first_refused_row one.rows) refl block is

  -- a result with this stop
  abbrev stopped : ModelStop → Result EventBlock ModelStop
  stopped why = Err why

  found_row : (why : Option ModelStop) → first_refused_row one.rows ≡ why → (row : ℕ) (cause : RowCause) → (stopped (stop.Row row cause) ≡ block_unless why (given_block terms rows one)) ⊎ (stopped (stop.Row row cause) ≡ stopped stop.OutOfMemory) → first_refused_row one.rows ≡ Some (stop.Row row cause)
  found_row None is row cause (inl same) = cc
  found_row None is row cause (inr other) = cc
  found_row (Some why) is row cause (inl same) = is ∙ cc
  found_row (Some why) is row cause (inr other) = cc

  pub row_found : (row : ℕ) (cause : RowCause) → IsOrMemory (event_result terms rows one.event one.rows) (Err (stop.Row row cause)) → first_refused_row one.rows ≡ Some (stop.Row row cause)
  row_found row cause is = found_row (first_refused_row one.rows) refl row cause is

  -- one block more
  pub block_more : (blocks : List EventBlock) (block : EventBlock) (whole : PartBlock) (later : List EventRows) → (first_refused_row one.rows ≡ None) × (block ≡ given_block terms rows one) → whole ≡ behind blocks (part_of terms rows (one ∷ later)) → whole ≡ behind (blocks ++ block ∷ []) (part_of terms rows later)
  block_more blocks block whole later found is =
      is ∙ ap (λ (why : Option ModelStop). behind blocks (before_part one (given_block terms rows one) why (part_of terms rows later))) found.0
      ∙ ap (λ (b : EventBlock). behind blocks (record { blocks = b ∷ (part_of terms rows later).blocks; refused = (part_of terms rows later).refused })) (sym found.1)
      ∙ ap (λ (bs : List EventBlock). record { blocks = bs; refused = (part_of terms rows later).refused }) (sym (append_assoc blocks (block ∷ []) (part_of terms rows later).blocks))

  -- a row is refused
  pub row_ends : (blocks : List EventBlock) (whole : PartBlock) (later : List EventRows) (row : ℕ) (cause : RowCause) → first_refused_row one.rows ≡ Some (stop.Row row cause) → whole ≡ behind blocks (part_of terms rows (one ∷ later)) → record { blocks = blocks; refused = Some (record { event = one.event; row = row; cause = cause }) } ≡ whole
  row_ends blocks whole later row cause found is =
      ap (λ (bs : List EventBlock). record { blocks = bs; refused = Some (record { event = one.event; row = row; cause = cause }) }) (sym (none blocks))
      ∙ sym (is ∙ ap (λ (why : Option ModelStop). behind blocks (before_part one (given_block terms rows one) why (part_of terms rows later))) found)
    where
      none : (bs : List EventBlock) → bs ++ [] ≡ bs
      none [] = refl
      none (b ∷ bs) = ap (λ (xs : List EventBlock). b ∷ xs) (none bs)

-- nothing is said of a failure
pub any_failure : {T E : Type 0} (answer : Result T E) → IfErr answer (λ _. Unit {0})
any_failure (Ok made) = tt
any_failure (Err stop) = tt
