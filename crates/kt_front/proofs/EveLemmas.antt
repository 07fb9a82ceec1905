-- What `eve` writes.
use Rattle.std.proofs.Common.{◌≡◌, ℕ, List, Ok, Err, Result, true, ap, ◌∙◌, sym}
use Rattle.std.specs.Prelude.{if◌then◌else◌}
use Rattle.kt_eve.specs.Parts.{has_part, part_of, part_or_none}
use Rattle.kt_eve.specs.declared.event_part.BadPart.{BadPart}
use Rattle.kt_rec.specs.Rows.{Rows}
use Rattle.kt_tables.specs.Lookups.{event_ids}
use Rattle.kt_ends.specs.Endings.{writes_text}
use Rattle.kt_front.specs.EventList.{eve_outcome, event_bytes}

abbrev found : List ℕ → Result (List ℕ) BadPart
found events = Ok events

same_part : (one other : List ℕ) → found one ≡ Ok other → one ≡ other
same_part one other is = cc

-- a part that there is
part_is : (ids events : List ℕ) (part parts : ℕ) → has_part part parts ≡ true → found events ≡ part_or_none ids part parts → events ≡ part_of ids part parts
part_is ids events part parts there is = same_part events (part_of ids part parts) (is ∙ ap (λ b. if b then Ok (part_of ids part parts) else Err (record {})) there)

-- the ids of a part are what is written
pub ids_are : (rows : Rows) (ids events : List ℕ) (part parts : ℕ) → has_part part parts ≡ true → ids ≡ event_ids rows → found events ≡ part_or_none ids part parts → eve_outcome part parts rows ≡ writes_text (event_bytes events)
ids_are rows ids events part parts there listed is = sym (ap (λ l. writes_text (event_bytes l)) (part_is ids events part parts there is ∙ ap (λ l. part_of l part parts) listed))
