-- The ids that a record of losses may have, as rows that are found by their id.
-- The rules: docs/STREAMS.md, "Tools over losses".
use Rattle.std.specs.Prelude.{ℕ, Bool, true, false, nat_eq, List, map}
use Rattle.std.specs.List.{list_any}
use Rattle.kt_losses.specs.declared.known.KnownId.{KnownId}
use Rattle.kt_rec.specs.Rows.{Rows}

-- whether one of these has an id
abbrev pub has_id : List KnownId → ℕ → Bool
has_id ids id = list_any (λ known. nat_eq id known.id) ids

-- those of items, or of outputs
abbrev pub known_rows : Bool → Rows → List KnownId
known_rows true rows = map (λ row. record { id = row.item_id }) rows.items
known_rows false rows = map (λ row. record { id = row.output_id }) rows.fm_xref
