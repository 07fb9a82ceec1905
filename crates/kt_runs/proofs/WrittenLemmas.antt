-- The bytes of a record of pairs.
use Rattle.std.proofs.Common.{◌≡◌, ℕ, ◌<◌, List, [], ◌∷◌, ◌++◌, length, sym, ap, arith, ◌∙◌, append-nil}
use Rattle.std.specs.List.{cons_option, flat_map}
use Rattle.kt_stream.specs.Losses.{loss_bytes}
use Rattle.kt_stream.specs.Pairs.{pairs_bytes}
use Rattle.kt_stream.specs.declared.entry.Pair.{Pair}
use Rattle.kt_runs.specs.Records.{record_with}

-- they are those of the fields in front and those of the pairs
pub record-bytes : (event id : ℕ) (pairs : List Pair) (front text : List ℕ) → 0 < length pairs → ((pairs : List Pair) → loss_bytes (record { event = event; id = id; pairs = pairs }) ≡ front ++ pairs_bytes pairs) → text ≡ pairs_bytes pairs → front ++ text ≡ flat_map loss_bytes (cons_option (record_with event id pairs) [])
record-bytes event id [] front text some fronts is = absurd (omega arith)
record-bytes event id (pair ∷ pairs) front text some fronts is =
    ap (λ text. front ++ text) is ∙ (sym (fronts (pair ∷ pairs)) ∙ sym (append-nil (loss_bytes (record { event = event; id = id; pairs = pair ∷ pairs }))))

-- and without a pair there is none
pub no-record : (event id : ℕ) (pairs : List Pair) (old : List ℕ) → pairs ≡ [] → old ≡ old ++ flat_map loss_bytes (cons_option (record_with event id pairs) [])
no-record event id pairs old none = sym (ap (λ (pairs : List Pair). old ++ flat_map loss_bytes (cons_option (record_with event id pairs) [])) none ∙ append-nil old)
