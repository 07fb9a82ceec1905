-- The bytes of records that are put one after the other.
-- The rule: docs/STREAMS.md, "Records".
use Rattle.std.specs.Prelude.{◌≡◌, ◌<◌, ◌+◌, ◌++◌, ℕ, List, [], ◌∷◌, length, take, Option, slice_index_or}
use Rattle.std.specs.List.{cons_option, filter_map, flat_map}
use Rattle.std.proofs.Common.{ap, sym, ◌∙◌, append_assoc}
use Rattle.std.proofs.lemmas.List.{take_more}
use Rattle.std.proofs.lemmas.List.Concat.{flat_map-append}
use Rattle.std.proofs.lemmas.List.Elements.{filter_map-append}
use Rattle.kt_stream.specs.Losses.{loss_bytes}
use Rattle.kt_stream.specs.declared.entry.LossRecord.{LossRecord}

-- those of what is made of each, with those of one more
pub put-more : {X : Type 0} (f : X → Option LossRecord) (xs : List X) (i : ℕ) (d : X) (old now next : List ℕ) → i < length xs → now ≡ old ++ flat_map loss_bytes (filter_map f (take i xs)) → next ≡ now ++ flat_map loss_bytes (cons_option (f (slice_index_or xs i d)) []) → next ≡ old ++ flat_map loss_bytes (filter_map f (take (i + 1) xs))
put-more f xs i d old now next below now_is next_is =
    let front = filter_map f (take i xs) in
    let last = cons_option (f (slice_index_or xs i d)) [] in
    next_is
    ∙ (ap (λ now. now ++ flat_map loss_bytes last) now_is
    ∙ (append_assoc old (flat_map loss_bytes front) (flat_map loss_bytes last)
    ∙ ap (λ text. old ++ text) (sym (flat_map-append loss_bytes front last) ∙ ap (flat_map loss_bytes) (sym (ap (filter_map f) (take_more xs i d below) ∙ filter_map-append f (take i xs) (slice_index_or xs i d ∷ []))))))
