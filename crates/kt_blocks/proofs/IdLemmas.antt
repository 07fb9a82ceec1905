-- The bytes of ids, so many at once.
use Rattle.std.proofs.Common.{◌≡◌, ℕ, ◌+◌, ◌*◌, List, ◌++◌, length, take, drop, sym, ap, ◌∙◌, arith, drop-drop}
use Rattle.std.specs.Prelude.{min}
use Rattle.std.specs.List.{flat_map}
use Rattle.std.proofs.lemmas.Grind.{flat_map-append}
use Rattle.std.proofs.lemmas.List.{take_min, take-append-drop}
use Rattle.byteorder.specs.Endian.{little_bytes}

-- the bytes of a piece, and those behind it
pub ids-made : (ids : List ℕ) (index : ℕ) (out after : List ℕ) → after ≡ out ++ flat_map (little_bytes 4) (take (min 1024 (length (drop (index * 1024) ids))) (drop (index * 1024) ids))
    → (more : List ℕ) × (after ≡ out ++ more) × (flat_map (little_bytes 4) (drop (index * 1024) ids) ≡ more ++ flat_map (little_bytes 4) (drop ((index + 1) * 1024) ids))
ids-made ids index out after is =
    let left : List ℕ = drop (index * 1024) ids in
    let next : index * 1024 + 1024 ≡ (index + 1) * 1024 = omega arith in (
      flat_map (little_bytes 4) (take 1024 left),
      is ∙ ap (λ (part : List ℕ). out ++ flat_map (little_bytes 4) part) (take_min 1024 left),
      ap (flat_map (little_bytes 4)) (sym (take-append-drop 1024 left)) ∙ flat_map-append (little_bytes 4) (take 1024 left) (drop 1024 left)
          ∙ ap (λ (rest : List ℕ). flat_map (little_bytes 4) (take 1024 left) ++ flat_map (little_bytes 4) rest) (drop-drop 1024 (index * 1024) ids ∙ ap (λ n. drop n ids) next),
    )
