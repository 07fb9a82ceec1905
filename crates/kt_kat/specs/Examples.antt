-- The worked examples of docs/COMMANDS.md, "kat", by computing.
-- The rule: docs/COMMANDS.md, "kat".
use Rattle.std.specs.Prelude.{◌≡◌, ℕ, List, [], ◌∷◌, ◌++◌, codes}
use Rattle.std.proofs.Common.{refl}
use Rattle.kt_out.specs.NamedFiles.{File, bytes_of}
use Rattle.kt_stream.specs.declared.stop.StreamStop.TheVariants.{Cut, WrongStream}
use Rattle.kt_stream.specs.Losses.{loss_in, loss_bytes}
use Rattle.kt_stream.specs.Pairs.{pairs_in, pair_in, pairs_bytes, pair_bytes, end_bytes}
use Rattle.kt_stream.specs.Read.{number_of}
use Rattle.kt_stream.specs.Stream.{walk, reads_on, within_room}
use Rattle.kt_ends.specs.Endings.{nothing}
use Rattle.kt_ends.specs.Outcome.{Outcome}
use Rattle.kt_ends.specs.declared.status.Refusal.TheVariants as refusal
use Rattle.kt_ends.specs.declared.status.Status.TheVariants.{Done, Refused}
use Rattle.kt_loop.specs.Outcome.{gives}
use Rattle.kt_kat.specs.Outcome.{kat_outcome}

-- two files of these bytes, by the names `a` and `b`
abbrev two_files : List ℕ → List ℕ → List File
two_files one other = record { name = codes "a"; bytes = one } ∷ record { name = codes "b"; bytes = other } ∷ []

-- what comes of the two
abbrev of_two : List ℕ → List ℕ → Outcome
of_two one other = kat_outcome (codes "a" ∷ codes "b" ∷ []) (bytes_of (two_files one other))

-- the header of a stream of ground-up losses with so many samples
abbrev gul_header : ℕ → List ℕ
gul_header samples = 1 ∷ 0 ∷ 0 ∷ 101 ∷ samples ∷ 0 ∷ 0 ∷ 0 ∷ []

-- a record of event 1 and an item, with a loss of 1.00 in sample 1
abbrev record_of : ℕ → List ℕ
record_of item = 1 ∷ 0 ∷ 0 ∷ 0 ∷ item ∷ 0 ∷ 0 ∷ 0 ∷ 1 ∷ 0 ∷ 0 ∷ 0 ∷ 100 ∷ 0 ∷ 0 ∷ 0 ∷ 0 ∷ 0 ∷ 0 ∷ 0 ∷ 0 ∷ 0 ∷ 0 ∷ 0 ∷ 0 ∷ 0 ∷ 0 ∷ 0 ∷ 0 ∷ 0 ∷ 0 ∷ 0 ∷ []

-- files that begin with 4 and above are written as they are
plain_bytes : of_two (5 ∷ 6 ∷ []) (0 ∷ []) ≡ gives Done (5 ∷ 6 ∷ 0 ∷ [])
plain_bytes = refl

-- and so they are where the first is empty
first_empty : of_two [] (gul_header 2) ≡ gives Done (gul_header 2)
first_empty = refl

-- a file that is not there is missing, whatever the others hold
missing : kat_outcome (codes "a" ∷ codes "c" ∷ []) (bytes_of (two_files (1 ∷ []) [])) ≡ nothing (Refused (refusal.Missing (codes "c")))
missing = refl

-- the header is written once, and then the records of both
joined_records : of_two (gul_header 2 ++ record_of 1) (gul_header 2 ++ record_of 2) ≡ gives Done (gul_header 2 ++ (record_of 1 ++ record_of 2))
unfolding walk reads_on within_room number_of loss_in pairs_in pair_in loss_bytes pairs_bytes pair_bytes end_bytes
joined_records = refl

-- streams with 2 and with 3 samples: the first is written
header_differs : of_two (gul_header 2 ++ record_of 1) (gul_header 3) ≡ gives (Refused (refusal.HeaderDiffers 2)) (gul_header 2 ++ record_of 1)
unfolding walk reads_on within_room number_of loss_in pairs_in pair_in loss_bytes pairs_bytes pair_bytes end_bytes
header_differs = refl

-- a later file that is empty is cut off
later_empty : of_two (gul_header 2) [] ≡ gives (Refused (refusal.File 2 (Cut 0))) (gul_header 2)
unfolding walk reads_on within_room number_of loss_in pairs_in pair_in loss_bytes pairs_bytes pair_bytes end_bytes
later_empty = refl

-- a later file of another kind
later_other : of_two (gul_header 2) (2 ∷ 0 ∷ 0 ∷ 101 ∷ 2 ∷ 0 ∷ 0 ∷ 0 ∷ []) ≡ gives (Refused (refusal.File 2 (WrongStream 2))) (gul_header 2)
unfolding walk reads_on within_room number_of loss_in pairs_in pair_in loss_bytes pairs_bytes pair_bytes end_bytes
later_other = refl

-- a record that is cut off: those before it are written, and bytes are counted in their file
cut_record : of_two (gul_header 2 ++ record_of 1) (gul_header 2 ++ (record_of 2 ++ 1 ∷ [])) ≡ gives (Refused (refusal.File 2 (Cut 41))) (gul_header 2 ++ (record_of 1 ++ record_of 2))
unfolding walk reads_on within_room number_of loss_in pairs_in pair_in loss_bytes pairs_bytes pair_bytes end_bytes
cut_record = refl
