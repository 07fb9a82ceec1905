-- What `kat` makes of the named files.
-- The rules: docs/COMMANDS.md, "kat".
use Rattle.std.specs.Prelude.{ℕ, List, true, false, Result, Ok, Err}
use Rattle.std.specs.List.{flat_map}
use Rattle.kt_out.specs.NamedFiles.{FileMap}
use Rattle.kt_stream.specs.declared.kind.StreamKind.TheVariants.{Gul, Loss}
use Rattle.kt_stream.specs.Bins.{cdf_form, cdf_shape}
use Rattle.kt_stream.specs.Losses.{loss_form, loss_shape}
use Rattle.kt_stream.specs.Summary.{summary_form, summary_shape}
use Rattle.kt_ends.specs.Endings.{nothing}
use Rattle.kt_ends.specs.Outcome.{Outcome}
use Rattle.kt_ends.specs.World.{Uses}
use Rattle.kt_ends.specs.declared.status.Refusal.{Refusal}
use Rattle.kt_ends.specs.declared.status.Status.TheVariants.{Done, Refused}
use Rattle.kt_loop.specs.Outcome.{gives}
use Rattle.kt_kat.specs.Files.{files_of}
use Rattle.kt_kat.specs.FileKinds.{kind_of_files}
use Rattle.kt_kat.specs.Joining.{joined_files}
use Rattle.kt_kat.specs.declared.front.FileKind.{FileKind}
use Rattle.kt_kat.specs.declared.front.FileKind.TheVariants as file_kind

-- all files one after the other: where they are streams of a kind as one stream, else their bytes
abbrev pub together : FileKind → List (List ℕ) → Outcome
together file_kind.Plain files = gives Done (flat_map (λ bytes. bytes) files)
together file_kind.Cdf files = joined_files cdf_form (cdf_shape 1000) files
together file_kind.Gul files = joined_files loss_form (loss_shape Gul) files
together file_kind.Loss files = joined_files loss_form (loss_shape Loss) files
together file_kind.Summary files = joined_files summary_form summary_shape files

abbrev pub by_files : Result (List (List ℕ)) Refusal → Outcome
by_files (Ok files) = together (kind_of_files files) files
by_files (Err why) = nothing (Refused why)

-- the outcome of `kat` over the files of these names: none is read before all were found
abbrev pub kat_outcome : List (List ℕ) → FileMap → Outcome
kat_outcome names files = by_files (files_of names files)

-- `kat` reads named files, and writes to the sink
abbrev pub kat_uses : Uses
kat_uses = record { inputs = true; outputs = false; source = false; whole = false; sink = true }
