-- The parts of a generated set, added one after the other.
use Rattle.std.proofs.Common.{◌≡◌, List}
use Rattle.kt_out.specs.MemoryObjects.{SureFiles}
use Rattle.kt_out.specs.NamedFiles.{File}
use Rattle.kt_gen.specs.Parts.{with_files}

-- a part was added
abbrev pub Adds : SureFiles → List File → SureFiles → Type 0
Adds old part new = new ≡ record old { files = with_files old.files part }

-- a part behind files that are known
pub adds-known : (start next : SureFiles) (files part : List File) → start ≡ record { files = files; misses = 0 } → Adds start part next
    → next ≡ record { files = with_files files part; misses = 0 }
adds-known start next files part known added = rw known at added
