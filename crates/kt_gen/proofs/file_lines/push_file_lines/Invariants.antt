-- How far the lines of output files are written.
use Rattle.std.proofs.Common.{◌≡◌, ◌++◌, drop}
use Rattle.std.specs.Prelude.{map}
use Rattle.kt_cells.specs.Taking.{HasMore}
use Rattle.kt_out.specs.NamedFiles.{bytes_of}
use Rattle.kt_gen.specs.FileLines.{file_lines}
use Rattle.kt_gen.proofs.file_lines.push_file_lines.Given as goal

abbrev pub invariant-loop-file : goal.invariant-loop-file
invariant-loop-file g l = record {
  lines : l.out ++ file_lines (bytes_of l.outputs) (map g.F.Named.name (drop l.file-index l.files)) ≡ l.fn.out ++ file_lines (bytes_of l.outputs) (map g.F.Named.name l.files);
  begins : HasMore l.fn.out l.out;
}
