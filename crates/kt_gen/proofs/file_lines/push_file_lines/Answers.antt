use Rattle.std.proofs.Common.{◌++◌, ◌∙◌, ap}
use Rattle.kt_out.specs.NamedFiles.{bytes_of}
use Rattle.kt_gen.specs.FileLines.{line_of}
use Rattle.kt_gen.proofs.FileLineLemmas.{begins-piece, line-more, lines-end}
use Rattle.kt_gen.proofs.file_lines.push_file_lines.Goals as goal

pub loop-file-preserved : goal.loop-file-preserved
loop-file-preserved g c = record {
  lines =
      line-more (bytes_of c.args.outputs.now) g.F.Named.name c.args.out.now c.loop-file.out c.push_line_of.new.out c.args.files.now c.loop-file.file-index c.file-item.result c.loop-file-test.true
      (c.in_ok-push_line_of.ensures.ok ∙ ap (λ file. c.loop-file.out ++ line_of (g.F.Named.name file) (bytes_of c.args.outputs.now (g.F.Named.name file))) c.file-item.is) c.loop-file.invariant.lines;
  begins = begins-piece c.args.out.now c.loop-file.out _ c.push_line_of.new.out c.loop-file.invariant.begins c.in_ok-push_line_of.ensures.ok;
}

pub returns-clause-ok : goal.returns-clause-ok
returns-clause-ok g c = lines-end (bytes_of c.args.outputs.now) g.F.Named.name c.args.out.now c.loop-file.out c.args.files.now c.loop-file.file-index c.loop-file-test.false c.loop-file.invariant.lines
