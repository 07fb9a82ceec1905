use Rattle.std.proofs.Common.{◌≡◌, length}
use Rattle.kt_front.specs.SourceText.{ReadsFront}
use Rattle.kt_front.proofs.text_source.read_plain.Given as goal

abbrev pub invariant-parts : goal.invariant-parts
invariant-parts g l = record {
  front : ReadsFront (g.K.RowSink.takes_to l.kinds) l.kinds l.ordered (g.S.Source.state l.fn.source) (g.S.Source.state l.source) l.fn.sink l.sink l.fn.kept.items l.kept.items l.count l.floor l.most l.left;
  room : length l.block ≡ length l.fn.block;
}

abbrev pub decreases-parts : goal.decreases-parts
decreases-parts g l = l.left
