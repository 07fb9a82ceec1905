use Rattle.std.proofs.Common.{List, true, ap, subst, ◌∙◌}
use Rattle.kt_ends.specs.Ending.{StreamToolEnds}
use Rattle.kt_rec.specs.declared.hazard.FootprintIdx.{FootprintIdx}
use Rattle.kt_front.specs.FootprintText.{footprint_text}
use Rattle.kt_front.specs.Converting.{conversion_uses}
use Rattle.kt_front.proofs.footprint.footprint_to_text.Goals as goal

pub returns : goal.returns
returns g c =
    subst (λ (index : List FootprintIdx). StreamToolEnds (conversion_uses true) (λ files bytes. footprint_text index bytes) (g.S.Source.state c.args.source.now) (g.S.Source.state c.write_text.new.source) (g.K.Sink.state c.args.sink.now) (g.K.Sink.state c.write_text.new.sink) c.write_text.result) (c.as_slice-index.ensures.value ∙ ap (λ rows. rows.footprint_idx) c.tables.ensures.value) c.write_text.ensures
