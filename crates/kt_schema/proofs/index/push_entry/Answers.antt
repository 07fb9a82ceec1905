use Rattle.std.proofs.Common.{◌++◌, ◌∙◌, ap, take}
use Rattle.byteorder.specs.Endian.{little_bytes}
use Rattle.kt_cells.specs.Records.{record_bytes}
use Rattle.kt_schema.proofs.IndexLemmas.{text-three}
use Rattle.kt_schema.proofs.index.push_entry.Goals as goal

pub returns : goal.returns
unfolding record_bytes
returns c = record {
  ok = text-three c.args.out.now c.append.new.self c.append-2.new.self c.append-3.new.self (little_bytes 4 c.args.entry.event) (little_bytes 8 c.args.entry.offset) (little_bytes 8 c.args.entry.size)
      (c.in_ok-append.ensures.ok ∙ ap (λ piece. c.args.out.now ++ take 4 piece) c.to_le_bytes.ensures)
      (c.in_ok-append-2.ensures.ok ∙ ap (λ piece. c.append.new.self ++ piece) c.to_le_bytes-2.ensures)
      (c.in_ok-append-3.ensures.ok ∙ ap (λ piece. c.append-2.new.self ++ piece) c.to_le_bytes-3.ensures);
}
