-- The rows of the key begin where those before it end, and are counted from there.
use Rattle.std.proofs.Common.{◌+◌, ◌∙◌, arith, length-drop}
use Rattle.std.proofs.lemmas.List.{take_rest}
use Rattle.kt_index.specs.KeyEnds.{KeyEnds}
use Rattle.kt_index.proofs.KeyLemmas.{between_is, one_key}
use Rattle.kt_index.proofs.PlaceLemmas.{upto_behind}
use Rattle.kt_index.proofs.by_key.rows_near.Goals as goal

pub returns : goal.returns
returns g c =
    let key = g.T.Keyed.key_of in
    let rows = c.args.rows.now in
    let start = c.start_near-start.ensures in
    let found = rw take_rest at c.rows_in_front.ensures in
    let ends : KeyEnds key rows c.args.key c.args.key c.start_near-start.result (c.start_near-start.result + c.rows_in_front.result) = record {
      start_within = start.within;
      last_within = omega (arith, start.within, found.within, length-drop c.start_near-start.result rows);
      below = start.value;
      upto = upto_behind key rows c.args.key c.args.key c.start_near-start.result c.rows_in_front.result (omega arith) start.within start.value found.value;
    } in
    record { value = c.between.ensures.value ∙ (between_is key rows c.args.key c.args.key _ _ (omega arith) ends ∙ one_key key c.args.key rows) }
