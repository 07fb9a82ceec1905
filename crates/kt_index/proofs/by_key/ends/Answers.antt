-- The rows up to the greatest key are those below the least, and those found behind them.
use Rattle.std.proofs.Common.{arith, length-drop}
use Rattle.std.proofs.lemmas.List.{take_rest}
use Rattle.kt_index.proofs.PlaceLemmas.{upto_behind}
use Rattle.kt_index.proofs.by_key.ends.Goals as goal

pub returns : goal.returns
returns g c =
    let key = g.T.Keyed.key_of in
    let rows = c.args.rows.now in
    let start = c.rows_below-start.ensures in
    let found = rw take_rest at c.rows_upto-found.ensures in
    record {
      value = record {
        start_within = start.within;
        last_within = omega (arith, start.within, found.within, length-drop c.rows_below-start.result rows);
        below = start.value;
        upto = upto_behind key rows c.args.low c.args.top c.rows_below-start.result c.rows_upto-found.result c.requires.order start.within start.value found.value;
      };
    }
