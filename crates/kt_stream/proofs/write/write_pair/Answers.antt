-- The twelve bytes are the fields, and those behind them stay.
use Rattle.std.proofs.Common.{◌≡◌, ℕ, ◌+◌, ◌-◌, List, ◌++◌, take, drop, ap, ◌∙◌, arith}
use Rattle.std.proofs.lemmas.List.{drop-drop}
use Rattle.kt_stream.specs.Pairs.{pair_bytes}
use Rattle.kt_stream.proofs.write.write_pair.Goals as goal

pub returns : goal.returns
unfolding pair_bytes
returns c =
    let at = c.args.at in
    let bytes = c.args.bytes.now in
    let fields : c.copy_from_slice.new.self ≡ pair_bytes c.args.pair.now = rw (c.write_u64.ensures, c.write_u32.ensures, c.word_of.ensures) at c.copy_from_slice.ensures.after in
    record {
      value = ap (λ (fields : List ℕ). take at bytes ++ (fields ++ drop (at + 12 - at) (drop at bytes))) fields
          ∙ ap (λ (rest : List ℕ). take at bytes ++ (pair_bytes c.args.pair.now ++ rest)) (drop-drop (at + 12 - at) at bytes ∙ ap (λ n. drop n bytes) (omega arith));
    }
