use Rattle.std.proofs.Common.{List, ℕ, [], ◌∷◌, ◌++◌}
use Rattle.std.specs.Prelude.{map}
use Rattle.std.specs.List.{range_with_len}
use Rattle.kt_cells.specs.Header.{header_bytes}
use Rattle.kt_rec.specs.declared.table.Table.TheVariants.{DamageBinDict}
use Rattle.kt_schema.specs.Tables.{kinds_of}
use Rattle.kt_gen.proofs.GroupLemmas.{two_pieces}
use Rattle.kt_gen.specs.Damage.{damage_bin_row, damage_bin_rows}
use Rattle.kt_gen.proofs.damage.damage_bins_file.Goals as goal

pub returns : goal.returns
unfolding damage_bin_rows
returns c =
    let first : List (List ℕ) = (1 ∷ 0 ∷ 0 ∷ 0 ∷ 1 ∷ []) ∷ [] in
    let tenths = map damage_bin_row (range_with_len 2 10) in
    two_pieces (kinds_of DamageBinDict) (header_bytes 7 0) c.put_plain_groups.new.out c.push_rows-2.new.out (first ++ tenths) ((12 ∷ 1000000 ∷ 1000000 ∷ 1000000 ∷ 1 ∷ []) ∷ [])
    (two_pieces (kinds_of DamageBinDict) (header_bytes 7 0) c.push_rows.new.out c.put_plain_groups.new.out first tenths (rw c.in_ok-out.ensures at c.in_ok-push_rows.ensures) c.in_ok-put_plain_groups.ensures)
    c.in_ok-push_rows-2.ensures
