use Rattle.std.proofs.Common.{[]}
use Rattle.std.specs.List.{range_with_len}
use Rattle.std.proofs.lemmas.List.Concat.{flat_map_single}
use Rattle.kt_gen.proofs.GroupLemmas.{two_pieces}
use Rattle.kt_gen.specs.Exposure.{coverage_count}
use Rattle.kt_gen.specs.Financial.{coverage_terms_row, fm_policytc_rows}
use Rattle.kt_gen.proofs.financial.fm_policytc_file.Goals as goal

pub returns : goal.returns
unfolding fm_policytc_rows
returns c =
    let first = rw (c.in_ok-out.ensures, c.coverage_of-coverages.ensures, flat_map_single coverage_terms_row (range_with_len 1 (coverage_count c.args.items))) at c.in_ok-put_plain_groups.ensures in
    let second = rw (c.top_of.ensures, c.coverage_of-coverages.ensures) at c.in_ok-put_plain_groups-2.ensures in
    two_pieces _ [] _ _ _ _ first second
