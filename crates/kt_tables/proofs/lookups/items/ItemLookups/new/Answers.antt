use Rattle.std.proofs.Common.{◌∙◌, List, ap, nat_eq, subst}
use Rattle.std.specs.List.{filter}
use Rattle.std.specs.List.Sorted.{IsPermutation}
use Rattle.kt_rec.specs.declared.exposure.Item.{Item}
use Rattle.kt_tables.specs.Kept.{AreById, item_key}
use Rattle.kt_tables.specs.Lookups.{item_pairs}
use Rattle.kt_tables.proofs.PairSetLemmas.{pairs_moved}
use Rattle.kt_tables.proofs.lookups.items.ItemLookups.new.Goals as goal

pub returns : goal.returns
returns c =
    let moved = subst (λ (rows : List Item). IsPermutation rows c.in_ok-by_pair.by_pair) c.deref.ensures.value c.in_ok-by_pair.ensures.permutation in
    record {
      value = record {
        by_id = subst (λ (rows : List Item). AreById rows c.in_ok-by_id.field-0) c.deref-2.ensures.value c.in_ok-by_id.ensures.value;
        by_pair = λ key. c.in_ok-by_pair.ensures.kept key ∙ ap (filter (λ row. nat_eq (item_key row) key)) c.deref.ensures.value;
        pairs = c.in_ok-pairs.ensures.value ∙ (ap item_pairs c.as_slice.ensures.value ∙ pairs_moved _ c.in_ok-by_pair.by_pair moved);
      };
    }
