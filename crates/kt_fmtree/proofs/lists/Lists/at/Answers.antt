use Rattle.std.proofs.Common.{◌<◌, ◌∙◌, [], ℕ, ap, length, slice_index_or, sym, subst}
use Rattle.kt_fmtree.specs.Lists.{AreEnds, lists_from}
use Rattle.kt_fmtree.specs.ListLaws.{lists-count}
use Rattle.kt_fmtree.proofs.lists.Lists.at.Goals as goal

pub list_at-requires : goal.list_at-requires
list_at-requires g c =
    let ends = c.as_slice-2.ensures.value in
    record {
      ends = subst (AreEnds 0 (length c.as_slice.result.now)) (sym ends) (subst (λ n. AreEnds 0 n c.self.inside.ends.items) (sym (ap length c.as_slice.ensures.value)) c.self.invariant);
      place = subst (λ (n : ℕ). c.args.place < n) (sym (ap length c.self.view_is) ∙ (lists-count 0 c.self.inside.all.items c.self.inside.ends.items ∙ sym (ap length ends))) c.requires.place;
    }

pub returns : goal.returns
returns g c = record {
  value =
      c.list_at.ensures.value
      ∙ ((λ j. slice_index_or (lists_from 0 (c.as_slice.ensures.value j) (c.as_slice-2.ensures.value j)) c.args.place []) ∙ ap (λ lists. slice_index_or lists c.args.place []) c.self.view_is);
}
