use Rattle.std.proofs.Common.{◌∙◌, List, ap, arith, map}
use Rattle.std.proofs.lemmas.Result.{IfOk-weaker}
use Rattle.kt_fmtree.specs.Struck.{struck}
use Rattle.kt_rec.specs.Rising.{rising}
use Rattle.kt_structure.specs.Structure.{kept_by}
use Rattle.kt_structure.specs.declared.links.Link.{Link}
use Rattle.kt_structure.proofs.StruckLemmas.{fits-each, struck-found}
use Rattle.kt_structure.proofs.structure.Structure.programme.Goals as goal

pub made-requires : goal.made-requires
made-requires c =
    let has = c.requires.structure in
    let ids = c.args.ids.now in
    let reached = c.in_ok-reached.ensures.value ∙ ap (λ (rows : List Link). rising (map (λ (row : Link). row.unit) rows)) c.deref.ensures.value in
    record {
      fit = record {
        tree = struck has.tree ids;
        fits = struck-found has.tree (kept_by c.args.self.now) has.is ids (fits-each ids (λ i. omega (arith, c.type_inv.ids i))) c.in_ok-rows.rows.items c.in_ok-links.links c.in_ok-rows.ensures.links c.in_ok-links.ensures.kept c.in_ok-rows.ends.items c.in_ok-by_top.by_top c.in_ok-rows.ensures.ends c.in_ok-by_top.ensures.kept c.in_ok-taken.taken.items c.in_ok-reached.reached.items c.in_ok-taken.ensures.value reached;
      };
    }

pub returns : goal.returns
returns c =
    let ids = c.args.ids.now in
    let reached = c.in_ok-reached.ensures.value ∙ ap (λ (rows : List Link). rising (map (λ (row : Link). row.unit) rows)) c.deref.ensures.value in
    record {
      value = IfOk-weaker c.made.result _ _ (λ made fits tree is. fits (struck tree ids) (struck-found tree (kept_by c.args.self.now) is ids (fits-each ids (λ i. omega (arith, c.type_inv.ids i))) c.in_ok-rows.rows.items c.in_ok-links.links c.in_ok-rows.ensures.links c.in_ok-links.ensures.kept c.in_ok-rows.ends.items c.in_ok-by_top.by_top c.in_ok-rows.ensures.ends c.in_ok-by_top.ensures.kept c.in_ok-taken.taken.items c.in_ok-reached.reached.items c.in_ok-taken.ensures.value reached)) c.made.ensures.value;
    }
