use Rattle.std.proofs.Common.{sym, subst}
use Rattle.std.proofs.lemmas.Result.{IfOk-weaker}
use Rattle.kt_event.specs.Loading.{loads_occurrence}
use Rattle.kt_event.specs.Plan.{terms_of}
use Rattle.kt_chain.specs.Rounds.{IsPart, RoundParts}
use Rattle.kt_chain.specs.TextFolds.{IsTextPart}
use Rattle.kt_block.specs.declared.terms.Terms.{Terms}
use Rattle.kt_files.specs.MadeRows.{AreRowsOf}
use Rattle.kt_fold.specs.declared.part.PartBlock.{PartBlock}
use Rattle.kt_chain.proofs.WorkLemmas.{any_failure}
use Rattle.kt_chain.proofs.work.RoundWorkWork.work.Goals as goal

pub text_part-requires-clause-loaded : goal.text_part-requires-clause-loaded
text_part-requires-clause-loaded g c =
    let plan = c.self.invariant.plan_is in
    loads_occurrence (terms_of c.self.inside.plan.now) c.self.inside.portfolio.now.need plan.need plan.terms

pub text_part-requires-clause-some : goal.text_part-requires-clause-some
text_part-requires-clause-some g c = rw c.terms.ensures c.self.invariant.plan_is.terms.some

pub returns-clause-ok : goal.returns-clause-ok
returns-clause-ok g c =
    let round : RoundParts = record { terms = terms_of c.self.inside.plan.now; rows = c.self.inside.portfolio.now.rows; given = c.self.inside.given.now; batch = c.self.inside.batch } in
    let is : IsPart round c.args.k c.in_ok-part.part = record { is = c.in_ok-part.ensures.value; good = c.in_ok-part.ensures.good } in
    IfOk-weaker c.text_part.result _ _
    (λ text made. subst (λ (seen : RoundParts). IsTextPart seen c.args.k text) c.self.view_is
    (record {
      part = subst (IsPart round c.args.k) (sym made.0) is;
      made = subst (λ (part : PartBlock). AreRowsOf round.terms.samples round.rows part.blocks text.made) (sym made.0)
          (subst (λ (terms : Terms). AreRowsOf terms.samples round.rows c.in_ok-part.part.blocks text.made) c.terms.ensures made.1);
    })) c.text_part.ensures

pub returns-clause-memory : goal.returns-clause-memory
returns-clause-memory g c = any_failure c.text_part.result
