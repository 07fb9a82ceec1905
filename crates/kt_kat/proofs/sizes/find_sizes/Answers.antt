use Rattle.std.proofs.Common.{◌≡◌, ◌∙◌, ◌+◌, ℕ, List, [], ◌∷◌, ◌++◌, length, drop, subst, sym, ap, arith}
use Rattle.std.proofs.lemmas.Grind.{common_steps}
use Rattle.std.specs.Prelude.{IfSome}
use Rattle.std.proofs.lemmas.List.{length-append}
use Rattle.kt_out.specs.InputFiles.{InputsState}
use Rattle.kt_kat.specs.Files.{found_file}
use Rattle.kt_kat.specs.Found.{IsFound, TellsRefusal}
use Rattle.kt_kat.proofs.Finding.{FoundSoFar, next_found, next_refused}
use Rattle.kt_kat.proofs.sizes.find_sizes.Goals as goal

pub returns-in-Err-clause-refused : goal.returns-in-Err-clause-refused
returns-in-Err-clause-refused g c =
    next_refused (g.I.Inputs.state c.args.inputs.now).held (drop 1 c.args.words.now) c.args.words.now c.word.result.now c.words.n c.words.sizes.items c.in-Err.stop c.word.ensures.value c.words.invariant.found
    (subst (λ (state : InputsState). IfSome state.held (λ files. TellsRefusal (found_file c.word.result.now (files c.word.result.now)) c.in-Err.stop)) c.words.invariant.inputs c.in-Err.ensures.refused)

pub words-preserved : goal.words-preserved
words-preserved g c =
    let items : c.push.new.self.items ≡ c.words.sizes.items ++ c.in-Ok.size ∷ [] = c.in_default.ensures.items in
    record {
      inputs = c.in-Ok.ensures.counted ∙ c.words.invariant.inputs;
      each = omega (arith, ap length items, length-append c.words.sizes.items (c.in-Ok.size ∷ []), c.words.invariant.each);
      found = subst (λ (sizes : List ℕ). IfSome (g.I.Inputs.state c.args.inputs.now).held (λ files. FoundSoFar files (drop 1 c.args.words.now) (drop (c.words.n + 1) c.args.words.now) sizes)) (sym items)
          (next_found (g.I.Inputs.state c.args.inputs.now).held (drop 1 c.args.words.now) c.args.words.now c.word.result.now c.words.n c.words.sizes.items c.in-Ok.size c.word.ensures.value c.words.invariant.found
          (subst (λ (state : InputsState). IfSome state.held (λ files. IsFound c.word.result.now (files c.word.result.now) c.in-Ok.size)) c.words.invariant.inputs c.in-Ok.ensures.found));
    }

pub words-init : goal.words-init
words-init g c = grind (arith, common_steps)

pub returns : goal.returns
returns g c = grind (arith, common_steps)
