use Rattle.kt_chain.proofs.text_fold.TextFoldFoldTextPart.take.Goals as goal

pub returns-in_err-take-clause-fits : goal.returns-in_err-take-clause-fits
returns-in_err-take-clause-fits c = λ other fits. c.take.ensures.fits other.part fits

pub returns-then-is_err-clause-fits : goal.returns-then-is_err-clause-fits
returns-then-is_err-clause-fits c = λ other fits. c.take.ensures.fits other.part fits

pub returns-clause-fits : goal.returns-clause-fits
returns-clause-fits c = λ other fits. c.take.ensures.fits other.part fits
