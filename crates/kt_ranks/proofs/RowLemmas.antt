-- What stands in front while rows are appended.
use Rattle.std.proofs.Common.{◌≡◌, ◌∙◌, ℕ, List, ◌++◌, ap, append_assoc}
use Rattle.kt_stream.specs.Write.{BeginsWith}

-- it stands in front of one row more
pub begins_more : (old now row next : List ℕ) → BeginsWith old now → next ≡ now ++ row → BeginsWith old next
begins_more old now row next begins is = (begins.0 ++ row, is ∙ (ap (λ (text : List ℕ). text ++ row) begins.1 ∙ append_assoc old begins.0 row))
