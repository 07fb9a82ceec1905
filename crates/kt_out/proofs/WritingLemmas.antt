-- A piece that is written in parts.
use Rattle.std.proofs.Common.{◌≡◌, ℕ, ◌+◌, List, ◌++◌, take, drop, Option, None, Some, subst, ap, sym, ◌∙◌, append_assoc}
use Rattle.std.proofs.Math.Seq.{take-add}
use Rattle.kt_out.specs.Writing.{Gains}

-- what is gained behind the front that was gained
pub gains_more : (before between now : Option (List ℕ)) (piece : List ℕ) (done n : ℕ) → Gains before between (take done piece) → Gains between now (take n (drop done piece)) → Gains before now (take (done + n) piece)
gains_more None between now piece done n gained more =
    subst (λ (known : Option (List ℕ)). Gains known now (take n (drop done piece))) gained more
gains_more (Some taken) between now piece done n gained more =
    let added : now ≡ Some ((taken ++ take done piece) ++ take n (drop done piece)) =
    subst (λ (known : Option (List ℕ)). Gains known now (take n (drop done piece))) gained more in
    let joined : (taken ++ take done piece) ++ take n (drop done piece) ≡ taken ++ take (done + n) piece =
    append_assoc taken (take done piece) (take n (drop done piece)) ∙ ap (λ (front : List ℕ). taken ++ front) (sym (take-add done n piece)) in
    added ∙ ap (λ (bytes : List ℕ). Some bytes) joined
