-- Lists in which elements are replaced from the first on.
use Rattle.std.proofs.Common.{◌≡◌, ◌≤◌, ◌+◌, ℕ, List, slice_set, slice_index_or, ◌∙◌, arith}
use Rattle.std.proofs.lemmas.List.{get_or-set_other}

-- the elements behind one that is replaced are as they were
pub lists_left : {X : Type 0} (old lists : List X) (k : ℕ) (now : X) → ((j : ℕ) (d : X) → k ≤ j → slice_index_or lists j d ≡ slice_index_or old j d) → (j : ℕ) (d : X) → k + 1 ≤ j → slice_index_or (slice_set lists k now) j d ≡ slice_index_or old j d
lists_left old lists k now left j d behind = get_or-set_other lists k j now d (λ at. absurd (omega (arith, at, behind))) ∙ left j d (omega (arith, behind))
