use Rattle.std.proofs.Common.{◌≡◌, ℕ, None, get_or, replicate, refl, ap, ◌∙◌, zero, suc}
use Rattle.kt_claims.proofs.reorder.Reorder.new.Goals as goal

-- a list of nothing holds nothing
nothing : {A : Type 0} (many place : ℕ) (none : A) → get_or (replicate many none) place none ≡ none
nothing zero place none = refl
nothing (suc many) zero none = refl
nothing (suc many) (suc place) none = nothing many place none

pub returns-clause-empty : goal.returns-clause-empty
returns-clause-empty g c number = ap (λ l. get_or l number None) c.loop-place.invariant ∙ nothing c.loop-place._place number None
