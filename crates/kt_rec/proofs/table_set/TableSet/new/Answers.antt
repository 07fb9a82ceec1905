use Rattle.std.proofs.Common.{◌≡◌, ℕ, suc, zero, false, refl, get_or}
use Rattle.std.specs.Prelude.{replicate}
use Rattle.kt_rec.specs.TableSet.{place_of}
use Rattle.kt_rec.proofs.table_set.TableSet.new.Goals as goal

-- a place of a list of one value, or past it
get_or-replicate_same : (n k : ℕ) → get_or (replicate n false) k false ≡ false
get_or-replicate_same zero k = refl
get_or-replicate_same (suc n) zero = refl
get_or-replicate_same (suc n) (suc k) = get_or-replicate_same n k

pub returns-clause-absent : goal.returns-clause-absent
returns-clause-absent c = λ id. get_or-replicate_same 160 (place_of id)
