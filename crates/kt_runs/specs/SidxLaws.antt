-- The places of sidx.
-- The rule: docs/STREAMS.md, "Records".
use Rattle.std.proofs.Common.{◌≡◌, ℕ, ◌-◌, ◌<◌, Bool, true, false, cond, nat_lt, pos, negsuc, ◌<ℤ◌, refl, sym, ap, arith, ◌∙◌}
use Rattle.std.proofs.lemmas.Bool.{ltb-true, ltb-false}
use Rattle.std.proofs.lemmas.Int.{ints}
use Rattle.kt_runs.specs.Sidx.{place_of, sidx_at}

-- the place of the sidx at a place
pub place_back : (place : ℕ) → place_of (sidx_at place) ≡ place
place_back place = by (nat_lt place 2147483648) refl
  where
    by : (b : Bool) → nat_lt place 2147483648 ≡ b → place_of (cond b (negsuc (2147483647 - place)) (pos (place - 2147483648))) ≡ place
    by true is = let less = ltb-true place 2147483648 is in omega arith
    by false is = let most = ltb-false place 2147483648 is in omega arith

-- one sidx has one place
pub one_place : (place other : ℕ) → sidx_at place ≡ sidx_at other → place ≡ other
one_place place other same = sym (place_back place) ∙ (ap place_of same ∙ place_back other)

-- a later place has a higher sidx
pub sidx_rises : (place later : ℕ) → place < later → sidx_at place <ℤ sidx_at later
sidx_rises place later less = by (nat_lt place 2147483648) (nat_lt later 2147483648) refl refl
  where
    by : (a b : Bool) → nat_lt place 2147483648 ≡ a → nat_lt later 2147483648 ≡ b → cond a (negsuc (2147483647 - place)) (pos (place - 2147483648)) <ℤ cond b (negsuc (2147483647 - later)) (pos (later - 2147483648))
    by true true is also = let low = ltb-true place 2147483648 is in let other = ltb-true later 2147483648 also in omega (arith, ints)
    by true false is also = omega (arith, ints)
    by false true is also = let low = ltb-false place 2147483648 is in let other = ltb-true later 2147483648 also in absurd (omega arith)
    by false false is also = let low = ltb-false place 2147483648 is in let other = ltb-false later 2147483648 also in omega (arith, ints)
